-- Whether a history agrees with the slots.
use Rattle.std.specs.Prelude.{ℕ, List, get_or, Option, Some, None}
use Rattle.ip_core.specs.declared.model.ModelParts.{ModelParts}
use Rattle.work_stamp.specs.Taskers.{Standing}
use Rattle.work_stamp.specs.declared.entry.Entry.{Entry}
use Rattle.work_stamp.specs.declared.stamped.KeyedEntry.{KeyedEntry}
use Rattle.node_pool.specs.Follows.{MayFollow}
use Rattle.node_pool.specs.Views.{view_of}
use Rattle.node_pool.specs.declared.settings.SearchSettings.{SearchSettings}
use Rattle.task_steps.specs.Answers.{best_found}
use Rattle.task_steps.specs.Claims.{Claim, IsReady, Meets}
use Rattle.task_steps.specs.declared.local.Local.{Local}

-- an entry may follow a history of the model's search
abbrev pub MayFollowIn : ModelParts → SearchSettings → List KeyedEntry → Entry → Type 0
MayFollowIn m settings history e = MayFollow m (view_of m settings history) e

-- a slot stands at its claim once what is pending has joined; of a slot that has ended nothing is
-- said
abbrev pub Stands : ModelParts → ℕ → Claim → Option (Standing Local) → Type 0
Stands m slot c None = Unit {0}
Stands m slot c (Some s) = IsReady m slot c s.pending s.local

-- the history meets a claim of each slot, and each slot stands at its claim
pub record Agrees (m : ModelParts) (settings : SearchSettings) (history : List KeyedEntry)
    (slots : List (Option (Standing Local))) : Type 0 where
  pub claims : ℕ → Claim
  pub meets : Meets m (view_of m settings history) (best_found history) claims
  pub ready : (slot : ℕ) → Stands m slot (claims slot) (get_or slots slot None)
