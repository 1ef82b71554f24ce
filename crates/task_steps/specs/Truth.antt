-- What makes an answer true, and which histories have an answer.
use Rattle.std.specs.Prelude.{◌≡◌, [], List, Option, Some, None}
use Rattle.ip_core.specs.Truth.{HasNoPoint, IsBest, value_at}
use Rattle.ip_core.specs.declared.model.ModelParts.{ModelParts}
use Rattle.work_stamp.specs.Histories.{FollowInTurn}
use Rattle.work_stamp.specs.declared.stamped.KeyedEntry.{KeyedEntry}
use Rattle.task_steps.specs.Agrees.{MayFollowIn}
use Rattle.task_steps.specs.Answers.{splits_alone}
use Rattle.task_steps.specs.Sound.{IsFound}
use Rattle.task_steps.specs.declared.answer.Answer.{Answer}
use Rattle.task_steps.specs.declared.answer.Best.{Best}
use Rattle.task_steps.specs.declared.answer.Status.{Status}
use Rattle.task_steps.specs.declared.answer.Status.TheVariants.{Optimal, Infeasible, StoreLimit, WorkLimit}

-- a best point of the model, with its value
abbrev pub IsBestFound : ModelParts → Option Best → Type 0
IsBestFound m None = ⊥
IsBestFound m (Some best) = IsBest m best.point × (best.value ≡ value_at m best.point)

-- Optimal has a best point, at Infeasible no point is feasible, and at a limit a point that is
-- there is feasible; each point has its value
abbrev pub IsTrueStatus : ModelParts → Status → Option Best → Type 0
IsTrueStatus m Optimal best = IsBestFound m best
IsTrueStatus m Infeasible best = HasNoPoint m × (best ≡ None)
IsTrueStatus m StoreLimit best = IsFound m best
IsTrueStatus m WorkLimit best = IsFound m best

-- the answer is true of the model
pub record IsTrueAnswer (m : ModelParts) (answer : Answer) : Type 0 where
  pub told : IsTrueStatus m answer.status answer.best

-- each entry may follow those before it, whatever the settings
pub record IsHistory (m : ModelParts) (history : List KeyedEntry) : Type 0 where
  pub follow : FollowInTurn (MayFollowIn m splits_alone) [] history
