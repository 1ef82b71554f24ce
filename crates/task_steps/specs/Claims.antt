-- What each slot may count on, whatever the others do, and when its pending entries are due.
use Rattle.std.specs.Prelude.{ℕ, ◌≡◌, ◌≤◌, ◌<◌, ◌+◌, ◌^◌, Bool, true, false, nat_eq, if◌then◌else◌, ℤ, ◌≤ℤ◌, List, [], ◌∷◌, Option, Some, None, length, Ok}
use Rattle.ip_core.specs.Sides.{Sides}
use Rattle.ip_core.specs.declared.model.ModelParts.{ModelParts}
use Rattle.ip_core.specs.declared.row.Row.{Row}
use Rattle.ip_core.specs.declared.derivation.Derivation.{Derivation}
use Rattle.search_truth.specs.Boxes.{IsClosed, low_child, high_child}
use Rattle.cut_derive.specs.Derivations.{derived_row}
use Rattle.cut_derive.specs.declared.limits.TheConstants.{MAX_CUTS}
use Rattle.node_pool.specs.Branchings.{box_of}
use Rattle.node_pool.specs.Follows.{IsHeld, IsSplitPoint, IsValued}
use Rattle.node_pool.specs.Laws.{HasCutsOf}
use Rattle.node_pool.specs.Views.{View, is_known, with_row}
use Rattle.node_pool.specs.declared.node.OpenNode.{OpenNode}
use Rattle.work_stamp.specs.declared.entry.Entry.{Entry}
use Rattle.work_stamp.specs.declared.entry.Entry.TheVariants.{Start, CutStart, HeurStart, Done, Found, Cut, Split, Closed, Halt}
use Rattle.task_steps.specs.Fits.{FitsLocal, FitsView}
use Rattle.task_steps.specs.Keeps.{keep_of}
use Rattle.task_steps.specs.Sound.{IsSound}
use Rattle.task_steps.specs.Tasks.{child_name, next_ordinal}
use Rattle.task_steps.specs.declared.answer.Best.{Best}
use Rattle.task_steps.specs.declared.keep.Keep.{Keep}
use Rattle.task_steps.specs.declared.keep.Keep.TheVariants.{Low, High, Neither}
use Rattle.task_steps.specs.declared.local.Local.{Local}
use Rattle.task_steps.specs.declared.local.NodeTask.{NodeTask}
use Rattle.task_steps.specs.declared.local.Task.{Task}
use Rattle.task_steps.specs.declared.local.Task.TheVariants.{Nodes, Cuts, Dive}

-- a node with its box
pub record Held : Type 0 where
  pub name : ℕ
  pub bounds : Sides

-- A slot's claim on the history: the node that it holds, a value that is not below the cutoff, how
-- many of its splits have joined, cuts that stand before all others, and whether it adds the next.
pub record Claim : Type 0 where
  pub hold : Option Held
  pub cutoff : ℤ
  pub splits : ℕ
  pub cuts : List Row
  pub adds : Bool

-- the claims of all slots, where one of them is replaced
abbrev pub claims_with : (ℕ → Claim) → ℕ → Claim → ℕ → Claim
claims_with claims slot c j = if nat_eq j slot then c else claims j

-- a node is among the held ones, and has this box
pub record HasHeld (m : ModelParts) (v : View) (node : Held) : Type 0 where
  pub held : IsHeld v node.name
  pub boxed : box_of m.root v.branches node.name ≡ node.bounds

-- the same of the node that a claim holds, if there is one
abbrev pub HasHold : ModelParts → View → Option Held → Type 0
HasHold m v None = Unit {0}
HasHold m v (Some node) = HasHeld m v node

-- what a history of this view owes a slot for its claim: its node stays held, the cutoff only
-- falls, its cuts stay in front, and the names of its further splits stay new. Where it adds cuts,
-- it has all that there are, and a task for cuts has begun.
pub record IsOwed (m : ModelParts) (v : View) (slot : ℕ) (c : Claim) : Type 0 where
  pub held : HasHold m v c.hold
  pub cutoff : v.cutoff ≤ℤ c.cutoff
  pub few : c.splits ≤ v.entries
  pub cuts : HasCutsOf c.cuts v.cuts
  pub alone : c.adds ≡ true → v.cuts ≡ c.cuts
  pub begun : c.adds ≡ true → 1 ≤ v.cut_starts
  pub first_new : (k : ℕ) → c.splits < k → k ≤ 2 ^ 37
      → is_known v (child_name slot k) ≡ false
  pub second_new : (k : ℕ) → c.splits < k → k ≤ 2 ^ 37
      → is_known v (child_name slot k + 1) ≡ false

-- how often a name stands in a list of names, and in one of open nodes
abbrev pub one_if : Bool → ℕ
one_if true = 1
one_if false = 0

abbrev pub count_name : ℕ → List ℕ → ℕ
count_name name [] = 0
count_name name (x ∷ xs) = one_if (nat_eq x name) + count_name name xs

abbrev pub count_open : ℕ → List OpenNode → ℕ
count_open name [] = 0
count_open name (x ∷ xs) = one_if (nat_eq x.name name) + count_open name xs

-- how many nodes that are left have a name
abbrev pub count_left : View → ℕ → ℕ
count_left v name = count_open name v.open_nodes + count_name name v.held_nodes

-- a history of this view and this best point is true of the model and meets all claims: no two
-- nodes that are left have one name, no two slots hold a node of one name, and no two add cuts
pub record Meets (m : ModelParts) (v : View) (best : Option Best) (claims : ℕ → Claim) : Type 0
  where
    pub fits : FitsView m v
    pub sound : IsSound m v best
    pub once : (name : ℕ) → count_left v name ≤ 1
    pub owed : (slot : ℕ) → IsOwed m v slot (claims slot)
    pub apart : (i j : ℕ) (a b : Held) → (claims i).hold ≡ Some a → (claims j).hold ≡ Some b
        → a.name ≡ b.name → i ≡ j
    pub adding : (i j : ℕ) → (claims i).adds ≡ true → (claims j).adds ≡ true → i ≡ j

-- the children of a node that is split
abbrev pub low_held : Held → ℕ → ℤ → ℕ → Held
low_held node col at first = record { name = first; bounds = low_child node.bounds col at }

abbrev pub high_held : Held → ℕ → ℤ → ℕ → Held
high_held node col at first = record { name = first + 1; bounds = high_child node.bounds col at }

-- the child that is kept
abbrev pub child_held : Held → ℕ → ℤ → ℕ → Keep → Option Held
child_held node col at first Low = Some (low_held node col at first)
child_held node col at first High = Some (high_held node col at first)
child_held node col at first Neither = None

-- the same of a held node, if there is one
abbrev pub hold_after_split : Option Held → ℕ → ℤ → ℕ → Keep → Option Held
hold_after_split None col at first keep = None
hold_after_split (Some node) col at first keep = child_held node col at first keep

-- a slot's claim after one of its pending entries has joined
abbrev pub claim_after : ModelParts → Claim → Entry → Claim
claim_after m c (Start node) = c
claim_after m c CutStart = c
claim_after m c (HeurStart node) = c
claim_after m c Done = record c { adds = false }
claim_after m c (Found value point) = record c { cutoff = value }
claim_after m c (Cut derivation) =
    record c { cuts = with_row c.cuts (derived_row m c.cuts derivation) }
claim_after m c (Split node col at first keep bound) =
    record c {
      hold = hold_after_split c.hold col at first (keep_of keep);
      splits = next_ordinal c.splits;
    }
claim_after m c (Closed node) = record c { hold = None }
claim_after m c Halt = c

-- the node that a claim holds, with this name
pub record Holds (c : Claim) (name : ℕ) : Type 0 where
  pub node : Held
  pub is : c.hold ≡ Some node
  pub named : node.name ≡ name

-- the node that is held holds no point below the cutoff
pub record IsDone (m : ModelParts) (c : Claim) (name : ℕ) : Type 0 where
  pub holds : Holds c name
  pub closed : IsClosed m c.cutoff holds.node.bounds

-- the node that is held is split under the slot's next names
pub record IsSplitNow (m : ModelParts) (slot : ℕ) (c : Claim) (name col : ℕ) (at : ℤ)
    (first keep : ℕ) : Type 0 where
  pub holds : Holds c name
  pub cut : IsSplitPoint m col at keep
  pub few_slots : slot < 64
  pub named : first ≡ child_name slot (next_ordinal c.splits)

-- the slot adds cuts, there are fewer than 512, and the derivation gives a row from them
pub record IsCutNow (m : ModelParts) (c : Claim) (derivation : Derivation) : Type 0 where
  pub adds : c.adds ≡ true
  pub few : length c.cuts < MAX_CUTS
  pub row : Row
  pub derived : derived_row m c.cuts derivation ≡ Ok row

-- why a pending entry may join, whatever others have published: only what a chunk gives can wait
abbrev pub IsDue : ModelParts → ℕ → Claim → Entry → Type 0
IsDue m slot c (Start node) = ⊥
IsDue m slot c CutStart = ⊥
IsDue m slot c (HeurStart node) = ⊥
IsDue m slot c Done = Unit {0}
IsDue m slot c (Found value point) = IsValued m value point
IsDue m slot c (Cut derivation) = IsCutNow m c derivation
IsDue m slot c (Split node col at first keep bound) = IsSplitNow m slot c node col at first keep
IsDue m slot c (Closed node) = IsDone m c node
IsDue m slot c Halt = ⊥

-- the node that a claim holds is that of the task, and so is its cutoff
pub record IsOn (c : Claim) (task : NodeTask) : Type 0 where
  pub node : Held
  pub is : c.hold ≡ Some node
  pub named : node.name ≡ task.node
  pub boxed : node.bounds ≡ task.bounds
  pub cutoff : c.cutoff ≡ task.cutoff

-- nothing is held, and the slot adds cuts
pub record IsAdding (c : Claim) : Type 0 where
  pub free : c.hold ≡ None
  pub adds : c.adds ≡ true

-- between tasks and in a dive nothing is held
abbrev pub IsAtTask : Claim → Option Task → Type 0
IsAtTask c None = c.hold ≡ None
IsAtTask c (Some (Nodes task)) = IsOn c task
IsAtTask c (Some (Cuts task)) = IsAdding c
IsAtTask c (Some (Dive task)) = c.hold ≡ None

-- a slot with nothing pending stands at its claim
pub record IsAt (m : ModelParts) (slot : ℕ) (c : Claim) (l : Local) : Type 0 where
  pub fits : FitsLocal m l
  pub own : l.slot ≡ slot
  pub splits : l.splits ≡ c.splits
  pub cuts : l.cuts ≡ c.cuts
  pub task : IsAtTask c l.task

-- each pending entry is due when those before it have joined, and after the last one the slot
-- stands at its claim
abbrev pub IsReady : ModelParts → ℕ → Claim → List Entry → Local → Type 0
IsReady m slot c [] l = IsAt m slot c l
IsReady m slot c (e ∷ es) l = IsDue m slot c e × IsReady m slot (claim_after m c e) es l
