-- The records of a search worked out by hand.
use Rattle.std.proofs.Common.{◌≡◌, [], ◌∷◌, pos, true, Some, None, refl}
use Rattle.ip_core.specs.declared.leaf.Closing.TheVariants.{Conflict}
use Rattle.ip_core.specs.declared.leaf.Leaf.{Leaf}
use Rattle.ip_core.specs.declared.row_ref.RowRef.TheVariants.{Model}
use Rattle.work_stamp.specs.declared.entry.Entry.TheVariants.{Start, Split, Closed, Done}
use Rattle.leaf_truth.specs.Laws.{leaf_of}
use Rattle.leaf_truth.specs.Leaves.{leaf_reason}
use Rattle.leaf_truth.specs.declared.reason.LeafReason.TheVariants.{BadConflict}
use Rattle.node_pool.specs.Branchings.{box_of}
use Rattle.node_pool.specs.Views.{View, view_of}
use Rattle.task_steps.specs.Answers.{splits_alone}
use Rattle.task_steps.proofs.WorkedRows.{odd}
use Rattle.task_steps.proofs.WorkedRuns.{by}

-- 2x + 2y + 2z = 3 in 0 to 1: the view after the root is split and both children are closed
abbrev last_view : View
last_view = view_of odd splits_alone (by 0 (Start 0) ∷ by 217 (Split 0 0 (pos 0) 4 0 (pos 0))
    ∷ by 225 (Closed 4) ∷ by 225 Done ∷ by 225 (Start 5) ∷ by 240 (Closed 5) ∷ by 240 Done ∷ [])

-- what the slot kept of the first child
abbrev low_leaf : Leaf
low_leaf = leaf_of (record { row = Model 0; col = 1; low = true }
    ∷ record { row = Model 0; col = 2; low = true } ∷ []) (Conflict (Model 1))

-- any point would be worth finding, for none was found
pub last_cutoff : last_view.cutoff ≡ pos 1
last_cutoff = refl

-- the leaf holds on the first child's box
pub low_leaf_holds : leaf_reason odd last_view.cuts last_view.cutoff
    (box_of odd.root last_view.branches 4) low_leaf ≡ None
low_leaf_holds = refl

-- but not on that of the root, nor on the other child's
pub root_leaf_fails : leaf_reason odd last_view.cuts last_view.cutoff
    (box_of odd.root last_view.branches 0) low_leaf ≡ Some BadConflict
root_leaf_fails = refl

pub high_leaf_fails : leaf_reason odd last_view.cuts last_view.cutoff
    (box_of odd.root last_view.branches 5) low_leaf ≡ Some BadConflict
high_leaf_fails = refl
