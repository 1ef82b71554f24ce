-- Dives worked out by hand.
use Rattle.std.proofs.Common.{◌≡◌, [], ◌∷◌, None, Some, pos, true, false, refl}
use Rattle.ip_core.specs.declared.leaf.Closing.TheVariants.{Conflict}
use Rattle.ip_core.specs.declared.row_ref.RowRef.TheVariants.{Model}
use Rattle.work_stamp.specs.declared.entry.Entry.TheVariants.{Start, HeurStart, Found, Split, Closed, Done}
use Rattle.stamp_machine.specs.Machine.{as_history, moves}
use Rattle.task_steps.specs.DiveTasks.{dive_chunk}
use Rattle.task_steps.specs.Rules.{rules}
use Rattle.task_steps.proofs.WorkedRows.{free, odd, record_of, unit}
use Rattle.task_steps.proofs.WorkedRuns.{by}

-- the least of x in 0 to 1: one pass and twelve rounds, whose ends are a point that is found; the
-- dive goes on towards it, with its value as cutoff
pub first_chunk : dive_chunk free [] (record { bounds = unit; cutoff = pos 2; point = None })
    ≡ record {
      entries = Found (pos 0) (pos 0 ∷ []) ∷ [];
      work = 14;
      task = Some (record { bounds = unit; cutoff = pos 0; point = Some (pos 0 ∷ []) });
    }
unfolding Rattle.row_propagate.specs.Passes.after_passes Rattle.dual_ascent.specs.Ascents.ascent
    Rattle.dual_ascent.specs.Climbs.after_rounds Rattle.dual_ascent.specs.Climbs.after_round
    Rattle.dual_ascent.specs.Climbs.after_rows Rattle.safe_bound.specs.Bounds.numerator
    Rattle.safe_bound.specs.Bounds.reduced_cost
first_chunk = refl

-- then x is fixed at 0 and one pass leaves it there: the point isn't below the cutoff, and the dive
-- ends
pub last_chunk : dive_chunk free []
    (record { bounds = unit; cutoff = pos 0; point = Some (pos 0 ∷ []) })
    ≡ record { entries = Done ∷ []; work = 2; task = None }
unfolding Rattle.row_propagate.specs.Passes.after_passes
last_chunk = refl

-- below a cutoff of 2 it is found
pub found_last : dive_chunk free []
    (record { bounds = unit; cutoff = pos 2; point = Some (pos 0 ∷ []) })
    ≡ record { entries = Found (pos 0) (pos 0 ∷ []) ∷ Done ∷ []; work = 2; task = None }
unfolding Rattle.row_propagate.specs.Passes.after_passes
found_last = refl

-- 2x + 2y + 2z = 3 in 0 to 1 on one slot: a dive from the second child comes before the child is
-- taken, and two passes end it
pub odd_run : as_history
    (moves (rules odd (record { cuts = false; heuristics = true }))
    (record { slots = 1; work = 200000000; store = 4194304 }) 6) ≡ record {
      entries = by 0 (Start 0) ∷ by 217 (Split 0 0 (pos 0) 4 0 (pos 0)) ∷ by 225
          (Closed 4) ∷ by 225 Done ∷ by 225 (HeurStart 5) ∷ by 240 Done ∷ by 240
          (Start 5) ∷ by 255 (Closed 5) ∷ by 255 Done ∷ [];
      records = (record_of 4
          (record { row = Model 0; col = 1; low = true }
          ∷ record { row = Model 0; col = 2; low = true } ∷ []) (Conflict (Model 1))
          ∷ record_of 5
          (record { row = Model 1; col = 1; low = false }
          ∷ record { row = Model 1; col = 2; low = false } ∷ []) (Conflict (Model 0)) ∷ []) ∷ [];
      ends = 255 ∷ [];
    }
unfolding moves Rattle.row_propagate.specs.Passes.after_passes
    Rattle.dual_ascent.specs.Ascents.ascent Rattle.dual_ascent.specs.Climbs.after_rounds
    Rattle.dual_ascent.specs.Climbs.after_round Rattle.dual_ascent.specs.Climbs.after_rows
    Rattle.safe_bound.specs.Bounds.numerator Rattle.safe_bound.specs.Bounds.reduced_cost
odd_run = refl
