-- A search worked out by hand, on one slot.
use Rattle.std.proofs.Common.{◌≡◌, ℕ, [], ◌∷◌, pos, true, false, refl}
use Rattle.ip_core.specs.declared.leaf.Closing.TheVariants.{Conflict, Bound}
use Rattle.ip_core.specs.declared.row_ref.RowRef.TheVariants.{Model}
use Rattle.work_stamp.specs.Histories.{keyed_entry}
use Rattle.work_stamp.specs.declared.entry.Entry.{Entry}
use Rattle.work_stamp.specs.declared.entry.Entry.TheVariants.{Start, Found, Split, Closed, Done}
use Rattle.work_stamp.specs.declared.stamped.KeyedEntry.{KeyedEntry}
use Rattle.stamp_machine.specs.Machine.{as_history, moves}
use Rattle.stamp_machine.specs.declared.history.History.{History}
use Rattle.ip_core.specs.declared.model.ModelParts.{ModelParts}
use Rattle.task_steps.specs.Rules.{rules}
use Rattle.task_steps.proofs.WorkedRows.{free, odd, record_of}

abbrev pub by : ℕ → Entry → KeyedEntry
by stamp e = keyed_entry (record { stamp = stamp; slot = 0 }) e

-- the history after so many moves of one slot, with no cuts and no dives
abbrev after : ℕ → ModelParts → History
after n m = as_history
    (moves (rules m (record { cuts = false; heuristics = false }))
    (record { slots = 1; work = 200000000; store = 4194304 }) n)

-- the least of x in 0 to 1
pub free_run : after 4 free ≡ record {
  entries = by 0 (Start 0) ∷ by 14 (Found (pos 0) (pos 0 ∷ [])) ∷ by 14
      (Closed 0) ∷ by 14 Done ∷ [];
  records = (record_of 0 [] (Bound []) ∷ []) ∷ [];
  ends = 14 ∷ [];
}
unfolding moves Rattle.row_propagate.specs.Passes.after_passes
    Rattle.dual_ascent.specs.Ascents.ascent Rattle.dual_ascent.specs.Climbs.after_rounds
    Rattle.dual_ascent.specs.Climbs.after_round Rattle.dual_ascent.specs.Climbs.after_rows
    Rattle.safe_bound.specs.Bounds.numerator Rattle.safe_bound.specs.Bounds.reduced_cost
free_run = refl

-- 2x + 2y + 2z = 3 in 0 to 1: the root is split, and both children are closed by their passes
pub odd_run : after 5 odd ≡ record {
  entries = by 0 (Start 0) ∷ by 217 (Split 0 0 (pos 0) 4 0 (pos 0)) ∷ by 225
      (Closed 4) ∷ by 225 Done ∷ by 225 (Start 5) ∷ by 240 (Closed 5) ∷ by 240 Done ∷ [];
  records = (record_of 4
      (record { row = Model 0; col = 1; low = true } ∷ record { row = Model 0; col = 2; low = true }
      ∷ []) (Conflict (Model 1))
      ∷ record_of 5
      (record { row = Model 1; col = 1; low = false }
      ∷ record { row = Model 1; col = 2; low = false } ∷ []) (Conflict (Model 0)) ∷ []) ∷ [];
  ends = 240 ∷ [];
}
unfolding moves Rattle.row_propagate.specs.Passes.after_passes
    Rattle.dual_ascent.specs.Ascents.ascent Rattle.dual_ascent.specs.Climbs.after_rounds
    Rattle.dual_ascent.specs.Climbs.after_round Rattle.dual_ascent.specs.Climbs.after_rows
    Rattle.safe_bound.specs.Bounds.numerator Rattle.safe_bound.specs.Bounds.reduced_cost
odd_run = refl
