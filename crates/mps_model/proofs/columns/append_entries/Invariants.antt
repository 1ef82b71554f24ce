use Rattle.std.proofs.Common.{◌≡◌, ◌++◌, drop}
use Rattle.mps_model.specs.Prints.{entry_lines}
use Rattle.mps_model.proofs.columns.append_entries.Given as goal

abbrev pub invariant-loop-entry : goal.invariant-loop-entry
invariant-loop-entry l = l.text ++ entry_lines l.rows l.col.name (drop l.entry-index l.entry-items) ≡ l.initial.text ++ entry_lines l.rows l.col.name l.entry-items
