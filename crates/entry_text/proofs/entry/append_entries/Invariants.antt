use Rattle.std.proofs.Common.{◌≡◌, ◌++◌, drop}
use Rattle.entry_text.specs.Entries.{entry_lines}
use Rattle.entry_text.proofs.entry.append_entries.Given as goal

abbrev pub invariant-loop-entry : goal.invariant-loop-entry
invariant-loop-entry l = l.text ++ entry_lines (drop l.entry-index l.entries) ≡ l.initial.text ++ entry_lines l.entries
