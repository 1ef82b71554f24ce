use Rattle.std.proofs.Common.{◌≡◌, ◌++◌, drop}
use Rattle.log_text.specs.Logs.{end_lines}
use Rattle.log_text.proofs.log.append_ends.Given as goal

abbrev pub invariant-loop-slot : goal.invariant-loop-slot
invariant-loop-slot l = l.text ++ end_lines l.slot (drop l.slot l.ends) ≡ l.initial.text ++ end_lines 0 l.ends
