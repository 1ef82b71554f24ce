use Rattle.std.proofs.Common.{◌≡◌, ◌+◌, ◌-◌, ◌≤◌, drop}
use Rattle.stamp_machine.specs.Machine.{word_count}
use Rattle.stamp_machine.proofs.opening.words_with.Given as goal

abbrev pub invariant-loop-entry : goal.invariant-loop-entry
invariant-loop-entry l = record {
  sum : l.total + word_count (drop l.entry-index l.entries) ≡ l.words + word_count l.entries;
  small : l.total ≤ l.limits.store - 4;
}
