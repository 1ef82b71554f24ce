use Rattle.std.proofs.Common.{◌≡◌, ◌++◌, drop}
use Rattle.entry_text.specs.Fields.{number_fields}
use Rattle.entry_text.proofs.field.append_numbers.Given as goal

abbrev pub invariant-loop-number : goal.invariant-loop-number
invariant-loop-number l = l.text ++ number_fields (drop l.number-index l.numbers) ≡ l.initial.text ++ number_fields l.numbers
