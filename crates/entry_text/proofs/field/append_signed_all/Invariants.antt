use Rattle.std.proofs.Common.{◌≡◌, ◌++◌, drop}
use Rattle.entry_text.specs.Fields.{signed_fields}
use Rattle.entry_text.proofs.field.append_signed_all.Given as goal

abbrev pub invariant-loop-number : goal.invariant-loop-number
invariant-loop-number l = l.text ++ signed_fields (drop l.number-index l.numbers) ≡ l.initial.text ++ signed_fields l.numbers
