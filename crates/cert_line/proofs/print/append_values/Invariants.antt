use Rattle.std.proofs.Common.{◌≡◌, ◌++◌, drop}
use Rattle.entry_text.specs.Fields.{signed_fields}
use Rattle.cert_line.proofs.print.append_values.Given as goal

abbrev pub invariant-loop-value : goal.invariant-loop-value
invariant-loop-value l = l.text ++ signed_fields (drop l.value-index l.values) ≡ l.fn.text ++ signed_fields l.values
