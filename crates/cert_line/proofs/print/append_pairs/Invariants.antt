use Rattle.std.proofs.Common.{◌≡◌, ◌++◌, drop}
use Rattle.entry_text.specs.Fields.{pair_fields}
use Rattle.cert_line.proofs.print.append_pairs.Given as goal

abbrev pub invariant-loop-pair : goal.invariant-loop-pair
invariant-loop-pair l = l.text ++ pair_fields (drop l.pair-index l.pairs) ≡ l.fn.text ++ pair_fields l.pairs
