use Rattle.std.proofs.Common.{◌≡◌, ◌++◌, drop}
use Rattle.entry_text.specs.Fields.{pair_fields}
use Rattle.entry_text.proofs.field.append_pairs.Given as goal

abbrev pub invariant-loop-pair : goal.invariant-loop-pair
invariant-loop-pair l = l.text ++ pair_fields (drop l.pair-index l.pairs) ≡ l.initial.text ++ pair_fields l.pairs
