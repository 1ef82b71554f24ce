use Rattle.std.proofs.Common.{FitsSigned, w64, le_trans}
use Rattle.std.proofs.lemmas.Int.{to_z-of_z}
use Rattle.ip_core.proofs.BoxParts.{greatest_part_small}
use Rattle.row_propagate.proofs.visiting.left_of.Goals as goal

pub difference-requires-clause-first : goal.difference-requires-clause-first
difference-requires-clause-first c =
    let fits : FitsSigned w64 c.greatest_part.result = record { sfits = c.greatest_part.type_inv } in
    rw (to_z-of_z w64 c.greatest_part.result fits, c.greatest_part.ensures) (le_trans (greatest_part_small c.args.bounds.now c.args.term.now) c.requires.narrow)
