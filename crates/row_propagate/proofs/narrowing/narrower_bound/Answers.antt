use Rattle.std.proofs.Common.{le_trans}
use Rattle.row_propagate.proofs.Parts.{coefficients_small}
use Rattle.row_propagate.proofs.narrowing.narrower_bound.Goals as goal

pub coefficient-coef-requires : goal.coefficient-coef-requires
coefficient-coef-requires c = record { narrow = rw c.as_slice.ensures (le_trans (coefficients_small c.args.bounds.now c.args.row.now) c.requires.ready.narrow) }
