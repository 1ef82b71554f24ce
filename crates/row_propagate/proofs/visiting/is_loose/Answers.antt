use Rattle.std.proofs.Common.{le_trans}
use Rattle.ip_core.proofs.BoxParts.{low_product_small, high_product_small}
use Rattle.row_propagate.proofs.visiting.is_loose.Goals as goal

pub product-low-requires-clause-narrow : goal.product-low-requires-clause-narrow
product-low-requires-clause-narrow c = rw c.lows.ensures.value (le_trans (low_product_small c.args.bounds.now c.args.term.now) c.requires.narrow)

pub product-high-requires-clause-narrow : goal.product-high-requires-clause-narrow
product-high-requires-clause-narrow c = rw c.highs.ensures.value (le_trans (high_product_small c.args.bounds.now c.args.term.now) c.requires.narrow)
