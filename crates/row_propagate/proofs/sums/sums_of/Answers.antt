use Rattle.std.proofs.Common.{[]}
use Rattle.row_propagate.proofs.Summing.{sums_none}
use Rattle.row_propagate.proofs.sums.sums_of.Goals as goal

pub returns : goal.returns
returns c = c.in_ok-add_sums-2.ensures c.args.rows.now (c.in_ok-add_sums.ensures [] (sums_none c.args.bounds.now c.new-sums.result c.new-sums.ensures))
