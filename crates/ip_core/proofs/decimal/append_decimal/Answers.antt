use Rattle.std.proofs.Common.{rules}
use Rattle.ip_core.proofs.DecimalDigits.{zero_below}
use Rattle.ip_core.proofs.decimal.append_decimal.Goals as goal

pub nonzero_div-whole : goal.nonzero_div-whole
nonzero_div-whole c = search (rules, c.pow.ensures, zero_below c.args.decimals)
