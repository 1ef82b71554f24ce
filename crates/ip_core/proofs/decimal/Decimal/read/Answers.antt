use Rattle.ip_core.proofs.DecimalParts.{are_parts}
use Rattle.ip_core.proofs.decimal.Decimal.read.Goals as goal

pub decimal_of-requires-clause-parts : goal.decimal_of-requires-clause-parts
decimal_of-requires-clause-parts c = rw c.numeral_of.ensures (are_parts c.args.bytes.now)
