use Rattle.std.proofs.Common.{◌≡◌, ◌≤◌, min, drop}
use Rattle.ip_core.specs.Decimals.{decimal}
use Rattle.ip_core.specs.declared.decimal.TheConstants.{EXPONENT_CAP}
use Rattle.ip_core.proofs.decimal.capped_number.Given as goal

abbrev pub invariant-loop-digit : goal.invariant-loop-digit
invariant-loop-digit l = record {
  rest : min (decimal l.number (drop l.digit-index l.digits)) EXPONENT_CAP ≡ min (decimal 0 l.digits) EXPONENT_CAP;
  small : l.number ≤ EXPONENT_CAP;
}
