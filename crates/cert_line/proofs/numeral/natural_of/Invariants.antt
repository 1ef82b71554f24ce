use Rattle.std.proofs.Common.{◌≡◌, ◌≤◌, drop}
use Rattle.ip_core.specs.Decimals.{decimal}
use Rattle.cert_line.proofs.numeral.natural_of.Given as goal

abbrev pub invariant-loop-digit : goal.invariant-loop-digit
invariant-loop-digit l = record {
  rest : decimal l.number (drop l.digit-index l.word) ≡ decimal 0 l.word;
  small : l.number ≤ l.most;
}
