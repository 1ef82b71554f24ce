use Rattle.std.proofs.Common.{◌≡◌, ◌<◌, ◌^◌, drop}
use Rattle.ip_core.specs.Decimals.{decimal}
use Rattle.xsearch_words.proofs.number.decimal.Given as goal

abbrev pub invariant-loop-digit : goal.invariant-loop-digit
invariant-loop-digit l = record {
  rest : decimal l.number (drop l.digit-index l.digits) ≡ decimal 0 l.digits;
  small : l.number < 10 ^ l.digit-index;
}
