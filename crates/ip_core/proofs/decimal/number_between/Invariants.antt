use Rattle.std.proofs.Common.{◌≡◌, ◌<◌, ◌-◌, ◌^◌, ◌++◌, drop, take}
use Rattle.ip_core.specs.Decimals.{decimal}
use Rattle.ip_core.proofs.decimal.number_between.Given as goal

abbrev pub invariant-loop-place : goal.invariant-loop-place
invariant-loop-place l = record {
  rest : decimal l.number (drop l.place (take l.to (l.whole ++ l.fraction))) ≡ decimal 0 (drop l.from (take l.to (l.whole ++ l.fraction)));
  small : l.number < 10 ^ (l.place - l.from);
}
