use Rattle.std.proofs.Common.{◌≡◌, true}
use Rattle.cert_check.specs.Verdicts.{all_below, is_between}
use Rattle.cert_check.proofs.lines.is_inside.Given as goal

abbrev pub invariant-loop-j : goal.invariant-loop-j
invariant-loop-j l = all_below l.j (is_between l.root l.values) ≡ true
