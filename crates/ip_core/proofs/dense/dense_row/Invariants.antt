use Rattle.std.proofs.Common.{◌≡◌, ◌++◌, drop}
use Rattle.ip_core.specs.Dense.{dense_terms}
use Rattle.ip_core.proofs.dense.dense_row.Given as goal

abbrev pub invariant-loop-coef : goal.invariant-loop-coef
invariant-loop-coef l = record {
  place : l.col ≡ l.coef-index;
  terms : l.terms ++ dense_terms l.col (drop l.coef-index l.row.coefs.now) ≡ dense_terms 0 l.row.coefs.now;
}
