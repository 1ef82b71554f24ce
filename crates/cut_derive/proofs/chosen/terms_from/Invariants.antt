use Rattle.std.proofs.Common.{◌≡◌, ◌≤◌, ℕ, true, drop}
use Rattle.ip_core.specs.Rows.{coefficient}
use Rattle.cut_derive.specs.Covers.{rise_from}
use Rattle.cut_derive.proofs.Fronts.{cols_of}
use Rattle.cut_derive.proofs.chosen.terms_from.Given as goal

abbrev pub invariant-loop-at : goal.invariant-loop-at
invariant-loop-at l = record {
  rising : rise_from 0 (cols_of (drop l.at l.terms)) ≡ true;
  same : (c : ℕ) → l.col ≤ c → coefficient c (drop l.at l.terms) ≡ coefficient c l.terms;
}
