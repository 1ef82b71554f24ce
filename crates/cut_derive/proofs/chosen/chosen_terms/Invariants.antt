use Rattle.std.proofs.Common.{◌≡◌, ◌≤◌, ◌<◌, length, get_or, ℕ, true, take}
use Rattle.ip_core.specs.Rows.{coefficient}
use Rattle.cut_derive.specs.Covers.{rise_from}
use Rattle.cut_derive.specs.Chosen.{chosen_terms}
use Rattle.cut_derive.proofs.Fronts.{cols_of}
use Rattle.cut_derive.proofs.chosen.chosen_terms.Given as goal

abbrev pub invariant-loop-col : goal.invariant-loop-col
invariant-loop-col l = record {
  chosen : l.chosen ≡ chosen_terms l.fn.terms (take l.col-index l.cols);
  rising : rise_from 0 (cols_of l.rest) ≡ true;
  same : (k : ℕ) → l.col-index ≤ k → k < length l.cols → coefficient (get_or l.cols k 0) l.rest ≡ coefficient (get_or l.cols k 0) l.fn.terms;
}
