use Rattle.std.proofs.Common.{◌≡◌, ◌≤◌, ◌*◌, ◌^◌, take, sum_by}
use Rattle.ip_core.specs.Rows.{term_width}
use Rattle.width_admit.specs.Held.{held_terms}
use Rattle.width_admit.specs.Gathered.{exact}
use Rattle.width_admit.proofs.rows.terms_width.Given as goal

abbrev pub invariant-loop-term : goal.invariant-loop-term
invariant-loop-term l = record {
  summed : l.width ≡ sum_by (term_width l.root) (held_terms l.exponent (exact (take l.term-index l.terms)));
  small : l.width ≤ l.term-index * 2 ^ 83;
}
