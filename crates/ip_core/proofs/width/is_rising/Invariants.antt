use Rattle.std.proofs.Common.{ℕ, ◌<◌, ◌+◌, map, get_or}
use Rattle.ip_core.specs.declared.row.Term.{Term}
use Rattle.ip_core.proofs.width.is_rising.Given as goal

abbrev pub invariant-loop-i : goal.invariant-loop-i
invariant-loop-i l =
    let cols = map (λ (t : Term). t.col) l.terms in
    (k : ℕ) → k + 1 < l.i → get_or cols k 0 < get_or cols (k + 1) 0
