use Rattle.std.proofs.Common.{◌≡◌, ◌∙◌, length, take, drop, ◌+◌, ◌+ℤ◌, ◌^◌, sym, ap, arith}
use Rattle.std.specs.Int.{w128}
use Rattle.ip_core.specs.declared.row.Row.{Row}
use Rattle.ip_core.proofs.IntSums.{unsigned_abs-add_le}
use Rattle.safe_bound.specs.Weights.{weighted_least}
use Rattle.safe_bound.specs.Bounds.{all_rows}
use Rattle.ip_core.proofs.RunningSums.{both_are}
use Rattle.safe_bound.proofs.Sizes.{small_fits}
use Rattle.safe_bound.proofs.Weighted.{weighted_sum-append}
use Rattle.safe_bound.proofs.costs.least.Goals as goal

pub returns-clause-value : goal.returns-clause-value
returns-clause-value c =
    let m = c.args.model.now in
    let first = c.weighted_least.result in
    let second = c.weighted_least-2.result in
    let rows : c.as_slice-rows.result.now ≡ m.rows = c.as_slice-rows.ensures ∙ ap (λ p. p.rows) c.parts.ensures.value in
    let front : c.split_at.result.0.now ≡ take (length m.rows) c.args.mults.now = rw rows at c.split_at.ensures.front in
    let back : c.split_at.result.1.now ≡ drop (length m.rows) c.args.mults.now = rw rows at c.split_at.ensures.back in
    let value : first +ℤ second ≡ weighted_least (all_rows m c.args.cuts.now) c.args.mults.now =
    rw (c.weighted_least.ensures.value, c.weighted_least-2.ensures.value, rows, front, back) (sym (weighted_sum-append (λ (row : Row). row.least) m.rows c.args.cuts.now c.args.mults.now))
    in
    both_are w128 first second _ (record { sfits = c.weighted_least.type_inv }) (record { sfits = c.weighted_least-2.type_inv }) value (rw (← value) (small_fits (first +ℤ second) (2 ^ 121 + 2 ^ 121) (unsigned_abs-add_le first second (2 ^ 121) (2 ^ 121) c.weighted_least.ensures.small c.weighted_least-2.ensures.small) (omega arith)))
