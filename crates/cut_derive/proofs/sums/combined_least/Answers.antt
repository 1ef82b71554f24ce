use Rattle.std.proofs.Common.{◌≡◌, ◌∙◌, ◌+◌, ◌^◌, get_or, pos, ℤ, ◌*ℤ◌, FitsSigned, w64, rules, ap, arith}
use Rattle.std.proofs.lemmas.Int.{to_z-of_z}
use Rattle.ip_core.specs.declared.leaf.Pair.{Pair}
use Rattle.ip_core.specs.declared.row.Row.{Row}
use Rattle.ip_core.specs.declared.row_ref.RowRef.TheVariants.{Model}
use Rattle.row_propagate.specs.Replay.{row_named}
use Rattle.cut_derive.proofs.Sizes.{wide_by_fits, wide_by_is}
use Rattle.cut_derive.proofs.Summing.{leasts_small}
use Rattle.cut_derive.proofs.sums.combined_least.Goals as goal

abbrev part : goal.After-weighted-sum → Pair → ℤ
part c p = pos p.weight *ℤ (row_named c.args.model.now.rows c.args.cuts.now p.row).least

abbrev none : Pair
none = record { row = Model 0; weight = 0 }

here : (c : goal.After-weighted-sum) → c.weighted-sum.result ≡ part c (get_or c.args.parts.now c.loop-part.part-index none)
here c =
    let p = get_or c.args.parts.now c.loop-part.part-index none in
    let fits : FitsSigned w64 c.known_row-row.result.now.least = search rules in
    (rw (to_z-of_z w64 c.known_row-row.result.now.least fits) at c.weighted-sum.ensures.value) ∙ ap (λ (row : Row). pos p.weight *ℤ row.least) c.known_row-row.ensures.value

pub overflow_add-sum : goal.overflow_add-sum
overflow_add-sum c =
    let small = leasts_small c.args.model.now c.args.cuts.now c.args.parts.now (c.loop-part.part-index + 1) c.parts-limits.ensures.limits c.requires.cuts c.requires.parts in
    wide_by_fits (part c) c.args.parts.now c.loop-part.part-index (2 ^ 98) none _ c.weighted-sum.result small (omega arith) (record { sfits = c.weighted-sum.type_inv }) c.loop-part-test.true c.loop-part.invariant (here c)

pub loop-part-preserved : goal.loop-part-preserved
loop-part-preserved c =
    let small = leasts_small c.args.model.now c.args.cuts.now c.args.parts.now (c.loop-part.part-index + 1) c.parts-limits.ensures.limits c.requires.cuts c.requires.parts in
    wide_by_is (part c) c.args.parts.now c.loop-part.part-index (2 ^ 98) none _ c.weighted-sum.result small (omega arith) (record { sfits = c.weighted-sum.type_inv }) c.loop-part-test.true c.loop-part.invariant (here c)
