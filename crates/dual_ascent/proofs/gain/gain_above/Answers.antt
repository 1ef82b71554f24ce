use Rattle.std.proofs.Common.{◌≡◌, ◌∙◌, ◌+◌, ◌*◌, ◌^◌, ◌<◌, ◌≤◌, ℕ, length, get_or, take, ℤ, pos, ◌-ℤ◌, ◌*ℤ◌, ◌≤ℤ◌, ◌<ℤ◌, unsigned_abs, FitsSigned, w64, to_z, of_z, rules, refl, sym, ap, arith}
use Rattle.std.specs.Int.{w128}
use Rattle.std.proofs.lemmas.Int.{to_z-of_z, ints}
use Rattle.std.proofs.lemmas.List.{take_all}
use Rattle.std.proofs.lemmas.List.Sums.{sum_by-take-le}
use Rattle.ip_core.specs.Numbers.{int_at}
use Rattle.ip_core.specs.declared.row.Term.{Term}
use Rattle.dual_ascent.specs.Ends.{loss, term_loss}
use Rattle.dual_ascent.proofs.GainSums.{step_is, step_cost, step_product, step_left, step_stays, left_form, left_small, rest_fits, rest_is, gain_whole, gain_under, test_under, test_over}
use Rattle.dual_ascent.proofs.gain.gain_above.Goals.{then-turns+else-left-floor-2, else-turns}
use Rattle.dual_ascent.proofs.gain.gain_above.Goals as goal

pub times-left-requires-clause-cost : goal.times-left-requires-clause-cost
times-left-requires-clause-cost c =
    let none : Term = record { col = 0; coef = pos 0 } in
    let t : Term = get_or c.args.terms.now c.loop-term.term-index none in
    let known : t.col < length c.args.costs.now = (c.requires.terms.known.each c.loop-term.term-index none c.loop-term-test.true).known in
    let coef_fits : FitsSigned w64 t.coef = search rules in
    let step = step_is c.args.costs.now c.args.by t c.fallen-new.result c.turns.result known c.requires.costs c.requires.small c.ranges.by coef_fits (record { sfits = c.fallen-new.type_inv }) c.fallen-new.ensures c.turns.ensures in
    step_cost c.args.costs.now c.args.by t c.fallen-new.result c.turns.result step

pub times-left-requires-clause-product : goal.times-left-requires-clause-product
times-left-requires-clause-product c =
    let none : Term = record { col = 0; coef = pos 0 } in
    let t : Term = get_or c.args.terms.now c.loop-term.term-index none in
    let known : t.col < length c.args.costs.now = (c.requires.terms.known.each c.loop-term.term-index none c.loop-term-test.true).known in
    let coef_fits : FitsSigned w64 t.coef = search rules in
    let step = step_is c.args.costs.now c.args.by t c.fallen-new.result c.turns.result known c.requires.costs c.requires.small c.ranges.by coef_fits (record { sfits = c.fallen-new.type_inv }) c.fallen-new.ensures c.turns.ensures in
    step_product c.args.costs.now c.args.widths.now c.args.by c.args.terms.now c.loop-term.term-index none c.fallen-new.result c.turns.result c.loop-term-test.true step c.if-turns.true c.requires.loss

pub overflow_sub-left : goal.overflow_sub-left
overflow_sub-left c =
    let none : Term = record { col = 0; coef = pos 0 } in
    let t : Term = get_or c.args.terms.now c.loop-term.term-index none in
    let known : t.col < length c.args.costs.now = (c.requires.terms.known.each c.loop-term.term-index none c.loop-term-test.true).known in
    let coef_fits : FitsSigned w64 t.coef = search rules in
    let step = step_is c.args.costs.now c.args.by t c.fallen-new.result c.turns.result known c.requires.costs c.requires.small c.ranges.by coef_fits (record { sfits = c.fallen-new.type_inv }) c.fallen-new.ensures c.turns.ensures in
    let next = step_left c.args.costs.now c.args.widths.now c.args.by c.args.lack c.args.terms.now c.loop-term.term-index none c.fallen-new.result c.times-left.result (to_z w128 c.loop-term.left-bits) c.turns.result c.loop-term-test.true step c.if-turns.true c.ranges.by c.ranges.lack c.times-left.ensures c.loop-term.invariant.left in
    rest_fits (to_z w128 c.loop-term.left-bits) c.times-left.result _ (record { sfits = c.times-left.type_inv }) next (left_small (int_at c.args.costs.now) (λ j. get_or c.args.widths.now j 0) c.args.by c.args.lack c.args.terms.now (c.loop-term.term-index + 1) c.requires.small c.requires.lack c.requires.loss)

pub returns-then-left-floor-2 : goal.returns-then-left-floor-2
returns-then-left-floor-2 c =
    let none : Term = record { col = 0; coef = pos 0 } in
    let t : Term = get_or c.args.terms.now c.loop-term.term-index none in
    let known : t.col < length c.args.costs.now = (c.requires.terms.known.each c.loop-term.term-index none c.loop-term-test.true).known in
    let coef_fits : FitsSigned w64 t.coef = search rules in
    let step = step_is c.args.costs.now c.args.by t c.fallen-new.result c.turns.result known c.requires.costs c.requires.small c.ranges.by coef_fits (record { sfits = c.fallen-new.type_inv }) c.fallen-new.ensures c.turns.ensures in
    let next = step_left c.args.costs.now c.args.widths.now c.args.by c.args.lack c.args.terms.now c.loop-term.term-index none c.fallen-new.result c.times-left.result (to_z w128 c.loop-term.left-bits) c.turns.result c.loop-term-test.true step c.if-turns.true c.ranges.by c.ranges.lack c.times-left.ensures c.loop-term.invariant.left in
    let small = left_small (int_at c.args.costs.now) (λ j. get_or c.args.widths.now j 0) c.args.by c.args.lack c.args.terms.now (c.loop-term.term-index + 1) c.requires.small c.requires.lack c.requires.loss in
    let exact = rest_is (to_z w128 c.loop-term.left-bits) c.times-left.result ((c.args.by *ℤ c.args.lack) -ℤ pos (loss (int_at c.args.costs.now) (λ j. get_or c.args.widths.now j 0) c.args.by (take (c.loop-term.term-index + 1) c.args.terms.now))) (record { sfits = c.times-left.type_inv }) next small in
    let floor = to_z-of_z w128 c.args.floor c.ranges.floor in
    let under = test_under _ _ (rw (exact, floor) at c.if-left-floor-2.true) in
    rw floor (gain_under c.args.floor (c.args.by *ℤ c.args.lack) _ (loss (int_at c.args.costs.now) (λ j. get_or c.args.widths.now j 0) c.args.by (take (c.loop-term.term-index + 1) c.args.terms.now)) (loss (int_at c.args.costs.now) (λ j. get_or c.args.widths.now j 0) c.args.by c.args.terms.now) refl under (sum_by-take-le (term_loss (int_at c.args.costs.now) (λ j. get_or c.args.widths.now j 0) c.args.by) c.args.terms.now (c.loop-term.term-index + 1)))

pub loop-term-preserved : goal.loop-term-preserved
loop-term-preserved c =
    let none : Term = record { col = 0; coef = pos 0 } in
    let t : Term = get_or c.args.terms.now c.loop-term.term-index none in
    let known : t.col < length c.args.costs.now = (c.requires.terms.known.each c.loop-term.term-index none c.loop-term-test.true).known in
    let coef_fits : FitsSigned w64 t.coef = search rules in
    let step = step_is c.args.costs.now c.args.by t c.fallen-new.result c.turns.result known c.requires.costs c.requires.small c.ranges.by coef_fits (record { sfits = c.fallen-new.type_inv }) c.fallen-new.ensures c.turns.ensures in
    let small = left_small (int_at c.args.costs.now) (λ j. get_or c.args.widths.now j 0) c.args.by c.args.lack c.args.terms.now (c.loop-term.term-index + 1) c.requires.small c.requires.lack c.requires.loss in
    let floor = to_z-of_z w128 c.args.floor c.ranges.floor in
    elim c.if-turns.branch [
      | then-turns+else-left-floor-2 w ↦
          (let next = step_left c.args.costs.now c.args.widths.now c.args.by c.args.lack c.args.terms.now c.loop-term.term-index none c.fallen-new.result w.times-left.result (to_z w128 c.loop-term.left-bits) c.turns.result c.loop-term-test.true step w.if-turns.true c.ranges.by c.ranges.lack w.times-left.ensures c.loop-term.invariant.left in
          let exact = rest_is (to_z w128 c.loop-term.left-bits) w.times-left.result ((c.args.by *ℤ c.args.lack) -ℤ pos (loss (int_at c.args.costs.now) (λ j. get_or c.args.widths.now j 0) c.args.by (take (c.loop-term.term-index + 1) c.args.terms.now))) (record { sfits = w.times-left.type_inv }) next small in
          let over = test_over _ _ (rw (exact, floor) at w.if-left-floor-2.false) in
          record {
            left = left_form c.args.costs.now c.args.widths.now c.args.by c.args.lack (take (c.loop-term.term-index + 1) c.args.terms.now) (to_z w128 c.if-turns.left-bits) c.ranges.by c.ranges.lack (w.left-is ∙ exact);
            above = rw (w.left-is, exact, floor) over;
          })
      | else-turns w ↦ record {
        left = left_form c.args.costs.now c.args.widths.now c.args.by c.args.lack (take (c.loop-term.term-index + 1) c.args.terms.now) (to_z w128 c.if-turns.left-bits) c.ranges.by c.ranges.lack (w.left-is ∙ step_stays c.args.costs.now c.args.widths.now c.args.by c.args.lack c.args.terms.now c.loop-term.term-index none c.fallen-new.result (to_z w128 c.loop-term.left-bits) c.turns.result c.loop-term-test.true step w.if-turns.false c.ranges.by c.ranges.lack c.loop-term.invariant.left);
        above = rw w.left-is c.loop-term.invariant.above;
      }
    ]

pub returns : goal.returns
returns c =
    let floor = to_z-of_z w128 c.args.floor c.ranges.floor in
    let all : take c.loop-term.term-index c.args.terms.now ≡ c.args.terms.now = take_all c.loop-term.term-index c.args.terms.now c.loop-term-test.false in
    let left = rw (to_z-of_z w64 c.args.by c.ranges.by, to_z-of_z w128 c.args.lack c.ranges.lack, all) at c.loop-term.invariant.left in
    gain_whole c.args.floor (to_z w128 c.loop-term.left-bits) ((c.args.by *ℤ c.args.lack) -ℤ pos (loss (int_at c.args.costs.now) (λ j. get_or c.args.widths.now j 0) c.args.by c.args.terms.now)) (rw floor at c.loop-term.invariant.above) left
