use Rattle.std.proofs.Common.{◌≡◌, ◌∙◌, ◌+◌, ◌*◌, ◌<◌, ◌≤◌, ◌^◌, length, take, get_or, set, ℤ, pos, ◌-ℤ◌, ◌*ℤ◌, unsigned_abs, FitsSigned, w64, to_z, of_z, rules, ap, arith}
use Rattle.std.proofs.lemmas.Int.{to_z-of_z}
use Rattle.ip_core.specs.Numbers.{int_at}
use Rattle.ip_core.specs.declared.row.Term.{Term}
use Rattle.safe_bound.proofs.Lowering.{lowered_more}
use Rattle.dual_ascent.proofs.CostMoves.{lowered_small}
use Rattle.dual_ascent.proofs.reduced.Reduced.lower_costs.Goals as goal

pub lower_cost-requires-clause-cost : goal.lower_cost-requires-clause-cost
lower_cost-requires-clause-cost c =
    let none : Term = record { col = 0; coef = pos 0 } in
    let t : Term = get_or c.args.terms.now c.loop-term.term-index none in
    let known : t.col < length c.args.model.now.cols = (c.requires.known.each c.loop-term.term-index none c.loop-term-test.true).known in
    let there : t.col < length c.args.self.now.costs = omega (arith, c.requires.activities.costs_long) in
    let now = rw (to_z-of_z w64 c.args.by c.ranges.by) at (c.loop-term.invariant.costs t.col known) in
    omega (arith, lowered_small (int_at c.args.self.now.costs t.col) (int_at c.loop-term.self.costs t.col) c.args.by t.col c.args.terms.now c.loop-term.term-index (2 ^ 122) (2 ^ 40) (2 ^ 50) (c.requires.costs.each t.col there) c.requires.small c.requires.light now)

pub loop-term-preserved : goal.loop-term-preserved
loop-term-preserved c =
    let none : Term = record { col = 0; coef = pos 0 } in
    let t : Term = get_or c.args.terms.now c.loop-term.term-index none in
    let known : t.col < length c.args.model.now.cols = (c.requires.known.each c.loop-term.term-index none c.loop-term-test.true).known in
    let here : t.col < length c.loop-term.self.costs = omega (arith, c.loop-term.invariant.activities.costs_long) in
    record {
      activities = c.lower_cost.ensures.activities;
      costs = λ j h. rw c.lower_cost.ensures.costs (lowered_more c.loop-term.self.costs (int_at c.args.self.now.costs j) (to_z w64 (of_z w64 c.args.by)) c.args.terms.now c.loop-term.term-index j none c.loop-term-test.true here (c.loop-term.invariant.costs j h));
      mults = c.lower_cost.ensures.mults ∙ c.loop-term.invariant.mults;
    }
