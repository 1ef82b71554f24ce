use Rattle.std.proofs.Common.{◌∙◌, false, sym}
use Rattle.ip_core.specs.declared.leaf.Tighten.{Tighten}
use Rattle.ip_core.specs.declared.row_ref.RowRef.TheVariants.{Model}
use Rattle.leaf_truth.proofs.Stepping.{step_unsolid, steps_stop, steps_go, step_within, step_solid}
use Rattle.leaf_truth.proofs.steps.make_steps.Goals as goal

abbrev none : Tighten
none = record { row = Model 0; col = 0; low = false }

pub returns-then-not-no_empty-clause-answer : goal.returns-then-not-no_empty-clause-answer
returns-then-not-no_empty-clause-answer c =
    let s = c.loop-step.bounds in
    let stop = steps_stop c.args.model.now.rows c.args.cuts.now s c.args.steps.now c.loop-step.step-index none c.loop-step-test.true (step_unsolid c.args.model.now.rows c.args.cuts.now s _ (sym c.loop-step.invariant.solid ∙ c.if-not-no_empty.true)) in
    sym c.loop-step.invariant.steps ∙ stop.0

pub returns-then-not-no_empty-clause-sides : goal.returns-then-not-no_empty-clause-sides
returns-then-not-no_empty-clause-sides c =
    let s = c.loop-step.bounds in
    let stop = steps_stop c.args.model.now.rows c.args.cuts.now s c.args.steps.now c.loop-step.step-index none c.loop-step-test.true (step_unsolid c.args.model.now.rows c.args.cuts.now s _ (sym c.loop-step.invariant.solid ∙ c.if-not-no_empty.true)) in
    sym stop.1 ∙ c.loop-step.invariant.sides

pub make_step-requires-clause-solid : goal.make_step-requires-clause-solid
make_step-requires-clause-solid c = sym c.loop-step.invariant.solid ∙ c.if-not-no_empty.false

pub loop-step-preserved : goal.loop-step-preserved
loop-step-preserved c =
    let rows = c.args.model.now.rows in
    let cuts = c.args.cuts.now in
    let s = c.loop-step.bounds in
    let next = c.make_step.new.bounds in
    let made = sym c.if-not-make_step.ensures.value in
    let box = c.make_step.ensures.sides in
    let solid = sym c.loop-step.invariant.solid ∙ c.if-not-no_empty.false in
    let go = steps_go rows cuts s next c.args.steps.now c.loop-step.step-index none c.loop-step-test.true made box in
    record {
      steps = go.0 ∙ c.loop-step.invariant.steps;
      sides = go.1 ∙ c.loop-step.invariant.sides;
      solid = c.is_open_at-no_empty.ensures ∙ step_solid rows cuts s next _ solid made box;
      within = step_within rows cuts c.args.model.now.root s next _ made box c.loop-step.invariant.within;
    }
