use Rattle.std.proofs.Common.{◌∙◌, ◌+◌, ◌-◌, sym, arith}
use Rattle.ip_core.proofs.NarrowerBoxes.{within_both}
use Rattle.row_propagate.specs.Passes.{open_run, run_of}
use Rattle.row_propagate.proofs.Going.{open_is, replay_both}
use Rattle.row_propagate.proofs.Passing.{is_due_after, no_more_closed, no_more_unchanged, last_pass, next_pass, passes_open, ten_passes}
use Rattle.row_propagate.proofs.passes.run_passes.Goals as goal
use Rattle.row_propagate.proofs.passes.run_passes.Goals.{then-not-is_open-via-then-not-is_open, then-not-is_open-via-else-not-is_open+then-len-before}

pub returns-then-not-is_open-clause-whole : goal.returns-then-not-is_open-clause-whole
returns-then-not-is_open-clause-whole c =
    let before = open_run c.loop-passes.bounds c.loop-passes.steps in
    let after = run_of c.run_pass.new.bounds c.run_pass.new.steps c.in_ok-outcome.outcome in
    last_pass c.args.model.now.rows c.args.cuts.now c.loop-passes.passes before after _ c.loop-passes-test.true c.loop-passes.invariant.whole c.in_ok-outcome.ensures.whole
    (elim c.then-not-is_open.branch [
      | then-not-is_open-via-then-not-is_open w ↦ no_more_closed c.loop-passes.bounds c.run_pass.new.bounds c.loop-passes.steps c.run_pass.new.steps c.in_ok-outcome.outcome (sym c.is_open.ensures ∙ w.if-not-is_open.true)
      | then-not-is_open-via-else-not-is_open+then-len-before w ↦ no_more_unchanged c.loop-passes.bounds c.run_pass.new.bounds c.loop-passes.steps c.run_pass.new.steps c.in_ok-outcome.outcome (sym w.len.ensures ∙ w.if-len-before.true ∙ c.len-before.ensures)
    ])

pub loop-passes-preserved : goal.loop-passes-preserved
loop-passes-preserved c =
    let open_outcome = sym c.is_open.ensures ∙ c.if-not-is_open.false in
    let before = open_run c.loop-passes.bounds c.loop-passes.steps in
    let after = run_of c.run_pass.new.bounds c.run_pass.new.steps c.in_ok-outcome.outcome in
    let due = is_due_after c.loop-passes.bounds c.run_pass.new.bounds c.loop-passes.steps c.run_pass.new.steps c.in_ok-outcome.outcome open_outcome (λ same. c.if-len-before.false (c.len.ensures ∙ same ∙ sym c.len-before.ensures)) in
    record {
      whole = passes_open c.args.model.now.rows c.args.cuts.now (10 - (c.loop-passes.passes + 1)) (c.loop-passes.passes + 1) c.run_pass.new.bounds c.run_pass.new.steps c.in_ok-outcome.outcome _ (open_is c.in_ok-outcome.outcome open_outcome) (next_pass c.args.model.now.rows c.args.cuts.now c.loop-passes.passes before after _ c.loop-passes-test.true c.loop-passes.invariant.whole c.in_ok-outcome.ensures.whole due);
      within = within_both _ _ _ c.loop-passes.invariant.within c.run_pass.ensures.within;
      passing = c.in_ok-outcome.ensures.passing (open_is c.in_ok-outcome.outcome open_outcome);
      replays = replay_both _ _ _ _ _ _ _ _ c.loop-passes.invariant.replays c.run_pass.ensures.replays;
    }

pub returns-clause-whole : goal.returns-clause-whole
returns-clause-whole c =
    ten_passes c.args.model.now.rows c.args.cuts.now c.loop-passes.passes (open_run c.loop-passes.bounds c.loop-passes.steps) _ (omega (arith, c.loop-passes-test.false, c.loop-passes.auto.passes-end)) c.loop-passes.invariant.whole
