use Rattle.std.proofs.Common.{◌≡◌, ◌∙◌, ◌+◌, drop, sym, ap, subst}
use Rattle.ip_core.proofs.NarrowerBoxes.{within_both}
use Rattle.row_propagate.specs.Passes.{after_row, after_rows, name_of, open_run, run_of}
use Rattle.row_propagate.specs.Quiet.{IsRowAt}
use Rattle.row_propagate.proofs.Going.{open_is, go_open, rows_next, replay_both}
use Rattle.row_propagate.proofs.visiting.visit_rows.Goals as goal

pub visit_row-requires-clause-row : goal.visit_row-requires-clause-row
visit_row-requires-clause-row c =
    let row = c.index-rows-index.result in
    rw c.name-name.ensures (subst (λ r. IsRowAt c.args.model.now c.args.cuts.now (c.args.first + c.loop-index.index) (name_of c.args.kind c.loop-index.index) r) (sym c.index-rows-index.is) (c.requires.placed.at c.loop-index.index row c.loop-index-test.true))

pub returns-then-not-is_open-clause-within : goal.returns-then-not-is_open-clause-within
returns-then-not-is_open-clause-within c = within_both _ _ _ c.loop-index.invariant.within c.visit_row.ensures.within

pub returns-in_err-outcome-clause-within : goal.returns-in_err-outcome-clause-within
returns-in_err-outcome-clause-within c = within_both _ _ _ c.loop-index.invariant.within c.visit_row.ensures.within

pub returns-then-not-is_open-clause-replays : goal.returns-then-not-is_open-clause-replays
returns-then-not-is_open-clause-replays c = replay_both c.args.model.now.rows c.args.cuts.now _ _ _ _ _ _ c.loop-index.invariant.replays c.visit_row.ensures.replays

pub returns-in_err-outcome-clause-replays : goal.returns-in_err-outcome-clause-replays
returns-in_err-outcome-clause-replays c = replay_both c.args.model.now.rows c.args.cuts.now _ _ _ _ _ _ c.loop-index.invariant.replays c.visit_row.ensures.replays

pub loop-index-preserved : goal.loop-index-preserved
loop-index-preserved c =
    let rows = c.args.rows.now in
    let i = c.loop-index.index in
    let name = name_of c.args.kind in
    let row = c.index-rows-index.result in
    let start = open_run c.loop-index.bounds c.loop-index.steps in
    let open_outcome = sym c.is_open.ensures ∙ c.if-not-is_open.false in
    let whole = subst (λ r. run_of c.visit_row.new.bounds c.visit_row.new.steps c.in_ok-outcome.outcome ≡ after_row (name i) r start) c.index-rows-index.is (c.in_ok-outcome.ensures.whole ∙ ap (λ n. after_row n row start) c.name-name.ensures) in
    record {
      whole = sym (rows_next name rows i row start c.loop-index-test.true ∙ go_open _ _ _ c.in_ok-outcome.outcome (after_rows name (i + 1) (drop (i + 1) rows)) whole open_outcome) ∙ c.loop-index.invariant.whole;
      within = within_both _ _ _ c.loop-index.invariant.within c.visit_row.ensures.within;
      passing = c.in_ok-outcome.ensures.passing (open_is c.in_ok-outcome.outcome open_outcome);
      replays = replay_both c.args.model.now.rows c.args.cuts.now _ _ _ _ _ _ c.loop-index.invariant.replays c.visit_row.ensures.replays;
    }
