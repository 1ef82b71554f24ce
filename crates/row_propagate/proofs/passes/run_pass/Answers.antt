use Rattle.std.proofs.Common.{◌≡◌, ◌∙◌, length, sym, ap, subst}
use Rattle.ip_core.proofs.NarrowerBoxes.{within_both}
use Rattle.row_propagate.proofs.Going.{replay_both}
use Rattle.row_propagate.proofs.VisitLaws.{model_placed, cuts_placed}
use Rattle.row_propagate.proofs.passes.run_pass.Goals as goal

pub visit_rows-requires-clause-placed : goal.visit_rows-requires-clause-placed
visit_rows-requires-clause-placed c = model_placed c.args.model.now c.args.cuts.now c.rows-rows.result.now c.rows-rows.ensures

pub visit_rows-requires-2-clause-placed : goal.visit_rows-requires-2-clause-placed
visit_rows-requires-2-clause-placed c = cuts_placed c.args.model.now c.args.cuts.now _ (ap length c.rows-rows.ensures)

pub returns-clause-replays : goal.returns-clause-replays
returns-clause-replays c = replay_both c.args.model.now.rows c.args.cuts.now _ _ _ _ _ _ c.visit_rows.ensures.replays c.visit_rows-2.ensures.replays
