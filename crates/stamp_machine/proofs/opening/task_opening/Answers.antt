use Rattle.std.proofs.Common.{sym, ◌∙◌}
use Rattle.stamp_machine.proofs.Openings.{taken_runs}
use Rattle.stamp_machine.proofs.opening.task_opening.Goals as goal

pub taken_opening-requires-clause-words : goal.taken_opening-requires-clause-words
taken_opening-requires-clause-words g c =
    let law = g.met.T.Tasker.lawful c.args.tasker.now in
    law.begin_words c.args.view.now c.args.local c.in-Take.entries c.requires.view c.requires.can.fits c.requires.starts (sym c.in_ok-begin.ensures.does ∙ c.in-Take.is)

pub returns-in-Take-clause-runs : goal.returns-in-Take-clause-runs
returns-in-Take-clause-runs g c =
    let t = g.T.Tasker in
    let a = c.args.tasker.now in
    taken_runs g.row.T-View.Denot g.row.T-Local.Denot (t.rules a) (t.fits_view a) (t.fits_local a) (t.may_follow a) (t.agrees a) (g.met.T.Tasker.lawful a) c.args.limits.now c.args.view.now c.args.slot c.args.local c.begin.new.local c.in-Take.entries c.taken_opening.result
    c.requires.view c.requires.can c.requires.starts (sym c.in_ok-begin.ensures.does ∙ c.in-Take.is) c.in_ok-begin.ensures.local c.taken_opening.ensures
