use Rattle.std.proofs.Common.{sym, subst}
use Rattle.clock_words.specs.Stories.{AreWithin}
use Rattle.version_store.specs.Stories.{run_lists}
use Rattle.task_crew.specs.Crews.{Lives, run_of, slot_of}
use Rattle.task_crew.proofs.Hands.{begins}
use Rattle.version_store.proofs.Within.{run_within, shape_fits}
use Rattle.task_crew.proofs.run.run_crew.Goals as goal

pub new-requires-clause-sizes : goal.new-requires-clause-sizes
new-requires-clause-sizes g c = shape_fits _ c.requires.limits

pub new-requires-clause-within : goal.new-requires-clause-within
new-requires-clause-within g c =
    let t = g.T.Tasker in
    let tasker = c.of-story.ensures.tasker in
    let limits = c.of-story.ensures.limits in
    subst (λ l. AreWithin c.args.limits.now.store l)
    (λ i. run_lists (t.rules (sym tasker i)) (sym limits i))
    (run_within (t.rules c.args.tasker.now) c.args.limits.now c.entries_fit_stores.ensures)

pub ruled-requires-clause-rule : goal.ruled-requires-clause-rule
ruled-requires-clause-rule g c = begins slot_of run_of Lives

pub returns : goal.returns
returns g c = c.gather.ensures c.args.tasker.now c.args.limits.now c.in_ok-carriers.ensures
