use Rattle.std.proofs.Common.{sym, subst}
use Rattle.clock_words.specs.Stories.{AreWithin}
use Rattle.version_store.specs.Stories.{run_lists}
use Rattle.version_store.proofs.Within.{run_within}
use Rattle.carrier_tests.proofs.drive.run_board.Goals as goal

pub new-requires-clause-within : goal.new-requires-clause-within
new-requires-clause-within g c =
    let t = g.T.Tasker in
    let tasker = c.of-story.ensures.tasker in
    let limits = c.of-story.ensures.limits in
    subst (λ l. AreWithin c.args.limits.now.store l)
    (λ i. run_lists (t.rules (sym tasker i)) (sym limits i))
    (run_within (t.rules c.args.tasker.now) c.args.limits.now c.entries_fit_stores.ensures)
