use Rattle.std.proofs.Common.{ap, ◌∙◌}
use Rattle.crossbeam_queue.specs.Passes.{view}
use Rattle.task_crew.proofs.Crews.{may_take_in, when_both_is}
use Rattle.task_crew.proofs.run.both.Goals as goal

pub absorb-requires-clause-rule : goal.absorb-requires-clause-rule
absorb-requires-clause-rule g c = may_take_in _ _ _ _ _ c.requires.worker

pub returns-clause-kept : goal.returns-clause-kept
returns-clause-kept g c =
    when_both_is _ _ _ _ _ _ _ _ _ _ _ c.requires.kept c.requires.also
    (ap view c.keep_all-worker.ensures.pass ∙ c.absorb.ensures.rule) c.keep_all-worker.ensures.kept
    c.end_of_both.ensures
