use Rattle.std.proofs.Common.{ap, ◌∙◌, arith}
use Rattle.version_store.specs.Advances.{lives}
use Rattle.task_crew.specs.Crews.{slot_of}
use Rattle.task_crew.proofs.Crews.{entered, filled_as, filled_of, may_enter}
use Rattle.task_crew.proofs.run.put_in.Goals as goal

pub push_as-requires-clause-rule : goal.push_as-requires-clause-rule
push_as-requires-clause-rule g c =
    may_enter _ _ _ c.new.result
    (filled_as _ c.args.carrier c.new.result c.requires.filled c.new.ensures)
    (ap lives c.new.ensures ∙ c.requires.lives)

pub returns-clause-filled : goal.returns-clause-filled
returns-clause-filled g c =
    filled_of _ c.args.carrier c.new.result
    (entered _ _ _ c.new.result _
    (filled_as _ c.args.carrier c.new.result c.requires.filled c.new.ensures)
    (omega (arith, ap slot_of c.new.ensures, c.requires.room)) c.push_as.ensures.rule)
    c.new.ensures
