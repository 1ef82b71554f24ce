use Rattle.std.proofs.Common.{◌≡◌, ◌<◌, length, get_or, pos, arith}
use Rattle.ip_core.specs.declared.row.Term.{Term}
use Rattle.row_propagate.specs.Quiet.{no_term}
use Rattle.row_propagate.proofs.VisitLaws.{wake_more}
use Rattle.row_propagate.proofs.visits.wake.Goals as goal

pub loop-entry-preserved : goal.loop-entry-preserved
loop-entry-preserved c =
    wake_more c.args.column.now c.loop-entry.entry-index no_term c.args.quiet.now c.loop-entry.quiet c.set.new.self c.loop-entry-test.true (omega (arith, c.loop-entry.invariant.len, c.requires.each c.loop-entry.entry-index no_term c.loop-entry-test.true)) c.set.ensures c.loop-entry.invariant
