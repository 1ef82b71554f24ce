use Rattle.std.proofs.Common.{◌≡◌, sym, true}
use Rattle.row_propagate.specs.Quiet.{no_term}
use Rattle.row_propagate.proofs.VisitLaws.{loose_more}
use Rattle.row_propagate.proofs.visiting.first_tight.Goals as goal

pub is_loose-requires-clause-known : goal.is_loose-requires-clause-known
is_loose-requires-clause-known c = (c.requires.known.each c.loop-place.place no_term c.loop-place-test.true).known

pub is_loose-requires-clause-narrow : goal.is_loose-requires-clause-narrow
is_loose-requires-clause-narrow c = c.requires.narrow.each c.loop-place.place no_term c.loop-place-test.true

pub loop-place-preserved : goal.loop-place-preserved
loop-place-preserved c =
    loose_more c.args.bounds.now _ c.args.terms.now c.args.start c.loop-place.place c.loop-place.invariant (c.is_loose.ensures c.if-not-is_loose.false)
