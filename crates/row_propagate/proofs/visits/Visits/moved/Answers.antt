use Rattle.std.proofs.Common.{◌≡◌, length, sym, subst, arith}
use Rattle.row_propagate.specs.Quiet.{HasQuietLeft}
use Rattle.row_propagate.proofs.visits.Visits.moved.Goals as goal

pub column-requires : goal.column-requires
column-requires c = omega (arith, c.requires.kept.move.known, c.requires.kept.kept.columns.one_each)

pub wake-requires : goal.wake-requires
wake-requires c = rw c.column.ensures c.requires.known

pub returns-clause-quiet : goal.returns-clause-quiet
returns-clause-quiet c = subst (λ es. HasQuietLeft es c.args.self.now.quiet c.wake.new.quiet) c.column.ensures c.wake.ensures
