use Rattle.std.proofs.Common.{◌≡◌, ◌∙◌, ◌+ℤ◌, length, refl, sym, ap, subst, arith}
use Rattle.ip_core.specs.Numbers.{int_at}
use Rattle.row_propagate.specs.Kept.{coefs_at, moved_by}
use Rattle.row_propagate.specs.Moves.{AreEntries, AreNarrowMoves, StaySmall}
use Rattle.row_propagate.proofs.Movable.{movable_entries, movable_narrow, movable_small, kept_moved}
use Rattle.row_propagate.proofs.activities.Activities.moved.Goals as goal

pub column_of-requires : goal.column_of-requires
column_of-requires c = omega (arith, c.requires.move.known, c.requires.kept.columns.one_each)

pub move_sums-requires-clause-known : goal.move_sums-requires-clause-known
move_sums-requires-clause-known c = rw c.column_of.ensures (movable_entries c.args.self.now c.args.col c.args.old.0 c.args.old.1 c.args.new.0 c.args.new.1 c.requires)

pub move_sums-requires-clause-narrow : goal.move_sums-requires-clause-narrow
move_sums-requires-clause-narrow c = rw c.column_of.ensures (movable_narrow c.args.self.now c.args.col c.args.old.0 c.args.old.1 c.args.new.0 c.args.new.1 c.requires)

pub move_sums-requires-clause-small : goal.move_sums-requires-clause-small
move_sums-requires-clause-small c = rw c.column_of.ensures (movable_small c.args.self.now c.args.col c.args.old.0 c.args.old.1 c.args.new.0 c.args.new.1 c.requires)

pub returns-clause-keeps : goal.returns-clause-keeps
returns-clause-keeps c =
    λ m cuts s kept move.
    kept_moved m cuts s c.args.col c.args.old.0 c.args.old.1 c.args.new.0 c.args.new.1 c.args.self.now _ kept move refl c.move_sums.ensures.len
    (λ k known. c.move_sums.ensures.each k known ∙ ap (λ es. int_at c.args.self.now.sums k +ℤ moved_by c.args.old.0 c.args.old.1 c.args.new.0 c.args.new.1 (coefs_at k es)) c.column_of.ensures)
