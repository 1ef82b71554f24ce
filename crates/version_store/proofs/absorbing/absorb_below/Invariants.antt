use Rattle.std.proofs.Common.{◌≡◌}
use Rattle.version_store.specs.Absorbing.{CanAbsorb}
use Rattle.version_store.proofs.Taken.{total}
use Rattle.version_store.proofs.absorbing.absorb_below.Given as goal

abbrev pub invariant-loop-taken : goal.invariant-loop-taken
invariant-loop-taken g l = record {
  can : CanAbsorb (g.T.Tasker.rules l.tasker) (g.T.Tasker.fits_view l.tasker) l.limits l.key l.playing;
  heard : l.playing.heard ≡ l.initial.playing.heard;
  slot : l.playing.slot ≡ l.initial.playing.slot;
  moves : l.playing.moves ≡ l.initial.playing.moves;
}

abbrev pub decreases-loop-taken : goal.decreases-loop-taken
decreases-loop-taken g l = total l.playing.merge
