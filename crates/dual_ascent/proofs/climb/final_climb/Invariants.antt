use Rattle.std.proofs.Common.{◌≡◌, ◌≤◌, ◌+◌, ◌-◌, ◌*◌}
use Rattle.safe_bound.specs.Bounds.{numerator}
use Rattle.dual_ascent.specs.Kept.{IsKept}
use Rattle.dual_ascent.specs.KeptClimbs.{climb_of}
use Rattle.dual_ascent.specs.Climbs.{after_rounds}
use Rattle.dual_ascent.specs.Ascents.{ascent}
use Rattle.dual_ascent.proofs.climb.final_climb.Given as goal

abbrev pub invariant-loop-round : goal.invariant-loop-round
invariant-loop-round g l = record {
  rest : after_rounds (numerator l.model l.cuts l.bounds) (64 - l._round) (climb_of l.climb) ≡ ascent l.model l.cuts l.bounds;
  kept : IsKept l.model l.cuts l.bounds l.climb.kept;
  few : l.climb.rounds ≤ l._round;
  told : g.P.Pulse.allowance l.pulse + l.climb.rounds * l.work ≡ g.P.Pulse.allowance l.initial.pulse;
  ready : g.P.Pulse.IsReady l.pulse;
  unchanged : g.P.Pulse.rest l.pulse ≡ g.P.Pulse.rest l.initial.pulse;
}
