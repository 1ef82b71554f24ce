use Rattle.std.proofs.Common.{◌≡◌, ◌≤◌, ◌<◌, ◌+◌, ◌*◌, ◌∙◌, refl, sym, ap, arith}
use Rattle.safe_bound.specs.Bounds.{numerator}
use Rattle.dual_ascent.specs.Climbs.{after_rounds}
use Rattle.dual_ascent.specs.Ascents.{ascent}
use Rattle.dual_ascent.specs.KeptClimbs.{climb_of}
use Rattle.dual_ascent.proofs.Rounds.{round_taken, rounds_spent, rounds_stopped, rounds_left, round_allowed, round_told, ascent_is, counted_round}
use Rattle.dual_ascent.proofs.climb.final_climb.Goals.{else-loop-round-test, then-loop-round-test+then-climb-eq0}
use Rattle.dual_ascent.proofs.climb.final_climb.Goals as goal

pub loop-round-init : goal.loop-round-init
loop-round-init g c =
    let first = c.in_ok-climb.ensures in
    let none : c.in_ok-climb.climb.rounds ≡ 0 = ap (λ k. k.rounds) first.value in
    record {
      rest = ap (after_rounds (numerator c.args.model.now c.args.cuts.now c.args.bounds.now) 64) first.value ∙ sym (ascent_is c.args.model.now c.args.cuts.now c.args.bounds.now);
      kept = first.kept;
      few = rw none (omega arith);
      told = rw none (omega arith);
      ready = c.requires.ready;
      unchanged = refl;
    }

pub tick-requires : goal.tick-requires
tick-requires g c =
    let worth = numerator c.args.model.now c.args.cuts.now c.args.bounds.now in
    let last = ascent c.args.model.now c.args.cuts.now c.args.bounds.now in
    let more : c.loop-round.climb.rounds + 1 ≤ last.rounds = rounds_left worth c.loop-round._round (climb_of c.loop-round.climb) (climb_of c.climb_round.new.climb) last c.loop-round-test.true c.if-climb-eq0.false c.climb_round.ensures.value c.loop-round.invariant.rest in
    let whole : last.rounds * c.round_work-work.result ≤ g.P.Pulse.allowance c.args.pulse.now = rw c.round_work-work.ensures.value c.requires.allowed in
    record {
      ready = c.loop-round.invariant.ready;
      allowed = round_allowed c.loop-round.climb.rounds last.rounds c.round_work-work.result (g.P.Pulse.allowance c.loop-round.pulse) (g.P.Pulse.allowance c.args.pulse.now) more whole c.loop-round.invariant.told;
    }

pub loop-round-preserved : goal.loop-round-preserved
loop-round-preserved g c =
    let worth = numerator c.args.model.now c.args.cuts.now c.args.bounds.now in
    let one_more : c.climb_round.new.climb.rounds ≡ c.loop-round.climb.rounds + 1 = ap (λ k. k.rounds) c.climb_round.ensures.value ∙ (counted_round worth (climb_of c.loop-round.climb)) in
    record {
      rest = round_taken worth c.loop-round._round (climb_of c.loop-round.climb) (climb_of c.climb_round.new.climb) _ c.loop-round-test.true c.if-climb-eq0.false c.climb_round.ensures.value c.loop-round.invariant.rest;
      kept = c.climb_round.ensures.kept;
      few = omega (arith, c.loop-round.invariant.few, one_more);
      told = round_told (g.P.Pulse.allowance c.loop-round.pulse) (g.P.Pulse.allowance c.tick.new.self) c.loop-round.climb.rounds c.climb_round.new.climb.rounds c.round_work-work.result (g.P.Pulse.allowance c.args.pulse.now) c.tick.ensures.allowance one_more c.loop-round.invariant.told;
      ready = c.tick.ensures.ready;
      unchanged = c.tick.ensures.rest ∙ c.loop-round.invariant.unchanged;
    }

pub returns-clause-value : goal.returns-clause-value
returns-clause-value g c =
    let worth = numerator c.args.model.now c.args.cuts.now c.args.bounds.now in
    elim c.loop-round-test.branch [ else-loop-round-test w ↦ rounds_spent worth c.loop-round._round (climb_of c.loop-round.climb) _ w.loop-round-test.false c.loop-round.invariant.rest | then-loop-round-test+then-climb-eq0 w ↦ rounds_stopped worth c.loop-round._round (climb_of c.loop-round.climb) _ w.if-climb-eq0.true c.loop-round.invariant.rest ]
