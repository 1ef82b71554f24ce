use Rattle.std.proofs.Common.{◌∙◌, ap}
use Rattle.safe_bound.specs.Bounds.{numerator}
use Rattle.dual_ascent.specs.KeptClimbs.{climb_of}
use Rattle.dual_ascent.proofs.Rounds.{with_round, round_same, round_changed}
use Rattle.dual_ascent.proofs.climb.climb_round.Goals.{then-climb_rows, else-climb_rows}
use Rattle.dual_ascent.proofs.climb.climb_round.Goals as goal

pub returns-clause-value : goal.returns-clause-value
returns-clause-value c =
    let worth = numerator c.args.model.now c.args.cuts.now c.args.bounds.now in
    elim c.if-climb_rows.branch [ then-climb_rows w ↦ ap (λ k. with_round (climb_of k)) w.climb-is ∙ round_same worth (climb_of c.args.climb.now) c.climb_rows.new.kept.mults c.climb_rows.result c.climb_rows.ensures.mults c.climb_rows.ensures.same w.if-climb_rows.true | else-climb_rows w ↦ ap (λ k. with_round (climb_of k)) w.climb-is ∙ round_changed worth (climb_of c.args.climb.now) c.climb_rows.new.kept.mults c.climb_rows.result c.climb_rows.ensures.mults c.climb_rows.ensures.same w.if-climb_rows.false ]
