use Rattle.std.proofs.Common.{◌≡◌, ◌∙◌, ◌<◌, false, if◌then◌else◌, ℕ, List, length, refl, sym, ap, arith}
use Rattle.safe_bound.specs.Bounds.{numerator}
use Rattle.dual_ascent.specs.Climbs.{next_multiplier, after_row, is_same}
use Rattle.dual_ascent.proofs.Rows.{after_rows_none, after_rows_more, is_same-itself, flag_more, later_untouched}
use Rattle.dual_ascent.proofs.climb.climb_rows.Goals.{then-climb_row, else-climb_row}
use Rattle.dual_ascent.proofs.climb.climb_rows.Goals as goal

pub loop-row-init : goal.loop-row-init
loop-row-init c = record {
  multipliers_are = sym (after_rows_none (numerator c.args.model.now c.args.cuts.now c.args.bounds.now) c.args.step_size c.args.kept.now.mults);
  same = sym (is_same-itself c.args.kept.now.mults);
  untouched = λ k later. refl;
  kept = c.requires.kept;
}

flag_is : (c : goal.Joined-climb_row) → c.if-climb_row.is_same ≡ is_same c.args.kept.now.mults c.climb_row.new.kept.mults
flag_is c =
    let worth = numerator c.args.model.now c.args.cuts.now c.args.bounds.now in
    let ys = c.args.kept.now.mults in
    let now = c.loop-row.kept.mults in
    let i = c.loop-row.row in
    let t = next_multiplier worth c.args.step_size now i in
    let long : length now ≡ length ys = c.loop-row.invariant.kept.mults.one_each ∙ sym c.requires.kept.mults.one_each in
    let within : i < length ys = omega (arith, ap (λ (xs : List ℕ). length xs) c.mults-row-end.ensures) in
    let whole : (if c.climb_row.result then false else c.loop-row.is_same) ≡ is_same ys c.climb_row.new.kept.mults =
    rw c.climb_row.ensures.mults (flag_more ys now i t c.climb_row.result c.loop-row.is_same within long (c.loop-row.invariant.untouched i (omega arith)) c.climb_row.ensures.changed c.loop-row.invariant.same)
    in
    elim c.if-climb_row.branch [ then-climb_row w ↦ w.is_same-is ∙ (rw w.if-climb_row.true at whole) | else-climb_row w ↦ w.is_same-is ∙ (rw w.if-climb_row.false at whole) ]

pub loop-row-preserved : goal.loop-row-preserved
loop-row-preserved c =
    let worth = numerator c.args.model.now c.args.cuts.now c.args.bounds.now in
    let i = c.loop-row.row in
    record {
      multipliers_are = c.climb_row.ensures.mults ∙ ap (λ zs. after_row worth c.args.step_size zs i) c.loop-row.invariant.multipliers_are ∙ sym (after_rows_more worth c.args.step_size c.args.kept.now.mults i);
      same = flag_is c;
      untouched = λ k later. rw c.climb_row.ensures.mults (later_untouched c.loop-row.kept.mults c.args.kept.now.mults i (next_multiplier worth c.args.step_size c.loop-row.kept.mults i) k c.loop-row.invariant.untouched later);
      kept = c.climb_row.ensures.kept;
    }
