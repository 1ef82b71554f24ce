use Rattle.std.proofs.Common.{◌≡◌, ◌∙◌, ◌≤ℤ◌, ◌<ℤ◌, pos, w64, unsigned_abs, sym, ap, arith}
use Rattle.std.proofs.lemmas.Int.{ints, to_z-of_z}
use Rattle.cut_separate.specs.Separation.{kept_after}
use Rattle.cut_separate.proofs.Taking.{cover_tried, cover_untried, cover_negative, of_natural}
use Rattle.cut_separate.proofs.cover_cuts.keep_taken.Goals as goal

pub returns-then-left-lt0 : goal.returns-then-left-lt0
returns-then-left-lt0 c =
    let below : c.args.left <ℤ pos 0 = (let test = rw (to_z-of_z w64 c.args.left c.ranges.left) at c.if-left-lt0.true in omega (arith, ints, test)) in
    sym (cover_negative c.args.model.now c.args.cuts.now c.args.point.now c.args.kept.now c.args.left c.args.name c.args.bad.now below)

pub returns-then-weight_from-most : goal.returns-then-weight_from-most
returns-then-weight_from-most c =
    let above : pos 0 ≤ℤ c.args.left = (let test = rw (to_z-of_z w64 c.args.left c.ranges.left) at c.if-left-lt0.false in omega (arith, ints, test)) in
    let size : c.unsigned_abs-most.result ≡ unsigned_abs c.args.left = rw (to_z-of_z w64 c.args.left c.ranges.left) at c.unsigned_abs-most.ensures.value in
    ap (kept_after c.args.model.now c.args.cuts.now c.args.point.now c.args.kept.now) (sym (cover_untried c.unsigned_abs-most.result c.args.left c.args.name c.args.bad.now (of_natural c.args.left c.unsigned_abs-most.result size above) (rw c.weight_from.ensures.value at c.if-weight_from-most.true)))

pub returns : goal.returns
returns c =
    let above : pos 0 ≤ℤ c.args.left = (let test = rw (to_z-of_z w64 c.args.left c.ranges.left) at c.if-left-lt0.false in omega (arith, ints, test)) in
    let size : c.unsigned_abs-most.result ≡ unsigned_abs c.args.left = rw (to_z-of_z w64 c.args.left c.ranges.left) at c.unsigned_abs-most.ensures.value in
    (rw c.in_ok-cols.ensures at c.in_ok-keep.ensures)
    ∙ ap (kept_after c.args.model.now c.args.cuts.now c.args.point.now c.args.kept.now) (sym (cover_tried c.unsigned_abs-most.result c.args.left c.args.name c.args.bad.now (of_natural c.args.left c.unsigned_abs-most.result size above) (rw c.weight_from.ensures.value at c.if-weight_from-most.false)))
