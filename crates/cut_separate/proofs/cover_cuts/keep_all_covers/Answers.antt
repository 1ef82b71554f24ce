use Rattle.std.proofs.Common.{◌≡◌, drop, false, sym}
use Rattle.cut_separate.specs.Separation.{has_room}
use Rattle.cut_separate.specs.Candidates.{by_rows, cover_candidates}
use Rattle.cut_separate.proofs.Trying.{full_rest, rows_more}
use Rattle.cut_separate.proofs.cover_cuts.keep_all_covers.Goals as goal

pub returns-then-not-has_room : goal.returns-then-not-has_room
returns-then-not-has_room c =
    let rows = c.rows-rows.result.now in
    let place = c.loop-place.place in
    let full : has_room c.args.cuts.now c.loop-place.kept ≡ false = sym (rw c.as_slice.ensures at c.if-not-has_room.ensures) in
    rw (← c.rows-rows.ensures.value) (full_rest c.args.model.now c.args.cuts.now c.args.point.now c.loop-place.kept _ (by_rows (cover_candidates c.args.model.now.root c.args.point.now) c.args.source place (drop place rows)) full c.loop-place.invariant)

pub loop-place-preserved : goal.loop-place-preserved
loop-place-preserved c =
    rows_more c.args.model.now c.args.cuts.now c.args.point.now c.loop-place.kept c.keep_cover.new.kept _ (cover_candidates c.args.model.now.root c.args.point.now) c.args.source c.rows-rows.result.now c.loop-place.place c.index-rows-place.result c.loop-place-test.true c.index-rows-place.is c.loop-place.invariant (rw c.name-name.ensures at c.in_ok-keep_cover.ensures)
