use Rattle.std.proofs.Common.{◌≡◌, length, w64}
use Rattle.std.specs.List.{filter}
use Rattle.std.proofs.lemmas.Int.{to_z-of_z}
use Rattle.cut_separate.specs.Candidates.{is_bad}
use Rattle.cut_derive.specs.Covers.{slack}
use Rattle.cut_separate.proofs.Taking.{bad_rises, bad_light}
use Rattle.cut_separate.proofs.cover_cuts.keep_cover.Goals as goal

pub keep_taken-requires-clause-rising : goal.keep_taken-requires-clause-rising
keep_taken-requires-clause-rising c =
    rw (c.as_slice.ensures, c.in_ok-bad.ensures) (bad_rises (is_bad c.root-root.result.now c.args.point.now) (length c.args.model.now.cols) c.args.model.now.root c.args.row.now c.requires.row)

pub keep_taken-requires-clause-narrow : goal.keep_taken-requires-clause-narrow
keep_taken-requires-clause-narrow c =
    rw (c.as_slice.ensures, c.in_ok-bad.ensures) (bad_light (is_bad c.root-root.result.now c.args.point.now) (length c.args.model.now.cols) c.args.model.now.root c.args.row.now c.requires.row)

pub returns : goal.returns
returns c =
    let left : c.slack-left.result ≡ slack c.args.model.now.root c.args.row.now = rw c.root-root.ensures at c.slack-left.ensures in
    let bad : c.in_ok-bad.bad ≡ filter (is_bad c.args.model.now.root c.args.point.now) c.args.row.now.terms = rw c.root-root.ensures at c.in_ok-bad.ensures in
    rw (to_z-of_z w64 c.slack-left.result (record { sfits = c.slack-left.type_inv }), c.as_slice.ensures, left, bad) at c.in_ok-keep_taken.ensures
