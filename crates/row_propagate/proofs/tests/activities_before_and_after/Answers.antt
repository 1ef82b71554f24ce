use Rattle.std.proofs.Common.{◌≡◌, ◌∙◌, ◌<◌, length, sym, ap, subst, arith, length-append}
use Rattle.ip_core.specs.Sides.{Sides, HasNoEmpty}
use Rattle.ip_core.specs.declared.row.Row.{Row}
use Rattle.ip_core.proofs.Reaching.{root_within_reach}
use Rattle.row_propagate.proofs.Movable.{move_to, movable}
use Rattle.row_propagate.proofs.tests.activities_before_and_after.Goals as goal

pub of-requires-clause-reach : goal.of-requires-clause-reach
of-requires-clause-reach c = rw c.root-root.ensures (root_within_reach c.args.model.now.root)

pub greatest-before-requires : goal.greatest-before-requires
greatest-before-requires c = omega (arith, c.requires.row, c.in_ok-kept.ensures.sums.one_each, length-append {A = Row})

pub get-requires : goal.get-requires
get-requires c = omega (arith, c.requires.column, c.requires.within.as_many_lows, ap (λ (b : Sides). length b.lows) c.root-root.ensures)

pub moved-requires : goal.moved-requires
moved-requires c =
    let m = c.args.model.now in
    let s = c.root-root.result.now in
    let kept = c.in_ok-kept.ensures in
    let known : 0 < length m.cols = omega (arith, c.requires.column, c.requires.within.as_many_lows, kept.fit.box) in
    let columns : length s.lows ≡ length m.cols = ap (λ (b : Sides). length b.lows) c.root-root.ensures ∙ kept.fit.box in
    movable m _ s c.in_ok-kept.kept 0 c.get.result.0 c.get.result.1 c.get-2.result.0 c.get-2.result.1 kept
    (move_to m s c.args.narrowed.now 0 c.get.result.0 c.get.result.1 c.get-2.result.0 c.get-2.result.1 kept.fit.box known (subst HasNoEmpty (sym c.root-root.ensures) c.requires.solid) columns c.get.ensures.low c.get.ensures.high c.requires.within c.requires.narrow c.get-2.ensures.low c.get-2.ensures.high)

pub greatest-requires : goal.greatest-requires
greatest-requires c =
    let m = c.args.model.now in
    let s = c.root-root.result.now in
    let kept = c.in_ok-kept.ensures in
    let known : 0 < length m.cols = omega (arith, c.requires.column, c.requires.within.as_many_lows, kept.fit.box) in
    let columns : length s.lows ≡ length m.cols = ap (λ (b : Sides). length b.lows) c.root-root.ensures ∙ kept.fit.box in
    let move = move_to m s c.args.narrowed.now 0 c.get.result.0 c.get.result.1 c.get-2.result.0 c.get-2.result.1 kept.fit.box known (subst HasNoEmpty (sym c.root-root.ensures) c.requires.solid) columns c.get.ensures.low c.get.ensures.high c.requires.within c.requires.narrow c.get-2.ensures.low c.get-2.ensures.high in
    omega (arith, c.requires.row, (c.moved.ensures.keeps m _ s kept move).sums.one_each, length-append {A = Row})
