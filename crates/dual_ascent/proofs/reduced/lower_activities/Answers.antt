use Rattle.std.proofs.Common.{◌≡◌, ◌∙◌, ◌+◌, ◌*◌, ◌<◌, ◌≤◌, ◌^◌, length, take, get_or, set, ℤ, pos, ◌-ℤ◌, ◌*ℤ◌, unsigned_abs, FitsSigned, w64, to_z, of_z, rules, ap, arith, length-set}
use Rattle.std.specs.Int.{w128}
use Rattle.std.proofs.lemmas.Int.{to_z-of_z}
use Rattle.ip_core.specs.Numbers.{int_at}
use Rattle.ip_core.specs.declared.row.Term.{Term}
use Rattle.safe_bound.proofs.Lowering.{lowered_more}
use Rattle.safe_bound.proofs.Sizes.{small_fits}
use Rattle.dual_ascent.proofs.CostMoves.{lowered_small}
use Rattle.dual_ascent.proofs.reduced.lower_activities.Goals as goal

pub fallen-lowered-requires-clause-cost : goal.fallen-lowered-requires-clause-cost
fallen-lowered-requires-clause-cost c =
    let none : Term = record { col = 0; coef = pos 0 } in
    let e : Term = get_or c.args.entries.now c.loop-entry.entry-index none in
    let known : e.col < length c.args.active.now = c.requires.known.each c.loop-entry.entry-index none c.loop-entry-test.true in
    let fall = to_z-of_z w64 c.args.fall c.ranges.fall in
    let now = rw fall at (c.loop-entry.invariant.values e.col known) in
    let small = lowered_small (int_at c.args.active.now e.col) (int_at c.loop-entry.active e.col) c.args.fall e.col c.args.entries.now c.loop-entry.entry-index (2 ^ 60) (2 ^ 33) (2 ^ 81) (c.requires.room.each e.col known) c.requires.small c.requires.light now in
    let fits = small_fits (int_at c.loop-entry.active e.col) (2 ^ 60 + 2 ^ 33 * 2 ^ 81) small (omega arith) in
    rw (c.as_slice.ensures, to_z-of_z w128 (int_at c.loop-entry.active e.col) fits) (omega (arith, small))

pub loop-entry-preserved : goal.loop-entry-preserved
loop-entry-preserved c =
    let none : Term = record { col = 0; coef = pos 0 } in
    let e : Term = get_or c.args.entries.now c.loop-entry.entry-index none in
    let known : e.col < length c.args.active.now = c.requires.known.each c.loop-entry.entry-index none c.loop-entry-test.true in
    let here : e.col < length c.loop-entry.active = omega (arith, c.loop-entry.invariant.long) in
    let coef_fits : FitsSigned w64 e.coef = search rules in
    let fall = to_z-of_z w64 c.args.fall c.ranges.fall in
    let now = rw fall at (c.loop-entry.invariant.values e.col known) in
    let small = lowered_small (int_at c.args.active.now e.col) (int_at c.loop-entry.active e.col) c.args.fall e.col c.args.entries.now c.loop-entry.entry-index (2 ^ 60) (2 ^ 33) (2 ^ 81) (c.requires.room.each e.col known) c.requires.small c.requires.light now in
    let fits = small_fits (int_at c.loop-entry.active e.col) (2 ^ 60 + 2 ^ 33 * 2 ^ 81) small (omega arith) in
    let lowered : c.fallen-lowered.result ≡ int_at c.loop-entry.active e.col -ℤ (to_z w64 (of_z w64 c.args.fall) *ℤ e.coef) = rw (c.as_slice.ensures, to_z-of_z w128 (int_at c.loop-entry.active e.col) fits, to_z-of_z w64 e.coef coef_fits) at c.fallen-lowered.ensures in
    let exact = to_z-of_z w128 c.fallen-lowered.result (record { sfits = c.fallen-lowered.type_inv }) in
    let set_is : c.set.new.self ≡ set c.loop-entry.active e.col (int_at c.loop-entry.active e.col -ℤ (to_z w64 (of_z w64 c.args.fall) *ℤ e.coef)) = c.set.ensures ∙ ap (set c.loop-entry.active e.col) (exact ∙ lowered) in
    record {
      long = ap length set_is ∙ length-set c.loop-entry.active e.col _ ∙ c.loop-entry.invariant.long;
      values = λ k h. rw set_is (lowered_more c.loop-entry.active (int_at c.args.active.now k) (to_z w64 (of_z w64 c.args.fall)) c.args.entries.now c.loop-entry.entry-index k none c.loop-entry-test.true here (c.loop-entry.invariant.values k h));
    }
