use Rattle.std.proofs.Common.{◌≡◌, ◌∙◌, ◌<◌, ◌≤◌, ◌^◌, [], length, get_or, set, ℤ, pos, ◌-ℤ◌, ◌*ℤ◌, unsigned_abs, FitsSigned, w64, to_z, of_z, rules, ap, sym, arith}
use Rattle.std.specs.Int.{w128}
use Rattle.std.proofs.lemmas.Int.{to_z-of_z}
use Rattle.std.proofs.lemmas.List.{get_or_read}
use Rattle.ip_core.specs.Numbers.{int_at}
use Rattle.safe_bound.proofs.Sizes.{small_fits}
use Rattle.dual_ascent.specs.Ends.{spread, end_fall}
use Rattle.dual_ascent.proofs.CostMoves.{activities_small, activities_moved, fall_exact}
use Rattle.dual_ascent.proofs.EndMoves.{end_fall-le}
use Rattle.dual_ascent.proofs.RowFacts.{box_columns, spread_small}
use Rattle.dual_ascent.proofs.reduced.Reduced.lower_cost.Goals as goal

pub end_fall-fall-requires : goal.end_fall-fall-requires
end_fall-fall-requires c =
    let m = c.args.model.now in
    let s = c.args.bounds.now in
    let valid = c.parts-limits.ensures.limits in
    let known : c.args.term.col < length s.lows = omega (arith, box_columns m s valid c.requires.within, c.requires.known) in
    rw (c.as_slice-2.ensures, c.requires.activities.widths c.args.term.col c.requires.known) (omega (arith, spread_small m s c.args.term.col valid c.requires.within known))

pub lower_activities-requires-clause-small : goal.lower_activities-requires-clause-small
lower_activities-requires-clause-small c =
    let m = c.args.model.now in
    let s = c.args.bounds.now in
    let valid = c.parts-limits.ensures.limits in
    let known : c.args.term.col < length s.lows = omega (arith, box_columns m s valid c.requires.within, c.requires.known) in
    let width : get_or c.as_slice-2.result.now c.args.term.col 0 ≡ spread s c.args.term.col = ap (λ xs. get_or xs c.args.term.col 0) c.as_slice-2.ensures ∙ c.requires.activities.widths c.args.term.col c.requires.known in
    let exact = to_z-of_z w64 c.end_fall-fall.result (record { sfits = c.end_fall-fall.type_inv }) in
    let fall : unsigned_abs c.end_fall-fall.result ≤ get_or c.as_slice-2.result.now c.args.term.col 0 = rw c.end_fall-fall.ensures (end_fall-le _ _ (get_or c.as_slice-2.result.now c.args.term.col 0)) in
    rw exact (omega (arith, fall, width, spread_small m s c.args.term.col valid c.requires.within known))

pub lower_activities-requires-clause-room : goal.lower_activities-requires-clause-room
lower_activities-requires-clause-room c = activities_small c.args.model.now c.args.cuts.now c.args.bounds.now c.args.self.now c.parts-limits.ensures.limits c.requires.cuts c.requires.within c.requires.activities

pub returns-clause-activities : goal.returns-clause-activities
returns-clause-activities c =
    let m = c.args.model.now in
    let s = c.args.bounds.now in
    let v = c.args.self.now in
    let col = c.args.term.col in
    let old_fits : FitsSigned w128 (int_at v.costs col) = small_fits (int_at v.costs col) (2 ^ 123) c.requires.cost (omega arith) in
    let new_fits : FitsSigned w128 c.fallen-new.result = record { sfits = c.fallen-new.type_inv } in
    let costs : c.set.new.self ≡ set v.costs col c.fallen-new.result = c.set.ensures ∙ ap (set v.costs col) (to_z-of_z w128 c.fallen-new.result new_fits) in
    let width : get_or c.as_slice-2.result.now col 0 ≡ spread s col = ap (λ xs. get_or xs col 0) c.as_slice-2.ensures ∙ c.requires.activities.widths col c.requires.known in
    let fall : c.end_fall-fall.result ≡ end_fall (int_at v.costs col) c.fallen-new.result (spread s col) = fall_exact c.end_fall-fall.result (int_at v.costs col) c.fallen-new.result (get_or c.as_slice-2.result.now col 0) (spread s col) old_fits new_fits (rw c.as_slice.ensures at c.end_fall-fall.ensures) width in
    let exact = to_z-of_z w64 c.end_fall-fall.result (record { sfits = c.end_fall-fall.type_inv }) in
    let there : col < length v.columns = omega (arith, c.requires.activities.columns.long, c.requires.known) in
    let entries : c.as_slice-4.result.now ≡ get_or v.columns col [] = c.as_slice-4.ensures ∙ get_or_read v.columns col c.index-as_slice-col.result there (rw c.as_slice-3.ensures at c.index-as_slice-col.is) [] in
    activities_moved m c.args.cuts.now s v col c.fallen-new.result c.end_fall-fall.result c.set.new.self c.lower_activities.new.active c.requires.activities c.requires.known costs fall c.lower_activities.ensures.long (λ k h. rw (exact, entries) at (c.lower_activities.ensures.values k h))
