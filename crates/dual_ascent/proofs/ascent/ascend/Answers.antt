use Rattle.std.proofs.Common.{◌≡◌, ◌∙◌, to_z, of_z, ap}
use Rattle.std.specs.Int.{w128}
use Rattle.std.proofs.lemmas.Int.{to_z-of_z}
use Rattle.safe_bound.specs.Bounds.{lagrangian_bound}
use Rattle.dual_ascent.specs.Ascents.{ascent}
use Rattle.dual_ascent.specs.Laws.{ascent_bound}
use Rattle.dual_ascent.proofs.LeastBounds.{bound_is_above_least, bound_is_above_limit}
use Rattle.dual_ascent.proofs.ascent.ascend.Goals as goal

pub returns-clause-least : goal.returns-clause-least
returns-clause-least g c =
    let m = c.args.model.now in
    let cuts = c.args.cuts.now in
    let s = c.args.bounds.now in
    let exact : to_z w128 (of_z w128 c.bound-bound.result) ≡ c.bound-bound.result = to_z-of_z w128 c.bound-bound.result (record { sfits = c.bound-bound.type_inv }) in
    let mults : c.mults.result.now ≡ (ascent m cuts s).mults = c.mults.ensures ∙ ap (λ k. k.mults) c.in_ok-climb.ensures.value in
    let bound : c.bound-bound.result ≡ ascent_bound m cuts s = c.bound-bound.ensures ∙ ap (lagrangian_bound m cuts s) mults in
    rw (exact, bound) (bound_is_above_least m cuts s)

pub returns-clause-limit : goal.returns-clause-limit
returns-clause-limit g c =
    let m = c.args.model.now in
    let cuts = c.args.cuts.now in
    let s = c.args.bounds.now in
    let exact : to_z w128 (of_z w128 c.bound-bound.result) ≡ c.bound-bound.result = to_z-of_z w128 c.bound-bound.result (record { sfits = c.bound-bound.type_inv }) in
    let mults : c.mults.result.now ≡ (ascent m cuts s).mults = c.mults.ensures ∙ ap (λ k. k.mults) c.in_ok-climb.ensures.value in
    let bound : c.bound-bound.result ≡ ascent_bound m cuts s = c.bound-bound.ensures ∙ ap (lagrangian_bound m cuts s) mults in
    rw (exact, bound) (bound_is_above_limit m cuts s c.parts.ensures.limits c.requires.within)
