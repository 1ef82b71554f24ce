use Rattle.std.proofs.Common.{◌≡◌, ◌∙◌, ◌<◌, length, pos, ap, arith}
use Rattle.std.proofs.lemmas.List.FromFn.{fill_by_all}
use Rattle.ip_core.specs.Models.{IsModel}
use Rattle.ip_core.specs.Boxes.{cheapest_end}
use Rattle.safe_bound.specs.Bounds.{reduced_cost}
use Rattle.safe_bound.proofs.lagrangian.least_point.Goals as goal

pub returns : goal.returns
returns c =
    let m = c.args.model.now in
    let valid : IsModel m = c.parts.ensures.limits in
    let columns : c.len-columns.result ≡ length m.cols = c.len-columns.ensures ∙ ap (λ p. length p.cols) c.parts.ensures.value in
    fill_by_all (λ j. cheapest_end c.args.bounds.now (reduced_cost m c.args.cuts.now c.args.mults.now j) j) c.loop-j.out (length m.costs) (pos 0) (omega (arith, c.loop-j.invariant.long, c.requires.point, valid.bounds.costs)) (λ k h.
    let known : k < length m.cols = omega (arith, valid.bounds.costs) in
    let passed : k < c.loop-j.j = omega (arith, known, columns, c.loop-j-test.false) in
    c.loop-j.invariant.ends k passed ∙ ap (λ z. cheapest_end c.args.bounds.now z k) (c.reduce.ensures k known))
