use Rattle.std.proofs.Common.{◌≡◌, true, List, ℤ, subst, w64}
use Rattle.std.proofs.lemmas.Int.{to_z-of_z}
use Rattle.ip_core.specs.declared.leaf.Tighten.{Tighten}
use Rattle.leaf_truth.specs.Steps.{are_lawful_steps, box_after}
use Rattle.leaf_truth.specs.Leaves.{closing_reason}
use Rattle.leaf_truth.proofs.Stepping.{leaf_judged}
use Rattle.leaf_truth.proofs.leaf.leaf_reason.Goals as goal

pub returns-clause-reason : goal.returns-clause-reason
returns-clause-reason c =
    let m = c.args.model.now in
    let cuts = c.args.cuts.now in
    let s = c.args.bounds.now in
    let last = c.make_steps.new.bounds in
    leaf_judged m cuts c.args.cutoff s last c.args.leaf.now c.closing_reason.result
    (subst (λ (steps : List Tighten). are_lawful_steps m.rows cuts s steps ≡ true) c.as_slice.ensures c.in-Some.ensures.answer.0)
    (subst (λ (steps : List Tighten). last ≡ box_after m.rows cuts s steps) c.as_slice.ensures c.in-Some.ensures.sides)
    (subst (λ (v : ℤ). c.closing_reason.result ≡ closing_reason m cuts v last c.args.leaf.now.closing) (to_z-of_z w64 c.args.cutoff c.ranges.cutoff) c.closing_reason.ensures.reason)
