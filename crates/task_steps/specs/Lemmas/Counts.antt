-- What a chunk counts at most.
use Rattle.std.proofs.Common.{◌≡◌, ℕ, zero, suc, ◌+◌, ◌*◌, ◌^◌, ◌≤◌, ◌<◌, Bool, true, false, if◌then◌else◌, List, [], length, Option, Some, None, ap, arith}
use Rattle.std.proofs.lemmas.Nat.{mul-le}
use Rattle.ip_core.specs.Models.{IsModel, term_count}
use Rattle.ip_core.specs.Sides.{Sides}
use Rattle.ip_core.specs.declared.model.ModelParts.{ModelParts}
use Rattle.ip_core.specs.declared.row.Row.{Row}
use Rattle.row_propagate.specs.Passes.{after_pass, after_passes, counted_run, first_empty, is_due, open_run, propagation_of, propagation_from, CountedRun, Run}
use Rattle.row_propagate.specs.declared.outcome.PassRun.{PassRun}
use Rattle.safe_bound.specs.Premises.{AreMultipliers}
use Rattle.dual_ascent.specs.Ascents.{ascent_work}
use Rattle.dual_ascent.proofs.AscentWork.{ascent_work-le}
use Rattle.task_steps.specs.Fits.{AreFewDerived}
use Rattle.task_steps.specs.Lemmas.TaskCuts.{cut_terms}

few_choice : (b : Bool) (c d : CountedRun) (k : ℕ) → c.passes ≤ k → d.passes ≤ k
    → (if b then c else d).passes ≤ k
few_choice true c d k first second = first
few_choice false c d k first second = second

-- each pass is counted once
passes_few : (n : ℕ) (rows cuts : List Row) (run : Run) (k : ℕ)
    → (after_passes n rows cuts run k).passes ≤ k + n
unfolding after_passes
passes_few zero rows cuts run k = omega arith
passes_few (suc n) rows cuts run k =
    let after = after_pass rows cuts run in
    few_choice (is_due run after) (after_passes n rows cuts after (k + 1))
    (counted_run after (k + 1)) (k + suc n) (omega (arith, passes_few n rows cuts after (k + 1)))
    (omega arith)

work_from : (rows cuts : List Row) (s : Sides) (o : Option ℕ)
    → (propagation_from rows cuts s o).run.work ≤ 10 * (term_count rows + term_count cuts + 1)
work_from rows cuts s (Some col) = omega arith
work_from rows cuts s None =
    let passes = passes_few 10 rows cuts (open_run s []) 0 in
    mul-le (after_passes 10 rows cuts (open_run s []) 0).passes
    (term_count rows + term_count cuts + 1) 10 (term_count rows + term_count cuts + 1)
    (omega (arith, passes)) (omega arith)

-- at most ten passes over a model's rows and its cuts
pub passes_work : (m : ModelParts) (cuts : List Row) (s : Sides) → IsModel m
    → AreFewDerived m cuts → (propagation_of m.rows cuts s).run.work ≤ 2 ^ 26
passes_work m cuts s valid own =
    let terms = cut_terms m cuts valid own in
    omega (arith, work_from m.rows cuts s (first_empty s), valid.few.term_limit, terms)

-- the same of what was counted
pub run_work : (m : ModelParts) (cuts : List Row) (s : Sides) (run : PassRun) → IsModel m
    → AreFewDerived m cuts → run ≡ (propagation_of m.rows cuts s).run → run.work ≤ 2 ^ 26
run_work m cuts s run valid own is =
    let same : run.work ≡ (propagation_of m.rows cuts s).run.work =
    ap (λ (r : PassRun). r.work) is in
    omega (arith, same, passes_work m cuts s valid own)

-- an ascent counts little
pub climb_little : (m : ModelParts) (cuts : List Row) (s : Sides) → IsModel m
    → AreFewDerived m cuts → ascent_work m cuts s ≤ 2 ^ 36
climb_little m cuts s valid own =
    let terms = cut_terms m cuts valid own in
    omega (
      arith,
      ascent_work-le m cuts s (2 ^ 21) (omega (arith, valid.few.term_limit, terms)),
    )

-- the same of what was counted
pub climb_work : (m : ModelParts) (cuts : List Row) (s : Sides) (work : ℕ) → IsModel m
    → AreFewDerived m cuts → work ≡ ascent_work m cuts s → work ≤ 2 ^ 40
climb_work m cuts s work valid own is = omega (arith, is, climb_little m cuts s valid own)

-- there are no more multipliers than rows
pub mults_few : (m : ModelParts) (cuts : List Row) (ys : List ℕ) → IsModel m
    → AreFewDerived m cuts → AreMultipliers m cuts ys → length ys < 2 ^ 32
mults_few m cuts ys valid own are =
    omega (arith, are.one_each, own.few, valid.few.row_limit)
