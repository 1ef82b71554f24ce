-- What a true answer of an admitted model says of its points and of the file.
use Rattle.std.proofs.Common.{◌≡◌, ℕ, ◌^◌, Bool, true, false, if◌then◌else◌, List, ℤ, pos, neg_ℤ, ◌+ℤ◌, ◌*ℤ◌, Option, Some, None, sym, ap, subst, arith}
use Rattle.std.proofs.lemmas.Int.{ints}
use Rattle.cert_check.specs.Verdicts.{IsShown}
use Rattle.ip_core.specs.Truth.{value_at}
use Rattle.ip_core.specs.declared.model.ModelParts.{ModelParts}
use Rattle.mps_model.specs.MpsModels.{IsMpsModel}
use Rattle.mps_model.specs.declared.model.MpsModel.{MpsModel}
use Rattle.task_steps.specs.Sound.{IsFound}
use Rattle.task_steps.specs.Truth.{IsTrueAnswer, IsTrueStatus}
use Rattle.task_steps.specs.declared.answer.Answer.{Answer}
use Rattle.task_steps.specs.declared.answer.Status.{Status}
use Rattle.task_steps.specs.declared.answer.Status.TheVariants.{Optimal, Infeasible, StoreLimit, WorkLimit}
use Rattle.task_steps.specs.declared.answer.Best.{Best}
use Rattle.width_admit.specs.Admission.{Admits, minimised_number}
use Rattle.width_admit.specs.FilePoints.{file_objective}
use Rattle.width_admit.proofs.FileAnswers.{admission_keeps_answers}
use Rattle.width_admit.proofs.FilePoints.{admission_keeps_points}
use Rattle.width_admit.proofs.FileRows.{neg_product}
use Rattle.width_admit.proofs.FileValues.{admission_keeps_values}
use Rattle.xsearch.specs.Answer.{HasOneEach}
use Rattle.xsearch.specs.FileAnswers.{IsFileObjective, IsSolutionFound, IsTrueOfFile, IsTruePointOfFile, IsTrueStatusOfFile}

found_one_each : (m : ModelParts) (best : Option Best) → IsFound m best → HasOneEach m best
found_one_each m None found = tt
found_one_each m (Some best) found = found.0.one_each

status_one_each : (m : ModelParts) (status : Status) (best : Option Best) → IsTrueStatus m status best → HasOneEach m best
status_one_each m Optimal None truth = absurd truth
status_one_each m Optimal (Some best) truth = truth.0.feasible.one_each
status_one_each m Infeasible best truth = subst (HasOneEach m) (sym truth.1) tt
status_one_each m StoreLimit best truth = found_one_each m best truth
status_one_each m WorkLimit best truth = found_one_each m best truth

-- the point of a true answer has a value for each column
pub one_each : (m : ModelParts) (answer : Answer) → IsTrueAnswer m answer → HasOneEach m answer.best
one_each m answer truth = status_one_each m answer.status answer.best truth.told

-- the sense of a file is taken back
by_sense : (maximise : Bool) (f s a b : ℤ) → minimised_number maximise f *ℤ a ≡ s *ℤ b → f *ℤ a ≡ (if maximise then neg_ℤ s else s) *ℤ b
by_sense true f s a b h =
    let left : neg_ℤ f *ℤ a ≡ neg_ℤ (f *ℤ a) = neg_product f a in
    let right : neg_ℤ s *ℤ b ≡ neg_ℤ (s *ℤ b) = neg_product s b in
    omega (arith, ints, h, left, right)
by_sense false f s a b h = h

module _ (mps : MpsModel) (upper : Option ℕ) (m : ModelParts) (valid : IsMpsModel mps) (admits : Admits mps upper m) where
  found_of_file : (best : Option Best) → IsFound m best → IsSolutionFound mps upper best
  found_of_file None found = tt
  found_of_file (Some best) found = (admission_keeps_points mps upper m valid admits best.point).1 found.0

  status_of_file : (status : Status) (best : Option Best) → IsTrueStatus m status best → IsTrueStatusOfFile mps upper status best
  status_of_file Optimal None truth = truth
  status_of_file Optimal (Some best) truth = ((admission_keeps_answers mps upper m valid admits).best best.point).1 truth.0
  status_of_file Infeasible best truth = (admission_keeps_answers mps upper m valid admits).none.1 truth.0
  status_of_file StoreLimit best truth = found_of_file best truth
  status_of_file WorkLimit best truth = found_of_file best truth

  objective_at : (best : Best) → best.value ≡ value_at m best.point → IsFileObjective mps m (Some best)
  objective_at best valued =
      let f = file_objective mps best.point in
      let s = best.value +ℤ m.constant in
      let a = pos (10 ^ m.decimals) in
      let b = pos (10 ^ 18) in
      let sense : m.maximise ≡ mps.maximise = ap (λ (p : ModelParts). p.maximise) admits.whole in
      let law : minimised_number mps.maximise f *ℤ a ≡ s *ℤ b = subst (λ (v : ℤ). minimised_number mps.maximise f *ℤ a ≡ (v +ℤ m.constant) *ℤ b) (sym valued) (admission_keeps_values mps upper m admits best.point) in
      subst (λ (t : Bool). f *ℤ a ≡ (if t then neg_ℤ s else s) *ℤ b) (sym sense) (by_sense mps.maximise f s a b law)

  found_objective : (best : Option Best) → IsFound m best → IsFileObjective mps m best
  found_objective None found = tt
  found_objective (Some best) found = objective_at best found.1

  status_objective : (status : Status) (best : Option Best) → IsTrueStatus m status best → IsFileObjective mps m best
  status_objective Optimal None truth = tt
  status_objective Optimal (Some best) truth = objective_at best truth.1
  status_objective Infeasible best truth = subst (IsFileObjective mps m) (sym truth.1) tt
  status_objective StoreLimit best truth = found_objective best truth
  status_objective WorkLimit best truth = found_objective best truth

  -- an answer that is true of the admitted model is true of the file's
  pub true_of_file : (answer : Answer) → IsTrueAnswer m answer → IsTrueOfFile mps upper m answer
  true_of_file answer truth = record {
    told = status_of_file answer.status answer.best truth.told;
    objective = status_objective answer.status answer.best truth.told;
  }

  -- a certificate that says the truth of the admitted model says it of the file's
  pub point_of_file : (v : ℤ) (point : Option (List ℤ)) → IsShown m v point → IsTruePointOfFile mps upper point
  point_of_file v None none = (admission_keeps_answers mps upper m valid admits).none.1 none
  point_of_file v (Some x) best = ((admission_keeps_answers mps upper m valid admits).best x).1 best.0
