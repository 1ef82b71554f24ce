use Rattle.std.proofs.Common.{◌≡◌, ◌↔◌, ℕ, ◌^◌, Bool, true, false, List, ℤ, pos, ◌+ℤ◌, ◌*ℤ◌, ◌≤ℤ◌, Option, arith}
use Rattle.std.proofs.lemmas.Int.{ints}
use Rattle.ip_core.specs.Truth.{value_at}
use Rattle.ip_core.specs.declared.model.ModelParts.{ModelParts}
use Rattle.mps_model.specs.declared.model.MpsModel.{MpsModel}
use Rattle.width_admit.specs.Admission.{Admits, minimised_number}
use Rattle.width_admit.specs.FilePoints.{IsNoWorse, file_objective}
use Rattle.width_admit.specs.Laws.{AdmissionKeepsAnswers}
use Rattle.width_admit.proofs.Decimals.{ten_pow_pos}
use Rattle.width_admit.proofs.FileRows.{times-le, le_of_times}
use Rattle.width_admit.proofs.FilePoints.{admission_keeps_points}
use Rattle.width_admit.proofs.FileValues.{admission_keeps_values}

-- the answers to a file are those to the admitted model

no_worse : (maximise : Bool) (a b : ℤ) → IsNoWorse maximise a b ↔ (minimised_number maximise a ≤ℤ minimised_number maximise b)
no_worse true a b = (λ h. omega (arith, ints, h), λ h. omega (arith, ints, h))
no_worse false a b = (λ h. h, λ h. h)

-- two objectives are in order exactly where the values are
in_order : (m : MpsModel) (upper : Option ℕ) (parts : ModelParts) → Admits m upper parts → (x y : List ℤ) → IsNoWorse m.maximise (file_objective m x) (file_objective m y) ↔ (value_at parts x ≤ℤ value_at parts y)
in_order m upper parts admits x y =
    let a = minimised_number m.maximise (file_objective m x) in
    let b = minimised_number m.maximise (file_objective m y) in
    let v = value_at parts x +ℤ parts.constant in
    let w = value_at parts y +ℤ parts.constant in
    let q = 10 ^ parts.decimals in
    let first : a *ℤ pos q ≡ v *ℤ pos (10 ^ 18) = admission_keeps_values m upper parts admits x in
    let second : b *ℤ pos q ≡ w *ℤ pos (10 ^ 18) = admission_keeps_values m upper parts admits y in
    let both = no_worse m.maximise (file_objective m x) (file_objective m y) in (
      λ h.
          let scaled : (a *ℤ pos q) ≤ℤ (b *ℤ pos q) = times-le q a b (both.0 h) in
          let le : v ≤ℤ w = le_of_times (10 ^ 18) v w (ten_pow_pos 18) (rw (first, second) at scaled) in
          omega (arith, ints, le),
      λ h.
          let scaled : (v *ℤ pos (10 ^ 18)) ≤ℤ (w *ℤ pos (10 ^ 18)) = times-le (10 ^ 18) v w (omega (arith, ints, h)) in
          both.1 (le_of_times q a b (ten_pow_pos parts.decimals) (rw (first, second) scaled)),
    )

pub admission_keeps_answers : AdmissionKeepsAnswers
admission_keeps_answers m upper parts valid admits =
    let points = admission_keeps_points m upper parts valid admits in
    record {
      best = λ x. (
        λ h. record {
          feasible = (points x).0 h.solution;
          least = λ y feasible. (in_order m upper parts admits x y).0 (h.best y ((points y).1 feasible));
        },
        λ h. record {
          solution = (points x).1 h.feasible;
          best = λ y solution. (in_order m upper parts admits x y).1 (h.least y ((points y).0 solution));
        },
      );
      none = (
        λ h. record { none = λ x feasible. h.none x ((points x).1 feasible) },
        λ h. record { none = λ x solution. h.none x ((points x).0 solution) },
      );
    }
