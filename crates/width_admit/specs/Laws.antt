-- What holds of every model that is admitted.
use Rattle.std.specs.Prelude.{ℕ, ◌≡◌, ◌↔◌, ◌^◌, List, ℤ, pos, ◌+ℤ◌, ◌*ℤ◌, Option}
use Rattle.ip_core.specs.Rows.{AreMet}
use Rattle.ip_core.specs.Truth.{IsFeasible, IsBest, HasNoPoint, value_at}
use Rattle.ip_core.specs.declared.model.ModelParts.{ModelParts}
use Rattle.mps_model.specs.MpsModels.{IsMpsModel}
use Rattle.mps_model.specs.declared.model.MpsModel.{MpsModel}
use Rattle.width_admit.specs.Admission.{Admits, minimised_number}
use Rattle.width_admit.specs.FilePoints.{AreFileRowsMet, IsSolution, IsBestSolution, HasNoSolution, file_objective}

-- any point of whole numbers meets the rows of the file exactly where it meets the rows of the admitted model
abbrev pub AdmissionKeepsRows : Type 0
AdmissionKeepsRows =
    (m : MpsModel) (upper : Option ℕ) (parts : ModelParts) → Admits m upper parts → (x : List ℤ)
    → AreFileRowsMet m.cols x 0 m.rows ↔ AreMet x parts.rows

-- a point is a solution of the file's model exactly where it is feasible in the admitted one
abbrev pub AdmissionKeepsPoints : Type 0
AdmissionKeepsPoints =
    (m : MpsModel) (upper : Option ℕ) (parts : ModelParts) → IsMpsModel m → Admits m upper parts
    → (x : List ℤ) → IsSolution m upper x ↔ IsFeasible parts x

-- The file's objective at a point, negated where the file maximises, is the admitted model's value plus its constant once
-- it is multiplied by ten to the power of the model's decimals. The objective is counted in units of 10^-18.
abbrev pub AdmissionKeepsValues : Type 0
AdmissionKeepsValues =
    (m : MpsModel) (upper : Option ℕ) (parts : ModelParts) → Admits m upper parts → (x : List ℤ)
    → (minimised_number m.maximise (file_objective m x) *ℤ pos (10 ^ parts.decimals))
    ≡ ((value_at parts x +ℤ parts.constant) *ℤ pos (10 ^ 18))

-- the answers to a file's model are those to a model: the best solutions are the best points, and there are none together
pub record KeepsAnswers (m : MpsModel) (upper : Option ℕ) (parts : ModelParts) : Type 0 where
  pub best : (x : List ℤ) → IsBestSolution m upper x ↔ IsBest parts x
  pub none : HasNoSolution m upper ↔ HasNoPoint parts

-- the admitted model has the answers of the file's model
abbrev pub AdmissionKeepsAnswers : Type 0
AdmissionKeepsAnswers =
    (m : MpsModel) (upper : Option ℕ) (parts : ModelParts) → IsMpsModel m → Admits m upper parts
    → KeepsAnswers m upper parts
