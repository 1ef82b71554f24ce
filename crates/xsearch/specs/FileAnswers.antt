-- What an answer says of a file's model, by the file's own bounds, rows and objective.
use Rattle.std.specs.Prelude.{ℕ, ◌≡◌, ◌^◌, List, ℤ, pos, ◌*ℤ◌, Option, Some, None}
use Rattle.ip_core.specs.declared.model.ModelParts.{ModelParts}
use Rattle.mps_model.specs.declared.model.MpsModel.{MpsModel}
use Rattle.task_steps.specs.declared.answer.Answer.{Answer}
use Rattle.task_steps.specs.declared.answer.Status.{Status}
use Rattle.task_steps.specs.declared.answer.Status.TheVariants.{Optimal, Infeasible, StoreLimit, WorkLimit}
use Rattle.task_steps.specs.declared.answer.Best.{Best}
use Rattle.width_admit.specs.FilePoints.{IsSolution, IsBestSolution, HasNoSolution, file_objective}
use Rattle.xsearch.specs.Answer.{objective_of}

-- there is a point, and it is a best solution of the file's model
abbrev pub HasBestSolution : MpsModel → Option ℕ → Option Best → Type 0
HasBestSolution mps upper None = ⊥
HasBestSolution mps upper (Some best) = IsBestSolution mps upper best.point

-- a point, where there is one, is a solution of the file's model
abbrev pub IsSolutionFound : MpsModel → Option ℕ → Option Best → Type 0
IsSolutionFound mps upper None = Unit {0}
IsSolutionFound mps upper (Some best) = IsSolution mps upper best.point

-- Optimal has a best solution, at Infeasible there is none, and a point at a limit is a solution
abbrev pub IsTrueStatusOfFile : MpsModel → Option ℕ → Status → Option Best → Type 0
IsTrueStatusOfFile mps upper Optimal best = HasBestSolution mps upper best
IsTrueStatusOfFile mps upper Infeasible best = HasNoSolution mps upper
IsTrueStatusOfFile mps upper StoreLimit best = IsSolutionFound mps upper best
IsTrueStatusOfFile mps upper WorkLimit best = IsSolutionFound mps upper best

-- the point of a certificate is a best solution of the file's model; with no point there is none
abbrev pub IsTruePointOfFile : MpsModel → Option ℕ → Option (List ℤ) → Type 0
IsTruePointOfFile mps upper None = HasNoSolution mps upper
IsTruePointOfFile mps upper (Some x) = IsBestSolution mps upper x

-- The objective that is printed with a point is the file's own: the model counts it in units of ten
-- to the power of minus the decimals, and the file in units of 10^-18.
abbrev pub IsFileObjective : MpsModel → ModelParts → Option Best → Type 0
IsFileObjective mps m None = Unit {0}
IsFileObjective mps m (Some best) = (file_objective mps best.point *ℤ pos (10 ^ m.decimals)) ≡
    (objective_of m best.value *ℤ pos (10 ^ 18))

-- the answer of a model, which a file's model is admitted as, is true of the file's model
pub record IsTrueOfFile (mps : MpsModel) (upper : Option ℕ) (m : ModelParts)
    (answer : Answer) : Type 0 where
  pub told : IsTrueStatusOfFile mps upper answer.status answer.best
  pub objective : IsFileObjective mps m answer.best
