use Rattle.std.specs.Prelude.{ℕ, if◌then◌else◌, List, [], ◌∷◌, ◌++◌, length, ◌≡◌, ℤ, ◌+ℤ◌, neg_ℤ, codes, Option, Some, None}
use Rattle.std.specs.Fmt.{signed_decimal}
use Rattle.ip_core.specs.Texts.{decimal_text}
use Rattle.ip_core.specs.declared.model.ModelParts.{ModelParts}
use Rattle.task_steps.specs.declared.answer.Status.{Status}
use Rattle.task_steps.specs.declared.answer.Status.TheVariants.{Optimal, Infeasible, StoreLimit, WorkLimit}
use Rattle.task_steps.specs.declared.answer.Best.{Best}

-- the objective of a value: with the constant, and negated where the model maximises
abbrev pub objective_of : ModelParts → ℤ → ℤ
objective_of m value = if m.maximise then neg_ℤ (value +ℤ m.constant) else (value +ℤ m.constant)

-- it is printed with the decimals of the model
abbrev pub objective_text : ModelParts → ℤ → List ℕ
objective_text m value = decimal_text (objective_of m value) m.decimals

-- its line
abbrev pub objective_line : ModelParts → ℤ → List ℕ
objective_line m value = codes "objective " ++ objective_text m value ++ codes "\n"

-- the line of a column: its name, ` = ` and its value
abbrev pub column_line : List ℕ → ℤ → List ℕ
column_line name x = name ++ codes " = " ++ signed_decimal x ++ codes "\n"

-- the lines of all columns, in order
abbrev pub column_lines : List (List ℕ) → List ℤ → List ℕ
column_lines [] xs = []
column_lines (name ∷ names) [] = []
column_lines (name ∷ names) (x ∷ xs) = column_line name x ++ column_lines names xs

-- the objective and the columns of a point, or that there is none
abbrev pub point_text : ModelParts → Option Best → List ℕ
point_text m None = codes "objective none\n"
point_text m (Some best) = objective_line m best.value ++ column_lines m.cols best.point

-- the word of a status
abbrev pub status_word : Status → List ℕ
status_word Optimal = codes "optimal"
status_word Infeasible = codes "infeasible"
status_word StoreLimit = codes "storelimit"
status_word WorkLimit = codes "worklimit"

-- the text of an answer: its status, and unless no point is feasible the point and its objective
abbrev pub answer_text : ModelParts → Status → Option Best → List ℕ
answer_text m Optimal best = codes "status optimal\n" ++ point_text m best
answer_text m Infeasible best = codes "status infeasible\n"
answer_text m StoreLimit best = codes "status storelimit\n" ++ point_text m best
answer_text m WorkLimit best = codes "status worklimit\n" ++ point_text m best

-- a point has a value for each column
abbrev pub HasOneEach : ModelParts → Option Best → Type 0
HasOneEach m None = Unit {0}
HasOneEach m (Some best) = length best.point ≡ length m.cols
