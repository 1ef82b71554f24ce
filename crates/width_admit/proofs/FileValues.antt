use Rattle.std.proofs.Common.{◌≡◌, ◌∙◌, ℕ, zero, suc, ◌+◌, ◌-◌, ◌*◌, ◌^◌, ◌≤◌, Bool, true, false, List, [], ◌∷◌, ◌++◌, length, map, ℤ, pos, neg_ℤ, ◌+ℤ◌, ◌*ℤ◌, Option, refl, sym, ap, subst, arith}
use Rattle.std.proofs.lemmas.Int.{ints}
use Rattle.std.proofs.lemmas.Nat.{pow-add}
use Rattle.std.proofs.lemmas.Bool.{and_parts, or_parts, ltb-false}
use Rattle.ip_core.specs.Numbers.{int_at, int_sum_below}
use Rattle.ip_core.specs.Truth.{value_at}
use Rattle.ip_core.specs.declared.model.ModelParts.{ModelParts}
use Rattle.ip_core.specs.declared.limits.TheConstants.{MAX_DECIMALS}
use Rattle.ip_core.proofs.ColumnSums.{int_sum_below-same}
use Rattle.mps_model.specs.declared.model.MpsCol.{MpsCol}
use Rattle.mps_model.specs.declared.model.MpsModel.{MpsModel}
use Rattle.width_admit.specs.Exact.{units, is_whole, whole, are_whole}
use Rattle.width_admit.specs.Admission.{admitted_model, exact_costs, objective_exponent, minimised_number, whole_constant}
use Rattle.width_admit.specs.FilePoints.{sum_from, file_objective}
use Rattle.width_admit.specs.Laws.{AdmissionKeepsValues}
use Rattle.width_admit.proofs.Quotients.{product_of_sum, product_of_two, product_of_negated}
use Rattle.width_admit.proofs.Models.{unrefused}
use Rattle.width_admit.proofs.FileRows.{factor_first, neg_product, same_sum, whole_times, whole_parts, exponent_is_whole}

-- the objective of a file at a point is the value of the admitted model with its constant

-- the sum of the first term and the others
sum_from_front : (n : ℕ) (f : ℕ → ℤ) → int_sum_below (suc n) f ≡ f 0 +ℤ int_sum_below n (λ j. f (suc j))
sum_from_front zero f = omega (arith, ints)
sum_from_front (suc n) f = let front = sum_from_front n f in omega (arith, ints, front)

-- a sum over columns is that over the list of their factors
listed_sum : (factor : MpsCol → ℤ) (x : List ℤ) (s : ℕ) (cols : List MpsCol) → int_sum_below (length (map factor cols)) (λ j. int_at (map factor cols) j *ℤ int_at x (s + j)) ≡ sum_from factor x s cols
listed_sum factor x s [] = refl
listed_sum factor x s (c ∷ cs) =
    sum_from_front (length (map factor cs)) (λ j. int_at (map factor (c ∷ cs)) j *ℤ int_at x (s + j))
    ∙ ap (λ k. (factor c *ℤ int_at x k) +ℤ int_sum_below (length (map factor cs)) (λ j. int_at (map factor cs) j *ℤ int_at x (s + suc j))) (omega arith)
    ∙ ap (λ z. (factor c *ℤ int_at x s) +ℤ z) (int_sum_below-same (length (map factor cs)) (λ j. int_at (map factor cs) j *ℤ int_at x (s + suc j)) (λ j. int_at (map factor cs) j *ℤ int_at x (s + 1 + j)) (λ j h. ap (λ k. int_at (map factor cs) j *ℤ int_at x k) (omega arith)) ∙ listed_sum factor x (s + 1) cs)

value_sum : (factor : MpsCol → ℤ) (x : List ℤ) (cols : List MpsCol) → int_sum_below (length (map factor cols)) (λ j. int_at (map factor cols) j *ℤ int_at x j) ≡ sum_from factor x 0 cols
value_sum factor x cols =
    int_sum_below-same (length (map factor cols)) (λ j. int_at (map factor cols) j *ℤ int_at x j) (λ j. int_at (map factor cols) j *ℤ int_at x (0 + j)) (λ j h. ap (λ k. int_at (map factor cols) j *ℤ int_at x k) (omega arith))
    ∙ listed_sum factor x 0 cols

-- a number that is whole at k, as it is minimised
turned_whole : (maximise : Bool) (k : ℕ) (z : ℤ) → is_whole k z ≡ true → minimised_number maximise (whole k z) *ℤ pos (10 ^ (18 - k)) ≡ minimised_number maximise z
turned_whole true k z h = product_of_negated (whole k z) (10 ^ (18 - k)) ∙ ap neg_ℤ (whole_times k z h)
turned_whole false k z h = whole_times k z h

turned_sum : (maximise : Bool) (a b : ℤ) → minimised_number maximise a +ℤ minimised_number maximise b ≡ minimised_number maximise (a +ℤ b)
turned_sum true a b = omega (arith, ints)
turned_sum false a b = refl

turned_product : (maximise : Bool) (a b : ℤ) → minimised_number maximise a *ℤ b ≡ minimised_number maximise (a *ℤ b)
turned_product true a b = neg_product a b
turned_product false a b = refl

turned_zero : (maximise : Bool) → minimised_number maximise (pos 0) ≡ pos 0
turned_zero true = refl
turned_zero false = refl

abbrev turned_cost : Bool → ℕ → MpsCol → ℤ
turned_cost maximise k c = minimised_number maximise (whole k (units c.cost))

cost_part : (maximise : Bool) (k : ℕ) (z v : ℤ) → is_whole k z ≡ true → (minimised_number maximise (whole k z) *ℤ v) *ℤ pos (10 ^ (18 - k)) ≡ minimised_number maximise (z *ℤ v)
cost_part maximise k z v h = factor_first (minimised_number maximise (whole k z)) v (10 ^ (18 - k)) ∙ ap (λ y. y *ℤ v) (turned_whole maximise k z h) ∙ turned_product maximise z v

nothing : (n : ℕ) → pos 0 *ℤ pos n ≡ pos 0
nothing n = omega (arith, ints)

costs_sum : (maximise : Bool) (k : ℕ) (x : List ℤ) (s : ℕ) (cols : List MpsCol) → are_whole (exact_costs cols) k ≡ true → sum_from (turned_cost maximise k) x s cols *ℤ pos (10 ^ (18 - k)) ≡ minimised_number maximise (sum_from (λ c. units c.cost) x s cols)
costs_sum maximise k x s [] h = nothing (10 ^ (18 - k)) ∙ sym (turned_zero maximise)
costs_sum maximise k x s (c ∷ cs) h =
    let parts = and_parts (is_whole k (units c.cost)) _ h in
    let v = int_at x s in
    product_of_sum (turned_cost maximise k c *ℤ v) (sum_from (turned_cost maximise k) x (s + 1) cs) (10 ^ (18 - k))
    ∙ same_sum _ _ (minimised_number maximise (units c.cost *ℤ v)) (minimised_number maximise (sum_from (λ c. units c.cost) x (s + 1) cs)) (cost_part maximise k (units c.cost) v parts.0) (costs_sum maximise k x (s + 1) cs parts.1)
    ∙ turned_sum maximise (units c.cost *ℤ v) (sum_from (λ c. units c.cost) x (s + 1) cs)

swap : (a b : ℤ) → a +ℤ b ≡ b +ℤ a
swap a b = omega (arith, ints)

-- value and constant in units
in_units : (m : MpsModel) (upper : Option ℕ) (x : List ℤ) → (value_at (admitted_model m upper) x +ℤ whole_constant m) *ℤ pos (10 ^ (18 - objective_exponent m)) ≡ minimised_number m.maximise (file_objective m x)
in_units m upper x =
    let k = objective_exponent m in
    let max = m.maximise in
    let parts = whole_parts k (exact_costs m.cols) (units m.constant ∷ []) (exponent_is_whole (exact_costs m.cols ++ units m.constant ∷ [])) in
    let constant = turned_whole max k (units m.constant) (and_parts (is_whole k (units m.constant)) true parts.1).0 in
    let sum : value_at (admitted_model m upper) x ≡ sum_from (turned_cost max k) x 0 m.cols = value_sum (turned_cost max k) x m.cols in
    let value : value_at (admitted_model m upper) x *ℤ pos (10 ^ (18 - k)) ≡ minimised_number max (sum_from (λ c. units c.cost) x 0 m.cols) = ap (λ z. z *ℤ pos (10 ^ (18 - k))) sum ∙ costs_sum max k x 0 m.cols parts.0 in
    let all = turned_sum max (units m.constant) (sum_from (λ c. units c.cost) x 0 m.cols) in
    let split = product_of_sum (value_at (admitted_model m upper) x) (whole_constant m) (10 ^ (18 - k)) in
    split ∙ same_sum _ _ _ _ value constant ∙ swap (minimised_number max (sum_from (λ c. units c.cost) x 0 m.cols)) (minimised_number max (units m.constant)) ∙ all

-- the two powers of ten together
powers : (k : ℕ) → k ≤ 18 → 10 ^ (18 - k) * 10 ^ k ≡ 10 ^ 18
powers k small = let sum : 18 - k + k ≡ 18 = omega (arith, small) in sym (pow-add 10 (18 - k) k) ∙ ap (λ n. 10 ^ n) sum

of_admitted : (m : MpsModel) (upper : Option ℕ) (x : List ℤ) → objective_exponent m ≤ 18 → minimised_number m.maximise (file_objective m x) *ℤ pos (10 ^ objective_exponent m) ≡ (value_at (admitted_model m upper) x +ℤ whole_constant m) *ℤ pos (10 ^ 18)
of_admitted m upper x small =
    let k = objective_exponent m in
    let total = value_at (admitted_model m upper) x +ℤ whole_constant m in
    ap (λ z. z *ℤ pos (10 ^ k)) (sym (in_units m upper x)) ∙ product_of_two total (10 ^ (18 - k)) (10 ^ k) ∙ ap (λ n. total *ℤ pos n) (powers k small)

pub admission_keeps_values : AdmissionKeepsValues
admission_keeps_values m upper parts admits x =
    let all = unrefused m upper admits.unrefused in
    let fine = ltb-false MAX_DECIMALS (objective_exponent m) (or_parts _ _ all.objective).0 in
    subst (λ (p : ModelParts). (minimised_number m.maximise (file_objective m x) *ℤ pos (10 ^ p.decimals)) ≡ ((value_at p x +ℤ p.constant) *ℤ pos (10 ^ 18))) (sym admits.whole) (of_admitted m upper x (omega (arith, fine)))
