use Rattle.std.proofs.Common.{◌≡◌, ◌∙◌, ℕ, zero, suc, ◌+◌, ◌*◌, ◌≤◌, Bool, true, false, nat_lt, List, [], ◌∷◌, length, map, ℤ, unsigned_abs, refl, sym, ap, arith}
use Rattle.std.proofs.lemmas.Int.{ints}
use Rattle.std.proofs.lemmas.Bool.{ltb-false}
use Rattle.ip_core.specs.Decimals.{Number}
use Rattle.ip_core.specs.Numbers.{int_at, sum_below}
use Rattle.ip_core.specs.Sides.{Sides, reach}
use Rattle.ip_core.specs.Rows.{part_width}
use Rattle.ip_core.specs.Models.{objective_width}
use Rattle.ip_core.specs.declared.limits.TheConstants.{MAX_WIDTH}
use Rattle.mps_model.specs.declared.model.MpsCol.{MpsCol}
use Rattle.width_admit.specs.Exact.{units, whole}
use Rattle.width_admit.specs.Admission.{minimised_number}
use Rattle.width_admit.specs.Held.{held_number, held_whole, costs_width_from}
use Rattle.width_admit.proofs.HeldRows.{size_within, held_of_held, held_of_small, reach_at_least_one, by_tests}

-- an objective that is held down is too wide exactly where it is

abbrev cost_list : Bool → ℕ → List MpsCol → List ℤ
cost_list maximise k cols = map (λ (c : MpsCol). minimised_number maximise (whole k (units c.cost))) cols

abbrev held_list : Bool → ℕ → List MpsCol → List ℤ
held_list maximise k cols = map (λ (c : MpsCol). minimised_number maximise (held_whole k c.cost)) cols

minimised_size : (maximise : Bool) (z : ℤ) → unsigned_abs (minimised_number maximise z) ≡ unsigned_abs z
minimised_size true z = omega (arith, ints)
minimised_size false z = refl

-- the sum of the first part and the others
sum_from_front : (n : ℕ) (f : ℕ → ℕ) → sum_below (suc n) f ≡ f 0 + sum_below n (λ j. f (suc j))
sum_from_front zero f = omega arith
sum_from_front (suc n) f = let front = sum_from_front n f in omega (arith, front)

-- a width that is added up from column j on
abbrev exact_from : Sides → ℕ → List ℤ → ℕ
exact_from box j [] = 0
exact_from box j (x ∷ xs) = unsigned_abs x * reach box j + exact_from box (suc j) xs

sum_same : (n : ℕ) (f g : ℕ → ℕ) → ((j : ℕ) → f j ≡ g j) → sum_below n f ≡ sum_below n g
sum_same zero f g same = refl
sum_same (suc n) f g same = let rest = sum_same n f g same in let last = same n in omega (arith, rest, last)

added_from : (box : Sides) (s : ℕ) (xs : List ℤ) → sum_below (length xs) (λ j. part_width box (int_at xs j) (s + j)) ≡ exact_from box s xs
added_from box s [] = refl
added_from box s (x ∷ xs) =
    sum_from_front (length xs) (λ j. part_width box (int_at (x ∷ xs) j) (s + j))
    ∙ ap (λ k. part_width box x k + sum_below (length xs) (λ j. part_width box (int_at xs j) (s + suc j))) (omega arith)
    ∙ ap (λ n. part_width box x s + n) (sum_same (length xs) (λ j. part_width box (int_at xs j) (s + suc j)) (λ j. part_width box (int_at xs j) (suc s + j)) (λ j. ap (part_width box (int_at xs j)) (omega arith)) ∙ added_from box (suc s) xs)

width_is : (box : Sides) (costs : List ℤ) (constant : ℤ) → objective_width box costs constant ≡ unsigned_abs constant + exact_from box 0 costs
width_is box costs constant =
    ap (λ n. unsigned_abs constant + n) (sum_same (length costs) (λ j. part_width box (int_at costs j) j) (λ j. part_width box (int_at costs j) (0 + j)) (λ j. ap (part_width box (int_at costs j)) (omega arith)) ∙ added_from box 0 costs)

held_from_is : (box : Sides) (maximise : Bool) (k j : ℕ) (cols : List MpsCol) → costs_width_from box k j cols ≡ exact_from box j (held_list maximise k cols)
held_from_is box maximise k j [] = refl
held_from_is box maximise k j (c ∷ cs) =
    rw (minimised_size maximise (held_whole k c.cost)) (ap (λ n. unsigned_abs (held_whole k c.cost) * reach box j + n) (ap (λ i. costs_width_from box k i cs) (omega arith) ∙ held_from_is box maximise k (suc j) cs))

-- narrow costs stay as they are
stay : (box : Sides) (maximise : Bool) (k j : ℕ) (cols : List MpsCol) → exact_from box j (cost_list maximise k cols) ≤ MAX_WIDTH → held_list maximise k cols ≡ cost_list maximise k cols
stay box maximise k j [] narrow = refl
stay box maximise k j (c ∷ cs) narrow =
    let z = whole k (units c.cost) in
    let parts : unsigned_abs z * reach box j + exact_from box (suc j) (cost_list maximise k cs) ≤ MAX_WIDTH = rw (minimised_size maximise z) at narrow in
    let size = size_within z (reach box j) (exact_from box (suc j) (cost_list maximise k cs)) (reach_at_least_one box j) parts in
    let here : held_number z ≡ z = held_of_small z (omega (arith, size)) in
    rw (here, stay box maximise k (suc j) cs (omega (arith, parts))) refl

stayed : (box : Sides) (maximise : Bool) (k j : ℕ) (cols : List MpsCol) → exact_from box j (held_list maximise k cols) ≤ MAX_WIDTH → held_list maximise k cols ≡ cost_list maximise k cols
stayed box maximise k j [] narrow = refl
stayed box maximise k j (c ∷ cs) narrow =
    let z = whole k (units c.cost) in
    let parts : unsigned_abs (held_number z) * reach box j + exact_from box (suc j) (held_list maximise k cs) ≤ MAX_WIDTH = rw (minimised_size maximise (held_number z)) at narrow in
    let size = size_within (held_number z) (reach box j) (exact_from box (suc j) (held_list maximise k cs)) (reach_at_least_one box j) parts in
    let here : held_number z ≡ z = held_of_held z size in
    rw (here, stayed box maximise k (suc j) cs (omega (arith, parts))) refl

-- what is held down of a narrow objective is the objective
pub same_objective : (box : Sides) (maximise : Bool) (k : ℕ) (cols : List MpsCol) (constant : Number) → nat_lt MAX_WIDTH (objective_width box (cost_list maximise k cols) (minimised_number maximise (whole k (units constant)))) ≡ false
    → (held_list maximise k cols ≡ cost_list maximise k cols) × (held_whole k constant ≡ whole k (units constant))
same_objective box maximise k cols constant narrow =
    let z = whole k (units constant) in
    let fits : unsigned_abs z + exact_from box 0 (cost_list maximise k cols) ≤ MAX_WIDTH = rw (width_is box (cost_list maximise k cols) (minimised_number maximise z), minimised_size maximise z) at (ltb-false _ _ narrow) in
    (stay box maximise k 0 cols (omega (arith, fits)), held_of_small z (omega (arith, fits)))

wide_same : (box : Sides) (costs held_costs : List ℤ) (z : ℤ) → (exact_from box 0 costs ≤ MAX_WIDTH → held_costs ≡ costs) → (exact_from box 0 held_costs ≤ MAX_WIDTH → held_costs ≡ costs)
    → nat_lt MAX_WIDTH (unsigned_abs (held_number z) + exact_from box 0 held_costs) ≡ nat_lt MAX_WIDTH (unsigned_abs z + exact_from box 0 costs)
wide_same box costs held_costs z forth back = by_tests _ _
    (λ narrow.
    let fits = ltb-false MAX_WIDTH (unsigned_abs (held_number z) + exact_from box 0 held_costs) narrow in
    let same = back (omega (arith, fits)) in
    let number = held_of_held z (omega (arith, fits)) in
    ap (λ (xs : List ℤ). nat_lt MAX_WIDTH (unsigned_abs z + exact_from box 0 xs)) (sym same) ∙ ap (λ (y : ℤ). nat_lt MAX_WIDTH (unsigned_abs y + exact_from box 0 held_costs)) (sym number) ∙ narrow)
    (λ narrow.
    let fits = ltb-false MAX_WIDTH (unsigned_abs z + exact_from box 0 costs) narrow in
    let same = forth (omega (arith, fits)) in
    let number = held_of_small z (omega (arith, fits)) in
    ap (λ (xs : List ℤ). nat_lt MAX_WIDTH (unsigned_abs (held_number z) + exact_from box 0 xs)) same ∙ ap (λ (y : ℤ). nat_lt MAX_WIDTH (unsigned_abs y + exact_from box 0 costs)) number ∙ narrow)

abbrev held_wide : Sides → ℕ → List MpsCol → Number → Bool
held_wide box k cols constant = nat_lt MAX_WIDTH (unsigned_abs (held_whole k constant) + costs_width_from box k 0 cols)

-- held down it is too wide exactly where it is
pub objective_wide_is : (box : Sides) (maximise : Bool) (k : ℕ) (cols : List MpsCol) (constant : Number)
    → held_wide box k cols constant ≡ nat_lt MAX_WIDTH (objective_width box (cost_list maximise k cols) (minimised_number maximise (whole k (units constant))))
objective_wide_is box maximise k cols constant =
    let z = whole k (units constant) in
    let exact : nat_lt MAX_WIDTH (objective_width box (cost_list maximise k cols) (minimised_number maximise z)) ≡ nat_lt MAX_WIDTH (unsigned_abs z + exact_from box 0 (cost_list maximise k cols)) =
    ap (nat_lt MAX_WIDTH) (width_is box (cost_list maximise k cols) (minimised_number maximise z) ∙ ap (λ n. n + exact_from box 0 (cost_list maximise k cols)) (minimised_size maximise z))
    in
    let other : held_wide box k cols constant ≡ nat_lt MAX_WIDTH (unsigned_abs (held_number z) + exact_from box 0 (held_list maximise k cols)) = ap (λ n. nat_lt MAX_WIDTH (unsigned_abs (held_number z) + n)) (held_from_is box maximise k 0 cols) in
    other ∙ wide_same box (cost_list maximise k cols) (held_list maximise k cols) z (stay box maximise k 0 cols) (stayed box maximise k 0 cols) ∙ sym exact
