use Rattle.std.proofs.Common.{◌≡◌, ◌∙◌, ℕ, ◌+◌, ◌<◌, ◌≤◌, ◌^◌, ◌⊎◌, inl, inr, List, length, take, get_or, set, ℤ, pos, ◌+ℤ◌, ◌-ℤ◌, ◌*ℤ◌, unsigned_abs, sum_by, All, FitsSigned, w64, to_z, of_z, refl, sym, arith}
use Rattle.std.specs.Int.{w128}
use Rattle.std.proofs.lemmas.Int.{ints, to_z-of_z, unsigned_abs-mul}
use Rattle.std.proofs.lemmas.Bool.{cases_eq}
use Rattle.std.proofs.lemmas.List.{length-take, get_or-set_same, get_or-set_other}
use Rattle.std.proofs.lemmas.List.Elements.{All-weaker, All-take}
use Rattle.std.proofs.lemmas.Nat.{mul-le}
use Rattle.ip_core.specs.Numbers.{int_at}
use Rattle.ip_core.specs.declared.row.Row.{Row}
use Rattle.ip_core.specs.declared.row.Term.{Term}
use Rattle.ip_core.proofs.IntSums.{int_sum_by_more}
use Rattle.ip_core.specs.Rows.{own_coefficient, coefficient}
use Rattle.safe_bound.specs.Weights.{weighted_coefficient}
use Rattle.safe_bound.specs.Premises.{AreLight, AreLightTerms, AreSmall}
use Rattle.ip_core.proofs.IntProducts.{mul_add}
use Rattle.safe_bound.proofs.Sizes.{small_fits, fits_narrow, unsigned_abs-sub_le, front_narrow, coefficient_narrow, times_narrow, weighted_narrow}
use Rattle.safe_bound.proofs.Weighted.{own_here, own_elsewhere, weighted_sum_more}

-- a number less a product, as 128 bits hold it
pub exact_less : (a m z : ℤ) → FitsSigned w128 a → FitsSigned w128 m → FitsSigned w128 z → FitsSigned w128 (m *ℤ z) → to_z w128 (of_z w128 a) -ℤ to_z w128 (of_z w128 (to_z w128 (of_z w128 m) *ℤ to_z w128 (of_z w128 z))) ≡ a -ℤ (m *ℤ z)
exact_less a m z first second third product = rw (to_z-of_z w128 m second, to_z-of_z w128 z third, to_z-of_z w128 a first, to_z-of_z w128 (m *ℤ z) product) refl

product_small : (m : ℕ) (coef : ℤ) → m ≤ 2 ^ 40 → FitsSigned w64 coef → unsigned_abs (pos m *ℤ coef) ≤ 2 ^ 103
product_small m coef small fits = rw unsigned_abs-mul (omega (arith, mul-le m (unsigned_abs coef) (2 ^ 40) (2 ^ 63) small (fits_narrow coef fits)))

exact_taken : (a : ℤ) (m : ℕ) (coef first second : ℤ) → first ≡ pos m → second ≡ to_z w64 (of_z w64 coef) → FitsSigned w64 coef → m ≤ 2 ^ 40 → unsigned_abs a ≤ 2 ^ 126 → to_z w128 (of_z w128 a) -ℤ to_z w128 (of_z w128 (to_z w128 (of_z w128 first) *ℤ to_z w128 (of_z w128 second))) ≡ a -ℤ (pos m *ℤ coef)
exact_taken a m coef first second is_m is_coef fits small room =
    let same : second ≡ coef = is_coef ∙ to_z-of_z w64 coef fits in
    let wide : unsigned_abs coef ≤ 2 ^ 63 = fits_narrow coef fits in
    rw (is_m, same) (exact_less a (pos m) coef (small_fits a (2 ^ 126) room (omega arith)) (small_fits (pos m) (2 ^ 40) small (omega arith)) (small_fits coef (2 ^ 63) wide (omega arith)) (small_fits (pos m *ℤ coef) (2 ^ 103) (product_small m coef small fits) (omega arith)))

less_small : (a : ℤ) (m : ℕ) (coef : ℤ) → FitsSigned w64 coef → m ≤ 2 ^ 40 → unsigned_abs a ≤ 2 ^ 126 → FitsSigned w128 (a -ℤ (pos m *ℤ coef))
less_small a m coef fits small room = small_fits (a -ℤ (pos m *ℤ coef)) (2 ^ 126 + 2 ^ 103) (unsigned_abs-sub_le a (pos m *ℤ coef) (2 ^ 126) (2 ^ 103) room (product_small m coef small fits)) (omega arith)

-- a number less a multiplier times a number of 64 bits fits, and 128 bits hold it exactly
pub taken_fits : (a : ℤ) (m : ℕ) (coef first second : ℤ) → first ≡ pos m → second ≡ to_z w64 (of_z w64 coef) → FitsSigned w64 coef → m ≤ 2 ^ 40 → unsigned_abs a ≤ 2 ^ 126 → FitsSigned w128 (to_z w128 (of_z w128 a) -ℤ to_z w128 (of_z w128 (to_z w128 (of_z w128 first) *ℤ to_z w128 (of_z w128 second))))
taken_fits a m coef first second is_m is_coef fits small room = rw (exact_taken a m coef first second is_m is_coef fits small room) (less_small a m coef fits small room)

pub taken_is : (a : ℤ) (m : ℕ) (coef first second : ℤ) → first ≡ pos m → second ≡ to_z w64 (of_z w64 coef) → FitsSigned w64 coef → m ≤ 2 ^ 40 → unsigned_abs a ≤ 2 ^ 126 → to_z w128 (of_z w128 (to_z w128 (of_z w128 a) -ℤ to_z w128 (of_z w128 (to_z w128 (of_z w128 first) *ℤ to_z w128 (of_z w128 second))))) ≡ a -ℤ (pos m *ℤ coef)
taken_is a m coef first second is_m is_coef fits small room = rw (exact_taken a m coef first second is_m is_coef fits small room) (to_z-of_z w128 (a -ℤ (pos m *ℤ coef)) (less_small a m coef fits small room))

less_more : (old now m total own coef : ℤ) → now ≡ old -ℤ (m *ℤ total) → own ≡ coef → now -ℤ (m *ℤ coef) ≡ old -ℤ (m *ℤ (total +ℤ own))
less_more old now m total own coef so_far same = rw same (omega (arith, ints, mul_add m total coef))

less_same : (old now m total own : ℤ) → now ≡ old -ℤ (m *ℤ total) → own ≡ pos 0 → now ≡ old -ℤ (m *ℤ (total +ℤ own))
less_same old now m total own so_far nothing = rw nothing (omega (arith, ints, mul_add m total (pos 0)))

lowered_cases : (xs : List ℤ) (old m total : ℤ) (t : Term) (j : ℕ) → t.col < length xs → int_at xs j ≡ old -ℤ (m *ℤ total) → (t.col ≡ j) ⊎ (t.col ≡ j → ⊥) → int_at (set xs t.col (int_at xs t.col -ℤ (m *ℤ t.coef))) j ≡ old -ℤ (m *ℤ (total +ℤ own_coefficient j t))
lowered_cases xs old m total t j known so_far (inl here) =
    rw (← here, get_or-set_same xs t.col (int_at xs t.col -ℤ (m *ℤ t.coef)) (pos 0) known) (less_more old (int_at xs t.col) m total (own_coefficient t.col t) t.coef (rw here so_far) (own_here t.col t refl))
lowered_cases xs old m total t j known so_far (inr elsewhere) =
    rw (get_or-set_other xs t.col j (int_at xs t.col -ℤ (m *ℤ t.coef)) (pos 0) (λ e. elsewhere (sym e))) (less_same old (int_at xs j) m total (own_coefficient j t) so_far (own_elsewhere j t elsewhere))

-- one more term taken from the costs
pub lowered_more : (xs : List ℤ) (old m : ℤ) (terms : List Term) (i j : ℕ) (d : Term) → i < length terms → (get_or terms i d).col < length xs → int_at xs j ≡ old -ℤ (m *ℤ coefficient j (take i terms)) → int_at (set xs (get_or terms i d).col (int_at xs (get_or terms i d).col -ℤ (m *ℤ (get_or terms i d).coef))) j ≡ old -ℤ (m *ℤ coefficient j (take (i + 1) terms))
lowered_more xs old m terms i j d within known so_far =
    rw (int_sum_by_more (own_coefficient j) terms i d within) (lowered_cases xs old m (coefficient j (take i terms)) (get_or terms i d) j known so_far (cases_eq (get_or terms i d).col j))

-- a cost from which terms were taken stays within its room
pub terms_room : (old now : ℤ) (m j : ℕ) (terms : List Term) (i : ℕ) → unsigned_abs old ≤ 2 ^ 125 → m ≤ 2 ^ 40 → sum_by (λ (t : Term). unsigned_abs t.coef) terms ≤ 2 ^ 50 → now ≡ old -ℤ (pos m *ℤ coefficient j (take i terms)) → unsigned_abs now ≤ 2 ^ 126
terms_room old now m j terms i room small narrow so_far =
    let front : unsigned_abs (coefficient j (take i terms)) ≤ 2 ^ 50 = omega (arith, front_narrow j terms i) in
    rw so_far (omega (arith, unsigned_abs-sub_le old (pos m *ℤ coefficient j (take i terms)) (2 ^ 125) (2 ^ 90) room (times_narrow m (coefficient j (take i terms)) small front)))

-- a cost from which rows were taken stays within its room
pub rows_room : (old now : ℤ) (most j n : ℕ) (rows : List Row) (ys : List ℕ) (i : ℕ) → unsigned_abs old ≤ most → AreLight n rows → AreSmall ys → length rows ≤ 2 ^ 31 → now ≡ old -ℤ weighted_coefficient j (take i rows) ys → unsigned_abs now ≤ most + 2 ^ 121
rows_room old now most j n rows ys i room light small few so_far =
    let Narrow : Row → Type 0 = λ row. unsigned_abs (coefficient j row.terms) ≤ 2 ^ 50 in
    let Light : Row → Type 0 = λ row. AreLightTerms n row.terms in
    let each_narrow : (row : Row) → Light row → Narrow row = λ row is_light. omega (arith, coefficient_narrow j row.terms, is_light.narrow) in
    let narrow : All Narrow rows = All-weaker Light Narrow each_narrow rows light.each in
    let total = weighted_narrow (λ row. coefficient j row.terms) (take i rows) ys (All-take Narrow i rows narrow) small.each in
    let number : length (take i rows) ≤ length rows = rw length-take (omega arith) in
    let within : unsigned_abs (weighted_coefficient j (take i rows) ys) ≤ 2 ^ 121 = omega (arith, total) in
    rw so_far (unsigned_abs-sub_le old (weighted_coefficient j (take i rows) ys) most (2 ^ 121) room within)

-- one more row taken from a cost
pub row_taken : (old now next : ℤ) (rows : List Row) (ys : List ℕ) (i j : ℕ) (d : Row) → i < length rows → i < length ys → now ≡ old -ℤ weighted_coefficient j (take i rows) ys → next ≡ now -ℤ (pos (get_or ys i 0) *ℤ coefficient j (get_or rows i d).terms) → next ≡ old -ℤ weighted_coefficient j (take (i + 1) rows) ys
row_taken old now next rows ys i j d within many so_far taken =
    omega (arith, ints, so_far, taken, weighted_sum_more (λ row. coefficient j row.terms) rows ys i d within many)
