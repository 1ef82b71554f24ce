-- Weighted terms added to the numbers of their columns.
use Rattle.std.proofs.Common.{◌≡◌, ℕ, ◌+◌, ◌<◌, ◌≤◌, ◌^◌, ◌⊎◌, inl, inr, List, length, take, get_or, set, ℤ, pos, ◌+ℤ◌, ◌*ℤ◌, unsigned_abs, sum_by, refl, sym, arith}
use Rattle.std.proofs.lemmas.Int.{ints}
use Rattle.std.proofs.lemmas.Bool.{cases_eq}
use Rattle.std.proofs.lemmas.List.{get_or-set_same, get_or-set_other}
use Rattle.ip_core.specs.Numbers.{int_at}
use Rattle.ip_core.specs.Rows.{own_coefficient, coefficient}
use Rattle.ip_core.specs.declared.row.Term.{Term}
use Rattle.ip_core.proofs.IntSums.{int_sum_by_more, unsigned_abs-add_le}
use Rattle.ip_core.proofs.IntProducts.{mul_add}
use Rattle.safe_bound.proofs.Sizes.{front_narrow, times_narrow}
use Rattle.safe_bound.proofs.Weighted.{own_here, own_elsewhere}

more_here : (old now m total own coef : ℤ) → now ≡ old +ℤ (m *ℤ total) → own ≡ coef → now +ℤ (m *ℤ coef) ≡ old +ℤ (m *ℤ (total +ℤ own))
more_here old now m total own coef so_far same = rw same (omega (arith, ints, mul_add m total coef))

more_elsewhere : (old now m total own : ℤ) → now ≡ old +ℤ (m *ℤ total) → own ≡ pos 0 → now ≡ old +ℤ (m *ℤ (total +ℤ own))
more_elsewhere old now m total own so_far nothing = rw nothing (omega (arith, ints, mul_add m total (pos 0)))

added_cases : (xs : List ℤ) (old m total : ℤ) (t : Term) (j : ℕ) → t.col < length xs → int_at xs j ≡ old +ℤ (m *ℤ total) → (t.col ≡ j) ⊎ (t.col ≡ j → ⊥) → int_at (set xs t.col (int_at xs t.col +ℤ (m *ℤ t.coef))) j ≡ old +ℤ (m *ℤ (total +ℤ own_coefficient j t))
added_cases xs old m total t j known so_far (inl here) =
    rw (← here, get_or-set_same xs t.col (int_at xs t.col +ℤ (m *ℤ t.coef)) (pos 0) known) (more_here old (int_at xs t.col) m total (own_coefficient t.col t) t.coef (rw here so_far) (own_here t.col t refl))
added_cases xs old m total t j known so_far (inr elsewhere) =
    rw (get_or-set_other xs t.col j (int_at xs t.col +ℤ (m *ℤ t.coef)) (pos 0) (λ e. elsewhere (sym e))) (more_elsewhere old (int_at xs j) m total (own_coefficient j t) so_far (own_elsewhere j t elsewhere))

-- one more term
pub added_more : (xs : List ℤ) (old m : ℤ) (terms : List Term) (i j : ℕ) (d : Term) → i < length terms → (get_or terms i d).col < length xs → int_at xs j ≡ old +ℤ (m *ℤ coefficient j (take i terms)) → int_at (set xs (get_or terms i d).col (int_at xs (get_or terms i d).col +ℤ (m *ℤ (get_or terms i d).coef))) j ≡ old +ℤ (m *ℤ coefficient j (take (i + 1) terms))
added_more xs old m terms i j d within known so_far =
    rw (int_sum_by_more (own_coefficient j) terms i d within) (added_cases xs old m (coefficient j (take i terms)) (get_or terms i d) j known so_far (cases_eq (get_or terms i d).col j))

-- a number to which terms were added stays within its room
pub terms_room : (old now : ℤ) (m j : ℕ) (terms : List Term) (i : ℕ) → unsigned_abs old ≤ 2 ^ 125 → m ≤ 2 ^ 40 → sum_by (λ (t : Term). unsigned_abs t.coef) terms ≤ 2 ^ 50 → now ≡ old +ℤ (pos m *ℤ coefficient j (take i terms)) → unsigned_abs now ≤ 2 ^ 126
terms_room old now m j terms i room small narrow so_far =
    let front : unsigned_abs (coefficient j (take i terms)) ≤ 2 ^ 50 = omega (arith, front_narrow j terms i) in
    rw so_far (omega (arith, unsigned_abs-add_le old (pos m *ℤ coefficient j (take i terms)) (2 ^ 125) (2 ^ 90) room (times_narrow m (coefficient j (take i terms)) small front)))
