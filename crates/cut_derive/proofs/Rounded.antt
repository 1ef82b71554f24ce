-- A row that is divided and rounded up holds where the row holds.
use Rattle.std.proofs.Common.{◌≡◌, ◌∙◌, ℕ, zero, suc, ◌+◌, ◌*◌, ◌/◌, ◌<◌, List, ℤ, pos, negsuc, neg_ℤ, ◌+ℤ◌, ◌-ℤ◌, ◌*ℤ◌, ◌≤ℤ◌, ◌<ℤ◌, refl, ap, ap₂, arith, mul_comm}
use Rattle.std.specs.Int.{int_div_euclid}
use Rattle.std.proofs.lemmas.Int.{ints}
use Rattle.std.proofs.Math.IntN.{*ℤ_comm}
use Rattle.std.proofs.Math.Nat.{mul-div-le, lt-div-mul-add}
use Rattle.ip_core.specs.Numbers.{int_at, int_sum_below}
use Rattle.ip_core.specs.Sides.{Sides}
use Rattle.ip_core.specs.Rows.{IsMet}
use Rattle.ip_core.specs.Quotients.{ceiling_quotient}
use Rattle.ip_core.proofs.ProductLaws.{mul-neg}
use Rattle.ip_core.proofs.IntProducts.{mul_add, natural_mul_assoc}
use Rattle.ip_core.proofs.Products.{mul_pos-le, int_sum_below-le}
use Rattle.ip_core.proofs.ColumnSums.{int_sum_below-same, int_sum_below-sub, int_sum_below-scale}
use Rattle.ip_core.proofs.Quotients.{ceiling_quotient-le}
use Rattle.ip_core.specs.declared.row.Row.{Row}
use Rattle.ip_core.specs.declared.row.Term.{Term}
use Rattle.cut_derive.specs.Gomory.{rounded_coefficient, low_sum, rounded_least, rounded_row, terms_below}
use Rattle.cut_derive.proofs.Fronts.{activity_below, terms_below-same}

small_quotient : (a m q : ℕ) → a < q * m + m → (pos m *ℤ negsuc q) ≤ℤ negsuc a
small_quotient a m q below = omega (arith, ints, mul_comm m q, below)

-- the divisor times the quotient rounded down is at most the number
floor_multiple : (a : ℤ) (n : ℕ) → (pos (suc n) *ℤ int_div_euclid a (pos (suc n))) ≤ℤ a
floor_multiple (pos a) n = omega (arith, ints, mul-div-le a (suc n))
floor_multiple (negsuc a) n = small_quotient a (suc n) (a / suc n) (lt-div-mul-add {a = a} {b = suc n} (omega arith))

-- and the divisor times the quotient rounded up is at least the number
pub ceiling_multiple : (a : ℤ) (d : ℕ) → 0 < d → a ≤ℤ (pos d *ℤ ceiling_quotient a (pos d))
ceiling_multiple a zero above = absurd (omega (arith, above))
ceiling_multiple a (suc n) above =
    let down = floor_multiple (neg_ℤ a) n in
    let turned = mul-neg (pos (suc n)) (int_div_euclid (neg_ℤ a) (pos (suc n))) in
    omega (arith, ints, down, turned)

natural_of : (y : ℤ) → pos 0 ≤ℤ y → (k : ℕ) × (y ≡ pos k)
natural_of (pos k) above = (k, refl)
natural_of (negsuc k) above = absurd (omega (arith, ints, above))

times_more_pos : (k d : ℕ) (a e y : ℤ) → a ≤ℤ (pos d *ℤ e) → y ≡ pos k → (a *ℤ y) ≤ℤ (pos d *ℤ (e *ℤ y))
times_more_pos k d a e y le same =
    rw same (omega (arith, ints, mul_pos-le k a (pos d *ℤ e) le, *ℤ_comm a (pos k), *ℤ_comm (pos d *ℤ e) (pos k), natural_mul_assoc d e (pos k)))

-- at a value above the low, the divisor times the rounded coefficient gives no less than the coefficient
times_more : (d : ℕ) (a e y : ℤ) → a ≤ℤ (pos d *ℤ e) → pos 0 ≤ℤ y → (a *ℤ y) ≤ℤ (pos d *ℤ (e *ℤ y))
times_more d a e y le above = let k = natural_of y above in times_more_pos k.0 d a e y le k.1

mul_sub : (a x y : ℤ) → a *ℤ (x -ℤ y) ≡ (a *ℤ x) -ℤ (a *ℤ y)
mul_sub a x y = let parted : (x -ℤ y) +ℤ y ≡ x = omega (arith, ints) in omega (arith, ints, mul_add a (x -ℤ y) y, ap (λ z. a *ℤ z) parted)

-- what coefficients give above the lows
above_lows : (n : ℕ) (s : Sides) (x : List ℤ) (a : ℕ → ℤ) → int_sum_below n (λ j. a j *ℤ (int_at x j -ℤ int_at s.lows j)) ≡ int_sum_below n (λ j. a j *ℤ int_at x j) -ℤ low_sum n s a
above_lows n s x a =
    int_sum_below-same n (λ j. a j *ℤ (int_at x j -ℤ int_at s.lows j)) (λ j. (a j *ℤ int_at x j) -ℤ (a j *ℤ int_at s.lows j)) (λ j h. mul_sub (a j) (int_at x j) (int_at s.lows j))
    ∙ int_sum_below-sub n (λ j. a j *ℤ int_at x j) (λ j. a j *ℤ int_at s.lows j)

no_less : (low x : ℤ) → low ≤ℤ x → pos 0 ≤ℤ (x -ℤ low)
no_less low x le = omega (arith, ints, le)

reached : (b la ax ea le ex : ℤ) (d q : ℤ) → b ≤ℤ ax → (ax -ℤ la) ≤ℤ q → q ≡ d *ℤ (ex -ℤ le) → (b -ℤ la) ≤ℤ (d *ℤ (ex -ℤ le))
reached b la ax ea le ex d q met more same = omega (arith, ints, met, more, same)

add_back : (c l e : ℤ) → c ≤ℤ (e -ℤ l) → (c +ℤ l) ≤ℤ e
add_back c l e le = omega (arith, ints, le)

-- a point above the lows that meets the row meets the rounded one
pub rounded_row_met : (n : ℕ) (s : Sides) (a : ℕ → ℤ) (b : ℤ) (d : ℕ) (x : List ℤ) → 0 < d → ((j : ℕ) → j < n → int_at s.lows j ≤ℤ int_at x j) → b ≤ℤ int_sum_below n (λ j. a j *ℤ int_at x j) → IsMet x (rounded_row n s a b d)
rounded_row_met n s a b d x above lows met =
    let e = rounded_coefficient a d in
    let more : int_sum_below n (λ j. a j *ℤ (int_at x j -ℤ int_at s.lows j)) ≤ℤ int_sum_below n (λ j. pos d *ℤ (e j *ℤ (int_at x j -ℤ int_at s.lows j))) =
    int_sum_below-le n (λ j. a j *ℤ (int_at x j -ℤ int_at s.lows j)) (λ j. pos d *ℤ (e j *ℤ (int_at x j -ℤ int_at s.lows j))) (λ j h.
    times_more d (a j) (e j) (int_at x j -ℤ int_at s.lows j) (ceiling_multiple (a j) d above) (no_less (int_at s.lows j) (int_at x j) (lows j h)))
    in
    let scaled : int_sum_below n (λ j. pos d *ℤ (e j *ℤ (int_at x j -ℤ int_at s.lows j))) ≡ pos d *ℤ (int_sum_below n (λ j. e j *ℤ int_at x j) -ℤ low_sum n s e) =
    int_sum_below-scale n (pos d) (λ j. e j *ℤ (int_at x j -ℤ int_at s.lows j)) ∙ ap (λ z. pos d *ℤ z) (above_lows n s x e)
    in
    let enough : (b -ℤ low_sum n s a) ≤ℤ (pos d *ℤ (int_sum_below n (λ j. e j *ℤ int_at x j) -ℤ low_sum n s e)) =
    reached b (low_sum n s a) (int_sum_below n (λ j. a j *ℤ int_at x j)) (low_sum n s e) (low_sum n s e) (int_sum_below n (λ j. e j *ℤ int_at x j)) (pos d) _ met (rw (← above_lows n s x a) more) scaled
    in
    let positive : pos 0 <ℤ pos d = omega (arith, ints, above) in
    record { reached = rw (activity_below x n e) (add_back (ceiling_quotient (b -ℤ low_sum n s a) (pos d)) (low_sum n s e) (int_sum_below n (λ j. e j *ℤ int_at x j)) (ceiling_quotient-le (b -ℤ low_sum n s a) (pos d) (int_sum_below n (λ j. e j *ℤ int_at x j) -ℤ low_sum n s e) positive enough)) }

abbrev row_of : List Term → ℤ → Row
row_of ts y = record { terms = ts; least = y }

row_same : (ts us : List Term) (y z : ℤ) → ts ≡ us → y ≡ z → row_of ts y ≡ row_of us z
row_same ts us y z first second = rw (first, second) refl

low_sum-same : (n : ℕ) (s : Sides) (a c : ℕ → ℤ) → ((j : ℕ) → j < n → a j ≡ c j) → low_sum n s a ≡ low_sum n s c
low_sum-same n s a c each = int_sum_below-same n (λ j. a j *ℤ int_at s.lows j) (λ j. c j *ℤ int_at s.lows j) (λ j h. ap (λ z. z *ℤ int_at s.lows j) (each j h))

-- equal coefficients and numbers give equal rows
pub rounded_row-same : (n : ℕ) (s : Sides) (a c : ℕ → ℤ) (b e : ℤ) (d : ℕ) → ((j : ℕ) → j < n → a j ≡ c j) → b ≡ e → rounded_row n s a b d ≡ rounded_row n s c e d
rounded_row-same n s a c b e d each same =
    let rounded : (j : ℕ) → j < n → rounded_coefficient a d j ≡ rounded_coefficient c d j = λ j h. ap (λ z. ceiling_quotient z (pos d)) (each j h) in
    row_same (terms_below n (rounded_coefficient a d)) (terms_below n (rounded_coefficient c d)) (rounded_least n s a b d) (rounded_least n s c e d)
    (terms_below-same n (rounded_coefficient a d) (rounded_coefficient c d) rounded)
    (ap₂ (λ (y z : ℤ). ceiling_quotient y (pos d) +ℤ z) (ap₂ (λ (y z : ℤ). y -ℤ z) same (low_sum-same n s a c each)) (low_sum-same n s (rounded_coefficient a d) (rounded_coefficient c d) rounded))
