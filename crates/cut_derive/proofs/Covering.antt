-- A cover holds where its row holds.
use Rattle.std.proofs.Common.{◌≡◌, ◌≢◌, ◌∙◌, get_or, add-one, ℕ, zero, suc, ◌+◌, ◌<◌, ◌≤◌, ◌⊎◌, inl, inr, Bool, true, false, cond, if◌then◌else◌, not, nat_le, List, [], ◌∷◌, length, map, ℤ, pos, negsuc, ◌+ℤ◌, ◌-ℤ◌, ◌*ℤ◌, ◌≤ℤ◌, ◌<ℤ◌, int_lt, unsigned_abs, sum_by, All, Option, Some, None, refl, sym, ap, ap₂, arith}
use Rattle.std.specs.Int.{int_max}
use Rattle.std.specs.Ordering.{int_eq}
use Rattle.std.proofs.lemmas.Int.{ints, clamps}
use Rattle.std.proofs.lemmas.Bool.{and_parts, leb-true, cases_lt}
use Rattle.std.proofs.lemmas.Bool.Decides.{nat_tests}
use Rattle.std.proofs.lemmas.Option.{none-some}
use Rattle.std.proofs.lemmas.List.Elements.{All-nil, All-cons, All-head, All-tail}
use Rattle.std.proofs.lemmas.List.Sums.{sum_by-cons}
use Rattle.ip_core.specs.Numbers.{int_at, int_sum_by, int_sum_below}
use Rattle.ip_core.specs.Sides.{Sides, IsInside}
use Rattle.ip_core.specs.Boxes.{greatest_activity}
use Rattle.ip_core.specs.Rows.{IsTerm, AreTerms, IsMet, activity, coefficient}
use Rattle.ip_core.specs.declared.row.Row.{Row}
use Rattle.ip_core.specs.declared.row.Term.{Term}
use Rattle.ip_core.proofs.Products.{greatest_product}
use Rattle.ip_core.proofs.ColumnSums.{int_sum_below-sub}
use Rattle.leaf_truth.proofs.TestResults.{int_lt-true}
use Rattle.cut_derive.specs.Covers.{sign_of, cover_term, negative_one, cover_row, rise_from, is_binary, is_choice, first_unfit, slack, chosen_weight, is_cover}
use Rattle.cut_derive.proofs.Fronts.{cols_of}
use Rattle.cut_derive.proofs.TermColumns.{coefficient_past, columns_of_terms}

next_less : (n : ℕ) (a b c : ℤ) → a ≤ℤ b → pos 0 ≤ℤ c → a ≤ℤ (b +ℤ c)
next_less n a b c le above = omega (arith, ints, le, above)

front_cases : (low n : ℕ) (h : ℕ → ℤ) → pos 0 ≤ℤ h n → (low ≤ n → int_sum_below low h ≤ℤ int_sum_below n h) → (low < suc n) ⊎ (suc n ≤ low) → low ≤ suc n → int_sum_below low h ≤ℤ int_sum_below (suc n) h
front_cases low n h above before (inl below) few = next_less n (int_sum_below low h) (int_sum_below n h) (h n) (before (omega (arith, below))) above
front_cases low n h above before (inr whole) few = let same : low ≡ suc n = omega (arith, whole, few) in rw same (omega (arith, ints))

-- a sum of fewer numbers that aren't below 0
front_le : (low n : ℕ) (h : ℕ → ℤ) → ((j : ℕ) → j < n → pos 0 ≤ℤ h j) → low ≤ n → int_sum_below low h ≤ℤ int_sum_below n h
front_le low zero h above few = let none : low ≡ 0 = omega (arith, few) in rw none (omega (arith, ints))
front_le low (suc n) h above few = front_cases low n h (above n (omega arith)) (front_le low n h (λ j k. above j (omega (arith, k)))) (cases_lt low (suc n)) few

chosen_first : (a b c rest whole : ℤ) → a ≤ℤ b → ((b +ℤ c) +ℤ rest) ≤ℤ whole → (a +ℤ (c +ℤ rest)) ≤ℤ whole
chosen_first a b c rest whole le more = omega (arith, ints, le, more)

-- numbers that aren't below 0 at some columns, which rise, add up to no more than at all columns
chosen_le : (n low : ℕ) (h : ℕ → ℤ) (cols : List ℕ) → ((j : ℕ) → j < n → pos 0 ≤ℤ h j) → rise_from low cols ≡ true → ((k d : ℕ) → k < length cols → get_or cols k d < n) → low ≤ n → (int_sum_below low h +ℤ int_sum_by h cols) ≤ℤ int_sum_below n h
chosen_le n low h [] above test known few = omega (arith, ints, front_le low n h above few)
chosen_le n low h (c ∷ cols) above test known few =
    let parts = and_parts (nat_le low c) (rise_from (c + 1) cols) test in
    let first : low ≤ c = leb-true low c parts.0 in
    let below : c < n = known 0 0 (omega arith) in
    let later = chosen_le n (suc c) h cols above (rw add-one at parts.1) (λ k d g. known (suc k) d (omega (arith, g))) (omega (arith, below)) in
    chosen_first (int_sum_below low h) (int_sum_below c h) (h c) (int_sum_by h cols) (int_sum_below n h) (front_le low c h (λ j k. above j (omega (arith, k, below))) first) later

-- what a chosen column contributes: its value where its coefficient is above 0, and 1 less its value where it is below
abbrev contribution : Row → List ℤ → ℕ → ℤ
contribution row x col = (sign_of (coefficient col row.terms) *ℤ int_at x col) +ℤ pos (negative_one row col)

-- how much less than its most a column gives
abbrev loss : Sides → Row → List ℤ → ℕ → ℤ
loss s row x col =
    int_max (coefficient col row.terms *ℤ int_at s.lows col) (coefficient col row.terms *ℤ int_at s.highs col) -ℤ (coefficient col row.terms *ℤ int_at x col)

contributions_step : (a b c d : ℤ) (m n : ℕ) → b ≡ c +ℤ pos n → (a +ℤ pos m) +ℤ b ≡ (a +ℤ c) +ℤ pos (m + n)
contributions_step a b c d m n same = omega (arith, ints, same)

contributions : (row : Row) (x : List ℤ) (cols : List ℕ) → int_sum_by (contribution row x) cols ≡ activity x (map (cover_term row) cols) +ℤ pos (sum_by (negative_one row) cols)
contributions row x [] = refl
contributions row x (c ∷ cols) =
    rw sum_by-cons (contributions_step (sign_of (coefficient c row.terms) *ℤ int_at x c) (int_sum_by (contribution row x) cols) (activity x (map (cover_term row) cols)) (pos 0) (negative_one row c) (sum_by (negative_one row) cols) (contributions row x cols))

-- a value from 0 to 1
zero_or_one : (x : ℤ) → pos 0 ≤ℤ x → x ≤ℤ pos 1 → (x ≡ pos 0) ⊎ (x ≡ pos 1)
zero_or_one (pos zero) low high = inl refl
zero_or_one (pos (suc zero)) low high = inr refl
zero_or_one (pos (suc (suc k))) low high = absurd (omega (arith, ints, high))
zero_or_one (negsuc k) low high = absurd (omega (arith, ints, low))

-- a column of coefficient z at the value x: it contributes 1, or it contributes 0 and gives |z| less than its most
abbrev Contributes : ℤ → ℤ → Type 0
Contributes z x =
    let u = ((if int_lt (pos 0) z then pos 1 else negsuc 0) *ℤ x) +ℤ pos (if int_lt z (pos 0) then 1 else 0) in
    (pos 0 ≤ℤ u) × ((pos 1 ≤ℤ u) ⊎ (pos (unsigned_abs z) ≤ℤ (int_max (z *ℤ pos 0) (z *ℤ pos 1) -ℤ (z *ℤ x))))

above_zero : (k : ℕ) (b c : Bool) → b ≡ true → c ≡ false → (x : ℤ) → (x ≡ pos 0) ⊎ (x ≡ pos 1) → (pos 0 ≤ℤ ((cond b (pos 1) (negsuc 0) *ℤ x) +ℤ pos (cond c 1 0))) × ((pos 1 ≤ℤ ((cond b (pos 1) (negsuc 0) *ℤ x) +ℤ pos (cond c 1 0))) ⊎ (pos k ≤ℤ (int_max (pos k *ℤ pos 0) (pos k *ℤ pos 1) -ℤ (pos k *ℤ x))))
above_zero k true false first second x (inl here) = rw here (omega (arith, ints), inr (omega (arith, ints, clamps)))
above_zero k true false first second x (inr here) = rw here (omega (arith, ints), inl (omega (arith, ints)))
above_zero k false c first second x either = cc
above_zero k true true first second x either = cc

below_zero : (k : ℕ) (b c : Bool) → b ≡ false → c ≡ true → (x : ℤ) → (x ≡ pos 0) ⊎ (x ≡ pos 1) → (pos 0 ≤ℤ ((cond b (pos 1) (negsuc 0) *ℤ x) +ℤ pos (cond c 1 0))) × ((pos 1 ≤ℤ ((cond b (pos 1) (negsuc 0) *ℤ x) +ℤ pos (cond c 1 0))) ⊎ (pos (suc k) ≤ℤ (int_max (negsuc k *ℤ pos 0) (negsuc k *ℤ pos 1) -ℤ (negsuc k *ℤ x))))
below_zero k false true first second x (inl here) = rw here (omega (arith, ints), inl (omega (arith, ints)))
below_zero k false true first second x (inr here) = rw here (omega (arith, ints), inr (omega (arith, ints, clamps)))
below_zero k true c first second x either = cc
below_zero k false false first second x either = cc

positive_above : (k : ℕ) → int_lt (pos 0) (pos (suc k)) ≡ true
positive_above k = grind (arith, ints, nat_tests)

positive_not_below : (k : ℕ) → int_lt (pos (suc k)) (pos 0) ≡ false
positive_not_below k = grind (arith, ints, nat_tests)

contributes : (z x : ℤ) → z ≢ pos 0 → (x ≡ pos 0) ⊎ (x ≡ pos 1) → Contributes z x
contributes (pos zero) x nonzero either = absurd (nonzero refl)
contributes (pos (suc k)) x nonzero either = above_zero (suc k) (int_lt (pos 0) (pos (suc k))) (int_lt (pos (suc k)) (pos 0)) (positive_above k) (positive_not_below k) x either
contributes (negsuc k) x nonzero either = below_zero k (int_lt (pos 0) (negsuc k)) (int_lt (negsuc k) (pos 0)) refl refl x either

not_true : (b : Bool) → not b ≡ true → b ≡ false
not_true true test = sym test
not_true false test = refl

is_zero : (z : ℤ) → int_eq z (pos 0) ≡ true → z ≡ pos 0
is_zero z test = grind (arith, ints, test)

is_one : (z : ℤ) → int_eq z (pos 1) ≡ true → z ≡ pos 1
is_one z test = grind (arith, ints, nat_tests, test)

isnt_zero : (z : ℤ) → int_eq z (pos 0) ≡ false → z ≢ pos 0
isnt_zero z test = λ e. absurd (grind (arith, ints, test, ap (λ (y : ℤ). int_eq y (pos 0)) e))

-- what a chosen column is
pub record IsChosen (n : ℕ) (s : Sides) (row : Row) (col : ℕ) : Type 0 where
  pub known : col < n
  pub nonzero : coefficient col row.terms ≢ pos 0
  pub low : int_at s.lows col ≡ pos 0
  pub high : int_at s.highs col ≡ pos 1

known_cases : (n : ℕ) (terms : List Term) (col : ℕ) → All (IsTerm n) terms → coefficient col terms ≢ pos 0 → (col < n) ⊎ (n ≤ col) → col < n
known_cases n terms col known nonzero (inl below) = below
known_cases n terms col known nonzero (inr past) = absurd (nonzero (coefficient_past n terms col known past))

pub chosen_of : (n : ℕ) (s : Sides) (row : Row) (col : ℕ) → AreTerms n row.terms → is_choice s row col ≡ true → IsChosen n s row col
chosen_of n s row col terms test =
    let zero_test = int_eq (coefficient col row.terms) (pos 0) in
    let parts = and_parts (not zero_test) (is_binary s col) test in
    let ends = and_parts (int_eq (int_at s.lows col) (pos 0)) (int_eq (int_at s.highs col) (pos 1)) parts.1 in
    let nonzero : coefficient col row.terms ≢ pos 0 = isnt_zero (coefficient col row.terms) (not_true zero_test parts.0) in
    record {
      known = known_cases n row.terms col terms.each nonzero (cases_lt col n);
      nonzero = nonzero;
      low = is_zero (int_at s.lows col) ends.0;
      high = is_one (int_at s.highs col) ends.1;
    }

unfit_parts : (b : Bool) (rest : Option ℕ) (col : ℕ) → cond b rest (Some col) ≡ None → (b ≡ true) × (rest ≡ None)
unfit_parts true rest col none = (refl, none)
unfit_parts false rest col none = absurd (none-some col (sym none))

-- without an unfit one each column is a chosen one
pub all_chosen : (n : ℕ) (s : Sides) (row : Row) (cols : List ℕ) → AreTerms n row.terms → first_unfit s row cols ≡ None → All (IsChosen n s row) cols
all_chosen n s row [] terms none = All-nil (IsChosen n s row)
all_chosen n s row (c ∷ cols) terms none =
    let parts = unfit_parts (is_choice s row c) (first_unfit s row cols) c none in
    All-cons (IsChosen n s row) c cols (chosen_of n s row c terms parts.0) (all_chosen n s row cols terms parts.1)

-- what a chosen column does at a point of the box
chosen_contributes : (n : ℕ) (s : Sides) (row : Row) (x : List ℤ) (col : ℕ) → IsChosen n s row col → length x ≡ n → IsInside s x → (pos 0 ≤ℤ contribution row x col) × ((pos 1 ≤ℤ contribution row x col) ⊎ (pos (unsigned_abs (coefficient col row.terms)) ≤ℤ loss s row x col))
chosen_contributes n s row x col chosen long inside =
    let known : col < length x = omega (arith, chosen.known, long) in
    let low : pos 0 ≤ℤ int_at x col = rw chosen.low at (inside.above col known) in
    let high : int_at x col ≤ℤ pos 1 = rw chosen.high at (inside.below col known) in
    rw (chosen.low, chosen.high) (contributes (coefficient col row.terms) (int_at x col) chosen.nonzero (zero_or_one (int_at x col) low high))

sum_above : (a b : ℤ) → pos 0 ≤ℤ a → pos 0 ≤ℤ b → pos 0 ≤ℤ (a +ℤ b)
sum_above a b first second = omega (arith, ints, first, second)

either_step : (u us l ls : ℤ) (m n : ℕ) → pos 0 ≤ℤ u → pos 0 ≤ℤ us → (pos 1 ≤ℤ u) ⊎ (pos m ≤ℤ l) → (pos 1 ≤ℤ us) ⊎ (pos n ≤ℤ ls) → (pos 1 ≤ℤ (u +ℤ us)) ⊎ (pos (m + n) ≤ℤ (l +ℤ ls))
either_step u us l ls m n above more (inl one) other = inl (omega (arith, ints, one, more))
either_step u us l ls m n above more (inr first) (inl one) = inl (omega (arith, ints, one, above))
either_step u us l ls m n above more (inr first) (inr second) = inr (omega (arith, ints, first, second))

cover_either : (n : ℕ) (s : Sides) (row : Row) (x : List ℤ) (cols : List ℕ) → All (IsChosen n s row) cols → length x ≡ n → IsInside s x → (pos 0 ≤ℤ int_sum_by (contribution row x) cols) × ((pos 1 ≤ℤ int_sum_by (contribution row x) cols) ⊎ (pos (chosen_weight row cols) ≤ℤ int_sum_by (loss s row x) cols))
cover_either n s row x [] chosen long inside = (omega (arith, ints), inr (omega (arith, ints)))
cover_either n s row x (c ∷ cols) chosen long inside =
    let first = chosen_contributes n s row x c (All-head (IsChosen n s row) c cols chosen) long inside in
    let later = cover_either n s row x cols (All-tail (IsChosen n s row) c cols chosen) long inside in (
      sum_above (contribution row x c) (int_sum_by (contribution row x) cols) first.0 later.0,
      rw sum_by-cons (either_step (contribution row x c) (int_sum_by (contribution row x) cols) (loss s row x c) (int_sum_by (loss s row x) cols) (unsigned_abs (coefficient c row.terms)) (chosen_weight row cols) first.0 later.0 first.1 later.1),
    )

most_nothing : (low high : ℤ) → int_max (pos 0 *ℤ low) (pos 0 *ℤ high) ≡ pos 0
most_nothing low high =
    let first : pos 0 *ℤ low ≡ pos 0 = omega (arith, ints) in
    let second : pos 0 *ℤ high ≡ pos 0 = omega (arith, ints) in
    rw (first, second) refl

times_nothing : (x : ℤ) → pos 0 *ℤ x ≡ pos 0
times_nothing x = omega (arith, ints)

-- all columns together give as much less than the most as the activity is below the greatest
losses : (n : ℕ) (s : Sides) (row : Row) (x : List ℤ) → AreTerms n row.terms → rise_from 0 (cols_of row.terms) ≡ true → int_sum_below n (loss s row x) ≡ greatest_activity s row.terms -ℤ activity x row.terms
losses n s row x terms rising =
    let most : ℕ → ℤ → ℤ = λ j z. int_max (z *ℤ int_at s.lows j) (z *ℤ int_at s.highs j) in
    let here : ℕ → ℤ → ℤ = λ j z. z *ℤ int_at x j in
    int_sum_below-sub n (λ j. most j (coefficient j row.terms)) (λ j. here j (coefficient j row.terms))
    ∙ ap₂ (λ (y z : ℤ). y -ℤ z)
    (columns_of_terms n 0 row.terms most (λ j. most_nothing (int_at s.lows j) (int_at s.highs j)) rising terms.each)
    (columns_of_terms n 0 row.terms here (λ j. times_nothing (int_at x j)) rising terms.each)

difference_above : (most y : ℤ) → y ≤ℤ most → pos 0 ≤ℤ (most -ℤ y)
difference_above most y le = omega (arith, ints, le)

loss_above : (s : Sides) (row : Row) (x : List ℤ) (j : ℕ) → IsInside s x → j < length x → pos 0 ≤ℤ loss s row x j
loss_above s row x j inside known =
    difference_above (int_max (coefficient j row.terms *ℤ int_at s.lows j) (coefficient j row.terms *ℤ int_at s.highs j)) (coefficient j row.terms *ℤ int_at x j)
    (greatest_product (coefficient j row.terms) (int_at s.lows j) (int_at x j) (int_at s.highs j) (inside.above j known) (inside.below j known))

not_all : (w : ℕ) (u most act least chosen all : ℤ) → (pos 1 ≤ℤ u) ⊎ (pos w ≤ℤ chosen) → (pos 0 +ℤ chosen) ≤ℤ all → all ≡ most -ℤ act → least ≤ℤ act → (most -ℤ least) <ℤ pos w → pos 1 ≤ℤ u
not_all w u most act least chosen all (inl one) some same met above = one
not_all w u most act least chosen all (inr heavy) some same met above = absurd (omega (arith, ints, heavy, some, same, met, above))

take_back : (a u : ℤ) (m : ℕ) → u ≡ a +ℤ pos m → pos 1 ≤ℤ u → (pos 1 -ℤ pos m) ≤ℤ a
take_back a u m same one = omega (arith, ints, same, one)

-- a point of the box that meets the row meets a cover of it
pub cover_row_met : (n : ℕ) (s : Sides) (row : Row) (cols : List ℕ) (x : List ℤ) → AreTerms n row.terms → rise_from 0 (cols_of row.terms) ≡ true → length x ≡ n → IsInside s x → IsMet x row → rise_from 0 cols ≡ true → first_unfit s row cols ≡ None → is_cover s row cols ≡ true → IsMet x (cover_row row cols)
cover_row_met n s row cols x terms rising long inside met rise none cover =
    let chosen = all_chosen n s row cols terms none in
    let either = cover_either n s row x cols chosen long inside in
    let some = chosen_le n 0 (loss s row x) cols (λ j h. loss_above s row x j inside (omega (arith, h, long))) rise (λ k d h. (chosen k d h).known) (omega arith) in
    let one = not_all (chosen_weight row cols) (int_sum_by (contribution row x) cols) (greatest_activity s row.terms) (activity x row.terms) row.least (int_sum_by (loss s row x) cols) (int_sum_below n (loss s row x)) either.1 some (losses n s row x terms rising) met.reached (int_lt-true (slack s row) (pos (chosen_weight row cols)) cover) in
    record { reached = take_back (activity x (map (cover_term row) cols)) (int_sum_by (contribution row x) cols) (sum_by (negative_one row) cols) (contributions row x cols) one }
