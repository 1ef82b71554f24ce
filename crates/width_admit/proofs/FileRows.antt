use Rattle.std.proofs.Common.{◌≡◌, ◌∙◌, ◌↔◌, ℕ, zero, suc, ◌+◌, ◌-◌, ◌^◌, ◌<◌, ◌==◌, Bool, true, false, cond, List, [], ◌∷◌, ◌++◌, map, ℤ, pos, negsuc, neg_ℤ, ◌+ℤ◌, ◌*ℤ◌, ◌≤ℤ◌, ◌<ℤ◌, Option, Some, None, option_map, option_to_list, refl, sym, ap, subst, arith}
use Rattle.std.proofs.lemmas.Int.{ints, by_lt_z}
use Rattle.std.proofs.lemmas.Bool.{and_parts}
use Rattle.std.proofs.lemmas.List.Elements.{All-append, All-cons, All-nil, All-head, All-tail}
use Rattle.std.proofs.lemmas.List.Folds.{list_all-append}
use Rattle.ip_core.specs.Numbers.{int_at, int_sum_by}
use Rattle.ip_core.specs.Rows.{IsMet, AreMet, activity}
use Rattle.ip_core.specs.declared.row.Row.{Row}
use Rattle.ip_core.specs.declared.row.Term.{Term}
use Rattle.ip_core.proofs.IntSums.{int_sum_by-append}
use Rattle.ip_core.proofs.IntProducts.{add_mul}
use Rattle.mps_model.specs.declared.model.RowKind.{RowKind}
use Rattle.mps_model.specs.declared.model.RowKind.TheVariants.{Less, Greater, Equal}
use Rattle.mps_model.specs.declared.model.MpsEntry.{MpsEntry}
use Rattle.mps_model.specs.declared.model.MpsCol.{MpsCol}
use Rattle.mps_model.specs.declared.model.MpsRow.{MpsRow}
use Rattle.width_admit.specs.Exact.{units, is_whole, whole, are_whole, least_from, exponent_of}
use Rattle.width_admit.specs.Sides.{sides, exact_sides}
use Rattle.width_admit.specs.ExactRows.{ExactRow, entry_terms, exact_terms, exact_row, row_exponent, whole_terms, negated_terms, whole_side, lower_rows, upper_rows, admitted_rows, rows_from}
use Rattle.width_admit.specs.FilePoints.{own_units, coefficient_in, sum_from, row_sum, IsAllowed, IsFileRowMet, AreFileRowsMet}
use Rattle.width_admit.proofs.Quotients.{quotient_times, product_of_sum}
use Rattle.width_admit.proofs.Decimals.{ten_pow_pos, times_of_whole}

-- a point meets the rows of a file exactly where it meets the rows of at least that they become

-- ---- products

zero_product : (a : ℤ) → pos 0 *ℤ a ≡ pos 0
zero_product a = omega (arith, ints)

times_zero : (a : ℤ) → a *ℤ pos 0 ≡ pos 0
times_zero a = omega (arith, ints)

times_suc : (a : ℤ) (q : ℕ) → a *ℤ pos (suc q) ≡ a +ℤ (a *ℤ pos q)
times_suc a q = omega (arith, ints)

-- a natural factor goes to the first of two others
pub factor_first : (a b : ℤ) (q : ℕ) → (a *ℤ b) *ℤ pos q ≡ (a *ℤ pos q) *ℤ b
factor_first a b zero = times_zero (a *ℤ b) ∙ sym (ap (λ z. z *ℤ b) (times_zero a) ∙ zero_product b)
factor_first a b (suc q) =
    let rest = factor_first a b q in
    let left = times_suc (a *ℤ b) q in
    let right : (a *ℤ pos (suc q)) *ℤ b ≡ (a *ℤ b) +ℤ ((a *ℤ pos q) *ℤ b) = ap (λ z. z *ℤ b) (times_suc a q) ∙ add_mul a (a *ℤ pos q) b in
    omega (arith, ints, rest, left, right)

-- a natural factor keeps the order
pub times-le : (q : ℕ) (a b : ℤ) → a ≤ℤ b → (a *ℤ pos q) ≤ℤ (b *ℤ pos q)
times-le zero a b le = omega (arith, ints)
times-le (suc q) a b le = let rest = times-le q a b le in omega (arith, ints, rest, le)

times-lt : (q : ℕ) (a b : ℤ) → a <ℤ b → (a *ℤ pos (suc q)) <ℤ (b *ℤ pos (suc q))
times-lt zero a b lt = omega (arith, ints, lt)
times-lt (suc q) a b lt = let rest = times-lt q a b lt in omega (arith, ints, rest, lt)

-- and one above 0 may be taken off both sides
pub le_of_times : (q : ℕ) (a b : ℤ) → 0 < q → (a *ℤ pos q) ≤ℤ (b *ℤ pos q) → a ≤ℤ b
le_of_times zero a b positive le = absurd (omega (arith, positive))
le_of_times (suc q) a b positive le = by_lt_z b a (λ below. absurd (let more = times-lt q b a below in omega (arith, ints, more, le))) (λ above. above)

-- ---- the terms of a row add up to the row's sum

by_row : (b : Bool) (j : ℕ) (x : List ℤ) (u s : ℤ) (ts : List Term) → activity x ts ≡ s *ℤ int_at x j → activity x (cond b (record { col = j; coef = u } ∷ ts) ts) ≡ (cond b u (pos 0) +ℤ s) *ℤ int_at x j
by_row true j x u s ts rest = let sum = add_mul u s (int_at x j) in omega (arith, ints, sum, rest)
by_row false j x u s ts rest = let sum = add_mul (pos 0) s (int_at x j) in let none = zero_product (int_at x j) in omega (arith, ints, sum, none, rest)

entry_activity : (i j : ℕ) (x : List ℤ) (es : List MpsEntry) → activity x (entry_terms i j es) ≡ int_sum_by (own_units i) es *ℤ int_at x j
entry_activity i j x [] = sym (zero_product (int_at x j))
entry_activity i j x (e ∷ es) = by_row (e.row == i) j x (units e.value) (int_sum_by (own_units i) es) (entry_terms i j es) (entry_activity i j x es)

-- equal parts have equal sums
pub same_sum : (a b c d : ℤ) → a ≡ c → b ≡ d → a +ℤ b ≡ c +ℤ d
same_sum a b c d first second = rw (first, second) refl

exact_activity : (i j : ℕ) (x : List ℤ) (cols : List MpsCol) → activity x (exact_terms i j cols) ≡ sum_from (coefficient_in i) x j cols
exact_activity i j x [] = refl
exact_activity i j x (c ∷ cs) =
    int_sum_by-append (λ (t : Term). t.coef *ℤ int_at x t.col) (entry_terms i j c.entries) (exact_terms i (j + 1) cs)
    ∙ same_sum (activity x (entry_terms i j c.entries)) (activity x (exact_terms i (j + 1) cs)) (coefficient_in i c *ℤ int_at x j) (sum_from (coefficient_in i) x (j + 1) cs) (entry_activity i j x c.entries) (exact_activity i (j + 1) x cs)

-- ---- the same in whole numbers, and negated

-- units that are whole at k are their whole number times 10^(18 - k)
pub whole_times : (k : ℕ) (z : ℤ) → is_whole k z ≡ true → whole k z *ℤ pos (10 ^ (18 - k)) ≡ z
whole_times k z h = quotient_times z (10 ^ (18 - k)) (ten_pow_pos (18 - k)) (times_of_whole k z h)

pub whole_part : (k : ℕ) (z v : ℤ) → is_whole k z ≡ true → (whole k z *ℤ v) *ℤ pos (10 ^ (18 - k)) ≡ z *ℤ v
whole_part k z v h = factor_first (whole k z) v (10 ^ (18 - k)) ∙ ap (λ y. y *ℤ v) (whole_times k z h)

whole_activity : (k : ℕ) (x : List ℤ) (ts : List Term) → are_whole (map (λ (t : Term). t.coef) ts) k ≡ true → activity x (whole_terms k ts) *ℤ pos (10 ^ (18 - k)) ≡ activity x ts
whole_activity k x [] h = zero_product (pos (10 ^ (18 - k)))
whole_activity k x (t ∷ ts) h =
    let parts = and_parts (is_whole k t.coef) _ h in
    product_of_sum (whole k t.coef *ℤ int_at x t.col) (activity x (whole_terms k ts)) (10 ^ (18 - k))
    ∙ same_sum ((whole k t.coef *ℤ int_at x t.col) *ℤ pos (10 ^ (18 - k))) (activity x (whole_terms k ts) *ℤ pos (10 ^ (18 - k))) (t.coef *ℤ int_at x t.col) (activity x ts) (whole_part k t.coef (int_at x t.col) parts.0) (whole_activity k x ts parts.1)

pub neg_product : (a b : ℤ) → neg_ℤ a *ℤ b ≡ neg_ℤ (a *ℤ b)
neg_product a b = let sum = add_mul a (neg_ℤ a) b in let none : a +ℤ neg_ℤ a ≡ pos 0 = omega (arith, ints) in let whole = ap (λ z. z *ℤ b) none ∙ zero_product b in omega (arith, ints, sum, whole)

negated_activity : (x : List ℤ) (ts : List Term) → activity x (negated_terms ts) ≡ neg_ℤ (activity x ts)
negated_activity x [] = refl
negated_activity x (t ∷ ts) = let first = neg_product t.coef (int_at x t.col) in let rest = negated_activity x ts in omega (arith, ints, first, rest)

-- ---- the rows of one row's sides

-- a sum is at least a side, where there is one
abbrev IsAbove : Option ℤ → ℤ → Type 0
IsAbove None sum = Unit {0}
IsAbove (Some b) sum = b ≤ℤ sum

-- and at most a side
abbrev IsBelow : Option ℤ → ℤ → Type 0
IsBelow None sum = Unit {0}
IsBelow (Some b) sum = sum ≤ℤ b

met_none : (x : List ℤ) → AreMet x []
met_none x = record { each = All-nil (IsMet x) }

met_one : (x : List ℤ) (row : Row) → IsMet x row → AreMet x (row ∷ [])
met_one x row met = record { each = All-cons (IsMet x) row [] met (All-nil (IsMet x)) }

met_both : (x : List ℤ) (front rest : List Row) → AreMet x front → AreMet x rest → AreMet x (front ++ rest)
met_both x front rest first second = record { each = All-append (IsMet x) front rest first.each second.each }

met_parts : (x : List ℤ) (front rest : List Row) → AreMet x (front ++ rest) → AreMet x front × AreMet x rest
met_parts x [] rest met = (met_none x, met)
met_parts x (row ∷ front) rest met =
    let later = met_parts x front rest (record { each = All-tail (IsMet x) row (front ++ rest) met.each }) in
    (record { each = All-cons (IsMet x) row front (All-head (IsMet x) row (front ++ rest) met.each) later.0.each }, later.1)

lower_met : (k : ℕ) (x : List ℤ) (ts : List Term) (b : ℤ) → are_whole (map (λ (t : Term). t.coef) ts) k ≡ true → is_whole k b ≡ true → (b ≤ℤ activity x ts) ↔ (whole k b ≤ℤ activity x (whole_terms k ts))
lower_met k x ts b terms side =
    let q = 10 ^ (18 - k) in
    let sum = whole_activity k x ts terms in
    let least = whole_times k b side in (
      λ le. le_of_times q (whole k b) (activity x (whole_terms k ts)) (ten_pow_pos (18 - k)) (rw (sum, least) le),
      λ le. let more = times-le q (whole k b) (activity x (whole_terms k ts)) le in rw (sum, least) at more,
    )

upper_met : (k : ℕ) (x : List ℤ) (ts : List Term) (b : ℤ) → are_whole (map (λ (t : Term). t.coef) ts) k ≡ true → is_whole k b ≡ true → (activity x ts ≤ℤ b) ↔ (neg_ℤ (whole k b) ≤ℤ activity x (negated_terms (whole_terms k ts)))
upper_met k x ts b terms side =
    let q = 10 ^ (18 - k) in
    let sum = whole_activity k x ts terms in
    let most = whole_times k b side in
    let turned = negated_activity x (whole_terms k ts) in (
      λ le. let small = le_of_times q (activity x (whole_terms k ts)) (whole k b) (ten_pow_pos (18 - k)) (rw (sum, most) le) in omega (arith, ints, turned, small),
      λ le. let small : activity x (whole_terms k ts) ≤ℤ whole k b = omega (arith, ints, turned, le) in let more = times-le q (activity x (whole_terms k ts)) (whole k b) small in rw (sum, most) at more,
    )

abbrev IsWholeSide : ℕ → Option ℤ → Type 0
IsWholeSide k None = Unit {0}
IsWholeSide k (Some b) = is_whole k b ≡ true

lower_side : (k : ℕ) (x : List ℤ) (ts : List Term) (side : Option ℤ) → are_whole (map (λ (t : Term). t.coef) ts) k ≡ true → IsWholeSide k side → IsAbove side (activity x ts) ↔ AreMet x (lower_rows (whole_terms k ts) (whole_side k side))
lower_side k x ts None terms side = (λ h. met_none x, λ h. tt)
lower_side k x ts (Some b) terms side =
    let both = lower_met k x ts b terms side in (
      λ le. met_one x (record { terms = whole_terms k ts; least = whole k b }) (record { reached = both.0 le }),
      λ met. both.1 (met.each 0 (record { terms = whole_terms k ts; least = whole k b }) (omega arith)).reached,
    )

upper_side : (k : ℕ) (x : List ℤ) (ts : List Term) (side : Option ℤ) → are_whole (map (λ (t : Term). t.coef) ts) k ≡ true → IsWholeSide k side → IsBelow side (activity x ts) ↔ AreMet x (upper_rows (whole_terms k ts) (whole_side k side))
upper_side k x ts None terms side = (λ h. met_none x, λ h. tt)
upper_side k x ts (Some b) terms side =
    let both = upper_met k x ts b terms side in (
      λ le. met_one x (record { terms = negated_terms (whole_terms k ts); least = neg_ℤ (whole k b) }) (record { reached = both.0 le }),
      λ met. both.1 (met.each 0 (record { terms = negated_terms (whole_terms k ts); least = neg_ℤ (whole k b) }) (omega arith)).reached,
    )

-- ---- the exponent makes all of them whole

-- at 18 all units are whole
whole_at_last : (zs : List ℤ) → are_whole zs 18 ≡ true
whole_at_last [] = refl
whole_at_last (z ∷ zs) = let one : is_whole 18 z ≡ true = grind arith in rw one (whole_at_last zs)

by_test : (zs : List ℤ) (k rest : ℕ) (b : Bool) → are_whole zs k ≡ b → are_whole zs rest ≡ true → are_whole zs (cond b k rest) ≡ true
by_test zs k rest true same later = same
by_test zs k rest false same later = later

least_is_whole : (zs : List ℤ) (n start : ℕ) → start + n ≡ 18 → are_whole zs (least_from n (are_whole zs) start) ≡ true
least_is_whole zs zero start last = let here : start ≡ 18 = omega (arith, last) in rw here (whole_at_last zs)
least_is_whole zs (suc n) start last = by_test zs start (least_from n (are_whole zs) (start + 1)) (are_whole zs start) refl (least_is_whole zs n (start + 1) (omega (arith, last)))

pub exponent_is_whole : (zs : List ℤ) → are_whole zs (exponent_of zs) ≡ true
exponent_is_whole zs = least_is_whole zs 18 0 (omega arith)

pub whole_parts : (k : ℕ) (xs ys : List ℤ) → are_whole (xs ++ ys) k ≡ true → (are_whole xs k ≡ true) × (are_whole ys k ≡ true)
whole_parts k xs ys h = and_parts (are_whole xs k) (are_whole ys k) (sym (list_all-append (is_whole k) xs ys) ∙ h)

whole_side_of : (k : ℕ) (side : Option ℤ) → are_whole (option_to_list side) k ≡ true → IsWholeSide k side
whole_side_of k None h = tt
whole_side_of k (Some b) h = (and_parts (is_whole k b) true h).0

-- ---- the rows of a row and of all rows

sides_allowed : (kind : RowKind) (b : ℤ) (r : Option ℤ) (sum : ℤ) → IsAllowed kind b r sum ↔ (IsAbove (sides kind b r).lower sum × IsBelow (sides kind b r).upper sum)
sides_allowed Less b None sum = (λ h. (tt, h), λ h. h.1)
sides_allowed Less b (Some r) sum = (λ h. h, λ h. h)
sides_allowed Greater b None sum = (λ h. (h, tt), λ h. h.0)
sides_allowed Greater b (Some r) sum = (λ h. h, λ h. h)
sides_allowed Equal b None sum = (λ h. (omega (arith, ints, h), omega (arith, ints, h)), λ h. let above = h.0 in let below = h.1 in omega (arith, ints, above, below))
sides_allowed Equal b (Some (pos r)) sum = (λ h. h, λ h. h)
sides_allowed Equal b (Some (negsuc r)) sum = (λ h. h, λ h. h)

row_met : (x : List ℤ) (r : ExactRow) → (IsAbove r.sides.lower (activity x r.terms) × IsBelow r.sides.upper (activity x r.terms)) ↔ AreMet x (admitted_rows r)
row_met x r =
    let k = row_exponent r in
    let numbers = map (λ (t : Term). t.coef) r.terms in
    let last = whole_parts k (numbers ++ option_to_list r.sides.lower) (option_to_list r.sides.upper) (exponent_is_whole (numbers ++ option_to_list r.sides.lower ++ option_to_list r.sides.upper)) in
    let first = whole_parts k numbers (option_to_list r.sides.lower) last.0 in
    let low = lower_side k x r.terms r.sides.lower first.0 (whole_side_of k r.sides.lower first.1) in
    let high = upper_side k x r.terms r.sides.upper first.0 (whole_side_of k r.sides.upper last.1) in (
      λ h. met_both x (lower_rows (whole_terms k r.terms) (whole_side k r.sides.lower)) (upper_rows (whole_terms k r.terms) (whole_side k r.sides.upper)) (low.0 h.0) (high.0 h.1),
      λ met. let both = met_parts x (lower_rows (whole_terms k r.terms) (whole_side k r.sides.lower)) (upper_rows (whole_terms k r.terms) (whole_side k r.sides.upper)) met in (low.1 both.0, high.1 both.1),
    )

file_row : (cols : List MpsCol) (x : List ℤ) (i : ℕ) (row : MpsRow) → IsFileRowMet cols x i row ↔ AreMet x (admitted_rows (exact_row cols i row))
file_row cols x i row =
    let s = exact_sides row in
    let sum : activity x (exact_terms i 0 cols) ≡ row_sum cols x i = exact_activity i 0 x cols in
    let allowed = sides_allowed row.kind (units row.rhs) (option_map units row.range) (row_sum cols x i) in
    let met = row_met x (exact_row cols i row) in (
      λ h. met.0 (subst (λ z. IsAbove s.lower z × IsBelow s.upper z) (sym sum) (allowed.0 h.allowed)),
      λ h. record { allowed = allowed.1 (subst (λ z. IsAbove s.lower z × IsBelow s.upper z) sum (met.1 h)) },
    )

-- a point meets the rows of the file exactly where it meets the rows of at least
pub file_rows : (cols : List MpsCol) (x : List ℤ) (i : ℕ) (rows : List MpsRow) → AreFileRowsMet cols x i rows ↔ AreMet x (rows_from cols i rows)
file_rows cols x i [] = (λ h. met_none x, λ h. tt)
file_rows cols x i (row ∷ rows) =
    let here = file_row cols x i row in
    let later = file_rows cols x (i + 1) rows in (
      λ h. met_both x (admitted_rows (exact_row cols i row)) (rows_from cols (i + 1) rows) (here.0 h.0) (later.0 h.1),
      λ met. let both = met_parts x (admitted_rows (exact_row cols i row)) (rows_from cols (i + 1) rows) met in (here.1 both.0, later.1 both.1),
    )
