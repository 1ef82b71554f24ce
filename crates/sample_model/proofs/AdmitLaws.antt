use Rattle.std.proofs.Common.{◌≡◌, ◌∙◌, ◌≤◌, ◌<◌, ◌+◌, ◌-◌, ◌*◌, ◌^◌, ◌==◌, ◌||◌, ◌⊎◌, inl, inr, ℕ, zero, suc, Bool, true, false, cond, nat_lt, List, [], ◌∷◌, ◌++◌, length, map, All, option_map, ℤ, pos, neg_ℤ, ◌+ℤ◌, ◌*ℤ◌, unsigned_abs, Option, Some, None, refl, sym, ap, subst, arith}
use Rattle.std.specs.Int.{int_div_euclid}
use Rattle.std.specs.List.{list_all, list_any}
use Rattle.std.specs.Option.{option_or}
use Rattle.std.proofs.lemmas.Bool.{cases_lt}
use Rattle.std.proofs.lemmas.Bool.Decides.{nat_tests}
use Rattle.std.proofs.lemmas.Int.{ints, unsigned_abs-mul}
use Rattle.std.proofs.lemmas.List.{length-map, length-append, get_or_past}
use Rattle.std.proofs.lemmas.List.Elements.{All-nil, All-cons, All-head, All-tail, All-append}
use Rattle.std.proofs.lemmas.List.Sums.{sum_by-le}
use Rattle.std.proofs.Math.Nat.{mul-le-mul_right}
use Rattle.ip_core.specs.Decimals.{Number}
use Rattle.ip_core.specs.Numbers.{int_at, sum_below}
use Rattle.ip_core.specs.Sides.{Sides, HasLimits, reach}
use Rattle.ip_core.specs.Rows.{part_width, term_width, row_width}
use Rattle.ip_core.specs.Models.{term_count, objective_width}
use Rattle.ip_core.specs.declared.row.Row.{Row}
use Rattle.ip_core.specs.declared.row.Term.{Term}
use Rattle.ip_core.specs.declared.limits.TheConstants.{MAX_COLUMNS, MAX_WIDTH, MAX_DECIMALS}
use Rattle.mps_model.specs.declared.model.MpsRow.{MpsRow}
use Rattle.mps_model.specs.declared.model.MpsEntry.{MpsEntry}
use Rattle.mps_model.specs.declared.model.MpsCol.{MpsCol}
use Rattle.width_admit.specs.declared.refusal.Refusal.{Refusal}
use Rattle.width_admit.specs.declared.refusal.Refusal.TheVariants.{RowTooFine, RowTooWide, ObjectiveTooWide}
use Rattle.width_admit.specs.Admission.{minimised_number, first_from, refusal_if}
use Rattle.width_admit.specs.Columns.{is_continuous, has_negative_upper, is_unbounded, has_large_bound}
use Rattle.width_admit.specs.Exact.{units, is_whole, whole, are_whole, least_from, exponent_of}
use Rattle.width_admit.specs.ExactRows.{ExactRow, entry_terms, exact_terms, exact_row, row_exponent, whole_term, whole_terms, negated_term, negated_terms, whole_rows, admitted_rows, rows_from, is_too_fine, is_too_wide}
use Rattle.width_admit.specs.Gathered.{IsColumn}
use Rattle.width_admit.specs.Sides.{exact_sides}
use Rattle.width_admit.proofs.Coefficients.{reach_small}
use Rattle.width_admit.proofs.Decimals.{units_at, whole_of_times}
use Rattle.width_admit.proofs.Quotients.{quotient_of_product}
use Rattle.width_admit.proofs.RowShapes.{exact_short}
use Rattle.sample_model.proofs.WholeLaws.{HasSize, turned_size}

-- what admission makes of rows and columns of small whole numbers

-- units that are a whole number, at most so large
pub record IsWholeUnits (most : ℕ) (z : ℤ) : Type 0 where
  pub times : ℤ
  pub same : z ≡ times *ℤ pos (10 ^ (18 - 0))
  pub small : unsigned_abs times ≤ most

size_is : (m x : ℤ) (e n : ℕ) → x ≡ pos e → unsigned_abs m * 10 ^ e ≡ n → unsigned_abs (m *ℤ pos (10 ^ unsigned_abs (x +ℤ pos 0))) ≡ n
size_is m x e n is value =
    let power : unsigned_abs (x +ℤ pos 0) ≡ e = omega (arith, ints, is) in
    ap (λ k. unsigned_abs (m *ℤ pos (10 ^ k))) power ∙ unsigned_abs-mul m (pos (10 ^ e)) ∙ value

pub units_of : (n most : ℕ) (d : Number) → HasSize n d → n ≤ most → IsWholeUnits most (units d)
units_of n most d size few =
    let is = size.is in
    record {
      times = d.mantissa *ℤ pos (10 ^ unsigned_abs (d.exponent +ℤ pos 0));
      same = units_at d 0 (omega arith) (omega (arith, ints, is)) (omega (arith, ints, is));
      small = omega (arith, size_is d.mantissa d.exponent size.exponent n is size.value, few);
    }

units_whole : (most : ℕ) (z : ℤ) → IsWholeUnits most z → is_whole 0 z ≡ true
units_whole most z u = whole_of_times 0 z (record { times = u.times; same = u.same })

whole_small : (most : ℕ) (z : ℤ) → IsWholeUnits most z → unsigned_abs (whole 0 z) ≤ most
whole_small most z u =
    let here : whole 0 z ≡ u.times = ap (λ y. int_div_euclid y (pos (10 ^ (18 - 0)))) u.same ∙ quotient_of_product u.times (10 ^ (18 - 0)) (omega arith) in
    rw here u.small

-- ---- exponents

first_passes : (n start : ℕ) (test : ℕ → Bool) → test start ≡ true → least_from (suc n) test start ≡ start
first_passes n start test h = rw h refl

all_whole : (zs : List ℤ) → All (λ z. is_whole 0 z ≡ true) zs → list_all (is_whole 0) zs ≡ true
all_whole [] all = refl
all_whole (z ∷ zs) all = rw (All-head (λ y. is_whole 0 y ≡ true) z zs all, all_whole zs (All-tail (λ y. is_whole 0 y ≡ true) z zs all)) refl

exponent_zero : (zs : List ℤ) → All (λ z. is_whole 0 z ≡ true) zs → exponent_of zs ≡ 0
exponent_zero zs all = first_passes 17 0 (are_whole zs) (all_whole zs all)

-- ---- rows

-- a column that nothing refuses, of small whole numbers
pub record IsPlainCol (c : MpsCol) : Type 0 where
  pub continuous : is_continuous c ≡ false
  pub negative : has_negative_upper c ≡ false
  pub unbounded : is_unbounded None c ≡ false
  pub large : has_large_bound None c ≡ false
  pub cost : IsWholeUnits 100 (units c.cost)
  pub entries : All (λ (e : MpsEntry). IsWholeUnits 50 (units e.value)) c.entries

-- a row of at most, whose right-hand side is a small whole number
pub record IsPlainRow (row : MpsRow) : Type 0 where
  pub sides : exact_sides row ≡ record { lower = None; upper = Some (units row.rhs) }
  pub side : IsWholeUnits (2 ^ 30) (units row.rhs)

abbrev IsPlainTerm : Term → Type 0
IsPlainTerm t = IsWholeUnits 50 t.coef

either : (P : List Term → Type 0) (b : Bool) (xs ys : List Term) → P xs → P ys → P (cond b xs ys)
either P true xs ys first second = first
either P false xs ys first second = second

entry_plain : (i j : ℕ) (es : List MpsEntry) → All (λ (e : MpsEntry). IsWholeUnits 50 (units e.value)) es → All IsPlainTerm (entry_terms i j es)
entry_plain i j [] all = All-nil IsPlainTerm
entry_plain i j (e ∷ es) all =
    let rest = entry_plain i j es (All-tail (λ (x : MpsEntry). IsWholeUnits 50 (units x.value)) e es all) in
    let here = All-head (λ (x : MpsEntry). IsWholeUnits 50 (units x.value)) e es all in
    either (All IsPlainTerm) (e.row == i) (record { col = j; coef = units e.value } ∷ entry_terms i j es) (entry_terms i j es)
    (All-cons IsPlainTerm (record { col = j; coef = units e.value }) (entry_terms i j es) here rest) rest

terms_plain : (i j : ℕ) (cols : List MpsCol) → All IsPlainCol cols → All IsPlainTerm (exact_terms i j cols)
terms_plain i j [] all = All-nil IsPlainTerm
terms_plain i j (c ∷ cs) all =
    All-append IsPlainTerm (entry_terms i j c.entries) (exact_terms i (j + 1) cs)
    (entry_plain i j c.entries (All-head IsPlainCol c cs all).entries) (terms_plain i (j + 1) cs (All-tail IsPlainCol c cs all))

abbrev upper_row : List Term → ℤ → ExactRow
upper_row terms b = record { terms = terms; sides = record { lower = None; upper = Some b } }

numbers_whole : (ts : List Term) → All IsPlainTerm ts → All (λ z. is_whole 0 z ≡ true) (map (λ (t : Term). t.coef) ts)
numbers_whole [] all = All-nil (λ z. is_whole 0 z ≡ true)
numbers_whole (t ∷ ts) all =
    All-cons (λ z. is_whole 0 z ≡ true) t.coef (map (λ (x : Term). x.coef) ts) (units_whole 50 t.coef (All-head IsPlainTerm t ts all)) (numbers_whole ts (All-tail IsPlainTerm t ts all))

upper_exponent : (ts : List Term) (b : ℤ) → All IsPlainTerm ts → IsWholeUnits (2 ^ 30) b → row_exponent (upper_row ts b) ≡ 0
upper_exponent ts b all side =
    let P : ℤ → Type 0 = λ z. is_whole 0 z ≡ true in
    exponent_zero (map (λ (t : Term). t.coef) ts ++ [] ++ b ∷ [])
    (All-append P (map (λ (t : Term). t.coef) ts ++ []) (b ∷ []) (All-append P (map (λ (t : Term). t.coef) ts) [] (numbers_whole ts all) (All-nil P)) (All-cons P b [] (units_whole (2 ^ 30) b side) (All-nil P)))

-- the one row of at least that it becomes
abbrev turned_row : List Term → ℤ → Row
turned_row ts b = record { terms = negated_terms (whole_terms 0 ts); least = neg_ℤ (whole 0 b) }

plain_exact : (cols : List MpsCol) (i : ℕ) (row : MpsRow) → IsPlainRow row → exact_row cols i row ≡ upper_row (exact_terms i 0 cols) (units row.rhs)
plain_exact cols i row plain = ap (λ s. record { terms = exact_terms i 0 cols; sides = s }) plain.sides

exponent_plain : (cols : List MpsCol) (i : ℕ) (row : MpsRow) → All IsPlainCol cols → IsPlainRow row → row_exponent (exact_row cols i row) ≡ 0
exponent_plain cols i row all plain = ap row_exponent (plain_exact cols i row plain) ∙ upper_exponent (exact_terms i 0 cols) (units row.rhs) (terms_plain i 0 cols all) plain.side

admitted_one : (cols : List MpsCol) (i : ℕ) (row : MpsRow) → All IsPlainCol cols → IsPlainRow row → admitted_rows (exact_row cols i row) ≡ turned_row (exact_terms i 0 cols) (units row.rhs) ∷ []
admitted_one cols i row all plain =
    let ts = exact_terms i 0 cols in
    let b = units row.rhs in
    ap admitted_rows (plain_exact cols i row plain) ∙ ap (λ k. whole_rows k (upper_row ts b)) (upper_exponent ts b (terms_plain i 0 cols all) plain.side)

pub row_not_fine : (cols : List MpsCol) (i : ℕ) (row : MpsRow) → All IsPlainCol cols → IsPlainRow row → is_too_fine (exact_row cols i row) ≡ false
row_not_fine cols i row all plain = ap (nat_lt MAX_DECIMALS) (exponent_plain cols i row all plain)

-- ---- widths

term_small : (box : Sides) (t : Term) → HasLimits box → IsPlainTerm t → term_width box (negated_term (whole_term 0 t)) ≤ 50 * 2 ^ 31
term_small box t limits plain =
    let near = reach_small box t.col limits in
    let size = whole_small 50 t.coef plain in
    let first : unsigned_abs (neg_ℤ (whole 0 t.coef)) * reach box t.col ≤ 50 * reach box t.col = mul-le-mul_right (reach box t.col) (omega (arith, turned_size (whole 0 t.coef), size)) in
    omega (arith, first, near)

terms_small : (box : Sides) (ts : List Term) → HasLimits box → All IsPlainTerm ts → All (λ (t : Term). term_width box t ≤ 50 * 2 ^ 31) (negated_terms (whole_terms 0 ts))
terms_small box [] limits all = All-nil (λ (t : Term). term_width box t ≤ 50 * 2 ^ 31)
terms_small box (t ∷ ts) limits all =
    All-cons (λ (x : Term). term_width box x ≤ 50 * 2 ^ 31) (negated_term (whole_term 0 t)) (negated_terms (whole_terms 0 ts)) (term_small box t limits (All-head IsPlainTerm t ts all))
    (terms_small box ts limits (All-tail IsPlainTerm t ts all))

turned_length : (ts : List Term) → length (negated_terms (whole_terms 0 ts)) ≡ length ts
turned_length ts = length-map (whole_terms 0 ts) negated_term ∙ length-map ts (whole_term 0)

turned_narrow : (box : Sides) (ts : List Term) (b : ℤ) → HasLimits box → All IsPlainTerm ts → IsWholeUnits (2 ^ 30) b → length ts ≤ MAX_COLUMNS → row_width box (turned_row ts b) ≤ MAX_WIDTH
turned_narrow box ts b limits all side few =
    let sum = sum_by-le (term_width box) (50 * 2 ^ 31) (negated_terms (whole_terms 0 ts)) (terms_small box ts limits all) in
    let long = turned_length ts in
    let least = whole_small (2 ^ 30) b side in
    let size = turned_size (whole 0 b) in
    omega (arith, sum, long, least, size, few)

pub not_above : (most n : ℕ) → n ≤ most → nat_lt most n ≡ false
not_above most n few = grind (arith, nat_tests)

no_other : (b : Bool) → b ≡ false → (b || false) ≡ false
no_other b h = rw h refl

pub row_not_wide : (rows : ℕ) (box : Sides) (cols : List MpsCol) (i : ℕ) (row : MpsRow) → HasLimits box → All IsPlainCol cols → All (IsColumn rows) cols → length cols ≤ MAX_COLUMNS → IsPlainRow row → is_too_wide box (exact_row cols i row) ≡ false
row_not_wide rows box cols i row limits all valid few plain =
    let ts = exact_terms i 0 cols in
    let short = exact_short rows i 0 cols valid in
    let narrow = turned_narrow box ts (units row.rhs) limits (terms_plain i 0 cols all) plain.side (omega (arith, short, few)) in
    ap (list_any (λ (r : Row). nat_lt MAX_WIDTH (row_width box r))) (admitted_one cols i row all plain)
    ∙ no_other (nat_lt MAX_WIDTH (row_width box (turned_row ts (units row.rhs)))) (not_above MAX_WIDTH (row_width box (turned_row ts (units row.rhs))) narrow)

-- ---- counts

pub rows_count : (cols : List MpsCol) (i : ℕ) (rows : List MpsRow) → All IsPlainCol cols → All IsPlainRow rows → length (rows_from cols i rows) ≡ length rows
rows_count cols i [] all plain = refl
rows_count cols i (row ∷ rows) all plain =
    let parts = length-append (admitted_rows (exact_row cols i row)) (rows_from cols (i + 1) rows) in
    let one : length (admitted_rows (exact_row cols i row)) ≡ 1 = ap length (admitted_one cols i row all (All-head IsPlainRow row rows plain)) in
    omega (arith, parts, one, rows_count cols (i + 1) rows all (All-tail IsPlainRow row rows plain))

rows_short : (n : ℕ) (cols : List MpsCol) (i : ℕ) (rows : List MpsRow) → All IsPlainCol cols → All (IsColumn n) cols → All IsPlainRow rows → All (λ (r : Row). length r.terms ≤ length cols) (rows_from cols i rows)
rows_short n cols i [] all valid plain = All-nil (λ (r : Row). length r.terms ≤ length cols)
rows_short n cols i (row ∷ rows) all valid plain =
    let P : Row → Type 0 = λ (r : Row). length r.terms ≤ length cols in
    let ts = exact_terms i 0 cols in
    let here : length (negated_terms (whole_terms 0 ts)) ≤ length cols = omega (arith, turned_length ts, exact_short n i 0 cols valid) in
    let one : All P (admitted_rows (exact_row cols i row)) =
    subst (All P) (sym (admitted_one cols i row all (All-head IsPlainRow row rows plain))) (All-cons P (turned_row ts (units row.rhs)) [] here (All-nil P))
    in
    All-append P (admitted_rows (exact_row cols i row)) (rows_from cols (i + 1) rows) one (rows_short n cols (i + 1) rows all valid (All-tail IsPlainRow row rows plain))

pub terms_few : (n : ℕ) (cols : List MpsCol) (rows : List MpsRow) → All IsPlainCol cols → All (IsColumn n) cols → All IsPlainRow rows → term_count (rows_from cols 0 rows) ≤ length rows * length cols
terms_few n cols rows all valid plain =
    let few = sum_by-le (λ (r : Row). length r.terms) (length cols) (rows_from cols 0 rows) (rows_short n cols 0 rows all valid plain) in
    rw (rows_count cols 0 rows all plain) at few

-- ---- the objective

suc_times : (n b : ℕ) → suc n * b ≡ n * b + b
suc_times n b = grind arith

sum_below_le : (n b : ℕ) (f : ℕ → ℕ) → ((j : ℕ) → f j ≤ b) → sum_below n f ≤ n * b
sum_below_le zero b f each = omega arith
sum_below_le (suc n) b f each =
    let rest = sum_below_le n b f each in
    let here = each n in
    let more : suc n * b ≡ n * b + b = suc_times n b in
    omega (arith, rest, here, more)

costs_whole : (cols : List MpsCol) → All IsPlainCol cols → All (λ z. is_whole 0 z ≡ true) (map (λ (c : MpsCol). units c.cost) cols)
costs_whole [] all = All-nil (λ z. is_whole 0 z ≡ true)
costs_whole (c ∷ cs) all =
    All-cons (λ z. is_whole 0 z ≡ true) (units c.cost) (map (λ (x : MpsCol). units x.cost) cs) (units_whole 100 (units c.cost) (All-head IsPlainCol c cs all).cost) (costs_whole cs (All-tail IsPlainCol c cs all))

pub costs_exponent : (cols : List MpsCol) (constant : Number) → All IsPlainCol cols → IsWholeUnits 100 (units constant) → exponent_of (map (λ (c : MpsCol). units c.cost) cols ++ units constant ∷ []) ≡ 0
costs_exponent cols constant all fixed =
    let P : ℤ → Type 0 = λ z. is_whole 0 z ≡ true in
    exponent_zero (map (λ (c : MpsCol). units c.cost) cols ++ units constant ∷ [])
    (All-append P (map (λ (c : MpsCol). units c.cost) cols) (units constant ∷ []) (costs_whole cols all) (All-cons P (units constant) [] (units_whole 100 (units constant) fixed) (All-nil P)))

abbrev costs_at : ℕ → List MpsCol → List ℤ
costs_at k cols = map (λ (c : MpsCol). minimised_number false (whole k (units c.cost))) cols

costs_small : (cols : List MpsCol) → All IsPlainCol cols → All (λ z. unsigned_abs z ≤ 100) (costs_at 0 cols)
costs_small [] all = All-nil (λ z. unsigned_abs z ≤ 100)
costs_small (c ∷ cs) all =
    All-cons (λ z. unsigned_abs z ≤ 100) (whole 0 (units c.cost)) (costs_at 0 cs) (whole_small 100 (units c.cost) (All-head IsPlainCol c cs all).cost) (costs_small cs (All-tail IsPlainCol c cs all))

number_small : (xs : List ℤ) (j : ℕ) → All (λ z. unsigned_abs z ≤ 100) xs → (j < length xs) ⊎ (length xs ≤ j) → unsigned_abs (int_at xs j) ≤ 100
number_small xs j all (inl within) = all j (pos 0) within
number_small xs j all (inr past) = rw (get_or_past xs j (pos 0) past) (omega arith)

part_small : (box : Sides) (xs : List ℤ) (j : ℕ) → HasLimits box → All (λ z. unsigned_abs z ≤ 100) xs → part_width box (int_at xs j) j ≤ 100 * 2 ^ 31
part_small box xs j limits all =
    let near = reach_small box j limits in
    let first : unsigned_abs (int_at xs j) * reach box j ≤ 100 * reach box j = mul-le-mul_right (reach box j) (number_small xs j all (cases_lt j (length xs))) in
    omega (arith, first, near)

costs_narrow : (box : Sides) (cols : List MpsCol) (constant : Number) → HasLimits box → All IsPlainCol cols → length cols ≤ MAX_COLUMNS → IsWholeUnits 100 (units constant) → objective_width box (costs_at 0 cols) (whole 0 (units constant)) ≤ MAX_WIDTH
costs_narrow box cols constant limits all few fixed =
    let sum = sum_below_le (length (costs_at 0 cols)) (100 * 2 ^ 31) (λ j. part_width box (int_at (costs_at 0 cols) j) j) (λ j. part_small box (costs_at 0 cols) j limits (costs_small cols all)) in
    let long : length (costs_at 0 cols) ≡ length cols = length-map cols (λ (c : MpsCol). minimised_number false (whole 0 (units c.cost))) in
    let size = whole_small 100 (units constant) fixed in
    omega (arith, sum, long, size, few)

pub objective_not_wide : (box : Sides) (cols : List MpsCol) (constant : Number) (k : ℕ) → k ≡ 0 → HasLimits box → All IsPlainCol cols → length cols ≤ MAX_COLUMNS → IsWholeUnits 100 (units constant)
    → (nat_lt MAX_DECIMALS k || nat_lt MAX_WIDTH (objective_width box (costs_at k cols) (minimised_number false (whole k (units constant))))) ≡ false
objective_not_wide box cols constant k none limits all few fixed =
    ap (λ e. nat_lt MAX_DECIMALS e || nat_lt MAX_WIDTH (objective_width box (costs_at e cols) (minimised_number false (whole e (units constant))))) none
    ∙ not_above MAX_WIDTH (objective_width box (costs_at 0 cols) (whole 0 (units constant))) (costs_narrow box cols constant limits all few fixed)

-- ---- no refusal

pub none_first : {A : Type 0} (test : ℕ → A → Bool) (P : A → Type 0) (i : ℕ) (xs : List A) → ((j : ℕ) (x : A) → P x → test j x ≡ false) → All P xs → first_from test i xs ≡ None
none_first test P i [] fails all = refl
none_first test P i (x ∷ xs) fails all = rw (fails i x (All-head P x xs all)) (none_first test P (i + 1) xs fails (All-tail P x xs all))

pub none_of_three : (a b c : Option Refusal) → a ≡ None → b ≡ None → c ≡ None → option_or a (option_or b c) ≡ None
none_of_three a b c x y z = rw (x, y, z) refl

pub no_width : (a b : Option ℕ) (d : Bool) → a ≡ None → b ≡ None → d ≡ false → option_or (option_map RowTooFine a) (option_or (option_map RowTooWide b) (refusal_if d ObjectiveTooWide)) ≡ None
no_width a b d x y z = rw (x, y, z) refl
