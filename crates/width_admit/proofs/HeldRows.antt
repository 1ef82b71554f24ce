use Rattle.std.proofs.Common.{◌≡◌, ◌∙◌, ℕ, suc, ◌+◌, ◌-◌, ◌*◌, ◌/◌, ◌^◌, ◌≤◌, Bool, true, false, ◌||◌, nat_lt, List, [], ◌∷◌, map, ℤ, pos, negsuc, neg_ℤ, ◌+ℤ◌, ◌-ℤ◌, unsigned_abs, sum_by, Option, Some, None, option_map, refl, sym, ap, arith}
use Rattle.std.specs.List.{list_any}
use Rattle.std.proofs.lemmas.Int.{ints}
use Rattle.std.proofs.lemmas.Bool.{ltb-false, or_parts}
use Rattle.std.proofs.lemmas.List.Sums.{sum_by-cons}
use Rattle.std.proofs.Math.Nat.{mul-le-mul_left, add_comm}
use Rattle.ip_core.specs.Decimals.{Number}
use Rattle.ip_core.specs.Sides.{Sides, reach}
use Rattle.ip_core.specs.Rows.{term_width, row_width}
use Rattle.ip_core.specs.declared.row.Row.{Row}
use Rattle.ip_core.specs.declared.row.Term.{Term}
use Rattle.ip_core.specs.declared.limits.TheConstants.{MAX_WIDTH}
use Rattle.mps_model.specs.declared.model.RowKind.{RowKind}
use Rattle.mps_model.specs.declared.model.RowKind.TheVariants.{Less, Greater, Equal}
use Rattle.mps_model.specs.declared.model.MpsRow.{MpsRow}
use Rattle.width_admit.specs.declared.sides.RowSides.{RowSides}
use Rattle.width_admit.specs.Exact.{units, whole, is_whole, are_whole}
use Rattle.width_admit.specs.Sides.{sides, exact_sides}
use Rattle.width_admit.specs.ExactRows.{row_exponent, whole_terms, negated_terms, whole_side, rows_of, whole_rows, admitted_rows, is_too_wide}
use Rattle.width_admit.specs.Held.{held_number, held_whole, held_term, held_terms, held_sides, held_rows, is_wide_side, has_wide_side}
use Rattle.width_admit.proofs.Quotients.{IsTimes, quotient_of_sum, quotient_of_negated, times_of_negated}
use Rattle.width_admit.proofs.Decimals.{ten_pow_pos, times_of_whole, whole_of_times}
use Rattle.width_admit.proofs.SideNumbers.{listed, range_is_whole, side_is_whole}
use Rattle.width_admit.proofs.HeldNumbers.{held_size, held_is}

-- A row that is held down is too wide exactly where the row is, and where it isn't both are one.

-- ---- terms

-- terms in whole numbers, held down
abbrev hold : Term → Term
hold t = record { col = t.col; coef = held_number t.coef }

held_is_hold : (k : ℕ) (terms : List Term) → held_terms k terms ≡ map hold (whole_terms k terms)
held_is_hold k [] = refl
held_is_hold k (t ∷ ts) = ap (λ rest. held_term k t ∷ rest) (held_is_hold k ts)

pub reach_at_least_one : (box : Sides) (j : ℕ) → 1 ≤ reach box j
reach_at_least_one box j = omega arith

pub size_within : (z : ℤ) (r rest : ℕ) → 1 ≤ r → unsigned_abs z * r + rest ≤ MAX_WIDTH → unsigned_abs z ≤ MAX_WIDTH
size_within z r rest some fits =
    let least : unsigned_abs z * 1 ≤ unsigned_abs z * r = mul-le-mul_left (unsigned_abs z) some in
    omega (arith, least, fits)

pub held_of_held : (z : ℤ) → unsigned_abs (held_number z) ≤ MAX_WIDTH → held_number z ≡ z
held_of_held z small = let size = held_size z in held_is z (omega (arith, size, small))

pub held_of_small : (z : ℤ) → unsigned_abs z ≤ 2 ^ 51 → held_number z ≡ z
held_of_small z small = held_is z (omega (arith, small))

-- narrow terms stay as they are
hold_narrow : (box : Sides) (ts : List Term) → sum_by (term_width box) ts ≤ MAX_WIDTH → map hold ts ≡ ts
hold_narrow box [] narrow = refl
hold_narrow box (t ∷ ts) narrow =
    let parts : term_width box t + sum_by (term_width box) ts ≤ MAX_WIDTH = rw (sum_by-cons (term_width box) t ts) at narrow in
    let size = size_within t.coef (reach box t.col) (sum_by (term_width box) ts) (reach_at_least_one box t.col) parts in
    let here : hold t ≡ t = ap (λ z. record { col = t.col; coef = z }) (held_of_small t.coef (omega (arith, size))) in
    let rest = hold_narrow box ts (omega (arith, parts)) in
    rw (here, rest) refl

-- and terms that are narrow once they are held down stayed
hold_narrow_held : (box : Sides) (ts : List Term) → sum_by (term_width box) (map hold ts) ≤ MAX_WIDTH → map hold ts ≡ ts
hold_narrow_held box [] narrow = refl
hold_narrow_held box (t ∷ ts) narrow =
    let parts : term_width box (hold t) + sum_by (term_width box) (map hold ts) ≤ MAX_WIDTH = rw (sum_by-cons (term_width box) (hold t) (map hold ts)) at narrow in
    let size = size_within (held_number t.coef) (reach box t.col) (sum_by (term_width box) (map hold ts)) (reach_at_least_one box t.col) parts in
    let here : hold t ≡ t = ap (λ z. record { col = t.col; coef = z }) (held_of_held t.coef size) in
    let rest = hold_narrow_held box ts (omega (arith, parts)) in
    rw (here, rest) refl

-- ---- sides

abbrev IsSmallRange : Option ℤ → Type 0
IsSmallRange None = Unit {0}
IsSmallRange (Some r) = unsigned_abs r ≤ 2 ^ 51

-- what a row of narrow sides says of its right-hand side and range
record IsSmall (width : ℕ) (b : ℤ) (range : Option ℤ) : Type 0 where
  pub few : width ≤ MAX_WIDTH
  pub side : unsigned_abs b ≤ MAX_WIDTH
  pub near : IsSmallRange range

narrow_side : (width : ℕ) (x : ℤ) → is_wide_side width (Some x) ≡ false → width + unsigned_abs x ≤ MAX_WIDTH
narrow_side width x narrow = ltb-false MAX_WIDTH (width + unsigned_abs x) narrow

narrow_pair : (width : ℕ) (x y : ℤ) → has_wide_side width (record { lower = Some x; upper = Some y }) ≡ false → (width + unsigned_abs x ≤ MAX_WIDTH) × (width + unsigned_abs y ≤ MAX_WIDTH)
narrow_pair width x y narrow =
    let both = or_parts (is_wide_side width (Some x)) (is_wide_side width (Some y)) narrow in
    (narrow_side width x both.0, narrow_side width y both.1)

small_lowered : (width : ℕ) (b r : ℤ) → (width + unsigned_abs (b -ℤ pos (unsigned_abs r)) ≤ MAX_WIDTH) × (width + unsigned_abs b ≤ MAX_WIDTH) → IsSmall width b (Some r)
small_lowered width b r both = let first = both.0 in let second = both.1 in record { few = omega (arith, second); side = omega (arith, second); near = omega (arith, ints, first, second) }

small_raised : (width : ℕ) (b r : ℤ) → (width + unsigned_abs b ≤ MAX_WIDTH) × (width + unsigned_abs (b +ℤ pos (unsigned_abs r)) ≤ MAX_WIDTH) → IsSmall width b (Some r)
small_raised width b r both = let first = both.0 in let second = both.1 in record { few = omega (arith, first); side = omega (arith, first); near = omega (arith, ints, first, second) }

small_sum : (width : ℕ) (b r : ℤ) → width + unsigned_abs b ≤ MAX_WIDTH → width + unsigned_abs (b +ℤ r) ≤ MAX_WIDTH → IsSmall width b (Some r)
small_sum width b r first second = record { few = omega (arith, first); side = omega (arith, first); near = omega (arith, ints, first, second) }

small_alone : (width : ℕ) (b : ℤ) → width + unsigned_abs b ≤ MAX_WIDTH → IsSmall width b None
small_alone width b first = record { few = omega (arith, first); side = omega (arith, first); near = tt }

narrow_is_small : (width : ℕ) (kind : RowKind) (b : ℤ) (range : Option ℤ) → has_wide_side width (sides kind b range) ≡ false → IsSmall width b range
narrow_is_small width Less b None narrow = small_alone width b (narrow_side width b narrow)
narrow_is_small width Less b (Some r) narrow = small_lowered width b r (narrow_pair width (b -ℤ pos (unsigned_abs r)) b narrow)
narrow_is_small width Greater b None narrow = small_alone width b (narrow_side width b (or_parts (is_wide_side width (Some b)) false narrow).0)
narrow_is_small width Greater b (Some r) narrow = small_raised width b r (narrow_pair width b (b +ℤ pos (unsigned_abs r)) narrow)
narrow_is_small width Equal b None narrow = small_alone width b (narrow_pair width b b narrow).0
narrow_is_small width Equal b (Some (pos r)) narrow = let both = narrow_pair width b (b +ℤ pos r) narrow in small_sum width b (pos r) both.0 both.1
narrow_is_small width Equal b (Some (negsuc r)) narrow = let both = narrow_pair width (b +ℤ negsuc r) b narrow in small_sum width b (negsuc r) both.1 both.0

same_range : (range : Option ℤ) → IsSmallRange range → option_map held_number range ≡ range
same_range None small = refl
same_range (Some r) small = ap Some (held_of_small r small)

held_range_small : (range : Option ℤ) → IsSmallRange (option_map held_number range) → option_map held_number range ≡ range
held_range_small None small = refl
held_range_small (Some r) small = let size = held_size r in ap Some (held_is r (omega (arith, size, small)))

-- ---- both

record IsSame (kind : RowKind) (ts : List Term) (b : ℤ) (range : Option ℤ) : Type 0 where
  pub terms : map hold ts ≡ ts
  pub sides : sides kind (held_number b) (option_map held_number range) ≡ sides kind b range

same_of_exact : (box : Sides) (kind : RowKind) (ts : List Term) (b : ℤ) (range : Option ℤ) → has_wide_side (sum_by (term_width box) ts) (sides kind b range) ≡ false → IsSame kind ts b range
same_of_exact box kind ts b range narrow =
    let small = narrow_is_small (sum_by (term_width box) ts) kind b range narrow in
    let side = small.side in
    record { terms = hold_narrow box ts small.few; sides = rw (held_of_small b (omega (arith, side)), same_range range small.near) refl }

same_of_held : (box : Sides) (kind : RowKind) (ts : List Term) (b : ℤ) (range : Option ℤ) → has_wide_side (sum_by (term_width box) (map hold ts)) (sides kind (held_number b) (option_map held_number range)) ≡ false → IsSame kind ts b range
same_of_held box kind ts b range narrow =
    let small = narrow_is_small (sum_by (term_width box) (map hold ts)) kind (held_number b) (option_map held_number range) narrow in
    record { terms = hold_narrow_held box ts small.few; sides = rw (held_of_held b small.side, held_range_small range small.near) refl }

same_width : (box : Sides) (kind : RowKind) (ts : List Term) (b : ℤ) (range : Option ℤ) → IsSame kind ts b range
    → has_wide_side (sum_by (term_width box) (map hold ts)) (sides kind (held_number b) (option_map held_number range)) ≡ has_wide_side (sum_by (term_width box) ts) (sides kind b range)
same_width box kind ts b range same = rw (same.terms, same.sides) refl

pub by_tests : (a b : Bool) → (a ≡ false → b ≡ false) → (b ≡ false → a ≡ false) → a ≡ b
by_tests true true f g = refl
by_tests true false f g = g refl
by_tests false true f g = sym (f refl)
by_tests false false f g = refl

-- held down a row is too wide exactly where it is
wide_as_held : (box : Sides) (kind : RowKind) (ts : List Term) (b : ℤ) (range : Option ℤ)
    → has_wide_side (sum_by (term_width box) ts) (sides kind b range) ≡ has_wide_side (sum_by (term_width box) (map hold ts)) (sides kind (held_number b) (option_map held_number range))
wide_as_held box kind ts b range = by_tests _ _
    (λ narrow. same_width box kind ts b range (same_of_exact box kind ts b range narrow) ∙ narrow)
    (λ narrow. sym (same_width box kind ts b range (same_of_held box kind ts b range narrow)) ∙ narrow)

-- ---- rows of at least from sides

pub negated_width : (box : Sides) (ts : List Term) → sum_by (term_width box) (negated_terms ts) ≡ sum_by (term_width box) ts
negated_width box [] = refl
negated_width box (t ∷ ts) =
    let size : unsigned_abs (neg_ℤ t.coef) ≡ unsigned_abs t.coef = omega (arith, ints) in
    rw (sum_by-cons (term_width box) (record { col = t.col; coef = neg_ℤ t.coef }) (negated_terms ts), sum_by-cons (term_width box) t ts, size, negated_width box ts) refl

abbrev pub wide_row : Sides → Row → Bool
wide_row box row = nat_lt MAX_WIDTH (row_width box row)

lower_wide : (box : Sides) (ts : List Term) (x : ℤ) → wide_row box (record { terms = ts; least = x }) ≡ is_wide_side (sum_by (term_width box) ts) (Some x)
lower_wide box ts x = ap (nat_lt MAX_WIDTH) (add_comm (unsigned_abs x) (sum_by (term_width box) ts))

upper_wide : (box : Sides) (ts : List Term) (x : ℤ) → wide_row box (record { terms = negated_terms ts; least = neg_ℤ x }) ≡ is_wide_side (sum_by (term_width box) ts) (Some x)
upper_wide box ts x =
    let size : unsigned_abs (neg_ℤ x) ≡ unsigned_abs x = omega (arith, ints) in
    lower_wide box (negated_terms ts) (neg_ℤ x) ∙ rw (negated_width box ts, size) refl

either_false : (b : Bool) → (b || false) ≡ b
either_false true = refl
either_false false = refl

rows_wide : (box : Sides) (ts : List Term) (lower upper : Option ℤ) → list_any (wide_row box) (rows_of ts (record { lower = lower; upper = upper })) ≡ has_wide_side (sum_by (term_width box) ts) (record { lower = lower; upper = upper })
rows_wide box ts None None = refl
rows_wide box ts (Some x) None = rw (lower_wide box ts x) refl
rows_wide box ts None (Some y) = rw (upper_wide box ts y) (either_false _)
rows_wide box ts (Some x) (Some y) = rw (lower_wide box ts x, upper_wide box ts y) (ap (λ b. is_wide_side (sum_by (term_width box) ts) (Some x) || b) (either_false _))

-- ---- whole sides

size_of_negated : (n : ℕ) → pos (unsigned_abs (neg_ℤ (pos n))) ≡ pos n
size_of_negated n = omega (arith, ints)

size_whole : (k : ℕ) (r : ℤ) → is_whole k r ≡ true → pos (unsigned_abs (whole k r)) ≡ whole k (pos (unsigned_abs r))
size_whole k (pos n) h = refl
size_whole k (negsuc n) h =
    let t : IsTimes (10 ^ (18 - k)) (pos (suc n)) = times_of_negated (negsuc n) (10 ^ (18 - k)) (times_of_whole k (negsuc n) h) in
    let turned : whole k (negsuc n) ≡ neg_ℤ (whole k (pos (suc n))) = quotient_of_negated (pos (suc n)) (10 ^ (18 - k)) (ten_pow_pos (18 - k)) t in
    ap (λ z. pos (unsigned_abs z)) turned ∙ size_of_negated (suc n / 10 ^ (18 - k))

whole_sum_is : (k : ℕ) (b s : ℤ) → is_whole k b ≡ true → is_whole k s ≡ true → whole k (b +ℤ s) ≡ whole k b +ℤ whole k s
whole_sum_is k b s first second = quotient_of_sum b s (10 ^ (18 - k)) (ten_pow_pos (18 - k)) (times_of_whole k b first) (times_of_whole k s second)

abbrev whole_both : ℕ → RowSides → RowSides
whole_both k s = record { lower = whole_side k s.lower; upper = whole_side k s.upper }

whole_range_sides : (k : ℕ) (kind : RowKind) (b r : ℤ) → is_whole k b ≡ true → is_whole k r ≡ true → whole_both k (sides kind b (Some r)) ≡ sides kind (whole k b) (Some (whole k r))
whole_range_sides k Less b r first second =
    let size : is_whole k (pos (unsigned_abs r)) ≡ true = second in
    let t = times_of_whole k (pos (unsigned_abs r)) size in
    let low : whole k (b +ℤ neg_ℤ (pos (unsigned_abs r))) ≡ whole k b +ℤ neg_ℤ (pos (unsigned_abs (whole k r))) =
    whole_sum_is k b (neg_ℤ (pos (unsigned_abs r))) first (whole_of_times k (neg_ℤ (pos (unsigned_abs r))) (times_of_negated (pos (unsigned_abs r)) _ t))
    ∙ ap (λ z. whole k b +ℤ z) (quotient_of_negated (pos (unsigned_abs r)) (10 ^ (18 - k)) (ten_pow_pos (18 - k)) t ∙ ap neg_ℤ (sym (size_whole k r second)))
    in
    ap (λ z. record { lower = Some z; upper = Some (whole k b) }) low
whole_range_sides k Greater b r first second =
    ap (λ z. record { lower = Some (whole k b); upper = Some z }) (whole_sum_is k b (pos (unsigned_abs r)) first second ∙ ap (λ z. whole k b +ℤ z) (sym (size_whole k r second)))
whole_range_sides k Equal b (pos r) first second = ap (λ z. record { lower = Some (whole k b); upper = Some z }) (whole_sum_is k b (pos r) first second)
whole_range_sides k Equal b (negsuc r) first second = ap (λ z. record { lower = Some z; upper = Some (whole k b) }) (whole_sum_is k b (negsuc r) first second)

whole_plain_sides : (k : ℕ) (kind : RowKind) (b : ℤ) → whole_both k (sides kind b None) ≡ sides kind (whole k b) None
whole_plain_sides k Less b = refl
whole_plain_sides k Greater b = refl
whole_plain_sides k Equal b = refl

pub whole_sides_are : (k : ℕ) (kind : RowKind) (b : ℤ) (range : Option ℤ) → are_whole (listed (sides kind b range)) k ≡ true → whole_both k (sides kind b range) ≡ sides kind (whole k b) (option_map (whole k) range)
whole_sides_are k kind b None h = whole_plain_sides k kind b
whole_sides_are k kind b (Some r) h = whole_range_sides k kind b r (side_is_whole k kind b r h) (range_is_whole k kind b r h)

-- ---- a row of a file

by_range : (k : ℕ) (range : Option Number) → option_map (held_whole k) range ≡ option_map held_number (option_map (whole k) (option_map units range))
by_range k None = refl
by_range k (Some r) = refl

range_held : (k : ℕ) (row : MpsRow) → option_map (held_whole k) row.range ≡ option_map held_number (option_map (whole k) (option_map units row.range))
range_held k row = by_range k row.range

-- the width of a row as it is computed
pub wide_is : (box : Sides) (k : ℕ) (terms : List Term) (row : MpsRow) → k ≡ row_exponent (record { terms = terms; sides = exact_sides row }) → are_whole (listed (exact_sides row)) k ≡ true
    → has_wide_side (sum_by (term_width box) (held_terms k terms)) (held_sides k row) ≡ is_too_wide box (record { terms = terms; sides = exact_sides row })
wide_is box k terms row same whole_at_k =
    let b = whole k (units row.rhs) in
    let range = option_map (whole k) (option_map units row.range) in
    let plain = whole_sides_are k row.kind (units row.rhs) (option_map units row.range) whole_at_k in
    rw (held_is_hold k terms, range_held k row) (sym (wide_as_held box row.kind (whole_terms k terms) b range))
    ∙ ap (has_wide_side (sum_by (term_width box) (whole_terms k terms))) (sym plain)
    ∙ sym (rows_wide box (whole_terms k terms) (whole_side k (exact_sides row).lower) (whole_side k (exact_sides row).upper))
    ∙ ap (λ n. list_any (wide_row box) (whole_rows n (record { terms = terms; sides = exact_sides row }))) same

-- a row that isn't too wide is what it is held down
pub narrow_rows : (box : Sides) (k : ℕ) (terms : List Term) (row : MpsRow) → k ≡ row_exponent (record { terms = terms; sides = exact_sides row }) → are_whole (listed (exact_sides row)) k ≡ true
    → is_too_wide box (record { terms = terms; sides = exact_sides row }) ≡ false → held_rows k terms row ≡ admitted_rows (record { terms = terms; sides = exact_sides row })
narrow_rows box k terms row same whole_at_k narrow =
    let b = whole k (units row.rhs) in
    let range = option_map (whole k) (option_map units row.range) in
    let plain = whole_sides_are k row.kind (units row.rhs) (option_map units row.range) whole_at_k in
    let exact_narrow : has_wide_side (sum_by (term_width box) (whole_terms k terms)) (sides row.kind b range) ≡ false =
    ap (has_wide_side (sum_by (term_width box) (whole_terms k terms))) (sym plain)
    ∙ sym (rows_wide box (whole_terms k terms) (whole_side k (exact_sides row).lower) (whole_side k (exact_sides row).upper))
    ∙ ap (λ n. list_any (wide_row box) (whole_rows n (record { terms = terms; sides = exact_sides row }))) same
    ∙ narrow
    in
    let one = same_of_exact box row.kind (whole_terms k terms) b range exact_narrow in
    rw (held_is_hold k terms, range_held k row, one.terms, one.sides) (ap (rows_of (whole_terms k terms)) (sym plain))
    ∙ ap (λ n. whole_rows n (record { terms = terms; sides = exact_sides row })) same
