-- The rows of names, and weighted sums of them.
use Rattle.std.proofs.Common.{◌≡◌, ◌∙◌, ℕ, ◌<◌, ◌≤◌, ◌⊎◌, inl, inr, get_or, true, ◌++◌, List, [], ◌∷◌, length, ℤ, pos, ◌+ℤ◌, ◌*ℤ◌, ◌≤ℤ◌, All, refl, sym, ap, ap₂, subst, arith}
use Rattle.std.proofs.lemmas.Int.{ints}
use Rattle.std.proofs.lemmas.Bool.{cases_lt, and_parts, and_from, lt-ltb, ltb-true}
use Rattle.std.proofs.lemmas.List.{get_or_past, get_or_append_left, length-append}
use Rattle.std.proofs.lemmas.List.Elements.{All-nil, All-head, All-tail}
use Rattle.ip_core.specs.Numbers.{int_at, int_sum_below}
use Rattle.ip_core.specs.Sides.{Sides}
use Rattle.ip_core.specs.Rows.{IsTerm, AreTerms, IsMet, AreRows, AreMet, activity, coefficient}
use Rattle.ip_core.specs.declared.row.Row.{Row}
use Rattle.ip_core.specs.declared.row_ref.RowRef.{RowRef}
use Rattle.ip_core.specs.declared.row_ref.RowRef.TheVariants.{Model, Cut}
use Rattle.ip_core.specs.declared.leaf.Pair.{Pair}
use Rattle.ip_core.proofs.IntProducts.{add_mul, natural_mul_assoc}
use Rattle.ip_core.proofs.Products.{mul_pos-le, add-le_both}
use Rattle.ip_core.proofs.ColumnSums.{int_sum_below-same, int_sum_below-zero, int_sum_below-add, int_sum_below-scale}
use Rattle.row_propagate.specs.Replay.{no_row, row_named}
use Rattle.safe_bound.proofs.Weighted.{terms_by_columns}
use Rattle.leaf_truth.specs.Steps.{has_row}
use Rattle.cut_derive.specs.Gomory.{part_sum, combined_coefficient, combined_least, are_known}

at_place : (P : Row → Type 0) (rows : List Row) (i : ℕ) → P no_row → All P rows → (i < length rows) ⊎ (length rows ≤ i) → P (get_or rows i no_row)
at_place P rows i none each (inl known) = each i no_row known
at_place P rows i none each (inr past) = subst P (sym (get_or_past rows i no_row past)) none

-- what holds of a row that asks nothing, of each row and of each cut holds of the row of a name
pub named_holds : (P : Row → Type 0) (rows cuts : List Row) (name : RowRef) → P no_row → All P rows → All P cuts → P (row_named rows cuts name)
named_holds P rows cuts (Model i) none first second = at_place P rows i none first (cases_lt i (length rows))
named_holds P rows cuts (Cut i) none first second = at_place P cuts i none second (cases_lt i (length cuts))

-- a row that asks nothing is met
pub no_row_met : (x : List ℤ) → IsMet x no_row
no_row_met x = record { reached = omega (arith, ints) }

-- each part's row has terms of n columns
pub record HasTerms (n : ℕ) (rows cuts : List Row) (parts : List Pair) : Type 0 where
  pub each : All (λ (p : Pair). AreTerms n (row_named rows cuts p.row).terms) parts

one_part : (y : ℕ) (c z x : ℤ) → ((pos y *ℤ c) +ℤ z) *ℤ x ≡ (pos y *ℤ (c *ℤ x)) +ℤ (z *ℤ x)
one_part y c z x = add_mul (pos y *ℤ c) z x ∙ ap (λ w. w +ℤ (z *ℤ x)) (natural_mul_assoc y c x)

zero_times : (x : ℤ) → pos 0 *ℤ x ≡ pos 0
zero_times x = omega (arith, ints)

-- by columns, weighted rows give the same as row by row
pub parts_by_columns : (n : ℕ) (x : List ℤ) (rows cuts : List Row) (parts : List Pair) → All (λ (p : Pair). AreTerms n (row_named rows cuts p.row).terms) parts → int_sum_below n (λ j. combined_coefficient rows cuts parts j *ℤ int_at x j) ≡ part_sum (λ row. activity x row.terms) rows cuts parts
parts_by_columns n x rows cuts [] known = int_sum_below-zero n (λ j. combined_coefficient rows cuts [] j *ℤ int_at x j) (λ j h. zero_times (int_at x j))
parts_by_columns n x rows cuts (p ∷ parts) known =
    let Known : Pair → Type 0 = λ (q : Pair). AreTerms n (row_named rows cuts q.row).terms in
    let row = row_named rows cuts p.row in
    int_sum_below-same n (λ j. combined_coefficient rows cuts (p ∷ parts) j *ℤ int_at x j) (λ j. (pos p.weight *ℤ (coefficient j row.terms *ℤ int_at x j)) +ℤ (combined_coefficient rows cuts parts j *ℤ int_at x j)) (λ j h.
    one_part p.weight (coefficient j row.terms) (combined_coefficient rows cuts parts j) (int_at x j))
    ∙ int_sum_below-add n (λ j. pos p.weight *ℤ (coefficient j row.terms *ℤ int_at x j)) (λ j. combined_coefficient rows cuts parts j *ℤ int_at x j)
    ∙ ap₂ (λ (y z : ℤ). y +ℤ z)
    (int_sum_below-scale n (pos p.weight) (λ j. coefficient j row.terms *ℤ int_at x j) ∙ ap (λ z. pos p.weight *ℤ z) (terms_by_columns n (int_at x) row.terms (All-head Known p parts known).each))
    (parts_by_columns n x rows cuts parts (All-tail Known p parts known))

-- where each row is met, its activities weighted are no less than what the weighted sum asks for
pub parts_met : (x : List ℤ) (rows cuts : List Row) (parts : List Pair) → AreMet x rows → AreMet x cuts → combined_least rows cuts parts ≤ℤ part_sum (λ row. activity x row.terms) rows cuts parts
parts_met x rows cuts [] first second = omega (arith, ints)
parts_met x rows cuts (p ∷ parts) first second =
    let row = row_named rows cuts p.row in
    let met = named_holds (IsMet x) rows cuts p.row (no_row_met x) first.each second.each in
    add-le_both (pos p.weight *ℤ row.least) (combined_least rows cuts parts) (pos p.weight *ℤ activity x row.terms) (part_sum (λ (r : Row). activity x r.terms) rows cuts parts)
    (mul_pos-le p.weight row.least (activity x row.terms) met.reached) (parts_met x rows cuts parts first second)

no_terms : (n : ℕ) → AreTerms n no_row.terms
no_terms n = record { each = All-nil (IsTerm n) }

-- the row of a name has terms of the model's columns
pub named_terms : (n : ℕ) (root : Sides) (rows cuts : List Row) (name : RowRef) → AreRows n root rows → AreRows n root cuts → AreTerms n (row_named rows cuts name).terms
named_terms n root rows cuts name first second =
    named_holds (λ (row : Row). AreTerms n row.terms) rows cuts name (no_terms n) (λ i d h. (first.each i d h).terms) (λ i d h. (second.each i d h).terms)

-- a row that there was is there still, and is the same
pub has_row_more : (rows cuts more : List Row) (name : RowRef) → has_row rows cuts name ≡ true → has_row rows (cuts ++ more) name ≡ true
has_row_more rows cuts more (Model i) known = known
has_row_more rows cuts more (Cut i) known = lt-ltb i (length (cuts ++ more)) (omega (arith, ltb-true i (length cuts) known, length-append cuts more))

pub named_more : (rows cuts more : List Row) (name : RowRef) → has_row rows cuts name ≡ true → row_named rows (cuts ++ more) name ≡ row_named rows cuts name
named_more rows cuts more (Model i) known = refl
named_more rows cuts more (Cut i) known = get_or_append_left cuts more no_row i (ltb-true i (length cuts) known)

pub known_more : (rows cuts more : List Row) (parts : List Pair) → are_known rows cuts parts ≡ true → are_known rows (cuts ++ more) parts ≡ true
known_more rows cuts more [] known = refl
known_more rows cuts more (p ∷ parts) known =
    let both = and_parts (has_row rows cuts p.row) (are_known rows cuts parts) known in
    and_from (has_row rows (cuts ++ more) p.row) (are_known rows (cuts ++ more) parts) (has_row_more rows cuts more p.row both.0) (known_more rows cuts more parts both.1)

pub part_sum_more : (f : Row → ℤ) (rows cuts more : List Row) (parts : List Pair) → are_known rows cuts parts ≡ true → part_sum f rows (cuts ++ more) parts ≡ part_sum f rows cuts parts
part_sum_more f rows cuts more [] known = refl
part_sum_more f rows cuts more (p ∷ parts) known =
    let both = and_parts (has_row rows cuts p.row) (are_known rows cuts parts) known in
    ap₂ (λ (row : Row) (z : ℤ). (pos p.weight *ℤ f row) +ℤ z) (named_more rows cuts more p.row both.0) (part_sum_more f rows cuts more parts both.1)
