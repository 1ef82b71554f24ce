-- Rows that a point meets once they are divided and rounded up.
use Rattle.std.proofs.Common.{◌≡◌, ◌∙◌, ℕ, zero, suc, ◌/◌, ◌<◌, ◌≤◌, Bool, true, false, cond, not, ◌&&◌, nat_lt, nat_le, List, [], ◌∷◌, ◌++◌, length, get_or, ℤ, pos, ◌+ℤ◌, ◌-ℤ◌, ◌*ℤ◌, int_lt, unsigned_abs, All, Result, Ok, Err, refl, sym, ap, ap₂, subst, arith}
use Rattle.std.proofs.lemmas.Int.{ints}
use Rattle.std.proofs.lemmas.Bool.{and_parts, and_from, leb-true}
use Rattle.std.proofs.lemmas.List.{get_or_default}
use Rattle.std.proofs.lemmas.List.Elements.{All-nil, All-cons, All-append}
use Rattle.ip_core.specs.Numbers.{int_at, int_sum_below}
use Rattle.ip_core.specs.Sides.{Sides}
use Rattle.ip_core.specs.Rows.{IsRow, activity, coefficient}
use Rattle.ip_core.specs.Quotients.{ceiling_quotient}
use Rattle.ip_core.specs.declared.model.ModelParts.{ModelParts}
use Rattle.ip_core.specs.declared.row.Row.{Row}
use Rattle.ip_core.specs.declared.row.Term.{Term}
use Rattle.ip_core.specs.declared.row_ref.RowRef.{RowRef}
use Rattle.ip_core.specs.declared.leaf.Pair.{Pair}
use Rattle.ip_core.specs.declared.derivation.Derivation.TheVariants.{Gomory}
use Rattle.row_propagate.specs.Replay.{no_row, row_named}
use Rattle.cut_derive.specs.declared.limits.TheConstants.{MAX_PARTS}
use Rattle.cut_separate.specs.declared.limits.TheConstants.{MAX_DIVISORS}
use Rattle.cut_separate.specs.declared.new_cut.NewCut.{NewCut}
use Rattle.cut_derive.specs.declared.refusal.Refusal.{Refusal}
use Rattle.cut_separate.specs.declared.source.RowSource.{RowSource}
use Rattle.cut_separate.specs.declared.source.RowSource.TheVariants.{ModelRows, CutRows}
use Rattle.cut_derive.specs.Gomory.{combined_coefficient, combined_least, rounded_coefficient, rounded_row, rounded_least, gomory_row, are_known, is_count}
use Rattle.cut_derive.specs.Premises.{AreSums, AreParts}
use Rattle.cut_derive.proofs.Gomorying.{summed_row}
use Rattle.safe_bound.specs.Premises.{AreMultipliers}
use Rattle.safe_bound.specs.declared.limits.TheConstants.{MAX_MULTIPLIER}
use Rattle.leaf_truth.specs.Steps.{has_row}
use Rattle.leaf_truth.specs.Multipliers.{pairs_of, is_pair}
use Rattle.leaf_truth.proofs.Pairs.{pairs_known}
use Rattle.std.specs.List.{list_all}
use Rattle.cut_derive.specs.Derivations.{derived_row}
use Rattle.cut_separate.specs.Violations.{rounded_activity, rounded_row_least}
use Rattle.cut_separate.specs.Candidates.{single_part, rows_of, name_of, is_among, with_divisor, divisors_after, divisors_of}
use Rattle.cut_separate.specs.Separation.{has_room, is_violated, is_new, with_answer, with_candidate}
use Rattle.cut_derive.proofs.Fronts.{cols_of, rises_from_zero, activity_below}
use Rattle.cut_derive.proofs.TermColumns.{columns_of_terms}
use Rattle.cut_derive.proofs.Rounded.{rounded_row-same}
use Rattle.cut_derive.proofs.Following.{gomory_of}

met_cases : (m : ModelParts) (cuts : List Row) (x : List ℤ) (kept : List NewCut) (parts : List Pair) (d : ℕ) (row : Row) (room violated new : Bool) → violated ≡ false → cond (room && violated && new) (kept ++ record { derivation = Gomory parts d; row = row } ∷ []) kept ≡ kept
met_cases m cuts x kept parts d row true true new none = cc
met_cases m cuts x kept parts d row true false new none = refl
met_cases m cuts x kept parts d row false violated new none = refl

quiet_answer : (m : ModelParts) (cuts : List Row) (x : List ℤ) (kept : List NewCut) (parts : List Pair) (d : ℕ) (answer : Result Row Refusal) → derived_row m cuts (Gomory parts d) ≡ answer → is_violated x (gomory_row m cuts parts d) ≡ false → with_answer m cuts x kept (Gomory parts d) answer ≡ kept
quiet_answer m cuts x kept parts d (Err why) same met = refl
quiet_answer m cuts x kept parts d (Ok row) same met =
    met_cases m cuts x kept parts d row (has_room cuts kept) (is_violated x row) (is_new m cuts kept row) (subst (λ (r : Row). is_violated x r ≡ false) (gomory_of m cuts parts d row same).given.same met)

-- a weighted sum that the point meets isn't kept
pub quiet_gomory : (m : ModelParts) (cuts : List Row) (x : List ℤ) (kept : List NewCut) (parts : List Pair) (d : ℕ) → is_violated x (gomory_row m cuts parts d) ≡ false → with_candidate m cuts x kept (Gomory parts d) ≡ kept
quiet_gomory m cuts x kept parts d met = quiet_answer m cuts x kept parts d (derived_row m cuts (Gomory parts d)) refl met

zero_quotient : (d : ℕ) → 0 / d ≡ 0
zero_quotient zero = refl
zero_quotient (suc n) = grind arith

nothing_divided : (d : ℕ) → ceiling_quotient (pos 0) (pos d) ≡ pos 0
nothing_divided d = omega (arith, ints, zero_quotient d)

nothing_times : (z x : ℤ) → z ≡ pos 0 → z *ℤ x ≡ pos 0
nothing_times z x none = rw none (omega (arith, ints))

one_time : (z : ℤ) → (pos 1 *ℤ z) +ℤ pos 0 ≡ z
one_time z = omega (arith, ints)

-- rounded coefficients of a row by columns are those term by term
rounded_by_columns : (n : ℕ) (s : Sides) (row : Row) (d : ℕ) (x : List ℤ) → IsRow n s row → int_sum_below n (λ j. rounded_coefficient (λ k. coefficient k row.terms) d j *ℤ int_at x j) ≡ rounded_activity d x row.terms
rounded_by_columns n s row d x valid =
    columns_of_terms n 0 row.terms (λ j z. ceiling_quotient z (pos d) *ℤ int_at x j) (λ j. nothing_times (ceiling_quotient (pos 0) (pos d)) (int_at x j) (nothing_divided d)) (rises_from_zero (cols_of row.terms) valid.rising) valid.terms.each

plain_by_columns : (n : ℕ) (s : Sides) (row : Row) (x : List ℤ) → IsRow n s row → int_sum_below n (λ j. coefficient j row.terms *ℤ int_at x j) ≡ activity x row.terms
plain_by_columns n s row x valid =
    columns_of_terms n 0 row.terms (λ j z. z *ℤ int_at x j) (λ j. nothing_times (pos 0) (int_at x j) refl) (rises_from_zero (cols_of row.terms) valid.rising) valid.terms.each

-- the row alone, divided and rounded up
alone_row : (m : ModelParts) (cuts : List Row) (name : RowRef) (row : Row) (d : ℕ) → row_named m.rows cuts name ≡ row → gomory_row m cuts (single_part name) d ≡ rounded_row (length m.cols) m.root (λ j. coefficient j row.terms) row.least d
alone_row m cuts name row d named =
    rounded_row-same (length m.cols) m.root (combined_coefficient m.rows cuts (single_part name)) (λ j. coefficient j row.terms) _ row.least d
    (λ j h. one_time (coefficient j (row_named m.rows cuts name).terms) ∙ ap (λ (r : Row). coefficient j r.terms) named)
    (one_time (row_named m.rows cuts name).least ∙ ap (λ (r : Row). r.least) named)

rounded_violation : (n : ℕ) (s : Sides) (row : Row) (d : ℕ) (x : List ℤ) → IsRow n s row → is_violated x (rounded_row n s (λ j. coefficient j row.terms) row.least d) ≡ int_lt (rounded_activity d x row.terms) (rounded_row_least s row d)
rounded_violation n s row d x valid =
    ap₂ int_lt
    (activity_below x n (rounded_coefficient (λ j. coefficient j row.terms) d) ∙ rounded_by_columns n s row d x valid)
    (ap₂ (λ (y z : ℤ). ceiling_quotient (row.least -ℤ y) (pos d) +ℤ z) (plain_by_columns n s row s.lows valid) (rounded_by_columns n s row d s.lows valid))

-- a row alone that the point meets once it is divided and rounded up isn't kept
pub quiet_alone : (m : ModelParts) (cuts : List Row) (x : List ℤ) (kept : List NewCut) (name : RowRef) (row : Row) (d : ℕ) → row_named m.rows cuts name ≡ row → IsRow (length m.cols) m.root row → int_lt (rounded_activity d x row.terms) (rounded_row_least m.root row d) ≡ false → with_candidate m cuts x kept (Gomory (single_part name) d) ≡ kept
quiet_alone m cuts x kept name row d named valid met =
    quiet_gomory m cuts x kept (single_part name) d (ap (is_violated x) (alone_row m cuts name row d named) ∙ rounded_violation (length m.cols) m.root row d x valid ∙ met)

-- the rows of a source have their names
pub named_at : (source : RowSource) (m : ModelParts) (cuts : List Row) (place : ℕ) (row : Row) → place < length (rows_of source m cuts) → row ≡ get_or (rows_of source m cuts) place row → row_named m.rows cuts (name_of source place) ≡ row
named_at ModelRows m cuts place row known is = get_or_default m.rows place no_row row known ∙ sym is
named_at CutRows m cuts place row known is = get_or_default cuts place no_row row known ∙ sym is

divisor_cases : (found : List ℕ) (n : ℕ) (room large new : Bool) → All (λ (k : ℕ). 0 < k) found → (large ≡ true → 0 < n) → All (λ (k : ℕ). 0 < k) (cond (room && large && new) (found ++ n ∷ []) found)
divisor_cases found n true true true each above = All-append (λ (k : ℕ). 0 < k) found (n ∷ []) each (All-cons (λ (k : ℕ). 0 < k) n [] (above refl) (All-nil (λ (k : ℕ). 0 < k)))
divisor_cases found n true true false each above = each
divisor_cases found n true false new each above = each
divisor_cases found n false large new each above = each

two_above : (n : ℕ) → nat_le 2 n ≡ true → 0 < n
two_above n test = let le : 2 ≤ n = leb-true 2 n test in omega (arith, le)

divisors_positive : (found : List ℕ) (terms : List Term) → All (λ (k : ℕ). 0 < k) found → All (λ (k : ℕ). 0 < k) (divisors_after found terms)
divisors_positive found [] each = each
divisors_positive found (t ∷ terms) each =
    let n = unsigned_abs t.coef in
    divisors_positive (with_divisor found n) terms (divisor_cases found n (nat_lt (length found) MAX_DIVISORS) (nat_le 2 n) (not (is_among found n)) each (two_above n))

-- the divisors of a row are above 0
pub divisor_above : (row : Row) (i d : ℕ) → i < length (divisors_of row) → 0 < get_or (divisors_of row) i d
divisor_above row i d known = divisors_positive [] row.terms (All-nil (λ (k : ℕ). 0 < k)) i d known

-- weighted sums that the point meets once they are divided and rounded up aren't kept
pub quiet_sums : (m : ModelParts) (cuts : List Row) (x : List ℤ) (kept : List NewCut) (parts : List Pair) (d : ℕ) (coefs : List ℤ) (least : ℤ) → AreSums m cuts parts coefs → least ≡ combined_least m.rows cuts parts → length m.root.lows ≡ length m.cols → int_lt (int_sum_below (length m.root.lows) (λ j. rounded_coefficient (int_at coefs) d j *ℤ int_at x j)) (rounded_least (length m.root.lows) m.root (int_at coefs) least d) ≡ false → with_candidate m cuts x kept (Gomory parts d) ≡ kept
quiet_sums m cuts x kept parts d coefs least sums same box met =
    let e = rounded_coefficient (int_at coefs) d in
    let here : is_violated x (rounded_row (length m.root.lows) m.root (int_at coefs) least d) ≡ false =
    ap (λ (z : ℤ). int_lt z (rounded_least (length m.root.lows) m.root (int_at coefs) least d)) (activity_below x (length m.root.lows) e) ∙ met
    in
    let there : is_violated x (rounded_row (length m.cols) m.root (int_at coefs) least d) ≡ false = subst (λ (n : ℕ). is_violated x (rounded_row n m.root (int_at coefs) least d) ≡ false) box here in
    quiet_gomory m cuts x kept parts d (ap (is_violated x) (sym (summed_row m cuts parts coefs least d sums same)) ∙ there)

-- the parts of multipliers, where they are few enough
pair_tests : (rows cuts : List Row) (p : Pair) (parts : List Pair) → list_all (is_pair rows cuts) (p ∷ parts) ≡ true → (has_row rows cuts p.row ≡ true) × ((p.weight ≤ MAX_MULTIPLIER) × (list_all (is_pair rows cuts) parts ≡ true))
pair_tests rows cuts p parts tests =
    let both = and_parts (is_pair rows cuts p) (list_all (is_pair rows cuts) parts) tests in
    let own = and_parts (has_row rows cuts p.row) (nat_le p.weight MAX_MULTIPLIER) both.0 in
    (own.0, (leb-true p.weight MAX_MULTIPLIER own.1, both.1))

all_known : (rows cuts : List Row) (parts : List Pair) → list_all (is_pair rows cuts) parts ≡ true → are_known rows cuts parts ≡ true
all_known rows cuts [] tests = refl
all_known rows cuts (p ∷ parts) tests =
    let one = pair_tests rows cuts p parts tests in
    and_from (has_row rows cuts p.row) (are_known rows cuts parts) one.0 (all_known rows cuts parts one.1.1)

all_small : (rows cuts : List Row) (parts : List Pair) → list_all (is_pair rows cuts) parts ≡ true → All (λ (p : Pair). p.weight ≤ MAX_MULTIPLIER) parts
all_small rows cuts [] tests = All-nil (λ (p : Pair). p.weight ≤ MAX_MULTIPLIER)
all_small rows cuts (p ∷ parts) tests =
    let one = pair_tests rows cuts p parts tests in
    All-cons (λ (q : Pair). q.weight ≤ MAX_MULTIPLIER) p parts one.1.0 (all_small rows cuts parts one.1.1)

pub parts_of_pairs : (m : ModelParts) (cuts : List Row) (ys : List ℕ) (parts : List Pair) → AreMultipliers m cuts ys → parts ≡ pairs_of (length m.rows) ys → is_count (length parts) ≡ true → AreParts m cuts parts
parts_of_pairs m cuts ys parts mults same few =
    let tests : list_all (is_pair m.rows cuts) parts ≡ true = subst (λ (ps : List Pair). list_all (is_pair m.rows cuts) ps ≡ true) (sym same) (pairs_known m.rows cuts ys mults.one_each mults.small.each) in
    record {
      known = all_known m.rows cuts parts tests;
      few = leb-true (length parts) MAX_PARTS (and_parts (nat_le 1 (length parts)) (nat_le (length parts) MAX_PARTS) few).1;
      small = all_small m.rows cuts parts tests;
    }
