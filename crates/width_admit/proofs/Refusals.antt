use Rattle.std.proofs.Common.{◌≡◌, ◌∙◌, ℕ, suc, ◌+◌, ◌*◌, ◌<◌, ◌≤◌, Bool, true, false, List, [], ◌∷◌, ℤ, length, get_or, slice_index_or, sum_by, Option, Some, None, option_map, refl, sym, ap, subst, arith}
use Rattle.std.specs.Option.{option_or}
use Rattle.std.proofs.lemmas.List.{length-append, length-map, get_or_default}
use Rattle.std.proofs.lemmas.List.Sums.{sum_by-cons, sum_by-append}
use Rattle.ip_core.specs.Models.{term_count}
use Rattle.ip_core.specs.declared.row.Row.{Row}
use Rattle.ip_core.specs.declared.row.Term.{Term}
use Rattle.mps_model.specs.declared.model.MpsCol.{MpsCol}
use Rattle.mps_model.specs.declared.model.MpsRow.{MpsRow}
use Rattle.width_admit.specs.declared.error.AdmitError.{AdmitError}
use Rattle.width_admit.specs.declared.refusal.Refusal.{Refusal}
use Rattle.width_admit.specs.declared.refusal.Refusal.TheVariants.{Continuous, NegativeUpper, Unbounded, BoundTooLarge, TooManyColumns, TooManyRows, TooManyTerms}
use Rattle.width_admit.specs.declared.gather.Coefficient.{Coefficient}
use Rattle.width_admit.specs.Sides.{exact_sides, side_count}
use Rattle.width_admit.specs.ExactRows.{ExactRow, exact_terms, exact_row, row_exponent, whole_terms, negated_term, whole_side, rows_of, admitted_rows, rows_from}
use Rattle.mps_model.specs.declared.model.MpsModel.{MpsModel}
use Rattle.width_admit.specs.KindNumbers.{kind_of, index_of}
use Rattle.width_admit.specs.Refusals.{refusal_of}
use Rattle.width_admit.specs.Admission.{first_from, refusal_if, IsCause, IsNotAdmitted}
use Rattle.width_admit.specs.Gathered.{exact, AreGathered}
use Rattle.width_admit.specs.Held.{terms_from}
use Rattle.width_admit.proofs.SideNumbers.{listed}

-- the first reason that applies is the refusal

-- what a search over the columns found
pub first_is : (test : MpsCol → Bool) (cols all : List MpsCol) (r o : Option ℕ) → cols ≡ all → r ≡ first_from (λ _ c. test c) 0 cols → r ≡ o → first_from (λ _ c. test c) 0 all ≡ o
first_is test cols all r o same found is = ap (first_from (λ _ c. test c) 0) (sym same) ∙ sym found ∙ is

abbrev pub chain : Option ℕ → Option ℕ → Option ℕ → Option ℕ → Option Refusal
chain a b d e = option_or (option_map Continuous a) (option_or (option_map NegativeUpper b) (option_or (option_map Unbounded d) (option_map BoundTooLarge e)))

pub second : (a b d e : Option ℕ) (col : ℕ) → a ≡ None → b ≡ Some col → Some (NegativeUpper col) ≡ chain a b d e
second a b d e col x y = rw (x, y) refl

pub third : (a b d e : Option ℕ) (col : ℕ) → a ≡ None → b ≡ None → d ≡ Some col → Some (Unbounded col) ≡ chain a b d e
third a b d e col x y z = rw (x, y, z) refl

pub fourth : (a b d e : Option ℕ) (col : ℕ) → a ≡ None → b ≡ None → d ≡ None → e ≡ Some col → Some (BoundTooLarge col) ≡ chain a b d e
fourth a b d e col x y z w = rw (x, y, z, w) refl

pub no_column : (a b d e : Option ℕ) → a ≡ None → b ≡ None → d ≡ None → e ≡ None → None ≡ chain a b d e
no_column a b d e x y z w = rw (x, y, z, w) refl

-- ---- counts

lower_upper : (ts : List Term) (lower upper : Option ℤ) → length (rows_of ts (record { lower = lower; upper = upper })) ≡ length (listed (record { lower = lower; upper = upper }))
lower_upper ts None None = refl
lower_upper ts (Some x) None = refl
lower_upper ts None (Some y) = refl
lower_upper ts (Some x) (Some y) = refl

whole_count : (k : ℕ) (lower upper : Option ℤ) → length (listed (record { lower = whole_side k lower; upper = whole_side k upper })) ≡ length (listed (record { lower = lower; upper = upper }))
whole_count k None None = refl
whole_count k (Some x) None = refl
whole_count k None (Some y) = refl
whole_count k (Some x) (Some y) = refl

admitted_count : (r : ExactRow) → length (admitted_rows r) ≡ length (listed r.sides)
admitted_count r =
    let k = row_exponent r in
    lower_upper (whole_terms k r.terms) (whole_side k r.sides.lower) (whole_side k r.sides.upper) ∙ whole_count k r.sides.lower r.sides.upper

-- the number of rows of at least is that of all sides
pub row_count_is : (cols : List MpsCol) (i : ℕ) (rows : List MpsRow) → length (rows_from cols i rows) ≡ sum_by side_count rows
row_count_is cols i [] = refl
row_count_is cols i (row ∷ rows) =
    let parts = length-append (admitted_rows (exact_row cols i row)) (rows_from cols (i + 1) rows) in
    let first = admitted_count (exact_row cols i row) in
    let rest = row_count_is cols (i + 1) rows in
    let sum = sum_by-cons side_count row rows in
    omega (arith, parts, first, rest, sum)

side_terms : (ts : List Term) (lower upper : Option ℤ) → term_count (rows_of ts (record { lower = lower; upper = upper })) ≡ length (listed (record { lower = lower; upper = upper })) * length ts
side_terms ts None None = omega arith
side_terms ts (Some x) None = omega arith
side_terms ts None (Some y) = let long = length-map ts negated_term in omega (arith, long)
side_terms ts (Some x) (Some y) = let long = length-map ts negated_term in omega (arith, long)

whole_length : (k : ℕ) (ts : List Term) → length (whole_terms k ts) ≡ length ts
whole_length k [] = refl
whole_length k (t ∷ ts) = ap suc (whole_length k ts)

admitted_terms : (r : ExactRow) → term_count (admitted_rows r) ≡ length (listed r.sides) * length r.terms
admitted_terms r =
    let k = row_exponent r in
    side_terms (whole_terms k r.terms) (whole_side k r.sides.lower) (whole_side k r.sides.upper)
    ∙ rw (whole_count k r.sides.lower r.sides.upper, whole_length k r.terms) refl

-- the number of terms is that of the lists' coefficients, once for each side
pub term_count_is : (n : ℕ) (cols : List MpsCol) (lists : List (List Coefficient)) (i : ℕ) (rows : List MpsRow) → AreGathered n cols lists → i + length rows ≤ n → term_count (rows_from cols i rows) ≡ terms_from lists i rows
term_count_is n cols lists i [] gathered few = refl
term_count_is n cols lists i (row ∷ rows) gathered few =
    let parts = sum_by-append (λ (r : Row). length r.terms) (admitted_rows (exact_row cols i row)) (rows_from cols (i + 1) rows) in
    let first = admitted_terms (exact_row cols i row) in
    let rest = term_count_is n cols lists (i + 1) rows gathered (omega (arith, few)) in
    let long : length (exact_terms i 0 cols) ≡ length (slice_index_or lists i []) = ap length (sym (gathered.each i (omega (arith, few)))) ∙ length-map (slice_index_or lists i []) _ in
    parts ∙ rw (first, rest, long) refl

abbrev pub count_chain : Bool → Bool → Bool → Option Refusal
count_chain a b d = option_or (refusal_if a TooManyColumns) (option_or (refusal_if b TooManyRows) (refusal_if d TooManyTerms))

pub many_rows : (a b d : Bool) → a ≡ false → b ≡ true → Some TooManyRows ≡ count_chain a b d
many_rows a b d x y = rw (x, y) refl

pub many_terms : (a b d : Bool) → a ≡ false → b ≡ false → d ≡ true → Some TooManyTerms ≡ count_chain a b d
many_terms a b d x y z = rw (x, y, z) refl

pub few_counts : (a b d : Bool) → a ≡ false → b ≡ false → d ≡ false → None ≡ count_chain a b d
few_counts a b d x y z = rw (x, y, z) refl

-- what is tested of a row's gathered coefficients is tested of the row
pub row_test : (f : ExactRow → Bool) (n : ℕ) (cols : List MpsCol) (lists : List (List Coefficient)) (at : ℕ) (terms : List Coefficient) (row : MpsRow) (b : Bool) → AreGathered n cols lists → at < n → terms ≡ slice_index_or lists at [] → f (record { terms = exact terms; sides = exact_sides row }) ≡ b
    → f (exact_row cols at row) ≡ b
row_test f n cols lists at terms row b gathered within same h =
    let here : exact terms ≡ exact_terms at 0 cols = ap exact same ∙ gathered.each at within in
    subst (λ (ts : List Term). f (record { terms = ts; sides = exact_sides row }) ≡ b) here h

pub counted_rows : (cols : List MpsCol) (rows all : List MpsRow) (r : ℕ) → rows ≡ all → r ≡ sum_by side_count rows → r ≡ length (rows_from cols 0 all)
counted_rows cols rows all r same counted = counted ∙ ap (sum_by side_count) same ∙ sym (row_count_is cols 0 all)

pub counted_terms : (cols : List MpsCol) (lists : List (List Coefficient)) (rows all : List MpsRow) (r : ℕ) → AreGathered (length all) cols lists → rows ≡ all → r ≡ terms_from lists 0 rows → r ≡ term_count (rows_from cols 0 all)
counted_terms cols lists rows all r gathered same counted = counted ∙ ap (terms_from lists 0) same ∙ sym (term_count_is (length all) cols lists 0 all gathered (omega arith))

pub read_list : (lists : List (List Coefficient)) (at : ℕ) (x slice : List Coefficient) → at < length lists → slice ≡ x → x ≡ get_or lists at x → slice ≡ slice_index_or lists at []
read_list lists at x slice within same read = same ∙ read ∙ get_or_default lists at x [] within

-- the reason that an error tells of is the refusal that its number and index name
pub cause_not_admitted : (m : MpsModel) (upper : Option ℕ) (error : AdmitError) (reason : Refusal) → IsCause m upper error → refusal_of error ≡ Some reason → IsNotAdmitted m upper (kind_of reason) (index_of reason)
cause_not_admitted m upper error reason cause tells = record { reason = reason; refused = cause.refused reason tells; numbered = refl; placed = refl }
