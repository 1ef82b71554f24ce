use Rattle.std.proofs.Common.{◌≡◌, ◌≤◌, ◌<◌, ◌+◌, ◌*◌, ◌/◌, ◌^◌, ℕ, Bool, false, nat_lt, List, [], ◌∷◌, length, slice_index_or, All, ℤ, pos, unsigned_abs, None, refl, sym, subst, arith}
use Rattle.std.proofs.lemmas.Bool.Decides.{nat_tests}
use Rattle.std.proofs.lemmas.Int.{ints}
use Rattle.std.proofs.lemmas.List.Elements.{All-nil, All-cons, All-head, All-tail}
use Rattle.ip_core.specs.Sides.{HasLimits}
use Rattle.ip_core.specs.declared.limits.TheConstants.{MAX_COLUMNS, MAX_ROWS, MAX_TERMS}
use Rattle.mps_model.specs.declared.model.MpsEntry.{MpsEntry}
use Rattle.mps_model.specs.declared.model.MpsModel.{MpsModel}
use Rattle.width_admit.specs.Admission.{admitted_model, refusal, column_refusal, count_refusal, width_refusal, first_column, first_too_fine, first_too_wide, has_many_columns, has_many_rows, has_many_terms, has_wide_objective, objective_exponent}
use Rattle.width_admit.specs.Columns.{root, is_continuous, has_negative_upper, is_unbounded, has_large_bound}
use Rattle.width_admit.specs.Exact.{units}
use Rattle.width_admit.specs.ExactRows.{exact_row, is_too_fine, is_too_wide}
use Rattle.width_admit.specs.Gathered.{AreColumns}
use Rattle.width_admit.proofs.Boxes.{root_limits}
use Rattle.width_admit.proofs.Models.{columns_of_file}
use Rattle.width_admit.proofs.Refusals.{no_column, few_counts}
use Rattle.sample_model.specs.declared.knapsack.Knapsack.{Knapsack}
use Rattle.sample_model.specs.Draws.{AreAtMost, after, next}
use Rattle.sample_model.specs.Wholes.{whole_decimal}
use Rattle.sample_model.specs.Knapsacks.{greatest_sum, knapsack, row_coefficients, past_place, IsRow, IsKnapsack}
use Rattle.sample_model.specs.Samples.{row_of, rows_of, entries_of, col_of, cols_of, model_of, sample, generated_model}
use Rattle.sample_model.specs.Laws.{SamplesAreAdmitted}
use Rattle.sample_model.proofs.Series.{series_length}
use Rattle.sample_model.proofs.KnapsackLaws.{knapsack_is}
use Rattle.sample_model.proofs.WholeLaws.{whole_size, negated_size, whole_floor, whole_not_negative}
use Rattle.sample_model.proofs.SampleLaws.{sum_small, with_entry_is, coefficient_small, rows_length, cols_length, model_is}
use Rattle.sample_model.proofs.AdmitLaws.{IsWholeUnits, IsPlainCol, IsPlainRow, units_of, row_not_fine, row_not_wide, rows_count, terms_few, costs_exponent, objective_not_wide, none_first, none_of_three, no_width, not_above}

-- sample models are admitted

abbrev IsSmallEntry : MpsEntry → Type 0
IsSmallEntry e = IsWholeUnits 50 (units e.value)

entries_small : (cols j i : ℕ) (rows : List (List ℕ)) → j < cols → All (IsRow cols) rows → All IsSmallEntry (entries_of j i rows)
entries_small cols j i [] known valid = All-nil IsSmallEntry
entries_small cols j i (row ∷ rows) known valid =
    let c = slice_index_or row j 0 in
    let small = coefficient_small cols j row (All-head (IsRow cols) row rows valid) known in
    let later = entries_of j (i + 1) rows in
    let rest = entries_small cols j (i + 1) rows known (All-tail (IsRow cols) row rows valid) in
    with_entry_is (All IsSmallEntry) i c later rest
    (λ some. All-cons IsSmallEntry (record { row = i; value = whole_decimal c }) later (units_of c 50 (whole_decimal c) (whole_size c (omega (arith, small))) small) rest)

not_large : (z : ℤ) (n : ℕ) → z ≡ pos n → n ≤ 3 → nat_lt 2147483648 (unsigned_abs z) ≡ false
not_large z n same few = grind (arith, ints, nat_tests, same)

col_plain : (cols j upper cost : ℕ) (rows : List (List ℕ)) → j < cols → upper ≤ 3 → cost ≤ 100 → All (IsRow cols) rows → IsPlainCol (col_of rows j upper cost)
col_plain cols j upper cost rows known small cheap valid = record {
  continuous = refl;
  negative = whole_not_negative upper (omega (arith, small));
  unbounded = refl;
  large = not_large _ upper (whole_floor upper (omega (arith, small))) small;
  cost = units_of cost 100 _ (negated_size cost (omega (arith, cheap))) cheap;
  entries = entries_small cols j 0 rows known valid;
}

cols_plain : (cols j : ℕ) (uppers costs : List ℕ) (rows : List (List ℕ)) → j + length uppers ≤ cols → All (λ m. m ≤ 3) uppers → All (λ m. m ≤ 100) costs → All (IsRow cols) rows → All IsPlainCol (cols_of rows j uppers costs)
cols_plain cols j [] costs rows known small cheap valid = All-nil IsPlainCol
cols_plain cols j (upper ∷ uppers) [] rows known small cheap valid = All-nil IsPlainCol
cols_plain cols j (upper ∷ uppers) (cost ∷ costs) rows known small cheap valid =
    All-cons IsPlainCol (col_of rows j upper cost) (cols_of rows (j + 1) uppers costs)
    (col_plain cols j upper cost rows (omega (arith, known)) (All-head (λ m. m ≤ 3) upper uppers small) (All-head (λ m. m ≤ 100) cost costs cheap) valid)
    (cols_plain cols (j + 1) uppers costs rows (omega (arith, known)) (All-tail (λ m. m ≤ 3) upper uppers small) (All-tail (λ m. m ≤ 100) cost costs cheap) valid)

row_plain : (uppers : List ℕ) (i : ℕ) (row : List ℕ) → AreAtMost 3 uppers → length uppers ≤ MAX_COLUMNS → IsRow (length uppers) row → IsPlainRow (row_of uppers i row)
row_plain uppers i row small few valid =
    let sum = sum_small row uppers valid.small.each small.each in
    let side : ℕ = greatest_sum row uppers / 3 in
    record { sides = refl; side = units_of side (2 ^ 30) (whole_decimal side) (whole_size side (omega (arith, sum, few))) (omega (arith, sum, few)) }

rows_plain : (uppers : List ℕ) (i : ℕ) (rows : List (List ℕ)) → AreAtMost 3 uppers → length uppers ≤ MAX_COLUMNS → All (IsRow (length uppers)) rows → All IsPlainRow (rows_of uppers i rows)
rows_plain uppers i [] small few valid = All-nil IsPlainRow
rows_plain uppers i (row ∷ rows) small few valid =
    All-cons IsPlainRow (row_of uppers i row) (rows_of uppers (i + 1) rows)
    (row_plain uppers i row small few (All-head (IsRow (length uppers)) row rows valid))
    (rows_plain uppers (i + 1) rows small few (All-tail (IsRow (length uppers)) row rows valid))

-- columns and rows that nothing refuses, few enough of them
record IsPlain (m : MpsModel) : Type 0 where
  pub cols : All IsPlainCol m.cols
  pub rows : All IsPlainRow m.rows
  pub valid : AreColumns (length m.rows) m.cols
  pub few_columns : length m.cols ≤ MAX_COLUMNS
  pub few_rows : length m.rows ≤ MAX_ROWS
  pub few_terms : length m.rows * length m.cols ≤ MAX_TERMS
  pub minimises : m.maximise ≡ false
  pub constant : IsWholeUnits 100 (units m.constant)

no_large : (m : MpsModel) → IsPlain m → first_column (has_large_bound None) m ≡ None
no_large m plain = none_first (λ _ c. has_large_bound None c) IsPlainCol 0 m.cols (λ j c p. p.large) plain.cols

no_column_refused : (m : MpsModel) → IsPlain m → column_refusal m None ≡ None
no_column_refused m plain =
    sym (no_column (first_column is_continuous m) (first_column has_negative_upper m) (first_column (is_unbounded None) m) (first_column (has_large_bound None) m)
    (none_first (λ _ c. is_continuous c) IsPlainCol 0 m.cols (λ j c p. p.continuous) plain.cols)
    (none_first (λ _ c. has_negative_upper c) IsPlainCol 0 m.cols (λ j c p. p.negative) plain.cols)
    (none_first (λ _ c. is_unbounded None c) IsPlainCol 0 m.cols (λ j c p. p.unbounded) plain.cols)
    (no_large m plain))

no_count_refused : (m : MpsModel) → IsPlain m → count_refusal m ≡ None
no_count_refused m plain =
    let rows = rows_count m.cols 0 m.rows plain.cols plain.rows in
    let few_rows = plain.few_rows in
    let terms = terms_few (length m.rows) m.cols m.rows plain.cols plain.valid.each plain.rows in
    let few_terms = plain.few_terms in
    sym (few_counts (has_many_columns m) (has_many_rows m) (has_many_terms m)
    (not_above MAX_COLUMNS (length m.cols) plain.few_columns)
    (not_above MAX_ROWS _ (omega (arith, rows, few_rows)))
    (not_above MAX_TERMS _ (omega (arith, terms, few_terms))))

not_wide : (m : MpsModel) → IsPlain m → HasLimits (root None m.cols) → has_wide_objective m None ≡ false
not_wide m plain limits =
    subst (λ (maximise : Bool). has_wide_objective (record m { maximise = maximise }) None ≡ false) (sym plain.minimises)
    (objective_not_wide (root None m.cols) m.cols m.constant (objective_exponent m) (costs_exponent m.cols m.constant plain.cols plain.constant) limits plain.cols plain.few_columns plain.constant)

no_width_refused : (m : MpsModel) → IsPlain m → width_refusal m None ≡ None
no_width_refused m plain =
    let limits : HasLimits (root None m.cols) = root_limits None m.cols (no_large m plain) in
    no_width (first_too_fine m) (first_too_wide m None) (has_wide_objective m None)
    (none_first (λ i row. is_too_fine (exact_row m.cols i row)) IsPlainRow 0 m.rows (λ i row p. row_not_fine m.cols i row plain.cols p) plain.rows)
    (none_first (λ i row. is_too_wide (root None m.cols) (exact_row m.cols i row)) IsPlainRow 0 m.rows (λ i row p. row_not_wide (length m.rows) (root None m.cols) m.cols i row limits plain.cols plain.valid.each plain.few_columns p) plain.rows)
    (not_wide m plain limits)

not_refused : (m : MpsModel) → IsPlain m → refusal m None ≡ None
not_refused m plain = none_of_three (column_refusal m None) (count_refusal m) (width_refusal m None) (no_column_refused m plain) (no_count_refused m plain) (no_width_refused m plain)

model_plain : (k : Knapsack) → IsKnapsack k → length k.uppers ≤ MAX_COLUMNS → length k.coefficients ≤ MAX_ROWS → length k.coefficients * length k.uppers ≤ MAX_TERMS → IsPlain (model_of k)
model_plain k valid few_columns few_rows few_terms =
    let cols : length (cols_of k.coefficients 0 k.uppers k.costs) ≡ length k.uppers = cols_length k.coefficients 0 k.uppers k.costs valid.as_many in
    let rows : length (rows_of k.uppers 0 k.coefficients) ≡ length k.coefficients = rows_length k.uppers 0 k.coefficients in
    record {
      cols = cols_plain (length k.uppers) 0 k.uppers k.costs k.coefficients (omega arith) valid.uppers.each valid.costs.each valid.rows.each;
      rows = rows_plain k.uppers 0 k.coefficients valid.uppers few_columns valid.rows.each;
      valid = columns_of_file (model_of k) (model_is k valid);
      few_columns = omega (arith, cols, few_columns);
      few_rows = omega (arith, rows, few_rows);
      few_terms = rw (cols, rows) few_terms;
      minimises = refl;
      constant = units_of 0 100 (whole_decimal 0) (whole_size 0 (omega arith)) (omega arith);
    }

sample_plain : (rows cols z : ℕ) → cols ≤ MAX_COLUMNS → rows ≤ MAX_ROWS → rows * cols ≤ MAX_TERMS → IsPlain (sample rows cols z)
sample_plain rows cols z few_columns few_rows few_terms =
    let columns : length (knapsack rows cols z).uppers ≡ cols = series_length _ next cols z in
    let lines : length (knapsack rows cols z).coefficients ≡ rows = series_length (row_coefficients cols) (after past_place cols) rows _ in
    model_plain (knapsack rows cols z) (knapsack_is rows cols z (omega (arith, few_rows)) (omega (arith, few_columns)))
    (omega (arith, columns, few_columns)) (omega (arith, lines, few_rows)) (rw (columns, lines) few_terms)

pub samples_are_admitted : SamplesAreAdmitted
unfolding generated_model
samples_are_admitted number =
    let plain : IsPlain (sample 100 400 number) = sample_plain 100 400 number (omega arith) (omega arith) (omega arith) in
    (admitted_model (sample 100 400 number) None, record { unrefused = not_refused (sample 100 400 number) plain; whole = refl })
