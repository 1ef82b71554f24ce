use Rattle.std.proofs.Common.{◌≡◌, ◌∙◌, ℕ, ◌^◌, ◌≤◌, Bool, true, false, List, [], length, map, slice_index_or, All, Option, Some, None, option_map, is_some, refl, sym, ap, subst, arith}
use Rattle.std.specs.Option.{option_or}
use Rattle.std.proofs.lemmas.Bool.{true≢false, ltb-false, or_parts}
use Rattle.std.proofs.lemmas.List.{length-map}
use Rattle.ip_core.specs.Sides.{Sides}
use Rattle.ip_core.specs.Rows.{IsTerm}
use Rattle.ip_core.specs.Models.{IsModel, term_count}
use Rattle.ip_core.specs.declared.limits.TheConstants.{MAX_COLUMNS, MAX_ROWS, MAX_TERMS, MAX_WIDTH, MAX_DECIMALS}
use Rattle.mps_model.specs.MpsModels.{IsMpsModel, IsMpsCol}
use Rattle.mps_model.specs.declared.model.MpsModel.{MpsModel}
use Rattle.mps_model.specs.declared.model.MpsCol.{MpsCol}
use Rattle.width_admit.specs.declared.refusal.Refusal.{Refusal}
use Rattle.width_admit.specs.declared.refusal.Refusal.TheVariants.{Continuous, NegativeUpper, Unbounded, BoundTooLarge, TooManyColumns, TooManyRows, TooManyTerms, RowTooFine, RowTooWide, ObjectiveTooWide}
use Rattle.width_admit.specs.declared.gather.Coefficient.{Coefficient}
use Rattle.width_admit.specs.Columns.{root, low, is_continuous, has_negative_upper, is_unbounded, has_large_bound}
use Rattle.width_admit.specs.ExactRows.{exact_terms, rows_from}
use Rattle.width_admit.specs.Admission.{admitted_model, refusal, refusal_if, column_refusal, count_refusal, width_refusal, first_column, first_too_wide, first_too_fine, has_many_columns, has_many_rows, has_many_terms, has_wide_objective}
use Rattle.width_admit.specs.Gathered.{exact, exact_term, AreGathered, AreColumns, IsColumn}
use Rattle.width_admit.specs.Held.{AreUsable}
use Rattle.std.proofs.lemmas.List.Elements.{All-weaker}
use Rattle.width_admit.proofs.Boxes.{root_limits}
use Rattle.width_admit.proofs.RowShapes.{exact_known, exact_short}
use Rattle.width_admit.proofs.RowModels.{rows_are_rows}

-- what nothing refuses is a model

none_or : {A : Type 0} (a b : Option A) → option_or a b ≡ None → (a ≡ None) × (b ≡ None)
none_or None b h = (refl, h)
none_or (Some x) b h = absurd (true≢false (ap is_some h))

none_map : {A B : Type 0} (f : A → B) (a : Option A) → option_map f a ≡ None → a ≡ None
none_map f None h = refl
none_map f (Some x) h = absurd (true≢false (ap is_some h))

none_if : (b : Bool) (e : Refusal) → refusal_if b e ≡ None → b ≡ false
none_if false e h = refl
none_if true e h = absurd (true≢false (ap is_some h))

-- what it says that nothing refuses a model
pub record IsUnrefused (m : MpsModel) (upper : Option ℕ) : Type 0 where
  pub bounds : first_column (has_large_bound upper) m ≡ None
  pub columns : has_many_columns m ≡ false
  pub rows : has_many_rows m ≡ false
  pub terms : has_many_terms m ≡ false
  pub wide : first_too_wide m upper ≡ None
  pub objective : has_wide_objective m upper ≡ false

pub large_none : (m : MpsModel) (upper : Option ℕ) → column_refusal m upper ≡ None → first_column (has_large_bound upper) m ≡ None
large_none m upper h =
    let first = none_or (option_map Continuous (first_column is_continuous m)) _ h in
    let second = none_or (option_map NegativeUpper (first_column has_negative_upper m)) _ first.1 in
    let third = none_or (option_map Unbounded (first_column (is_unbounded upper) m)) _ second.1 in
    none_map BoundTooLarge (first_column (has_large_bound upper) m) third.1

-- where nothing refuses a model, no column is unbounded
pub unbounded_none : (m : MpsModel) (upper : Option ℕ) → refusal m upper ≡ None → first_column (is_unbounded upper) m ≡ None
unbounded_none m upper h =
    let all = none_or (column_refusal m upper) _ h in
    let first = none_or (option_map Continuous (first_column is_continuous m)) _ all.0 in
    let second = none_or (option_map NegativeUpper (first_column has_negative_upper m)) _ first.1 in
    let third = none_or (option_map Unbounded (first_column (is_unbounded upper) m)) _ second.1 in
    none_map Unbounded (first_column (is_unbounded upper) m) third.0

pub unrefused : (m : MpsModel) (upper : Option ℕ) → refusal m upper ≡ None → IsUnrefused m upper
unrefused m upper h =
    let parts = none_or (column_refusal m upper) _ h in
    let later = none_or (count_refusal m) (width_refusal m upper) parts.1 in
    let cols = none_or (refusal_if (has_many_columns m) TooManyColumns) _ later.0 in
    let rows = none_or (refusal_if (has_many_rows m) TooManyRows) (refusal_if (has_many_terms m) TooManyTerms) cols.1 in
    let fine = none_or (option_map RowTooFine (first_too_fine m)) _ later.1 in
    let wide = none_or (option_map RowTooWide (first_too_wide m upper)) (refusal_if (has_wide_objective m upper) ObjectiveTooWide) fine.1 in
    record {
      bounds = large_none m upper parts.0;
      columns = none_if (has_many_columns m) TooManyColumns cols.0;
      rows = none_if (has_many_rows m) TooManyRows rows.0;
      terms = none_if (has_many_terms m) TooManyTerms rows.1;
      wide = none_map RowTooWide (first_too_wide m upper) wide.0;
      objective = none_if (has_wide_objective m upper) ObjectiveTooWide wide.1;
    }

-- and the other way round, one group of refusals after the other
pub all_none : (m : MpsModel) (upper : Option ℕ) → column_refusal m upper ≡ None → count_refusal m ≡ None → width_refusal m upper ≡ None → refusal m upper ≡ None
all_none m upper x y z = rw (x, y, z) refl

pub at_column : (m : MpsModel) (upper : Option ℕ) (e : Refusal) → column_refusal m upper ≡ Some e → refusal m upper ≡ Some e
at_column m upper e x = rw x refl

pub at_count : (m : MpsModel) (upper : Option ℕ) (e : Refusal) → column_refusal m upper ≡ None → count_refusal m ≡ Some e → refusal m upper ≡ Some e
at_count m upper e x y = rw (x, y) refl

pub at_width : (m : MpsModel) (upper : Option ℕ) (e : Refusal) → column_refusal m upper ≡ None → count_refusal m ≡ None → width_refusal m upper ≡ Some e → refusal m upper ≡ Some e
at_width m upper e x y z = rw (x, y, z) refl

-- the parts of what nothing refuses make a model
pub admitted_is_model : (m : MpsModel) (upper : Option ℕ) → AreColumns (length m.rows) m.cols → refusal m upper ≡ None → IsModel (admitted_model m upper)
admitted_is_model m upper valid h =
    let all = unrefused m upper h in
    let names = length-map m.cols (λ (c : MpsCol). c.name) in
    let objective = or_parts _ _ all.objective in
    record {
      bounds = record {
        columns = let few = ltb-false MAX_COLUMNS (length m.cols) all.columns in omega (arith, few, names);
        costs = length-map m.cols _ ∙ sym names;
        box = length-map m.cols _ ∙ sym names;
        highs = length-map m.cols _ ∙ sym names;
        limits = root_limits upper m.cols all.bounds;
      };
      few = record {
        row_limit = ltb-false MAX_ROWS (length (rows_from m.cols 0 m.rows)) all.rows;
        term_limit = ltb-false MAX_TERMS (term_count (rows_from m.cols 0 m.rows)) all.terms;
      };
      rows = record { each = rows_are_rows (length (map (λ (c : MpsCol). c.name) m.cols)) (length m.rows) 0 (root upper m.cols) m.cols m.rows (omega (arith, names)) valid.each all.wide };
      objective = ltb-false MAX_WIDTH _ objective.1;
      decimals = ltb-false MAX_DECIMALS _ objective.0;
    }

-- the gathered lists belong to the columns and are no longer than they
pub gathered_usable : (m : MpsModel) (upper : Option ℕ) (lists : List (List Coefficient)) → AreColumns (length m.rows) m.cols → length m.cols ≤ 2 ^ 30 → AreGathered (length m.rows) m.cols lists → AreUsable (length (root upper m.cols).lows) lists
gathered_usable m upper lists valid short gathered =
    let long = length-map m.cols (λ (c : MpsCol). low c.low) in
    record {
      known = λ i within.
          let here : exact (slice_index_or lists i []) ≡ exact_terms i 0 m.cols = gathered.each i (omega (arith, within, gathered.as_many)) in
          record { each = subst (All (IsTerm (length (root upper m.cols).lows))) (sym here) (exact_known (length (root upper m.cols).lows) (length m.rows) i 0 m.cols (omega (arith, long)) valid.each) };
      short = λ i within.
          let here : exact (slice_index_or lists i []) ≡ exact_terms i 0 m.cols = gathered.each i (omega (arith, within, gathered.as_many)) in
          let same = length-map (slice_index_or lists i []) exact_term in
          let few = exact_short (length m.rows) i 0 m.cols valid.each in
          let both = ap length here in
          omega (arith, same, few, both, short);
    }

-- the same of lists and a box that are equal to these
pub usable_as : (m : MpsModel) (upper : Option ℕ) (n : ℕ) (cols : List MpsCol) (lists slice : List (List Coefficient)) (s : Sides) → AreColumns (length m.rows) m.cols → length m.cols ≤ 2 ^ 30 → n ≡ length m.rows → cols ≡ m.cols → AreGathered n cols lists → slice ≡ lists → s ≡ root upper m.cols → AreUsable (length s.lows) slice
usable_as m upper n cols lists slice s valid short rows same gathered sliced boxed =
    let whole : AreGathered (length m.rows) m.cols lists = subst (λ k. AreGathered k m.cols lists) rows (subst (λ cs. AreGathered n cs lists) same gathered) in
    rw (sliced, boxed) (gathered_usable m upper lists valid short whole)

-- what a file can have has columns whose entries are known, nonzero and given once
pub columns_of_file : (m : MpsModel) → IsMpsModel m → AreColumns (length m.rows) m.cols
columns_of_file m valid = record {
  each = All-weaker (IsMpsCol (length m.rows)) (IsColumn (length m.rows)) (λ c h. record { entries = h.entries; once = h.once }) m.cols valid.cols;
}
