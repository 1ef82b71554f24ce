use Rattle.std.proofs.Common.{◌≡◌, ◌∙◌, ℕ, zero, suc, ◌+◌, ◌<◌, Bool, true, false, List, [], ◌∷◌, ◌++◌, length, Option, refl, sym, arith, subst, if◌then◌else◌}
use Rattle.std.proofs.lemmas.List.{length-append, length-set}
use Rattle.ip_core.specs.Decimals.{Number}
use Rattle.mps_read.specs.DraftRows.{state_at, is_tested, with_value_mark, marked_state, with_marked_state, with_value}
use Rattle.mps_read.specs.Drafts.{IsDraft, IsPlaced, latest_at}
use Rattle.mps_model.specs.declared.model.MpsRow.{MpsRow}
use Rattle.mps_model.specs.declared.model.MpsCol.{MpsCol}
use Rattle.mps_lines.specs.declared.section.Section.{Section}
use Rattle.mps_lines.specs.declared.section.ValueKind.{ValueKind}
use Rattle.mps_lines.specs.declared.section.ValueKind.TheVariants.{Side, Range}
use Rattle.mps_read.specs.declared.draft.Draft.{Draft}
use Rattle.mps_read.specs.declared.draft.RowPlace.{RowPlace}
use Rattle.mps_read.specs.declared.draft.RowPlace.TheVariants.{Objective, Dropped, Kept}
use Rattle.mps_read.specs.declared.draft.RowState.{RowState}
use Rattle.mps_read.specs.declared.draft.SetUse.{SetUse}

-- what holds of a draft doesn't stand on the header, the sets and the numbers
pub draft-with : (d : Draft) → IsDraft d → (section : Option Section) (sense : Bool) (name : List ℕ) (maximise : Option Bool) (objective : Option (List ℕ)) (integer : Bool) (constant : Number) (rhs ranges bounds : SetUse) (states : List RowState) (rows : List MpsRow) (cols : List MpsCol) → length states ≡ length d.row_states → ((row : ℕ) → (state_at states row).place ≡ (state_at d.row_states row).place) → length rows ≡ length d.rows → length cols ≡ length d.cols → IsDraft (record d { section = section; has_sense_line = sense; name = name; maximise = maximise; objective = objective; is_integer = integer; constant = constant; rhs = rhs; ranges = ranges; bounds = bounds; row_states = states; rows = rows; cols = cols })
draft-with d is section sense name maximise objective integer constant rhs ranges bounds states rows cols same_states same_places same_rows same_cols = record {
  states = same_states ∙ is.states;
  latest = is.latest;
  cols = same_cols ∙ is.cols;
  rows = same_rows ∙ is.rows;
  places = λ row. subst (IsPlaced d.kept) (sym (same_places row)) (is.places row);
  last_marks = is.last_marks;
  latest_within = is.latest_within;
}

-- a value keeps what a row's name stands for
marked-by : (b : Bool) (kind : ValueKind) (s : RowState) → (if b then with_value_mark kind s else s).place ≡ s.place
marked-by true Side s = refl
marked-by true Range s = refl
marked-by false kind s = refl

marked-place : (kind : ValueKind) (s : RowState) → (marked_state kind s).place ≡ s.place
marked-place kind s = marked-by (is_tested s.place) kind s

pub with_marked_state-place : (kind : ValueKind) (n : ℕ) (states : List RowState) (row : ℕ) → (state_at (with_marked_state kind n states) row).place ≡ (state_at states row).place
with_marked_state-place kind n [] row = refl
with_marked_state-place kind zero (s ∷ states) zero = marked-place kind s
with_marked_state-place kind zero (s ∷ states) (suc row) = refl
with_marked_state-place kind (suc n) (s ∷ states) zero = refl
with_marked_state-place kind (suc n) (s ∷ states) (suc row) = with_marked_state-place kind n states row

pub with_marked_state-length : (kind : ValueKind) (n : ℕ) (states : List RowState) → length (with_marked_state kind n states) ≡ length states
with_marked_state-length kind n states = length-set states n (marked_state kind (state_at states n))

pub with_value-length : (kind : ValueKind) (place : RowPlace) (value : Number) (rows : List MpsRow) → length (with_value kind place value rows) ≡ length rows
with_value-length kind Objective value rows = refl
with_value-length kind Dropped value rows = refl
with_value-length kind (Kept row) value rows = length-set rows row _

-- one more name
pub placed-push : (kept : ℕ) (states : List RowState) (s : RowState) → ((row : ℕ) → IsPlaced kept (state_at states row).place) → IsPlaced kept s.place → (row : ℕ) → IsPlaced kept (state_at (states ++ s ∷ []) row).place
placed-push kept [] s all here zero = here
placed-push kept [] s all here (suc row) = tt
placed-push kept (t ∷ states) s all here zero = all zero
placed-push kept (t ∷ states) s all here (suc row) = placed-push kept states s (λ r. all (suc r)) here row

pub placed-more : (kept : ℕ) (place : RowPlace) → IsPlaced kept place → IsPlaced (kept + 1) place
placed-more kept Objective h = tt
placed-more kept Dropped h = tt
placed-more kept (Kept row) h = omega arith

pub latest-push : (latest : List ℕ) (row : ℕ) → latest_at (latest ++ 0 ∷ []) row ≡ latest_at latest row
latest-push [] zero = refl
latest-push [] (suc row) = refl
latest-push (n ∷ latest) zero = refl
latest-push (n ∷ latest) (suc row) = latest-push latest row

-- a list with one more item
pub longer : {A : Type 0} (xs : List A) (x : A) → length (xs ++ x ∷ []) ≡ length xs + 1
longer xs x = omega (arith, length-append xs (x ∷ []))

-- only a name of the file is tested
pub tested-within : (states : List RowState) (row : ℕ) → is_tested (state_at states row).place ≡ true → row < length states
tested-within [] row h = cc
tested-within (s ∷ states) zero h = omega arith
tested-within (s ∷ states) (suc row) h = omega (arith, tested-within states row h)
