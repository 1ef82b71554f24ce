use Rattle.std.proofs.Common.{◌≡◌, ◌∙◌, ◌<◌, ◌+◌, ℕ, zero, suc, true, false, not, List, [], ◌∷◌, length, map, slice_index_or, ℤ, pos, negsuc, refl, sym, ap, subst, arith}
use Rattle.std.specs.List.{list_all}
use Rattle.std.proofs.lemmas.Bool.{false≢true, eqb-true, not-true}
use Rattle.std.proofs.lemmas.List.{length-map}
use Rattle.ip_core.specs.Decimals.{Number, IsDecimal}
use Rattle.ip_core.proofs.DecimalDigits.{and_true}
use Rattle.mps_read.specs.Names.{is_among, place_among}
use Rattle.mps_model.specs.Numbers.{zero_decimal, is_zero, is_zero_int}
use Rattle.mps_model.specs.Prints.{fresh_row}
use Rattle.mps_read.specs.DraftRows.{fresh_state, state_at}
use Rattle.mps_model.specs.MpsModels.{IsMpsModel, AreDistinct}
use Rattle.mps_model.specs.Prints.{row_name}
use Rattle.mps_model.specs.declared.model.RowKind.TheVariants.{Less}
use Rattle.mps_model.specs.declared.model.MpsRow.{MpsRow}
use Rattle.mps_model.specs.declared.model.MpsModel.{MpsModel}
use Rattle.mps_read.specs.declared.draft.RowPlace.{RowPlace}
use Rattle.mps_read.specs.declared.draft.RowPlace.TheVariants.{Objective, Dropped, Kept}
use Rattle.mps_read.specs.declared.draft.RowState.{RowState}
use Rattle.mps_read.proofs.PrintNames.{place_at, among_at}
use Rattle.mps_read.proofs.PrintPhases.{names_of, place_of, places_from, is_valueless}

-- what the names of rows stand for when all rows are read

-- a row's name has this number and stands for this
pub record IsRowOf (names : List (List ℕ)) (states : List RowState) (name : List ℕ) (number : ℕ) (place : RowPlace) : Type 0 where
  pub known : is_among name names ≡ true
  pub same_number : place_among name names ≡ number
  pub same_place : (state_at states number).place ≡ place

pub read_map : {A B : Type 0} (f : A → B) (xs : List A) (i : ℕ) (d : A) → slice_index_or (map f xs) i (f d) ≡ f (slice_index_or xs i d)
read_map f [] i d = refl
read_map f (x ∷ xs) zero d = refl
read_map f (x ∷ xs) (suc i) d = read_map f xs i d

place_from : (k : ℕ) (rows : List MpsRow) (i : ℕ) → i < length rows → slice_index_or (places_from k rows) i Dropped ≡ Kept (k + i)
place_from k [] i l = absurd (omega (arith, l))
place_from k (row ∷ rows) zero l = let e : k ≡ k + 0 = omega arith in ap Kept e
place_from k (row ∷ rows) (suc i) l =
    let e : k + 1 + i ≡ k + suc i = omega arith in place_from (k + 1) rows i (omega (arith, l)) ∙ ap Kept e

placed_at : (states : List RowState) (i : ℕ) (places : List RowPlace) → map place_of states ≡ places → (state_at states i).place ≡ slice_index_or places i Dropped
placed_at states i places h = sym (read_map place_of states i (fresh_state Dropped)) ∙ ap (λ ps. slice_index_or ps i Dropped) h

names_distinct : (m : MpsModel) (names : List (List ℕ)) → IsMpsModel m → names ≡ m.objective ∷ names_of m.rows → AreDistinct names []
names_distinct m names valid is = subst (λ (ns : List (List ℕ)). AreDistinct ns []) (sym is) valid.row_names

numbered_at : (m : MpsModel) (names : List (List ℕ)) (states : List RowState) (name : List ℕ) (i : ℕ) (place : RowPlace) → IsMpsModel m → names ≡ m.objective ∷ names_of m.rows
    → name ≡ slice_index_or names i [] → i < length names → (state_at states i).place ≡ place → IsRowOf names states name i place
numbered_at m names states name i place valid all is within placed = record {
  known = ap (λ n. is_among n names) is ∙ among_at names i within;
  same_number = ap (λ n. place_among n names) is ∙ place_at names i (names_distinct m names valid all) within;
  same_place = placed;
}

pub objective_row : (m : MpsModel) (names : List (List ℕ)) (states : List RowState) → IsMpsModel m → names ≡ m.objective ∷ names_of m.rows
    → map place_of states ≡ Objective ∷ places_from 0 m.rows → IsRowOf names states m.objective 0 Objective
objective_row m names states valid all places =
    let long : length names ≡ suc (length (names_of m.rows)) = ap length all in
    numbered_at m names states m.objective 0 Objective valid all (ap (λ ns. slice_index_or ns 0 []) (sym all)) (omega (arith, long))
    (placed_at states 0 (Objective ∷ places_from 0 m.rows) places)

pub kept_row : (m : MpsModel) (names : List (List ℕ)) (states : List RowState) (i : ℕ) → IsMpsModel m → names ≡ m.objective ∷ names_of m.rows
    → map place_of states ≡ Objective ∷ places_from 0 m.rows → i < length m.rows → IsRowOf names states (row_name m.rows i) (suc i) (Kept i)
kept_row m names states i valid all places l =
    let long : length names ≡ suc (length (names_of m.rows)) = ap length all in
    let same : length (names_of m.rows) ≡ length m.rows = length-map m.rows (λ row. row.name) in
    let name_is : row_name m.rows i ≡ slice_index_or names (suc i) [] =
    sym (read_map (λ (row : MpsRow). row.name) m.rows i (fresh_row Less [])) ∙ ap (λ ns. slice_index_or ns (suc i) []) (sym all)
    in
    numbered_at m names states (row_name m.rows i) (suc i) (Kept i) valid all name_is (omega (arith, long, same, l))
    (placed_at states (suc i) (Objective ∷ places_from 0 m.rows) places ∙ place_from 0 m.rows i l ∙ ap Kept (let e : 0 + i ≡ i = omega arith in e))

-- no row has values so far
pub valueless_at : (states : List RowState) (i : ℕ) → list_all is_valueless states ≡ true → ((state_at states i).has_side ≡ false) × ((state_at states i).has_range ≡ false)
valueless_at [] i h = (refl, refl)
valueless_at (s ∷ states) zero h =
    let p = and_true (is_valueless s) (list_all is_valueless states) h in
    let q = and_true (not s.has_side) (not s.has_range) p.0 in
    (not-true s.has_side q.0, not-true s.has_range q.1)
valueless_at (s ∷ states) (suc i) h = valueless_at states i (and_true (is_valueless s) (list_all is_valueless states) h).1

zero_by : (m e : ℤ) → m ≡ pos 0 → e ≡ pos 0 → (record { mantissa = m; exponent = e }) ≡ zero_decimal
zero_by m e h k = rw (h, k) refl

zero_int : (m : ℤ) → is_zero_int m ≡ true → m ≡ pos 0
zero_int (pos n) h = ap pos (eqb-true n 0 h)
zero_int (negsuc n) h = absurd (false≢true h)

-- a decimal that is zero
pub zero_is : (n : Number) → IsDecimal n → is_zero n ≡ true → n ≡ zero_decimal
zero_is n d h = let none = zero_int n.mantissa h in zero_by n.mantissa n.exponent none (d.zero none)
