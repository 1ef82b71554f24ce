-- The laws of derived rows.
use Rattle.std.proofs.Common.{◌≡◌, ◌∙◌, ℕ, ◌<◌, ◌≤◌, true, cond, nat_le, List, [], ◌∷◌, ◌++◌, length, ℤ, ◌*ℤ◌, ◌≤ℤ◌, Result, Ok, Err, refl, sym, ap, subst, arith}
use Rattle.std.specs.List.{list_all}
use Rattle.std.proofs.lemmas.Int.{ints}
use Rattle.std.proofs.lemmas.Bool.{and_parts, leb-true, cond-true}
use Rattle.std.proofs.lemmas.List.Elements.{All-nil, All-cons, All-append}
use Rattle.ip_core.specs.Numbers.{int_at, int_sum_below}
use Rattle.ip_core.specs.Models.{IsModel}
use Rattle.ip_core.specs.Truth.{IsFeasible}
use Rattle.ip_core.specs.Rows.{AreTerms, IsMet, AreRows, AreMet, coefficient}
use Rattle.ip_core.specs.declared.model.ModelParts.{ModelParts}
use Rattle.ip_core.specs.declared.row.Row.{Row}
use Rattle.ip_core.specs.declared.row_ref.RowRef.{RowRef}
use Rattle.ip_core.specs.declared.leaf.Pair.{Pair}
use Rattle.ip_core.specs.declared.derivation.Derivation.TheVariants.{Gomory, Cover}
use Rattle.row_propagate.specs.Replay.{row_named}
use Rattle.leaf_truth.specs.Steps.{has_row}
use Rattle.leaf_truth.specs.Multipliers.{are_rising}
use Rattle.leaf_truth.proofs.TestResults.{four_parts}
use Rattle.cut_derive.specs.declared.limits.TheConstants.{MAX_DIVISOR}
use Rattle.cut_derive.specs.declared.refusal.Refusal.{Refusal}
use Rattle.cut_derive.specs.declared.refusal.Refusal.TheVariants.{UnknownRow, BadNumbers}
use Rattle.cut_derive.specs.Gomory.{combined_coefficient, combined_least, rounded_coefficient, gomory_row, are_known, is_divisor, is_count, has_weight, are_weights}
use Rattle.cut_derive.specs.Covers.{are_columns, first_unfit, rise_from}
use Rattle.cut_derive.specs.Derivations.{unless_large, cover_unless, derived_row}
use Rattle.cut_derive.specs.Laws.{IsCut, AreCutRows, AreDerived, NoCuts, OneMore, DerivedRowIsMet, DerivedRowIsCut, DerivedOverMore, DerivedAreCutRows, DerivedAreValid}
use Rattle.cut_derive.proofs.Fronts.{cols_of, IsFront, front_below, rises_from_zero}
use Rattle.cut_derive.proofs.Rounded.{rounded_row_met, rounded_row-same}
use Rattle.cut_derive.proofs.Named.{named_holds, no_row_met, named_terms, parts_by_columns, parts_met, has_row_more, named_more, known_more, part_sum_more}
use Rattle.cut_derive.proofs.Covering.{cover_row_met}
use Rattle.cut_derive.proofs.Shapes.{IsGiven, IsGivenCover, if_ok, given_of, given_cover, front_row, cover_front}

-- what parts and a divisor that give a row have
pub record IsGomory (m : ModelParts) (cuts : List Row) (parts : List Pair) (divisor : ℕ) (row : Row) : Type 0 where
  pub known : are_known m.rows cuts parts ≡ true
  pub weights : are_weights parts divisor ≡ true
  pub above : 0 < divisor
  pub given : IsGiven m.root (gomory_row m cuts parts divisor) row

pub gomory_of : (m : ModelParts) (cuts : List Row) (parts : List Pair) (divisor : ℕ) (row : Row) → derived_row m cuts (Gomory parts divisor) ≡ Ok row → IsGomory m cuts parts divisor row
gomory_of m cuts parts divisor row same =
    let made = gomory_row m cuts parts divisor in
    let first = if_ok (are_known m.rows cuts parts) (cond (are_weights parts divisor) (unless_large m.root made) (Err BadNumbers)) UnknownRow row same in
    let second = if_ok (are_weights parts divisor) (unless_large m.root made) BadNumbers row first.1 in
    let tests = four_parts (is_divisor divisor) (is_count (length parts)) (list_all has_weight parts) (are_rising parts) second.0 in
    let above : 1 ≤ divisor = leb-true 1 divisor (and_parts (nat_le 1 divisor) (nat_le divisor MAX_DIVISOR) tests.0).0 in
    record { known = first.0; weights = second.0; above = omega (arith, above); given = given_of m.root made row second.1 }

-- what columns of a row that give a row have
record IsCoverOf (m : ModelParts) (cuts : List Row) (name : RowRef) (cols : List ℕ) (row : Row) : Type 0 where
  pub known : has_row m.rows cuts name ≡ true
  pub columns : are_columns cols ≡ true
  pub rise : rise_from 0 cols ≡ true
  pub given : IsGivenCover m.root (row_named m.rows cuts name) cols row

cover_of : (m : ModelParts) (cuts : List Row) (name : RowRef) (cols : List ℕ) (row : Row) → derived_row m cuts (Cover name cols) ≡ Ok row → IsCoverOf m cuts name cols row
cover_of m cuts name cols row same =
    let base = row_named m.rows cuts name in
    let inner = cover_unless m.root base cols (first_unfit m.root base cols) in
    let first = if_ok (has_row m.rows cuts name) (cond (are_columns cols) inner (Err BadNumbers)) UnknownRow row same in
    let second = if_ok (are_columns cols) inner BadNumbers row first.1 in
    record {
      known = first.0;
      columns = second.0;
      rise = (and_parts (is_count (length cols)) (rise_from 0 cols) second.0).1;
      given = given_cover m.root base cols row second.1;
    }

rows_terms : (m : ModelParts) (cuts : List Row) (name : RowRef) → IsModel m → AreRows (length m.cols) m.root cuts → AreTerms (length m.cols) (row_named m.rows cuts name).terms
rows_terms m cuts name valid cut_rows = named_terms (length m.cols) m.root m.rows cuts name valid.rows cut_rows

rows_rising : (m : ModelParts) (cuts : List Row) (name : RowRef) → IsModel m → AreRows (length m.cols) m.root cuts → rise_from 0 (cols_of (row_named m.rows cuts name).terms) ≡ true
rows_rising m cuts name valid cut_rows =
    named_holds (λ (row : Row). rise_from 0 (cols_of row.terms) ≡ true) m.rows cuts name refl
    (λ i d h. rises_from_zero _ (valid.rows.each i d h).rising) (λ i d h. rises_from_zero _ (cut_rows.each i d h).rising)

chained : (a b c : ℤ) → a ≤ℤ b → c ≡ b → a ≤ℤ c
chained a b c le same = omega (arith, ints, le, same)

gomory_met : (m : ModelParts) (cuts : List Row) (parts : List Pair) (divisor : ℕ) (x : List ℤ) → 0 < divisor → IsModel m → AreRows (length m.cols) m.root cuts → IsFeasible m x → AreMet x cuts → IsMet x (gomory_row m cuts parts divisor)
gomory_met m cuts parts divisor x above valid cut_rows feasible met =
    let n = length m.cols in
    let a = combined_coefficient m.rows cuts parts in
    let b = combined_least m.rows cuts parts in
    let by_columns = parts_by_columns n x m.rows cuts parts (λ k d h. rows_terms m cuts _ valid cut_rows) in
    rounded_row_met n m.root a b divisor x above (λ j h. feasible.inside.above j (omega (arith, h, feasible.one_each)))
    (chained b _ (int_sum_below n (λ j. a j *ℤ int_at x j)) (parts_met x m.rows cuts parts feasible.rows_met met) by_columns)

pub derived_row_is_met : DerivedRowIsMet
derived_row_is_met m cuts (Gomory parts divisor) row x valid cut_rows feasible met same =
    let g = gomory_of m cuts parts divisor row same in
    subst (IsMet x) g.given.same (gomory_met m cuts parts divisor x g.above valid cut_rows feasible met)
derived_row_is_met m cuts (Cover name cols) row x valid cut_rows feasible met same =
    let c = cover_of m cuts name cols row same in
    let base = row_named m.rows cuts name in
    subst (IsMet x) c.given.given.same
    (cover_row_met (length m.cols) m.root base cols x (rows_terms m cuts name valid cut_rows) (rows_rising m cuts name valid cut_rows) feasible.one_each feasible.inside (named_holds (IsMet x) m.rows cuts name (no_row_met x) feasible.rows_met.each met.each) c.rise c.given.fit c.given.cover)

pub derived_row_is_cut : DerivedRowIsCut
derived_row_is_cut m cuts (Gomory parts divisor) row valid cut_rows same =
    let g = gomory_of m cuts parts divisor row same in
    let n = length m.cols in
    let front = subst (λ (r : Row). IsFront n r.terms) g.given.same (front_below n (rounded_coefficient (combined_coefficient m.rows cuts parts) divisor)) in
    record { valid = front_row n m.root row front g.given.narrow; short = g.given.short }
derived_row_is_cut m cuts (Cover name cols) row valid cut_rows same =
    let c = cover_of m cuts name cols row same in
    let n = length m.cols in
    let base = row_named m.rows cuts name in
    let front = subst (λ (r : Row). IsFront n r.terms) c.given.given.same (cover_front n m.root base cols (rows_terms m cuts name valid cut_rows) c.rise c.given.fit) in
    record { valid = front_row n m.root row front c.given.given.narrow; short = c.given.given.short }

gomory_more : (m : ModelParts) (cuts more : List Row) (parts : List Pair) (divisor : ℕ) → are_known m.rows cuts parts ≡ true → gomory_row m (cuts ++ more) parts divisor ≡ gomory_row m cuts parts divisor
gomory_more m cuts more parts divisor known =
    rounded_row-same (length m.cols) m.root (combined_coefficient m.rows (cuts ++ more) parts) (combined_coefficient m.rows cuts parts) (combined_least m.rows (cuts ++ more) parts) (combined_least m.rows cuts parts) divisor
    (λ j h. part_sum_more (λ row. coefficient j row.terms) m.rows cuts more parts known) (part_sum_more (λ row. row.least) m.rows cuts more parts known)

pub derived_over_more : DerivedOverMore
derived_over_more m cuts more (Gomory parts divisor) row same =
    let g = gomory_of m cuts parts divisor row same in
    let first : derived_row m (cuts ++ more) (Gomory parts divisor) ≡ cond (are_weights parts divisor) (unless_large m.root (gomory_row m (cuts ++ more) parts divisor)) (Err BadNumbers) = cond-true (are_known m.rows (cuts ++ more) parts) _ (Err UnknownRow) (known_more m.rows cuts more parts g.known) in
    let before : derived_row m cuts (Gomory parts divisor) ≡ cond (are_weights parts divisor) (unless_large m.root (gomory_row m cuts parts divisor)) (Err BadNumbers) = cond-true (are_known m.rows cuts parts) _ (Err UnknownRow) g.known in
    first ∙ ap (λ (r : Row). cond (are_weights parts divisor) (unless_large m.root r) (Err BadNumbers)) (gomory_more m cuts more parts divisor g.known) ∙ sym before ∙ same
derived_over_more m cuts more (Cover name cols) row same =
    let c = cover_of m cuts name cols row same in
    let answer : Row → Result Row Refusal = λ base. cond (are_columns cols) (cover_unless m.root base cols (first_unfit m.root base cols)) (Err BadNumbers) in
    let first : derived_row m (cuts ++ more) (Cover name cols) ≡ answer (row_named m.rows (cuts ++ more) name) = cond-true (has_row m.rows (cuts ++ more) name) _ (Err UnknownRow) (has_row_more m.rows cuts more name c.known) in
    let before : derived_row m cuts (Cover name cols) ≡ answer (row_named m.rows cuts name) = cond-true (has_row m.rows cuts name) _ (Err UnknownRow) c.known in
    first ∙ ap answer (named_more m.rows cuts more name c.known) ∙ sym before ∙ same

rows_of : (m : ModelParts) (cuts : List Row) → AreCutRows m cuts → AreRows (length m.cols) m.root cuts
rows_of m cuts rows = record { each = λ k d h. (rows.each k d h).valid }

pub derived_are_cut_rows : DerivedAreCutRows
derived_are_cut_rows m [] valid NoCuts = record { each = All-nil (IsCut m) }
derived_are_cut_rows m _ valid (OneMore cuts d row before same) =
    let earlier = derived_are_cut_rows m cuts valid before in
    record { each = All-append (IsCut m) cuts (row ∷ []) earlier.each (All-cons (IsCut m) row [] (derived_row_is_cut m cuts d row valid (rows_of m cuts earlier) same) (All-nil (IsCut m))) }

derived_met : (m : ModelParts) (cuts : List Row) (x : List ℤ) → IsModel m → IsFeasible m x → AreDerived m cuts → AreMet x cuts
derived_met m [] x valid feasible NoCuts = record { each = All-nil (IsMet x) }
derived_met m _ x valid feasible (OneMore cuts d row before same) =
    let earlier = derived_met m cuts x valid feasible before in
    let rows = rows_of m cuts (derived_are_cut_rows m cuts valid before) in
    record { each = All-append (IsMet x) cuts (row ∷ []) earlier.each (All-cons (IsMet x) row [] (derived_row_is_met m cuts d row x valid rows feasible earlier same) (All-nil (IsMet x))) }

pub derived_are_valid : DerivedAreValid
derived_are_valid m cuts valid derived = record {
  rows = rows_of m cuts (derived_are_cut_rows m cuts valid derived);
  met = λ x feasible. derived_met m cuts x valid feasible derived;
}
