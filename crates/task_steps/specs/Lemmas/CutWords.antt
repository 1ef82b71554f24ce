-- A derivation that gives a row has words.
use Rattle.std.proofs.Common.{◌≡◌, ℕ, ◌<◌, ◌≤◌, ◌^◌, true, cond, nat_le, nat_lt, List, [], ◌∷◌, length, All, Ok, Err, arith}
use Rattle.std.specs.List.{list_all}
use Rattle.std.proofs.lemmas.Bool.{and_parts, leb-true}
use Rattle.std.proofs.lemmas.Bool.Decides.{nat_tests}
use Rattle.std.proofs.lemmas.List.Elements.{All-cons, All-nil, All-weaker}
use Rattle.ip_core.specs.Models.{IsModel}
use Rattle.ip_core.specs.Rows.{AreRows}
use Rattle.ip_core.specs.declared.derivation.Derivation.{Derivation}
use Rattle.ip_core.specs.declared.derivation.Derivation.TheVariants.{Gomory, Cover}
use Rattle.ip_core.specs.declared.leaf.Pair.{Pair}
use Rattle.ip_core.specs.declared.model.ModelParts.{ModelParts}
use Rattle.ip_core.specs.declared.row.Row.{Row}
use Rattle.ip_core.specs.declared.row_ref.RowRef.{RowRef}
use Rattle.ip_core.specs.declared.row_ref.RowRef.TheVariants.{Model, Cut as CutRow}
use Rattle.safe_bound.specs.declared.limits.TheConstants.{MAX_MULTIPLIER}
use Rattle.row_propagate.specs.Replay.{row_named}
use Rattle.leaf_truth.specs.Multipliers.{are_rising}
use Rattle.leaf_truth.specs.Steps.{has_row}
use Rattle.leaf_truth.proofs.TestResults.{four_parts}
use Rattle.cut_derive.specs.Covers.{are_columns, first_unfit, rise_from}
use Rattle.cut_derive.specs.Derivations.{cover_unless, derived_row, unless_large}
use Rattle.cut_derive.specs.Gomory.{are_known, are_weights, gomory_row, has_weight, is_count, is_divisor}
use Rattle.cut_derive.specs.declared.limits.TheConstants.{MAX_CUTS, MAX_DIVISOR, MAX_PARTS}
use Rattle.cut_derive.specs.declared.refusal.Refusal.TheVariants.{BadNumbers, UnknownRow}
use Rattle.cut_derive.proofs.Covering.{IsChosen, all_chosen}
use Rattle.cut_derive.proofs.Named.{named_terms}
use Rattle.cut_derive.proofs.Shapes.{given_cover, if_ok}
use Rattle.work_stamp.specs.Writable.{HasNumber, HasWords, IsNumber, IsPair}
use Rattle.work_stamp.specs.declared.entry.Entry.TheVariants.{Cut}

below_number : (i n : ℕ) → nat_lt i n ≡ true → n ≤ 4096 → i < 2 ^ 32
below_number i n test few = grind (arith, nat_tests)

-- the number of a row that exists
row_number : (m : ModelParts) (cuts : List Row) (name : RowRef) → IsModel m
    → length cuts ≤ MAX_CUTS → has_row m.rows cuts name ≡ true → HasNumber name
row_number m cuts (Model i) valid few known =
    below_number i (length m.rows) known (let rows = valid.few.row_limit in omega arith)
row_number m cuts (CutRow i) valid few known =
    below_number i (length cuts) known (omega (arith, few))

small_weight : (p : Pair) → has_weight p ≡ true → p.weight < 2 ^ 64
small_weight p test =
    let parts = and_parts (nat_le 1 p.weight) (nat_le p.weight MAX_MULTIPLIER) test in
    let most = leb-true p.weight MAX_MULTIPLIER parts.1 in
    omega (arith, most)

pairs_words : (m : ModelParts) (cuts : List Row) (parts : List Pair) → IsModel m
    → length cuts ≤ MAX_CUTS → are_known m.rows cuts parts ≡ true
    → list_all has_weight parts ≡ true → All IsPair parts
pairs_words m cuts [] valid few known weights = All-nil IsPair
pairs_words m cuts (p ∷ parts) valid few known weights =
    let rows = and_parts (has_row m.rows cuts p.row) (are_known m.rows cuts parts) known in
    let sizes = and_parts (has_weight p) (list_all has_weight parts) weights in
    All-cons IsPair p parts
    (record { row = row_number m cuts p.row valid few rows.0; weight = small_weight p sizes.0 })
    (pairs_words m cuts parts valid few rows.1 sizes.1)

few_items : (n : ℕ) → is_count n ≡ true → n ≤ 2 ^ 30
few_items n test =
    let most = leb-true n MAX_PARTS (and_parts (nat_le 1 n) (nat_le n MAX_PARTS) test).1 in
    omega (arith, most)

pub cut_words : (m : ModelParts) (cuts : List Row) (d : Derivation) (row : Row) → IsModel m
    → AreRows (length m.cols) m.root cuts → length cuts ≤ MAX_CUTS
    → derived_row m cuts d ≡ Ok row → HasWords (Cut d)
cut_words m cuts (Gomory parts divisor) row valid of_cuts few same =
    let made = gomory_row m cuts parts divisor in
    let first = if_ok (are_known m.rows cuts parts)
    (cond (are_weights parts divisor) (unless_large m.root made) (Err BadNumbers)) UnknownRow row
    same in
    let second = if_ok (are_weights parts divisor) (unless_large m.root made) BadNumbers row first.1
    in
    let tests = four_parts (is_divisor divisor) (is_count (length parts))
    (list_all has_weight parts) (are_rising parts) second.0 in
    let most = leb-true divisor MAX_DIVISOR
    (and_parts (nat_le 1 divisor) (nat_le divisor MAX_DIVISOR) tests.0).1 in
    record {
      writable = few_items (length parts) tests.1;
      in_range = record {
        divisor_word = omega (arith, most);
        each = pairs_words m cuts parts valid few first.0 tests.2;
      };
    }
cut_words m cuts (Cover name cols) row valid of_cuts few same =
    let base = row_named m.rows cuts name in
    let inner = cover_unless m.root base cols (first_unfit m.root base cols) in
    let first = if_ok (has_row m.rows cuts name) (cond (are_columns cols) inner (Err BadNumbers))
    UnknownRow row same in
    let second = if_ok (are_columns cols) inner BadNumbers row first.1 in
    let counted = and_parts (is_count (length cols)) (rise_from 0 cols) second.0 in
    let cover = given_cover m.root base cols row second.1 in
    let chosen = all_chosen (length m.cols) m.root base cols
    (named_terms (length m.cols) m.root m.rows cuts name valid.rows of_cuts) cover.fit in
    let columns = valid.bounds.columns in
    record {
      writable = few_items (length cols) counted.0;
      in_range = record {
        row = row_number m cuts name valid few first.0;
        each = All-weaker (IsChosen (length m.cols) m.root base) IsNumber
            (λ col fit. let known = fit.known in omega arith) cols chosen;
      };
    }
