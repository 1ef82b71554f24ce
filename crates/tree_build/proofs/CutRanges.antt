-- The numbers of the cuts of a history are in the ranges of their text.
use Rattle.std.proofs.Common.{◌≡◌, ℕ, suc, ◌+◌, ◌≤◌, ◌<◌, true, cond, List, [], ◌∷◌, length, nat_le, All, Result, Ok, Err, Option, Some, None, refl, sym, subst, arith}
use Rattle.std.specs.List.{AllByRecursion, list_all}
use Rattle.std.proofs.lemmas.Bool.{and_parts, leb-true}
use Rattle.ip_core.specs.Models.{IsModel}
use Rattle.ip_core.specs.declared.derivation.Derivation.{Derivation}
use Rattle.ip_core.specs.declared.derivation.Derivation.TheVariants.{Cover, Gomory}
use Rattle.ip_core.specs.declared.leaf.Pair.{Pair}
use Rattle.ip_core.specs.declared.model.ModelParts.{ModelParts}
use Rattle.ip_core.specs.declared.row.Row.{Row}
use Rattle.ip_core.specs.declared.row_ref.RowRef.{RowRef}
use Rattle.row_propagate.specs.Replay.{row_named}
use Rattle.safe_bound.specs.declared.limits.TheConstants.{MAX_MULTIPLIER}
use Rattle.leaf_truth.specs.Multipliers.{are_rising}
use Rattle.leaf_truth.specs.Steps.{has_row}
use Rattle.leaf_truth.proofs.Exactly.{has_row-holds}
use Rattle.leaf_truth.proofs.TestResults.{four_parts}
use Rattle.cut_derive.specs.Covers.{are_columns, first_unfit}
use Rattle.cut_derive.specs.Derivations.{cover_unless, derived_row}
use Rattle.cut_derive.specs.Gomory.{are_known, has_weight, is_count, is_divisor}
use Rattle.cut_derive.specs.declared.limits.TheConstants.{MAX_CUTS, MAX_DIVISOR, MAX_PARTS}
use Rattle.cut_derive.specs.declared.refusal.Refusal.TheVariants.{BadNumbers, UnknownRow}
use Rattle.cut_derive.proofs.Choosing.{few_columns}
use Rattle.cut_derive.proofs.Covering.{IsChosen, all_chosen}
use Rattle.cut_derive.proofs.Following.{gomory_of}
use Rattle.cut_derive.proofs.Named.{named_terms}
use Rattle.cut_derive.proofs.Shapes.{given_cover, if_ok}
use Rattle.work_stamp.specs.declared.entry.Entry.{Entry}
use Rattle.work_stamp.specs.declared.entry.Entry.TheVariants.{Start, CutStart, HeurStart, Done, Found, Cut, Split, Closed, Halt}
use Rattle.work_stamp.specs.declared.stamped.KeyedEntry.{KeyedEntry}
use Rattle.node_pool.specs.Follows.{MayFollow}
use Rattle.node_pool.specs.Lemmas.Cuts.{cuts_are_derived}
use Rattle.node_pool.specs.Views.{View, after_entry, view_after}
use Rattle.task_steps.specs.Fits.{AreFewDerived}
use Rattle.task_steps.specs.Lemmas.TaskCuts.{cut_rows}
use Rattle.cert_line.specs.Lines.{IsCount, IsDerivation, IsPair}
use Rattle.tree_build.specs.Certificates.{derivation_of, derivations_of, with_derivation}
use Rattle.tree_build.proofs.AllItems.{all_from}
use Rattle.tree_build.proofs.LeafRanges.{HasFewCuts, row_range}
use Rattle.tree_build.proofs.Partings.{Follows}

-- ---- one derivation

-- parts with rows that exist and weights of at most 2^40
parts_range : (m : ModelParts) (cuts : List Row) (parts : List Pair) → HasFewCuts m cuts
    → are_known m.rows cuts parts ≡ true → list_all has_weight parts ≡ true
    → AllByRecursion IsPair parts
parts_range m cuts [] own known weights = tt
parts_range m cuts (p ∷ parts) own known weights =
    let first = and_parts (has_row m.rows cuts p.row) (are_known m.rows cuts parts) known in
    let second = and_parts (has_weight p) (list_all has_weight parts) weights in
    let light = leb-true p.weight MAX_MULTIPLIER
    (and_parts (nat_le 1 p.weight) (nat_le p.weight MAX_MULTIPLIER) second.0).1 in (
      record {
        row = row_range m cuts p.row own (has_row-holds m.rows cuts p.row first.0);
        weight = record { small = omega (arith, light) };
      },
      parts_range m cuts parts own first.1 second.1,
    )

gomory_range : (m : ModelParts) (cuts : List Row) (parts : List Pair) (divisor : ℕ) (row : Row)
    → HasFewCuts m cuts → derived_row m cuts (Gomory parts divisor) ≡ Ok row
    → IsDerivation (Gomory parts divisor)
gomory_range m cuts parts divisor row own derived =
    let g = gomory_of m cuts parts divisor row derived in
    let tests = four_parts (is_divisor divisor) (is_count (length parts))
    (list_all has_weight parts) (are_rising parts) g.weights in
    let few = leb-true (length parts) MAX_PARTS
    (and_parts (nat_le 1 (length parts)) (nat_le (length parts) MAX_PARTS) tests.1).1 in
    let small = leb-true divisor MAX_DIVISOR
    (and_parts (nat_le 1 divisor) (nat_le divisor MAX_DIVISOR) tests.0).1 in (
      record {
        each = parts_range m cuts parts own g.known tests.2;
        few = record { small = omega (arith, few) };
      },
      record { small = omega (arith, small) },
    )

chosen_range : (m : ModelParts) (row : Row) (col : ℕ) → IsModel m
    → IsChosen (length m.cols) m.root row col → IsCount col
chosen_range m row col valid chosen =
    record { small = omega (arith, chosen.known, valid.bounds.columns) }

cover_range : (m : ModelParts) (cuts : List Row) (name : RowRef) (cols : List ℕ) (row : Row)
    → IsModel m → AreFewDerived m cuts → derived_row m cuts (Cover name cols) ≡ Ok row
    → IsDerivation (Cover name cols)
cover_range m cuts name cols row valid own derived =
    let base = row_named m.rows cuts name in
    let inner = cover_unless m.root base cols (first_unfit m.root base cols) in
    let first = if_ok (has_row m.rows cuts name)
    (cond (are_columns cols) inner (Err BadNumbers)) UnknownRow row derived in
    let second = if_ok (are_columns cols) inner BadNumbers row first.1 in
    let fit = (given_cover m.root base cols row second.1).fit in
    let terms = named_terms (length m.cols) m.root m.rows cuts name valid.rows
    (cut_rows m cuts valid own) in
    let few = few_columns cols second.0 in (
      row_range m cuts name (record { valid = valid; few = own.few })
          (has_row-holds m.rows cuts name first.0),
      record {
        each = all_from (IsChosen (length m.cols) m.root base) IsCount cols
            (all_chosen (length m.cols) m.root base cols terms fit)
            (λ col chosen. chosen_range m base col valid chosen);
        few = record { small = omega (arith, few) };
      },
    )

derivation_range : (m : ModelParts) (cuts : List Row) (d : Derivation) (row : Row) → IsModel m
    → AreFewDerived m cuts → derived_row m cuts d ≡ Ok row → IsDerivation d
derivation_range m cuts (Gomory parts divisor) row valid own derived =
    gomory_range m cuts parts divisor row (record { valid = valid; few = own.few }) derived
derivation_range m cuts (Cover name cols) row valid own derived =
    cover_range m cuts name cols row valid own derived

-- ---- the cuts of a history

pub few_next : (m : ModelParts) (v : View) (e : Entry) → MayFollow m v e → AreFewDerived m v.cuts
    → AreFewDerived m (after_entry m v e).cuts
few_next m v e may own = record {
  derived = cuts_are_derived.after m v e own.derived;
  few = cuts_are_derived.few m v e may own.few;
}

pub few_at_end : (m : ModelParts) (v : View) (es : List KeyedEntry) → Follows m v es
    → AreFewDerived m v.cuts → AreFewDerived m (view_after m v es).cuts
few_at_end m v [] follow own = own
few_at_end m v (e ∷ es) follow own =
    few_at_end m (after_entry m v e.entry) es follow.1 (few_next m v e.entry follow.0 own)

entry_range : (m : ModelParts) (v : View) (e : Entry) (later : List Derivation) → IsModel m
    → AreFewDerived m v.cuts → MayFollow m v e → AllByRecursion IsDerivation later
    → AllByRecursion IsDerivation (with_derivation (derivation_of e) later)
entry_range m v (Start node) later valid own may rest = rest
entry_range m v CutStart later valid own may rest = rest
entry_range m v (HeurStart node) later valid own may rest = rest
entry_range m v Done later valid own may rest = rest
entry_range m v (Found value point) later valid own may rest = rest
entry_range m v (Cut derivation) later valid own may rest =
    (derivation_range m v.cuts derivation may.joins.row valid own may.joins.derived, rest)
entry_range m v (Split node col at first keep bound) later valid own may rest = rest
entry_range m v (Closed node) later valid own may rest = rest
entry_range m v Halt later valid own may rest = rest

pub cuts_range : (m : ModelParts) (v : View) (es : List KeyedEntry) → IsModel m → Follows m v es
    → AreFewDerived m v.cuts → AllByRecursion IsDerivation (derivations_of es)
cuts_range m v [] valid follow own = tt
cuts_range m v (e ∷ es) valid follow own =
    entry_range m v e.entry (derivations_of es) valid own follow.0
    (cuts_range m (after_entry m v e.entry) es valid follow.1
    (few_next m v e.entry follow.0 own))

one_more : (o : Option Derivation) (later : List Derivation)
    → length (with_derivation o later) ≤ suc (length later)
one_more None later = omega arith
one_more (Some derivation) later = omega arith

-- there are no more cuts than entries
pub cuts_few : (es : List KeyedEntry) → length (derivations_of es) ≤ length es
cuts_few [] = omega arith
cuts_few (e ∷ es) =
    omega (arith, one_more (derivation_of e.entry) (derivations_of es), cuts_few es)
