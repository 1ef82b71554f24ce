use Rattle.std.proofs.Common.{◌≡◌, ◌∙◌, ◌<◌, ◌+◌, ℕ, zero, suc, true, false, List, [], ◌∷◌, ◌++◌, map, Option, Some, None, is_some, slice_index_or, pos, refl, sym, ap, subst, arith, All}
use Rattle.std.proofs.lemmas.Int.{ints}
use Rattle.std.proofs.lemmas.List.{map-append}
use Rattle.std.proofs.lemmas.List.Elements.{All-push, All-weaker, All-head, All-tail}
use Rattle.ip_core.specs.Decimals.{Number, IsDecimal, negation}
use Rattle.ip_core.proofs.DecimalReads.{zero_is}
use Rattle.mps_read.specs.Names.{is_among}
use Rattle.mps_read.specs.Sets.{first_name}
use Rattle.mps_model.specs.Prints.{fresh_row}
use Rattle.mps_read.specs.DraftRows.{state_at, fresh_state, free_place, valued_row, with_value, with_constant, with_marked_state}
use Rattle.mps_read.specs.DraftColumns.{column_at, fresh_column}
use Rattle.mps_read.specs.Drafts.{IsPlaced}
use Rattle.mps_model.specs.MpsModels.{IsRowName, IsMpsRow, IsMpsEntry}
use Rattle.mps_model.specs.declared.model.RowKind.{RowKind}
use Rattle.mps_model.specs.declared.model.RowKind.TheVariants.{Less}
use Rattle.mps_model.specs.declared.model.MpsRow.{MpsRow}
use Rattle.mps_model.specs.declared.model.MpsEntry.{MpsEntry}
use Rattle.mps_model.specs.declared.model.MpsCol.{MpsCol}
use Rattle.mps_lines.specs.declared.section.ValueKind.{ValueKind}
use Rattle.mps_lines.specs.declared.section.ValueKind.TheVariants.{Side, Range}
use Rattle.mps_read.specs.declared.draft.Mark.{Mark}
use Rattle.mps_read.specs.declared.draft.RowPlace.{RowPlace}
use Rattle.mps_read.specs.declared.draft.RowPlace.TheVariants.{Objective, Dropped, Kept}
use Rattle.mps_read.specs.declared.draft.RowState.{RowState}
use Rattle.mps_read.proofs.DraftParts.{with_marked_state-place}
use Rattle.mps_read.proofs.ModelLists.{Misses, AreApart, AreAmong, apart_push, at_push, at_each, each_set, map_set_same, among_more, among_last, among_push, misses_among}
use Rattle.mps_read.proofs.ModelDrafts.{IsObjective, with_objective, names_of, AreRows, rows_in, IsColumn, AreColumns, AreSingle, AreMarked}

-- a row's name for the first time

pub given_objective : (o : Option (List ℕ)) (name : List ℕ) → IsObjective o → IsRowName name → IsObjective (first_name o name)
given_objective None name h new = new
given_objective (Some first) name h new = h

pub given_some : (o : Option (List ℕ)) (name : List ℕ) → is_some (first_name o name) ≡ true
given_some None name = refl
given_some (Some first) name = refl

pub free_rows : (o : Option (List ℕ)) (rows : List MpsRow) (names : List (List ℕ)) (name : List ℕ) → AreRows o rows names → is_among name names ≡ false → AreRows (first_name o name) rows (names ++ name ∷ [])
free_rows None rows names name h new = record {
  each = h.each;
  apart = (misses_among name names (names_of rows) new h.known, h.apart);
  known = (among_last names name, among_more names (names_of rows) name h.known);
}
free_rows (Some first) rows names name h new = record { each = h.each; apart = h.apart; known = among_more names (first ∷ names_of rows) name h.known }

with_objective-push : (o : Option (List ℕ)) (rows : List MpsRow) (row : MpsRow) → with_objective o (names_of (rows ++ row ∷ [])) ≡ with_objective o (names_of rows) ++ row.name ∷ []
with_objective-push None rows row = map-append (λ r. r.name) rows (row ∷ [])
with_objective-push (Some first) rows row = ap (λ ns. first ∷ ns) (map-append (λ r. r.name) rows (row ∷ []))

pub more_rows : (o : Option (List ℕ)) (rows : List MpsRow) (names : List (List ℕ)) (kind : RowKind) (name : List ℕ) → AreRows o rows names → is_among name names ≡ false → IsRowName name
    → AreRows o (rows ++ fresh_row kind name ∷ []) (names ++ name ∷ [])
more_rows o rows names kind name h new is = record {
  each = All-push IsMpsRow rows (fresh_row kind name) h.each (record { name = is; side = zero_is; range = tt });
  apart = subst (λ (ns : List (List ℕ)). AreApart ns) (sym (with_objective-push o rows (fresh_row kind name))) (apart_push (with_objective o (names_of rows)) name h.apart (misses_among name names (with_objective o (names_of rows)) new h.known));
  known = subst (AreAmong (names ++ name ∷ [])) (sym (with_objective-push o rows (fresh_row kind name))) (among_push names (with_objective o (names_of rows)) name h.known);
}

-- what a name stands for

abbrev number_of : RowPlace → ℕ
number_of Objective = 0
number_of Dropped = 0
number_of (Kept row) = row

pub kept_number : (a b : ℕ) → Kept a ≡ Kept b → a ≡ b
kept_number a b h = ap number_of h

pub free_not_kept : (o : Option (List ℕ)) (k : ℕ) → free_place o ≡ Kept k → ⊥
free_not_kept None k h = cc
free_not_kept (Some first) k h = cc

pub placed_below : (kept k : ℕ) (place : RowPlace) → IsPlaced kept place → place ≡ Kept k → k < kept
placed_below kept k place h is = subst (IsPlaced kept) is h

suc_same : (a b : ℕ) → suc a ≡ suc b → a ≡ b
suc_same a b h = omega (arith, h)

not_suc : (a : ℕ) → zero ≡ suc a → ⊥
not_suc a h = omega (arith, h)

single_push : (states : List RowState) (x : RowState) → ((r s k : ℕ) → (state_at states r).place ≡ Kept k → (state_at states s).place ≡ Kept k → r ≡ s)
    → ((r k : ℕ) → (state_at states r).place ≡ Kept k → x.place ≡ Kept k → ⊥)
    → (r s k : ℕ) → (state_at (states ++ x ∷ []) r).place ≡ Kept k → (state_at (states ++ x ∷ []) s).place ≡ Kept k → r ≡ s
single_push [] x one alone zero zero k hr hs = refl
single_push [] x one alone zero (suc s) k hr hs = cc
single_push [] x one alone (suc r) s k hr hs = cc
single_push (t ∷ states) x one alone zero zero k hr hs = refl
single_push (t ∷ states) x one alone zero (suc s) k hr hs =
    absurd (at_push (λ (st : RowState). st.place ≡ Kept k → ⊥) states s x (fresh_state Dropped) (λ h. not_suc s (one zero (suc s) k hr h)) (λ h. alone zero k hr h) hs)
single_push (t ∷ states) x one alone (suc r) zero k hr hs =
    absurd (at_push (λ (st : RowState). st.place ≡ Kept k → ⊥) states r x (fresh_state Dropped) (λ h. not_suc r (one zero (suc r) k hs h)) (λ h. alone zero k hs h) hr)
single_push (t ∷ states) x one alone (suc r) (suc s) k hr hs =
    ap suc (single_push states x (λ r s k hr hs. suc_same r s (one (suc r) (suc s) k hr hs)) (λ r k. alone (suc r) k) r s k hr hs)

pub free_single : (states : List RowState) (o : Option (List ℕ)) → AreSingle states → AreSingle (states ++ fresh_state (free_place o) ∷ [])
free_single states o h = record { each = single_push states (fresh_state (free_place o)) h.each (λ r k hr here. free_not_kept o k here) }

pub kept_single : (states : List RowState) (kept : ℕ) → AreSingle states → ((row : ℕ) → IsPlaced kept (state_at states row).place) → AreSingle (states ++ fresh_state (Kept kept) ∷ [])
kept_single states kept h placed =
    record { each = single_push states (fresh_state (Kept kept)) h.each (λ r k hr here. omega (arith, placed_below kept k (state_at states r).place (placed r) hr, kept_number kept k here)) }

-- entries have known rows alone

below_misses : (n : ℕ) (es : List MpsEntry) → All (IsMpsEntry n) es → Misses n (map (λ e. e.row) es)
below_misses n [] all = tt
below_misses n (e ∷ es) all =
    let known : e.row < n = (All-head (IsMpsEntry n) e es all).known in
    ((λ same. omega (arith, known, same)), below_misses n es (All-tail (IsMpsEntry n) e es all))

column_misses : (n : ℕ) (col : MpsCol) → IsColumn n col → Misses n (rows_in col)
column_misses n col is = below_misses n col.entries is.entries

marked_push : (states : List RowState) (cols : List MpsCol) (marks : List Mark) (x : RowState) → AreMarked states cols marks → ((k col : ℕ) → x.place ≡ Kept k → Misses k (rows_in (column_at cols col))) → AreMarked (states ++ x ∷ []) cols marks
marked_push states cols marks x h new = record {
  each = λ r k col at none.
      at_push (λ (st : RowState). st.place ≡ Kept k → Misses k (rows_in (column_at cols col))) states r x (fresh_state Dropped) (λ is. h.each r k col is none) (new k col) at;
}

pub free_marked : (states : List RowState) (cols : List MpsCol) (marks : List Mark) (o : Option (List ℕ)) → AreMarked states cols marks → AreMarked (states ++ fresh_state (free_place o) ∷ []) cols marks
free_marked states cols marks o h = marked_push states cols marks (fresh_state (free_place o)) h (λ k col is. absurd (free_not_kept o k is))

pub kept_marked : (states : List RowState) (cols : List MpsCol) (names : List (List ℕ)) (marks : List Mark) (kept : ℕ) → AreMarked states cols marks → AreColumns kept cols names → AreMarked (states ++ fresh_state (Kept kept) ∷ []) cols marks
kept_marked states cols names marks kept h columns =
    marked_push states cols marks (fresh_state (Kept kept)) h
    (λ k col is. subst (λ (n : ℕ). Misses n (rows_in (column_at cols col))) (kept_number kept k is)
    (at_each (IsColumn kept) (λ (c : MpsCol). Misses kept (rows_in c)) cols col (fresh_column false []) columns.each (column_misses kept) tt))

more_entry : (n : ℕ) (e : MpsEntry) → IsMpsEntry n e → IsMpsEntry (n + 1) e
more_entry n e h = record { known = omega (arith, h.known); decimal = h.decimal; nonzero = h.nonzero }

more_column : (n : ℕ) (col : MpsCol) → IsColumn n col → IsColumn (n + 1) col
more_column n col h = record {
  name = h.name;
  cost = h.cost;
  entries = All-weaker (IsMpsEntry n) (IsMpsEntry (n + 1)) (more_entry n) col.entries h.entries;
  once = h.once;
  low = h.low;
  high = h.high;
}

pub more_columns : (kept : ℕ) (cols : List MpsCol) (names : List (List ℕ)) → AreColumns kept cols names → AreColumns (kept + 1) cols names
more_columns kept cols names h = record { each = All-weaker (IsColumn kept) (IsColumn (kept + 1)) (more_column kept) cols h.each; same_names = h.same_names; apart = h.apart }

-- values

negated_decimal : (n : Number) → IsDecimal n → IsDecimal (negation n)
negated_decimal n h = record {
  reduced = λ k same. (let none : n.mantissa ≡ pos 0 = h.reduced k (omega (arith, ints, same)) in omega (arith, ints, none));
  zero = λ none. h.zero (omega (arith, ints, none));
  few = omega (arith, ints, h.few);
  least = h.least;
  greatest = h.greatest;
}

pub constant_kept : (kind : ValueKind) (place : RowPlace) (value constant : Number) → IsDecimal value → IsDecimal constant → IsDecimal (with_constant kind place value constant)
constant_kept Side Objective value constant v c = negated_decimal value v
constant_kept Side Dropped value constant v c = c
constant_kept Side (Kept row) value constant v c = c
constant_kept Range place value constant v c = c

valued_is : (kind : ValueKind) (value : Number) (row : MpsRow) → IsDecimal value → IsMpsRow row → IsMpsRow (valued_row kind value row)
valued_is Side value row v h = record { name = h.name; side = v; range = h.range }
valued_is Range value row v h = record { name = h.name; side = h.side; range = v }

valued_name : (kind : ValueKind) (value : Number) (row : MpsRow) → (valued_row kind value row).name ≡ row.name
valued_name Side value row = refl
valued_name Range value row = refl

pub value_rows : (kind : ValueKind) (place : RowPlace) (value : Number) (o : Option (List ℕ)) (rows : List MpsRow) (names : List (List ℕ)) → IsDecimal value → AreRows o rows names → AreRows o (with_value kind place value rows) names
value_rows kind Objective value o rows names v h = h
value_rows kind Dropped value o rows names v h = h
value_rows kind (Kept row) value o rows names v h =
    let d : MpsRow = fresh_row Less [] in
    let old : MpsRow = slice_index_or rows row d in
    let same = map_set_same (λ (r : MpsRow). r.name) rows row (valued_row kind value old) d (valued_name kind value old) in
    record {
      each = each_set IsMpsRow rows row (valued_row kind value old) d h.each (valued_is kind value old v);
      apart = subst (λ (ns : List (List ℕ)). AreApart (with_objective o ns)) (sym same) h.apart;
      known = subst (λ (ns : List (List ℕ)). AreAmong names (with_objective o ns)) (sym same) h.known;
    }

pub value_single : (kind : ValueKind) (n : ℕ) (states : List RowState) → AreSingle states → AreSingle (with_marked_state kind n states)
value_single kind n states h = record {
  each = λ r s k hr hs. h.each r s k (sym (with_marked_state-place kind n states r) ∙ hr) (sym (with_marked_state-place kind n states s) ∙ hs);
}

pub value_marked : (kind : ValueKind) (n : ℕ) (states : List RowState) (cols : List MpsCol) (marks : List Mark) → AreMarked states cols marks → AreMarked (with_marked_state kind n states) cols marks
value_marked kind n states cols marks h = record { each = λ r k col at none. h.each r k col (sym (with_marked_state-place kind n states r) ∙ at) none }
