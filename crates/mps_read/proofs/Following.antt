use Rattle.std.proofs.Common.{◌≡◌, ◌∙◌, ◌+◌, ℕ, Bool, true, false, not, ◌&&◌, List, [], ◌∷◌, ◌++◌, length, map, Option, Some, None, refl, sym, ap, subst, if◌then◌else◌}
use Rattle.std.specs.Str.{bytes_eq}
use Rattle.std.proofs.lemmas.Bool.{false≢true, true≢false}
use Rattle.std.proofs.lemmas.List.{append_assoc, map-append, length-map}
use Rattle.ip_core.specs.Decimals.{Number, negation}
use Rattle.mps_model.specs.Numbers.{is_zero}
use Rattle.mps_model.specs.declared.model.RowKind.{RowKind}
use Rattle.mps_model.specs.declared.model.MpsRow.{MpsRow}
use Rattle.mps_model.specs.declared.model.MpsCol.{MpsCol}
use Rattle.mps_read.specs.Names.{is_among, place_among, with_item, with_name}
use Rattle.mps_read.specs.Numerals.{decimal_of}
use Rattle.mps_lines.specs.Forms.{Form, Pair, FreeRow, KeptRow, Entries, Values, BoundLine}
use Rattle.mps_read.specs.Headers.{has_section}
use Rattle.mps_model.specs.Prints.{fresh_row}
use Rattle.mps_read.specs.Sets.{is_used, first_name, set_of, bound_set_of, pairs_in, pairs_on, is_named, number_or_zero}
use Rattle.mps_read.specs.Rows.{RowLine, row_names_of, objective_of, kept_rows_of, kept_names_of, is_objective, is_single, objective_number, row_of, rows_of, constant_of}
use Rattle.mps_read.specs.Columns.{Bound, column_names_of, pairs_of, bounds_of, begins_integer, is_integer_of, entries_of, column_of, cols_of}
use Rattle.mps_read.specs.Kinds.{is_repeated, repeats}
use Rattle.mps_read.specs.DraftRows.{fresh_state, free_place, with_marked_state, with_value, with_constant, place_of_pair}
use Rattle.mps_read.specs.DraftColumns.{fresh_column, with_coefficient, with_mark}
use Rattle.mps_read.specs.Steps.{after, after_pairs, after_bound, after_value_pair, with_values_set}
use Rattle.mps_lines.specs.declared.section.Section.TheVariants.{Rhs, Ranges, Bounds}
use Rattle.mps_lines.specs.declared.section.ValueKind.{ValueKind}
use Rattle.mps_lines.specs.declared.section.ValueKind.TheVariants.{Side, Range}
use Rattle.mps_lines.specs.declared.section.BoundKind.{BoundKind}
use Rattle.mps_read.specs.declared.draft.Draft.{Draft}
use Rattle.mps_read.specs.declared.draft.Mark.{Mark}
use Rattle.mps_read.specs.declared.draft.RowPlace.{RowPlace}
use Rattle.mps_read.specs.declared.draft.RowPlace.TheVariants.{Dropped, Kept}
use Rattle.mps_read.specs.declared.draft.RowState.{RowState}
use Rattle.mps_read.specs.declared.draft.SetUse.{SetUse}
use Rattle.mps_lines.proofs.Truths.{by_case, or_false}
use Rattle.mps_read.proofs.DraftParts.{longer}
use Rattle.mps_read.proofs.PrintNames.{same_bytes, place_absent, place_first}
use Rattle.mps_read.proofs.ModelLists.{among_last}
use Rattle.mps_read.proofs.Lookups.{IsSingle, map_all, map_at, eq_of, bytes_eq-turn}
use Rattle.mps_read.proofs.SaidNames.{and_none, apart_with, AreKnown, known_push, among_other, place_known, single_names, not_named, number_none}
use Rattle.mps_read.proofs.SaidRows.{states_said, state_said, place_said, free_states, kept_states, kept_rows, side_states, range_states, side_rows, range_rows, side_constant}
use Rattle.mps_read.proofs.SaidColumns.{column_same, coefficient, column_push, bound_columns, ints_with}
use Rattle.mps_read.proofs.Standing.{draft_of, names_in, AreLawful, IsLawful, new_objective, new_kept, free_lawful, row_lawful, sides_lawful, ranges_lawful, bounds_lawful, column_lawful, entry_lawful}

-- one more allowed line: the draft after it stands for the lines with it

-- a draft whose fields are those of another
to_draft : (d : Draft) (s : List RowState) (k : ℕ) (r : List MpsRow) (c : List MpsCol) (a : Number) (u w y : SetUse)
    → s ≡ d.row_states → k ≡ d.kept → r ≡ d.rows → c ≡ d.cols → a ≡ d.constant → u ≡ d.rhs → w ≡ d.ranges → y ≡ d.bounds
    → record d { row_states = s; kept = k; rows = r; cols = c; constant = a; rhs = u; ranges = w; bounds = y } ≡ d
to_draft d s k r c a u w y e1 e2 e3 e4 e5 e6 e7 e8 = rw (e1, e2, e3, e4, e5, e6, e7, e8) refl

abbrev pub Follows : List Form → List Mark → List ℕ → Form → Type 0
Follows before m l f =
    (after (draft_of before m l) f ≡ draft_of (f ∷ before) (after (draft_of before m l) f).marks (after (draft_of before m l) f).latest)
    × IsLawful (f ∷ before) (after (draft_of before m l) f).marks

follow : (before : List Form) (m n : List Mark) (l k : List ℕ) (f : Form) → after (draft_of before m l) f ≡ draft_of (f ∷ before) n k → IsLawful (f ∷ before) n → Follows before m l f
follow before m n l k f same law =
    let marks : (after (draft_of before m l) f).marks ≡ n = ap (λ (d : Draft). d.marks) same in
    let latest : (after (draft_of before m l) f).latest ≡ k = ap (λ (d : Draft). d.latest) same in (
      same ∙ ap (λ x. draft_of (f ∷ before) x k) (sym marks) ∙ ap (λ x. draft_of (f ∷ before) (after (draft_of before m l) f).marks x) (sym latest),
      subst (λ (x : List Mark). IsLawful (f ∷ before) x) (sym marks) law,
    )

-- rows

free_number : (o : Option (List ℕ)) (names : List (List ℕ)) (name : List ℕ) (pairs : List Pair) → AreKnown names pairs → is_among name names ≡ false → objective_number o pairs ≡ objective_number (first_name o name) pairs
free_number None names name pairs known new = ap number_or_zero (sym (number_none name pairs (not_named names name pairs known new)))
free_number (Some first) names name pairs known new = refl

costs_same : (x : List ℕ) (o p : Option (List ℕ)) (kept : List (List ℕ)) (integer : Bool) (pairs : List Pair) (bounds : List Bound) → objective_number o pairs ≡ objective_number p pairs → column_of o kept integer pairs bounds x ≡ column_of p kept integer pairs bounds x
costs_same x o p kept integer pairs bounds h = column_same x _ _ (objective_number o pairs) (objective_number p pairs) _ _ _ _ refl h refl

entries_same : (x : List ℕ) (o : Option (List ℕ)) (kept more : List (List ℕ)) (integer : Bool) (pairs : List Pair) (bounds : List Bound) → entries_of kept pairs ≡ entries_of more pairs → column_of o kept integer pairs bounds x ≡ column_of o more integer pairs bounds x
entries_same x o kept more integer pairs bounds h = column_same x _ _ _ _ (entries_of kept pairs) (entries_of more pairs) _ _ refl refl h

pub free_follows : (before : List Form) (m : List Mark) (l : List ℕ) (name : List ℕ) → IsLawful before m → is_among name (row_names_of before) ≡ false → Follows before m l (FreeRow name)
free_follows before m l name law new =
    let names : List (List ℕ) = row_names_of before in
    let o : Option (List ℕ) = objective_of before in
    let sides : List Pair = pairs_in Side before in
    let ranges : List Pair = pairs_in Range before in
    let kept : List (List ℕ) = kept_names_of before in
    let e : Draft = after (draft_of before m l) (FreeRow name) in (
      to_draft (draft_of (FreeRow name ∷ before) e.marks e.latest) e.row_states e.kept e.rows e.cols e.constant e.rhs e.ranges e.bounds
          (ap (λ b. if b then states_said o kept sides ranges names else states_said o kept sides ranges names ++ fresh_state (free_place o) ∷ []) new
          ∙ free_states o kept sides ranges names name new (new_objective o names name law.objective_known new) (new_kept names kept name law.kept_known new) (not_named names name sides law.sides_known new) (not_named names name ranges law.ranges_known new)
          ∙ ap (λ b. states_said (first_name o name) kept sides ranges (if b then names else names ++ name ∷ [])) (sym new))
          refl refl
          (map_all _ _ (column_names_of before)
          (λ x. costs_same x o (first_name o name) kept (begins_integer x before) (pairs_of x before) (bounds_of x before) (free_number o names name (pairs_of x before) (law.pairs_known x) new)))
          (ap negation (free_number o names name sides law.sides_known new))
          refl refl refl,
      subst (λ (ns : List (List ℕ)). AreLawful (first_name o name) ns (kept_rows_of before) sides ranges (column_names_of before) (λ c. pairs_of c before) (λ c. bounds_of c before) m)
          (ap (λ b. if b then names else names ++ name ∷ []) (sym new))
          (free_lawful o names (kept_rows_of before) sides ranges (column_names_of before) (λ c. pairs_of c before) (λ c. bounds_of c before) m law name new),
    )

entries_name : (names kept : List (List ℕ)) (name : List ℕ) (pairs : List Pair) → AreKnown names pairs → is_among name names ≡ false → entries_of kept pairs ≡ entries_of (kept ++ name ∷ []) pairs
entries_name names kept name [] known new = refl
entries_name names kept name (p ∷ pairs) (here, known) new =
    let other : bytes_eq p.row name ≡ false = by_case (bytes_eq p.row name) _ (λ h. absurd (false≢true (sym new ∙ ap (λ n. is_among n names) (sym (eq_of p.row name h)) ∙ here))) (λ h. h) in
    let rest : entries_of kept pairs ≡ entries_of (kept ++ name ∷ []) pairs = entries_name names kept name pairs known new in
    ap (λ es. if is_among p.row kept && not (is_zero (decimal_of p.numeral)) then record { row = place_among p.row kept; value = decimal_of p.numeral } ∷ es else es) rest
    ∙ by_case (is_among p.row kept) _
    (λ h. rw (among_other p.row kept name other, h, place_known p.row kept name h) refl)
    (λ h. rw (among_other p.row kept name other, h) refl)

pub row_follows : (before : List Form) (m : List Mark) (l : List ℕ) (kind : RowKind) (name : List ℕ) → IsLawful before m → is_among name (row_names_of before) ≡ false → Follows before m l (KeptRow kind name)
row_follows before m l kind name law new =
    let names : List (List ℕ) = row_names_of before in
    let o : Option (List ℕ) = objective_of before in
    let sides : List Pair = pairs_in Side before in
    let ranges : List Pair = pairs_in Range before in
    let kept : List (List ℕ) = kept_names_of before in
    let rows : List RowLine = kept_rows_of before in
    let line : RowLine = record { kind = kind; name = name } in
    let e : Draft = after (draft_of before m l) (KeptRow kind name) in
    let more : kept ++ name ∷ [] ≡ names_in (rows ++ line ∷ []) = sym (map-append (λ (x : RowLine). x.name) rows (line ∷ [])) in
    let count : length rows ≡ length kept = sym (length-map rows (λ (x : RowLine). x.name)) in (
      to_draft (draft_of (KeptRow kind name ∷ before) e.marks e.latest) e.row_states e.kept e.rows e.cols e.constant e.rhs e.ranges e.bounds
          (ap (λ b. if b then states_said o kept sides ranges names else states_said o kept sides ranges names ++ fresh_state (Kept (length rows)) ∷ []) new
          ∙ kept_states o kept sides ranges names name (length rows) new (new_objective o names name law.objective_known new) (new_kept names kept name law.kept_known new) (not_named names name sides law.sides_known new) (not_named names name ranges law.ranges_known new) count
          ∙ ap (λ ks. states_said o ks sides ranges (names ++ name ∷ [])) more
          ∙ ap (λ b. states_said o (names_in (rows ++ line ∷ [])) sides ranges (if b then names else names ++ name ∷ [])) (sym new))
          (ap (λ b. if b then length rows else length rows + 1) new ∙ sym (longer rows line))
          (ap (λ b. if b then map (row_of sides ranges) rows else map (row_of sides ranges) rows ++ fresh_row kind name ∷ []) new
          ∙ kept_rows sides ranges rows kind name (not_named names name sides law.sides_known new) (not_named names name ranges law.ranges_known new))
          (map_all _ _ (column_names_of before)
          (λ x. entries_same x o kept (names_in (rows ++ line ∷ [])) (begins_integer x before) (pairs_of x before) (bounds_of x before)
          (entries_name names kept name (pairs_of x before) (law.pairs_known x) new ∙ ap (λ ks. entries_of ks (pairs_of x before)) more)))
          refl refl refl refl,
      subst (λ (ns : List (List ℕ)). AreLawful o ns (rows ++ line ∷ []) sides ranges (column_names_of before) (λ c. pairs_of c before) (λ c. bounds_of c before) m)
          (ap (λ b. if b then names else names ++ name ∷ []) (sym new))
          (row_lawful o names rows sides ranges (column_names_of before) (λ c. pairs_of c before) (λ c. bounds_of c before) m law kind name new),
    )

-- entries

place_is : (o : Option (List ℕ)) (kept : List (List ℕ)) (sides ranges : List Pair) (names : List (List ℕ)) (q : Pair) → is_among q.row names ≡ true → place_of_pair names (states_said o kept sides ranges names) q ≡ place_said (is_objective o q.row) kept q.row
place_is o kept sides ranges names q known =
    ap (λ (s : RowState). s.place)
    (map_at (λ row. state_said (is_objective o row) kept sides ranges row) (state_said (is_objective o q.row) kept sides ranges q.row) (fresh_state Dropped) (bytes_eq q.row) names known
    (λ x h. ap (λ row. state_said (is_objective o row) kept sides ranges row) (sym (eq_of q.row x h))))

known_with : (c : List ℕ) (columns : List (List ℕ)) → is_among c (with_name c columns) ≡ true
known_with c columns = by_case (is_among c columns) _ (λ h. rw (h, h) refl) (λ h. rw h (among_last columns c))

place_with : (c : List ℕ) (columns : List (List ℕ)) → place_among c columns ≡ place_among c (with_name c columns)
place_with c columns = by_case (is_among c columns) _ (λ h. rw h refl) (λ h. rw h (place_absent c columns h ∙ sym (place_first columns c [] h)))

-- the pairs of columns with one more, or two more, in one of them
abbrev one_more : List Form → List ℕ → Pair → List ℕ → List Pair
one_more before c first x = if bytes_eq x c then pairs_of x before ++ first ∷ [] else pairs_of x before

abbrev two_more : List Form → List ℕ → Pair → Pair → List ℕ → List Pair
two_more before c first second x = if bytes_eq x c then pairs_of x before ++ first ∷ second ∷ [] else pairs_of x before

module _ (before : List Form) (m : List Mark) (l : List ℕ) (c : List ℕ) (first : Pair) (law : IsLawful before m) (kf : is_among first.row (row_names_of before) ≡ true) (none : is_repeated before (pairs_of c before) first ≡ false) where
  other_one : (x : List ℕ) → bytes_eq c x ≡ false → pairs_of x before ≡ one_more before c first x
  other_one x h = sym (ap (λ b. if b then pairs_of x before ++ first ∷ [] else pairs_of x before) (bytes_eq-turn c x false h))

  here_one : (x : List ℕ) → bytes_eq c x ≡ true → pairs_of x before ++ first ∷ [] ≡ one_more before c first x
  here_one x h = sym (ap (λ b. if b then pairs_of x before ++ first ∷ [] else pairs_of x before) (bytes_eq-turn c x true h))

  columns_one : (after (draft_of before m l) (Entries c first None)).cols ≡ cols_of (Entries c first None ∷ before)
  columns_one =
      let names : List (List ℕ) = row_names_of before in
      let o : Option (List ℕ) = objective_of before in
      let kept : List (List ℕ) = kept_names_of before in
      let columns : List (List ℕ) = column_names_of before in
      let states : List RowState = states_said o kept (pairs_in Side before) (pairs_in Range before) names in
      let value : Number = decimal_of first.numeral in
      let begins : List MpsCol = with_item (is_among c columns) (fresh_column (is_integer_of before) c) (cols_of before) in
      let p : RowPlace = place_said (is_objective o first.row) kept first.row in
      ap (λ q. with_coefficient q value (place_among c columns) begins) (place_is o kept (pairs_in Side before) (pairs_in Range before) names first kf)
      ∙ ap (λ k. with_coefficient p value k begins) (place_with c columns)
      ∙ ap (with_coefficient p value (place_among c (with_name c columns)))
      (column_push o kept (λ x. begins_integer x before) (is_integer_of before) (λ x. pairs_of x before) (λ x. bounds_of x before) c columns (law.fresh_columns c))
      ∙ coefficient o kept (ints_with (λ x. begins_integer x before) (is_integer_of before) c columns) (λ x. pairs_of x before) (one_more before c first) (λ x. bounds_of x before) c (with_name c columns) first
      (single_names c (with_name c columns) (apart_with c columns law.columns_apart)) (known_with c columns) other_one here_one none (law.objective_apart first.row)

  lawful_one : IsLawful (Entries c first None ∷ before) (after (draft_of before m l) (Entries c first None)).marks
  lawful_one =
      let names : List (List ℕ) = row_names_of before in
      let o : Option (List ℕ) = objective_of before in
      let kept : List (List ℕ) = kept_names_of before in
      let columns : List (List ℕ) = column_names_of before in
      let p : RowPlace = place_said (is_objective o first.row) kept first.row in
      let marks : with_mark p (place_among first.row names) (place_among c (with_name c columns)) m ≡ (after (draft_of before m l) (Entries c first None)).marks =
      ap (λ q. with_mark q (place_among first.row names) (place_among c (with_name c columns)) m) (sym (place_is o kept (pairs_in Side before) (pairs_in Range before) names first kf))
      ∙ ap (λ k. with_mark (place_of_pair names (states_said o kept (pairs_in Side before) (pairs_in Range before) names) first) (place_among first.row names) k m) (sym (place_with c columns))
      in
      subst (λ (ms : List Mark). IsLawful (Entries c first None ∷ before) ms) marks
      (entry_lawful o names (kept_rows_of before) (pairs_in Side before) (pairs_in Range before) (with_name c columns) (λ x. pairs_of x before) (λ x. bounds_of x before) m
      (column_lawful o names (kept_rows_of before) (pairs_in Side before) (pairs_in Range before) columns (λ x. pairs_of x before) (λ x. bounds_of x before) m law c)
      (one_more before c first) c first kf (known_with c columns) other_one here_one)

  one_entry : Follows before m l (Entries c first None)
  one_entry =
      let e : Draft = after (draft_of before m l) (Entries c first None) in
      (to_draft (draft_of (Entries c first None ∷ before) e.marks e.latest) e.row_states e.kept e.rows e.cols e.constant e.rhs e.ranges e.bounds refl refl refl columns_one refl refl refl refl, lawful_one)

  module _ (second : Pair) (ks : is_among second.row (row_names_of before) ≡ true) (more : is_repeated before (pairs_of c before ++ first ∷ []) second ≡ false) where
    other_two : (x : List ℕ) → bytes_eq c x ≡ false → one_more before c first x ≡ two_more before c first second x
    other_two x h = sym (other_one x h) ∙ sym (ap (λ b. if b then pairs_of x before ++ first ∷ second ∷ [] else pairs_of x before) (bytes_eq-turn c x false h))

    here_two : (x : List ℕ) → bytes_eq c x ≡ true → one_more before c first x ++ second ∷ [] ≡ two_more before c first second x
    here_two x h =
        ap (λ ps. ps ++ second ∷ []) (sym (here_one x h)) ∙ append_assoc (pairs_of x before) (first ∷ []) (second ∷ [])
        ∙ sym (ap (λ b. if b then pairs_of x before ++ first ∷ second ∷ [] else pairs_of x before) (bytes_eq-turn c x true h))

    columns_two : (after (draft_of before m l) (Entries c first (Some second))).cols ≡ cols_of (Entries c first (Some second) ∷ before)
    columns_two =
        let names : List (List ℕ) = row_names_of before in
        let o : Option (List ℕ) = objective_of before in
        let kept : List (List ℕ) = kept_names_of before in
        let columns : List (List ℕ) = column_names_of before in
        let value : Number = decimal_of second.numeral in
        let begins : List MpsCol = (after (draft_of before m l) (Entries c first None)).cols in
        let p : RowPlace = place_said (is_objective o second.row) kept second.row in
        let unnamed : (is_single o kept second.row && is_named second.row (one_more before c first c)) ≡ false = ap (λ ps. is_single o kept second.row && is_named second.row ps) (sym (here_one c (same_bytes c))) ∙ more in
        ap (λ q. with_coefficient q value (place_among c columns) begins) (place_is o kept (pairs_in Side before) (pairs_in Range before) names second ks)
        ∙ ap (λ k. with_coefficient p value k begins) (place_with c columns)
        ∙ ap (with_coefficient p value (place_among c (with_name c columns))) columns_one
        ∙ coefficient o kept (ints_with (λ x. begins_integer x before) (is_integer_of before) c columns) (one_more before c first) (two_more before c first second) (λ x. bounds_of x before) c (with_name c columns) second
        (single_names c (with_name c columns) (apart_with c columns law.columns_apart)) (known_with c columns) other_two here_two unnamed (law.objective_apart second.row)

    lawful_two : IsLawful (Entries c first (Some second) ∷ before) (after (draft_of before m l) (Entries c first (Some second))).marks
    lawful_two =
        let names : List (List ℕ) = row_names_of before in
        let o : Option (List ℕ) = objective_of before in
        let kept : List (List ℕ) = kept_names_of before in
        let columns : List (List ℕ) = column_names_of before in
        let ms : List Mark = (after (draft_of before m l) (Entries c first None)).marks in
        let p : RowPlace = place_said (is_objective o second.row) kept second.row in
        let marks : with_mark p (place_among second.row names) (place_among c (with_name c columns)) ms ≡ (after (draft_of before m l) (Entries c first (Some second))).marks =
        ap (λ q. with_mark q (place_among second.row names) (place_among c (with_name c columns)) ms) (sym (place_is o kept (pairs_in Side before) (pairs_in Range before) names second ks))
        ∙ ap (λ k. with_mark (place_of_pair names (states_said o kept (pairs_in Side before) (pairs_in Range before) names) second) (place_among second.row names) k ms) (sym (place_with c columns))
        in
        subst (λ (xs : List Mark). IsLawful (Entries c first (Some second) ∷ before) xs) marks
        (entry_lawful o names (kept_rows_of before) (pairs_in Side before) (pairs_in Range before) (with_name c columns) (one_more before c first) (λ x. bounds_of x before) ms lawful_one
        (two_more before c first second) c second ks (known_with c columns) other_two here_two)

    two_entries : Follows before m l (Entries c first (Some second))
    two_entries =
        let e : Draft = after (draft_of before m l) (Entries c first (Some second)) in
        (to_draft (draft_of (Entries c first (Some second) ∷ before) e.marks e.latest) e.row_states e.kept e.rows e.cols e.constant e.rhs e.ranges e.bounds refl refl refl columns_two refl refl refl refl, lawful_two)

abbrev pub AreSecond : List (List ℕ) → Option Pair → Type 0
AreSecond names None = Unit {0}
AreSecond names (Some second) = is_among second.row names ≡ true

pub entries_follow : (before : List Form) (m : List Mark) (l : List ℕ) (c : List ℕ) (first : Pair) (second : Option Pair) → IsLawful before m
    → is_among first.row (row_names_of before) ≡ true → AreSecond (row_names_of before) second → repeats before (pairs_of c before) first second ≡ false → Follows before m l (Entries c first second)
entries_follow before m l c first None law kf ks none = one_entry before m l c first law kf none
entries_follow before m l c first (Some second) law kf ks none =
    let n = or_false (is_repeated before (pairs_of c before) first) (is_repeated before (pairs_of c before ++ first ∷ []) second) none in
    two_entries before m l c first law kf n.0 second ks n.1

-- right-hand sides and ranges

first_same : (o : Option (List ℕ)) (set : List ℕ) → is_used o set ≡ false → first_name o set ≡ o
first_same None set h = absurd (true≢false h)
first_same (Some first) set h = refl

abbrev set_with : Bool → Option (List ℕ) → SetUse
set_with b s = record { has_begun = b; set = s }

module _ (before : List Form) (m : List Mark) (l : List ℕ) (set : List ℕ) (first : Pair) (law : IsLawful before m) where
  sides_skipped : (second : Option Pair) → is_used (set_of Side before) set ≡ false → Follows before m l (Values Side set first second)
  sides_skipped second unused =
      let f : Form = Values Side set first second in
      let d : Draft = draft_of before m l in
      let o : Option (List ℕ) = objective_of before in
      let same : pairs_in Side before ≡ pairs_in Side (f ∷ before) = sym (ap (λ b. if b then pairs_in Side before ++ pairs_on first second else pairs_in Side before) unused) in
      follow before m m l l f
      (ap (λ b. if b then with_values_set Side set (after_pairs (after_value_pair d Side) first second d) else d) unused
      ∙ to_draft (draft_of (f ∷ before) m l) d.row_states d.kept d.rows d.cols d.constant d.rhs d.ranges d.bounds
      (ap (λ ps. states_said o (kept_names_of before) ps (pairs_in Range before) (row_names_of before)) same) refl
      (ap (λ ps. map (row_of ps (pairs_in Range before)) (kept_rows_of before)) same) refl
      (ap (λ ps. negation (objective_number o ps)) same)
      (ap (set_with (has_section Rhs before)) (sym (first_same (set_of Side before) set unused))) refl refl)
      (sides_lawful o (row_names_of before) (kept_rows_of before) (pairs_in Side before) (pairs_in Range before) (column_names_of before) (λ c. pairs_of c before) (λ c. bounds_of c before) m law
      (pairs_in Side (f ∷ before)) (subst (AreKnown (row_names_of before)) same law.sides_known))

  ranges_skipped : (second : Option Pair) → is_used (set_of Range before) set ≡ false → Follows before m l (Values Range set first second)
  ranges_skipped second unused =
      let f : Form = Values Range set first second in
      let d : Draft = draft_of before m l in
      let o : Option (List ℕ) = objective_of before in
      let same : pairs_in Range before ≡ pairs_in Range (f ∷ before) = sym (ap (λ b. if b then pairs_in Range before ++ pairs_on first second else pairs_in Range before) unused) in
      follow before m m l l f
      (ap (λ b. if b then with_values_set Range set (after_pairs (after_value_pair d Range) first second d) else d) unused
      ∙ to_draft (draft_of (f ∷ before) m l) d.row_states d.kept d.rows d.cols d.constant d.rhs d.ranges d.bounds
      (ap (λ ps. states_said o (kept_names_of before) (pairs_in Side before) ps (row_names_of before)) same) refl
      (ap (λ ps. map (row_of (pairs_in Side before) ps) (kept_rows_of before)) same) refl refl refl
      (ap (set_with (has_section Ranges before)) (sym (first_same (set_of Range before) set unused))) refl)
      (ranges_lawful o (row_names_of before) (kept_rows_of before) (pairs_in Side before) (pairs_in Range before) (column_names_of before) (λ c. pairs_of c before) (λ c. bounds_of c before) m law
      (pairs_in Range (f ∷ before)) (subst (AreKnown (row_names_of before)) same law.ranges_known))

  module _ (kf : is_among first.row (row_names_of before) ≡ true) where
    names_once : (q : Pair) → IsSingle (bytes_eq q.row) (row_names_of before)
    names_once q = single_names q.row (row_names_of before) law.names_apart

    kept_once : (q : Pair) → IsSingle (bytes_eq q.row) (kept_names_of before)
    kept_once q = single_names q.row (kept_names_of before) law.kept_apart

    place_of : (q : Pair) → is_among q.row (row_names_of before) ≡ true → place_of_pair (row_names_of before) (draft_of before m l).row_states q ≡ place_said (is_objective (objective_of before) q.row) (kept_names_of before) q.row
    place_of q known = place_is (objective_of before) (kept_names_of before) (pairs_in Side before) (pairs_in Range before) (row_names_of before) q known

    module _ (none : is_repeated before (pairs_in Side before) first ≡ false) where
      side_row : with_value Side (place_of_pair (row_names_of before) (draft_of before m l).row_states first) (decimal_of first.numeral) (rows_of before) ≡ map (row_of (pairs_in Side before ++ first ∷ []) (pairs_in Range before)) (kept_rows_of before)
      side_row =
          ap (λ p. with_value Side p (decimal_of first.numeral) (rows_of before)) (place_of first kf)
          ∙ side_rows (objective_of before) (pairs_in Side before) (pairs_in Range before) (kept_rows_of before) first (kept_once first) (law.objective_apart first.row) none

      side_number : with_constant Side (place_of_pair (row_names_of before) (draft_of before m l).row_states first) (decimal_of first.numeral) (constant_of before) ≡ negation (objective_number (objective_of before) (pairs_in Side before ++ first ∷ []))
      side_number =
          ap (λ p. with_constant Side p (decimal_of first.numeral) (constant_of before)) (place_of first kf)
          ∙ side_constant (objective_of before) (kept_names_of before) (pairs_in Side before) first none

      one_side : is_used (set_of Side before) set ≡ true → Follows before m l (Values Side set first None)
      one_side used =
          let f : Form = Values Side set first None in
          let d : Draft = draft_of before m l in
          let o : Option (List ℕ) = objective_of before in
          let e : Draft = with_values_set Side set (after_value_pair d Side first d) in
          let more : pairs_in Side before ++ first ∷ [] ≡ pairs_in Side (f ∷ before) = sym (ap (λ b. if b then pairs_in Side before ++ first ∷ [] else pairs_in Side before) used) in
          follow before m m l l f
          (ap (λ b. if b then e else d) used
          ∙ to_draft (draft_of (f ∷ before) m l) e.row_states e.kept e.rows e.cols e.constant e.rhs e.ranges e.bounds
          (side_states o (kept_names_of before) (pairs_in Side before) (pairs_in Range before) (row_names_of before) first (names_once first) kf
          ∙ ap (λ ps. states_said o (kept_names_of before) ps (pairs_in Range before) (row_names_of before)) more) refl
          (side_row ∙ ap (λ ps. map (row_of ps (pairs_in Range before)) (kept_rows_of before)) more) refl
          (side_number ∙ ap (λ ps. negation (objective_number o ps)) more)
          (ap (λ b. if b then set_with (has_section Rhs before) (first_name (set_of Side before) set) else d.rhs) used) refl refl)
          (sides_lawful o (row_names_of before) (kept_rows_of before) (pairs_in Side before) (pairs_in Range before) (column_names_of before) (λ c. pairs_of c before) (λ c. bounds_of c before) m law
          (pairs_in Side (f ∷ before)) (subst (AreKnown (row_names_of before)) more (known_push (row_names_of before) (pairs_in Side before) first law.sides_known kf)))

      two_sides : (second : Pair) → is_among second.row (row_names_of before) ≡ true → is_repeated before (pairs_in Side before ++ first ∷ []) second ≡ false → is_used (set_of Side before) set ≡ true → Follows before m l (Values Side set first (Some second))
      two_sides second ks again used =
          let f : Form = Values Side set first (Some second) in
          let d : Draft = draft_of before m l in
          let o : Option (List ℕ) = objective_of before in
          let sides : List Pair = pairs_in Side before ++ first ∷ [] in
          let e : Draft = with_values_set Side set (after_value_pair d Side second (after_value_pair d Side first d)) in
          let p : RowPlace = place_said (is_objective o second.row) (kept_names_of before) second.row in
          let value : Number = decimal_of second.numeral in
          let once : Draft = after_value_pair d Side first d in
          let more : sides ++ second ∷ [] ≡ pairs_in Side (f ∷ before) =
          append_assoc (pairs_in Side before) (first ∷ []) (second ∷ [])
          ∙ sym (ap (λ b. if b then pairs_in Side before ++ first ∷ second ∷ [] else pairs_in Side before) used)
          in
          follow before m m l l f
          (ap (λ b. if b then e else d) used
          ∙ to_draft (draft_of (f ∷ before) m l) e.row_states e.kept e.rows e.cols e.constant e.rhs e.ranges e.bounds
          (ap (with_marked_state Side (place_among second.row (row_names_of before))) (side_states o (kept_names_of before) (pairs_in Side before) (pairs_in Range before) (row_names_of before) first (names_once first) kf)
          ∙ side_states o (kept_names_of before) sides (pairs_in Range before) (row_names_of before) second (names_once second) ks
          ∙ ap (λ ps. states_said o (kept_names_of before) ps (pairs_in Range before) (row_names_of before)) more) refl
          (ap (λ q. with_value Side q value once.rows) (place_of second ks)
          ∙ ap (with_value Side p value) side_row
          ∙ side_rows o sides (pairs_in Range before) (kept_rows_of before) second (kept_once second) (law.objective_apart second.row) again
          ∙ ap (λ ps. map (row_of ps (pairs_in Range before)) (kept_rows_of before)) more) refl
          (ap (λ q. with_constant Side q value once.constant) (place_of second ks)
          ∙ ap (with_constant Side p value) side_number
          ∙ side_constant o (kept_names_of before) sides second again
          ∙ ap (λ ps. negation (objective_number o ps)) more)
          (ap (λ b. if b then set_with (has_section Rhs before) (first_name (set_of Side before) set) else d.rhs) used) refl refl)
          (sides_lawful o (row_names_of before) (kept_rows_of before) (pairs_in Side before) (pairs_in Range before) (column_names_of before) (λ c. pairs_of c before) (λ c. bounds_of c before) m law
          (pairs_in Side (f ∷ before)) (subst (AreKnown (row_names_of before)) more (known_push (row_names_of before) sides second (known_push (row_names_of before) (pairs_in Side before) first law.sides_known kf) ks)))

    module _ (none : is_repeated before (pairs_in Range before) first ≡ false) where
      range_row : with_value Range (place_of_pair (row_names_of before) (draft_of before m l).row_states first) (decimal_of first.numeral) (rows_of before) ≡ map (row_of (pairs_in Side before) (pairs_in Range before ++ first ∷ [])) (kept_rows_of before)
      range_row =
          ap (λ p. with_value Range p (decimal_of first.numeral) (rows_of before)) (place_of first kf)
          ∙ range_rows (objective_of before) (pairs_in Side before) (pairs_in Range before) (kept_rows_of before) first (kept_once first) (law.objective_apart first.row) none

      one_range : is_used (set_of Range before) set ≡ true → Follows before m l (Values Range set first None)
      one_range used =
          let f : Form = Values Range set first None in
          let d : Draft = draft_of before m l in
          let o : Option (List ℕ) = objective_of before in
          let e : Draft = with_values_set Range set (after_value_pair d Range first d) in
          let more : pairs_in Range before ++ first ∷ [] ≡ pairs_in Range (f ∷ before) = sym (ap (λ b. if b then pairs_in Range before ++ first ∷ [] else pairs_in Range before) used) in
          follow before m m l l f
          (ap (λ b. if b then e else d) used
          ∙ to_draft (draft_of (f ∷ before) m l) e.row_states e.kept e.rows e.cols e.constant e.rhs e.ranges e.bounds
          (range_states o (kept_names_of before) (pairs_in Side before) (pairs_in Range before) (row_names_of before) first (names_once first) kf
          ∙ ap (λ ps. states_said o (kept_names_of before) (pairs_in Side before) ps (row_names_of before)) more) refl
          (range_row ∙ ap (λ ps. map (row_of (pairs_in Side before) ps) (kept_rows_of before)) more) refl refl refl
          (ap (λ b. if b then set_with (has_section Ranges before) (first_name (set_of Range before) set) else d.ranges) used) refl)
          (ranges_lawful o (row_names_of before) (kept_rows_of before) (pairs_in Side before) (pairs_in Range before) (column_names_of before) (λ c. pairs_of c before) (λ c. bounds_of c before) m law
          (pairs_in Range (f ∷ before)) (subst (AreKnown (row_names_of before)) more (known_push (row_names_of before) (pairs_in Range before) first law.ranges_known kf)))

      two_ranges : (second : Pair) → is_among second.row (row_names_of before) ≡ true → is_repeated before (pairs_in Range before ++ first ∷ []) second ≡ false → is_used (set_of Range before) set ≡ true → Follows before m l (Values Range set first (Some second))
      two_ranges second ks again used =
          let f : Form = Values Range set first (Some second) in
          let d : Draft = draft_of before m l in
          let o : Option (List ℕ) = objective_of before in
          let ranges : List Pair = pairs_in Range before ++ first ∷ [] in
          let once : Draft = after_value_pair d Range first d in
          let e : Draft = with_values_set Range set (after_value_pair d Range second once) in
          let p : RowPlace = place_said (is_objective o second.row) (kept_names_of before) second.row in
          let value : Number = decimal_of second.numeral in
          let more : ranges ++ second ∷ [] ≡ pairs_in Range (f ∷ before) =
          append_assoc (pairs_in Range before) (first ∷ []) (second ∷ [])
          ∙ sym (ap (λ b. if b then pairs_in Range before ++ first ∷ second ∷ [] else pairs_in Range before) used)
          in
          follow before m m l l f
          (ap (λ b. if b then e else d) used
          ∙ to_draft (draft_of (f ∷ before) m l) e.row_states e.kept e.rows e.cols e.constant e.rhs e.ranges e.bounds
          (ap (with_marked_state Range (place_among second.row (row_names_of before))) (range_states o (kept_names_of before) (pairs_in Side before) (pairs_in Range before) (row_names_of before) first (names_once first) kf)
          ∙ range_states o (kept_names_of before) (pairs_in Side before) ranges (row_names_of before) second (names_once second) ks
          ∙ ap (λ ps. states_said o (kept_names_of before) (pairs_in Side before) ps (row_names_of before)) more) refl
          (ap (λ q. with_value Range q value once.rows) (place_of second ks)
          ∙ ap (with_value Range p value) range_row
          ∙ range_rows o (pairs_in Side before) ranges (kept_rows_of before) second (kept_once second) (law.objective_apart second.row) again
          ∙ ap (λ ps. map (row_of (pairs_in Side before) ps) (kept_rows_of before)) more) refl refl refl
          (ap (λ b. if b then set_with (has_section Ranges before) (first_name (set_of Range before) set) else d.ranges) used) refl)
          (ranges_lawful o (row_names_of before) (kept_rows_of before) (pairs_in Side before) (pairs_in Range before) (column_names_of before) (λ c. pairs_of c before) (λ c. bounds_of c before) m law
          (pairs_in Range (f ∷ before)) (subst (AreKnown (row_names_of before)) more (known_push (row_names_of before) ranges second (known_push (row_names_of before) (pairs_in Range before) first law.ranges_known kf) ks)))

pub values_skipped : (before : List Form) (m : List Mark) (l : List ℕ) (kind : ValueKind) (set : List ℕ) (first : Pair) (second : Option Pair) → IsLawful before m → is_used (set_of kind before) set ≡ false → Follows before m l (Values kind set first second)
values_skipped before m l Side set first second law unused = sides_skipped before m l set first law second unused
values_skipped before m l Range set first second law unused = ranges_skipped before m l set first law second unused

pub values_follow : (before : List Form) (m : List Mark) (l : List ℕ) (kind : ValueKind) (set : List ℕ) (first : Pair) (second : Option Pair) → IsLawful before m → is_used (set_of kind before) set ≡ true
    → is_among first.row (row_names_of before) ≡ true → AreSecond (row_names_of before) second → repeats before (pairs_in kind before) first second ≡ false → Follows before m l (Values kind set first second)
values_follow before m l Side set first None law used kf ks none = one_side before m l set first law kf none used
values_follow before m l Side set first (Some second) law used kf ks none =
    let n = or_false (is_repeated before (pairs_in Side before) first) (is_repeated before (pairs_in Side before ++ first ∷ []) second) none in
    two_sides before m l set first law kf n.0 second ks n.1 used
values_follow before m l Range set first None law used kf ks none = one_range before m l set first law kf none used
values_follow before m l Range set first (Some second) law used kf ks none =
    let n = or_false (is_repeated before (pairs_in Range before) first) (is_repeated before (pairs_in Range before ++ first ∷ []) second) none in
    two_ranges before m l set first law kf n.0 second ks n.1 used

-- bounds

pub bound_skipped : (before : List Form) (m : List Mark) (l : List ℕ) (kind : BoundKind) (set c numeral : List ℕ) → IsLawful before m → is_used (bound_set_of before) set ≡ false → Follows before m l (BoundLine kind set c numeral)
bound_skipped before m l kind set c numeral law unused =
    let f : Form = BoundLine kind set c numeral in
    let d : Draft = draft_of before m l in
    let b : Bound = record { kind = kind; value = decimal_of numeral } in
    let same : (x : List ℕ) → bounds_of x (f ∷ before) ≡ bounds_of x before =
    λ x. ap (λ u. if bytes_eq x c && u then b ∷ bounds_of x before else bounds_of x before) unused ∙ ap (λ t. if t then b ∷ bounds_of x before else bounds_of x before) (and_none (bytes_eq x c)) in
    follow before m m l l f
    (ap (λ t. if t then after_bound d kind set c (decimal_of numeral) else d) unused
    ∙ to_draft (draft_of (f ∷ before) m l) d.row_states d.kept d.rows d.cols d.constant d.rhs d.ranges d.bounds refl refl refl
    (map_all _ _ (column_names_of before) (λ x. ap (λ bs. column_of (objective_of before) (kept_names_of before) (begins_integer x before) (pairs_of x before) bs x) (sym (same x))))
    refl refl refl (ap (set_with (has_section Bounds before)) (sym (first_same (bound_set_of before) set unused))))
    (bounds_lawful (objective_of before) (row_names_of before) (kept_rows_of before) (pairs_in Side before) (pairs_in Range before) (column_names_of before) (λ x. pairs_of x before) (λ x. bounds_of x before) m law
    (λ x. bounds_of x (f ∷ before)) (λ x h. same x))

pub bound_follows : (before : List Form) (m : List Mark) (l : List ℕ) (kind : BoundKind) (set c numeral : List ℕ) → IsLawful before m → is_used (bound_set_of before) set ≡ true → is_among c (column_names_of before) ≡ true → Follows before m l (BoundLine kind set c numeral)
bound_follows before m l kind set c numeral law used known =
    let f : Form = BoundLine kind set c numeral in
    let d : Draft = draft_of before m l in
    let b : Bound = record { kind = kind; value = decimal_of numeral } in
    let e : Draft = after_bound d kind set c (decimal_of numeral) in
    let other : (x : List ℕ) → bytes_eq c x ≡ false → bounds_of x before ≡ bounds_of x (f ∷ before) =
    λ x h. sym (ap (λ t. if t && is_used (bound_set_of before) set then b ∷ bounds_of x before else bounds_of x before) (bytes_eq-turn c x false h)) in
    let here : (x : List ℕ) → bytes_eq c x ≡ true → b ∷ bounds_of x before ≡ bounds_of x (f ∷ before) =
    λ x h. sym (ap (λ t. if t && is_used (bound_set_of before) set then b ∷ bounds_of x before else bounds_of x before) (bytes_eq-turn c x true h)
    ∙ ap (λ t. if t then b ∷ bounds_of x before else bounds_of x before) used) in
    follow before m m l l f
    (ap (λ t. if t then e else d) used
    ∙ to_draft (draft_of (f ∷ before) m l) e.row_states e.kept e.rows e.cols e.constant e.rhs e.ranges e.bounds refl refl refl
    (bound_columns kind (decimal_of numeral) (objective_of before) (kept_names_of before) (λ x. begins_integer x before) (λ x. pairs_of x before) (λ x. bounds_of x before) (λ x. bounds_of x (f ∷ before)) c (column_names_of before)
    (single_names c (column_names_of before) law.columns_apart) known other here)
    refl refl refl (ap (λ t. if t then set_with (has_section Bounds before) (first_name (bound_set_of before) set) else d.bounds) used))
    (bounds_lawful (objective_of before) (row_names_of before) (kept_rows_of before) (pairs_in Side before) (pairs_in Range before) (column_names_of before) (λ x. pairs_of x before) (λ x. bounds_of x before) m law
    (λ x. bounds_of x (f ∷ before))
    (λ x h. sym (other x (by_case (bytes_eq c x) _ (λ at. absurd (false≢true (sym h ∙ ap (λ n. is_among n (column_names_of before)) (sym (eq_of c x at)) ∙ known))) (λ at. at)))))
