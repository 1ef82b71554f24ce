use Rattle.std.proofs.Common.{◌≡◌, ◌∙◌, ◌≤◌, ℕ, true, false, ◌||◌, ◌&&◌, List, [], ◌∷◌, ◌++◌, length, map, Option, Some, None, refl, sym, ap, subst, arith}
use Rattle.std.specs.Str.{bytes_eq}
use Rattle.std.proofs.lemmas.Bool.{false≢true}
use Rattle.std.proofs.lemmas.List.{map-append}
use Rattle.mps_read.specs.Names.{is_among, place_among, with_name}
use Rattle.mps_lines.specs.Forms.{Form, Pair}
use Rattle.mps_read.specs.Headers.{section_of, has_section, has_sense_line_of, name_of, maximise_of}
use Rattle.mps_read.specs.Sets.{first_name, set_of, bound_set_of, pairs_in, is_named}
use Rattle.mps_read.specs.Rows.{RowLine, row_names_of, objective_of, kept_rows_of, kept_names_of, is_objective, is_single, rows_of, constant_of}
use Rattle.mps_read.specs.Columns.{Bound, column_names_of, pairs_of, bounds_of, is_integer_of, cols_of}
use Rattle.mps_read.specs.DraftColumns.{with_mark}
use Rattle.mps_read.specs.DraftKinds.{has_mark}
use Rattle.mps_model.specs.declared.model.RowKind.{RowKind}
use Rattle.mps_lines.specs.declared.section.Section.TheVariants.{Rhs, Ranges, Bounds}
use Rattle.mps_lines.specs.declared.section.ValueKind.TheVariants.{Side, Range}
use Rattle.mps_read.specs.declared.draft.Draft.{Draft}
use Rattle.mps_read.specs.declared.draft.Mark.{Mark}
use Rattle.mps_lines.proofs.Truths.{by_case, or_false}
use Rattle.mps_read.proofs.DraftParts.{longer}
use Rattle.mps_read.proofs.PrintNames.{place_first, with_new, with_known}
use Rattle.mps_read.proofs.ModelLists.{AreApart, AreAmong, apart_push, misses_names, misses_among, among_more, among_last, among_push as all_among_push}
use Rattle.mps_read.proofs.Lookups.{eq_of, bytes_eq-turn}
use Rattle.mps_read.proofs.SaidNames.{and_none, among_push, among_other, among_known, place_known, place_less, not_among, AreKnown, known_more, known_push, not_named}
use Rattle.mps_read.proofs.SaidRows.{states_said, place_said, other_objective}
use Rattle.mps_read.proofs.SaidColumns.{mark_past_row, mark_past_column, mark_more}

-- the draft that stands for lines: what they say, and what the reader keeps of marks
abbrev pub draft_of : List Form → List Mark → List ℕ → Draft
draft_of before marks latest = record {
  section = section_of before;
  has_sense_line = has_sense_line_of before;
  name = name_of before;
  maximise = maximise_of before;
  row_names = row_names_of before;
  row_states = states_said (objective_of before) (kept_names_of before) (pairs_in Side before) (pairs_in Range before) (row_names_of before);
  objective = objective_of before;
  kept = length (kept_rows_of before);
  rows = rows_of before;
  column_names = column_names_of before;
  cols = cols_of before;
  is_integer = is_integer_of before;
  marks = marks;
  latest = latest;
  constant = constant_of before;
  rhs = record { has_begun = has_section Rhs before; set = set_of Side before };
  ranges = record { has_begun = has_section Ranges before; set = set_of Range before };
  bounds = record { has_begun = has_section Bounds before; set = bound_set_of before };
}

abbrev pub IsKnownObjective : Option (List ℕ) → List (List ℕ) → Type 0
IsKnownObjective None names = Unit {0}
IsKnownObjective (Some name) names = is_among name names ≡ true

abbrev pub names_in : List RowLine → List (List ℕ)
names_in rows = map (λ line. line.name) rows

-- what holds of lines that are all allowed
pub record AreLawful (o : Option (List ℕ)) (names : List (List ℕ)) (rows : List RowLine) (sides ranges : List Pair) (columns : List (List ℕ)) (pairs : List ℕ → List Pair) (bounds : List ℕ → List Bound) (marks : List Mark) : Type 0 where
  pub names_apart : AreApart names
  pub objective_known : IsKnownObjective o names
  pub kept_known : AreAmong names (names_in rows)
  pub kept_apart : AreApart (names_in rows)
  pub objective_apart : (x : List ℕ) → is_objective o x ≡ true → is_among x (names_in rows) ≡ false
  pub sides_known : AreKnown names sides
  pub ranges_known : AreKnown names ranges
  pub pairs_known : (c : List ℕ) → AreKnown names (pairs c)
  pub columns_apart : AreApart columns
  pub fresh_columns : (c : List ℕ) → is_among c columns ≡ false → (pairs c ≡ []) × (bounds c ≡ [])
  pub rows_within : (r c : ℕ) → length names ≤ r → has_mark r c marks ≡ false
  pub columns_within : (r c : ℕ) → length columns ≤ c → has_mark r c marks ≡ false
  pub same_marks : (row c : List ℕ) → is_among row names ≡ true → is_among c columns ≡ true → has_mark (place_among row names) (place_among c columns) marks ≡ (is_single o (names_in rows) row && is_named row (pairs c))

abbrev pub IsLawful : List Form → List Mark → Type 0
IsLawful before marks = AreLawful (objective_of before) (row_names_of before) (kept_rows_of before) (pairs_in Side before) (pairs_in Range before) (column_names_of before) (λ c. pairs_of c before) (λ c. bounds_of c before) marks

pub first_lawful : IsLawful [] []
first_lawful = record {
  names_apart = tt;
  objective_known = tt;
  kept_known = tt;
  kept_apart = tt;
  objective_apart = λ x h. absurd (false≢true h);
  sides_known = tt;
  ranges_known = tt;
  pairs_known = λ c. tt;
  columns_apart = tt;
  fresh_columns = λ c h. (refl, refl);
  rows_within = λ r c h. refl;
  columns_within = λ r c h. refl;
  same_marks = λ row c h i. absurd (false≢true h);
}

pub new_objective : (o : Option (List ℕ)) (names : List (List ℕ)) (name : List ℕ) → IsKnownObjective o names → is_among name names ≡ false → is_objective o name ≡ false
new_objective None names name known new = refl
new_objective (Some first) names name known new =
    by_case (bytes_eq name first) _
    (λ h. absurd (false≢true (sym new ∙ ap (λ n. is_among n names) (eq_of name first h) ∙ known)))
    (λ h. h)

pub new_kept : (names kept : List (List ℕ)) (name : List ℕ) → AreAmong names kept → is_among name names ≡ false → is_among name kept ≡ false
new_kept names kept name known new = not_among name kept (misses_among name names kept new known)

given_known : (o : Option (List ℕ)) (names : List (List ℕ)) (name : List ℕ) → IsKnownObjective o names → IsKnownObjective (first_name o name) (names ++ name ∷ [])
given_known None names name known = among_last names name
given_known (Some first) names name known = among_known first names name known

objective_more : (o : Option (List ℕ)) (names : List (List ℕ)) (name : List ℕ) → IsKnownObjective o names → IsKnownObjective o (names ++ name ∷ [])
objective_more None names name known = tt
objective_more (Some first) names name known = among_known first names name known

given_apart : (o : Option (List ℕ)) (kept : List (List ℕ)) (name x : List ℕ) → ((y : List ℕ) → is_objective o y ≡ true → is_among y kept ≡ false) → is_among name kept ≡ false → is_objective (first_name o name) x ≡ true → is_among x kept ≡ false
given_apart None kept name x apart new h = ap (λ n. is_among n kept) (eq_of x name h) ∙ new
given_apart (Some first) kept name x apart new h = apart x h

module _ (o : Option (List ℕ)) (names : List (List ℕ)) (rows : List RowLine) (sides ranges : List Pair) (columns : List (List ℕ)) (pairs : List ℕ → List Pair) (bounds : List ℕ → List Bound) (marks : List Mark)
    (law : AreLawful o names rows sides ranges columns pairs bounds marks) where
  -- one more row's name: the others keep their marks, and it has none
  marked_row : (more : Option (List ℕ)) (others : List (List ℕ)) (name row c : List ℕ) → is_among name names ≡ false → (bytes_eq row name ≡ false → is_single o (names_in rows) row ≡ is_single more others row)
      → is_among row (names ++ name ∷ []) ≡ true → is_among c columns ≡ true
      → has_mark (place_among row (names ++ name ∷ [])) (place_among c columns) marks ≡ (is_single more others row && is_named row (pairs c))
  marked_row more others name row c new same kr kc =
      by_case (bytes_eq row name) _
      (λ h.
      let e : row ≡ name = eq_of row name h in
      let place : place_among row (names ++ name ∷ []) ≡ length names = ap (λ n. place_among n (names ++ name ∷ [])) e ∙ place_first names name [] new in
      let unnamed : is_named row (pairs c) ≡ false = ap (λ n. is_named n (pairs c)) e ∙ not_named names name (pairs c) (law.pairs_known c) new in
      ap (λ k. has_mark k (place_among c columns) marks) place ∙ law.rows_within (length names) (place_among c columns) (omega arith)
      ∙ sym (ap (λ n. is_single more others row && n) unnamed ∙ and_none (is_single more others row)))
      (λ h.
      let known : is_among row names ≡ true = sym (among_other row names name h) ∙ kr in
      ap (λ k. has_mark k (place_among c columns) marks) (place_known row names name known) ∙ law.same_marks row c known kc
      ∙ ap (λ s. s && is_named row (pairs c)) (same h))

  pub free_lawful : (name : List ℕ) → is_among name names ≡ false → AreLawful (first_name o name) (names ++ name ∷ []) rows sides ranges columns pairs bounds marks
  free_lawful name new = record {
    names_apart = apart_push names name law.names_apart (misses_names name names new);
    objective_known = given_known o names name law.objective_known;
    kept_known = among_more names (names_in rows) name law.kept_known;
    kept_apart = law.kept_apart;
    objective_apart = λ x h. given_apart o (names_in rows) name x law.objective_apart (new_kept names (names_in rows) name law.kept_known new) h;
    sides_known = known_more names name sides law.sides_known;
    ranges_known = known_more names name ranges law.ranges_known;
    pairs_known = λ c. known_more names name (pairs c) (law.pairs_known c);
    columns_apart = law.columns_apart;
    fresh_columns = law.fresh_columns;
    rows_within = λ r c h. law.rows_within r c (omega (arith, h, longer names name));
    columns_within = law.columns_within;
    same_marks = λ row c kr kc.
        marked_row (first_name o name) (names_in rows) name row c new
        (λ h. ap (λ b. b || is_among row (names_in rows)) (other_objective o name row (bytes_eq-turn row name false h))) kr kc;
  }

  pub row_lawful : (kind : RowKind) (name : List ℕ) → is_among name names ≡ false → AreLawful o (names ++ name ∷ []) (rows ++ record { kind = kind; name = name } ∷ []) sides ranges columns pairs bounds marks
  row_lawful kind name new =
      let more : names_in (rows ++ record { kind = kind; name = name } ∷ []) ≡ names_in rows ++ name ∷ [] = map-append (λ (line : RowLine). line.name) rows (record { kind = kind; name = name } ∷ []) in
      let other : is_objective o name ≡ false = new_objective o names name law.objective_known new in
      record {
        names_apart = apart_push names name law.names_apart (misses_names name names new);
        objective_known = objective_more o names name law.objective_known;
        kept_known = subst (AreAmong (names ++ name ∷ [])) (sym more) (all_among_push names (names_in rows) name law.kept_known);
        kept_apart = subst (λ (ns : List (List ℕ)). AreApart ns) (sym more) (apart_push (names_in rows) name law.kept_apart (misses_among name names (names_in rows) new law.kept_known));
        objective_apart = λ x h.
            ap (is_among x) more
            ∙ among_other x (names_in rows) name
            (by_case (bytes_eq x name) _ (λ e. absurd (false≢true (sym other ∙ ap (is_objective o) (sym (eq_of x name e)) ∙ h))) (λ e. e))
            ∙ law.objective_apart x h;
        sides_known = known_more names name sides law.sides_known;
        ranges_known = known_more names name ranges law.ranges_known;
        pairs_known = λ c. known_more names name (pairs c) (law.pairs_known c);
        columns_apart = law.columns_apart;
        fresh_columns = law.fresh_columns;
        rows_within = λ r c h. law.rows_within r c (omega (arith, h, longer names name));
        columns_within = law.columns_within;
        same_marks = λ row c kr kc.
            marked_row o (names_in (rows ++ record { kind = kind; name = name } ∷ [])) name row c new
            (λ h. ap (λ b. is_objective o row || b) (sym (ap (is_among row) more ∙ among_other row (names_in rows) name h))) kr kc;
      }

  pub sides_lawful : (more : List Pair) → AreKnown names more → AreLawful o names rows more ranges columns pairs bounds marks
  sides_lawful more known = record {
    names_apart = law.names_apart;
    objective_known = law.objective_known;
    kept_known = law.kept_known;
    kept_apart = law.kept_apart;
    objective_apart = law.objective_apart;
    sides_known = known;
    ranges_known = law.ranges_known;
    pairs_known = law.pairs_known;
    columns_apart = law.columns_apart;
    fresh_columns = law.fresh_columns;
    rows_within = law.rows_within;
    columns_within = law.columns_within;
    same_marks = law.same_marks;
  }

  pub ranges_lawful : (more : List Pair) → AreKnown names more → AreLawful o names rows sides more columns pairs bounds marks
  ranges_lawful more known = record {
    names_apart = law.names_apart;
    objective_known = law.objective_known;
    kept_known = law.kept_known;
    kept_apart = law.kept_apart;
    objective_apart = law.objective_apart;
    sides_known = law.sides_known;
    ranges_known = known;
    pairs_known = law.pairs_known;
    columns_apart = law.columns_apart;
    fresh_columns = law.fresh_columns;
    rows_within = law.rows_within;
    columns_within = law.columns_within;
    same_marks = law.same_marks;
  }

  pub bounds_lawful : (more : List ℕ → List Bound) → ((c : List ℕ) → is_among c columns ≡ false → more c ≡ bounds c) → AreLawful o names rows sides ranges columns pairs more marks
  bounds_lawful more same = record {
    names_apart = law.names_apart;
    objective_known = law.objective_known;
    kept_known = law.kept_known;
    kept_apart = law.kept_apart;
    objective_apart = law.objective_apart;
    sides_known = law.sides_known;
    ranges_known = law.ranges_known;
    pairs_known = law.pairs_known;
    columns_apart = law.columns_apart;
    fresh_columns = λ c h. ((law.fresh_columns c h).0, same c h ∙ (law.fresh_columns c h).1);
    rows_within = law.rows_within;
    columns_within = law.columns_within;
    same_marks = law.same_marks;
  }

  -- one more column
  marked_column : (c row x : List ℕ) → is_among c columns ≡ false → is_among row names ≡ true → is_among x (columns ++ c ∷ []) ≡ true
      → has_mark (place_among row names) (place_among x (columns ++ c ∷ [])) marks ≡ (is_single o (names_in rows) row && is_named row (pairs x))
  marked_column c row x new kr kx =
      by_case (bytes_eq x c) _
      (λ h.
      let e : x ≡ c = eq_of x c h in
      let place : place_among x (columns ++ c ∷ []) ≡ length columns = ap (λ n. place_among n (columns ++ c ∷ [])) e ∙ place_first columns c [] new in
      let none : pairs x ≡ [] = ap pairs e ∙ (law.fresh_columns c new).0 in
      ap (λ k. has_mark (place_among row names) k marks) place ∙ law.columns_within (place_among row names) (length columns) (omega arith)
      ∙ sym (ap (λ ps. is_single o (names_in rows) row && is_named row ps) none ∙ and_none (is_single o (names_in rows) row)))
      (λ h.
      let known : is_among x columns ≡ true = sym (among_other x columns c h) ∙ kx in
      ap (λ k. has_mark (place_among row names) k marks) (place_known x columns c known) ∙ law.same_marks row x kr known)

  new_column_lawful : (c : List ℕ) → is_among c columns ≡ false → AreLawful o names rows sides ranges (columns ++ c ∷ []) pairs bounds marks
  new_column_lawful c new = record {
    names_apart = law.names_apart;
    objective_known = law.objective_known;
    kept_known = law.kept_known;
    kept_apart = law.kept_apart;
    objective_apart = law.objective_apart;
    sides_known = law.sides_known;
    ranges_known = law.ranges_known;
    pairs_known = law.pairs_known;
    columns_apart = apart_push columns c law.columns_apart (misses_names c columns new);
    fresh_columns = λ x h. law.fresh_columns x (or_false (is_among x columns) (bytes_eq x c) (sym (among_push x columns c) ∙ h)).0;
    rows_within = law.rows_within;
    columns_within = λ r k h. law.columns_within r k (omega (arith, h, longer columns c));
    same_marks = λ row x kr kx. marked_column c row x new kr kx;
  }

  pub column_lawful : (c : List ℕ) → AreLawful o names rows sides ranges (with_name c columns) pairs bounds marks
  column_lawful c =
      by_case (is_among c columns) (AreLawful o names rows sides ranges (with_name c columns) pairs bounds marks)
      (λ known. subst (λ (ns : List (List ℕ)). AreLawful o names rows sides ranges ns pairs bounds marks) (sym (with_known c columns known)) law)
      (λ new. subst (λ (ns : List (List ℕ)). AreLawful o names rows sides ranges ns pairs bounds marks) (sym (with_new c columns new)) (new_column_lawful c new))

  -- an entry of a known column
  pub entry_lawful : (qs : List ℕ → List Pair) (c : List ℕ) (q : Pair) → is_among q.row names ≡ true → is_among c columns ≡ true
      → ((x : List ℕ) → bytes_eq c x ≡ false → pairs x ≡ qs x) → ((x : List ℕ) → bytes_eq c x ≡ true → pairs x ++ q ∷ [] ≡ qs x)
      → AreLawful o names rows sides ranges columns qs bounds (with_mark (place_said (is_objective o q.row) (names_in rows) q.row) (place_among q.row names) (place_among c columns) marks)
  entry_lawful qs c q kq kc other here = record {
    names_apart = law.names_apart;
    objective_known = law.objective_known;
    kept_known = law.kept_known;
    kept_apart = law.kept_apart;
    objective_apart = law.objective_apart;
    sides_known = law.sides_known;
    ranges_known = law.ranges_known;
    pairs_known = λ x.
        by_case (bytes_eq c x) _
        (λ h. subst (AreKnown names) (here x h) (known_push names (pairs x) q (law.pairs_known x) kq))
        (λ h. subst (AreKnown names) (other x h) (law.pairs_known x));
    columns_apart = law.columns_apart;
    fresh_columns = λ x h.
        let apart : bytes_eq c x ≡ false = by_case (bytes_eq c x) _ (λ e. absurd (false≢true (sym h ∙ ap (λ n. is_among n columns) (sym (eq_of c x e)) ∙ kc))) (λ e. e) in
        (sym (other x apart) ∙ (law.fresh_columns x h).0, (law.fresh_columns x h).1);
    rows_within = λ r k h.
        mark_past_row (is_objective o q.row) (names_in rows) q.row (place_among q.row names) (place_among c columns) r k marks
        (omega (arith, h, place_less q.row names kq)) (law.rows_within r k h);
    columns_within = λ r k h.
        mark_past_column (is_objective o q.row) (names_in rows) q.row (place_among q.row names) (place_among c columns) r k marks
        (omega (arith, h, place_less c columns kc)) (law.columns_within r k h);
    same_marks = λ row x kr kx.
        mark_more o (names_in rows) names columns pairs qs c q marks row x kq kc kr kx (other x) (here x) (law.same_marks row x kr kx);
  }
