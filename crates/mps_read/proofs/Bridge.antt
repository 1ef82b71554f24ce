use Rattle.std.proofs.Common.{◌≡◌, ◌∙◌, ℕ, ◌+◌, Bool, true, false, not, ◌||◌, ◌&&◌, List, [], ◌∷◌, Option, Some, None, refl, sym, ap, arith, if◌then◌else◌}
use Rattle.std.specs.Str.{bytes_eq}
use Rattle.std.proofs.lemmas.Bool.{false≢true, true≢false}
use Rattle.mps_lines.specs.Lines.{lines_of}
use Rattle.mps_read.specs.Names.{is_among, place_among}
use Rattle.mps_lines.specs.Forms.{Form, Pair, Blank, Spoilt, Head, UnknownHead, Stray, Miscounted, SenseLine, FreeRow, KeptRow, UntypedRow, Marker, UnknownMarker, Entries, Values, BoundLine, UntypedBound, form_of, is_end, has_numeral}
use Rattle.mps_read.specs.Numerals.{is_numeral}
use Rattle.mps_read.specs.Headers.{section_of, has_sense_line_of}
use Rattle.mps_read.specs.Sets.{is_used, set_of, bound_set_of, pairs_in, is_named}
use Rattle.mps_read.specs.Rows.{row_names_of, objective_of, kept_names_of, is_objective, is_single}
use Rattle.mps_read.specs.Columns.{column_names_of, pairs_of}
use Rattle.mps_read.specs.Kinds.{all_pairs, is_pair_numeral, is_known_pair, is_repeated, repeats, kind_of}
use Rattle.mps_read.specs.Readings.{Reading, Read, outcome, model_of, judge, reading}
use Rattle.mps_read.specs.DraftRows.{fresh_state, state_at, is_tested}
use Rattle.mps_read.specs.DraftKinds.{has_mark, has_value, is_same_row, repeats_in, draft_kind}
use Rattle.mps_read.specs.Drafts.{first_draft}
use Rattle.mps_read.specs.Steps.{after, draft_model, run}
use Rattle.mps_read.specs.declared.error.MpsKind.{MpsKind}
use Rattle.mps_read.specs.declared.error.MpsKind.TheVariants.{Numeral, RepeatedName, UnknownName, RepeatedEntry}
use Rattle.mps_lines.specs.declared.section.Section.TheVariants.{Name, Objsense, Rows, Columns, Rhs, Ranges, Bounds, Endata}
use Rattle.mps_lines.specs.declared.section.ValueKind.{ValueKind}
use Rattle.mps_lines.specs.declared.section.ValueKind.TheVariants.{Side, Range}
use Rattle.mps_read.specs.declared.draft.Draft.{Draft}
use Rattle.mps_read.specs.declared.draft.Mark.{Mark}
use Rattle.mps_read.specs.declared.draft.RowPlace.TheVariants.{Dropped}
use Rattle.mps_read.specs.declared.draft.RowState.{RowState}
use Rattle.mps_lines.proofs.Truths.{by_case, and_true, none_else}
use Rattle.mps_read.proofs.PrintNames.{place_absent}
use Rattle.mps_read.proofs.Lookups.{map_at, eq_of, bytes_eq-turn}
use Rattle.mps_read.proofs.SaidNames.{and_none, places_eq, named_push}
use Rattle.mps_read.proofs.SaidRows.{state_said, tested_said}
use Rattle.mps_read.proofs.Standing.{draft_of, IsLawful, first_lawful}
use Rattle.mps_read.proofs.Following.{Follows, AreSecond, free_follows, row_follows, entries_follow, values_skipped, values_follow, bound_skipped, bound_follows}

-- The reader's way over the lines gives what judging them gives.

-- tests of a line

kept_true : (b : Bool) → not b ≡ false → b ≡ true
kept_true true h = refl
kept_true false h = absurd (true≢false h)

rest_false : (u b : Bool) → u ≡ true → (u && b) ≡ false → b ≡ false
rest_false true b used h = h
rest_false false b used h = absurd (false≢true used)

known_second : (names : List (List ℕ)) (first : Pair) (second : Option Pair) → not (all_pairs (is_known_pair names) first second) ≡ false → (is_among first.row names ≡ true) × AreSecond names second
known_second names first None h = (kept_true (is_among first.row names) h, tt)
known_second names first (Some second) h = and_true (is_among first.row names) (is_among second.row names) (kept_true (is_among first.row names && is_among second.row names) h)

-- what a row has before, and in the line

two_by : (a s n e t : Bool) → (e ≡ true → s ≡ t) → ((a || (s && n)) || (e && t)) ≡ (a || (s && (n || e)))
two_by true s n e t h = refl
two_by false true true e t h = refl
two_by false true false true true h = refl
two_by false true false true false h = absurd (true≢false (h refl))
two_by false true false false t h = refl
two_by false false n true true h = absurd (false≢true (h refl))
two_by false false n true false h = refl
two_by false false n false t h = refl

state_is : (before : List Form) (m : List Mark) (l : List ℕ) (q : Pair) → is_among q.row (row_names_of before) ≡ true
    → state_at (draft_of before m l).row_states (place_among q.row (row_names_of before)) ≡ state_said (is_objective (objective_of before) q.row) (kept_names_of before) (pairs_in Side before) (pairs_in Range before) q.row
state_is before m l q known =
    let f : List ℕ → RowState = λ row. state_said (is_objective (objective_of before) row) (kept_names_of before) (pairs_in Side before) (pairs_in Range before) row in
    map_at f (f q.row) (fresh_state Dropped) (bytes_eq q.row) (row_names_of before) known (λ x h. ap f (sym (eq_of q.row x h)))

repeats_same : (before : List Form) (m : List Mark) (l : List ℕ) (has : ℕ → Bool) (earlier : List Pair) (first : Pair) (second : Option Pair)
    → ((q : Pair) → is_among q.row (row_names_of before) ≡ true → has (place_among q.row (row_names_of before)) ≡ is_repeated before earlier q)
    → is_among first.row (row_names_of before) ≡ true → AreSecond (row_names_of before) second → repeats_in (draft_of before m l) has first second ≡ repeats before earlier first second
repeats_same before m l has earlier first None same kf ks = same first kf
repeats_same before m l has earlier first (Some second) same kf ks =
    let names : List (List ℕ) = row_names_of before in
    let o : Option (List ℕ) = objective_of before in
    let kept : List (List ℕ) = kept_names_of before in
    let a : Bool = is_repeated before earlier first in
    let s : Bool = is_single o kept second.row in
    let n : Bool = is_named second.row earlier in
    let e : Bool = bytes_eq second.row first.row in
    let tested : is_tested (state_at (draft_of before m l).row_states (place_among first.row names)).place ≡ is_single o kept first.row =
    ap (λ (x : RowState). is_tested x.place) (state_is before m l first kf) ∙ tested_said (is_objective o first.row) kept first.row
    in
    ap (λ b. (b || has (place_among second.row names)) || is_same_row (draft_of before m l) first second) (same first kf)
    ∙ ap (λ b. (a || b) || is_same_row (draft_of before m l) first second) (same second ks)
    ∙ ap (λ b. (a || (s && n)) || (b && is_tested (state_at (draft_of before m l).row_states (place_among first.row names)).place)) (places_eq first.row second.row names kf ks ∙ bytes_eq-turn second.row first.row e refl)
    ∙ ap (λ b. (a || (s && n)) || (e && b)) tested
    ∙ two_by a s n e (is_single o kept first.row) (λ h. ap (is_single o kept) (eq_of second.row first.row h))
    ∙ ap (λ b. a || (s && b)) (sym (named_push second.row earlier first))

marks_same : (before : List Form) (m : List Mark) → IsLawful before m → (c : List ℕ) (q : Pair) → is_among q.row (row_names_of before) ≡ true
    → has_mark (place_among q.row (row_names_of before)) (place_among c (column_names_of before)) m ≡ is_repeated before (pairs_of c before) q
marks_same before m law c q known =
    by_case (is_among c (column_names_of before)) _
    (λ h. law.same_marks q.row c known h)
    (λ h.
    let place = place_absent c (column_names_of before) h in
    law.columns_within (place_among q.row (row_names_of before)) (place_among c (column_names_of before)) (omega (arith, place))
    ∙ sym (ap (λ ps. is_single (objective_of before) (kept_names_of before) q.row && is_named q.row ps) (law.fresh_columns c h).0 ∙ and_none (is_single (objective_of before) (kept_names_of before) q.row)))

third_same : {A : Type 0} (a b c e : Bool) (x y z : A) (r : Option A) → (b ≡ false → c ≡ e) → (if a then Some x else if b then Some y else if c then Some z else r) ≡ (if a then Some x else if b then Some y else if e then Some z else r)
third_same true b c e x y z r h = refl
third_same false true c e x y z r h = refl
third_same false false c e x y z r h = ap (λ t. if t then Some z else r) (h refl)

used_same : (u k c e : Bool) → (u ≡ true → k ≡ false → c ≡ e) → (u && k) ≡ false → (u && c) ≡ (u && e)
used_same true k c e same h = same refl h
used_same false k c e same h = refl

value_same : (before : List Form) (m : List Mark) (l : List ℕ) (kind : ValueKind) (q : Pair) → is_among q.row (row_names_of before) ≡ true
    → has_value kind (state_at (draft_of before m l).row_states (place_among q.row (row_names_of before))) ≡ is_repeated before (pairs_in kind before) q
value_same before m l Side q known = ap (has_value Side) (state_is before m l q known)
value_same before m l Range q known = ap (has_value Range) (state_is before m l q known)

value_kind : (before : List Form) (m : List Mark) (l : List ℕ) (kind : ValueKind) (set : List ℕ) (first : Pair) (second : Option Pair) (u : Bool) (r : Option MpsKind)
    → (if u && not (all_pairs is_pair_numeral first second) then Some Numeral else if u && not (all_pairs (is_known_pair (row_names_of before)) first second) then Some UnknownName else if u && repeats_in (draft_of before m l) (λ row. has_value kind (state_at (draft_of before m l).row_states row)) first second then Some RepeatedEntry else r)
    ≡ (if u && not (all_pairs is_pair_numeral first second) then Some Numeral else if u && not (all_pairs (is_known_pair (row_names_of before)) first second) then Some UnknownName else if u && repeats before (pairs_in kind before) first second then Some RepeatedEntry else r)
value_kind before m l kind set first second u r =
    third_same _ _ _ _ Numeral UnknownName RepeatedEntry r
    (used_same u (not (all_pairs (is_known_pair (row_names_of before)) first second)) _ _
    (λ used unknown.
    let k = known_second (row_names_of before) first second unknown in
    repeats_same before m l (λ row. has_value kind (state_at (draft_of before m l).row_states row)) (pairs_in kind before) first second (value_same before m l kind) k.0 k.1))

-- the tests of a draft are those of the lines that it stands for
same_kind : (before : List Form) (m : List Mark) (l : List ℕ) → IsLawful before m → (f : Form) → draft_kind (draft_of before m l) f ≡ kind_of before f
same_kind before m l law Blank = refl
same_kind before m l law Spoilt = refl
same_kind before m l law (Head Name word) = refl
same_kind before m l law (Head Objsense word) = refl
same_kind before m l law (Head Rows word) = refl
same_kind before m l law (Head Columns word) = refl
same_kind before m l law (Head Rhs word) = refl
same_kind before m l law (Head Ranges word) = refl
same_kind before m l law (Head Bounds word) = refl
same_kind before m l law (Head Endata word) = refl
same_kind before m l law UnknownHead = refl
same_kind before m l law Stray = refl
same_kind before m l law Miscounted = refl
same_kind before m l law (SenseLine word) = refl
same_kind before m l law (FreeRow name) = refl
same_kind before m l law (KeptRow kind name) = refl
same_kind before m l law UntypedRow = refl
same_kind before m l law (Marker is_integer) = refl
same_kind before m l law UnknownMarker = refl
same_kind before m l law (Entries c first second) =
    third_same (not (all_pairs is_pair_numeral first second)) (not (all_pairs (is_known_pair (row_names_of before)) first second))
    (repeats_in (draft_of before m l) (λ row. has_mark row (place_among c (column_names_of before)) m) first second) (repeats before (pairs_of c before) first second)
    Numeral UnknownName RepeatedEntry _
    (λ unknown.
    let k = known_second (row_names_of before) first second unknown in
    repeats_same before m l (λ row. has_mark row (place_among c (column_names_of before)) m) (pairs_of c before) first second (marks_same before m law c) k.0 k.1)
same_kind before m l law (Values Side set first second) = value_kind before m l Side set first second (is_used (set_of Side before) set) _
same_kind before m l law (Values Range set first second) = value_kind before m l Range set first second (is_used (set_of Range before) set) _
same_kind before m l law (BoundLine kind set column numeral) = refl
same_kind before m l law UntypedBound = refl

-- the draft after an allowed line stands for the lines with it
same_step : (before : List Form) (m : List Mark) (l : List ℕ) → IsLawful before m → (f : Form) → kind_of before f ≡ None → Follows before m l f
same_step before m l law Blank h = (refl, law)
same_step before m l law Spoilt h = (refl, law)
same_step before m l law (Head Name word) h = (refl, law)
same_step before m l law (Head Objsense word) h = (refl, law)
same_step before m l law (Head Rows word) h = (refl, law)
same_step before m l law (Head Columns word) h = (refl, law)
same_step before m l law (Head Rhs word) h = (refl, law)
same_step before m l law (Head Ranges word) h = (refl, law)
same_step before m l law (Head Bounds word) h = (refl, law)
same_step before m l law (Head Endata word) h = (refl, law)
same_step before m l law UnknownHead h = (refl, law)
same_step before m l law Stray h = (refl, law)
same_step before m l law Miscounted h = (refl, law)
same_step before m l law (SenseLine word) h = (refl, law)
same_step before m l law (FreeRow name) h = free_follows before m l name law (none_else (is_among name (row_names_of before)) RepeatedName _ h).0
same_step before m l law (KeptRow kind name) h = row_follows before m l kind name law (none_else (is_among name (row_names_of before)) RepeatedName _ h).0
same_step before m l law UntypedRow h = (refl, law)
same_step before m l law (Marker is_integer) h = (refl, law)
same_step before m l law UnknownMarker h = (refl, law)
same_step before m l law (Entries c first second) h =
    let p = none_else (not (all_pairs (is_known_pair (row_names_of before)) first second)) UnknownName _ (none_else (not (all_pairs is_pair_numeral first second)) Numeral _ h).1 in
    let k = known_second (row_names_of before) first second p.0 in
    entries_follow before m l c first second law k.0 k.1 (none_else (repeats before (pairs_of c before) first second) RepeatedEntry _ p.1).0
same_step before m l law (Values kind set first second) h =
    by_case (is_used (set_of kind before) set) _
    (λ used.
    let u : Bool = is_used (set_of kind before) set in
    let p = none_else (u && not (all_pairs (is_known_pair (row_names_of before)) first second)) UnknownName _ (none_else (u && not (all_pairs is_pair_numeral first second)) Numeral _ h).1 in
    let k = known_second (row_names_of before) first second (rest_false u (not (all_pairs (is_known_pair (row_names_of before)) first second)) used p.0) in
    values_follow before m l kind set first second law used k.0 k.1 (rest_false u (repeats before (pairs_in kind before) first second) used (none_else (u && repeats before (pairs_in kind before) first second) RepeatedEntry _ p.1).0))
    (λ unused. values_skipped before m l kind set first second law unused)
same_step before m l law (BoundLine kind set column numeral) h =
    by_case (is_used (bound_set_of before) set) _
    (λ used.
    let u : Bool = is_used (bound_set_of before) set in
    let p = none_else (u && not (is_among column (column_names_of before))) UnknownName _ (none_else (u && (has_numeral kind && not (is_numeral numeral))) Numeral _ h).1 in
    bound_follows before m l kind set column numeral law used (kept_true (is_among column (column_names_of before)) (rest_false u (not (is_among column (column_names_of before))) used p.0)))
    (λ unused. bound_skipped before m l kind set column numeral law unused)
same_step before m l law UntypedBound h = (refl, law)

outcome_same : (kind : Option MpsKind) (ends : Bool) (n : ℕ) (r x y : Reading) → (kind ≡ None → x ≡ y) → outcome kind ends n r x ≡ outcome kind ends n r y
outcome_same (Some kind) ends n r x y h = refl
outcome_same None true n r x y h = refl
outcome_same None false n r x y h = h refl

runs : (lines : List (List ℕ)) (number : ℕ) (before : List Form) (m : List Mark) (l : List ℕ) → IsLawful before m → run (draft_of before m l) number lines ≡ judge number before lines
runs [] number before m l law = refl
runs (line ∷ rest) number before m l law =
    let form : Form = form_of (section_of before) (has_sense_line_of before) line in
    let d : Draft = draft_of before m l in
    ap (λ k. outcome k (is_end form) number (Read (draft_model d)) (run (after d form) (number + 1) rest)) (same_kind before m l law form)
    ∙ outcome_same (kind_of before form) (is_end form) number (Read (model_of before)) (run (after d form) (number + 1) rest) (judge (number + 1) (form ∷ before) rest)
    (λ allowed.
    let next : Follows before m l form = same_step before m l law form allowed in
    ap (λ x. run x (number + 1) rest) next.0 ∙ runs rest (number + 1) (form ∷ before) (after d form).marks (after d form).latest next.1)

-- from the first line on
pub begins : (d : Draft) (bytes : List ℕ) → d ≡ first_draft → run d 1 (lines_of bytes) ≡ reading bytes
begins d bytes is = ap (λ e. run e 1 (lines_of bytes)) is ∙ runs (lines_of bytes) 1 [] [] [] first_lawful
