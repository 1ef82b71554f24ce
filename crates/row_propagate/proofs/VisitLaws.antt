use Rattle.std.proofs.Common.{◌≡◌, ◌≢◌, ◌∙◌, ℕ, zero, suc, ◌+◌, ◌<◌, ◌≤◌, ◌^◌, Bool, true, false, cond, List, [], ◌∷◌, ◌++◌, length, get_or, take, set, replicate, ℤ, pos, ◌-ℤ◌, ◌≤ℤ◌, ◌<ℤ◌, int_lt, unsigned_abs, sum_by, All, Option, Some, None, refl, sym, ap, ap₂, subst, arith, length-append, length-set, le_trans}
use Rattle.std.proofs.lemmas.Bool.{cond-true, cond-false, false≢true}
use Rattle.std.proofs.lemmas.Int.{ints}
use Rattle.std.proofs.lemmas.List.Sums.{sum_by-cons}
use Rattle.std.proofs.lemmas.List.{get_or-set_same, get_or-set_other, get_or-replicate, get_or_append_left, get_or-append-add, get_or_default, length-replicate}
use Rattle.ip_core.specs.Numbers.{int_at}
use Rattle.ip_core.specs.Sides.{Sides, HasNoEmpty, IsPaired}
use Rattle.ip_core.specs.Boxes.{IsWithin, IsWithinReach, greatest_activity, greatest_part}
use Rattle.ip_core.specs.Rows.{IsRow, AreRows, AreTerms, term_width}
use Rattle.ip_core.specs.declared.model.ModelParts.{ModelParts}
use Rattle.ip_core.specs.declared.row.Row.{Row}
use Rattle.ip_core.specs.declared.row.Term.{Term}
use Rattle.ip_core.specs.Models.{IsModel}
use Rattle.ip_core.specs.declared.row_ref.RowRef.{RowRef}
use Rattle.ip_core.specs.declared.row_ref.RowRef.TheVariants.{Model, Cut}
use Rattle.ip_core.specs.declared.leaf.Tighten.{Tighten}
use Rattle.ip_core.proofs.BoxParts.{coefficient_small, greatest_part_small}
use Rattle.ip_core.proofs.IntSums.{unsigned_abs-int_sum_by}
use Rattle.ip_core.proofs.NarrowerBoxes.{within_both}
use Rattle.row_propagate.specs.declared.activities.Activities.{Activities}
use Rattle.row_propagate.specs.declared.visits.Visits.{Visits}
use Rattle.row_propagate.specs.declared.narrowing.Narrowing.{Narrowing}
use Rattle.row_propagate.specs.declared.outcome.Outcome.TheVariants.{Open, Conflict, Empty}
use Rattle.row_propagate.specs.Rounding.{narrower_bound, narrower_box, remainder, rounded_bound}
use Rattle.row_propagate.specs.Passes.{open_run, run_of, outcome_of_column, after_columns, after_row}
use Rattle.ip_core.specs.Rows.{IsReady}
use Rattle.row_propagate.specs.Replay.{no_row}
use Rattle.row_propagate.specs.Kept.{coefs_at, entries, with_ends, AreColumns, AreKeepable, AreSums, IsKept, IsMove}
use Rattle.row_propagate.specs.Moves.{AreEntries}
use Rattle.row_propagate.specs.Quiet.{AreNarrowTerms, ArePlaced, AreQuiet, HasQuietLeft, IsLoose, IsPassing, IsQuiet, IsRowAt, IsVisitable, no_term, room_of}
use Rattle.row_propagate.proofs.Stepping.{at_or_apart, narrower_box_within, narrower_box_solid}
use Rattle.row_propagate.proofs.Transposing.{coefs_at-more, coefs_of_column, entries_known, none_at}
use Rattle.row_propagate.proofs.Going.{model_naming, cut_naming}
use Rattle.row_propagate.proofs.Movable.{both_rows}
use Rattle.ip_core.proofs.Reaching.{model_within_reach, row_ready}
use Rattle.row_propagate.proofs.Own.{remainder_at, coefficient_at}
use Rattle.row_propagate.proofs.Parts.{remainder_small}
use Rattle.row_propagate.proofs.Loose.{loose_none, columns_to, quiet_row}
use Rattle.row_propagate.proofs.Quieting.{quiet_apart, narrower_box_ends}

-- a row at a place is one of the model's
valid_at : (m : ModelParts) (cuts : List Row) (s : Sides) (v : Visits) (place : ℕ) (name : RowRef) (row : Row) → IsPassing m cuts s v → IsRowAt m cuts place name row → IsRow (length m.cols) m.root row
valid_at m cuts s v place name row passing at =
    subst (IsRow (length m.cols) m.root) (at.same no_row) ((both_rows (length m.cols) m.root m.rows cuts passing.fit.of_rows passing.fit.of_cuts).each place no_row at.known)

pub visitable_at : (m : ModelParts) (cuts : List Row) (s : Sides) (v : Visits) (place : ℕ) (name : RowRef) (row : Row) → IsPassing m cuts s v → IsRowAt m cuts place name row → IsVisitable s row
visitable_at m cuts s v place name row passing at =
    let valid = valid_at m cuts s v place name row passing at in
    record { ready = row_ready (length m.cols) m.root s row passing.fit.box passing.fit.reach valid; rising = valid.rising }

-- its kept sum, and how far that is from 0
pub sum_at : (m : ModelParts) (cuts : List Row) (s : Sides) (v : Visits) (place : ℕ) (name : RowRef) (row : Row) → IsPassing m cuts s v → IsRowAt m cuts place name row → int_at v.activities.sums place ≡ greatest_activity s row.terms
sum_at m cuts s v place name row passing at = passing.sums.each place no_row at.known ∙ ap (λ (r : Row). greatest_activity s r.terms) (at.same no_row)

activity_size : (s : Sides) (terms : List Term) → unsigned_abs (greatest_activity s terms) ≤ sum_by (term_width s) terms
activity_size s terms = unsigned_abs-int_sum_by (λ (t : Term). greatest_part s t) (term_width s) terms (λ k d h. greatest_part_small s (get_or terms k d))

pub sum_narrow : (m : ModelParts) (cuts : List Row) (s : Sides) (v : Visits) (place : ℕ) (name : RowRef) (row : Row) → IsPassing m cuts s v → IsRowAt m cuts place name row → unsigned_abs (int_at v.activities.sums place) ≤ 2 ^ 50
sum_narrow m cuts s v place name row passing at =
    rw (sum_at m cuts s v place name row passing at) (omega (arith, activity_size s row.terms, (visitable_at m cuts s v place name row passing at).ready.narrow))

pub least_narrow : (m : ModelParts) (cuts : List Row) (s : Sides) (v : Visits) (place : ℕ) (name : RowRef) (row : Row) → IsPassing m cuts s v → IsRowAt m cuts place name row → unsigned_abs row.least ≤ 2 ^ 50
least_narrow m cuts s v place name row passing at = omega (arith, (visitable_at m cuts s v place name row passing at).ready.narrow)

pub room_at : (m : ModelParts) (cuts : List Row) (s : Sides) (v : Visits) (place : ℕ) (name : RowRef) (row : Row) (room : ℤ) → IsPassing m cuts s v → IsRowAt m cuts place name row → room ≡ int_at v.activities.sums place -ℤ row.least → room ≡ room_of s row
room_at m cuts s v place name row room passing at same = same ∙ ap (λ z. z -ℤ row.least) (sum_at m cuts s v place name row passing at)

difference_size : (a b : ℤ) (n : ℕ) → unsigned_abs a ≤ n → unsigned_abs b + n ≤ 2 ^ 50 → unsigned_abs (a -ℤ b) ≤ 2 ^ 50
difference_size a b n first second = omega (arith, ints)

pub room_narrow : (s : Sides) (row : Row) → IsReady s row → unsigned_abs (room_of s row) ≤ 2 ^ 50
room_narrow s row ready = difference_size (greatest_activity s row.terms) row.least (sum_by (term_width s) row.terms) (activity_size s row.terms) (omega (arith, ready.narrow))

pub quiet_at : (m : ModelParts) (cuts : List Row) (s : Sides) (v : Visits) (place : ℕ) (name : RowRef) (row : Row) → IsPassing m cuts s v → IsRowAt m cuts place name row → get_or v.quiet place false ≡ true → IsQuiet s row
quiet_at m cuts s v place name row passing at flag = subst (IsQuiet s) (at.same no_row) (passing.quiet.each place no_row at.known flag)

-- a visit to a row that conflicts, and to one that doesn't
pub row_conflicts : (name : RowRef) (row : Row) (s : Sides) (steps : List Tighten) (room : ℤ) → room ≡ room_of s row → room <ℤ pos 0 → run_of s steps (Conflict name) ≡ after_row name row (open_run s steps)
row_conflicts name row s steps room same below =
    let holds : int_lt (greatest_activity s row.terms) row.least ≡ true = grind (arith, ints) in
    sym (cond-true _ _ _ holds)

pub row_holds : (s : Sides) (row : Row) (room : ℤ) → room ≡ room_of s row → pos 0 ≤ℤ room → int_lt (greatest_activity s row.terms) row.least ≡ false
row_holds s row room same above = grind (arith, ints)

pub row_open : (name : RowRef) (row : Row) (s : Sides) (steps : List Tighten) → int_lt (greatest_activity s row.terms) row.least ≡ false → after_row name row (open_run s steps) ≡ after_columns name row row.terms (open_run s steps)
row_open name row s steps holds = cond-false _ _ _ holds

-- where the terms up to a place are loose, their columns get no narrower bound
pub none_before : (s : Sides) (row : Row) (room : ℤ) (start stop : ℕ) → IsVisitable s row → room ≡ room_of s row → stop ≤ length row.terms → ((i : ℕ) → start ≤ i → i < stop → IsLoose s room (get_or row.terms i no_term)) → (i : ℕ) → start ≤ i → i < stop → narrower_bound row s (get_or row.terms i no_term).col ≡ None
none_before s row room start stop visitable same within loose i from below =
    loose_none s row i no_term visitable.rising (omega (arith, below, within)) (subst (λ z. IsLoose s z (get_or row.terms i no_term)) same (loose i from below))

read_other : {A : Type 0} (xs : List A) (i : ℕ) (d e : A) → i < length xs → get_or xs i d ≡ get_or xs i e
read_other xs i d e known = get_or_default xs i d e known

-- where all are, the row is quiet
pub all_loose : (s : Sides) (row : Row) (room : ℤ) (stop : ℕ) → IsVisitable s row → room ≡ room_of s row → pos 0 ≤ℤ room → stop ≡ length row.terms → ((i : ℕ) → 0 ≤ i → i < stop → IsLoose s room (get_or row.terms i no_term)) → IsQuiet s row
all_loose s row room stop visitable same above all loose = record {
  holds = row_holds s row room same above;
  none = λ i d known.
      ap (λ (t : Term). narrower_bound row s t.col) (read_other row.terms i d no_term known) ∙ none_before s row room 0 stop visitable same (omega (arith, all)) loose i (omega arith) (omega (arith, all, known));
}

flag_cases : (rows : List Row) (s : Sides) (flags : List Bool) (place : ℕ) (row : Row) → AreQuiet rows s flags → place < length rows → ((other : Row) → get_or rows place other ≡ row) → IsQuiet s row → (k : ℕ) (other : Row) → k < length rows → get_or (set flags place true) k false ≡ true → IsQuiet s (get_or rows k other)
flag_cases rows s flags place row quiet known same here k other within flag =
    at_or_apart k place
    (λ at. subst (IsQuiet s) (sym (ap (λ i. get_or rows i other) at ∙ same other)) here)
    (λ apart. quiet.each k other within (sym (get_or-set_other flags place k true false apart) ∙ flag))

-- one more quiet row
pub quiet_more : (rows : List Row) (s : Sides) (flags : List Bool) (place : ℕ) (row : Row) → AreQuiet rows s flags → place < length rows → ((other : Row) → get_or rows place other ≡ row) → IsQuiet s row → AreQuiet rows s (set flags place true)
quiet_more rows s flags place row quiet known same here = record { one_each = length-set flags place true ∙ quiet.one_each; each = flag_cases rows s flags place row quiet known same here }

-- and none at the start
pub quiet_none : (rows : List Row) (s : Sides) (flags : List Bool) → flags ≡ replicate (length rows) false → AreQuiet rows s flags
quiet_none rows s flags same = record {
  one_each = ap length same ∙ length-replicate (length rows) false;
  each = λ k other known flag. absurd (false≢true (sym (ap (λ fs. get_or fs k false) same ∙ get_or-replicate (length rows) k false false known) ∙ flag));
}

-- what is kept of the activities, with the columns' entries made
pub passing_kept : (m : ModelParts) (cuts : List Row) (s : Sides) (v : Visits) (a : Activities) → IsPassing m cuts s v → a.sums ≡ v.activities.sums → AreColumns (length m.cols) (m.rows ++ cuts) a.columns → IsKept m cuts s a
passing_kept m cuts s v a passing same columns = record { fit = passing.fit; sums = subst (AreSums (m.rows ++ cuts) s) (sym same) passing.sums; columns = columns }

-- a narrower bound moves a column
pub move_of : (m : ModelParts) (cuts : List Row) (s : Sides) (v : Visits) (col : ℕ) (bound : Narrowing) (low high new_low new_high : ℤ) → IsPassing m cuts s v → col < length m.cols → low ≡ int_at s.lows col → high ≡ int_at s.highs col → new_low ≡ int_at (narrower_box s col bound).lows col → new_high ≡ int_at (narrower_box s col bound).highs col → new_low ≤ℤ new_high → IsMove m s col low high new_low new_high
move_of m cuts s v col bound low high new_low new_high passing known from_low from_high to_low to_high ordered =
    let outer : IsWithin m.root (narrower_box s col bound) = within_both m.root s (narrower_box s col bound) passing.within (narrower_box_within s col bound) in
    let columns : length s.lows ≡ length m.cols = passing.within.as_many_lows ∙ passing.fit.box in
    let there : col < length (narrower_box s col bound).lows = omega (arith, known, columns, (narrower_box_within s col bound).as_many_lows) in
    record {
      known = known;
      from_low = sym from_low;
      from_high = sym from_high;
      uncrossed = omega (arith, ints, from_low, from_high, (passing.solid.all col (omega (arith, known, columns))).ordered);
      above = omega (arith, ints, to_low, outer.lows col there);
      ordered = ordered;
      below = omega (arith, ints, to_high, outer.highs col there);
    }

column_open_here : (s : Sides) (col : ℕ) (low high : ℤ) → low ≡ int_at s.lows col → high ≡ int_at s.highs col → low ≤ℤ high → outcome_of_column s col ≡ Open
column_open_here s col low high at_low at_high ordered =
    let fails : int_lt (int_at s.highs col) (int_at s.lows col) ≡ false = grind (arith, ints) in
    cond-false _ _ _ fails

-- what passes keep after a column has moved
pub passing_moved : (m : ModelParts) (cuts : List Row) (s : Sides) (v new : Visits) (columns : List (List Term)) (col : ℕ) (bound : Narrowing) (new_low new_high : ℤ) → IsPassing m cuts s v → col < length m.cols → new_low ≡ int_at (narrower_box s col bound).lows col → new_high ≡ int_at (narrower_box s col bound).highs col → new_low ≤ℤ new_high → AreColumns (length m.cols) (m.rows ++ cuts) columns → IsKept m cuts (with_ends s col new_low new_high) new.activities → HasQuietLeft (get_or columns col []) v.quiet new.quiet → IsPassing m cuts (narrower_box s col bound) new
passing_moved m cuts s v new columns col bound new_low new_high passing known to_low to_high ordered made kept left =
    let all = m.rows ++ cuts in
    let count : length s.lows ≡ length m.cols = passing.within.as_many_lows ∙ passing.fit.box in
    let of_lows : col < length s.lows = omega (arith, known, count) in
    let of_highs : col < length s.highs = omega (arith, of_lows, passing.fit.paired) in
    let same : narrower_box s col bound ≡ with_ends s col new_low new_high = narrower_box_ends s col bound of_lows of_highs ∙ ap₂ (λ a b. with_ends s col a b) (sym to_low) (sym to_high) in
    record {
      fit = subst (AreKeepable m cuts) (sym same) kept.fit;
      within = within_both m.root s (narrower_box s col bound) passing.within (narrower_box_within s col bound);
      solid = narrower_box_solid s col bound passing.solid (column_open_here (narrower_box s col bound) col new_low new_high to_low to_high ordered);
      sums = subst (λ b. AreSums all b new.activities.sums) (sym same) kept.sums;
      indexed = λ some. kept.columns;
      quiet = record {
        one_each = left.len ∙ passing.quiet.one_each;
        each = λ k other within flag.
            let none : coefs_at col (get_or all k other).terms ≡ [] = sym (ap (coefs_at k) (made.each col known) ∙ coefs_of_column col all k other within) ∙ left.apart k flag in
            subst (λ b. IsQuiet b (get_or all k other)) (sym same) (quiet_apart s col new_low new_high (get_or all k other) of_lows of_highs none (passing.quiet.each k other within (left.was k flag)));
      };
    }

-- before the first entry
pub wake_none : (column : List Term) (flags : List Bool) → HasQuietLeft (take 0 column) flags flags
wake_none column flags = record { len = refl; was = λ k flag. flag; apart = λ k flag. refl }

wake_cases : (column : List Term) (i : ℕ) (d : Term) (old cur : List Bool) → i < length column → (get_or column i d).col < length cur → HasQuietLeft (take i column) old cur → (k : ℕ) → get_or (set cur (get_or column i d).col false) k false ≡ true → (get_or cur k false ≡ true) × (coefs_at k (take (i + 1) column) ≡ [])
wake_cases column i d old cur within known left k flag =
    let t = get_or column i d in
    at_or_apart k t.col
    (λ at. absurd (false≢true (sym (ap (λ j. get_or (set cur t.col false) j false) at ∙ get_or-set_same cur t.col false false known) ∙ flag)))
    (λ apart.
    let was : get_or cur k false ≡ true = sym (get_or-set_other cur t.col k false false apart) ∙ flag in
    (was, coefs_at-more k column i d within ∙ ap₂ (λ xs ys. xs ++ ys) (left.apart k was) (none_at k t (λ at. apart (sym at)))))

-- one more entry
pub wake_more : (column : List Term) (i : ℕ) (d : Term) (old cur new : List Bool) → i < length column → (get_or column i d).col < length cur → new ≡ set cur (get_or column i d).col false → HasQuietLeft (take i column) old cur → HasQuietLeft (take (i + 1) column) old new
wake_more column i d old cur new within known same left = record {
  len = ap length same ∙ length-set cur (get_or column i d).col false ∙ left.len;
  was = λ k flag. left.was k (wake_cases column i d old cur within known left k (sym (ap (λ fs. get_or fs k false) same) ∙ flag)).0;
  apart = λ k flag. (wake_cases column i d old cur within known left k (sym (ap (λ fs. get_or fs k false) same) ∙ flag)).1;
}

item_size : {A : Type 0} (g : A → ℕ) (xs : List A) (i : ℕ) (d : A) → i < length xs → g (get_or xs i d) ≤ sum_by g xs
item_size g [] i d known = absurd (omega (arith, known))
item_size g (x ∷ xs) zero d known = rw (sum_by-cons g x xs) (omega arith)
item_size g (x ∷ xs) (suc i) d known = rw (sum_by-cons g x xs) (omega (arith, item_size g xs i d (omega (arith, known))))

-- each term of a row that is ready is narrow
pub terms_narrow : (s : Sides) (row : Row) → IsReady s row → AreNarrowTerms s row.terms
terms_narrow s row ready = record { each = λ i d known. omega (arith, item_size (term_width s) row.terms i d known, ready.narrow) }

-- one more loose term
pub loose_more : (s : Sides) (room : ℤ) (terms : List Term) (start place : ℕ) → ((i : ℕ) → start ≤ i → i < place → IsLoose s room (get_or terms i no_term)) → IsLoose s room (get_or terms place no_term) → (i : ℕ) → start ≤ i → i < place + 1 → IsLoose s room (get_or terms i no_term)
loose_more s room terms start place before here i from below =
    at_or_apart i place
    (λ at. subst (λ k. IsLoose s room (get_or terms k no_term)) (sym at) here)
    (λ apart. before i from (omega (arith, below, apart)))

-- what a row leaves to a term's column is narrow
pub left_narrow : (s : Sides) (row : Row) (i : ℕ) (d : Term) (left : ℤ) → IsVisitable s row → i < length row.terms → left ≡ greatest_part s (get_or row.terms i d) -ℤ room_of s row → unsigned_abs left ≤ 2 ^ 50
left_narrow s row i d left visitable known same =
    let there : left ≡ remainder s row (get_or row.terms i d).col = same ∙ sym (remainder_at s row i d visitable.rising known) in
    rw there (le_trans (remainder_small s row (get_or row.terms i d).col) visitable.ready.narrow)

pub coef_narrow : (s : Sides) (row : Row) (i : ℕ) (d : Term) → IsVisitable s row → i < length row.terms → unsigned_abs (get_or row.terms i d).coef ≤ 2 ^ 50
coef_narrow s row i d visitable known = le_trans (coefficient_small s (get_or row.terms i d)) ((terms_narrow s row visitable.ready).each i d known)

-- the bound for the column of a term
pub bound_at : (s : Sides) (row : Row) (i : ℕ) (d : Term) (left : ℤ) → IsVisitable s row → i < length row.terms → left ≡ greatest_part s (get_or row.terms i d) -ℤ room_of s row → rounded_bound s (get_or row.terms i d).col left (get_or row.terms i d).coef ≡ narrower_bound row s (get_or row.terms i d).col
bound_at s row i d left visitable known same =
    ap₂ (λ l c. rounded_bound s (get_or row.terms i d).col l c) (same ∙ sym (remainder_at s row i d visitable.rising known)) (sym (coefficient_at row i d visitable.rising known))

-- the column of a row's term is one of the model's, and of the box
pub col_known : (m : ModelParts) (cuts : List Row) (s : Sides) (v : Visits) (place : ℕ) (name : RowRef) (row : Row) (at col : ℕ) → IsPassing m cuts s v → IsRowAt m cuts place name row → at < length row.terms → col ≡ (get_or row.terms at no_term).col → col < length m.cols
col_known m cuts s v place name row at col passing row_at within same =
    omega (arith, same, ((valid_at m cuts s v place name row passing row_at).terms.each at no_term within).known)

pub col_inside : (m : ModelParts) (cuts : List Row) (s : Sides) (v : Visits) (place : ℕ) (name : RowRef) (row : Row) (at col : ℕ) → IsPassing m cuts s v → IsRowAt m cuts place name row → at < length row.terms → col ≡ (get_or row.terms at no_term).col → col < length s.lows
col_inside m cuts s v place name row at col passing row_at within same =
    omega (arith, col_known m cuts s v place name row at col passing row_at within same, passing.within.as_many_lows, passing.fit.box)

-- the entries that have been made
pub made_columns : (m : ModelParts) (cuts : List Row) (count : ℕ) (rows : List Row) (old new : List (List Term)) → count ≡ length m.cols → rows ≡ m.rows → ((0 < length old → AreColumns count (rows ++ cuts) old) → AreColumns count (rows ++ cuts) new) → (0 < length old → AreColumns (length m.cols) (m.rows ++ cuts) old) → AreColumns (length m.cols) (m.rows ++ cuts) new
made_columns m cuts count rows old new same_count same_rows index before =
    let given : 0 < length old → AreColumns count (rows ++ cuts) old = λ some. subst (λ n. AreColumns n (rows ++ cuts) old) (sym same_count) (subst (λ rs. AreColumns (length m.cols) (rs ++ cuts) old) (sym same_rows) (before some)) in
    subst (λ n. AreColumns n (m.rows ++ cuts) new) same_count (subst (λ rs. AreColumns count (rs ++ cuts) new) same_rows (index given))

-- the entries of a column stand in rows that have flags
pub flags_known : (m : ModelParts) (cuts : List Row) (s : Sides) (v : Visits) (columns : List (List Term)) (flags : List Bool) (col : ℕ) → IsPassing m cuts s v → flags ≡ v.quiet → AreColumns (length m.cols) (m.rows ++ cuts) columns → col < length m.cols → AreEntries (length flags) (get_or columns col [])
flags_known m cuts s v columns flags col passing same made known =
    let count : length (m.rows ++ cuts) ≡ length flags = sym (ap length same ∙ passing.quiet.one_each) in
    subst (AreEntries (length flags)) (sym (made.each col known)) (subst (λ n. AreEntries n (entries col 0 (m.rows ++ cuts))) count (entries_known col (m.rows ++ cuts)))

-- what passes keep at the start
pub passing_start : (m : ModelParts) (cuts : List Row) (s : Sides) (v : Visits) → IsModel m → AreRows (length m.cols) m.root cuts → IsWithin m.root s → HasNoEmpty s → AreSums (m.rows ++ cuts) s v.activities.sums → v.activities.columns ≡ [] → v.quiet ≡ replicate (length (m.rows ++ cuts)) false → IsPassing m cuts s v
passing_start m cuts s v valid of_cuts within solid sums columns quiet = record {
  fit = record { of_rows = valid.rows; of_cuts = of_cuts; box = valid.bounds.box; paired = omega (arith, within.as_many_lows, within.as_many_highs, valid.bounds.box, valid.bounds.highs); reach = model_within_reach m s valid within solid };
  within = within;
  solid = solid;
  sums = sums;
  indexed = λ some. absurd (omega (arith, some, ap length columns));
  quiet = quiet_none (m.rows ++ cuts) s v.quiet quiet;
}

-- what passes keep with one more quiet row
pub passing_quiet : (m : ModelParts) (cuts : List Row) (s : Sides) (v : Visits) (place : ℕ) (name : RowRef) (row : Row) → IsPassing m cuts s v → IsRowAt m cuts place name row → IsQuiet s row → IsPassing m cuts s (record v { quiet = set v.quiet place true })
passing_quiet m cuts s v place name row passing at quiet = record {
  fit = passing.fit;
  within = passing.within;
  solid = passing.solid;
  sums = passing.sums;
  indexed = passing.indexed;
  quiet = quiet_more (m.rows ++ cuts) s v.quiet place row passing.quiet at.known at.same quiet;
}

from_zero : (i : ℕ) → 0 + i ≡ i
from_zero i = omega arith

-- the model's rows and the cuts stand at their places
pub model_placed : (m : ModelParts) (cuts rows : List Row) → rows ≡ m.rows → ArePlaced m cuts 0 Model rows
model_placed m cuts rows same = subst (λ rs. ArePlaced m cuts 0 Model rs) (sym same) (record {
  at = λ i other known. record {
    known = omega (arith, known, length-append m.rows cuts);
    same = λ d. ap (λ k. get_or (m.rows ++ cuts) k d) (from_zero i) ∙ get_or_append_left m.rows cuts d i known ∙ get_or_default m.rows i d other known;
    named = (model_naming m.rows cuts).at i other known;
  };
})

pub cuts_placed : (m : ModelParts) (cuts : List Row) (first : ℕ) → first ≡ length m.rows → ArePlaced m cuts first Cut cuts
cuts_placed m cuts first same = record {
  at = λ i other known. record {
    known = omega (arith, known, same, length-append m.rows cuts);
    same = λ d. ap (λ k. get_or (m.rows ++ cuts) (k + i) d) same ∙ get_or-append-add m.rows cuts i d ∙ get_or_default cuts i d other known;
    named = (cut_naming m.rows cuts).at i other known;
  };
}
