use Rattle.std.proofs.Common.{◌≡◌, ◌∙◌, ℕ, ◌+◌, ◌<◌, ◌≤◌, ◌^◌, List, [], ◌∷◌, ◌++◌, length, get_or, take, set, ℤ, pos, ◌+ℤ◌, ◌≤ℤ◌, unsigned_abs, sum_by, All, refl, sym, ap, ap₂, subst, arith, length-set, le_trans, mul-le-mul_left}
use Rattle.std.specs.Int.{int_max}
use Rattle.std.proofs.lemmas.Int.{ints}
use Rattle.std.proofs.lemmas.List.Elements.{All-append, All-weaker}
use Rattle.std.proofs.lemmas.List.Sums.{sum_by-cons}
use Rattle.ip_core.specs.Numbers.{int_at}
use Rattle.ip_core.specs.Sides.{Sides, HasNoEmpty, reach}
use Rattle.ip_core.specs.Boxes.{IsWithin, IsWithinReach, greatest_activity, greatest_part}
use Rattle.ip_core.proofs.Reaching.{row_ready}
use Rattle.ip_core.specs.Rows.{IsReady, IsRow, AreRows, AreTerms, term_width}
use Rattle.ip_core.specs.declared.model.ModelParts.{ModelParts}
use Rattle.ip_core.specs.declared.row.Row.{Row}
use Rattle.ip_core.specs.declared.row.Term.{Term}
use Rattle.ip_core.proofs.BoxParts.{greatest_part_small}
use Rattle.ip_core.proofs.IntSums.{unsigned_abs_between, unsigned_abs-int_sum_by}
use Rattle.ip_core.proofs.NarrowerBoxes.{set_keeps}
use Rattle.row_propagate.specs.declared.activities.Activities.{Activities}
use Rattle.row_propagate.specs.Kept.{coefs_at, entries, moved_by, with_ends, AreColumns, AreSums, AreKeepable, IsKept, IsMove, IsMovable}
use Rattle.row_propagate.specs.Moves.{AreEntries, AreNarrowMoves, StaySmall, HaveTerms}
use Rattle.row_propagate.specs.Replay.{no_row}
use Rattle.row_propagate.proofs.Transposing.{coefs_of_column, entries_known}
use Rattle.row_propagate.proofs.Moving.{Reach, part_size, narrow_move, moved_small, front_size, coefs_size, entry_size, activity_moved}

-- rows of a model have terms of its columns
pub rows_terms : (n : ℕ) (root : Sides) (rows : List Row) → AreRows n root rows → HaveTerms n rows
rows_terms n root rows valid = record { each = All-weaker (IsRow n root) (λ (row : Row). AreTerms n row.terms) (λ row h. h.terms) rows valid.each }

-- the rows and the cuts together
pub both_rows : (n : ℕ) (root : Sides) (rows cuts : List Row) → AreRows n root rows → AreRows n root cuts → AreRows n root (rows ++ cuts)
both_rows n root rows cuts first second = record { each = All-append (IsRow n root) rows cuts first.each second.each }

-- an end of a column between those of the root box
end_within : (root : Sides) (j : ℕ) (z : ℤ) → int_at root.lows j ≤ℤ z → z ≤ℤ int_at root.highs j → unsigned_abs z ≤ reach root j
end_within root j z above below = omega (arith, unsigned_abs_between (int_at root.lows j) z (int_at root.highs j) above below)

-- how far the ends of a move reach
move_reach : (m : ModelParts) (s : Sides) (j : ℕ) (low high new_low new_high : ℤ) → IsWithinReach m.root s → IsMove m s j low high new_low new_high → Reach (reach m.root j) low high new_low new_high
move_reach m s j low high new_low new_high within move = record {
  to_low = subst (λ z. unsigned_abs z ≤ reach m.root j) move.from_low (within.lows j);
  to_high = subst (λ z. unsigned_abs z ≤ reach m.root j) move.from_high (within.highs j);
  to_new_low = end_within m.root j new_low move.above (omega (arith, ints, move.ordered, move.below));
  to_new_high = end_within m.root j new_high (omega (arith, ints, move.above, move.ordered)) move.below;
}

-- the column that is kept
pub kept_column : (m : ModelParts) (cuts : List Row) (s : Sides) (a : Activities) (j : ℕ) → IsKept m cuts s a → j < length m.cols → get_or a.columns j [] ≡ entries j 0 (m.rows ++ cuts)
kept_column m cuts s a j kept known = kept.columns.each j known

-- the sizes of a column's coefficients in a row stay within the greatest width
column_size : (m : ModelParts) (cuts : List Row) (s : Sides) (j k : ℕ) (d : Row) → AreKeepable m cuts s → k < length (m.rows ++ cuts) → sum_by (part_size (reach m.root j)) (coefs_at k (entries j 0 (m.rows ++ cuts))) ≤ 2 ^ 50
column_size m cuts s j k d fit known =
    let all = m.rows ++ cuts in
    let row = get_or all k d in
    let valid : IsRow (length m.cols) m.root row = (both_rows (length m.cols) m.root m.rows cuts fit.of_rows fit.of_cuts).each k d known in
    rw (coefs_of_column j all k d known) (omega (arith, coefs_size m.root j row.terms, valid.narrow))

-- so do the products of its entries with the ends of a move
pub narrow_moves : (m : ModelParts) (cuts : List Row) (s : Sides) (j : ℕ) (low high new_low new_high : ℤ) (d : Row) → AreKeepable m cuts s → IsMove m s j low high new_low new_high → AreNarrowMoves low high new_low new_high (entries j 0 (m.rows ++ cuts))
narrow_moves m cuts s j low high new_low new_high d fit move =
    let all = m.rows ++ cuts in
    let column = entries j 0 all in
    record {
      each = λ i t within.
          narrow_move (reach m.root j) low high new_low new_high (get_or column i t).coef (move_reach m s j low high new_low new_high fit.reach move)
          (le_trans (entry_size (reach m.root j) column i t within) (column_size m cuts s j (get_or column i t).col d fit ((entries_known j all).each i t within)));
    }

sum_small : (s : Sides) (terms : List Term) → unsigned_abs (greatest_activity s terms) ≤ sum_by (term_width s) terms
sum_small s terms = unsigned_abs-int_sum_by (λ (t : Term). greatest_part s t) (term_width s) terms (λ k d h. greatest_part_small s (get_or terms k d))

three_small : (a b : ℤ) (m n : ℕ) → unsigned_abs a ≤ 2 ^ 50 → unsigned_abs b ≤ n + n → n ≤ m → m ≤ 2 ^ 50 → unsigned_abs (a +ℤ b) ≤ 2 ^ 52
three_small a b m n first second less most = omega (arith, ints)

-- and so do the sums while they change
pub stay_small : (m : ModelParts) (cuts : List Row) (s : Sides) (sums : List ℤ) (j : ℕ) (low high new_low new_high : ℤ) (d : Row) → AreKeepable m cuts s → AreSums (m.rows ++ cuts) s sums → IsMove m s j low high new_low new_high → StaySmall low high new_low new_high sums (entries j 0 (m.rows ++ cuts))
stay_small m cuts s sums j low high new_low new_high d fit kept move =
    let all = m.rows ++ cuts in
    let column = entries j 0 all in
    let r = reach m.root j in
    record {
      each = λ i k within.
          let known : k < length all = omega (arith, within, kept.one_each) in
          let row = get_or all k d in
          let valid : IsRow (length m.cols) m.root row = (both_rows (length m.cols) m.root m.rows cuts fit.of_rows fit.of_cuts).each k d known in
          let ready : IsReady s row = row_ready (length m.cols) m.root s row fit.box fit.reach valid in
          let sum : unsigned_abs (int_at sums k) ≤ 2 ^ 50 = rw (kept.each k d known) (omega (arith, sum_small s row.terms, ready.narrow)) in
          three_small (int_at sums k) (moved_by low high new_low new_high (coefs_at k (take i column))) (sum_by (part_size r) (coefs_at k column)) (sum_by (part_size r) (coefs_at k (take i column)))
          sum (moved_small r low high new_low new_high (coefs_at k (take i column)) (move_reach m s j low high new_low new_high fit.reach move))
          (front_size r k i column) (column_size m cuts s j k d fit known);
    }

within_set : (root : Sides) (xs : List ℤ) (j : ℕ) (z : ℤ) → ((k : ℕ) → unsigned_abs (int_at xs k) ≤ reach root k) → unsigned_abs z ≤ reach root j → (k : ℕ) → unsigned_abs (int_at (set xs j z) k) ≤ reach root k
within_set root xs j z within small k = set_keeps (λ v. unsigned_abs v ≤ reach root k) xs j z k (within k) (λ same. subst (λ i. unsigned_abs z ≤ reach root i) (sym same) small)

-- the box with other ends reaches no further than the root box
pub ends_within_reach : (m : ModelParts) (s : Sides) (j : ℕ) (low high new_low new_high : ℤ) → IsWithinReach m.root s → IsMove m s j low high new_low new_high → IsWithinReach m.root (with_ends s j new_low new_high)
ends_within_reach m s j low high new_low new_high within move =
    let ends = move_reach m s j low high new_low new_high within move in
    record {
      columns = length-set s.lows j new_low ∙ within.columns;
      lows = within_set m.root s.lows j new_low within.lows ends.to_new_low;
      highs = within_set m.root s.highs j new_high within.highs ends.to_new_high;
    }

-- the sums that have changed by a column's entries are those of the box with other ends
pub sums_moved : (m : ModelParts) (cuts : List Row) (s : Sides) (j : ℕ) (low high new_low new_high : ℤ) (old new : List ℤ) → AreKeepable m cuts s → AreSums (m.rows ++ cuts) s old → IsMove m s j low high new_low new_high → length new ≡ length old → ((k : ℕ) → k < length old → int_at new k ≡ int_at old k +ℤ moved_by low high new_low new_high (coefs_at k (entries j 0 (m.rows ++ cuts)))) → AreSums (m.rows ++ cuts) (with_ends s j new_low new_high) new
sums_moved m cuts s j low high new_low new_high old new fit kept move long changed =
    let all = m.rows ++ cuts in
    record {
      one_each = long ∙ kept.one_each;
      each = λ k d known.
          let terms = (get_or all k d).terms in
          let of_lows : j < length s.lows = omega (arith, move.known, fit.box, fit.reach.columns) in
          let of_highs : j < length s.highs = omega (arith, of_lows, fit.paired) in
          let moved : greatest_activity (with_ends s j new_low new_high) terms ≡ greatest_activity s terms +ℤ moved_by low high new_low new_high (coefs_at j terms) = activity_moved s j new_low new_high terms of_lows of_highs ∙ ap₂ (λ a b. greatest_activity s terms +ℤ moved_by a b new_low new_high (coefs_at j terms)) move.from_low move.from_high in
          changed k (omega (arith, known, kept.one_each)) ∙ ap₂ (λ a cs. a +ℤ moved_by low high new_low new_high cs) (kept.each k d known) (coefs_of_column j all k d known) ∙ sym moved;
    }

-- what is kept after a move
pub kept_moved : (m : ModelParts) (cuts : List Row) (s : Sides) (j : ℕ) (low high new_low new_high : ℤ) (old new : Activities) → IsKept m cuts s old → IsMove m s j low high new_low new_high → new.columns ≡ old.columns → length new.sums ≡ length old.sums → ((k : ℕ) → k < length old.sums → int_at new.sums k ≡ int_at old.sums k +ℤ moved_by low high new_low new_high (coefs_at k (get_or old.columns j []))) → IsKept m cuts (with_ends s j new_low new_high) new
kept_moved m cuts s j low high new_low new_high old new kept move columns long changed = record {
  fit = record { of_rows = kept.fit.of_rows; of_cuts = kept.fit.of_cuts; box = kept.fit.box; paired = length-set s.highs j new_high ∙ kept.fit.paired ∙ sym (length-set s.lows j new_low); reach = ends_within_reach m s j low high new_low new_high kept.fit.reach move };
  sums = sums_moved m cuts s j low high new_low new_high old.sums new.sums kept.fit kept.sums move long (λ k known. changed k known ∙ ap (λ es. int_at old.sums k +ℤ moved_by low high new_low new_high (coefs_at k es)) (kept_column m cuts s old j kept move.known));
  columns = subst (AreColumns (length m.cols) (m.rows ++ cuts)) (sym columns) kept.columns;
}

-- what a move asks of the column's entries
pub movable_entries : (a : Activities) (j : ℕ) (low high new_low new_high : ℤ) → IsMovable a j low high new_low new_high → AreEntries (length a.sums) (get_or a.columns j [])
movable_entries a j low high new_low new_high w =
    let column = kept_column w.model w.cuts w.sides a j w.kept w.move.known in
    subst (AreEntries (length a.sums)) (sym column) (subst (λ n. AreEntries n (entries j 0 (w.model.rows ++ w.cuts))) (sym w.kept.sums.one_each) (entries_known j (w.model.rows ++ w.cuts)))

pub movable_narrow : (a : Activities) (j : ℕ) (low high new_low new_high : ℤ) → IsMovable a j low high new_low new_high → AreNarrowMoves low high new_low new_high (get_or a.columns j [])
movable_narrow a j low high new_low new_high w =
    let column = kept_column w.model w.cuts w.sides a j w.kept w.move.known in
    subst (AreNarrowMoves low high new_low new_high) (sym column) (narrow_moves w.model w.cuts w.sides j low high new_low new_high no_row w.kept.fit w.move)

pub movable_small : (a : Activities) (j : ℕ) (low high new_low new_high : ℤ) → IsMovable a j low high new_low new_high → StaySmall low high new_low new_high a.sums (get_or a.columns j [])
movable_small a j low high new_low new_high w =
    let column = kept_column w.model w.cuts w.sides a j w.kept w.move.known in
    subst (StaySmall low high new_low new_high a.sums) (sym column) (stay_small w.model w.cuts w.sides a.sums j low high new_low new_high no_row w.kept.fit w.kept.sums w.move)

-- a column may go from its ends in one box to its ends in another within the root box
pub move_to : (m : ModelParts) (s t : Sides) (j : ℕ) (low high new_low new_high : ℤ) → length m.root.lows ≡ length m.cols → j < length m.cols → HasNoEmpty s → length s.lows ≡ length m.cols → low ≡ int_at s.lows j → high ≡ int_at s.highs j → IsWithin m.root t → HasNoEmpty t → new_low ≡ int_at t.lows j → new_high ≡ int_at t.highs j → IsMove m s j low high new_low new_high
move_to m s t j low high new_low new_high box known solid columns from_low from_high within narrow to_low to_high =
    let there : j < length t.lows = omega (arith, known, box, within.as_many_lows) in
    record {
      known = known;
      from_low = sym from_low;
      from_high = sym from_high;
      uncrossed = omega (arith, ints, from_low, from_high, (solid.all j (omega (arith, known, columns))).ordered);
      above = omega (arith, ints, to_low, within.lows j there);
      ordered = omega (arith, ints, to_low, to_high, (narrow.all j there).ordered);
      below = omega (arith, ints, to_high, within.highs j there);
    }

-- what is kept may go where its box's column may
pub movable : (m : ModelParts) (cuts : List Row) (s : Sides) (a : Activities) (j : ℕ) (low high new_low new_high : ℤ) → IsKept m cuts s a → IsMove m s j low high new_low new_high → IsMovable a j low high new_low new_high
movable m cuts s a j low high new_low new_high kept move = record { model = m; cuts = cuts; sides = s; kept = kept; move = move }
