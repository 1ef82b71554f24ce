-- A certificate is accepted exactly where each of its lines is as it is to be.
use Rattle.std.proofs.Common.{◌≡◌, ◌↔◌, ◌∙◌, ℕ, zero, suc, ◌+◌, ◌<◌, ◌==◌, ◌⊎◌, inl, inr, Bool, true, false, not, ◌&&◌, ◌||◌, List, [], ◌∷◌, length, get_or, ℤ, pos, ◌+ℤ◌, int_le, Option, Some, None, Result, Ok, Err, IsTrue, refl, sym, ap, subst, arith}
use Rattle.std.specs.Ordering.{int_eq}
use Rattle.std.specs.List.{list_all}
use Rattle.std.proofs.lemmas.Bool.{and_from, and_parts, cond-true, eqb-true, eq-eqb}
use Rattle.std.proofs.lemmas.Bool.Decides.{Decides-int_eq}
use Rattle.std.proofs.lemmas.List.Sums.{AllPass-from_list_all, list_all-from_AllPass}
use Rattle.std.proofs.lemmas.Option.{none-some, same_Some}
use Rattle.ip_core.specs.Numbers.{int_at}
use Rattle.ip_core.specs.Sides.{Sides, IsInside}
use Rattle.ip_core.specs.Rows.{AreMet, activity}
use Rattle.ip_core.specs.Truth.{IsFeasible, value_at}
use Rattle.ip_core.specs.Boxes.{greatest_value}
use Rattle.ip_core.specs.declared.model.ModelParts.{ModelParts}
use Rattle.ip_core.specs.declared.row.Row.{Row}
use Rattle.search_truth.specs.Cover.{HasFeasibleBest}
use Rattle.search_truth.specs.Search.{cutoff_of}
use Rattle.leaf_truth.proofs.TestResults.{int_le-from, int_le-true}
use Rattle.tree_cert.specs.declared.certificate.Certificate.{Certificate}
use Rattle.cert_check.specs.Nodes.{reason_unless, or_else, on_line, nodes_fault}
use Rattle.cert_check.specs.Verdicts.{all_below, is_between, is_in_root, is_met, size_reason, value_reason, point_reason, cut_rows, tree_fault, IsAccepted, IsFaultless, AcceptedIsFaultless}
use Rattle.cert_check.specs.declared.verdict.Why.{Why}
use Rattle.cert_check.specs.declared.verdict.Why.TheVariants.{Size, PointValue, PointBounds, PointRow, CutDerivation}
use Rattle.cert_check.proofs.CutRows.{derived_by, rows_of}

split_last : (j n : ℕ) → j < suc n → (j < n) ⊎ (n ≡ j)
split_last j n known = grind arith

below_cases : (n : ℕ) (test : ℕ → Bool) (j : ℕ) → test n ≡ true → (j < n → test j ≡ true) → (j < n) ⊎ (n ≡ j) → test j ≡ true
below_cases n test j last before (inl below) = before below
below_cases n test j last before (inr same) = subst (λ (k : ℕ). test k ≡ true) same last

-- each number below n passes where all do
pub all_below-at : (n : ℕ) (test : ℕ → Bool) → all_below n test ≡ true → (j : ℕ) → j < n → test j ≡ true
all_below-at zero test all j known = absurd (omega (arith, known))
all_below-at (suc n) test all j known =
    let parts = and_parts (all_below n test) (test n) all in
    below_cases n test j parts.1 (all_below-at n test parts.0 j) (split_last j n known)

-- and all do where each does
pub all_below-from : (n : ℕ) (test : ℕ → Bool) → ((j : ℕ) → j < n → test j ≡ true) → all_below n test ≡ true
all_below-from zero test each = refl
all_below-from (suc n) test each = and_from (all_below n test) (test n) (all_below-from n test (λ j h. each j (omega (arith, h)))) (each n (omega arith))

not_all : (n : ℕ) (test : ℕ → Bool) (j : ℕ) → j < n → test j ≡ false → (b : Bool) → all_below n test ≡ b → b ≡ false
not_all n test j known fails true all = sym (all_below-at n test all j known) ∙ fails
not_all n test j known fails false all = refl

-- where one doesn't pass, not all do
pub all_below-false : (n : ℕ) (test : ℕ → Bool) (j : ℕ) → j < n → test j ≡ false → all_below n test ≡ false
all_below-false n test j known fails = not_all n test j known fails (all_below n test) refl

-- a point whose columns lie between the ends of a box lies in it
pub inside-true : (s : Sides) (x : List ℤ) → all_below (length x) (is_between s x) ≡ true → IsInside s x
inside-true s x test = record {
  above = λ j h.
      let parts = and_parts (int_le (int_at s.lows j) (int_at x j)) (int_le (int_at x j) (int_at s.highs j)) (all_below-at (length x) (is_between s x) test j h) in
      int_le-true (int_at s.lows j) (int_at x j) parts.0;
  below = λ j h.
      let parts = and_parts (int_le (int_at s.lows j) (int_at x j)) (int_le (int_at x j) (int_at s.highs j)) (all_below-at (length x) (is_between s x) test j h) in
      int_le-true (int_at x j) (int_at s.highs j) parts.1;
}

pub inside-from : (s : Sides) (x : List ℤ) → IsInside s x → all_below (length x) (is_between s x) ≡ true
inside-from s x inside = all_below-from (length x) (is_between s x) (λ j h.
    and_from (int_le (int_at s.lows j) (int_at x j)) (int_le (int_at x j) (int_at s.highs j)) (int_le-from (int_at s.lows j) (int_at x j) (inside.above j h)) (int_le-from (int_at x j) (int_at s.highs j) (inside.below j h)))

-- rows that pass the test are met, and the other way round
pub rows_met-true : (x : List ℤ) (rows : List Row) → list_all (is_met x) rows ≡ true → AreMet x rows
rows_met-true x rows test = record {
  each = λ k d h. record { reached = int_le-true (get_or rows k d).least (activity x (get_or rows k d).terms) (AllPass-from_list_all (is_met x) rows test k d h) };
}

pub rows_met-from : (x : List ℤ) (rows : List Row) → AreMet x rows → list_all (is_met x) rows ≡ true
rows_met-from x rows met = list_all-from_AllPass (is_met x) rows (λ k d h.
    int_le-from (get_or rows k d).least (activity x (get_or rows k d).terms) (met.each k d h).reached)

-- of two parts without a fault neither has one
pub both_none : {A : Type 0} (first second : Option A) → or_else first second ≡ None → (first ≡ None) × (second ≡ None)
both_none None second none = (refl, none)
both_none (Some a) second none = absurd (none-some a (sym none))

pub none_both : {A : Type 0} (first second : Option A) → first ≡ None → second ≡ None → or_else first second ≡ None
none_both first second one two = rw (one, two) refl

pub line_none : (line : ℕ) (why : Option Why) → on_line line why ≡ None → why ≡ None
line_none line None none = refl
line_none line (Some why) none = absurd (none-some (record { line = line; why = why }) (sym none))

none_line : (line : ℕ) (why : Option Why) → why ≡ None → on_line line why ≡ None
none_line line why none = rw none refl

-- a test that passes leaves no reason, and without a reason it passes
pub unless-true : (why : Why) (b : Bool) → reason_unless why b ≡ None → b ≡ true
unless-true why true none = refl
unless-true why false none = absurd (none-some why (sym none))

pub unless-from : (why : Why) (b : Bool) → b ≡ true → reason_unless why b ≡ None
unless-from why b passes = cond-true b None (Some why) passes

unless_not : (a b : Bool) → a ≡ true → (not a || b) ≡ true → b ≡ true
unless_not true b holds either = either
unless_not false true holds either = refl
unless_not false false holds either = holds

or_second : (a b : Bool) → b ≡ true → (a || b) ≡ true
or_second true b holds = refl
or_second false b holds = holds

feasible_point : (m : ModelParts) (x : List ℤ) → is_in_root m x ≡ true → list_all (is_met x) m.rows ≡ true → IsFeasible m x
feasible_point m x inside met =
    let parts = and_parts (length x == length m.cols) (all_below (length x) (is_between m.root x)) inside in
    record { one_each = eqb-true (length x) (length m.cols) parts.0; inside = inside-true m.root x parts.1; rows_met = rows_met-true x m.rows met }

-- what the test of a point says
pub in_root_length : (m : ModelParts) (x : List ℤ) → is_in_root m x ≡ true → length x ≡ length m.cols
in_root_length m x test = eqb-true (length x) (length m.cols) (and_parts (length x == length m.cols) (all_below (length x) (is_between m.root x)) test).0

pub in_root_inside : (m : ModelParts) (x : List ℤ) → is_in_root m x ≡ true → IsInside m.root x
in_root_inside m x test = inside-true m.root x (and_parts (length x == length m.cols) (all_below (length x) (is_between m.root x)) test).1

both_ways : (a b : Bool) → (a ≡ true → b ≡ true) → (b ≡ true → a ≡ true) → a ≡ b
both_ways true b forth back = sym (forth refl)
both_ways false true forth back = back refl
both_ways false false forth back = refl

-- a point of the root box is feasible exactly where it meets the rows
pub rows_tested : (m : ModelParts) (x : List ℤ) (b : Bool) → is_in_root m x ≡ true → (IsTrue b ↔ IsFeasible m x) → b ≡ list_all (is_met x) m.rows
rows_tested m x b inside feasible =
    both_ways b (list_all (is_met x) m.rows) (λ holds. rows_met-from x m.rows (feasible.0 holds).rows_met) (λ test. feasible.1 (feasible_point m x inside test))

point_in_root : (m : ModelParts) (x : List ℤ) → IsFeasible m x → is_in_root m x ≡ true
point_in_root m x feasible =
    and_from (length x == length m.cols) (all_below (length x) (is_between m.root x)) (eq-eqb (length x) (length m.cols) feasible.one_each) (inside-from m.root x feasible.inside)

answer-true : (m : ModelParts) (v : ℤ) (point : Option (List ℤ)) → value_reason m v point ≡ None → point_reason m point ≡ None → (v ≡ cutoff_of m point) × HasFeasibleBest m point
answer-true m v None value point = (
  (Decides-int_eq v (greatest_value m m.root +ℤ pos 1)).0 (unless-true PointValue (int_eq v (greatest_value m m.root +ℤ pos 1)) value),
  record { each = λ x is. absurd (none-some x is) },
)
answer-true m v (Some x) value point =
    let both = both_none (reason_unless PointBounds (is_in_root m x)) (reason_unless PointRow (list_all (is_met x) m.rows)) point in
    let inside = unless-true PointBounds (is_in_root m x) both.0 in
    let met = unless-true PointRow (list_all (is_met x) m.rows) both.1 in (
      (Decides-int_eq v (value_at m x)).0 (unless_not (is_in_root m x) (int_eq v (value_at m x)) inside (unless-true PointValue (not (is_in_root m x) || int_eq v (value_at m x)) value)),
      record { each = λ y is. subst (IsFeasible m) (same_Some x y is) (feasible_point m x inside met) },
    )

answer-from : (m : ModelParts) (v : ℤ) (point : Option (List ℤ)) → v ≡ cutoff_of m point → HasFeasibleBest m point → (value_reason m v point ≡ None) × (point_reason m point ≡ None)
answer-from m v None value best = (
  unless-from PointValue (int_eq v (greatest_value m m.root +ℤ pos 1)) ((Decides-int_eq v (greatest_value m m.root +ℤ pos 1)).1 value),
  refl,
)
answer-from m v (Some x) value best =
    let feasible = best.each x refl in (
      unless-from PointValue (not (is_in_root m x) || int_eq v (value_at m x)) (or_second (not (is_in_root m x)) (int_eq v (value_at m x)) ((Decides-int_eq v (value_at m x)).1 value)),
      none_both (reason_unless PointBounds (is_in_root m x)) (reason_unless PointRow (list_all (is_met x) m.rows)) (unless-from PointBounds (is_in_root m x) (point_in_root m x feasible)) (unless-from PointRow (list_all (is_met x) m.rows) (rows_met-from x m.rows feasible.rows_met)),
    )

-- rows that cuts give, over which no node has a fault
record IsGiven (m : ModelParts) (c : Certificate) (answer : Result (List Row) ℕ) : Type 0 where
  pub rows : List Row
  pub is : answer ≡ Ok rows
  pub nodes : nodes_fault m rows c.value (7 + length c.cuts) (m.root ∷ []) c.nodes ≡ None

given_rows : (m : ModelParts) (c : Certificate) (answer : Result (List Row) ℕ) → tree_fault m c answer ≡ None → IsGiven m c answer
given_rows m c (Ok rows) none = record { rows = rows; is = refl; nodes = none }
given_rows m c (Err line) none = absurd (none-some (record { line = line; why = CutDerivation }) (sym none))

-- each line of an accepted certificate is as it is to be
pub faultless_of : (m : ModelParts) (c : Certificate) → IsAccepted m c → IsFaultless m c
faultless_of m c accepted =
    let tree = tree_fault m c (cut_rows m 6 [] c.cuts) in
    let point = or_else (on_line 4 (point_reason m c.point)) tree in
    let value = or_else (on_line 3 (value_reason m c.value c.point)) point in
    let second = both_none (on_line 2 (size_reason m c)) value accepted.none in
    let third = both_none (on_line 3 (value_reason m c.value c.point)) point second.1 in
    let fourth = both_none (on_line 4 (point_reason m c.point)) tree third.1 in
    let size = and_parts (c.cols == length m.cols) (c.rows == length m.rows) (unless-true Size (c.cols == length m.cols && c.rows == length m.rows) (line_none 2 (size_reason m c) second.0)) in
    let answer = answer-true m c.value c.point (line_none 3 (value_reason m c.value c.point) third.0) (line_none 4 (point_reason m c.point) fourth.0) in
    let given = given_rows m c (cut_rows m 6 [] c.cuts) fourth.1 in
    record {
      cols = eqb-true c.cols (length m.cols) size.0;
      rows = eqb-true c.rows (length m.rows) size.1;
      value = answer.0;
      point = answer.1;
      derived = given.rows;
      cuts = derived_by m 6 c.cuts given.rows given.is;
      nodes = given.nodes;
    }

-- and where each is so, the certificate is accepted
pub accepted_of : (m : ModelParts) (c : Certificate) → IsFaultless m c → IsAccepted m c
accepted_of m c is =
    let tree = tree_fault m c (cut_rows m 6 [] c.cuts) in
    let point = or_else (on_line 4 (point_reason m c.point)) tree in
    let value = or_else (on_line 3 (value_reason m c.value c.point)) point in
    let answer = answer-from m c.value c.point is.value is.point in
    let size = unless-from Size (c.cols == length m.cols && c.rows == length m.rows) (and_from (c.cols == length m.cols) (c.rows == length m.rows) (eq-eqb c.cols (length m.cols) is.cols) (eq-eqb c.rows (length m.rows) is.rows)) in
    let no_fault : tree ≡ None = ap (tree_fault m c) (rows_of m 6 c.cuts is.derived is.cuts) ∙ is.nodes in
    record {
      none = none_both (on_line 2 (size_reason m c)) value (none_line 2 (size_reason m c) size)
          (none_both (on_line 3 (value_reason m c.value c.point)) point (none_line 3 (value_reason m c.value c.point) answer.0)
          (none_both (on_line 4 (point_reason m c.point)) tree (none_line 4 (point_reason m c.point) answer.1) no_fault));
    }

pub accepted_is_faultless : AcceptedIsFaultless
accepted_is_faultless m c = (faultless_of m c, accepted_of m c)
