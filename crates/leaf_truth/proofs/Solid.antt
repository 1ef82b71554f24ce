-- Boxes without empty columns, and how a step changes whether a box is one.
use Rattle.std.proofs.Common.{◌≡◌, ◌≢◌, ◌∙◌, ℕ, zero, suc, ◌<◌, ◌≤◌, ◌⊎◌, inl, inr, Bool, true, false, cond, length, ℤ, ◌≤ℤ◌, int_lt, Option, Some, None, is_none, MatchOption, refl, sym, ap, subst, le_trans, arith}
use Rattle.std.specs.Int.{int_min, int_max}
use Rattle.std.proofs.lemmas.Int.{ints}
use Rattle.std.proofs.lemmas.Bool.{cases_eq, cases_lt}
use Rattle.std.proofs.lemmas.Option.{none-some}
use Rattle.ip_core.specs.Numbers.{int_at}
use Rattle.ip_core.specs.Sides.{Sides, IsOpenAt, IsFirstEmpty, HasNoEmpty}
use Rattle.ip_core.specs.Boxes.{IsWithin}
use Rattle.ip_core.specs.Models.{IsModel}
use Rattle.ip_core.specs.Rows.{AreTerms, IsRow, IsReady}
use Rattle.ip_core.specs.declared.model.ModelParts.{ModelParts}
use Rattle.ip_core.specs.declared.row.Row.{Row}
use Rattle.ip_core.proofs.NarrowerBoxes.{set_keeps, row_width_narrower}
use Rattle.row_propagate.specs.declared.narrowing.Narrowing.{Narrowing}
use Rattle.row_propagate.specs.declared.narrowing.Narrowing.TheVariants.{Low, High}
use Rattle.row_propagate.specs.Rounding.{narrower_bound, narrower_box_by, tight_box}
use Rattle.row_propagate.specs.Passes.{first_or, first_below, first_empty}
use Rattle.row_propagate.proofs.FirstEmpty.{first_empty_none, first_empty_at}
use Rattle.row_propagate.proofs.Replaying.{tight_box_within}
use Rattle.leaf_truth.specs.Steps.{has_no_empty, is_open_at}
use Rattle.leaf_truth.proofs.TestResults.{int_le-from, int_le-true, solid-from}

first_or-none : (a b : Option ℕ) → first_or a b ≡ None → (a ≡ None) × (b ≡ None)
first_or-none None b none = (refl, none)
first_or-none (Some j) b none = absurd (none-some j (sym none))

if-none : (b : Bool) (n : ℕ) → cond b (Some n) None ≡ None → b ≡ false
if-none true n none = absurd (none-some n (sym none))
if-none false n none = refl

is_none-true : (o : Option ℕ) → is_none o ≡ true → o ≡ None
is_none-true None test = refl
is_none-true (Some j) test = cc

last_or_before : (n k : ℕ) (test : ℕ → Bool) → k < suc n → test n ≡ false → (k < n → test k ≡ false) → (k < n) ⊎ (n ≤ k) → test k ≡ false
last_or_before n k test known last before (inl below) = before below
last_or_before n k test known last before (inr above) =
    let same : n ≡ k = omega (arith, known, above) in subst (λ (j : ℕ). test j ≡ false) same last

-- where no number below n is the first that passes, none passes
first_below-none : (n : ℕ) (test : ℕ → Bool) → first_below n test ≡ None → (k : ℕ) → k < n → test k ≡ false
first_below-none zero test none k known = absurd (omega (arith, known))
first_below-none (suc n) test none k known =
    let parts = first_or-none (first_below n test) (cond (test n) (Some n) None) none in
    last_or_before n k test known (if-none (test n) n parts.1) (λ below. first_below-none n test parts.0 k below) (cases_lt k n)

not_crossed : (high low : ℤ) → int_lt high low ≡ false → low ≤ℤ high
not_crossed high low test = first_of (omega (arith, ints, test), grind (arith, ints, test))

-- a box that is solid has no empty column
pub solid_holds : (s : Sides) → has_no_empty s ≡ true → HasNoEmpty s
solid_holds s test = record {
  all = λ k known. record {
    ordered = not_crossed (int_at s.highs k) (int_at s.lows k) (first_below-none (length s.lows) (λ j. int_lt (int_at s.highs j) (int_at s.lows j)) (is_none-true (first_empty s) test) k known);
  };
}

-- the first empty column of a box tells whether it is solid
pub solid_found : (s : Sides) (o : Option ℕ) → MatchOption o (HasNoEmpty s) (λ j. IsFirstEmpty s j) → has_no_empty s ≡ is_none o
solid_found s None solid = ap (λ (o : Option ℕ). is_none o) (first_empty_none s solid)
solid_found s (Some j) first = ap (λ (o : Option ℕ). is_none o) (first_empty_at s j first)

-- a bound for one column leaves the others
ends_apart : (s : Sides) (col : ℕ) (bound : Option Narrowing) (k : ℕ) → k ≢ col → (int_at (narrower_box_by s col bound).lows k ≡ int_at s.lows k) × (int_at (narrower_box_by s col bound).highs k ≡ int_at s.highs k)
ends_apart s col None k differ = (refl, refl)
ends_apart s col (Some (Low low)) k differ =
    (set_keeps (λ (z : ℤ). z ≡ int_at s.lows k) s.lows col (int_max (int_at s.lows col) low) k refl (λ e. absurd (differ e)), refl)
ends_apart s col (Some (High high)) k differ =
    (refl, set_keeps (λ (z : ℤ). z ≡ int_at s.highs k) s.highs col (int_min (int_at s.highs col) high) k refl (λ e. absurd (differ e)))

open_cases : (s : Sides) (col : ℕ) (bound : Option Narrowing) (k : ℕ) → IsOpenAt s k → IsOpenAt (narrower_box_by s col bound) col → (k ≡ col) ⊎ (k ≡ col → ⊥) → IsOpenAt (narrower_box_by s col bound) k
open_cases s col bound k before here (inl same) = subst (IsOpenAt (narrower_box_by s col bound)) (sym same) here
open_cases s col bound k before here (inr differ) =
    let apart = ends_apart s col bound k differ in record { ordered = rw (apart.0, apart.1) before.ordered }

both_ways : (a b : Bool) → (a ≡ true → b ≡ true) → (b ≡ true → a ≡ true) → a ≡ b
both_ways true b forth back = sym (forth refl)
both_ways false true forth back = back refl
both_ways false false forth back = refl

-- after a row's bound for a column, a box that was solid is so where this column isn't empty
pub solid_after : (row : Row) (s : Sides) (col : ℕ) → HasNoEmpty s → col < length s.lows → is_open_at (tight_box row s col) col ≡ has_no_empty (tight_box row s col)
solid_after row s col solid known =
    let next = tight_box row s col in
    let long : length next.lows ≡ length s.lows = (tight_box_within row s col).as_many_lows in
    both_ways (is_open_at next col) (has_no_empty next)
    (λ test. solid-from next (record {
      all = λ k h. open_cases s col (narrower_bound row s col) k (solid.all k (omega (arith, h, long))) (record { ordered = int_le-true (int_at next.lows col) (int_at next.highs col) test }) (cases_eq k col);
    }))
    (λ test. int_le-from (int_at next.lows col) (int_at next.highs col) ((solid_holds next test).all col (omega (arith, known, long))).ordered)

-- a row of the model or a cut is ready for a box within the root box that has no empty column
pub row_ready : (m : ModelParts) (s : Sides) (row : Row) → IsModel m → IsWithin m.root s → HasNoEmpty s → IsRow (length m.cols) m.root row → IsReady s row
row_ready m s row valid within solid known =
    let terms : AreTerms (length s.lows) row.terms = subst (λ (n : ℕ). AreTerms n row.terms) (sym (within.as_many_lows ∙ valid.bounds.box)) known.terms in
    record { terms = terms; narrow = le_trans (row_width_narrower m.root s row within solid terms) known.narrow }
