use Rattle.std.proofs.Common.{◌≡◌, ◌≢◌, ◌∙◌, ⊎_elim, length-set, ℕ, Bool, true, false, cond, List, [], ◌∷◌, ◌++◌, length, ◌<◌, ℤ, pos, ◌≤ℤ◌, int_lt, Some, None, refl, sym, ap, ap₂, subst, arith}
use Rattle.std.specs.Int.{int_min, int_max}
use Rattle.std.proofs.lemmas.Int.{ints}
use Rattle.std.proofs.lemmas.List.{get_or-set_other}
use Rattle.std.proofs.lemmas.Bool.Decides.{eqb_tells}
use Rattle.ip_core.specs.Numbers.{int_at}
use Rattle.ip_core.specs.Sides.{Sides, HasNoEmpty, with_low, with_high}
use Rattle.ip_core.specs.Boxes.{IsWithin}
use Rattle.ip_core.specs.Rows.{coefficient}
use Rattle.ip_core.specs.Quotients.{ceiling_quotient, floor_quotient}
use Rattle.ip_core.specs.declared.row.Row.{Row}
use Rattle.ip_core.specs.declared.row_ref.RowRef.{RowRef}
use Rattle.ip_core.specs.declared.leaf.Tighten.{Tighten}
use Rattle.ip_core.proofs.NarrowerBoxes.{within_raised, within_lowered}
use Rattle.row_propagate.specs.declared.narrowing.Narrowing.{Narrowing}
use Rattle.row_propagate.specs.declared.narrowing.Narrowing.TheVariants.{Low, High}
use Rattle.row_propagate.specs.declared.outcome.Outcome.TheVariants.{Open, Empty}
use Rattle.row_propagate.specs.Rounding.{narrower_bound, narrower_low, narrower_high, rounded_bound, narrower_box, narrower_box_by, remainder, tight_box, tightening_of}
use Rattle.row_propagate.specs.Passes.{outcome_of_column, is_open}
use Rattle.row_propagate.specs.Replay.{HasRow, IsNamed, replay, row_named}
use Rattle.row_propagate.specs.Lawful.{IsLawfulStep, AreLawfulSteps, IsReplayed}

-- a box with a narrower bound put in lies within the box
pub narrower_box_within : (s : Sides) (col : ℕ) (bound : Narrowing) → IsWithin s (narrower_box s col bound)
narrower_box_within s col (Low low) = within_raised s col low
narrower_box_within s col (High high) = within_lowered s col high

column_open : (b : Bool) (col : ℕ) → cond b (Empty col) Open ≡ Open → b ≡ false
column_open true col same = sym (ap is_open same)
column_open false col same = refl

-- what an open outcome says of the column
pub ordered_at : (s : Sides) (col : ℕ) → outcome_of_column s col ≡ Open → int_at s.lows col ≤ℤ int_at s.highs col
ordered_at s col same =
    let fails : int_lt (int_at s.highs col) (int_at s.lows col) ≡ false = column_open _ col same in
    omega (arith, ints)

-- a number is another, or isn't
pub at_or_apart : {P : Type 0} (k col : ℕ) → (k ≡ col → P) → (k ≢ col → P) → P
at_or_apart k col at apart = ⊎_elim (λ same. at same.1) (λ other. apart other.1) (eqb_tells k col)

-- where its column isn't emptied, it has no empty column
pub narrower_box_solid : (s : Sides) (col : ℕ) (bound : Narrowing) → HasNoEmpty s → outcome_of_column (narrower_box s col bound) col ≡ Open → HasNoEmpty (narrower_box s col bound)
narrower_box_solid s col (Low low) solid same = record {
  all = λ k h. record {
    ordered = at_or_apart k col (λ e. rw e (ordered_at (with_low s col low) col same)) (λ apart. rw (get_or-set_other s.lows col k (int_max (int_at s.lows col) low) (pos 0) apart) (solid.all k (rw length-set at h)).ordered);
  };
}
narrower_box_solid s col (High high) solid same = record {
  all = λ k h. record {
    ordered = at_or_apart k col (λ e. rw e (ordered_at (with_high s col high) col same)) (λ apart. rw (get_or-set_other s.highs col k (int_min (int_at s.highs col) high) (pos 0) apart) (solid.all k h).ordered);
  };
}

-- one more step replayed
pub replay_more : (named : RowRef → Row) (s : Sides) (steps : List Tighten) (step : Tighten) → replay named s (steps ++ step ∷ []) ≡ tight_box (named step.row) (replay named s steps) step.col
replay_more named s [] step = refl
replay_more named s (first ∷ steps) step = replay_more named (tight_box (named first.row) s first.col) steps step

step_replays : (named : RowRef → Row) (name : RowRef) (col : ℕ) (bound : Narrowing) (s : Sides) → tight_box (named (tightening_of name col bound).row) s (tightening_of name col bound).col ≡ tight_box (named name) s col
step_replays named name col (Low low) s = refl
step_replays named name col (High high) s = refl

-- one more lawful step
pub lawful_more : (rows cuts : List Row) (s : Sides) (steps : List Tighten) (step : Tighten) → AreLawfulSteps rows cuts s steps → IsLawfulStep rows cuts (replay (row_named rows cuts) s steps) step → AreLawfulSteps rows cuts s (steps ++ step ∷ [])
lawful_more rows cuts s [] step all last = (last, tt)
lawful_more rows cuts s (first ∷ steps) step all last = (all.0, lawful_more rows cuts (tight_box (row_named rows cuts first.row) s first.col) steps step all.1 last)

-- what a rounded bound says of the coefficient: it isn't 0, and its sign gives the side
record IsSigned (name : RowRef) (col : ℕ) (coef : ℤ) (bound : Narrowing) : Type 0 where
  stands : coef ≢ pos 0
  side : (tightening_of name col bound).low ≡ int_lt (pos 0) coef
  by : (tightening_of name col bound).row ≡ name
  at : (tightening_of name col bound).col ≡ col

-- a choice that gives a bound gives the one that it has
some_only : (b : Bool) (made bound : Narrowing) → cond b (Some made) None ≡ Some bound → made ≡ bound
some_only true made bound same = cc
some_only false made bound same = cc

low_signed : (name : RowRef) (col : ℕ) (coef low : ℤ) → int_lt (pos 0) coef ≡ true → IsSigned name col coef (Low low)
low_signed name col coef low above = record { stands = λ zero. omega (arith, ints, above, zero); side = sym above; by = refl; at = refl }

high_signed : (name : RowRef) (col : ℕ) (coef high : ℤ) → int_lt (pos 0) coef ≡ false → int_lt coef (pos 0) ≡ true → IsSigned name col coef (High high)
high_signed name col coef high above below = record { stands = λ zero. omega (arith, ints, below, zero); side = sym above; by = refl; at = refl }

signed_cases : (name : RowRef) (s : Sides) (col : ℕ) (left coef : ℤ) (bound : Narrowing) (above below : Bool) → int_lt (pos 0) coef ≡ above → int_lt coef (pos 0) ≡ below → cond above (narrower_low s col (ceiling_quotient left coef)) (cond below (narrower_high s col (floor_quotient left coef)) None) ≡ Some bound → IsSigned name col coef bound
signed_cases name s col left coef bound true below is_above is_below some =
    subst (IsSigned name col coef) (some_only _ (Low (ceiling_quotient left coef)) bound some) (low_signed name col coef (ceiling_quotient left coef) is_above)
signed_cases name s col left coef bound false true is_above is_below some =
    subst (IsSigned name col coef) (some_only _ (High (floor_quotient left coef)) bound some) (high_signed name col coef (floor_quotient left coef) is_above is_below)
signed_cases name s col left coef bound false false is_above is_below some = cc

bound_signed : (name : RowRef) (row : Row) (s : Sides) (col : ℕ) (bound : Narrowing) → narrower_bound row s col ≡ Some bound → IsSigned name col (coefficient col row.terms) bound
bound_signed name row s col bound some = signed_cases name s col (remainder s row col) (coefficient col row.terms) bound _ _ refl refl some

-- a real tightening is a lawful step
step_lawful : (rows cuts : List Row) (name : RowRef) (row : Row) (s : Sides) (step : Tighten) (col : ℕ) (bound : Narrowing) → IsNamed rows cuts name row → HasNoEmpty s → col < length s.lows → IsSigned name col (coefficient col row.terms) bound → step ≡ tightening_of name col bound → IsLawfulStep rows cuts s step
step_lawful rows cuts name row s step col bound named solid known signed same =
    let by : step.row ≡ name = ap (λ (t : Tighten). t.row) same ∙ signed.by in
    let at : step.col ≡ col = ap (λ (t : Tighten). t.col) same ∙ signed.at in
    let coef : coefficient step.col (row_named rows cuts step.row).terms ≡ coefficient col row.terms = ap₂ (λ (j : ℕ) (r : Row). coefficient j r.terms) at (ap (row_named rows cuts) by ∙ named.same) in
    record {
      row = subst (HasRow rows cuts) (sym by) named.known;
      col = omega (arith, at, known);
      stands = λ zero. signed.stands (sym coef ∙ zero);
      side = ap (λ (t : Tighten). t.low) same ∙ signed.side ∙ ap (int_lt (pos 0)) (sym coef);
      solid = solid;
    }

-- a real tightening that is listed is replayed
pub step_replay : (rows cuts : List Row) (name : RowRef) (row : Row) (s : Sides) (steps : List Tighten) (col : ℕ) (bound : Narrowing) → IsNamed rows cuts name row → HasNoEmpty s → col < length s.lows → narrower_bound row s col ≡ Some bound → IsReplayed rows cuts s steps (narrower_box s col bound) (steps ++ tightening_of name col bound ∷ [])
step_replay rows cuts name row s steps col bound row_name solid known some =
    let named = row_named rows cuts in
    record {
      from = λ start before. record {
        replays = ap (narrower_box_by s col) (sym some) ∙ ap (λ r. tight_box r s col) (sym row_name.same) ∙ ap (λ b. tight_box (named name) b col) before.replays ∙ sym (step_replays named name col bound (replay named start steps)) ∙ sym (replay_more named start steps (tightening_of name col bound));
        lawful = lawful_more rows cuts start steps (tightening_of name col bound) before.lawful (subst (λ b. IsLawfulStep rows cuts b (tightening_of name col bound)) before.replays (step_lawful rows cuts name row s (tightening_of name col bound) col bound row_name solid known (bound_signed name row s col bound some) refl));
      };
    }
