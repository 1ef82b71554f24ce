use Rattle.std.proofs.Common.{◌≡◌, ◌≢◌, ◌∙◌, ℕ, zero, suc, ◌+◌, ◌<◌, ◌≤◌, ◌==◌, Bool, true, false, cond, List, [], ◌∷◌, length, get_or, drop, map, ℤ, pos, ◌-◌, ◌+ℤ◌, ◌-ℤ◌, ◌*ℤ◌, ◌≤ℤ◌, ◌<ℤ◌, int_lt, Option, Some, None, refl, sym, ap, ap₂, subst, arith, unsigned_abs, le_trans}
use Rattle.std.specs.Int.{int_max}
use Rattle.std.specs.List.Sorted.{IsStrictlyIncreasing}
use Rattle.std.proofs.lemmas.Bool.{cond-true, cond-false}
use Rattle.std.proofs.Math.Seq.{drop-length}
use Rattle.std.proofs.lemmas.Int.{ints, clamps}
use Rattle.ip_core.specs.Numbers.{int_at}
use Rattle.ip_core.specs.Sides.{Sides}
use Rattle.ip_core.specs.Boxes.{greatest_activity, greatest_part}
use Rattle.ip_core.specs.Rows.{coefficient}
use Rattle.ip_core.specs.Quotients.{ceiling_quotient, floor_quotient}
use Rattle.ip_core.specs.declared.row.Row.{Row}
use Rattle.ip_core.specs.declared.row.Term.{Term}
use Rattle.ip_core.specs.declared.row_ref.RowRef.{RowRef}
use Rattle.ip_core.specs.declared.leaf.Tighten.{Tighten}
use Rattle.ip_core.proofs.Quotients.{ceiling_quotient-le, le-floor_quotient_negative}
use Rattle.row_propagate.specs.declared.narrowing.Narrowing.{Narrowing}
use Rattle.row_propagate.specs.declared.narrowing.Narrowing.TheVariants.{Low, High}
use Rattle.row_propagate.specs.Rounding.{narrower_low, narrower_high, rounded_bound, narrower_bound, remainder}
use Rattle.row_propagate.specs.Passes.{open_run, run_of, go_on, after_bound, after_column, after_columns, after_row}
use Rattle.row_propagate.specs.Quiet.{IsLoose, IsQuiet, room_of}
use Rattle.row_propagate.proofs.Going.{columns_next}
use Rattle.row_propagate.proofs.Own.{remainder_at, coefficient_at}

not_above : (a b : ℤ) → b ≤ℤ a → int_lt a b ≡ false
not_above a b le = grind (arith, ints)

greater_less : (a b room : ℤ) → (a -ℤ b) ≤ℤ room → (b -ℤ a) ≤ℤ room → (int_max b a -ℤ room) ≤ℤ b
greater_less a b room first second = grind (arith, ints, clamps)

greater_less_other : (a b room : ℤ) → (a -ℤ b) ≤ℤ room → (b -ℤ a) ≤ℤ room → (int_max b a -ℤ room) ≤ℤ a
greater_less_other a b room first second = grind (arith, ints, clamps)

rounded_cases : (s : Sides) (col : ℕ) (left coef : ℤ) (above below : Bool) → int_lt (pos 0) coef ≡ above → int_lt coef (pos 0) ≡ below → left ≤ℤ (coef *ℤ int_at s.lows col) → left ≤ℤ (coef *ℤ int_at s.highs col) → cond above (narrower_low s col (ceiling_quotient left coef)) (cond below (narrower_high s col (floor_quotient left coef)) None) ≡ None
rounded_cases s col left coef true below is_above is_below by_low by_high =
    cond-false _ _ _ (not_above (int_at s.lows col) (ceiling_quotient left coef) (ceiling_quotient-le left coef (int_at s.lows col) (omega (arith, ints, is_above)) by_low))
rounded_cases s col left coef false true is_above is_below by_low by_high =
    cond-false _ _ _ (not_above (floor_quotient left coef) (int_at s.highs col) (le-floor_quotient_negative left coef (int_at s.highs col) (omega (arith, ints, is_below)) by_high))
rounded_cases s col left coef false false is_above is_below by_low by_high = refl

rounded_none : (s : Sides) (col : ℕ) (left coef : ℤ) → left ≤ℤ (coef *ℤ int_at s.lows col) → left ≤ℤ (coef *ℤ int_at s.highs col) → rounded_bound s col left coef ≡ None
rounded_none s col left coef by_low by_high = rounded_cases s col left coef _ _ refl refl by_low by_high

-- a loose term's column gets no narrower bound
pub loose_none : (s : Sides) (row : Row) (i : ℕ) (d : Term) → IsStrictlyIncreasing (map (λ t. t.col) row.terms) → i < length row.terms → IsLoose s (room_of s row) (get_or row.terms i d) → narrower_bound row s (get_or row.terms i d).col ≡ None
loose_none s row i d rising known loose =
    let t = get_or row.terms i d in
    let less = greater_less (t.coef *ℤ int_at s.highs t.col) (t.coef *ℤ int_at s.lows t.col) (room_of s row) loose.high loose.low in
    let less_other = greater_less_other (t.coef *ℤ int_at s.highs t.col) (t.coef *ℤ int_at s.lows t.col) (room_of s row) loose.high loose.low in
    ap₂ (λ left coef. rounded_bound s t.col left coef) (remainder_at s row i d rising known) (coefficient_at row i d rising known)
    ∙ rounded_none s t.col (greatest_part s t -ℤ room_of s row) t.coef less less_other

-- a column without a narrower bound is passed over
pub columns_skip : (name : RowRef) (row : Row) (terms : List Term) (s : Sides) (steps : List Tighten) (start n : ℕ) (d : Term) → start + n ≤ length terms → ((i : ℕ) → start ≤ i → i < start + n → narrower_bound row s (get_or terms i d).col ≡ None) → after_columns name row (drop start terms) (open_run s steps) ≡ after_columns name row (drop (start + n) terms) (open_run s steps)
columns_skip name row terms s steps start zero d within none = let same : start ≡ start + 0 = omega arith in ap (λ k. after_columns name row (drop k terms) (open_run s steps)) same
columns_skip name row terms s steps start (suc n) d within none =
    let here : narrower_bound row s (get_or terms start d).col ≡ None = none start (omega arith) (omega arith) in
    let moved : start + 1 + n ≡ start + suc n = omega arith in
    columns_next name row terms start d (open_run s steps) (omega (arith, within))
    ∙ ap (λ b. go_on (after_bound name (get_or terms start d).col (open_run s steps) b) (after_columns name row (drop (start + 1) terms))) here
    ∙ columns_skip name row terms s steps (start + 1) n d (omega (arith, within)) (λ i from below. none i (omega (arith, from)) (omega (arith, below)))
    ∙ ap (λ k. after_columns name row (drop k terms) (open_run s steps)) moved

-- from one place to a later one
pub columns_to : (name : RowRef) (row : Row) (terms : List Term) (s : Sides) (steps : List Tighten) (start stop : ℕ) (d : Term) → start ≤ stop → stop ≤ length terms → ((i : ℕ) → start ≤ i → i < stop → narrower_bound row s (get_or terms i d).col ≡ None) → after_columns name row (drop start terms) (open_run s steps) ≡ after_columns name row (drop stop terms) (open_run s steps)
columns_to name row terms s steps start stop d order within none =
    let there : start + (stop - start) ≡ stop = omega (arith, order) in
    columns_skip name row terms s steps start (stop - start) d (omega (arith, order, within)) (λ i from below. none i from (omega (arith, below, order)))
    ∙ ap (λ k. after_columns name row (drop k terms) (open_run s steps)) there

-- a quiet row is passed over
pub quiet_row : (name : RowRef) (row : Row) (s : Sides) (steps : List Tighten) (d : Term) → IsQuiet s row → after_row name row (open_run s steps) ≡ open_run s steps
quiet_row name row s steps d quiet =
    cond-false _ _ _ quiet.holds
    ∙ columns_to name row row.terms s steps 0 (length row.terms) d (omega arith) (omega arith) (λ i from below. quiet.none i d below)
    ∙ ap (λ ts. after_columns name row ts (open_run s steps)) (drop-length row.terms)
