use Rattle.std.proofs.Common.{◌≡◌, ◌∙◌, ℕ, zero, suc, ◌+◌, ◌-◌, ◌*◌, ◌^◌, ◌<◌, ◌≤◌, ◌⊎◌, inl, inr, min, Bool, true, false, List, [], ◌∷◌, length, replicate, get_or, set, ℤ, pos, ◌+ℤ◌, ◌-ℤ◌, ◌*ℤ◌, ◌≤ℤ◌, ◌<ℤ◌, refl, sym, ap, subst, arith, add-one, mul-add, mul-one, mul-le-mul_left}
use Rattle.std.proofs.lemmas.Int.{ints}
use Rattle.std.proofs.lemmas.Bool.{cases_lt, false_from_ne_true}
use Rattle.std.proofs.lemmas.List.{length-set, length-append, length-replicate, get_or-set_other, get_or-replicate, get_or_past}
use Rattle.std.proofs.lemmas.Slice.Eq.{bytes_eq-Decides}
use Rattle.ip_core.specs.Sides.{Sides}
use Rattle.ip_core.specs.Rows.{activity, AreRows}
use Rattle.ip_core.specs.Boxes.{least_value}
use Rattle.ip_core.specs.Models.{IsModel}
use Rattle.ip_core.specs.Truth.{value_at}
use Rattle.ip_core.specs.declared.model.ModelParts.{ModelParts}
use Rattle.ip_core.specs.declared.row.Row.{Row}
use Rattle.ip_core.proofs.Products.{mul_pos-le}
use Rattle.safe_bound.specs.declared.limits.TheConstants.{MAX_MULTIPLIER}
use Rattle.safe_bound.specs.Weights.{weighted_sum}
use Rattle.safe_bound.specs.Bounds.{all_rows, row_of, numerator}
use Rattle.safe_bound.proofs.LeastValues.{le-ceiling, numerator-none}
use Rattle.safe_bound.proofs.PointBoxes.{least_value_of_point, numerator_of_point}
use Rattle.safe_bound.proofs.Safety.{rows_known}
use Rattle.safe_bound.proofs.Weighted.{AreKnown, weighted_sum-set}
use Rattle.dual_ascent.specs.Climbs.{Climb}
use Rattle.dual_ascent.specs.Climbs.{after_row, after_rows, after_round, after_rounds, is_same, next_multiplier}
use Rattle.dual_ascent.specs.Ascents.{ascent, first_climb, greatest_size}
use Rattle.dual_ascent.specs.Laws.{IsFailing, FailingPointIsPassed}
use Rattle.dual_ascent.proofs.Choices.{next_holds, row_takes_first_greatest}
use Rattle.dual_ascent.proofs.Climbing.{no_row_lowers, rows-le}
use Rattle.dual_ascent.proofs.Rounds.{ascent_is, after_rounds_none, after_rounds_more}

-- a list of n multipliers is worth more by at least what that of row i is raised by
pub record IsRising (worth : List ℕ → ℤ) (n i : ℕ) : Type 0 where
  pub by : (ys : List ℕ) (t : ℕ) → length ys ≡ n → (worth ys +ℤ pos t) ≤ℤ worth (set ys i (get_or ys i 0 + t))

set_keeps_natural : (P : ℕ → Type 0) (xs : List ℕ) (i v j : ℕ) → P (get_or xs j 0) → (j ≡ i → P v) → P (get_or (set xs i v) j 0)
set_keeps_natural P [] i v j before here = before
set_keeps_natural P (x ∷ xs) zero v zero before here = here refl
set_keeps_natural P (x ∷ xs) zero v (suc j) before here = before
set_keeps_natural P (x ∷ xs) (suc i) v zero before here = before
set_keeps_natural P (x ∷ xs) (suc i) v (suc j) before here = set_keeps_natural P xs i v j before (λ e. here (ap suc e))

rows_long : (worth : List ℕ → ℤ) (size : ℕ) (ys : List ℕ) (n : ℕ) → length (after_rows worth size ys n) ≡ length ys
unfolding after_rows
rows_long worth size ys zero = refl
rows_long worth size ys (suc n) = length-set (after_rows worth size ys n) n (next_multiplier worth size (after_rows worth size ys n) n) ∙ rows_long worth size ys n

rows_later : (worth : List ℕ → ℤ) (size : ℕ) (ys : List ℕ) (n p : ℕ) → n ≤ p → get_or (after_rows worth size ys n) p 0 ≡ get_or ys p 0
unfolding after_rows
rows_later worth size ys zero p later = refl
rows_later worth size ys (suc n) p later =
    get_or-set_other (after_rows worth size ys n) n p (next_multiplier worth size (after_rows worth size ys n) n) 0 (λ e. omega arith) ∙ rows_later worth size ys n p (omega arith)

next_raised : (worth : List ℕ → ℤ) (size : ℕ) (ys : List ℕ) (i : ℕ) → next_multiplier worth size ys i ≤ get_or ys i 0 + size
next_raised worth size ys i = next_holds (λ y. y ≤ get_or ys i 0 + size) worth size ys i (omega arith) (omega arith) (omega arith) (omega arith)

-- in a round no multiplier rises by more than the step size
rows_raised : (worth : List ℕ → ℤ) (size : ℕ) (ys : List ℕ) (n p : ℕ) → get_or (after_rows worth size ys n) p 0 ≤ get_or ys p 0 + size
unfolding after_rows
rows_raised worth size ys zero p = omega arith
rows_raised worth size ys (suc n) p =
    let now = after_rows worth size ys n in
    let step : next_multiplier worth size now n ≤ get_or ys n 0 + size = rw (← rows_later worth size ys n n (omega arith)) (next_raised worth size now n) in
    set_keeps_natural (λ y. y ≤ get_or ys p 0 + size) now n (next_multiplier worth size now n) p (rows_raised worth size ys n p) (λ e. rw e step)

-- the multiplier that a row takes is worth no less than the raised one
raised_taken : (worth : List ℕ → ℤ) (size : ℕ) (ys : List ℕ) (i : ℕ) → get_or ys i 0 + size ≤ MAX_MULTIPLIER → worth (set ys i (get_or ys i 0 + size)) ≤ℤ worth (after_row worth size ys i)
raised_taken worth size ys i room =
    let up : min (get_or ys i 0 + size) MAX_MULTIPLIER ≡ get_or ys i 0 + size = omega arith in
    let best = (row_takes_first_greatest worth size ys i).greatest 1 (omega arith) in
    subst (λ y. worth (set ys i y) ≤ℤ worth (after_row worth size ys i)) up best

chain : (a b c d : ℤ) (t : ℕ) → a ≤ℤ b → (b +ℤ pos t) ≤ℤ c → c ≤ℤ d → (a +ℤ pos t) ≤ℤ d
chain a b c d t first second third = omega (arith, ints)

rise_on : (a b c : ℤ) → a ≤ℤ b → b ≤ℤ c → a ≤ℤ c
rise_on a b c first second = omega (arith, ints)

rows_rise_cases : (worth : List ℕ → ℤ) (size : ℕ) (ys : List ℕ) (i n : ℕ) → IsRising worth (length ys) i → get_or ys i 0 + size ≤ MAX_MULTIPLIER → (i < n → (worth ys +ℤ pos size) ≤ℤ worth (after_rows worth size ys n)) → (i < n) ⊎ (n ≤ i) → i < suc n → (worth ys +ℤ pos size) ≤ℤ worth (after_row worth size (after_rows worth size ys n) n)
rows_rise_cases worth size ys i n rising room before (inl earlier) within =
    rise_on _ _ _ (before earlier) (no_row_lowers worth size (after_rows worth size ys n) n)
rows_rise_cases worth size ys i n rising room before (inr here) within =
    let same : n ≡ i = omega arith in
    let now = after_rows worth size ys i in
    let own : get_or now i 0 ≡ get_or ys i 0 = rows_later worth size ys i i (omega arith) in
    let here_room : get_or now i 0 + size ≤ MAX_MULTIPLIER = rw own room in
    rw same (chain (worth ys) (worth now) (worth (set now i (get_or now i 0 + size))) (worth (after_row worth size now i)) size (rows-le worth size ys i) (rising.by now size (rows_long worth size ys i)) (raised_taken worth size now i here_room))

-- so a round raises the worth by at least the step size
rows_rise : (worth : List ℕ → ℤ) (size : ℕ) (ys : List ℕ) (i n : ℕ) → IsRising worth (length ys) i → get_or ys i 0 + size ≤ MAX_MULTIPLIER → i < n → (worth ys +ℤ pos size) ≤ℤ worth (after_rows worth size ys n)
unfolding after_rows
rows_rise worth size ys i zero rising room within = absurd (omega arith)
rows_rise worth size ys i (suc n) rising room within = rows_rise_cases worth size ys i n rising room (rows_rise worth size ys i n rising room) (cases_lt i n) within

greater_differs : (worth : List ℕ → ℤ) (xs ys : List ℕ) (t : ℕ) → 0 < t → (worth xs +ℤ pos t) ≤ℤ worth ys → xs ≡ ys → ⊥
greater_differs worth xs ys t some more same =
    let equal : worth xs ≡ worth ys = ap worth same in
    omega (arith, ints)

-- a round that raises the worth keeps the step size
round_keeps_step : (worth : List ℕ → ℤ) (c : Climb) → is_same c.mults (after_rows worth c.step_size c.mults (length c.mults)) ≡ false → (after_round worth c).step_size ≡ c.step_size
unfolding after_round
round_keeps_step worth c changed = rw changed refl

round_mults : (worth : List ℕ → ℤ) (c : Climb) → (after_round worth c).mults ≡ after_rows worth c.step_size c.mults (length c.mults)
unfolding after_round
round_mults worth c = refl

times_more : (s k : ℕ) → s * suc k ≡ s * k + s
times_more s k = rw (← add-one k, mul-add, mul-one) refl

added : (a b z : ℤ) (x y t : ℕ) → t ≡ y + x → (a +ℤ pos x) ≤ℤ b → (b +ℤ pos y) ≤ℤ z → (a +ℤ pos t) ≤ℤ z
added a b z x y t parts first second = omega (arith, ints)

-- while a raise pays and the greatest multiplier is far, each round raises the worth by the step size
rounds_rise : (worth : List ℕ → ℤ) (n i size : ℕ) → IsRising worth n i → i < n → 0 < size → size * 64 ≤ MAX_MULTIPLIER → (left k : ℕ) (c : Climb) → k + left ≡ 64 → c.step_size ≡ size → length c.mults ≡ n → ((p : ℕ) → get_or c.mults p 0 ≤ size * k) → (worth c.mults +ℤ pos (size * left)) ≤ℤ worth (after_rounds worth left c).mults
rounds_rise worth n i size rising known some room zero k c whole step long low =
    rw (after_rounds_none worth c) (omega (arith, ints))
rounds_rise worth n i size rising known some room (suc left) k c whole step long low =
    let next = after_round worth c in
    let rows = after_rows worth size c.mults (length c.mults) in
    let mults : next.mults ≡ rows = round_mults worth c ∙ ap (λ z. after_rows worth z c.mults (length c.mults)) step in
    let far : size * suc k ≤ size * 64 = mul-le-mul_left size (omega arith) in
    let near : get_or c.mults i 0 + size ≤ MAX_MULTIPLIER = omega (arith, low i, times_more size k) in
    let inside : i < length c.mults = omega arith in
    let rise : (worth c.mults +ℤ pos size) ≤ℤ worth rows = rows_rise worth size c.mults i (length c.mults) (rw long rising) near inside in
    let changed : is_same c.mults (after_rows worth c.step_size c.mults (length c.mults)) ≡ false = rw step (false_from_ne_true (is_same c.mults rows) (λ e. greater_differs worth c.mults rows size some rise ((bytes_eq-Decides c.mults rows).0 e))) in
    let next_step : next.step_size ≡ size = round_keeps_step worth c changed ∙ step in
    let next_long : length next.mults ≡ n = ap length mults ∙ rows_long worth size c.mults (length c.mults) ∙ long in
    let next_low : (p : ℕ) → get_or next.mults p 0 ≤ size * suc k = λ p. rw mults (omega (arith, rows_raised worth size c.mults (length c.mults) p, low p, times_more size k)) in
    let rest = rounds_rise worth n i size rising known some room left (suc k) next (omega arith) next_step next_long next_low in
    let stepped : c.step_size ≡ 0 → ⊥ = λ e. omega arith in
    rw (after_rounds_more worth left c stepped) (added (worth c.mults) (worth next.mults) (worth (after_rounds worth left next).mults) size (size * left) (size * suc left) (times_more size left) (rw mults rise) rest)

factor_rises : (t : ℕ) (d : ℤ) → pos 0 <ℤ d → pos t ≤ℤ (pos t *ℤ d)
factor_rises t d some = omega (arith, ints, mul_pos-le t (pos 1) d (omega (arith, ints)))

rise_by : (v w d worth_ys worth_set : ℤ) (y t : ℕ) → worth_ys ≡ v +ℤ w → worth_set ≡ v +ℤ (w +ℤ ((pos (y + t) -ℤ pos y) *ℤ d)) → pos 0 <ℤ d → (worth_ys +ℤ pos t) ≤ℤ worth_set
rise_by v w d worth_ys worth_set y t before after some =
    let change : pos (y + t) -ℤ pos y ≡ pos t = omega (arith, ints) in
    let there : worth_set ≡ v +ℤ (w +ℤ (pos t *ℤ d)) = rw change at after in
    omega (arith, ints, factor_rises t d some)

lacking : (least active : ℤ) → active <ℤ least → pos 0 <ℤ (least -ℤ active)
lacking least active below = omega (arith, ints)

-- on the box of a point that fails row k, raising the multiplier of that row pays
point_rises : (m : ModelParts) (cuts : List Row) (s : Sides) (k : ℕ) → IsModel m → AreRows (length m.cols) m.root cuts → s.highs ≡ s.lows → IsFailing m cuts s.lows k → IsRising (numerator m cuts s) (length (all_rows m cuts)) k
point_rises m cuts s k valid cut_rows fixed failing =
    let rows = all_rows m cuts in
    let known : AreKnown (length m.costs) rows = rows_known m cuts valid cut_rows in
    let lack : Row → ℤ = λ row. row.least -ℤ activity s.lows row.terms in
    record {
      by = λ ys t long.
          let y = get_or ys k 0 in
          let many : k < length ys = omega (arith, failing.known) in
          let after = numerator_of_point m cuts s (set ys k (y + t)) fixed known ∙ ap (λ z. (pos 1024 *ℤ value_at m s.lows) +ℤ z) (weighted_sum-set lack rows ys k (y + t) (record { terms = []; least = pos 0 }) failing.known many) in
          rise_by (pos 1024 *ℤ value_at m s.lows) (weighted_sum lack rows ys) (lack (row_of m cuts k)) (numerator m cuts s ys) (numerator m cuts s (set ys k (y + t))) y t (numerator_of_point m cuts s ys fixed known) after (lacking (row_of m cuts k).least (activity s.lows (row_of m cuts k).terms) failing.below);
    }

none_low : (n size p : ℕ) → (p < n) ⊎ (n ≤ p) → get_or (replicate n 0) p 0 ≤ size * 0
none_low n size p (inl within) = rw (get_or-replicate {A = ℕ} n p 0 0 within) (omega arith)
none_low n size p (inr past) = rw (get_or_past {X = ℕ} (replicate n 0) p 0 (rw length-replicate past)) (omega arith)

whole_rise : (v a z : ℤ) (g size : ℕ) → size ≡ 1024 * (g + 1) → a ≡ pos 1024 *ℤ v → (a +ℤ pos (size * 64)) ≤ℤ z → (pos 1024 *ℤ (v +ℤ pos (64 * (g + 1)))) ≤ℤ z
whole_rise v a z g size is_size start rise = omega (arith, ints)

-- the ascent on the box of a point that fails a row
pub failing_point_is_passed : FailingPointIsPassed
failing_point_is_passed m cuts s k valid cut_rows fixed failing small =
    let worth = numerator m cuts s in
    let n = length (all_rows m cuts) in
    let g = greatest_size m.costs in
    let size = 1024 * (g + 1) in
    let first = first_climb m cuts in
    let step : first.step_size ≡ size = omega arith in
    let rise = rounds_rise worth n k size (point_rises m cuts s k valid cut_rows fixed failing) failing.known (omega arith) (omega arith) 64 0 first (omega arith) step (length-replicate n 0) (λ p. none_low n size p (cases_lt p n)) in
    let start : worth first.mults ≡ pos 1024 *ℤ value_at m s.lows = numerator-none m cuts s n ∙ ap (λ z. pos 1024 *ℤ z) (least_value_of_point m s fixed) in
    let whole = whole_rise (value_at m s.lows) (worth first.mults) (worth (after_rounds worth 64 first).mults) g size refl start rise in
    rw (ascent_is m cuts s) (le-ceiling (worth (after_rounds worth 64 first).mults) (value_at m s.lows +ℤ pos (64 * (g + 1))) whole)
