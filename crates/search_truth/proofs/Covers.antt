use Rattle.std.proofs.Common.{◌≡◌, ◌∙◌, ◌<◌, ◌⊎◌, inl, inr, List, [], length, ℤ, pos, ◌+ℤ◌, ◌≤ℤ◌, Option, Some, None, refl, sym, ap, subst, arith}
use Rattle.std.proofs.lemmas.Int.{ints}
use Rattle.std.proofs.lemmas.Option.{none-some, same_Some}
use Rattle.ip_core.specs.Numbers.{int_at}
use Rattle.ip_core.specs.Sides.{Sides, IsInside}
use Rattle.ip_core.specs.Models.{IsModel}
use Rattle.ip_core.specs.Truth.{IsFeasible, value_at}
use Rattle.ip_core.specs.declared.model.ModelParts.{ModelParts}
use Rattle.search_truth.specs.Boxes.{low_child, high_child}
use Rattle.search_truth.specs.Search.{Searched, Fate, Kept, Closed, Parted, Improves, Same, Found, Step, Steps, Done, More, IsParted, start_of, cutoff_of, IsTrueAnswer, SearchIsTrue}
use Rattle.search_truth.specs.Cover.{IsCovered, Covers, HasFeasibleBest}
use Rattle.search_truth.proofs.Values.{value_at-le_greatest}
use Rattle.search_truth.proofs.Children.{inside_low_child, inside_high_child}

-- at the beginning the root box covers all
pub covers_start : (m : ModelParts) → Covers m (start_of m)
covers_start m = record {
  each = λ y feasible. inr (record { by = m.root; among = (0, omega arith, refl); inside = feasible.inside });
}

-- the cutoff only falls
pub cutoff_falls : (m : ModelParts) (old new : Option (List ℤ)) → Improves m old new → cutoff_of m new ≤ℤ cutoff_of m old
cutoff_falls m old new (Same same) = rw same (omega (arith, ints))
cutoff_falls m old new (Found found) = rw found.is (omega (arith, ints, found.below))

at_most_or_above : (a b : ℤ) → (a ≤ℤ b) ⊎ ((b +ℤ pos 1) ≤ℤ a)
at_most_or_above a b = grind (arith, ints)

parted_cases : (boxes : List Sides) (s : Sides) (y : List ℤ) (parted : IsParted boxes s) → IsInside s y → (int_at y parted.col ≤ℤ parted.at) ⊎ ((parted.at +ℤ pos 1) ≤ℤ int_at y parted.col) → IsCovered boxes y
parted_cases boxes s y parted inside (inl low) =
    record { by = low_child s parted.col parted.at; among = parted.low; inside = inside_low_child s parted.col parted.at y inside low }
parted_cases boxes s y parted inside (inr high) =
    record { by = high_child s parted.col parted.at; among = parted.high; inside = inside_high_child s parted.col parted.at y inside high }

fate_cases : (m : ModelParts) (cutoff : ℤ) (boxes : List Sides) (s : Sides) (y : List ℤ) → IsFeasible m y → IsInside s y → Fate m cutoff boxes s → (cutoff ≤ℤ value_at m y) ⊎ IsCovered boxes y
fate_cases m cutoff boxes s y feasible inside (Kept among) = inr (record { by = s; among = among; inside = inside })
fate_cases m cutoff boxes s y feasible inside (Closed closed) = inl (closed.none_below y feasible inside)
fate_cases m cutoff boxes s y feasible inside (Parted parted) = inr (parted_cases boxes s y parted inside (at_most_or_above (int_at y parted.col) parted.at))

step_cases : (m : ModelParts) (old new : Searched) (y : List ℤ) → Step m old new → IsFeasible m y → (cutoff_of m old.best ≤ℤ value_at m y) ⊎ IsCovered old.boxes y → (cutoff_of m new.best ≤ℤ value_at m y) ⊎ IsCovered new.boxes y
step_cases m old new y step feasible (inl above) = inl (omega (arith, ints, above, cutoff_falls m old.best new.best step.best))
step_cases m old new y step feasible (inr covered) = fate_cases m (cutoff_of m new.best) new.boxes covered.by y feasible covered.inside (step.fates covered.by covered.among)

-- a step leaves all covered
pub covers_step : (m : ModelParts) (old new : Searched) → Step m old new → Covers m old → Covers m new
covers_step m old new step covers = record { each = λ y feasible. step_cases m old new y step feasible (covers.each y feasible) }

-- and so do any number of steps
pub covers_steps : (m : ModelParts) (start s : Searched) → Covers m start → Steps m start s → Covers m s
covers_steps m start s covers Done = covers
covers_steps m start s covers (More old new steps step) = covers_step m old s step (covers_steps m start old covers steps)

no_point : (m : ModelParts) → HasFeasibleBest m None
no_point m = record { each = λ x is. absurd (none-some x is) }

best_improves : (m : ModelParts) (old new : Option (List ℤ)) → Improves m old new → HasFeasibleBest m old → HasFeasibleBest m new
best_improves m old new (Same same) known = rw same known
best_improves m old new (Found found) known = record { each = λ x is. subst (IsFeasible m) (same_Some found.point x (sym found.is ∙ is)) found.feasible }

-- along a search that began with a feasible best point or with none, the best point is feasible
pub best_steps : (m : ModelParts) (start s : Searched) → HasFeasibleBest m start.best → Steps m start s → HasFeasibleBest m s.best
best_steps m start s known Done = known
best_steps m start s known (More old new steps step) = best_improves m old.best s.best step.best (best_steps m start old known steps)

-- along a search from its beginning the best point is feasible
pub best_feasible : (m : ModelParts) (s : Searched) (x : List ℤ) → Steps m (start_of m) s → s.best ≡ Some x → IsFeasible m x
best_feasible m s x steps is = (best_steps m (start_of m) s (no_point m) steps).each x is

answer_cases : (m : ModelParts) (best : Option (List ℤ)) → IsModel m → HasFeasibleBest m best → ((y : List ℤ) → IsFeasible m y → cutoff_of m best ≤ℤ value_at m y) → IsTrueAnswer m best
answer_cases m None valid known none_below = record { none = λ y feasible. omega (arith, ints, none_below y feasible, value_at-le_greatest m m.root y valid feasible.one_each feasible.inside) }
answer_cases m (Some x) valid known none_below = record { feasible = known.each x refl; least = none_below }

nothing_left : (m : ModelParts) (best : Option (List ℤ)) (boxes : List Sides) (y : List ℤ) → boxes ≡ [] → (cutoff_of m best ≤ℤ value_at m y) ⊎ IsCovered boxes y → cutoff_of m best ≤ℤ value_at m y
nothing_left m best boxes y empty (inl above) = above
nothing_left m best boxes y empty (inr covered) = absurd (let known : covered.among.0 < length boxes = covered.among.1 in omega (arith, known, ap length empty))

-- where no box is left, a cover and a feasible best point are a true answer
pub covered_answer : (m : ModelParts) (s : Searched) → IsModel m → Covers m s → HasFeasibleBest m s.best → s.boxes ≡ [] → IsTrueAnswer m s.best
covered_answer m s valid covers known empty =
    answer_cases m s.best valid known (λ y feasible. nothing_left m s.best s.boxes y empty (covers.each y feasible))

-- whatever the order of its steps, a search with no box left has a true answer
pub search_is_true : SearchIsTrue
search_is_true m s valid steps empty =
    covered_answer m s valid (covers_steps m (start_of m) s (covers_start m) steps) (best_steps m (start_of m) s (no_point m) steps) empty
