use Rattle.std.proofs.Common.{◌≡◌, ◌≤ℤ◌, [], ◌∷◌, ℤ, pos, negsuc, Some, None, arith, refl}
use Rattle.std.proofs.lemmas.Int.{ints}
use Rattle.std.proofs.lemmas.List.Elements.{All-nil, All-cons}
use Rattle.ip_core.specs.Sides.{Sides, IsInside}
use Rattle.ip_core.specs.Rows.{IsMet}
use Rattle.ip_core.specs.Models.{IsModel}
use Rattle.ip_core.specs.Truth.{HasNoPoint, IsBest, IsFeasible, value_at}
use Rattle.ip_core.specs.declared.model.ModelParts.{ModelParts}
use Rattle.ip_core.specs.Boxes.{least_value, greatest_value, greatest_activity, IsConflict, cheapest_end}
use Rattle.search_truth.specs.Boxes.{IsClosed, low_child, high_child}
use Rattle.search_truth.specs.Search.{Searched, Closed, Parted, Same, Found, Step, Done, More, start_of, cutoff_of}
use Rattle.ip_core.proofs.SmallModels.{box, double, least_x, single, small_model}
use Rattle.search_truth.proofs.Reasons.{closed_by_conflict_at, closed_by_bound}
use Rattle.search_truth.proofs.Stepping.{step_amid}
use Rattle.search_truth.proofs.Covers.{search_is_true}

-- the least of 2x - 3y in a box
abbrev pair : Sides → ModelParts
pair s = record single { cols = (120 ∷ []) ∷ (121 ∷ []) ∷ []; costs = pos 2 ∷ negsuc 2 ∷ []; root = s; rows = [] }

abbrev square : Sides
square = record { lows = negsuc 0 ∷ pos 1 ∷ []; highs = pos 4 ∷ pos 3 ∷ [] }

least_single : least_value single (box (pos 3) (pos 5)) ≡ pos 3
least_single = refl

greatest_single : greatest_value single (box (pos 3) (pos 5)) ≡ pos 5
greatest_single = refl

-- also where the column is empty
least_empty : least_value single (box (pos 4) (pos 1)) ≡ pos 1
least_empty = refl

activity_low : greatest_activity (box (pos 0) (pos 1)) double.terms ≡ pos 2
activity_low = refl

conflict_low : IsConflict (box (pos 0) (pos 1)) double
conflict_low = record { below = omega (arith, ints) }

low_half : low_child (box (pos 0) (pos 5)) 0 (pos 1) ≡ box (pos 0) (pos 1)
low_half = refl

high_half : high_child (box (pos 0) (pos 5)) 0 (pos 1) ≡ box (pos 2) (pos 5)
high_half = refl

-- a part is never wider than the box
low_beyond : low_child (box (pos 0) (pos 5)) 0 (pos 7) ≡ box (pos 0) (pos 5)
low_beyond = refl

first_cutoff : cutoff_of single None ≡ pos 6
first_cutoff = refl

second_cutoff : cutoff_of single (Some (pos 2 ∷ [])) ≡ pos 2
second_cutoff = refl

-- -2 - 9 and 8 - 3
least_pair : least_value (pair square) square ≡ negsuc 10
least_pair = refl

greatest_pair : greatest_value (pair square) square ≡ pos 5
greatest_pair = refl

end_low : cheapest_end square (pos 2) 0 ≡ negsuc 0
end_low = refl

end_high : cheapest_end square (negsuc 2) 1 ≡ pos 3
end_high = refl

corner_pair : value_at (pair square) (negsuc 0 ∷ pos 3 ∷ []) ≡ negsuc 10
corner_pair = refl

-- x in 0 to 1: the row closes the root box, and no point is feasible
none_low : HasNoPoint (least_x (box (pos 0) (pos 1)) (double ∷ []))
none_low =
    let m = least_x (box (pos 0) (pos 1)) (double ∷ []) in
    let valid : IsModel m = small_model 1 (omega arith) in
    let none : Searched = record { boxes = []; best = None } in
    let closed : IsClosed m (cutoff_of m None) m.root = closed_by_conflict_at m (cutoff_of m None) m.root 0 double valid (omega arith) conflict_low in
    let step : Step m (start_of m) none = step_amid m (start_of m) none [] [] m.root refl (λ c among. among) (λ c among. among) (Closed closed) (Same refl) in
    search_is_true m none valid (More (start_of m) none Done step) refl

inside_two : (low high : ℤ) → low ≤ℤ pos 2 → pos 2 ≤ℤ high → IsInside (box low high) (pos 2 ∷ [])
inside_two low high above below = record {
  above = λ j h. let first : j ≡ 0 = omega arith in rw first above;
  below = λ j h. let first : j ≡ 0 = omega arith in rw first below;
}

-- x in 0 to 5 in three steps: the root box is parted at 1, the row closes its low part, and 2 is found and closes its high part
best_single : IsBest single (pos 2 ∷ [])
best_single =
    let low = box (pos 0) (pos 1) in
    let high = box (pos 2) (pos 5) in
    let valid : IsModel single = small_model 5 (omega arith) in
    let parted : Searched = record { boxes = low ∷ high ∷ []; best = None } in
    let half : Searched = record { boxes = high ∷ []; best = None } in
    let whole : Searched = record { boxes = []; best = Some (pos 2 ∷ []) } in
    let first : Step single (start_of single) parted =
    step_amid single (start_of single) parted [] [] single.root refl (λ c among. absurd (omega (arith, among.1))) (λ c among. absurd (omega (arith, among.1))) (Parted (record { col = 0; at = pos 1; low = (0, omega arith, refl); high = (1, omega arith, refl) })) (Same refl)
    in
    let second : Step single parted half =
    step_amid single parted half [] (high ∷ []) low refl (λ c among. absurd (omega (arith, among.1))) (λ c among. among) (Closed (closed_by_conflict_at single (pos 6) low 0 double valid (omega arith) conflict_low)) (Same refl)
    in
    let feasible : IsFeasible single (pos 2 ∷ []) = record {
      one_each = refl;
      inside = inside_two (pos 0) (pos 5) (omega (arith, ints)) (omega (arith, ints));
      rows_met = record { each = All-cons (IsMet (pos 2 ∷ [])) double [] (record { reached = omega (arith, ints) }) (All-nil (IsMet (pos 2 ∷ []))) };
    } in
    let third : Step single half whole =
    step_amid single half whole [] [] high refl (λ c among. among) (λ c among. among) (Closed (closed_by_bound single (pos 2) high valid (omega (arith, ints)))) (Found (record { point = pos 2 ∷ []; feasible = feasible; below = omega (arith, ints); is = refl }))
    in
    search_is_true single whole valid (More half whole (More parted half (More (start_of single) parted Done first) second) third) refl
