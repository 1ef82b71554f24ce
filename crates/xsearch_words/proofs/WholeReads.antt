-- A reader that is read up to one byte more than it is to have.
use Rattle.std.proofs.Common.{◌≡◌, ◌∙◌, ℕ, ◌≤◌, ◌<◌, List, ◌++◌, length, take, Option, Some, None, [], length-take, sym, ap, subst, arith}
use Rattle.std.specs.Prelude.{IfSome}
use Rattle.std.proofs.lemmas.List.{append-nil, take-append-drop}
use Rattle.std.proofs.Math.ListN.{drop_of_length-le}
use Rattle.std.specs.Option.{option_map}

whole_list : (limit : ℕ) (left bytes : List ℕ) → bytes ≡ take limit left → length bytes < limit → bytes ≡ left
whole_list limit left bytes same few =
    let short : length left ≤ limit = let e : length bytes ≡ length (take limit left) = ap length same in omega (arith, e, length-take limit left) in
    same ∙ (sym (append-nil (take limit left)) ∙ (ap (λ (z : List ℕ). take limit left ++ z) (sym (drop_of_length-le left short)) ∙ take-append-drop limit left))

whole_front : (limit : ℕ) (known : Option (List ℕ)) (front bytes : List ℕ) → IfSome (option_map (take limit) known) (λ xs. bytes ≡ front ++ xs) → front ≡ [] → length bytes < limit → IfSome known (λ left. bytes ≡ left)
whole_front limit None front bytes same none few = tt
whole_front limit (Some left) front bytes same none few = whole_list limit left bytes (same ∙ ap (λ (z : List ℕ). z ++ take limit left) none) few

-- where fewer bytes came than were asked for, they are all
pub whole_read : (limit : ℕ) (known other : Option (List ℕ)) (front bytes : List ℕ) → IfSome (option_map (take limit) known) (λ xs. bytes ≡ front ++ xs) → front ≡ [] → known ≡ other → length bytes < limit → IfSome other (λ left. bytes ≡ left)
whole_read limit known other front bytes same none is few = subst (λ o. IfSome o (λ left. bytes ≡ left)) is (whole_front limit known front bytes same none few)
