use Rattle.std.proofs.Common.{◌≡◌, ◌∙◌, ℕ, zero, suc, ◌+◌, ◌*◌, ◌<◌, ◌≤◌, max, true, List, [], ◌∷◌, ◌++◌, length, get_or, take, drop, unsigned_abs, refl, sym, ap, subst, arith, add-one}
use Rattle.std.proofs.lemmas.List.{take_more}
use Rattle.std.proofs.lemmas.Bool.{and_parts}
use Rattle.std.proofs.Math.Seq.{drop-cons}
use Rattle.std.proofs.Math.ListN.{drop_of_length-le}
use Rattle.ip_core.specs.Sides.{Sides, reach}
use Rattle.mps_model.specs.declared.model.MpsCol.{MpsCol}
use Rattle.width_admit.specs.Exact.{units, is_whole, are_whole}
use Rattle.width_admit.specs.Admission.{exact_costs}
use Rattle.width_admit.specs.Held.{IsFinest, held_whole, costs_width_from}
use Rattle.width_admit.proofs.Decimals.{finest_both}

-- what holds of the costs of columns, one after the other

costs-append : (xs ys : List MpsCol) → exact_costs (xs ++ ys) ≡ exact_costs xs ++ exact_costs ys
costs-append [] ys = refl
costs-append (x ∷ xs) ys = ap (λ rest. units x.cost ∷ rest) (costs-append xs ys)

-- one more cost of those that are whole from an exponent on
pub finest_cost_more : (cols : List MpsCol) (i : ℕ) (c : MpsCol) (m n : ℕ) → i < length cols → c ≡ get_or cols i c → IsFinest (exact_costs (take i cols)) m → IsFinest (units c.cost ∷ []) n → IsFinest (exact_costs (take (i + 1) cols)) (max m n)
finest_cost_more cols i c m n within read before one =
    let more : exact_costs (take (i + 1) cols) ≡ exact_costs (take i cols) ++ units c.cost ∷ [] =
    ap exact_costs (take_more cols i c within ∙ ap (λ x. take i cols ++ x ∷ []) (sym read)) ∙ costs-append (take i cols) (c ∷ [])
    in
    subst (λ zs. IsFinest zs (max m n)) (sym more) (finest_both (exact_costs (take i cols)) (units c.cost ∷ []) m n before one)

-- where all costs are whole, one of them is
pub cost_whole : (k : ℕ) (cols : List MpsCol) (i : ℕ) (c : MpsCol) → i < length cols → are_whole (exact_costs cols) k ≡ true → is_whole k (units (get_or cols i c).cost) ≡ true
cost_whole k [] i c within all = absurd (omega (arith, within))
cost_whole k (x ∷ xs) zero c within all = (and_parts (is_whole k (units x.cost)) _ all).0
cost_whole k (x ∷ xs) (suc i) c within all = cost_whole k xs i c (omega (arith, within)) (and_parts (is_whole k (units x.cost)) _ all).1

-- one part of a width moves from what is left to what is added up
pub costs_width_step : (box : Sides) (k : ℕ) (cols : List MpsCol) (j : ℕ) (c : MpsCol) (sum all : ℕ) → j < length cols → c ≡ get_or cols j c → sum + costs_width_from box k j (drop j cols) ≡ all
    → (sum + unsigned_abs (held_whole k c.cost) * reach box j) + costs_width_from box k (j + 1) (drop (j + 1) cols) ≡ all
costs_width_step box k cols j c sum all within read before =
    let parted : costs_width_from box k j (drop j cols) ≡ unsigned_abs (held_whole k c.cost) * reach box j + costs_width_from box k (j + 1) (drop (j + 1) cols) =
    ap (costs_width_from box k j) (drop-cons cols j c within ∙ ap (λ x. x ∷ drop (suc j) cols) (sym read))
    ∙ ap (λ i. unsigned_abs (held_whole k c.cost) * reach box j + costs_width_from box k (j + 1) (drop i cols)) (sym (add-one j))
    in
    omega (arith, parted, before)

-- nothing is left past the end
pub costs_width_end : (box : Sides) (k : ℕ) (cols : List MpsCol) (j sum all : ℕ) → length cols ≤ j → sum + costs_width_from box k j (drop j cols) ≡ all → sum ≡ all
costs_width_end box k cols j sum all past before =
    let none : costs_width_from box k j (drop j cols) ≡ 0 = ap (costs_width_from box k j) (drop_of_length-le cols past) in
    omega (arith, none, before)
