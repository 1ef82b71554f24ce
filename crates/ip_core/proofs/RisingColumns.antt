use Rattle.std.proofs.Common.{◌≡◌, ℕ, zero, suc, ◌+◌, ◌<◌, ◌≤◌, ◌⊎◌, inl, inr, List, length, map, get_or, pos, arith, add-one}
use Rattle.std.specs.List.Sorted.{IsStrictlyIncreasing}
use Rattle.std.proofs.lemmas.Bool.{cases_lt}
use Rattle.std.proofs.lemmas.List.{get_or-map, length-map}
use Rattle.std.proofs.lemmas.List.Elements.{All-weaker}
use Rattle.ip_core.specs.Rows.{AreTerms, IsRow, AreRows, IsShort, AreShort}
use Rattle.ip_core.specs.Sides.{Sides}
use Rattle.ip_core.specs.declared.limits.TheConstants.{MAX_COLUMNS}
use Rattle.ip_core.specs.declared.row.Row.{Row}
use Rattle.ip_core.specs.declared.row.Term.{Term}

-- a number of a rising list is at least its place
pub place-le_rising : (xs : List ℕ) → IsStrictlyIncreasing xs → (k : ℕ) → k < length xs → k ≤ get_or xs k 0
place-le_rising xs rising zero known = omega arith
place-le_rising xs rising (suc k) known =
    let next : get_or xs k 0 < get_or xs (k + 1) 0 = rising k (omega arith) in
    let there : get_or xs k 0 < get_or xs (suc k) 0 = rw add-one at next in
    omega (arith, there, place-le_rising xs rising k (omega arith))

few_cases : (n : ℕ) (terms : List Term) → AreTerms n terms → IsStrictlyIncreasing (map (λ t. t.col) terms) → (n < length terms) ⊎ (length terms ≤ n) → length terms ≤ n
few_cases n terms known rising (inr few) = few
few_cases n terms known rising (inl many) =
    let d : Term = record { col = 0; coef = pos 0 } in
    let place : n ≤ get_or (map (λ (t : Term). t.col) terms) n 0 = place-le_rising (map (λ (t : Term). t.col) terms) rising n (rw length-map many) in
    let col : get_or (map (λ (t : Term). t.col) terms) n 0 ≡ (get_or terms n d).col = get_or-map (λ (t : Term). t.col) terms n d 0 many in
    absurd (omega (arith, place, col, (known.each n d many).known))

-- terms whose columns rise are no more than the columns
pub rising-le_columns : (n : ℕ) (terms : List Term) → AreTerms n terms → IsStrictlyIncreasing (map (λ t. t.col) terms) → length terms ≤ n
rising-le_columns n terms known rising = few_cases n terms known rising (cases_lt n (length terms))

-- a row of a model is short
pub row_short : (n : ℕ) (root : Sides) (row : Row) → n ≤ MAX_COLUMNS → IsRow n root row → IsShort row
row_short n root row few valid = record { few = omega (arith, rising-le_columns n row.terms valid.terms valid.rising, few) }

-- and so are all its rows, and cuts that keep the same limits
pub rows_short : (n : ℕ) (root : Sides) (rows : List Row) → n ≤ MAX_COLUMNS → AreRows n root rows → AreShort rows
rows_short n root rows few valid = record { each = All-weaker (IsRow n root) IsShort (λ row h. row_short n root row few h) rows valid.each }
