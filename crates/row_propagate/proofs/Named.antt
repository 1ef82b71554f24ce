use Rattle.std.proofs.Common.{ℕ, ℤ, ◌<◌, ◌≤◌, ◌⊎◌, inl, inr, List, length, get_or, All, subst, sym, arith}
use Rattle.std.proofs.lemmas.Bool.{cases_lt}
use Rattle.std.proofs.lemmas.Int.{ints}
use Rattle.std.proofs.lemmas.List.{get_or_past}
use Rattle.std.proofs.lemmas.List.Elements.{All-nil, All-weaker}
use Rattle.ip_core.specs.Sides.{Sides}
use Rattle.ip_core.specs.Rows.{IsTerm, AreTerms, IsRow, AreRows, IsMet, AreMet}
use Rattle.ip_core.specs.declared.row.Row.{Row}
use Rattle.ip_core.specs.declared.row_ref.RowRef.{RowRef}
use Rattle.ip_core.specs.declared.row_ref.RowRef.TheVariants.{Model, Cut}
use Rattle.row_propagate.specs.Replay.{no_row, row_named}

read_cases : {A : Type 0} (P : A → Type 0) (xs : List A) (i : ℕ) (d : A) → All P xs → P d → (i < length xs) ⊎ (length xs ≤ i) → P (get_or xs i d)
read_cases P xs i d all other (inl known) = all i d known
read_cases P xs i d all other (inr past) = subst P (sym (get_or_past xs i d past)) other

-- what holds of each item and of the default holds of what is read
read_holds : {A : Type 0} (P : A → Type 0) (xs : List A) (i : ℕ) (d : A) → All P xs → P d → P (get_or xs i d)
read_holds P xs i d all other = read_cases P xs i d all other (cases_lt i (length xs))

-- what holds of all rows and cuts, and of the row that asks nothing, holds of the row of any name
named_holds : (P : Row → Type 0) (rows cuts : List Row) (name : RowRef) → All P rows → All P cuts → P no_row → P (row_named rows cuts name)
named_holds P rows cuts (Model i) of_rows of_cuts none = read_holds P rows i no_row of_rows none
named_holds P rows cuts (Cut i) of_rows of_cuts none = read_holds P cuts i no_row of_cuts none

-- a point that meets all rows and cuts meets the row of any name
pub named_met : (rows cuts : List Row) (name : RowRef) (x : List ℤ) → AreMet x rows → AreMet x cuts → IsMet x (row_named rows cuts name)
named_met rows cuts name x of_rows of_cuts = named_holds (IsMet x) rows cuts name of_rows.each of_cuts.each (record { reached = omega (arith, ints) })

abbrev HasTerms : ℕ → Row → Type 0
HasTerms n row = AreTerms n row.terms

-- the terms of the row of any name are known
pub named_terms : (n : ℕ) (root : Sides) (rows cuts : List Row) (name : RowRef) → AreRows n root rows → AreRows n root cuts → AreTerms n (row_named rows cuts name).terms
named_terms n root rows cuts name of_rows of_cuts =
    named_holds (HasTerms n) rows cuts name (All-weaker (IsRow n root) (HasTerms n) (λ row h. h.terms) rows of_rows.each) (All-weaker (IsRow n root) (HasTerms n) (λ row h. h.terms) cuts of_cuts.each) (record { each = All-nil (IsTerm n) })
