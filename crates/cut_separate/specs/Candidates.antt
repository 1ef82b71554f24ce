-- Which derivations are tried for cuts, and in which order.
use Rattle.std.specs.Prelude.{ℕ, ◌+◌, ◌==◌, Bool, not, ◌&&◌, ◌||◌, if◌then◌else◌, List, [], ◌∷◌, ◌++◌, length, map, nat_lt, nat_le, ℤ, pos, int_lt, int_le, unsigned_abs, sum_by}
use Rattle.std.specs.Ordering.{int_eq}
use Rattle.std.specs.List.{filter, list_any}
use Rattle.ip_core.specs.Numbers.{int_at}
use Rattle.ip_core.specs.Sides.{Sides}
use Rattle.ip_core.specs.declared.model.ModelParts.{ModelParts}
use Rattle.ip_core.specs.declared.row.Row.{Row}
use Rattle.ip_core.specs.declared.row.Term.{Term}
use Rattle.ip_core.specs.declared.row_ref.RowRef.{RowRef}
use Rattle.ip_core.specs.declared.row_ref.RowRef.TheVariants.{Model, Cut}
use Rattle.ip_core.specs.declared.leaf.Pair.{Pair}
use Rattle.ip_core.specs.declared.derivation.Derivation.{Derivation}
use Rattle.ip_core.specs.declared.derivation.Derivation.TheVariants.{Gomory, Cover}
use Rattle.leaf_truth.specs.Multipliers.{pairs_of}
use Rattle.cut_derive.specs.Gomory.{is_count}
use Rattle.cut_derive.specs.Covers.{is_binary, slack}
use Rattle.cut_derive.specs.Chosen.{weight_of}
use Rattle.cut_separate.specs.declared.source.RowSource.{RowSource}
use Rattle.cut_separate.specs.declared.source.RowSource.TheVariants.{ModelRows, CutRows}
use Rattle.cut_separate.specs.declared.limits.TheConstants.{MAX_DIVISORS}

-- the rows of the model, or the cuts
abbrev pub rows_of : RowSource → ModelParts → List Row → List Row
rows_of ModelRows m cuts = m.rows
rows_of CutRows m cuts = cuts

-- the name of the row at a place of these
abbrev pub name_of : RowSource → ℕ → RowRef
name_of ModelRows place = Model place
name_of CutRows place = Cut place

-- the derivations that `f` gives for rows, which are named from a place on
abbrev pub by_rows : (RowRef → Row → List Derivation) → RowSource → ℕ → List Row → List Derivation
by_rows f source place [] = []
by_rows f source place (row ∷ rows) =
    f (name_of source place) row ++ by_rows f source (place + 1) rows

-- those for the rows of the model and then for the cuts
abbrev pub by_all_rows : (RowRef → Row → List Derivation) → ModelParts → List Row
    → List Derivation
by_all_rows f m cuts = by_rows f ModelRows 0 m.rows ++ by_rows f CutRows 0 cuts

-- whether a number is among numbers
abbrev pub is_among : List ℕ → ℕ → Bool
is_among found n = list_any (λ k. k == n) found

-- divisors with one more: a number of at least 2 that isn't among them, while they are fewer than 8
abbrev pub with_divisor : List ℕ → ℕ → List ℕ
with_divisor found n =
    if nat_lt (length found) MAX_DIVISORS && nat_le 2 n && not (is_among found n)
    then found ++ n ∷ [] else found

-- divisors with those of more terms, in their order
abbrev pub divisors_after : List ℕ → List Term → List ℕ
divisors_after found [] = found
divisors_after found (t ∷ terms) =
    divisors_after (with_divisor found (unsigned_abs t.coef)) terms

-- the first 8 absolute coefficients of a row that are at least 2 and differ
abbrev pub divisors_of : Row → List ℕ
divisors_of row = divisors_after [] row.terms

-- the row alone, with weight 1
abbrev pub single_part : RowRef → List Pair
single_part name = record { row = name; weight = 1 } ∷ []

-- the row alone, divided by its own coefficients
abbrev pub own_candidates : RowRef → Row → List Derivation
own_candidates name row = map (λ divisor. Gomory (single_part name) divisor) (divisors_of row)

-- the divisors of a sum weighted by multipliers: 2^10 to 2^14
abbrev pub scales : List ℕ
scales = 1024 ∷ 2048 ∷ 4096 ∷ 8192 ∷ 16384 ∷ []

-- the rows of multipliers above 0, weighted by these, where there are 1 to 256 of them
abbrev pub combined_candidates : ModelParts → List ℕ → List Derivation
combined_candidates m ys =
    let parts = pairs_of (length m.rows) ys in
    if is_count (length parts) then map (λ divisor. Gomory parts divisor) scales else []

-- whether a term's column has the range 0 to 1 and stands at its bad end in the point: at 0 where
-- its coefficient is above 0, else at 1
abbrev pub is_bad : Sides → List ℤ → Term → Bool
is_bad s x t =
    is_binary s t.col && int_eq (int_at x t.col) (if int_lt (pos 0) t.coef then pos 0 else pos 1)

-- whether a term goes before another: it has the greater absolute coefficient, or the lesser column
-- and as great a coefficient
abbrev pub goes_before : Term → Term → Bool
goes_before t u =
    nat_lt (unsigned_abs u.coef) (unsigned_abs t.coef)
    || (unsigned_abs t.coef == unsigned_abs u.coef && nat_lt t.col u.col)

-- the absolute coefficients of those terms together that go before a term
abbrev pub weight_before : List Term → Term → ℕ
weight_before terms t = sum_by (λ u. if goes_before u t then unsigned_abs u.coef else 0) terms

-- terms taken one after the other, by falling absolute coefficient and then by column, until they
-- are more than the row leaves
abbrev pub taken_terms : ℤ → List Term → List Term
taken_terms left terms = filter (λ t. int_le (pos (weight_before terms t)) left) terms

-- the cover of a row by terms at their bad end, where they are more than the row leaves
abbrev pub cover_of : ℤ → RowRef → List Term → List Derivation
cover_of left name bad =
    if int_lt left (pos (weight_of bad))
    then Cover name (map (λ t. t.col) (taken_terms left bad)) ∷ [] else []

abbrev pub cover_candidates : Sides → List ℤ → RowRef → Row → List Derivation
cover_candidates s x name row = cover_of (slack s row) name (filter (is_bad s x) row.terms)

-- the derivations that are tried, in their order
abbrev pub candidates : ModelParts → List Row → List ℤ → List ℕ → List Derivation
candidates m cuts x ys =
    by_all_rows own_candidates m cuts ++ combined_candidates m ys
    ++ by_all_rows (cover_candidates m.root x) m cuts
