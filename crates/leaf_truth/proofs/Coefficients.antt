-- Looking for a column in the terms of a row.
use Rattle.std.proofs.Common.{◌≡◌, ◌≢◌, ◌∙◌, ℕ, ◌+◌, ◌<◌, ◌==◌, Bool, true, false, cond, List, length, get_or, map, drop, ℤ, pos, ◌+ℤ◌, sym, ap, subst, arith}
use Rattle.std.specs.List.Sorted.{IsStrictlyIncreasing}
use Rattle.std.proofs.lemmas.Int.{ints}
use Rattle.std.proofs.lemmas.Bool.{ne_eqb}
use Rattle.std.proofs.lemmas.List.{drop_more}
use Rattle.ip_core.specs.Rows.{coefficient}
use Rattle.ip_core.specs.declared.row.Term.{Term}
use Rattle.row_propagate.proofs.Own.{coefficient_at}

-- a term at the column has its coefficient, where columns rise
pub coefficient_found : (terms : List Term) (i : ℕ) (d : Term) (col : ℕ) → IsStrictlyIncreasing (map (λ t. t.col) terms) → i < length terms → (get_or terms i d).col ≡ col → (get_or terms i d).coef ≡ coefficient col terms
coefficient_found terms i d col rising known same =
    subst (λ (j : ℕ). (get_or terms i d).coef ≡ coefficient j terms) same (sym (coefficient_at (record { terms = terms; least = pos 0 }) i d rising known))

none_first : (b : Bool) (own rest : ℤ) → b ≡ false → cond b own (pos 0) +ℤ rest ≡ rest
none_first true own rest other = cc
none_first false own rest other = omega (arith, ints)

-- a term at another column adds nothing
pub coefficient_apart : (terms : List Term) (i : ℕ) (d : Term) (col : ℕ) → i < length terms → (get_or terms i d).col ≢ col → coefficient col (drop (i + 1) terms) ≡ coefficient col (drop i terms)
coefficient_apart terms i d col known differ =
    let t = get_or terms i d in
    sym (ap (coefficient col) (drop_more terms i d known) ∙ none_first (t.col == col) t.coef (coefficient col (drop (i + 1) terms)) (ne_eqb t.col col differ))
