-- The least absolute coefficient of which terms are taken for a cover.
use Rattle.std.specs.Prelude.{ℕ, ◌==◌, Bool, ◌&&◌, ◌||◌, if◌then◌else◌, List, nat_lt, nat_le, unsigned_abs, sum_by}
use Rattle.ip_core.specs.declared.row.Term.{Term}

-- the absolute coefficient of a term, if it is at least `low`, else 0
abbrev pub size_from : ℕ → Term → ℕ
size_from low t = if nat_le low (unsigned_abs t.coef) then unsigned_abs t.coef else 0

-- the absolute coefficients together that are at least `low`
abbrev pub weight_from : ℕ → List Term → ℕ
weight_from low terms = sum_by (size_from low) terms

-- the absolute coefficient of a term, if it is `size`, else 0
abbrev pub size_at : ℕ → Term → ℕ
size_at size t = if unsigned_abs t.coef == size then unsigned_abs t.coef else 0

-- the absolute coefficients together that are `size`
abbrev pub weight_at : ℕ → List Term → ℕ
weight_at size terms = sum_by (size_at size) terms

-- whether a term of some size is taken, where those that go before it add up to `sum`: it is above
-- the threshold, or is the threshold and they aren't more than the row leaves
abbrev pub is_taken_at : ℕ → ℕ → ℕ → ℕ → Bool
is_taken_at size low sum left = nat_lt low size || (size == low && nat_le sum left)
