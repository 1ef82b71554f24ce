-- Models of one column, at which laws are tried.
use Rattle.std.proofs.Common.{ℕ, ◌≤◌, List, [], ◌∷◌, false, ℤ, pos, unsigned_abs, arith, refl}
use Rattle.std.proofs.lemmas.Int.{ints}
use Rattle.std.proofs.lemmas.List.Elements.{All-nil, All-cons}
use Rattle.ip_core.specs.Sides.{Sides, IsWithinLimit}
use Rattle.ip_core.specs.Rows.{IsTerm, AreTerms, IsRow}
use Rattle.ip_core.specs.Models.{IsModel}
use Rattle.ip_core.specs.declared.limits.TheConstants.{MAX_BOUND}
use Rattle.ip_core.specs.declared.model.ModelParts.{ModelParts}
use Rattle.ip_core.specs.declared.row.Row.{Row}

-- the box of one column from `low` to `high`
abbrev pub box : ℤ → ℤ → Sides
box low high = record { lows = low ∷ []; highs = high ∷ [] }

-- 2x >= 3
abbrev pub double : Row
double = record { terms = record { col = 0; coef = pos 2 } ∷ []; least = pos 3 }

-- the least of x in a box of one column that meets rows
abbrev pub least_x : Sides → List Row → ModelParts
least_x root rows = record {
  name = 109 ∷ [];
  cols = (120 ∷ []) ∷ [];
  costs = pos 1 ∷ [];
  constant = pos 0;
  decimals = 0;
  maximise = false;
  root = root;
  rows = rows;
}

-- the least of x in 0 to 5 with 2x >= 3
abbrev pub single : ModelParts
single = least_x (box (pos 0) (pos 5)) (double ∷ [])

double_terms : AreTerms 1 double.terms
double_terms = record { each = All-cons (IsTerm 1) _ [] (record { known = omega arith; nonzero = λ e. absurd (grind (arith, ints, e)) }) (All-nil (IsTerm 1)) }

within_limit : (z : ℤ) → unsigned_abs z ≤ 5 → IsWithinLimit (z ∷ [])
within_limit z small = record { each = All-cons (λ w. unsigned_abs w ≤ MAX_BOUND) z [] (omega arith) (All-nil (λ w. unsigned_abs w ≤ MAX_BOUND)) }

-- with x in 0 to a small number these are the parts of a model
pub small_model : (high : ℕ) → high ≤ 5 → IsModel (least_x (box (pos 0) (pos high)) (double ∷ []))
small_model high small = record {
  bounds = record {
    columns = omega arith;
    costs = refl;
    box = refl;
    highs = refl;
    limits = record { lows = within_limit (pos 0) (omega arith); highs = within_limit (pos high) small };
  };
  few = record { row_limit = omega arith; term_limit = omega arith };
  rows = record { each = All-cons (IsRow 1 (box (pos 0) (pos high))) double [] (record { terms = double_terms; rising = λ k h. absurd (omega arith); narrow = omega arith }) (All-nil (IsRow 1 (box (pos 0) (pos high)))) };
  objective = omega arith;
  decimals = omega arith;
}
