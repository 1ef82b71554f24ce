use Rattle.std.proofs.Common.{◌≡◌, [], ◌∷◌, ℤ, pos, negsuc, false, refl}
use Rattle.ip_core.specs.Sides.{Sides}
use Rattle.ip_core.specs.declared.model.ModelParts.{ModelParts}
use Rattle.ip_core.specs.declared.row.Row.{Row}
use Rattle.ip_core.specs.Rows.{coefficient}
use Rattle.ip_core.specs.Quotients.{ceiling_quotient}
use Rattle.safe_bound.specs.Bounds.{reduced_cost, numerator, lagrangian_bound, bound_point}

-- the box of one column from `low` to `high`
abbrev box : ℤ → ℤ → Sides
box low high = record { lows = low ∷ []; highs = high ∷ [] }

-- 2x >= 3
abbrev double : Row
double = record { terms = record { col = 0; coef = pos 2 } ∷ []; least = pos 3 }

-- the least of x in 0 to 5 with 2x >= 3
abbrev single : ModelParts
single = record { name = 109 ∷ []; cols = (120 ∷ []) ∷ []; costs = pos 1 ∷ []; constant = pos 0; decimals = 0; maximise = false; root = box (pos 0) (pos 5); rows = double ∷ [] }

reduced_341 : reduced_cost single [] (341 ∷ []) 0 ≡ pos 342
unfolding reduced_cost
reduced_341 = refl

reduced_512 : reduced_cost single [] (512 ∷ []) 0 ≡ pos 0
unfolding reduced_cost
reduced_512 = refl

numerator_341 : numerator single [] single.root (341 ∷ []) ≡ pos 1023
unfolding numerator reduced_cost
numerator_341 = refl

numerator_342 : numerator single [] single.root (342 ∷ []) ≡ pos 1026
unfolding numerator reduced_cost
numerator_342 = refl

bound_0 : lagrangian_bound single [] single.root (0 ∷ []) ≡ pos 0
unfolding numerator reduced_cost
bound_0 = refl

bound_341 : lagrangian_bound single [] single.root (341 ∷ []) ≡ pos 1
unfolding numerator reduced_cost
bound_341 = refl

bound_342 : lagrangian_bound single [] single.root (342 ∷ []) ≡ pos 2
unfolding numerator reduced_cost
bound_342 = refl

-- at 1,024 the reduced cost is -1,024: 3,072 less 5 times that
bound_1024 : lagrangian_bound single [] single.root (1024 ∷ []) ≡ negsuc 1
unfolding numerator reduced_cost
bound_1024 = refl

-- a reduced cost of 0 stands at the low end, one below 0 at the high end
point_512 : bound_point single [] single.root (512 ∷ []) ≡ pos 0 ∷ []
unfolding reduced_cost
point_512 = refl

point_513 : bound_point single [] single.root (513 ∷ []) ≡ pos 5 ∷ []
unfolding reduced_cost
point_513 = refl

-- a cut stands after the rows of the model
cut_alone : numerator single (record { terms = record { col = 0; coef = pos 1 } ∷ []; least = pos 2 } ∷ []) single.root (0 ∷ 1024 ∷ []) ≡ pos 2048
unfolding numerator reduced_cost
cut_alone = refl

-- a column's box that is empty: the lesser of its two ends times the cost
empty_column : numerator single [] (box (pos 4) (pos 1)) (0 ∷ []) ≡ pos 1024
unfolding numerator reduced_cost
empty_column = refl

-- rounding up
up_positive : ceiling_quotient (pos 1) (pos 1024) ≡ pos 1
up_positive = refl

up_negative : ceiling_quotient (negsuc 1023) (pos 1024) ≡ negsuc 0
up_negative = refl

up_small_negative : ceiling_quotient (negsuc 0) (pos 1024) ≡ pos 0
up_small_negative = refl

-- a column that stands twice in terms
twice : coefficient 1 (record { col = 1; coef = pos 3 } ∷ record { col = 0; coef = pos 7 } ∷ record { col = 1; coef = negsuc 0 } ∷ []) ≡ pos 2
twice = refl
