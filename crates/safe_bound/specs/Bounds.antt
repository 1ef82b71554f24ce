-- A lower bound on the value of the points of a box that meet all rows, from one multiplier for each row.
use Rattle.std.specs.Prelude.{ℕ, ◌++◌, List, [], length, map, slice_index_or, ℤ, pos, ◌+ℤ◌, ◌-ℤ◌, ◌*ℤ◌}
use Rattle.std.specs.Int.{int_min, int_div_euclid}
use Rattle.std.specs.List.{range_with_len}
use Rattle.ip_core.specs.Quotients.{ceiling_quotient}
use Rattle.ip_core.specs.Numbers.{int_at, int_sum_below}
use Rattle.ip_core.specs.Sides.{Sides}
use Rattle.ip_core.specs.Boxes.{cheapest_end}
use Rattle.ip_core.specs.declared.model.ModelParts.{ModelParts}
use Rattle.ip_core.specs.declared.row.Row.{Row}
use Rattle.safe_bound.specs.Weights.{weighted_coefficient, weighted_least}

-- the rows in order: those of the model, and then the cuts
abbrev pub all_rows : ModelParts → List Row → List Row
all_rows m cuts = m.rows ++ cuts

-- row k of these, and an empty one past the end
abbrev pub row_of : ModelParts → List Row → ℕ → Row
row_of m cuts k = slice_index_or (all_rows m cuts) k (record { terms = []; least = pos 0 })

-- the reduced cost of column j: 1,024 times its cost, less the weighted coefficients of the rows
unfoldable pub reduced_cost : ModelParts → List Row → List ℕ → ℕ → ℤ
reduced_cost m cuts ys j =
    (pos 1024 *ℤ int_at m.costs j) -ℤ weighted_coefficient j (all_rows m cuts) ys

-- the least that column j adds over the box at the cost c: the lesser of c times its low and c times its high
abbrev pub share : Sides → ℤ → ℕ → ℤ
share s c j = int_min (c *ℤ int_at s.lows j) (c *ℤ int_at s.highs j)

-- the weighted `least` of the rows and the least shares of all columns at their reduced costs
unfoldable pub numerator : ModelParts → List Row → Sides → List ℕ → ℤ
numerator m cuts s ys =
    weighted_least (all_rows m cuts) ys
    +ℤ int_sum_below (length m.costs) (λ j. share s (reduced_cost m cuts ys j) j)

-- the numerator divided by 1,024, rounded up
abbrev pub lagrangian_bound : ModelParts → List Row → Sides → List ℕ → ℤ
lagrangian_bound m cuts s ys = ceiling_quotient (numerator m cuts s ys) (pos 1024)

-- each column at the end of the box at which its reduced cost costs least
abbrev pub bound_point : ModelParts → List Row → Sides → List ℕ → List ℤ
bound_point m cuts s ys =
    map (λ j. cheapest_end s (reduced_cost m cuts ys j) j) (range_with_len 0 (length m.costs))
