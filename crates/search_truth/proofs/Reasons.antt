use Rattle.std.proofs.Common.{ℕ, ◌<◌, List, length, ℤ, ◌≤ℤ◌, get_or, Contains, arith}
use Rattle.std.proofs.lemmas.Int.{ints}
use Rattle.std.proofs.lemmas.List.Elements.{All-contains, Contains-get_or}
use Rattle.ip_core.specs.Sides.{Sides, IsEmptyAt, HasNoEmpty}
use Rattle.ip_core.specs.Rows.{IsMet, IsRow}
use Rattle.ip_core.specs.Models.{IsModel}
use Rattle.ip_core.specs.Truth.{value_at}
use Rattle.ip_core.specs.declared.model.ModelParts.{ModelParts}
use Rattle.ip_core.specs.declared.row.Row.{Row}
use Rattle.ip_core.specs.Boxes.{IsWithin, IsConflict, least_value}
use Rattle.search_truth.specs.Boxes.{IsClosed, IsCheapestCorner}
use Rattle.search_truth.proofs.Corners.{corner_least}
use Rattle.ip_core.proofs.Activities.{conflict_meets_none}
use Rattle.search_truth.proofs.Values.{least_value-le}

-- a box with an empty column is closed
pub closed_by_empty : (m : ModelParts) (cutoff : ℤ) (s : Sides) (j : ℕ) → j < length m.cols → IsEmptyAt s j → IsClosed m cutoff s
closed_by_empty m cutoff s j known empty = record {
  none_below = λ y feasible inside.
      let here : j < length y = omega (arith, known, feasible.one_each) in
      absurd (omega (arith, ints, inside.above j here, inside.below j here, empty.crossed));
}

-- a box over which a row asks for too much is closed
pub closed_by_conflict : (m : ModelParts) (cutoff : ℤ) (s : Sides) (row : Row) → IsModel m → Contains m.rows row → IsConflict s row → IsClosed m cutoff s
closed_by_conflict m cutoff s row valid among conflict = record {
  none_below = λ y feasible inside.
      absurd (conflict_meets_none (length m.cols) s row y (All-contains (IsRow (length m.cols) m.root) m.rows row valid.rows.each among).terms feasible.one_each inside conflict (All-contains (IsMet y) m.rows row feasible.rows_met.each among));
}

-- the same of the row at place k
pub closed_by_conflict_at : (m : ModelParts) (cutoff : ℤ) (s : Sides) (k : ℕ) (row : Row) → IsModel m → k < length m.rows → IsConflict s (get_or m.rows k row) → IsClosed m cutoff s
closed_by_conflict_at m cutoff s k row valid known conflict =
    closed_by_conflict m cutoff s (get_or m.rows k row) valid (Contains-get_or m.rows k row known) conflict

-- a box is closed whose least value is not below the cutoff
pub closed_by_bound : (m : ModelParts) (cutoff : ℤ) (s : Sides) → IsModel m → cutoff ≤ℤ least_value m s → IsClosed m cutoff s
closed_by_bound m cutoff s valid bound = record {
  none_below = λ y feasible inside. omega (arith, ints, bound, least_value-le m s y valid feasible.one_each inside);
}

-- a box without empty columns is closed by the value of its cheapest corner
pub closed_by_corner : (m : ModelParts) (s : Sides) (x : List ℤ) → IsModel m → IsWithin m.root s → HasNoEmpty s → IsCheapestCorner m s x → IsClosed m (value_at m x) s
closed_by_corner m s x valid within inhabited corner = closed_by_bound m (value_at m x) s valid (omega (arith, ints, corner_least m s x valid within inhabited corner))
