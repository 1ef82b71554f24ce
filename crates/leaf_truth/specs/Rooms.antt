use Rattle.std.specs.Prelude.{◌≡◌, ◌≤◌, ◌+◌, List, length}
use Rattle.ip_core.specs.declared.model.ModelParts.{ModelParts}
use Rattle.ip_core.specs.declared.row.Row.{Row}
use Rattle.leaf_truth.specs.declared.scratch.Scratch.{Scratch}

-- room for a multiplier for each row and then for each cut, and for a reduced cost for each column
pub record HasRoom (m : ModelParts) (cuts : List Row) (scratch : Scratch) : Type 0 where
  pub mults : length scratch.mults.items ≡ length m.rows + length cuts
  pub reduced_costs : length m.cols ≤ length scratch.reduced_costs.items
