use Rattle.std.specs.Prelude.{ℕ, ◌≡◌, ◌<◌, length, List, [], ◌∷◌, slice_index_or, pos}
use Rattle.ip_core.specs.Sides.{Sides}
use Rattle.ip_core.specs.declared.row.Row.{Row}
use Rattle.ip_core.specs.declared.row_ref.RowRef.{RowRef}
use Rattle.ip_core.specs.declared.row_ref.RowRef.TheVariants.{Model, Cut}
use Rattle.ip_core.specs.declared.leaf.Tighten.{Tighten}
use Rattle.row_propagate.specs.Rounding.{tight_box}

-- a row that asks nothing
abbrev pub no_row : Row
no_row = record { terms = []; least = pos 0 }

-- the row of a name, and a row that asks nothing where there is none
abbrev pub row_named : List Row → List Row → RowRef → Row
row_named rows cuts (Model i) = slice_index_or rows i no_row
row_named rows cuts (Cut i) = slice_index_or cuts i no_row

-- there is a row of this name
abbrev pub HasRow : List Row → List Row → RowRef → Type 0
HasRow rows cuts (Model i) = i < length rows
HasRow rows cuts (Cut i) = i < length cuts

-- the row of this name
pub record IsNamed (rows cuts : List Row) (name : RowRef) (row : Row) : Type 0 where
  pub known : HasRow rows cuts name
  pub same : row_named rows cuts name ≡ row

-- some rows have their names, by their places
pub record AreNamed (rows cuts : List Row) (name : ℕ → RowRef) (some : List Row) : Type 0 where
  pub at : (i : ℕ) (other : Row) → i < length some →
      IsNamed rows cuts (name i) (slice_index_or some i other)

-- the box after tightenings in order, where `named` gives the row of a name
abbrev pub replay : (RowRef → Row) → Sides → List Tighten → Sides
replay named s [] = s
replay named s (step ∷ steps) = replay named (tight_box (named step.row) s step.col) steps
