-- Rows that can be passed over, and what passes keep of rows.
use Rattle.std.specs.Prelude.{ℕ, ◌+◌, ◌≡◌, ◌≤◌, ◌<◌, ◌++◌, Bool, true, false, List, [], length, map, All, pos, slice_index_or, ℤ, ◌-ℤ◌, ◌*ℤ◌, ◌≤ℤ◌, int_lt, Option, None}
use Rattle.std.specs.List.Sorted.{IsStrictlyIncreasing}
use Rattle.ip_core.specs.Numbers.{int_at}
use Rattle.ip_core.specs.Sides.{Sides, HasNoEmpty}
use Rattle.ip_core.specs.Boxes.{IsWithin, greatest_activity}
use Rattle.ip_core.specs.Rows.{term_width}
use Rattle.ip_core.specs.declared.limits.TheConstants.{MAX_WIDTH}
use Rattle.ip_core.specs.declared.model.ModelParts.{ModelParts}
use Rattle.ip_core.specs.declared.row.Row.{Row}
use Rattle.ip_core.specs.declared.row.Term.{Term}
use Rattle.ip_core.specs.declared.row_ref.RowRef.{RowRef}
use Rattle.row_propagate.specs.declared.activities.Activities.{Activities}
use Rattle.row_propagate.specs.declared.visits.Visits.{Visits}
use Rattle.row_propagate.specs.Kept.{AreColumns, AreKeepable, AreSums, coefs_at}
use Rattle.ip_core.specs.Rows.{IsReady}
use Rattle.row_propagate.specs.Replay.{IsNamed}
use Rattle.row_propagate.specs.Rounding.{narrower_bound}

-- a term for reads past the end
abbrev pub no_term : Term
no_term = record { col = 0; coef = pos 0 }

-- each term's part of the width over the box is within the greatest width
pub record AreNarrowTerms (s : Sides) (terms : List Term) : Type 0 where
  pub each : All (λ (t : Term). term_width s t ≤ MAX_WIDTH) terms

-- a row that doesn't conflict, and gives none of its columns a narrower bound
pub record IsQuiet (s : Sides) (row : Row) : Type 0 where
  pub holds : int_lt (greatest_activity s row.terms) row.least ≡ false
  pub none : (i : ℕ) (other : Term) → i < length row.terms →
      narrower_bound row s (slice_index_or row.terms i other).col ≡ None

-- each row with a flag is quiet
pub record AreQuiet (rows : List Row) (s : Sides) (flags : List Bool) : Type 0 where
  pub one_each : length flags ≡ length rows
  pub each : (k : ℕ) (other : Row) → k < length rows → slice_index_or flags k false ≡ true →
      IsQuiet s (slice_index_or rows k other)

-- of the quiet rows those are left in which a column with these entries doesn't stand
pub record HasQuietLeft (column : List Term) (old new : List Bool) : Type 0 where
  pub len : length new ≡ length old
  pub was : (k : ℕ) → slice_index_or new k false ≡ true → slice_index_or old k false ≡ true
  pub apart : (k : ℕ) → slice_index_or new k false ≡ true → coefs_at k column ≡ []

-- a row is ready for the box, and its columns rise
pub record IsVisitable (s : Sides) (row : Row) : Type 0 where
  pub ready : IsReady s row
  pub rising : IsStrictlyIncreasing (map (λ t. t.col) row.terms)

-- a term that adds no more at one end of its column than at the other by more than the room
pub record IsLoose (s : Sides) (room : ℤ) (t : Term) : Type 0 where
  pub high : ((t.coef *ℤ int_at s.highs t.col) -ℤ (t.coef *ℤ int_at s.lows t.col)) ≤ℤ room
  pub low : ((t.coef *ℤ int_at s.lows t.col) -ℤ (t.coef *ℤ int_at s.highs t.col)) ≤ℤ room

-- how much of a row's greatest activity isn't asked for
abbrev pub room_of : Sides → Row → ℤ
room_of s row = greatest_activity s row.terms -ℤ row.least

-- what passes keep, over a box without empty columns within the root box: the sums of all rows and which of them are
-- quiet, and the columns' entries, where these have been made
pub record IsPassing (m : ModelParts) (cuts : List Row) (s : Sides) (v : Visits) : Type 0 where
  pub fit : AreKeepable m cuts s
  pub within : IsWithin m.root s
  pub solid : HasNoEmpty s
  pub sums : AreSums (m.rows ++ cuts) s v.activities.sums
  pub indexed : 0 < length v.activities.columns →
      AreColumns (length m.cols) (m.rows ++ cuts) v.activities.columns
  pub quiet : AreQuiet (m.rows ++ cuts) s v.quiet

-- the row of this name stands at this place of the model's rows and then the cuts
pub record IsRowAt (m : ModelParts) (cuts : List Row) (place : ℕ) (name : RowRef) (row : Row)
    : Type 0 where
  pub known : place < length (m.rows ++ cuts)
  pub same : (other : Row) → slice_index_or (m.rows ++ cuts) place other ≡ row
  pub named : IsNamed m.rows cuts name row

-- rows stand one after another from a place on, with their names
pub record ArePlaced (m : ModelParts) (cuts : List Row) (first : ℕ) (name : ℕ → RowRef)
    (some : List Row)
    : Type 0 where
  pub at : (i : ℕ) (other : Row) → i < length some →
      IsRowAt m cuts (first + i) (name i) (slice_index_or some i other)
