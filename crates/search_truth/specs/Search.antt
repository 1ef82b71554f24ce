use Rattle.std.specs.Prelude.{ℕ, ◌≡◌, List, [], ◌∷◌, ℤ, pos, ◌+ℤ◌, ◌<ℤ◌, Option, Some, None, Contains}
use Rattle.ip_core.specs.Sides.{Sides}
use Rattle.ip_core.specs.Models.{IsModel}
use Rattle.ip_core.specs.Truth.{IsFeasible, IsBest, HasNoPoint, value_at}
use Rattle.ip_core.specs.declared.model.ModelParts.{ModelParts}
use Rattle.ip_core.specs.Boxes.{greatest_value}
use Rattle.search_truth.specs.Boxes.{IsClosed, low_child, high_child}

-- a search: the boxes that are left, and the best point so far
pub record Searched : Type 0 where
  pub boxes : List Sides
  pub best : Option (List ℤ)

-- only values below this are still of interest: the best value so far, and with no point one more than any value
abbrev pub cutoff_of : ModelParts → Option (List ℤ) → ℤ
cutoff_of m None = greatest_value m m.root +ℤ pos 1
cutoff_of m (Some x) = value_at m x

-- both parts of a box are among the boxes, where it is split at a column
pub record IsParted (boxes : List Sides) (s : Sides) : Type 0 where
  pub col : ℕ
  pub at : ℤ
  pub low : Contains boxes (low_child s col at)
  pub high : Contains boxes (high_child s col at)

-- what becomes of a box in a step: it stays among the boxes, it is closed, or both its parts are among the boxes
pub data Fate (m : ModelParts) (cutoff : ℤ) (boxes : List Sides) (s : Sides) : Type 0 where
  Kept : Contains boxes s → Fate m cutoff boxes s
  Closed : IsClosed m cutoff s → Fate m cutoff boxes s
  Parted : IsParted boxes s → Fate m cutoff boxes s

-- the new best point is feasible, and its value is below the cutoff of the old one
pub record IsImprovement (m : ModelParts) (old new : Option (List ℤ)) : Type 0 where
  pub point : List ℤ
  pub feasible : IsFeasible m point
  pub below : value_at m point <ℤ cutoff_of m old
  pub is : new ≡ Some point

-- what becomes of the best point in a step: it stays, or gives way to a feasible point below the cutoff
pub data Improves (m : ModelParts) (old new : Option (List ℤ)) : Type 0 where
  Same : new ≡ old → Improves m old new
  Found : IsImprovement m old new → Improves m old new

-- one step of a search, whatever boxes it looks at
pub record Step (m : ModelParts) (old new : Searched) : Type 0 where
  pub fates : (s : Sides) → Contains old.boxes s → Fate m (cutoff_of m new.best) new.boxes s
  pub best : Improves m old.best new.best

-- any number of steps
pub data Steps (m : ModelParts) (start : Searched) : Searched → Type 0 where
  Done : Steps m start start
  More : (old new : Searched) → Steps m start old → Step m old new → Steps m start new

-- the search at its beginning: the root box, and no point
abbrev pub start_of : ModelParts → Searched
start_of m = record { boxes = m.root ∷ []; best = None }

-- the answer is true: with no point, none is feasible; a point is feasible, and none has a smaller value
abbrev pub IsTrueAnswer : ModelParts → Option (List ℤ) → Type 0
IsTrueAnswer m None = HasNoPoint m
IsTrueAnswer m (Some x) = IsBest m x

-- a search that began with the root box and has no box left has a true answer
abbrev pub SearchIsTrue : Type 0
SearchIsTrue =
    (m : ModelParts) (s : Searched) → IsModel m → Steps m (start_of m) s → s.boxes ≡ []
    → IsTrueAnswer m s.best
