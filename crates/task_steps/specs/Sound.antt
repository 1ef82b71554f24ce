-- What a view says of the model, with the best point of its history.
use Rattle.std.specs.Prelude.{ℕ, ◌≡◌, List, ◌++◌, map, ℤ, Option, Some, None}
use Rattle.ip_core.specs.Sides.{Sides}
use Rattle.ip_core.specs.Truth.{IsFeasible, value_at}
use Rattle.ip_core.specs.declared.model.ModelParts.{ModelParts}
use Rattle.search_truth.specs.Search.{Searched, Steps, start_of, cutoff_of}
use Rattle.node_pool.specs.Branchings.{box_of}
use Rattle.node_pool.specs.Views.{View}
use Rattle.task_steps.specs.declared.answer.Best.{Best}

-- the point of the best, if there is one
abbrev pub best_point : Option Best → Option (List ℤ)
best_point None = None
best_point (Some best) = Some best.point

-- the names of the nodes that are left
abbrev pub names_of : View → List ℕ
names_of v = map (λ node. node.name) v.open_nodes ++ v.held_nodes

-- their boxes
abbrev pub boxes_of : ModelParts → View → List Sides
boxes_of m v = map (λ name. box_of m.root v.branches name) (names_of v)

-- what a view says of the search: the boxes that are left, and the best point
abbrev pub searched_of : ModelParts → View → Option Best → Searched
searched_of m v best = record { boxes = boxes_of m v; best = best_point best }

-- a best point is feasible, and its value is told
abbrev pub IsFound : ModelParts → Option Best → Type 0
IsFound m None = Unit {0}
IsFound m (Some best) = IsFeasible m best.point × (best.value ≡ value_at m best.point)

-- a view that a search comes to, with the cutoff of its best point, which is feasible
pub record IsSound (m : ModelParts) (v : View) (best : Option Best) : Type 0 where
  pub steps : Steps m (start_of m) (searched_of m v best)
  pub cutoff : v.cutoff ≡ cutoff_of m (best_point best)
  pub found : IsFound m best
