-- What a slot between tasks takes.
use Rattle.std.specs.Prelude.{ℕ, ◌*◌, Bool, ◌&&◌, ◌||◌, nat_eq, nat_lt, if◌then◌else◌, List, [], ◌∷◌, Option, Some, None}
use Rattle.node_pool.specs.Views.{View, is_finished}
use Rattle.node_pool.specs.declared.node.OpenNode.{OpenNode}
use Rattle.node_pool.specs.declared.pick.Pick.{Pick}
use Rattle.node_pool.specs.declared.pick.Pick.TheVariants.{CutLoop, Heuristic, Node, Nothing, Over}

abbrev pub first_name : List OpenNode → Option ℕ
first_name [] = None
first_name (x ∷ xs) = Some x.name

-- the open node of the least bound, and of those the one of the least name
abbrev pub best_open : View → Option ℕ
best_open v = first_name v.open_nodes

-- whether cuts are to be looked for first: they are on, the model has a row, and no task has looked
-- for them
abbrev pub wants_cuts : View → Bool
wants_cuts v = v.settings.cuts && v.has_rows && nat_eq v.cut_starts 0

-- whether a feasible point is to be looked for from an open node: before the first start never, and
-- then while eight times the looks are fewer than the starts
abbrev pub wants_heuristic : View → Bool
wants_heuristic v = v.settings.heuristics && nat_lt (8 * v.heuristic_starts) v.starts

-- what an open node is taken for
abbrev pub node_pick : Bool → Option ℕ → Pick
node_pick heuristic None = Nothing
node_pick heuristic (Some node) = if heuristic then Heuristic node else Node node

-- the first that applies
abbrev pub pick_of : View → Pick
pick_of v = if v.has_halt || is_finished v then Over else if wants_cuts v then CutLoop
    else node_pick (wants_heuristic v) (best_open v)
