use Rattle.std.specs.Prelude.{ℕ, ◌≡◌, ◌<◌, length, remove, Bool, ◌||◌, ◌&&◌, nat_eq, nat_lt, if◌then◌else◌, List, [], ◌∷◌, Option, Some, None, int_lt}
use Rattle.std.specs.Ordering.{int_eq}
use Rattle.node_pool.specs.declared.node.OpenNode.{OpenNode}

-- whether a node is picked before another: it has the lesser bound, or the same bound and the
-- lesser name
abbrev pub is_before : OpenNode → OpenNode → Bool
is_before a b = int_lt a.bound b.bound || (int_eq a.bound b.bound && nat_lt a.name b.name)

-- a node among open ones, which stand in the order of their picking
abbrev pub insert_open : OpenNode → List OpenNode → List OpenNode
insert_open node [] = node ∷ []
insert_open node (x ∷ xs) = if is_before node x then node ∷ x ∷ xs else (x ∷ insert_open node xs)

-- the first node of a name
abbrev pub first_named : ℕ → List OpenNode → Option OpenNode
first_named name [] = None
first_named name (x ∷ xs) = if nat_eq x.name name then Some x else first_named name xs

-- the nodes without the first of a name
abbrev pub without_node : ℕ → List OpenNode → List OpenNode
without_node name [] = []
without_node name (x ∷ xs) = if nat_eq x.name name then xs else (x ∷ without_node name xs)

-- the names without the first that is this one
abbrev pub without_name : ℕ → List ℕ → List ℕ
without_name name [] = []
without_name name (x ∷ xs) = if nat_eq x name then xs else (x ∷ without_name name xs)

-- the first name that is this one stands at this place
pub record IsNameAt (names : List ℕ) (name place : ℕ) : Type 0 where
  pub within : place < length names
  pub rest : without_name name names ≡ remove names place
