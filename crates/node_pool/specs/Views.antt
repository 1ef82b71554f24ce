-- What a history comes to, entry by entry.
use Rattle.std.specs.Prelude.{ℕ, zero, suc, ◌+◌, Bool, true, false, not, ◌&&◌, ◌||◌, nat_eq, List, [], ◌∷◌, ◌++◌, length, ℤ, pos, ◌+ℤ◌, Result, Ok, Err}
use Rattle.std.specs.Int.{int_min}
use Rattle.std.specs.List.{list_any}
use Rattle.ip_core.specs.declared.model.ModelParts.{ModelParts}
use Rattle.ip_core.specs.declared.row.Row.{Row}
use Rattle.ip_core.specs.declared.derivation.Derivation.{Derivation}
use Rattle.ip_core.specs.Boxes.{least_value, greatest_value}
use Rattle.work_stamp.specs.declared.entry.Entry.{Entry}
use Rattle.work_stamp.specs.declared.entry.Entry.TheVariants.{Start, CutStart, HeurStart, Done, Found, Cut, Split, Closed, Halt}
use Rattle.work_stamp.specs.declared.stamped.KeyedEntry.{KeyedEntry}
use Rattle.cut_derive.specs.Derivations.{derived_row}
use Rattle.cut_derive.specs.declared.refusal.Refusal.{Refusal}
use Rattle.node_pool.specs.Branchings.{Branch, is_child}
use Rattle.node_pool.specs.Nodes.{insert_open, without_name, without_node}
use Rattle.node_pool.specs.declared.node.OpenNode.{OpenNode}
use Rattle.node_pool.specs.declared.settings.SearchSettings.{SearchSettings}

-- what a history comes to
pub record View : Type 0 where
  pub settings : SearchSettings
  -- whether the model has a row
  pub has_rows : Bool
  -- in the order of their picking
  pub open_nodes : List OpenNode
  -- the names of the nodes that a task holds
  pub held_nodes : List ℕ
  -- each split of the history, in order
  pub branches : List Branch
  -- what the value of a point must be below to be worth finding
  pub cutoff : ℤ
  -- the row of each cut of the history, in order
  pub cuts : List Row
  -- how many entries there are, and how many of three kinds
  pub entries : ℕ
  pub starts : ℕ
  pub cut_starts : ℕ
  pub heuristic_starts : ℕ
  -- whether a Halt stands
  pub has_halt : Bool

abbrev pub open_node : ℕ → ℤ → OpenNode
open_node name bound = record { name = name; bound = bound }

-- before the first entry the root is open, and any feasible point is worth finding
abbrev pub fresh_view : ModelParts → SearchSettings → View
fresh_view m settings = record {
  settings = settings;
  has_rows = not (nat_eq (length m.rows) 0);
  open_nodes = open_node 0 (least_value m m.root) ∷ [];
  held_nodes = [];
  branches = [];
  cutoff = greatest_value m m.root +ℤ pos 1;
  cuts = [];
  entries = 0;
  starts = 0;
  cut_starts = 0;
  heuristic_starts = 0;
  has_halt = false;
}

-- the children of a node come in: the first or the second is held and the other open, or both are
-- open
abbrev pub with_children : View → OpenNode → OpenNode → ℕ → View
with_children v low high zero =
    record v {
      held_nodes = v.held_nodes ++ low.name ∷ [];
      open_nodes = insert_open high v.open_nodes;
    }
with_children v low high (suc zero) =
    record v {
      held_nodes = v.held_nodes ++ high.name ∷ [];
      open_nodes = insert_open low v.open_nodes;
    }
with_children v low high (suc (suc more)) =
    record v { open_nodes = insert_open high (insert_open low v.open_nodes) }

-- a held node that is done with
abbrev pub without_held : View → ℕ → View
without_held v node = record v { held_nodes = without_name node v.held_nodes }

abbrev pub with_branch : View → Branch → View
with_branch v b = record v { branches = v.branches ++ b ∷ [] }

-- cuts with the row that a derivation gives, where it gives one
abbrev pub with_row : List Row → Result Row Refusal → List Row
with_row cuts (Err why) = cuts
with_row cuts (Ok row) = cuts ++ row ∷ []

-- a node goes from open to held
abbrev pub started : View → ℕ → View
started v node = record v {
  open_nodes = without_node node v.open_nodes;
  held_nodes = v.held_nodes ++ node ∷ [];
  starts = v.starts + 1;
}

-- the row of a derivation joins the cuts
abbrev pub with_cut : ModelParts → View → Derivation → View
with_cut m v derivation =
    record v { cuts = with_row v.cuts (derived_row m v.cuts derivation) }

-- a held node gives way to its children
abbrev pub with_split : View → ℕ → ℕ → ℤ → ℕ → ℕ → ℤ → View
with_split v node col at first keep bound =
    with_children (with_branch (without_held v node)
    (record { node = node; col = col; at = at; first = first; bound = bound }))
    (open_node first bound) (open_node (first + 1) bound) keep

-- what an entry changes, but for the count of all entries
abbrev pub with_effect : ModelParts → View → Entry → View
with_effect m v (Start node) = started v node
with_effect m v CutStart = record v { cut_starts = v.cut_starts + 1 }
with_effect m v (HeurStart node) = record v { heuristic_starts = v.heuristic_starts + 1 }
with_effect m v Done = v
with_effect m v (Found value point) = record v { cutoff = int_min v.cutoff value }
with_effect m v (Cut derivation) = with_cut m v derivation
with_effect m v (Split node col at first keep bound) = with_split v node col at first keep bound
with_effect m v (Closed node) = without_held v node
with_effect m v Halt = record v { has_halt = true }

-- the view after one more entry
abbrev pub after_entry : ModelParts → View → Entry → View
after_entry m v e = record (with_effect m v e) { entries = v.entries + 1 }

-- the view after further entries
abbrev pub view_after : ModelParts → View → List KeyedEntry → View
view_after m v [] = v
view_after m v (e ∷ es) = view_after m (after_entry m v e.entry) es

-- the view of a history
abbrev pub view_of : ModelParts → SearchSettings → List KeyedEntry → View
view_of m settings history = view_after m (fresh_view m settings) history

-- whether a name is known: 0, and both children of every split
abbrev pub is_known : View → ℕ → Bool
is_known v name = nat_eq 0 name || list_any (λ b. is_child b name) v.branches

-- whether nothing is open or held
abbrev pub is_finished : View → Bool
is_finished v = nat_eq (length v.open_nodes) 0 && nat_eq (length v.held_nodes) 0
