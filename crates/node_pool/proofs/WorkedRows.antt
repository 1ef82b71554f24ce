-- Views and picks worked out by hand, entry by entry.
use Rattle.std.proofs.Common.{◌≡◌, ℕ, [], ◌∷◌, ◌++◌, Bool, true, false, Some, List, ℤ, pos, negsuc, take, refl}
use Rattle.ip_core.specs.declared.model.ModelParts.{ModelParts}
use Rattle.ip_core.specs.declared.row.Row.{Row}
use Rattle.ip_core.specs.declared.row_ref.RowRef.TheVariants.{Model}
use Rattle.ip_core.specs.declared.derivation.Derivation.TheVariants.{Gomory}
use Rattle.work_stamp.specs.Histories.{keyed_entry}
use Rattle.work_stamp.specs.declared.entry.Entry.{Entry}
use Rattle.work_stamp.specs.declared.entry.Entry.TheVariants.{Start, CutStart, HeurStart, Done, Found, Cut, Split, Closed, Halt}
use Rattle.work_stamp.specs.declared.stamped.KeyedEntry.{KeyedEntry}
use Rattle.node_pool.specs.Branchings.{box_of}
use Rattle.node_pool.specs.Picks.{best_open, pick_of}
use Rattle.node_pool.specs.Views.{View, is_known, open_node, view_of}
use Rattle.node_pool.specs.declared.pick.Pick.{Pick}
use Rattle.node_pool.specs.declared.pick.Pick.TheVariants.{CutLoop, Heuristic, Node, Nothing, Over}
use Rattle.node_pool.specs.declared.settings.SearchSettings.{SearchSettings}

abbrev switches : Bool → Bool → SearchSettings
switches cuts heuristics = record { cuts = cuts; heuristics = heuristics }

abbrev by : ℕ → ℕ → Entry → KeyedEntry
by stamp slot e = keyed_entry (record { stamp = stamp; slot = slot }) e

abbrev columns : List (List ℕ) → List ℤ → List ℤ → List ℤ → List Row → ModelParts
columns cols costs lows highs rows = record {
  name = [];
  cols = cols;
  costs = costs;
  constant = pos 0;
  decimals = 0;
  maximise = false;
  root = record { lows = lows; highs = highs };
  rows = rows;
}

-- One column of cost 1 in 0 to 1, and no row, on two slots.

abbrev one_column : ModelParts
one_column = columns ((120 ∷ []) ∷ []) (pos 1 ∷ []) (pos 0 ∷ []) (pos 1 ∷ []) []

abbrev two_slots : List KeyedEntry
two_slots = by 0 0 (Start 0) ∷ by 14 0 (Found (pos 0) (pos 0 ∷ [])) ∷ by 14 0 (Closed 0)
    ∷ by 14 0 Done ∷ []

abbrev two_slots_after : ℕ → View
two_slots_after n = view_of one_column (switches true true) (take n two_slots)

pub two_slots_root : pick_of (two_slots_after 0) ≡ Node 0
two_slots_root = refl

pub two_slots_bound : (two_slots_after 0).open_nodes ≡ open_node 0 (pos 0) ∷ []
two_slots_bound = refl

pub two_slots_cutoff : (two_slots_after 0).cutoff ≡ pos 2
two_slots_cutoff = refl

-- slot 1 finds nothing open
pub two_slots_waits : pick_of (two_slots_after 1) ≡ Nothing
two_slots_waits = refl

pub two_slots_held : (two_slots_after 1).held_nodes ≡ 0 ∷ []
two_slots_held = refl

pub two_slots_found : (two_slots_after 2).cutoff ≡ pos 0
two_slots_found = refl

pub two_slots_closed : pick_of (two_slots_after 3) ≡ Over
two_slots_closed = refl

pub two_slots_end : two_slots_after 4 ≡ record {
  settings = switches true true;
  has_rows = false;
  open_nodes = [];
  held_nodes = [];
  branches = [];
  cutoff = pos 0;
  cuts = [];
  entries = 4;
  starts = 1;
  cut_starts = 0;
  heuristic_starts = 0;
  has_halt = false;
}
two_slots_end = refl

-- One column of cost 1 in 0 to 5, whose double is to be at least 3, on one slot with cuts.

abbrev with_cuts : ModelParts
with_cuts = columns ((120 ∷ []) ∷ []) (pos 1 ∷ []) (pos 0 ∷ []) (pos 5 ∷ [])
    (record { terms = record { col = 0; coef = pos 2 } ∷ []; least = pos 3 } ∷ [])

abbrev gomory : ℕ → ℕ → Entry
gomory divisor weight = Cut (Gomory (record { row = Model 0; weight = weight } ∷ []) divisor)

abbrev cut_loop : List KeyedEntry
cut_loop = by 0 0 CutStart ∷ by 69 0 (gomory 2 1) ∷ by 69 0 (gomory 2048 512) ∷ by 248 0 Done
    ∷ by 248 0 (Start 0) ∷ by 377 0 (Found (pos 2) (pos 2 ∷ [])) ∷ by 377 0 (Closed 0)
    ∷ by 377 0 Done ∷ []

abbrev cut_loop_after : ℕ → View
cut_loop_after n = view_of with_cuts (switches true true) (take n cut_loop)

abbrev at_least : ℤ → Row
at_least least = record { terms = record { col = 0; coef = pos 1 } ∷ []; least = least }

-- each derivation gives a row
pub cut_loop_cuts : (cut_loop_after 3).cuts ≡ at_least (pos 2) ∷ at_least (pos 1) ∷ []
cut_loop_cuts = refl

pub cut_loop_first : pick_of (cut_loop_after 0) ≡ CutLoop
cut_loop_first = refl

pub cut_loop_once : pick_of (cut_loop_after 1) ≡ Node 0
cut_loop_once = refl

pub cut_loop_node : pick_of (cut_loop_after 4) ≡ Node 0
cut_loop_node = refl

pub cut_loop_held : pick_of (cut_loop_after 5) ≡ Nothing
cut_loop_held = refl

pub cut_loop_cutoffs : (cut_loop_after 5).cutoff ≡ pos 6
cut_loop_cutoffs = refl

pub cut_loop_end : pick_of (cut_loop_after 8) ≡ Over
cut_loop_end = refl

pub cut_loop_counts : (cut_loop_after 8).cut_starts ≡ 1
cut_loop_counts = refl

-- without cuts, or without a row, none are looked for
pub no_cuts : pick_of (view_of with_cuts (switches false true) []) ≡ Node 0
no_cuts = refl

-- Three columns of cost 0 in 0 to 1 and two rows, on one slot with heuristics.

abbrev three_terms : ℤ → ℤ → Row
three_terms coef least = record {
  terms =
      record { col = 0; coef = coef } ∷ record { col = 1; coef = coef }
      ∷ record { col = 2; coef = coef } ∷ [];
  least = least;
}

abbrev three_columns : ModelParts
three_columns = columns ((120 ∷ []) ∷ (121 ∷ []) ∷ (122 ∷ []) ∷ []) (pos 0 ∷ pos 0 ∷ pos 0 ∷ [])
    (pos 0 ∷ pos 0 ∷ pos 0 ∷ []) (pos 1 ∷ pos 1 ∷ pos 1 ∷ [])
    (three_terms (pos 2) (pos 3) ∷ three_terms (negsuc 1) (negsuc 2) ∷ [])

abbrev dives : List KeyedEntry
dives = by 0 0 (Start 0) ∷ by 217 0 (Split 0 0 (pos 0) 4 0 (pos 0)) ∷ by 225 0 (Closed 4)
    ∷ by 225 0 Done ∷ by 225 0 (HeurStart 5) ∷ by 240 0 Done ∷ by 240 0 (Start 5)
    ∷ by 255 0 (Closed 5) ∷ by 255 0 Done ∷ []

abbrev dives_after : ℕ → View
dives_after n = view_of three_columns (switches false true) (take n dives)

pub dives_start : pick_of (dives_after 0) ≡ Node 0
dives_start = refl

-- the low child is held and the other open
pub dives_split : (dives_after 2).held_nodes ≡ 4 ∷ []
dives_split = refl

pub dives_open : (dives_after 2).open_nodes ≡ open_node 5 (pos 0) ∷ []
dives_open = refl

pub dives_low_box : box_of three_columns.root (dives_after 2).branches 4
    ≡ record { lows = pos 0 ∷ pos 0 ∷ pos 0 ∷ []; highs = pos 0 ∷ pos 1 ∷ pos 1 ∷ [] }
dives_low_box = refl

pub dives_high_box : box_of three_columns.root (dives_after 2).branches 5
    ≡ record { lows = pos 1 ∷ pos 0 ∷ pos 0 ∷ []; highs = pos 1 ∷ pos 1 ∷ pos 1 ∷ [] }
dives_high_box = refl

-- after one start and no dive a dive is due
pub dives_due : pick_of (dives_after 4) ≡ Heuristic 5
dives_due = refl

-- the node stays open, and the next dive waits for eight starts more
pub dives_stay : pick_of (dives_after 5) ≡ Node 5
dives_stay = refl

pub dives_best : best_open (dives_after 6) ≡ Some 5
dives_best = refl

pub dives_taken : pick_of (dives_after 7) ≡ Nothing
dives_taken = refl

pub dives_end : pick_of (dives_after 9) ≡ Over
dives_end = refl

pub dives_view : dives_after 9 ≡ record {
  settings = switches false true;
  has_rows = true;
  open_nodes = [];
  held_nodes = [];
  branches = record { node = 0; col = 0; at = pos 0; first = 4; bound = pos 0 } ∷ [];
  cutoff = pos 1;
  cuts = [];
  entries = 9;
  starts = 2;
  cut_starts = 0;
  heuristic_starts = 1;
  has_halt = false;
}
dives_view = refl

-- without heuristics no dive is due
pub no_dives : pick_of (view_of three_columns (switches false false) (take 4 dives)) ≡ Node 5
no_dives = refl

-- a Halt ends the search, whatever is open
pub halt_ends : pick_of (view_of three_columns (switches false true)
    (take 4 dives ++ by 225 0 Halt ∷ [])) ≡ Over
halt_ends = refl

-- the names of both children are known, and no others but 0
abbrev known_after : ℕ → List ℕ → List Bool
known_after n [] = []
known_after n (x ∷ xs) = is_known (dives_after n) x ∷ known_after n xs

pub known_names : known_after 2 (0 ∷ 4 ∷ 5 ∷ 6 ∷ []) ≡ true ∷ true ∷ true ∷ false ∷ []
known_names = refl

pub known_names_before : known_after 1 (0 ∷ 4 ∷ 5 ∷ []) ≡ true ∷ false ∷ false ∷ []
known_names_before = refl

-- the lesser bound goes first, then the lesser name
abbrev three_splits : List KeyedEntry
three_splits = by 0 0 (Start 0) ∷ by 1 0 (Split 0 0 (pos 0) 8 2 (pos 3)) ∷ by 2 0 (Start 8)
    ∷ by 3 0 (Split 8 1 (pos 0) 4 2 (pos 3)) ∷ by 4 0 (Start 9)
    ∷ by 5 0 (Split 9 1 (pos 0) 12 2 (pos 2)) ∷ []

pub order : (view_of three_columns (switches false false) three_splits).open_nodes
    ≡ open_node 12 (pos 2) ∷ open_node 13 (pos 2) ∷ open_node 4 (pos 3) ∷ open_node 5 (pos 3) ∷ []
order = refl

-- the picks after each number of entries, of the three histories

abbrev picks_at : (ℕ → View) → List ℕ → List Pick
picks_at views [] = []
picks_at views (n ∷ ns) = pick_of (views n) ∷ picks_at views ns

pub two_slots_picks : picks_at two_slots_after (0 ∷ 1 ∷ 2 ∷ 3 ∷ 4 ∷ [])
    ≡ Node 0 ∷ Nothing ∷ Nothing ∷ Over ∷ Over ∷ []
two_slots_picks = refl

pub cut_loop_picks : picks_at cut_loop_after (0 ∷ 1 ∷ 2 ∷ 3 ∷ 4 ∷ 5 ∷ 6 ∷ 7 ∷ 8 ∷ [])
    ≡ CutLoop ∷ Node 0 ∷ Node 0 ∷ Node 0 ∷ Node 0 ∷ Nothing ∷ Nothing ∷ Over ∷ Over ∷ []
cut_loop_picks = refl

pub dives_picks : picks_at dives_after (0 ∷ 1 ∷ 2 ∷ 3 ∷ 4 ∷ 5 ∷ 6 ∷ 7 ∷ 8 ∷ 9 ∷ [])
    ≡ Node 0 ∷ Nothing ∷ Heuristic 5 ∷ Heuristic 5 ∷ Heuristic 5 ∷ Node 5 ∷ Node 5 ∷ Nothing ∷ Over
    ∷ Over ∷ []
dives_picks = refl
