-- No count of entries of one kind is above that of all.
use Rattle.std.proofs.Common.{ℕ, zero, suc, ◌+◌, ◌≤◌, ◌<◌, ◌^◌, List, [], ◌∷◌, length, sym, subst, arith}
use Rattle.std.proofs.lemmas.Int.{ints}
use Rattle.ip_core.specs.Models.{IsModel}
use Rattle.ip_core.specs.declared.model.ModelParts.{ModelParts}
use Rattle.cut_derive.specs.Laws.{AreCutRows, AreDerived}
use Rattle.cut_derive.specs.declared.limits.TheConstants.{MAX_CUTS}
use Rattle.cut_derive.proofs.Following.{derived_are_cut_rows}
use Rattle.work_stamp.specs.declared.entry.Entry.{Entry}
use Rattle.work_stamp.specs.declared.entry.Entry.TheVariants.{Start, CutStart, HeurStart, Done, Found, Cut, Split, Closed, Halt}
use Rattle.work_stamp.specs.declared.stamped.KeyedEntry.{KeyedEntry}
use Rattle.node_pool.specs.Follows.{AreCounted, CanJoin, HasGround, HasRoom, MayJoin}
use Rattle.node_pool.specs.Lemmas.Cuts.{cuts_are_derived}
use Rattle.node_pool.specs.Views.{View, fresh_view, without_held, open_node, after_entry, view_after, with_branch, with_children}
use Rattle.node_pool.specs.declared.node.OpenNode.{OpenNode}

children_counted : (v : View) (low high : OpenNode) (keep n : ℕ) → v.starts ≤ n → v.cut_starts ≤ n
    → v.heuristic_starts ≤ n → AreCounted (record (with_children v low high keep) { entries = n })
children_counted v low high zero n a b c =
    record { starts = a; cut_starts = b; heuristic_starts = c }
children_counted v low high (suc zero) n a b c =
    record { starts = a; cut_starts = b; heuristic_starts = c }
children_counted v low high (suc (suc more)) n a b c =
    record { starts = a; cut_starts = b; heuristic_starts = c }

le_more : (a n : ℕ) → a ≤ n → a ≤ n + 1
le_more a n h = omega (arith, h)

both_more : (a n : ℕ) → a ≤ n → a + 1 ≤ n + 1
both_more a n h = omega (arith, h)

still_counted : (v : View) → AreCounted v → AreCounted (record v { entries = v.entries + 1 })
still_counted v c = record {
  starts = le_more _ _ c.starts;
  cut_starts = le_more _ _ c.cut_starts;
  heuristic_starts = le_more _ _ c.heuristic_starts;
}

entry_counted : (m : ModelParts) (v : View) (e : Entry) → AreCounted v → AreCounted (after_entry m v e)
entry_counted m v (Start node) c =
    record {
      starts = both_more _ _ c.starts;
      cut_starts = le_more _ _ c.cut_starts;
      heuristic_starts = le_more _ _ c.heuristic_starts;
    }
entry_counted m v CutStart c =
    record {
      starts = le_more _ _ c.starts;
      cut_starts = both_more _ _ c.cut_starts;
      heuristic_starts = le_more _ _ c.heuristic_starts;
    }
entry_counted m v (HeurStart node) c =
    record {
      starts = le_more _ _ c.starts;
      cut_starts = le_more _ _ c.cut_starts;
      heuristic_starts = both_more _ _ c.heuristic_starts;
    }
entry_counted m v Done c = still_counted v c
entry_counted m v (Found value point) c =
    record {
      starts = le_more _ _ c.starts;
      cut_starts = le_more _ _ c.cut_starts;
      heuristic_starts = le_more _ _ c.heuristic_starts;
    }
entry_counted m v (Cut derivation) c =
    record {
      starts = le_more _ _ c.starts;
      cut_starts = le_more _ _ c.cut_starts;
      heuristic_starts = le_more _ _ c.heuristic_starts;
    }
entry_counted m v (Split node col at first keep bound) c =
    children_counted (with_branch (without_held v node)
    (record { node = node; col = col; at = at; first = first; bound = bound }))
    (open_node first bound) (open_node (first + 1) bound) keep (v.entries + 1)
    (le_more _ _ c.starts) (le_more _ _ c.cut_starts) (le_more _ _ c.heuristic_starts)
entry_counted m v (Closed node) c =
    record {
      starts = le_more _ _ c.starts;
      cut_starts = le_more _ _ c.cut_starts;
      heuristic_starts = le_more _ _ c.heuristic_starts;
    }
entry_counted m v Halt c = record {
  starts = le_more _ _ c.starts;
  cut_starts = le_more _ _ c.cut_starts;
  heuristic_starts = le_more _ _ c.heuristic_starts;
}

all_counted : (m : ModelParts) (v : View) (es : List KeyedEntry) → AreCounted v → AreCounted (view_after m v es)
all_counted m v [] c = c
all_counted m v (e ∷ es) c = all_counted m (after_entry m v e.entry) es (entry_counted m v e.entry c)

-- a view that an entry may join leaves room in each count
pub room : (m : ModelParts) (v : View) (e : Entry) → CanJoin m v e → HasRoom v
room m v e joins = record {
  counts = subst AreCounted (sym joins.is)
      (all_counted m (fresh_view m v.settings) joins.history
      (record { starts = omega arith; cut_starts = omega arith; heuristic_starts = omega arith }));
  short = joins.follows.short;
}

-- the cuts of a view that an entry may join are like the model's rows
cuts_of : (m : ModelParts) (v : View) (e : Entry) → IsModel m → CanJoin m v e
    → AreCutRows m v.cuts
cuts_of m v e valid joins = derived_are_cut_rows m v.cuts valid
    (subst (λ (w : View). AreDerived m w.cuts) (sym joins.is)
    (cuts_are_derived.of_history m v.settings joins.history))

few_cuts : (n : ℕ) → n < MAX_CUTS → n ≤ 2 ^ 30
few_cuts n few = omega (arith, few)

-- what an entry's effect relies on
entry_ground : (m : ModelParts) (v : View) (e : Entry) → AreCutRows m v.cuts → MayJoin m v e
    → HasGround m v e
entry_ground m v (Start node) rows may = tt
entry_ground m v CutStart rows may = tt
entry_ground m v (HeurStart node) rows may = tt
entry_ground m v Done rows may = tt
entry_ground m v (Found value point) rows may = tt
entry_ground m v (Cut derivation) rows may = record {
  cuts = record {
    rows = record { each = λ k d below. (rows.each k d below).valid };
    few = few_cuts (length v.cuts) may.few;
  };
  row = may.row;
  derived = may.derived;
}
entry_ground m v (Split node col at first keep bound) rows may = record {
  successors = record {
    number = omega (arith, ints, may.cut.below);
    name = omega (arith, may.room);
  };
  first_new = may.first_new;
  second_new = may.second_new;
}
entry_ground m v (Closed node) rows may = tt
entry_ground m v Halt rows may = tt

-- an entry that may join has it
pub ground : (m : ModelParts) (v : View) (e : Entry) → IsModel m → CanJoin m v e → HasGround m v e
ground m v e valid joins = entry_ground m v e (cuts_of m v e valid joins) joins.follows.joins
