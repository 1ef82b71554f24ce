-- The certificate of a finished search keeps to the ranges of its text.
use Rattle.std.proofs.Common.{◌≡◌, ◌∙◌, ℕ, ◌+◌, ◌*◌, ◌≤◌, ◌<◌, ◌^◌, Bool, true, false, ◌||◌, nat_eq, List, [], ◌∷◌, ◌++◌, map, length, ℤ, pos, ◌+ℤ◌, ◌≤ℤ◌, unsigned_abs, Option, Some, None, All, refl, sym, subst, arith}
use Rattle.std.specs.Int.{int_max}
use Rattle.std.specs.List.{AllByRecursion}
use Rattle.std.proofs.lemmas.Int.{ints}
use Rattle.std.proofs.lemmas.List.{get_or_default, length-set}
use Rattle.ip_core.specs.Boxes.{greatest_value, least_value}
use Rattle.ip_core.specs.Models.{IsModel}
use Rattle.ip_core.specs.Numbers.{int_at}
use Rattle.ip_core.specs.Sides.{Sides}
use Rattle.ip_core.specs.Truth.{IsFeasible, value_at}
use Rattle.ip_core.specs.declared.leaf.Record.{Record}
use Rattle.ip_core.specs.declared.model.ModelParts.{ModelParts}
use Rattle.ip_core.proofs.IntSums.{unsigned_abs_between}
use Rattle.ip_core.proofs.Reaching.{greatest_shares_small, least_shares_small, root_within_reach}
use Rattle.search_truth.proofs.Values.{least_value-le, value_at-le_greatest}
use Rattle.work_stamp.specs.declared.stamped.KeyedEntry.{KeyedEntry}
use Rattle.stamp_machine.specs.declared.history.History.{History}
use Rattle.node_pool.specs.Branchings.{Branch, box_by, box_of, boxes_after, boxes_with, change_for}
use Rattle.node_pool.specs.Views.{View, fresh_view}
use Rattle.node_pool.specs.declared.bound_change.BoundChange.{BoundChange}
use Rattle.node_pool.specs.declared.bound_change.BoundChange.TheVariants.{High, Low}
use Rattle.task_steps.specs.Answers.{splits_alone}
use Rattle.task_steps.specs.Claims.{count_name, one_if}
use Rattle.task_steps.specs.Fits.{AreFewDerived}
use Rattle.task_steps.specs.Lemmas.NameCounts.{one_at_most}
use Rattle.task_steps.specs.Lemmas.TaskCuts.{none_derived}
use Rattle.task_steps.specs.Sound.{IsFound, best_point}
use Rattle.task_steps.specs.declared.answer.Best.{Best}
use Rattle.cert_line.specs.Lines.{IsCount, IsLeaf, IsLine, IsNode, IsNumber, IsPoint}
use Rattle.cert_line.specs.declared.line.Line.{Line}
use Rattle.cert_line.specs.declared.line.Line.TheVariants.{Cut as CutLine, End, Node}
use Rattle.cert_text.specs.Certificates.{IsCertificate, cut_lines, point_lines, size_lines, tree_lines}
use Rattle.tree_build.specs.Certificates.{certificate_of, derivations_of, shown_value}
use Rattle.tree_build.specs.Laws.{FinishedHasText, IsFinished, IsSmallHistory, last_view}
use Rattle.tree_build.specs.ProofTrees.{all_records, empty_leaf, first_record, leaf_named, leaf_or_empty, proof_tree}
use Rattle.tree_build.proofs.AllItems.{all_append, all_from, all_map}
use Rattle.tree_build.proofs.CutRanges.{cuts_few, cuts_range, few_at_end}
use Rattle.tree_build.proofs.LeafRanges.{HasFewCuts, leaf_range}
use Rattle.tree_build.proofs.NodeCounts.{AreDistinct, sizes_few}
use Rattle.tree_build.proofs.NodeRanges.{tree_range}
use Rattle.tree_build.proofs.Partings.{Follows, follows_first}
use Rattle.tree_build.proofs.RecordsNamed.{first_among_slots}
use Rattle.tree_build.proofs.WholeTrees.{trees_are_whole}

-- ---- the columns of boxes

change_columns : (n : ℕ) (o : Option BoundChange) (own parent : Sides) → length own.lows ≡ n
    → length parent.lows ≡ n → length (box_by o own parent).lows ≡ n
change_columns n None own parent first second = first
change_columns n (Some (High col high)) own parent first second = second
change_columns n (Some (Low col low)) own parent first second =
    length-set parent.lows col (int_max (int_at parent.lows col) low) ∙ second

boxes_columns : (n : ℕ) (boxes : ℕ → Sides) (bs : List Branch) (name : ℕ)
    → ((k : ℕ) → length (boxes k).lows ≡ n) → length (boxes_after boxes bs name).lows ≡ n
boxes_columns n boxes [] name each = each name
boxes_columns n boxes (b ∷ bs) name each =
    boxes_columns n (boxes_with boxes b) bs name (λ k.
    change_columns n (change_for b k) (boxes k) (boxes b.node) (each k) (each b.node))

-- ---- the value and the point

value_range : (m : ModelParts) (best : Option Best) → IsModel m → IsFound m best
    → IsNumber (shown_value m best)
value_range m None valid found =
    let small = greatest_shares_small m m.root (length m.costs) valid (root_within_reach m.root)
    (omega arith) in
    record { small = omega (arith, ints, small) }
value_range m (Some best) valid found =
    let x = best.point in
    let one_each = found.0.one_each in
    let inside = found.0.inside in
    let between = unsigned_abs_between (least_value m m.root) (value_at m x)
    (greatest_value m m.root) (least_value-le m m.root x valid one_each inside)
    (value_at-le_greatest m m.root x valid one_each inside) in
    let least = least_shares_small m m.root (length m.costs) valid (root_within_reach m.root)
    (omega arith) in
    let greatest = greatest_shares_small m m.root (length m.costs) valid
    (root_within_reach m.root) (omega arith) in
    subst IsNumber (sym found.1) (record { small = omega (arith, between, least, greatest) })

point_small : (m : ModelParts) (x : List ℤ) → IsModel m → IsFeasible m x
    → All (λ (z : ℤ). unsigned_abs z ≤ 2 ^ 31) x
point_small m x valid feasible = λ k d within.
    let low : k < length m.root.lows = omega (arith, within, feasible.one_each, valid.bounds.box) in
    let high : k < length m.root.highs =
    omega (arith, within, feasible.one_each, valid.bounds.highs) in
    let between = unsigned_abs_between (int_at m.root.lows k) (int_at x k) (int_at m.root.highs k)
    (feasible.inside.above k within) (feasible.inside.below k within) in
    let first = valid.bounds.limits.lows.each k (pos 0) low in
    let second = valid.bounds.limits.highs.each k (pos 0) high in
    subst (λ (z : ℤ). unsigned_abs z ≤ 2 ^ 31) (get_or_default x k (pos 0) d within)
    (omega (arith, between, first, second))

number_range : (z : ℤ) → unsigned_abs z ≤ 2 ^ 31 → IsNumber z
number_range z small = record { small = omega (arith, small) }

point_range : (m : ModelParts) (best : Option Best) → IsModel m → IsFound m best
    → IsPoint (best_point best)
point_range m None valid found = tt
point_range m (Some best) valid found =
    all_from (λ (z : ℤ). unsigned_abs z ≤ 2 ^ 31) IsNumber best.point
    (point_small m best.point valid found.0) number_range

-- ---- the root

root_known : (t b : Bool) → 1 ≤ one_if t + 0 → (t || b) ≡ true
root_known true b some = refl
root_known false b some = absurd (omega (arith, some))

root_distinct : (m : ModelParts) → AreDistinct (fresh_view m splits_alone) (0 ∷ [])
root_distinct m = record {
  once = λ name. omega (arith, one_at_most (nat_eq 0 name));
  known = λ name some. root_known (nat_eq 0 name) false some;
}

module _ (m : ModelParts) (history : History) (best : Option Best) (valid : IsModel m)
    (finished : IsFinished m history best) (small : IsSmallHistory history) where
  abbrev records : List Record
  records = all_records history.records

  abbrev v_end : View
  v_end = last_view m history

  abbrev follows : Follows m (fresh_view m splits_alone) history.entries
  follows = follows_first m history.entries finished.read

  few_cuts : HasFewCuts m v_end.cuts
  few_cuts = record {
    valid = valid;
    few = (few_at_end m (fresh_view m splits_alone) history.entries follows (none_derived m)).few;
  }

  -- ---- the tree

  leaf_cases : (name : ℕ) (o : Option Record) → first_record records name ≡ o
      → IsLeaf (leaf_or_empty o)
  leaf_cases name None is = record {
    steps = record { each = tt; few = record { small = omega arith } };
    closing = record { each = tt; few = record { small = omega arith } };
  }
  leaf_cases name (Some item) is =
      let among = first_among_slots history.records name item is in
      let held = finished.true_records among.slot among.place item among.there in
      let steps = small.steps among.slot among.place item among.there in
      leaf_range m v_end.cuts v_end.cutoff (box_of m.root v_end.branches item.node) item.leaf
      few_cuts
      (boxes_columns (length m.cols) (λ other. m.root) v_end.branches item.node
      (λ k. valid.bounds.box)) held.leaf steps

  leaves_range : (name : ℕ) → IsLeaf (leaf_named records name)
  leaves_range name = leaf_cases name (first_record records name) refl

  nodes_range : AllByRecursion IsNode (proof_tree history.records history.entries)
  nodes_range = tree_range m valid records leaves_range (fresh_view m splits_alone) history.entries 0
      follows

  nodes_few : IsCount (length (proof_tree history.records history.entries))
  nodes_few =
      let few = sizes_few records m (fresh_view m splits_alone) history.entries (0 ∷ []) follows
      (root_distinct m) in
      record { small = omega (arith, few, small.entries) }

  -- ---- the lines

  sizes_range : AllByRecursion IsLine (size_lines (length m.cols) (length m.rows))
  sizes_range = (
    tt,
    (
      (
        record { small = omega (arith, valid.bounds.columns) },
        record { small = omega (arith, valid.few.row_limit) },
      ),
      tt,
    ),
  )

  points_range : AllByRecursion IsLine (point_lines (shown_value m best) (best_point best))
  points_range = (
    value_range m best valid finished.found,
    (point_range m best valid finished.found, tt),
  )

  cut_lines_range : AllByRecursion IsLine (cut_lines (derivations_of history.entries))
  cut_lines_range = (
    record { small = omega (arith, cuts_few history.entries, small.entries) },
    all_map IsLine CutLine (derivations_of history.entries)
        (cuts_range m (fresh_view m splits_alone) history.entries valid follows
        (none_derived m)),
  )

  tree_lines_range : AllByRecursion IsLine (tree_lines (proof_tree history.records history.entries))
  tree_lines_range =
      (nodes_few, all_map IsLine Node (proof_tree history.records history.entries) nodes_range)

  pub certificate_range : IsCertificate (certificate_of m history best)
  certificate_range =
      let nodes = tree_lines (proof_tree history.records history.entries) in
      let cuts = cut_lines (derivations_of history.entries) in
      let point = point_lines (shown_value m best) (best_point best) in
      record {
        lines = all_append IsLine (size_lines (length m.cols) (length m.rows))
            (point ++ (cuts ++ (nodes ++ (End ∷ [])))) sizes_range
            (all_append IsLine point (cuts ++ (nodes ++ (End ∷ []))) points_range
            (all_append IsLine cuts (nodes ++ (End ∷ [])) cut_lines_range
            (all_append IsLine nodes (End ∷ []) tree_lines_range (tt, tt))));
        tree = trees_are_whole history.records history.entries;
      }

pub finished_has_text : FinishedHasText
finished_has_text m history best valid finished small =
    certificate_range m history best valid finished small
