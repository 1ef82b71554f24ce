-- The certificate of a finished search is a proof.
use Rattle.std.proofs.Common.{◌≡◌, ◌∙◌, ℕ, ◌+◌, inl, true, nat_eq, List, [], ◌∷◌, ◌++◌, append_assoc, length, ℤ, Option, Some, None, Result, refl, sym, ap, subst, arith}
use Rattle.std.proofs.lemmas.Bool.{and_parts}
use Rattle.std.proofs.lemmas.List.{append-nil, nil_from_length}
use Rattle.std.proofs.lemmas.Option.{none-some, same_Some}
use Rattle.ip_core.specs.declared.derivation.Derivation.{Derivation}
use Rattle.ip_core.specs.declared.leaf.Leaf.{Leaf}
use Rattle.ip_core.specs.declared.leaf.Record.{Record}
use Rattle.ip_core.specs.declared.model.ModelParts.{ModelParts}
use Rattle.ip_core.specs.declared.row.Row.{Row}
use Rattle.ip_core.specs.Truth.{IsFeasible}
use Rattle.leaf_truth.specs.Leaves.{IsValidLeaf}
use Rattle.search_truth.specs.Cover.{HasFeasibleBest}
use Rattle.search_truth.specs.Search.{cutoff_of}
use Rattle.cut_derive.specs.declared.refusal.Refusal.{Refusal}
use Rattle.work_stamp.specs.declared.entry.Entry.{Entry}
use Rattle.work_stamp.specs.declared.entry.Entry.TheVariants.{Start, CutStart, HeurStart, Done, Found, Cut, Split, Closed, Halt}
use Rattle.work_stamp.specs.declared.stamped.KeyedEntry.{KeyedEntry}
use Rattle.stamp_machine.specs.declared.history.History.{History}
use Rattle.node_pool.specs.Branchings.{box_of}
use Rattle.node_pool.specs.Follows.{MayJoin}
use Rattle.node_pool.specs.Lemmas.Boxes.{boxes_are_parts}
use Rattle.node_pool.specs.Lemmas.Cuts.{children_cuts}
use Rattle.node_pool.specs.Views.{View, after_entry, fresh_view, is_finished, open_node, view_after, with_row}
use Rattle.task_steps.specs.Answers.{splits_alone}
use Rattle.task_steps.specs.Claims.{count_left, count_name, count_open}
use Rattle.task_steps.specs.Lemmas.Entries.{base_of}
use Rattle.task_steps.specs.Lemmas.NameCounts.{eq_from_test}
use Rattle.task_steps.specs.Sound.{IsFound, best_point}
use Rattle.task_steps.specs.declared.answer.Best.{Best}
use Rattle.cert_check.specs.Nodes.{nodes_fault}
use Rattle.cert_check.specs.Verdicts.{AreDerivedBy, IsFaultless, NoCut, OneMore}
use Rattle.cert_check.proofs.Faultless.{accepted_is_faultless}
use Rattle.tree_build.specs.Certificates.{certificate_of, derivation_of, derivations_of, shown_value, with_derivation}
use Rattle.tree_build.specs.Laws.{FinishedIsProof, HasSomeRecord, IsFinished, last_view}
use Rattle.tree_build.specs.ProofTrees.{all_records, first_record, leaf_or_empty, proof_tree}
use Rattle.tree_build.proofs.Holding.{Close, HasLeaf, tree_holds}
use Rattle.tree_build.proofs.Partings.{Follows, follows_first}
use Rattle.tree_build.proofs.RecordsNamed.{HasFirst, first_among_slots, has_first_of}
use Rattle.tree_build.proofs.WholeTrees.{trees_are_whole}

-- ---- nothing is left

none_left : (v : View) (name : ℕ) → is_finished v ≡ true → count_left v name ≡ 0
none_left v name h =
    let parts = and_parts (nat_eq (length v.open_nodes) 0) (nat_eq (length v.held_nodes) 0) h in
    let opened = ap (count_open name) (nil_from_length v.open_nodes (eq_from_test (length v.open_nodes) 0 parts.0)) in
    let held = ap (count_name name) (nil_from_length v.held_nodes (eq_from_test (length v.held_nodes) 0 parts.1)) in
    omega (arith, opened, held)

-- ---- the cuts

-- none more
no_more : (m : ModelParts) (cuts : List Derivation) (rows : List Row) → AreDerivedBy m cuts rows
    → AreDerivedBy m (cuts ++ []) rows
no_more m cuts rows derived =
    subst (λ (ds : List Derivation). AreDerivedBy m ds rows) (sym (append-nil cuts)) derived

split_cuts : (m : ModelParts) (v : View) (node col : ℕ) (mid : ℤ) (first keep : ℕ) (bound : ℤ)
    → (after_entry m v (Split node col mid first keep bound)).cuts ≡ v.cuts
split_cuts m v node col mid first keep bound =
    children_cuts (base_of v node col mid first bound) (open_node first bound)
    (open_node (first + 1) bound) keep

-- derivations with that of one more entry
abbrev more_derivations : List Derivation → Option Derivation → List Derivation
more_derivations cuts o = cuts ++ with_derivation o []

-- an entry that may join leaves cuts that follow one after the other
derived_next : (m : ModelParts) (v : View) (e : Entry) (cuts : List Derivation) → MayJoin m v e
    → AreDerivedBy m cuts v.cuts
    → AreDerivedBy m (more_derivations cuts (derivation_of e)) (after_entry m v e).cuts
derived_next m v (Start node) cuts may derived = no_more m cuts v.cuts derived
derived_next m v CutStart cuts may derived = no_more m cuts v.cuts derived
derived_next m v (HeurStart node) cuts may derived = no_more m cuts v.cuts derived
derived_next m v Done cuts may derived = no_more m cuts v.cuts derived
derived_next m v (Found value point) cuts may derived = no_more m cuts v.cuts derived
derived_next m v (Cut derivation) cuts may derived =
    subst (λ (answer : Result Row Refusal).
    AreDerivedBy m (cuts ++ derivation ∷ []) (with_row v.cuts answer)) (sym may.derived)
    (OneMore cuts v.cuts derivation may.row derived may.derived)
derived_next m v (Split node col mid first keep bound) cuts may derived =
    subst (AreDerivedBy m (cuts ++ [])) (sym (split_cuts m v node col mid first keep bound))
    (no_more m cuts v.cuts derived)
derived_next m v (Closed node) cuts may derived = no_more m cuts v.cuts derived
derived_next m v Halt cuts may derived = no_more m cuts v.cuts derived

with_later : (o : Option Derivation) (later : List Derivation)
    → with_derivation o [] ++ later ≡ with_derivation o later
with_later None later = refl
with_later (Some derivation) later = refl

-- and so do all entries that may follow
derived_all : (m : ModelParts) (v : View) (es : List KeyedEntry) (cuts : List Derivation)
    → Follows m v es → AreDerivedBy m cuts v.cuts
    → AreDerivedBy m (cuts ++ derivations_of es) (view_after m v es).cuts
derived_all m v [] cuts follow derived = no_more m cuts v.cuts derived
derived_all m v (e ∷ es) cuts follow derived =
    let o = derivation_of e.entry in
    subst (λ (ds : List Derivation). AreDerivedBy m ds (view_after m v (e ∷ es)).cuts)
    (append_assoc cuts (with_derivation o []) (derivations_of es)
    ∙ ap (λ (ds : List Derivation). cuts ++ ds) (with_later o (derivations_of es)))
    (derived_all m (after_entry m v e.entry) es (more_derivations cuts o) follow.1
    (derived_next m v e.entry cuts follow.0.joins derived))

-- ---- the value and the point

value_is : (m : ModelParts) (best : Option Best) → IsFound m best
    → shown_value m best ≡ cutoff_of m (best_point best)
value_is m None found = refl
value_is m (Some best) found = found.1

point_is : (m : ModelParts) (best : Option Best) → IsFound m best
    → HasFeasibleBest m (best_point best)
point_is m None found = record { each = λ x none. absurd (none-some x none) }
point_is m (Some best) found =
    record { each = λ x is. subst (IsFeasible m) (same_Some best.point x is) found.0 }

-- ---- the leaves

module _ (m : ModelParts) (history : History) (best : Option Best)
    (finished : IsFinished m history best) where
  abbrev records : List Record
  records = all_records history.records

  abbrev v_end : View
  v_end = last_view m history

  abbrev value : ℤ
  value = shown_value m best

  abbrev LeafHolds : ℕ → Type 0
  LeafHolds name = HasLeaf m records v_end value name

  -- the first record of a name holds
  record_holds : (name : ℕ) → HasFirst (first_record records name) → LeafHolds name
  record_holds name first =
      let among = first_among_slots history.records name first.item first.is in
      let held = finished.true_records among.slot among.place first.item among.there in
      let valid : IsValidLeaf m v_end.cuts v_end.cutoff (box_of m.root v_end.branches name)
      first.item.leaf =
      subst (λ (n : ℕ). IsValidLeaf m v_end.cuts v_end.cutoff (box_of m.root v_end.branches n)
      first.item.leaf) among.named held.leaf in
      record {
        valid = subst (λ (leaf : Leaf). IsValidLeaf m v_end.cuts value (box_of m.root v_end.branches name)
            leaf) (ap leaf_or_empty (sym first.is))
            (subst (λ (z : ℤ). IsValidLeaf m v_end.cuts z (box_of m.root v_end.branches name)
            first.item.leaf) (finished.cutoff ∙ sym (value_is m best finished.found)) valid);
      }

  some_record : (name : ℕ) → HasSomeRecord history name → LeafHolds name
  some_record name has =
      record_holds name (has_first_of history.records name has.slot has.record_there.place
      has.record_there.item has.record_there.there has.record_there.named)

  closes : Close m records v_end value history.entries
  closes place name key there = some_record name (finished.closed_nodes place name key there)

  follows : Follows m (fresh_view m splits_alone) history.entries
  follows = follows_first m history.entries finished.read

  nodes_hold : (line : ℕ) → nodes_fault m v_end.cuts value line (m.root ∷ [])
      (proof_tree history.records history.entries) ≡ None
  nodes_hold line =
      ap (nodes_fault m v_end.cuts value line (m.root ∷ []))
      (sym (append-nil (proof_tree history.records history.entries)))
      ∙ tree_holds m records v_end value (fresh_view m splits_alone) history.entries
      (boxes_are_parts.known_at_first m splits_alone) follows refl
      (λ name. none_left v_end name finished.over) closes 0 [] [] refl
      (inl (omega arith)) (λ other. refl) line

  pub faultless : IsFaultless m (certificate_of m history best)
  faultless = record {
    cols = refl;
    rows = refl;
    value = value_is m best finished.found;
    point = point_is m best finished.found;
    derived = v_end.cuts;
    cuts = derived_all m (fresh_view m splits_alone) history.entries [] follows NoCut;
    nodes = nodes_hold (7 + length (derivations_of history.entries));
  }

pub finished_is_proof : FinishedIsProof
finished_is_proof m history best finished = record {
  tree = trees_are_whole history.records history.entries;
  accepted = (accepted_is_faultless m (certificate_of m history best)).1
      (faultless m history best finished);
}
