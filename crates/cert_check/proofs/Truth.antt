-- An accepted certificate says the truth.
use Rattle.std.proofs.Common.{◌≡◌, ◌∙◌, ℕ, suc, ◌+◌, ◌⊎◌, inl, inr, List, [], ◌∷◌, length, length-set, nat_lt, ℤ, pos, ◌+ℤ◌, ◌≤ℤ◌, Option, Some, None, Result, Ok, Err, IfOk, refl, sym, subst, arith}
use Rattle.std.specs.Ordering.{int_eq}
use Rattle.std.specs.Int.{int_max}
use Rattle.std.proofs.lemmas.Int.{ints}
use Rattle.std.proofs.lemmas.Bool.Decides.{Decides-int_eq}
use Rattle.std.proofs.lemmas.Option.{none-some, same_Some}
use Rattle.ip_core.specs.Numbers.{int_at}
use Rattle.ip_core.specs.Sides.{Sides, IsInside, with_low, with_high}
use Rattle.ip_core.specs.Models.{IsModel}
use Rattle.ip_core.specs.Truth.{IsFeasible, value_at}
use Rattle.ip_core.specs.declared.memory.OutOfMemory.{OutOfMemory}
use Rattle.ip_core.specs.declared.model.ModelParts.{ModelParts}
use Rattle.ip_core.specs.declared.row.Row.{Row}
use Rattle.search_truth.specs.Cover.{HasFeasibleBest}
use Rattle.search_truth.specs.Search.{cutoff_of}
use Rattle.search_truth.proofs.Children.{inside_low_child, inside_high_child}
use Rattle.search_truth.proofs.Values.{value_at-le_greatest}
use Rattle.leaf_truth.specs.Laws.{AreValidCuts}
use Rattle.leaf_truth.specs.Leaves.{leaf_reason, IsValidLeaf}
use Rattle.leaf_truth.specs.declared.reason.LeafReason.{LeafReason}
use Rattle.leaf_truth.specs.declared.reason.LeafReason.TheVariants.{BadStep, BadConflict, BadBound}
use Rattle.leaf_truth.proofs.Closes.{leaf_closes}
use Rattle.cut_derive.proofs.Following.{derived_are_valid}
use Rattle.tree_cert.specs.Trees.{IsTree, due_after}
use Rattle.tree_cert.specs.declared.certificate.Certificate.{Certificate}
use Rattle.tree_cert.specs.declared.node.CertNode.{CertNode}
use Rattle.tree_cert.specs.declared.node.CertNode.TheVariants.{Split, Leaf as Ends}
use Rattle.cert_check.specs.declared.verdict.Why.TheVariants.{SplitColumn, SplitGap, Step, Conflict, Bound}
use Rattle.cert_check.specs.Nodes.{Fault, reason_unless, on_line, split_reason, why_of, nodes_fault}
use Rattle.cert_check.specs.Verdicts.{IsShown, IsTrueCertificate, AcceptedIsTrue, fault_of, verdict_of}
use Rattle.cert_check.specs.declared.verdict.Verdict.{Verdict}
use Rattle.cert_check.specs.declared.verdict.Verdict.TheVariants.{Accepted}
use Rattle.cert_check.proofs.CutRows.{are_derived}
use Rattle.cert_check.proofs.Faultless.{both_none, line_none, unless-true, faultless_of}

-- the point lies in one of the boxes
abbrev IsAmong : List Sides → List ℤ → Type 0
IsAmong [] y = ⊥
IsAmong (s ∷ boxes) y = IsInside s y ⊎ IsAmong boxes y

-- each box has n columns
abbrev HaveColumns : ℕ → List Sides → Type 0
HaveColumns n [] = Unit
HaveColumns n (s ∷ boxes) = (length s.lows ≡ n) × HaveColumns n boxes

why-none : (reason : Option LeafReason) → why_of reason ≡ None → reason ≡ None
why-none None none = refl
why-none (Some BadStep) none = absurd (none-some Step (sym none))
why-none (Some BadConflict) none = absurd (none-some Conflict (sym none))
why-none (Some BadBound) none = absurd (none-some Bound (sym none))

at_most_or_above : (a b : ℤ) → (a ≤ℤ b) ⊎ ((b +ℤ pos 1) ≤ℤ a)
at_most_or_above a b = grind (arith, ints)

-- a split parts its box among its children
split_cases : (s : Sides) (boxes : List Sides) (col : ℕ) (at next : ℤ) (y : List ℤ) → next ≡ at +ℤ pos 1 → IsInside s y → (int_at y col ≤ℤ at) ⊎ ((at +ℤ pos 1) ≤ℤ int_at y col) → IsAmong (with_high s col at ∷ with_low s col next ∷ boxes) y
split_cases s boxes col at next y gap inside (inl low) = inl (inside_low_child s col at y inside low)
split_cases s boxes col at next y gap inside (inr high) =
    inr (inl (subst (λ (n : ℤ). IsInside (with_low s col n) y) (sym gap) (inside_high_child s col at y inside high)))

split_among : (s : Sides) (boxes : List Sides) (col : ℕ) (at next : ℤ) (y : List ℤ) → next ≡ at +ℤ pos 1 → IsInside s y ⊎ IsAmong boxes y → IsAmong (with_high s col at ∷ with_low s col next ∷ boxes) y
split_among s boxes col at next y gap (inl inside) = split_cases s boxes col at next y gap inside (at_most_or_above (int_at y col) at)
split_among s boxes col at next y gap (inr among) = inr (inr among)

leaf_cases : (m : ModelParts) (v : ℤ) (s : Sides) (boxes : List Sides) (y : List ℤ) → (IsInside s y → v ≤ℤ value_at m y) → (IsAmong boxes y → v ≤ℤ value_at m y) → IsInside s y ⊎ IsAmong boxes y → v ≤ℤ value_at m y
leaf_cases m v s boxes y here later (inl inside) = here inside
leaf_cases m v s boxes y here later (inr among) = later among

nothing_due : (boxes : List Sides) (y : List ℤ) → length boxes ≡ 0 → IsAmong boxes y → ⊥
nothing_due [] y none among = among
nothing_due (s ∷ boxes) y none among = omega (arith, none)

-- where the trees that are due have no fault, each feasible point of their boxes has a value of at least v
pub nodes_hold : (m : ModelParts) (cuts : List Row) (v : ℤ) (line : ℕ) (boxes : List Sides) (nodes : List CertNode) (y : List ℤ) → IsModel m → AreValidCuts m cuts → HaveColumns (length m.cols) boxes → due_after (length boxes) nodes ≡ Some 0 → nodes_fault m cuts v line boxes nodes ≡ None → IsFeasible m y → IsAmong boxes y → v ≤ℤ value_at m y
nodes_hold m cuts v line boxes [] y valid of_cuts columns due none feasible among = absurd (nothing_due boxes y (same_Some (length boxes) 0 due) among)
nodes_hold m cuts v line [] (node ∷ nodes) y valid of_cuts columns due none feasible among = absurd among
nodes_hold m cuts v line (s ∷ boxes) (Split col at next ∷ nodes) y valid of_cuts columns due none feasible among =
    let rest = nodes_fault m cuts v (suc line) (with_high s col at ∷ with_low s col next ∷ boxes) nodes in
    let parts = both_none (on_line line (split_reason m col at next)) rest none in
    let reasons = both_none (reason_unless SplitColumn (nat_lt col (length m.cols))) (reason_unless SplitGap (int_eq next (at +ℤ pos 1))) (line_none line (split_reason m col at next) parts.0) in
    let gap = (Decides-int_eq next (at +ℤ pos 1)).0 (unless-true SplitGap (int_eq next (at +ℤ pos 1)) reasons.1) in
    let high_columns : length (with_low s col next).lows ≡ length m.cols = length-set s.lows col (int_max (int_at s.lows col) next) ∙ columns.0 in
    nodes_hold m cuts v (suc line) (with_high s col at ∷ with_low s col next ∷ boxes) nodes y valid of_cuts (columns.0, (high_columns, columns.1)) due parts.1 feasible
    (split_among s boxes col at next y gap among)
nodes_hold m cuts v line (s ∷ boxes) (Ends leaf ∷ nodes) y valid of_cuts columns due none feasible among =
    let rest = nodes_fault m cuts v (suc line) boxes nodes in
    let parts = both_none (on_line line (why_of (leaf_reason m cuts v s leaf))) rest none in
    let holds : IsValidLeaf m cuts v s leaf = record { no_reason = why-none (leaf_reason m cuts v s leaf) (line_none line (why_of (leaf_reason m cuts v s leaf)) parts.0) } in
    leaf_cases m v s boxes y (λ inside. (leaf_closes m cuts v s leaf valid of_cuts columns.0 holds).none_below y feasible inside)
    (λ later. nodes_hold m cuts v (suc line) boxes nodes y valid of_cuts columns.1 due parts.1 feasible later) among

shown_cases : (m : ModelParts) (v : ℤ) (point : Option (List ℤ)) → IsModel m → v ≡ cutoff_of m point → HasFeasibleBest m point → ((y : List ℤ) → IsFeasible m y → v ≤ℤ value_at m y) → IsShown m v point
shown_cases m v None valid value best holds = record {
  none = λ y feasible. omega (arith, ints, value, holds y feasible, value_at-le_greatest m m.root y valid feasible.one_each feasible.inside);
}
shown_cases m v (Some x) valid value best holds = (
  record { feasible = best.each x refl; least = λ y feasible. subst (λ (z : ℤ). z ≤ℤ value_at m y) value (holds y feasible) },
  value,
)

-- an accepted certificate says the truth
pub accepted_is_true : AcceptedIsTrue
accepted_is_true m c valid tree accepted =
    let faultless = faultless_of m c accepted in
    let of_cuts = derived_are_valid m faultless.derived valid (are_derived m c.cuts faultless.derived faultless.cuts) in
    record {
      shown = shown_cases m c.value c.point valid faultless.value faultless.point (λ y feasible.
          nodes_hold m faultless.derived c.value (7 + length c.cuts) (m.root ∷ []) c.nodes y valid of_cuts (valid.bounds.box, tt) tree.whole faultless.nodes feasible (inl feasible.inside));
    }

accepted_by : (fault : Option Fault) → verdict_of fault ≡ Accepted → fault ≡ None
accepted_by None is = refl
accepted_by (Some fault) is = cc

-- where the checker accepts it, it says the truth
pub verdict_is_true : (m : ModelParts) (c : Certificate) (verdict : Verdict) → IsModel m → IsTree c.nodes → verdict ≡ verdict_of (fault_of m c) → verdict ≡ Accepted → IsTrueCertificate m c
verdict_is_true m c verdict valid tree is accepted = accepted_is_true m c valid tree (record { none = accepted_by (fault_of m c) (sym is ∙ accepted) })

-- so of a verdict, if there is one
pub verdicts_are_true : (m : ModelParts) (c : Certificate) (result : Result Verdict OutOfMemory) → IsModel m → IsTree c.nodes → IfOk result (λ verdict. verdict ≡ verdict_of (fault_of m c)) → IfOk result (λ verdict. verdict ≡ Accepted → IsTrueCertificate m c)
verdicts_are_true m c (Ok verdict) valid tree is = verdict_is_true m c verdict valid tree is
verdicts_are_true m c (Err error) valid tree is = tt
