use Rattle.std.proofs.Common.{◌≡◌, ◌∙◌, sym, ap, subst, List, [], ◌∷◌, Bool, ℤ, w64, arith}
use Rattle.std.proofs.lemmas.Int.{to_z-of_z}
use Rattle.ip_core.specs.Sides.{Sides}
use Rattle.cert_check.specs.Nodes.{nodes_fault}
use Rattle.cert_check.specs.Walks.{AreWithin, boxes_if, boxes_after}
use Rattle.cert_check.proofs.Looping.{first_within, column_known, rejected, accepted, goes_on, after_within}
use Rattle.cert_check.proofs.nodes.nodes_verdict.Goals as goal

pub node_reason-requires-clause-within : goal.node_reason-requires-clause-within
node_reason-requires-clause-within c = first_within _ _ _ c.loop-node.invariant.within

pub returns-in-Some : goal.returns-in-Some
returns-in-Some c =
    let m = c.args.model.now in
    let cuts = c.args.cuts.now in
    let nodes = c.args.nodes.now in
    let value = ap (λ (v : ℤ). nodes_fault m cuts v c.args.first_line (m.root ∷ []) nodes) (to_z-of_z w64 c.args.value c.ranges.value) in
    rejected m cuts _ c.loop-node.line c.loop-node.walk nodes c.loop-node.node-index c.node-item.result c.loop-node-test.true c.node-item.is _ c.in-Some.why
    (c.loop-node.invariant.fault ∙ value) (sym c.in_ok-why.ensures.reason ∙ c.in-Some.is)

pub go_on-requires : goal.go_on-requires
go_on-requires c =
    column_known c.args.model.now c.args.cuts.now _ c.loop-node.walk.here c.node-item.result c.parts-limits.ensures.limits (first_within _ _ _ c.loop-node.invariant.within) (sym c.in_ok-why.ensures.reason ∙ c.in_default.is)

pub returns-then-not-branch : goal.returns-then-not-branch
returns-then-not-branch c =
    let m = c.args.model.now in
    let cuts = c.args.cuts.now in
    let nodes = c.args.nodes.now in
    let value = ap (λ (v : ℤ). nodes_fault m cuts v c.args.first_line (m.root ∷ []) nodes) (to_z-of_z w64 c.args.value c.ranges.value) in
    let none : [] ≡ boxes_after c.loop-node.walk c.node-item.result = sym (ap (λ (left : Bool). boxes_if left c.go_on.new.walk) c.if-not-branch.true) ∙ c.in_ok-go_on.ensures in
    accepted m cuts _ c.loop-node.line c.loop-node.walk nodes c.loop-node.node-index c.node-item.result c.loop-node-test.true c.node-item.is _
    (c.loop-node.invariant.fault ∙ value) (sym c.in_ok-why.ensures.reason ∙ c.in_default.is) none

pub loop-node-preserved : goal.loop-node-preserved
loop-node-preserved c =
    let m = c.args.model.now in
    let next = c.go_on.new.walk in
    let boxes : next.here ∷ next.later ≡ boxes_after c.loop-node.walk c.node-item.result = sym (ap (λ (left : Bool). boxes_if left next) c.if-not-branch.false) ∙ c.in_ok-go_on.ensures in
    record {
      line = omega (arith, c.loop-node.invariant.line);
      fault = goes_on m c.args.cuts.now _ c.loop-node.line c.loop-node.walk c.args.nodes.now c.loop-node.node-index c.node-item.result c.loop-node-test.true c.node-item.is _ next
          c.loop-node.invariant.fault (sym c.in_ok-why.ensures.reason ∙ c.in_default.is) boxes;
      within = subst (λ (b : List Sides). AreWithin m.root b) (sym boxes) (after_within m.root c.loop-node.walk c.node-item.result c.loop-node.invariant.within);
      room = c.node_reason.ensures.room;
    }
