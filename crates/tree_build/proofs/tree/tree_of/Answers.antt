use Rattle.std.proofs.Common.{◌∙◌, List, [], ◌∷◌, ◌++◌, ap}
use Rattle.ip_core.specs.declared.leaf.Record.{Record}
use Rattle.tree_cert.specs.declared.node.CertNode.{CertNode}
use Rattle.tree_cert.specs.declared.node.CertNode.TheVariants.{Leaf as Ends}
use Rattle.tree_build.specs.ProofTrees.{all_records, leaf_named, proof_tree, split_node}
use Rattle.tree_build.proofs.Stacks.{fewer, leaf_due, moved, split_due, stacked, successors}
use Rattle.tree_build.proofs.tree.tree_of.Goals as goal

pub split_node-requires : goal.split_node-requires
split_node-requires c =
    (successors c.requires.model c.args.history.now.records c.args.history.now.entries
    c.as_slice.result.now c.in_ok-partings.partings c.in-Some.name c.in-Some-get.parting.now
    c.requires.read c.as_slice.ensures c.in_ok-partings.ensures c.in-Some-get.ensures.value).number

pub push_children-requires : goal.push_children-requires
push_children-requires c =
    (successors c.requires.model c.args.history.now.records c.args.history.now.entries
    c.as_slice.result.now c.in_ok-partings.partings c.in-Some.name c.in-Some-get.parting.now
    c.requires.read c.as_slice.ensures c.in_ok-partings.ensures c.in-Some-get.ensures.value).name

pub loop-name-smaller-in_ok-push_children-in-Some-get : goal.loop-name-smaller-in_ok-push_children-in-Some-get
loop-name-smaller-in_ok-push_children-in-Some-get c =
    let records = all_records c.args.history.now.records in
    let es = c.args.history.now.entries in
    fewer (stacked records es c.loop-name.due.items)
    (stacked records es c.push_children.new.due.items) (split_node c.in-Some-get.parting.now)
    (split_due c.requires.model c.args.history.now.records es c.as_slice.result.now
    c.in_ok-partings.partings c.in-Some.name c.in-Some-get.parting.now c.loop-name.due.items
    c.pop.new.self.items c.push_children.new.due.items
    c.requires.read c.as_slice.ensures c.in_ok-partings.ensures c.in-Some-get.ensures.value
    c.in-Some.ensures.items c.in_ok-push_children-in-Some-get.ensures)

pub loop-name-preserved-in_ok-push_children-in-Some-get :
    goal.loop-name-preserved-in_ok-push_children-in-Some-get
loop-name-preserved-in_ok-push_children-in-Some-get c =
    let lists = c.args.history.now.records in
    let records = all_records lists in
    let es = c.args.history.now.entries in
    moved (proof_tree lists es) c.loop-name.nodes c.push-in-Some-get.new.self
    (stacked records es c.loop-name.due.items)
    (stacked records es c.push_children.new.due.items) (split_node c.in-Some-get.parting.now)
    (split_due c.requires.model lists es c.as_slice.result.now
    c.in_ok-partings.partings c.in-Some.name c.in-Some-get.parting.now c.loop-name.due.items
    c.pop.new.self.items c.push_children.new.due.items
    c.requires.read c.as_slice.ensures c.in_ok-partings.ensures c.in-Some-get.ensures.value
    c.in-Some.ensures.items c.in_ok-push_children-in-Some-get.ensures)
    (c.in_ok-push-in-Some-get.ensures.ok
    ∙ ap (λ (node : CertNode). c.loop-name.nodes ++ node ∷ []) c.split_node.ensures)
    c.loop-name.invariant

pub loop-name-smaller : goal.loop-name-smaller
loop-name-smaller c =
    let lists = c.args.history.now.records in
    let es = c.args.history.now.entries in
    fewer (stacked (all_records lists) es c.loop-name.due.items)
    (stacked (all_records lists) es c.pop.new.self.items)
    (Ends c.in_ok-leaf_of-in-None.field-0)
    (leaf_due c.requires.model lists es c.as_slice.result.now c.in_ok-partings.partings
    c.in-Some.name c.in_ok-leaf_of-in-None.field-0 c.loop-name.due.items c.pop.new.self.items
    c.as_slice.ensures c.in_ok-partings.ensures c.in-None.ensures.value c.in-Some.ensures.items
    (c.in_ok-leaf_of-in-None.ensures
    ∙ ap (λ (ls : List (List Record)). leaf_named (all_records ls) c.in-Some.name)
    c.as_slice-lists.ensures))

pub loop-name-preserved : goal.loop-name-preserved
loop-name-preserved c =
    let lists = c.args.history.now.records in
    let records = all_records lists in
    let es = c.args.history.now.entries in
    moved (proof_tree lists es) c.loop-name.nodes c.push-in-None.new.self
    (stacked records es c.loop-name.due.items) (stacked records es c.pop.new.self.items)
    (Ends c.in_ok-leaf_of-in-None.field-0)
    (leaf_due c.requires.model lists es c.as_slice.result.now c.in_ok-partings.partings
    c.in-Some.name c.in_ok-leaf_of-in-None.field-0 c.loop-name.due.items c.pop.new.self.items
    c.as_slice.ensures c.in_ok-partings.ensures c.in-None.ensures.value c.in-Some.ensures.items
    (c.in_ok-leaf_of-in-None.ensures
    ∙ ap (λ (ls : List (List Record)). leaf_named (all_records ls) c.in-Some.name)
    c.as_slice-lists.ensures))
    c.in_ok-push-in-None.ensures.ok c.loop-name.invariant
