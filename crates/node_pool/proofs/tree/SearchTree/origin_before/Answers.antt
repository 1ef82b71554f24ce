use Rattle.std.proofs.Common.{◌∙◌, slice_index_or, sym, ap}
use Rattle.node_pool.proofs.Paths.{origin_box, root_where_later}
use Rattle.node_pool.specs.Trees.{Tree}
use Rattle.node_pool.proofs.tree.SearchTree.origin_before.Goals as goal

pub returns-then-left-place : goal.returns-then-left-place
returns-then-left-place c =
    root_where_later c.args.self.now.branches c.args.name c.args.left c.in_ok-place.place
    c.in_ok-place.ensures c.if-left-place.true

pub returns : goal.returns
returns c =
    let read = c.index-branching.ensures
    ∙ ap (λ (t : Tree). slice_index_or t.branches c.in_ok-place.place
    c.index-branching.result.now) c.self.view_is in
    origin_box c.args.self.now.branches c.args.name c.args.left c.in_ok-place.place c.node.result
    c.in_ok-change.change c.index-branching.result.now c.in_ok-place.ensures read
    c.if-left-place.false
    (sym c.in_ok-change.ensures) c.node.ensures
