use Rattle.std.proofs.Common.{◌+◌, sym, ap, refl}
use Rattle.node_pool.proofs.OpenNodes.{bounds_after, fresh_low, fresh_high}
use Rattle.node_pool.specs.Branchings.{Branch}
use Rattle.node_pool.specs.Trees.{Tree}
use Rattle.node_pool.specs.Views.{View}
use Rattle.node_pool.proofs.pool.Pool.split.Goals as goal

pub invariant_of-self-2 : goal.invariant_of-self-2
invariant_of-self-2 c = bounds_after c.self.inside.tree c.push.new.self c.of.result
    c.self.inside.open_nodes.keys c.in_ok-push.ensures.ok c.self.invariant

pub add_children-requires-clause-low : goal.add_children-requires-clause-low
add_children-requires-clause-low c =
    fresh_low c.self.inside.tree c.args.self.now _ c.self.inside.open_nodes.keys c.of.result _
    (ap (λ (v : View). v.branches) (sym c.self.view_is)) refl
    (ap (λ (t : Tree). t.branches) c.in_ok-push.ensures.ok) c.self.invariant
    c.requires.first_new (ap (λ (b : Branch). b.first) c.of.ensures)
    (ap (λ (b : Branch). b.bound) c.of.ensures)

pub add_children-requires-clause-high : goal.add_children-requires-clause-high
add_children-requires-clause-high c =
    fresh_high c.self.inside.tree c.args.self.now _ c.self.inside.open_nodes.keys c.of.result _
    (ap (λ (v : View). v.branches) (sym c.self.view_is)) refl
    (ap (λ (t : Tree). t.branches) c.in_ok-push.ensures.ok) c.self.invariant
    c.requires.second_new (ap (λ (b : Branch). b.first + 1) c.of.ensures)
    (ap (λ (b : Branch). b.bound) c.of.ensures)
