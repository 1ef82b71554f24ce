use Rattle.std.proofs.Common.{◌≡◌, ◌++◌, length}
use Rattle.tree_build.specs.ProofTrees.{all_records, proof_tree}
use Rattle.tree_build.proofs.Stacks.{stacked}
use Rattle.tree_build.proofs.tree.tree_of.Given as goal

abbrev pub invariant-loop-name : goal.invariant-loop-name
invariant-loop-name l =
    l.nodes ++ stacked (all_records l.history.records) l.history.entries l.due.items
    ≡ proof_tree l.history.records l.history.entries

abbrev pub decreases-loop-name : goal.decreases-loop-name
decreases-loop-name l =
    length (stacked (all_records l.history.records) l.history.entries l.due.items)
