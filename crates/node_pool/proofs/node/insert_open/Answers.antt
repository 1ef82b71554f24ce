use Rattle.std.proofs.Common.{◌∙◌}
use Rattle.node_pool.proofs.OpenNodes.{insert_is}
use Rattle.node_pool.proofs.node.insert_open.Goals as goal

pub returns-clause-ok : goal.returns-clause-ok
returns-clause-ok c = c.in_ok-insert.ensures.keys
    ∙ insert_is c.args.node c.args.nodes.now.keys c.requires
