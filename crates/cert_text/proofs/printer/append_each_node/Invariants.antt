use Rattle.std.proofs.Common.{◌≡◌, ◌++◌, drop, map}
use Rattle.cert_line.specs.declared.line.Line.TheVariants.{Node}
use Rattle.cert_text.specs.Certificates.{text_of}
use Rattle.cert_text.proofs.printer.append_each_node.Given as goal

abbrev pub invariant-loop-node : goal.invariant-loop-node
invariant-loop-node l = l.text ++ text_of (map Node (drop l.node-index l.nodes))
    ≡ l.initial.text ++ text_of (map Node l.nodes)
