use Rattle.std.proofs.Common.{◌≡◌, ◌++◌, drop}
use Rattle.tree_build.specs.Certificates.{derivations_of}
use Rattle.tree_build.proofs.certificate.cuts_of.Given as goal

abbrev pub invariant-loop-item : goal.invariant-loop-item
invariant-loop-item l =
    l.cuts ++ derivations_of (drop l.item-index l.entries) ≡ derivations_of l.entries
