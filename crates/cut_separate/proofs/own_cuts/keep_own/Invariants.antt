use Rattle.std.proofs.Common.{◌≡◌, drop, map}
use Rattle.ip_core.specs.declared.derivation.Derivation.TheVariants.{Gomory}
use Rattle.cut_separate.specs.Candidates.{single_part}
use Rattle.cut_separate.specs.Separation.{kept_after}
use Rattle.cut_separate.proofs.own_cuts.keep_own.Given as goal

abbrev pub invariant-loop-divisor : goal.invariant-loop-divisor
invariant-loop-divisor l =
    kept_after l.model l.cuts l.point l.kept (map (λ divisor. Gomory (single_part l.name) divisor) (drop l.divisor-index l.divisor-items))
    ≡ kept_after l.model l.cuts l.point l.initial.kept (map (λ divisor. Gomory (single_part l.name) divisor) l.divisor-items)
