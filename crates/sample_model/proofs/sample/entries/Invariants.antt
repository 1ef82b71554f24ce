use Rattle.std.proofs.Common.{◌≡◌, ◌++◌, drop}
use Rattle.sample_model.specs.Samples.{entries_of}
use Rattle.sample_model.proofs.sample.entries.Given as goal

abbrev pub invariant-loop-at : goal.invariant-loop-at
invariant-loop-at l = l.entries ++ entries_of l.column l.at (drop l.at l.coefficients) ≡ entries_of l.column 0 l.coefficients
