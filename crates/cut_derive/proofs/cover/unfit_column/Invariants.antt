use Rattle.std.proofs.Common.{◌≡◌, drop}
use Rattle.cut_derive.specs.Chosen.{unfit_column}
use Rattle.cut_derive.proofs.cover.unfit_column.Given as goal

abbrev pub invariant-loop-term : goal.invariant-loop-term
invariant-loop-term l = unfit_column l.root (drop l.term-index l.chosen) ≡ unfit_column l.root l.chosen
