use Rattle.std.proofs.Common.{◌≡◌, ◌++◌, drop}
use Rattle.xsearch.specs.Answer.{column_lines}
use Rattle.xsearch.proofs.answer.append_columns.Given as goal

abbrev pub invariant-loop-j : goal.invariant-loop-j
invariant-loop-j l = l.text ++ column_lines (drop l.j l.cols) (drop l.j l.values) ≡ l.initial.text ++ column_lines l.cols l.values
