-- The numbers of the reasons.
use Rattle.std.specs.Prelude.{ℕ}
use Rattle.cert_check.specs.declared.verdict.Why.{Why}
use Rattle.cert_check.specs.declared.verdict.Why.TheVariants.{PointBounds, PointRow, PointValue, CutDerivation, SplitColumn, SplitGap, Step, Conflict, Bound, Size}

-- the number of a reason, by which rejections are printed
abbrev pub reason_number : Why → ℕ
reason_number PointBounds = 1
reason_number PointRow = 2
reason_number PointValue = 3
reason_number CutDerivation = 4
reason_number SplitColumn = 5
reason_number SplitGap = 6
reason_number Step = 7
reason_number Conflict = 8
reason_number Bound = 9
reason_number Size = 10
