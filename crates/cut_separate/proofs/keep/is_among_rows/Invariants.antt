use Rattle.std.proofs.Common.{◌≡◌, drop}
use Rattle.cut_separate.specs.Separation.{is_among_rows}
use Rattle.cut_separate.proofs.keep.is_among_rows.Given as goal

abbrev pub invariant-loop-other : goal.invariant-loop-other
invariant-loop-other l = is_among_rows (drop l.other-index l.rows) l.row ≡ is_among_rows l.rows l.row
