use Rattle.std.proofs.Common.{◌≡◌, ◌≤◌, ◌*◌, take, sum_by}
use Rattle.width_admit.specs.Sides.{side_count}
use Rattle.width_admit.proofs.refuse.row_count.Given as goal

abbrev pub invariant-loop-row : goal.invariant-loop-row
invariant-loop-row l = record {
  counted : l.count ≡ sum_by side_count (take l.row-index l.rows);
  small : l.count ≤ 2 * l.row-index;
}
