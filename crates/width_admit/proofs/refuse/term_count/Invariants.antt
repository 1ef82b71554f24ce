use Rattle.std.proofs.Common.{◌≡◌, ◌≤◌, ◌+◌, ◌*◌, ◌^◌, drop}
use Rattle.width_admit.specs.Held.{terms_from}
use Rattle.width_admit.proofs.refuse.term_count.Given as goal

abbrev pub invariant-loop-at : goal.invariant-loop-at
invariant-loop-at l = record {
  counted : l.count + terms_from l.lists l.at (drop l.at l.rows) ≡ terms_from l.lists 0 l.rows;
  small : l.count ≤ l.at * 2 ^ 65;
}
