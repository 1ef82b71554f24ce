use Rattle.std.proofs.Common.{◌≡◌, ℕ, pos, ◌-ℤ◌, ◌*ℤ◌, ◌<ℤ◌, get_or, take}
use Rattle.ip_core.specs.Numbers.{int_at}
use Rattle.dual_ascent.specs.Ends.{loss}
use Rattle.dual_ascent.proofs.gain.gain_above.Given as goal

abbrev pub invariant-loop-term : goal.invariant-loop-term
invariant-loop-term l = record {
  left : l.left ≡ (l.by *ℤ l.lack) -ℤ pos (loss (int_at l.costs) (λ j. get_or l.widths j 0) l.by (take l.term-index l.terms));
  above : l.floor <ℤ l.left;
}
