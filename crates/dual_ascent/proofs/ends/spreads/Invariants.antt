use Rattle.std.proofs.Common.{◌≡◌, ◌<◌, ℕ, length, get_or}
use Rattle.dual_ascent.specs.Ends.{spread}
use Rattle.dual_ascent.proofs.ends.spreads.Given as goal

abbrev pub invariant-loop-j : goal.invariant-loop-j
invariant-loop-j l = record {
  long : length l.widths.items ≡ length l.bounds.lows;
  each : (k : ℕ) → k < l.j → get_or l.widths.items k 0 ≡ spread l.bounds k;
}
