-- A column of a box that is fixed at a value of its range.
use Rattle.std.proofs.Common.{◌≡◌, ℕ, ◌<◌, Bool, length, length-set, ℤ, ◌≤ℤ◌, pos, ap, arith}
use Rattle.std.specs.Bool.{Decides}
use Rattle.std.specs.Cmp.Rules.{signed_items}
use Rattle.std.proofs.lemmas.Bool.Decides.{same_from_decides}
use Rattle.std.proofs.lemmas.Int.{ints}
use Rattle.std.proofs.lemmas.List.{get_or-set_other, get_or-set_same}
use Rattle.ip_core.specs.Numbers.{int_at}
use Rattle.ip_core.specs.Sides.{Sides, HasNoEmpty, IsPaired}
use Rattle.ip_core.specs.Boxes.{IsWithin}
use Rattle.ip_core.proofs.NarrowerBoxes.{set_keeps}
use Rattle.row_propagate.proofs.Stepping.{at_or_apart}
use Rattle.round_dive.specs.Dives.{is_fixed, with_value}

-- it lies within the box
pub fixed_within : (s : Sides) (j : ℕ) (z : ℤ) → int_at s.lows j ≤ℤ z → z ≤ℤ int_at s.highs j
    → IsWithin s (with_value s j z)
fixed_within s j z low high = record {
  as_many_lows = length-set s.lows j z;
  as_many_highs = length-set s.highs j z;
  lows = λ k h. set_keeps (λ v. int_at s.lows k ≤ℤ v) s.lows j z k (omega (arith, ints))
      (λ e. omega (arith, ints, low, ap (int_at s.lows) e));
  highs = λ k h. set_keeps (λ v. v ≤ℤ int_at s.highs k) s.highs j z k (omega (arith, ints))
      (λ e. omega (arith, ints, high, ap (int_at s.highs) e));
}

-- and has no empty column where the box has none
pub fixed_solid : (s : Sides) (j : ℕ) (z : ℤ) → IsPaired s → HasNoEmpty s
    → HasNoEmpty (with_value s j z)
fixed_solid s j z paired solid = record {
  all = λ k h.
      let known : k < length s.lows = rw length-set at h in
      record {
        ordered = at_or_apart k j
            (λ e. rw (e, get_or-set_same s.lows j z (pos 0) (omega (arith, e, known)), get_or-set_same s.highs j z (pos 0) (omega (arith, e, known, paired.same_length))) (omega (arith, ints)))
            (λ apart. rw (get_or-set_other s.lows j k z (pos 0) apart, get_or-set_other s.highs j k z (pos 0) apart) (solid.all k known).ordered);
      };
}

-- the test of a box says whether each low is its high
pub fixed_decides : (s : Sides) (r : Bool) → Decides r (s.lows ≡ s.highs) → r ≡ is_fixed s
fixed_decides s r decides = same_from_decides r _ decides (signed_items s.lows s.highs)
