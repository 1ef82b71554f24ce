use Rattle.std.proofs.Common.{◌≡◌, ◌∙◌, ℕ, ◌≤◌, List, length, ℤ, pos, ◌+ℤ◌, arith}
use Rattle.std.proofs.lemmas.Int.{ints}
use Rattle.ip_core.specs.Sides.{Sides, IsInside, IsPaired, HasNoEmpty, with_low, with_high}
use Rattle.ip_core.specs.Models.{IsModel}
use Rattle.ip_core.specs.declared.model.ModelParts.{ModelParts}
use Rattle.ip_core.specs.Boxes.{IsWithin}
use Rattle.search_truth.specs.Boxes.{low_child, high_child}
use Rattle.ip_core.proofs.NarrowerBoxes.{within_both, within_raised, within_lowered}

-- a box within the root box stays within it where a low is raised
pub within_with_low : (root s : Sides) (col : ℕ) (low : ℤ) → IsWithin root s → IsWithin root (with_low s col low)
within_with_low root s col low within = within_both root s (with_low s col low) within (within_raised s col low)

-- and where a high is lowered
pub within_with_high : (root s : Sides) (col : ℕ) (high : ℤ) → IsWithin root s → IsWithin root (with_high s col high)
within_with_high root s col high within = within_both root s (with_high s col high) within (within_lowered s col high)

-- so both parts of it lie within the root box
pub within_low_child : (root s : Sides) (col : ℕ) (at : ℤ) → IsWithin root s → IsWithin root (low_child s col at)
within_low_child root s col at within = within_with_high root s col at within

pub within_high_child : (root s : Sides) (col : ℕ) (at : ℤ) → IsWithin root s → IsWithin root (high_child s col at)
within_high_child root s col at within = within_with_low root s col (at +ℤ pos 1) within

-- it has a low for each column of the model
pub within_columns : (m : ModelParts) (s : Sides) → IsModel m → IsWithin m.root s → length s.lows ≡ length m.cols
within_columns m s valid within = within.as_many_lows ∙ valid.bounds.box

-- a point of a box within the root box lies in the root box
pub inside_root : (root s : Sides) (x : List ℤ) → IsWithin root s → length x ≤ length s.lows → IsInside s x → IsInside root x
inside_root root s x within long inside = record {
  above = λ j h. omega (arith, ints, inside.above j h, within.lows j (omega arith));
  below = λ j h. omega (arith, ints, inside.below j h, within.highs j (omega arith));
}

-- the lows of a box without empty columns are a point of it
pub lows_inside : (s : Sides) → HasNoEmpty s → IsInside s s.lows
lows_inside s inhabited = record {
  above = λ j h. omega (arith, ints);
  below = λ j h. (inhabited.all j h).ordered;
}

-- and so are its highs
pub highs_inside : (s : Sides) → IsPaired s → HasNoEmpty s → IsInside s s.highs
highs_inside s paired inhabited = record {
  above = λ j h. (inhabited.all j (omega (arith, paired.same_length))).ordered;
  below = λ j h. omega (arith, ints);
}

-- so both lie in the root box
pub lows_inside_root : (root s : Sides) → IsWithin root s → HasNoEmpty s → IsInside root s.lows
lows_inside_root root s within inhabited = inside_root root s s.lows within (omega arith) (lows_inside s inhabited)

pub highs_inside_root : (root s : Sides) → IsWithin root s → IsPaired s → HasNoEmpty s → IsInside root s.highs
highs_inside_root root s within paired inhabited = inside_root root s s.highs within (omega (arith, paired.same_length)) (highs_inside s paired inhabited)
