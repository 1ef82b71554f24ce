use Rattle.std.proofs.Common.{ℕ, List, ℤ, pos, ◌+ℤ◌, ◌≤ℤ◌, ap, arith}
use Rattle.std.specs.Int.{int_min, int_max}
use Rattle.std.proofs.lemmas.Int.{ints, clamps}
use Rattle.ip_core.specs.Numbers.{int_at}
use Rattle.ip_core.specs.Sides.{Sides, IsInside}
use Rattle.search_truth.specs.Boxes.{low_child, high_child}
use Rattle.ip_core.proofs.NarrowerBoxes.{set_keeps}

-- a point of the box whose column is at most `at` lies in the low part
pub inside_low_child : (s : Sides) (col : ℕ) (at : ℤ) (y : List ℤ) → IsInside s y → int_at y col ≤ℤ at → IsInside (low_child s col at) y
inside_low_child s col at y inside low = record {
  above = inside.above;
  below = λ j h. set_keeps (λ z. int_at y j ≤ℤ z) s.highs col (int_min (int_at s.highs col) at) j (inside.below j h) (λ e.
      omega (arith, ints, clamps, inside.below j h, low, ap (int_at s.highs) e, ap (int_at y) e));
}

-- and one whose column is above `at` in the high part
pub inside_high_child : (s : Sides) (col : ℕ) (at : ℤ) (y : List ℤ) → IsInside s y → (at +ℤ pos 1) ≤ℤ int_at y col → IsInside (high_child s col at) y
inside_high_child s col at y inside high = record {
  above = λ j h. set_keeps (λ z. z ≤ℤ int_at y j) s.lows col (int_max (int_at s.lows col) (at +ℤ pos 1)) j (inside.above j h) (λ e.
      omega (arith, ints, clamps, inside.above j h, high, ap (int_at s.lows) e, ap (int_at y) e));
  below = inside.below;
}
