-- The column at which a box is split, and where.
use Rattle.std.specs.Prelude.{ℕ, zero, suc, if◌then◌else◌, length, ℤ, pos, ◌+ℤ◌, ◌-ℤ◌, int_lt}
use Rattle.std.specs.Int.{int_div_euclid}
use Rattle.ip_core.specs.Numbers.{int_at}
use Rattle.ip_core.specs.Sides.{Sides}

-- how far the column's high is above its low
abbrev pub width_at : Sides → ℕ → ℤ
width_at s j = int_at s.highs j -ℤ int_at s.lows j

-- the widest of the first n columns, and the first of several
abbrev pub widest_below : Sides → ℕ → ℕ
widest_below s zero = 0
widest_below s (suc n) =
    if int_lt (width_at s (widest_below s n)) (width_at s n)
    then n
    else widest_below s n

-- the column at which a box is split
abbrev pub widest : Sides → ℕ
widest s = widest_below s (length s.lows)

-- the value at which a column is split: the middle, rounded down
abbrev pub middle : Sides → ℕ → ℤ
middle s j = int_div_euclid (int_at s.lows j +ℤ int_at s.highs j) (pos 2)
