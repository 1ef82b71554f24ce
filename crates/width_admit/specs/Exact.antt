-- Decimals as exact numbers, counted in units of 10^-18. No decimal is finer.
use Rattle.std.specs.Prelude.{ℕ, zero, suc, ◌+◌, ◌-◌, ◌%◌, ◌^◌, ◌==◌, Bool, if◌then◌else◌, List, ℤ, pos, negsuc, neg_ℤ, ◌+ℤ◌, ◌*ℤ◌, unsigned_abs}
use Rattle.std.specs.Int.{int_div_euclid}
use Rattle.std.specs.List.{list_all}
use Rattle.ip_core.specs.Decimals.{Number, negation}

-- a decimal in units
abbrev pub units : Number → ℤ
units n = n.mantissa *ℤ pos (10 ^ unsigned_abs (n.exponent +ℤ pos 18))

-- whether units are a whole number once they are multiplied by 10^k
abbrev pub is_whole : ℕ → ℤ → Bool
is_whole k z = unsigned_abs z % 10 ^ (18 - k) == 0

-- the whole number that they then are
abbrev pub whole : ℕ → ℤ → ℤ
whole k z = int_div_euclid z (pos (10 ^ (18 - k)))

-- whether all of them are whole then
abbrev pub are_whole : List ℤ → ℕ → Bool
are_whole zs k = list_all (is_whole k) zs

-- the least number that passes, of the n numbers from `start` on, or else the number after them
abbrev pub least_from : ℕ → (ℕ → Bool) → ℕ → ℕ
least_from zero test start = start
least_from (suc n) test start = if test start then start else least_from n test (start + 1)

-- the least exponent of a power of ten that makes all units whole
abbrev pub exponent_of : List ℤ → ℕ
exponent_of zs = least_from 18 (are_whole zs) 0

-- mantissa times ten to the exponent, rounded down
abbrev pub rounded_down : ℤ → ℤ → ℤ
rounded_down mantissa (pos e) = mantissa *ℤ pos (10 ^ e)
rounded_down mantissa (negsuc e) = int_div_euclid mantissa (pos (10 ^ suc e))

-- the greatest whole number that isn't above a decimal
abbrev pub floor : Number → ℤ
floor n = rounded_down n.mantissa n.exponent

-- the least whole number that isn't below a decimal
abbrev pub ceiling : Number → ℤ
ceiling n = neg_ℤ (floor (negation n))
