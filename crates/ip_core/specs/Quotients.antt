use Rattle.std.specs.Prelude.{suc, ℤ, pos, negsuc, neg_ℤ}
use Rattle.std.specs.Int.{int_div_euclid}

-- a divided by d, rounded down, where d isn't 0
abbrev pub floor_quotient : ℤ → ℤ → ℤ
floor_quotient a (pos d) = int_div_euclid a (pos d)
floor_quotient a (negsuc d) = int_div_euclid (neg_ℤ a) (pos (suc d))

-- a divided by d, rounded up
abbrev pub ceiling_quotient : ℤ → ℤ → ℤ
ceiling_quotient a d = neg_ℤ (floor_quotient (neg_ℤ a) d)
