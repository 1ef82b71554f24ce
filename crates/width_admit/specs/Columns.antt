-- What columns of a file are in a model: their bounds in whole numbers, and what refuses them.
use Rattle.std.specs.Prelude.{ℕ, Bool, true, false, not, ◌&&◌, ◌||◌, nat_lt, int_lt, List, map, ℤ, pos, unsigned_abs, Option, Some, None}
use Rattle.ip_core.specs.Sides.{Sides}
use Rattle.ip_core.specs.declared.limits.TheConstants.{MAX_BOUND}
use Rattle.mps_model.specs.declared.model.Limit.{Limit}
use Rattle.mps_model.specs.declared.model.Limit.TheVariants.{Unset, Free, At}
use Rattle.mps_model.specs.declared.model.MpsCol.{MpsCol}
use Rattle.width_admit.specs.Exact.{floor, ceiling}

-- the low in whole numbers: 0 where the file says nothing, and a number rounded up
abbrev pub low : Limit → ℤ
low Unset = pos 0
low Free = pos 0
low (At value) = ceiling value

-- the high given for columns without one
abbrev pub given_high : Option ℕ → ℤ
given_high None = pos 0
given_high (Some high) = pos high

-- the high in whole numbers: the given one where the file says nothing or free, and a number rounded down
abbrev pub high : Option ℕ → Limit → ℤ
high upper Unset = given_high upper
high upper Free = given_high upper
high upper (At value) = floor value

-- the box of the columns
abbrev pub root : Option ℕ → List MpsCol → Sides
root upper cols = record {
  lows = map (λ c. low c.low) cols;
  highs = map (λ c. high upper c.high) cols;
}

-- the file says nothing of the bound
abbrev pub is_unset : Limit → Bool
is_unset Unset = true
is_unset Free = false
is_unset (At value) = false

-- the file says that there is no bound
abbrev pub is_free : Limit → Bool
is_free Unset = false
is_free Free = true
is_free (At value) = false

-- the bound is a negative number
abbrev pub is_negative : Limit → Bool
is_negative Unset = false
is_negative Free = false
is_negative (At value) = int_lt value.mantissa (pos 0)

-- whether a high is missing, so that one has to be given
abbrev pub lacks_high : Option ℕ → Limit → Bool
lacks_high None limit = is_unset limit || is_free limit
lacks_high (Some high) limit = false

-- a bound in whole numbers lies outside -2^31 to 2^31
abbrev pub is_large : ℤ → Bool
is_large bound = nat_lt MAX_BOUND (unsigned_abs bound)

-- the column isn't integer
abbrev pub is_continuous : MpsCol → Bool
is_continuous c = not c.integer

-- its low is unset and its high a negative number
abbrev pub has_negative_upper : MpsCol → Bool
has_negative_upper c = is_unset c.low && is_negative c.high

-- its low is free, or a high is missing
abbrev pub is_unbounded : Option ℕ → MpsCol → Bool
is_unbounded upper c = is_free c.low || lacks_high upper c.high

-- one of its bounds does
abbrev pub has_large_bound : Option ℕ → MpsCol → Bool
has_large_bound upper c = is_large (low c.low) || is_large (high upper c.high)
