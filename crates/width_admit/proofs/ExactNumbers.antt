use Rattle.std.specs.Prelude.{◌≡◌, ◌-◌, ◌*◌, ◌^◌, true, false, [], ◌∷◌, ℤ, pos, negsuc, refl}
use Rattle.ip_core.specs.Decimals.{Number}
use Rattle.width_admit.specs.Exact.{units, is_whole, whole, exponent_of, floor, ceiling}

-- decimals in units, and what they are as whole numbers

abbrev decimal : ℤ → ℤ → Number
decimal mantissa exponent = record { mantissa = mantissa; exponent = exponent }

-- 1.5, and the largest and the finest that a decimal can be
pub one_and_a_half : units (decimal (pos 15) (negsuc 0)) ≡ pos (15 * 10 ^ 17)
one_and_a_half = refl

pub largest : units (decimal (negsuc 2) (pos 400)) ≡ negsuc (3 * 10 ^ 418 - 1)
largest = refl

pub finest : units (decimal (pos 3) (negsuc 17)) ≡ pos 3
finest = refl

-- 1.5 is no whole number, ten times it is, and so is a hundred times it
pub half_fails : is_whole 0 (pos (15 * 10 ^ 17)) ≡ false
half_fails = refl

pub half_passes : is_whole 1 (pos (15 * 10 ^ 17)) ≡ true
half_passes = refl

pub half_is_15 : whole 1 (pos (15 * 10 ^ 17)) ≡ pos 15
half_is_15 = refl

pub half_is_150 : whole 2 (pos (15 * 10 ^ 17)) ≡ pos 150
half_is_150 = refl

pub negative_half : whole 1 (negsuc (15 * 10 ^ 17 - 1)) ≡ negsuc 14
negative_half = refl

-- the least exponent: of nothing, of 0 alone, of 2.25 and 1.5 and 0.4, of 3 and 10^400, and of the finest
pub of_nothing : exponent_of [] ≡ 0
of_nothing = refl

pub of_zero : exponent_of (pos 0 ∷ []) ≡ 0
of_zero = refl

pub of_hundredths : exponent_of (units (decimal (negsuc 224) (negsuc 1)) ∷ units (decimal (negsuc 14) (negsuc 0)) ∷ units (decimal (negsuc 3) (negsuc 0)) ∷ []) ≡ 2
of_hundredths = refl

pub of_whole : exponent_of (units (decimal (pos 3) (pos 0)) ∷ units (decimal (pos 1) (pos 400)) ∷ []) ≡ 0
of_whole = refl

pub of_finest : exponent_of (units (decimal (pos 1) (pos 0)) ∷ units (decimal (pos 1) (negsuc 17)) ∷ []) ≡ 18
of_finest = refl

-- rounding down and up: 0.7, 0.5, -0.5, -7, 1.2 times ten
pub down : floor (decimal (pos 7) (negsuc 0)) ≡ pos 0
down = refl

pub up : ceiling (decimal (pos 5) (negsuc 0)) ≡ pos 1
up = refl

pub down_negative : floor (decimal (negsuc 4) (negsuc 0)) ≡ negsuc 0
down_negative = refl

pub up_negative : ceiling (decimal (negsuc 4) (negsuc 0)) ≡ pos 0
up_negative = refl

pub whole_stays : floor (decimal (negsuc 6) (pos 0)) ≡ negsuc 6
whole_stays = refl

pub up_whole : ceiling (decimal (pos 12) (pos 1)) ≡ pos 120
up_whole = refl
