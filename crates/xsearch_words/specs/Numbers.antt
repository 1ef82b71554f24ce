-- Numbers among the words.
use Rattle.std.specs.Prelude.{ℕ, Bool, ◌&&◌, nat_le, if◌then◌else◌, List, length, Option, Some, None, option_map}
use Rattle.std.specs.List.{list_all}
use Rattle.ip_core.specs.Decimals.{decimal, is_digit}

-- 1 to 20 decimal digits
abbrev pub is_numeral : List ℕ → Bool
is_numeral digits = nat_le 1 (length digits) && nat_le (length digits) 20
    && list_all is_digit digits

abbrev pub is_between : ℕ → ℕ → ℕ → Bool
is_between least greatest number = nat_le least number && nat_le number greatest

-- the number of such digits, where it is in the range
abbrev pub number_between : ℕ → ℕ → List ℕ → Option ℕ
number_between least greatest digits = if is_numeral digits
    && is_between least greatest (decimal 0 digits) then Some (decimal 0 digits) else None

-- The number of an option's value, or else this one where the option isn't given. None where the
-- value is no such number.
abbrev pub number_or : ℕ → ℕ → ℕ → Option (List ℕ) → Option ℕ
number_or without least greatest None = Some without
number_or without least greatest (Some value) = number_between least greatest value

-- the number of an option's value, if the option is given. None where the value is no such number.
abbrev pub optional_number : ℕ → ℕ → Option (List ℕ) → Option (Option ℕ)
optional_number least greatest None = Some None
optional_number least greatest (Some value) = option_map Some (number_between least greatest value)
