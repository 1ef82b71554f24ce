-- Numerals: the one way in which each number is written.
use Rattle.std.specs.Prelude.{ℕ, zero, suc, Bool, false, not, ◌&&◌, ◌||◌, ◌==◌, nat_le, if◌then◌else◌, List, [], ◌∷◌, length, ℤ, pos, negsuc, Option, Some, None}
use Rattle.std.specs.List.{list_all}
use Rattle.std.specs.Option.{option_map}
use Rattle.ip_core.specs.Decimals.{is_digit, decimal}
use Rattle.ip_core.specs.declared.row_ref.RowRef.{RowRef}
use Rattle.ip_core.specs.declared.row_ref.RowRef.TheVariants.{Model, Cut}
use Rattle.cert_line.specs.declared.numeral.TheConstants.{MAX_COUNT, MAX_WEIGHT, MAX_NUMBER}

-- digits, of which the first is `0` only where it is the last
abbrev pub is_canonical : List ℕ → Bool
is_canonical [] = false
is_canonical (d ∷ ds) = list_all is_digit (d ∷ ds) && (not (d == 48) || length ds == 0)

-- the number of canonical digits, if it is at most `most`
abbrev pub natural_of : ℕ → List ℕ → Option ℕ
natural_of most word =
    if is_canonical word && nat_le (decimal 0 word) most then Some (decimal 0 word) else None

-- a count, a column or the number of a row
abbrev pub count_of : List ℕ → Option ℕ
count_of word = natural_of MAX_COUNT word

-- a weight, a divisor or a multiplier
abbrev pub weight_of : List ℕ → Option ℕ
weight_of word = natural_of MAX_WEIGHT word

-- the number below 0 of this absolute value, if there is one
abbrev pub negative_of : Option ℕ → Option ℤ
negative_of None = None
negative_of (Some zero) = None
negative_of (Some (suc n)) = Some (negsuc n)

-- a number that may have a sign: `-` and digits, or digits alone
abbrev pub number_of : List ℕ → Option ℤ
number_of [] = None
number_of (b ∷ bs) =
    if b == 45 then negative_of (natural_of MAX_NUMBER bs)
    else option_map pos (natural_of MAX_NUMBER (b ∷ bs))

-- whether a word is `r` or `k` and at least one byte more
abbrev pub is_row : List ℕ → Bool
is_row [] = false
is_row (b ∷ bs) = (b == 114 || b == 107) && not (length bs == 0)

-- the row of the model that `r` and its number name, or the cut that `k` and its number name
abbrev pub row_of : List ℕ → Option RowRef
row_of [] = None
row_of (b ∷ bs) =
    if b == 114 then option_map Model (count_of bs)
    else if b == 107 then option_map Cut (count_of bs)
    else None
