-- The items of a line, of which there may be any number.
use Rattle.std.specs.Prelude.{ℕ, suc, Bool, true, ◌&&◌, ◌||◌, ◌==◌, if◌then◌else◌, List, [], ◌∷◌, ◌++◌, Option, Some, None, codes}
use Rattle.std.specs.Str.{bytes_eq}
use Rattle.ip_core.specs.declared.leaf.Pair.{Pair}
use Rattle.ip_core.specs.declared.leaf.Tighten.{Tighten}
use Rattle.ip_core.specs.declared.row_ref.RowRef.{RowRef}
use Rattle.cert_line.specs.declared.items.FoundItems.{FoundItems}
use Rattle.cert_line.specs.Words.{has_none, left_words}
use Rattle.cert_line.specs.Numerals.{count_of, weight_of, is_row, row_of}

-- Items that words begin with: their values where each number is good, how many they are, and the
-- words after them.
pub record Items (A : Type 0) : Type 0 where
  pub values : Option (List A)
  pub count : ℕ
  pub rest : List (List ℕ)

-- no item before these words
abbrev pub no_items : {A : Type 0} → List (List ℕ) → Items A
no_items words = record { values = Some []; count = 0; rest = words }

-- a value before others, where all are good
abbrev pub with_value : {A : Type 0} → Option A → Option (List A) → Option (List A)
with_value None values = None
with_value (Some value) None = None
with_value (Some value) (Some values) = Some (value ∷ values)

-- one item more in front
abbrev pub with_item : {A : Type 0} → Option A → Items A → Items A
with_item value items = record {
  values = with_value value items.values;
  count = suc items.count;
  rest = items.rest;
}

-- values with one more at their end, where all are good
abbrev pub with_last : {A : Type 0} → Option (List A) → Option A → Option (List A)
with_last None value = None
with_last (Some values) None = None
with_last (Some values) (Some value) = Some (values ++ value ∷ [])

-- items that were found
abbrev pub items_view : {A : Type 0} → FoundItems A → Items A
items_view found = record {
  values = found.values;
  count = found.count;
  rest = left_words found.rest;
}

-- each word is an item
abbrev pub items_by : {A : Type 0} → (List ℕ → Option A) → List (List ℕ) → Items A
items_by value_of [] = no_items []
items_by value_of (word ∷ words) = with_item (value_of word) (items_by value_of words)

-- a row with its weight
abbrev pub pair_by : Option RowRef → Option ℕ → Option Pair
pair_by None weight = None
pair_by (Some row) None = None
pair_by (Some row) (Some weight) = Some (record { row = row; weight = weight })

-- rows with their weights, two words each
abbrev pub pairs_of : List (List ℕ) → Items Pair
pairs_of [] = no_items []
pairs_of (row ∷ []) = no_items (row ∷ [])
pairs_of (row ∷ weight ∷ words) =
    if is_row row then with_item (pair_by (row_of row) (weight_of weight)) (pairs_of words)
    else no_items (row ∷ weight ∷ words)

-- whether a word says that a column's low was raised
abbrev pub is_low : List ℕ → Bool
is_low word = bytes_eq word (codes "L")

-- whether words stand as a step: a row, and which side of a column it narrows
abbrev pub is_step : List ℕ → List ℕ → Bool
is_step row side = is_row row && (is_low side || bytes_eq side (codes "H"))

-- a step of a row and a column
abbrev pub step_by : Option RowRef → Option ℕ → Bool → Option Tighten
step_by None col low = None
step_by (Some row) None low = None
step_by (Some row) (Some col) low = Some (record { row = row; col = col; low = low })

-- steps, three words each
abbrev pub steps_of : List (List ℕ) → Items Tighten
steps_of [] = no_items []
steps_of (row ∷ []) = no_items (row ∷ [])
steps_of (row ∷ col ∷ []) = no_items (row ∷ col ∷ [])
steps_of (row ∷ col ∷ side ∷ words) =
    if is_step row side
    then with_item (step_by (row_of row) (count_of col) (is_low side)) (steps_of words)
    else no_items (row ∷ col ∷ side ∷ words)

-- whether a count is that of the items, or is none itself
abbrev pub agrees : Option ℕ → ℕ → Bool
agrees None count = true
agrees (Some n) count = n == count

-- whether items are all the words of a line, as many as a count says that isn't bad itself
abbrev pub are_counted : {A : Type 0} → Option ℕ → Items A → Bool
are_counted count items = has_none items.rest && agrees count items.count
