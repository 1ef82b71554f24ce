-- Names numbered in the order in which they first appear.
use Rattle.std.specs.Prelude.{ℕ, Bool, List, [], ◌∷◌, ◌++◌, length, nat_lt, if◌then◌else◌}
use Rattle.std.specs.List.{list_any, position_or_len}
use Rattle.std.specs.Str.{bytes_eq}

-- whether a name is among some
abbrev pub is_among : List ℕ → List (List ℕ) → Bool
is_among name names = list_any (bytes_eq name) names

-- the place of a name among some, or their number
abbrev pub place_among : List ℕ → List (List ℕ) → ℕ
place_among name names = position_or_len (bytes_eq name) names

-- a list with one more item at its end, unless the item's name is known
abbrev pub with_item : {A : Type 0} → Bool → A → List A → List A
with_item known item items = if known then items else items ++ item ∷ []

-- names with one more at their end, where it isn't among them
abbrev pub with_name : List ℕ → List (List ℕ) → List (List ℕ)
with_name name names = if is_among name names then names else names ++ name ∷ []

-- a name has at most 255 bytes
abbrev pub is_long : List ℕ → Bool
is_long name = nat_lt 255 (length name)
