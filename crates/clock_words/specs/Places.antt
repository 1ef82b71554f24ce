-- Where the words of the board lie: the stop word, a clock word for each slot, each in a line of
-- the cache of its own, and an area of words for each slot.
use Rattle.std.specs.Prelude.{ℕ, ◌+◌, ◌*◌, ◌≤◌, ◌<◌, ◌^◌, List, slice_index}
use Rattle.clock_words.specs.declared.view.Shape.{Shape}

-- the place of a slot's clock word: eight words are a line of the cache
abbrev pub clock_place : ℕ → ℕ
clock_place slot = 8 * slot + 8

-- the place of a word of a slot's area
abbrev pub area_place : Shape → ℕ → ℕ → ℕ
area_place shape slot k = 8 * shape.slots + 8 + (slot * shape.area + k)

-- how many words the board has
abbrev pub word_count : Shape → ℕ
word_count shape = 8 * shape.slots + 8 + shape.slots * shape.area

abbrev pub stop_in : List ℕ → ℕ
stop_in words = slice_index words 0

abbrev pub clock_in : List ℕ → ℕ → ℕ
clock_in words slot = slice_index words (clock_place slot)

abbrev pub area_in : Shape → List ℕ → ℕ → ℕ → ℕ
area_in shape words slot k = slice_index words (area_place shape slot k)

-- the board has 1 to 64 slots, and areas of at most 2 ^ 22 words
pub record IsShape (slots area : ℕ) : Type 0 where
  pub some_slot : 0 < slots
  pub most_slots : slots ≤ 64
  pub most_words : area ≤ 2 ^ 22
