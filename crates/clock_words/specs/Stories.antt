-- Stories: of each slot the words that it puts, each with its stamp, in their order.
use Rattle.std.specs.Prelude.{ℕ, ◌+◌, ◌≡◌, ◌≤◌, ◌&&◌, Bool, true, List, [], ◌∷◌, length, map, nat_le, nat_lt, slice_index, slice_index_or, if◌then◌else◌}
use Rattle.clock_words.specs.declared.story.StampedWord.{StampedWord}

-- the words of each slot, in its order
abbrev pub Lists : Type 0
Lists = List (List StampedWord)

-- the words of one slot, none where the story has no list for it
abbrev pub list_of : Lists → ℕ → List StampedWord
list_of lists slot = slice_index_or lists slot []

abbrev pub words_of : List StampedWord → List ℕ
words_of list = map (λ w. w.word) list

abbrev pub stamps_of : List StampedWord → List ℕ
stamps_of list = map (λ w. w.stamp) list

abbrev pub word_at : List StampedWord → ℕ → ℕ
word_at list k = slice_index (words_of list) k

abbrev pub stamp_at : List StampedWord → ℕ → ℕ
stamp_at list k = slice_index (stamps_of list) k

-- a word with its stamp
abbrev pub stamped_word : ℕ → ℕ → StampedWord
stamped_word stamp word = record { stamp = stamp; word = word }

-- how many words are due below a stamp: those in front with a smaller one
abbrev pub due : List StampedWord → ℕ → ℕ
due [] stamp = 0
due (w ∷ ws) stamp = if nat_lt w.stamp stamp then 1 + due ws stamp else 0

-- whether the stamps are at least this one, and none falls below the one before
abbrev pub is_rising : ℕ → List StampedWord → Bool
is_rising least [] = true
is_rising least (w ∷ ws) = nat_le least w.stamp && is_rising w.stamp ws

-- the stamps of no slot fall
pub record AreRising (lists : Lists) : Type 0 where
  pub each : (slot : ℕ) → is_rising 0 (list_of lists slot) ≡ true

-- no slot has more words than an area takes
pub record AreWithin (area : ℕ) (lists : Lists) : Type 0 where
  pub each : (slot : ℕ) → length (list_of lists slot) ≤ area
