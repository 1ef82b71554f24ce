-- The clock word of a slot: its stamp in the upper 41 bits, and below how many of its words are
-- due.
use Rattle.std.specs.Prelude.{ℕ, ◌+◌, ◌-◌, ◌*◌, ◌/◌, ◌%◌, ◌^◌, ◌<◌, ◌≡◌, ◌⊎◌, ◌==◌, min, nat_lt, if◌then◌else◌}

-- the stamp of a clock word: the greatest that the bits hold stands for the last stamp, 2 ^ 62
abbrev pub stamp_of : ℕ → ℕ
stamp_of word = if nat_lt (word / 2 ^ 23) (2 ^ 41 - 1) then word / 2 ^ 23 else 2 ^ 62

-- how many words are due by a clock word
abbrev pub due_count : ℕ → ℕ
due_count word = word % 2 ^ 23

-- the clock word of a stamp and a count
abbrev pub clock_word : ℕ → ℕ → ℕ
clock_word stamp count = min stamp (2 ^ 41 - 1) * 2 ^ 23 + count

-- a stamp that a clock word can hold: below the greatest of the bits, or the last one
abbrev pub IsStamp : ℕ → Type 0
IsStamp stamp = (stamp < 2 ^ 41 - 1) ⊎ (stamp ≡ 2 ^ 62)

-- the clock word of a seat with this own one and so many words put, at a stamp: the own one where
-- the stamp is its
abbrev pub raised_word : ℕ → ℕ → ℕ → ℕ
raised_word own written stamp = if stamp == stamp_of own then own else clock_word stamp written
