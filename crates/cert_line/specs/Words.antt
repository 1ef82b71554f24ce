-- The words of a line, parted at single blanks.
use Rattle.std.specs.Prelude.{ℕ, suc, Bool, true, false, List, [], ◌∷◌, ◌++◌, ◌==◌, if◌then◌else◌, length}
use Rattle.cert_line.specs.declared.words.Words.{Words}
use Rattle.cert_line.specs.declared.words.Words.TheVariants.{Done, More}

-- words whose first begins with one more byte
abbrev pub with_byte : ℕ → List (List ℕ) → List (List ℕ)
with_byte b [] = (b ∷ []) ∷ []
with_byte b (word ∷ words) = (b ∷ word) ∷ words

-- what stands between blanks: one word more than there are blanks, and some may be empty
abbrev pub pieces : List ℕ → List (List ℕ)
pieces [] = [] ∷ []
pieces (b ∷ bs) = if b == 32 then [] ∷ pieces bs else with_byte b (pieces bs)

-- whether there is no word
abbrev pub has_none : List (List ℕ) → Bool
has_none [] = true
has_none (word ∷ words) = false

-- words that each follow a blank
abbrev pub fields : List (List ℕ) → List ℕ
fields [] = []
fields (word ∷ words) = 32 ∷ (word ++ fields words)

-- words with a blank between each two
abbrev pub joined : List (List ℕ) → List ℕ
joined [] = []
joined (word ∷ words) = word ++ fields words

-- the words that are still to be read
abbrev pub left_words : Words → List (List ℕ)
left_words Done = []
left_words (More bytes) = pieces bytes.now

-- how many bytes they take, with a blank or an end for each word
abbrev pub left_size : Words → ℕ
left_size Done = 0
left_size (More bytes) = suc (length bytes.now)
