-- The lines of a text and the fields of a line.
use Rattle.std.specs.Prelude.{ℕ, Bool, true, false, not, List, [], ◌∷◌, ◌==◌, ◌&&◌, ◌||◌, nat_le, if◌then◌else◌, length, filter}

-- lines whose first begins with one more byte
abbrev pub with_byte : ℕ → List (List ℕ) → List (List ℕ)
with_byte b [] = (b ∷ []) ∷ []
with_byte b (line ∷ more) = (b ∷ line) ∷ more

-- the lines of a text: each ends at a line feed or at the end of the text
abbrev pub lines_of : List ℕ → List (List ℕ)
lines_of [] = []
lines_of (b ∷ bs) = if b == 10 then [] ∷ lines_of bs else with_byte b (lines_of bs)

-- tabs, carriage returns and blanks part fields
abbrev pub is_separator : ℕ → Bool
is_separator b = b == 9 || b == 13 || b == 32

-- a byte that a field may hold
abbrev pub is_visible : ℕ → Bool
is_visible b = nat_le 33 b && nat_le b 126

-- a byte that a line may hold, if it isn't a comment
abbrev pub is_line_byte : ℕ → Bool
is_line_byte b = is_separator b || is_visible b

-- the pieces of a line between separators
abbrev pub pieces : List ℕ → List (List ℕ)
pieces [] = [] ∷ []
pieces (b ∷ bs) = if is_separator b then [] ∷ pieces bs else with_byte b (pieces bs)

-- whether a piece isn't empty
abbrev pub is_filled : List ℕ → Bool
is_filled piece = not (length piece == 0)

-- the fields of a line: its pieces that aren't empty
abbrev pub fields : List ℕ → List (List ℕ)
fields line = filter is_filled (pieces line)

-- a comment begins with `*`
abbrev pub is_comment : List ℕ → Bool
is_comment [] = false
is_comment (b ∷ bs) = b == 42

-- a data line begins with a separator
abbrev pub is_data : List ℕ → Bool
is_data [] = false
is_data (b ∷ bs) = is_separator b

-- the fields of a line by their number; of six or more the first two
pub data Words : Type 0 where
  Zero : Words
  One : (a : List ℕ) → Words
  Two : (a b : List ℕ) → Words
  Three : (a b c : List ℕ) → Words
  Four : (a b c d : List ℕ) → Words
  Five : (a b c d e : List ℕ) → Words
  Many : (a b : List ℕ) → Words

-- the fields by their number
abbrev pub words_of : List (List ℕ) → Words
words_of [] = Zero
words_of (a ∷ []) = One a
words_of (a ∷ b ∷ []) = Two a b
words_of (a ∷ b ∷ c ∷ []) = Three a b c
words_of (a ∷ b ∷ c ∷ d ∷ []) = Four a b c d
words_of (a ∷ b ∷ c ∷ d ∷ e ∷ []) = Five a b c d e
words_of (a ∷ b ∷ c ∷ d ∷ e ∷ f ∷ more) = Many a b

-- whether there is no field
abbrev pub has_none : Words → Bool
has_none Zero = true
has_none _ = false

-- the first field, or the empty text
abbrev pub first_word : Words → List ℕ
first_word Zero = []
first_word (One a) = a
first_word (Two a b) = a
first_word (Three a b c) = a
first_word (Four a b c d) = a
first_word (Five a b c d e) = a
first_word (Many a b) = a
