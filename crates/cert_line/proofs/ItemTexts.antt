-- Which words have items: those that are written for them, and no others.
use Rattle.std.proofs.Common.{◌≡◌, ◌∙◌, ℕ, suc, Bool, true, false, ◌||◌, List, [], ◌∷◌, ◌++◌, length, map, refl, ap, sym, Option, Some, None, cond, codes, append_assoc}
use Rattle.std.specs.List.{AllByRecursion}
use Rattle.std.specs.Str.{bytes_eq}
use Rattle.std.specs.Fmt.{decimal as numeral}
use Rattle.std.proofs.lemmas.Slice.Eq.{bytes_eq-Decides}
use Rattle.ip_core.specs.declared.leaf.Pair.{Pair}
use Rattle.ip_core.specs.declared.leaf.Tighten.{Tighten}
use Rattle.ip_core.specs.declared.leaf.Closing.{Closing}
use Rattle.ip_core.specs.declared.leaf.Closing.TheVariants.{Conflict, Empty, Bound}
use Rattle.ip_core.specs.declared.row_ref.RowRef.{RowRef}
use Rattle.cert_line.specs.Numerals.{count_of, weight_of, is_row, row_of}
use Rattle.cert_line.specs.Items.{Items, no_items, with_value, with_item, items_by, pairs_of, pair_by, steps_of, step_by, is_low, is_step}
use Rattle.cert_line.specs.Lines.{IsPair, IsStep}
use Rattle.ip_core.proofs.DecimalDigits.{and_true}
use Rattle.cert_line.proofs.LineWords.{pair_words, step_words, side_word, closing_words, row_word}
use Rattle.cert_line.proofs.NumberTexts.{count_is, count_again, weight_is, weight_again, row_is, row_again, stands_as_row}

-- the items of a list before words that are left
abbrev pub all_items : {A : Type 0} → List A → List (List ℕ) → Items A
all_items xs rest = record { values = Some xs; count = length xs; rest = rest }

module _ {A : Type 0} (words_of : List A → List (List ℕ)) (IsItem : A → Type 0) where
  -- where items have values, the words are those of the values before the words that are left, each
  -- value is in its ranges, and the values are as many as were counted
  abbrev pub AreRead : List (List ℕ) → Option (List A) → ℕ → List (List ℕ) → Type 0
  AreRead words None count rest = Unit {0}
  AreRead words (Some xs) count rest = (words ≡ words_of xs ++ rest) × AllByRecursion IsItem xs × (length xs ≡ count)

  -- where an item has a value, the words in front are those of this value, which is in its ranges
  abbrev pub IsFront : List (List ℕ) → Option A → Type 0
  IsFront front None = Unit {0}
  IsFront front (Some x) = IsItem x × ((xs : List A) → words_of (x ∷ xs) ≡ front ++ words_of xs)

  -- one item more is read
  pub one_more : (front words : List (List ℕ)) (value : Option A) (values : Option (List A)) (count : ℕ) (rest : List (List ℕ))
      → IsFront front value → AreRead words values count rest → AreRead (front ++ words) (with_value value values) (suc count) rest
  one_more front words None values count rest k more = tt
  one_more front words (Some x) None count rest k more = tt
  one_more front words (Some x) (Some xs) count rest k more =
      let whole : front ++ words ≡ words_of (x ∷ xs) ++ rest =
      ap (λ ws. front ++ ws) more.0 ∙ sym (append_assoc front (words_of xs) rest) ∙ ap (λ ws. ws ++ rest) (sym (k.1 xs)) in
      (whole, (k.0, more.1), ap suc more.2)

-- items that are each one word
module _ {A : Type 0} (value_of : List ℕ → Option A) (word_of : A → List ℕ) (IsItem : A → Type 0)
    (is : (word : List ℕ) (x : A) → value_of word ≡ Some x → (word ≡ word_of x) × IsItem x)
    (again : (x : A) → IsItem x → value_of (word_of x) ≡ Some x) where
  word_front : (word : List ℕ) (value : Option A) → value_of word ≡ value → IsFront (map word_of) IsItem (word ∷ []) value
  word_front word None e = tt
  word_front word (Some x) e = let k = is word x e in (k.1, λ (xs : List A). ap (λ w. w ∷ map word_of xs) (sym k.0))

  -- items are read from their words alone
  pub items_read : (words : List (List ℕ)) → AreRead (map word_of) IsItem words (items_by value_of words).values (items_by value_of words).count (items_by value_of words).rest
  items_read [] = (refl, tt, refl)
  items_read (word ∷ words) =
      let items = items_by value_of words in
      one_more (map word_of) IsItem (word ∷ []) words (value_of word) items.values items.count items.rest (word_front word (value_of word) refl) (items_read words)

  -- and from them indeed
  pub items_again : (xs : List A) → AllByRecursion IsItem xs → items_by value_of (map word_of xs) ≡ all_items xs []
  items_again [] k = refl
  items_again (x ∷ xs) k = rw (again x k.0, items_again xs k.1) refl

  -- they leave no word
  pub items_all : (words : List (List ℕ)) → (items_by value_of words).rest ≡ []
  items_all [] = refl
  items_all (word ∷ words) = items_all words

pair_front : (row weight : List ℕ) (a : Option RowRef) (b : Option ℕ) → row_of row ≡ a → weight_of weight ≡ b → IsFront pair_words IsPair (row ∷ weight ∷ []) (pair_by a b)
pair_front row weight None b e f = tt
pair_front row weight (Some r) None e f = tt
pair_front row weight (Some r) (Some w) e f =
    let first = row_is row r e in
    let second = weight_is weight w f in (
      record { row = first.1; weight = second.1 },
      λ (ps : List Pair). ap (λ u. u ∷ numeral w ∷ pair_words ps) (sym first.0) ∙ ap (λ u. row ∷ u ∷ pair_words ps) (sym second.0),
    )

pairs_by : (t : Bool) (row weight : List ℕ) (words : List (List ℕ)) → AreRead pair_words IsPair words (pairs_of words).values (pairs_of words).count (pairs_of words).rest
    → (let items = cond t (with_item (pair_by (row_of row) (weight_of weight)) (pairs_of words)) (no_items (row ∷ weight ∷ words)) in AreRead pair_words IsPair (row ∷ weight ∷ words) items.values items.count items.rest)
pairs_by false row weight words k = (refl, tt, refl)
pairs_by true row weight words k =
    let items = pairs_of words in
    one_more pair_words IsPair (row ∷ weight ∷ []) words (pair_by (row_of row) (weight_of weight)) items.values items.count items.rest
    (pair_front row weight (row_of row) (weight_of weight) refl refl) k

-- the same of rows with their weights
pub pairs_read : (words : List (List ℕ)) → AreRead pair_words IsPair words (pairs_of words).values (pairs_of words).count (pairs_of words).rest
pairs_read [] = (refl, tt, refl)
pairs_read (row ∷ []) = (refl, tt, refl)
pairs_read (row ∷ weight ∷ words) = pairs_by (is_row row) row weight words (pairs_read words)

pub pairs_again : (ps : List Pair) → AllByRecursion IsPair ps → pairs_of (pair_words ps) ≡ all_items ps []
pairs_again [] k = refl
pairs_again (p ∷ ps) k =
    let stands : is_row (row_word p.row) ≡ true = stands_as_row p.row k.0.row in
    let row : row_of (row_word p.row) ≡ Some p.row = row_again p.row k.0.row in
    let weight : weight_of (numeral p.weight) ≡ Some p.weight = weight_again p.weight k.0.weight in
    rw (stands, row, weight, pairs_again ps k.1) refl

side_by : (t : Bool) (side : List ℕ) → is_low side ≡ t → (t || bytes_eq side (codes "H")) ≡ true → side ≡ side_word t
side_by true side low h = (bytes_eq-Decides side (codes "L")).0 low
side_by false side low h = (bytes_eq-Decides side (codes "H")).0 h

step_front : (row col side : List ℕ) (a : Option RowRef) (b : Option ℕ) → row_of row ≡ a → count_of col ≡ b → side ≡ side_word (is_low side) → IsFront step_words IsStep (row ∷ col ∷ side ∷ []) (step_by a b (is_low side))
step_front row col side None b e f g = tt
step_front row col side (Some r) None e f g = tt
step_front row col side (Some r) (Some n) e f g =
    let first = row_is row r e in
    let second = count_is col n f in (
      record { row = first.1; col = second.1 },
      λ (ss : List Tighten). ap (λ u. u ∷ numeral n ∷ side_word (is_low side) ∷ step_words ss) (sym first.0)
          ∙ ap (λ u. row ∷ u ∷ side_word (is_low side) ∷ step_words ss) (sym second.0)
          ∙ ap (λ u. row ∷ col ∷ u ∷ step_words ss) (sym g),
    )

steps_by : (t : Bool) (row col side : List ℕ) (words : List (List ℕ)) → is_step row side ≡ t → AreRead step_words IsStep words (steps_of words).values (steps_of words).count (steps_of words).rest
    → (let items = cond t (with_item (step_by (row_of row) (count_of col) (is_low side)) (steps_of words)) (no_items (row ∷ col ∷ side ∷ words)) in AreRead step_words IsStep (row ∷ col ∷ side ∷ words) items.values items.count items.rest)
steps_by false row col side words t k = (refl, tt, refl)
steps_by true row col side words t k =
    let items = steps_of words in
    let which = side_by (is_low side) side refl (and_true (is_row row) (is_low side || bytes_eq side (codes "H")) t).1 in
    one_more step_words IsStep (row ∷ col ∷ side ∷ []) words (step_by (row_of row) (count_of col) (is_low side)) items.values items.count items.rest
    (step_front row col side (row_of row) (count_of col) refl refl which) k

-- the same of steps
pub steps_read : (words : List (List ℕ)) → AreRead step_words IsStep words (steps_of words).values (steps_of words).count (steps_of words).rest
steps_read [] = (refl, tt, refl)
steps_read (row ∷ []) = (refl, tt, refl)
steps_read (row ∷ col ∷ []) = (refl, tt, refl)
steps_read (row ∷ col ∷ side ∷ words) = steps_by (is_step row side) row col side words refl (steps_read words)

side_stands : (low : Bool) → (is_low (side_word low) || bytes_eq (side_word low) (codes "H")) ≡ true
side_stands true = refl
side_stands false = refl

side_again : (low : Bool) → is_low (side_word low) ≡ low
side_again true = refl
side_again false = refl

pub steps_again : (ss : List Tighten) (rest : List (List ℕ)) → AllByRecursion IsStep ss → steps_of rest ≡ no_items rest → steps_of (step_words ss ++ rest) ≡ all_items ss rest
steps_again [] rest k none = none
steps_again (s ∷ ss) rest k none =
    let stands : is_row (row_word s.row) ≡ true = stands_as_row s.row k.0.row in
    let side : (is_low (side_word s.low) || bytes_eq (side_word s.low) (codes "H")) ≡ true = side_stands s.low in
    let low : is_low (side_word s.low) ≡ s.low = side_again s.low in
    let row : row_of (row_word s.row) ≡ Some s.row = row_again s.row k.0.row in
    let col : count_of (numeral s.col) ≡ Some s.col = count_again s.col k.0.col in
    rw (stands, side, low, row, col, steps_again ss rest k.1 none) refl

bound_stops : (count : List ℕ) (ps : List Pair) → steps_of (codes "bound" ∷ count ∷ pair_words ps) ≡ no_items (codes "bound" ∷ count ∷ pair_words ps)
bound_stops count [] = refl
bound_stops count (p ∷ ps) = refl

-- the words of a closing have no step in front
pub closing_stops : (closing : Closing) → steps_of (closing_words closing) ≡ no_items (closing_words closing)
closing_stops (Conflict row) = refl
closing_stops (Empty col) = refl
closing_stops (Bound pairs) = bound_stops (numeral (length pairs)) pairs
