-- What is read from words as a line has these words alone.
use Rattle.std.proofs.Common.{◌≡◌, ◌∙◌, ℕ, Bool, true, false, ◌&&◌, ◌==◌, List, [], ◌∷◌, ◌++◌, length, map, ℤ, refl, ap, sym, subst, Option, Some, None, cond, codes}
use Rattle.std.specs.List.{list_any}
use Rattle.std.specs.Str.{bytes_eq}
use Rattle.std.specs.Fmt.{decimal as numeral, signed_decimal}
use Rattle.std.proofs.lemmas.Bool.{false≢true, eqb-true}
use Rattle.std.proofs.lemmas.List.{append-nil}
use Rattle.std.proofs.lemmas.Slice.Eq.{bytes_eq-Decides}
use Rattle.ip_core.specs.declared.leaf.Pair.{Pair}
use Rattle.ip_core.specs.declared.leaf.Tighten.{Tighten}
use Rattle.ip_core.specs.declared.row_ref.RowRef.{RowRef}
use Rattle.cert_line.specs.declared.closing.ClosingReading.{ClosingReading}
use Rattle.cert_line.specs.declared.closing.ClosingReading.TheVariants.{NoForm as NoClosing, BadNumber as BadClosing, Is as Closes}
use Rattle.cert_line.specs.declared.keyword.Keyword.{Keyword}
use Rattle.cert_line.specs.declared.keyword.Keyword.TheVariants as keyword
use Rattle.cert_line.specs.declared.line.Line.TheVariants.{Header}
use Rattle.cert_line.specs.declared.line.LineReading.TheVariants.{NoForm, Is}
use Rattle.cert_line.specs.Words.{has_none}
use Rattle.cert_line.specs.Numerals.{count_of, weight_of, number_of, is_row, row_of}
use Rattle.cert_line.specs.Items.{items_by, pairs_of, steps_of, agrees, are_counted}
use Rattle.cert_line.specs.Readings.{size_by, value_by, point_by, cuts_by, gomory_by, cover_by, tree_by, split_by, conflict_by, empty_by, bound_by, leaf_by, header_form, size_form, value_form, point_form, none_form, cuts_form, gomory_form, cover_form, tree_form, split_form, conflict_form, empty_form, bound_form, closing_form, leaf_form, end_form, keyword_of, form_by, form_of, is_empty_word, words_reading}
use Rattle.cert_line.specs.Lines.{IsCount, IsNumber, IsPair, IsStep}
use Rattle.ip_core.proofs.DecimalDigits.{and_true}
use Rattle.cert_line.proofs.LineWords.{AreLine, AreClosing, row_word, pair_words, step_words, closing_words}
use Rattle.cert_line.proofs.NumberTexts.{count_is, count_again, weight_is, number_is, number_again, row_is}
use Rattle.cert_line.proofs.ItemTexts.{AreRead, items_read, items_all, pairs_read, steps_read}

header_by : (t : Bool) (name version : List ℕ) → (bytes_eq name (codes "certificate") && bytes_eq version (codes "1")) ≡ t → AreLine (codes "xsearch" ∷ name ∷ version ∷ []) (cond t (Is Header) NoForm)
header_by false name version t = tt
header_by true name version t =
    let both = and_true (bytes_eq name (codes "certificate")) (bytes_eq version (codes "1")) t in
    let first = (bytes_eq-Decides name (codes "certificate")).0 both.0 in
    let second = (bytes_eq-Decides version (codes "1")).0 both.1 in
    (ap (λ w. codes "xsearch" ∷ w ∷ version ∷ []) first ∙ ap (λ w. codes "xsearch" ∷ codes "certificate" ∷ w ∷ []) second, tt)

header_read : (words : List (List ℕ)) → AreLine (codes "xsearch" ∷ words) (header_form words)
header_read [] = tt
header_read (name ∷ []) = tt
header_read (name ∷ version ∷ []) = header_by (bytes_eq name (codes "certificate") && bytes_eq version (codes "1")) name version refl
header_read (name ∷ version ∷ word ∷ words) = tt

sizes_read : (a b : Option ℕ) (cols rows : List ℕ) → count_of cols ≡ a → count_of rows ≡ b → AreLine (codes "size" ∷ cols ∷ rows ∷ []) (size_by a b)
sizes_read None b cols rows e f = tt
sizes_read (Some m) None cols rows e f = tt
sizes_read (Some m) (Some n) cols rows e f =
    let first = count_is cols m e in
    let second = count_is rows n f in
    (ap (λ w. codes "size" ∷ w ∷ rows ∷ []) first.0 ∙ ap (λ w. codes "size" ∷ numeral m ∷ w ∷ []) second.0, (first.1, second.1))

size_read : (words : List (List ℕ)) → AreLine (codes "size" ∷ words) (size_form words)
size_read [] = tt
size_read (cols ∷ []) = tt
size_read (cols ∷ rows ∷ []) = sizes_read (count_of cols) (count_of rows) cols rows refl refl
size_read (cols ∷ rows ∷ word ∷ words) = tt

values_read : (a : Option ℤ) (value : List ℕ) → number_of value ≡ a → AreLine (codes "value" ∷ value ∷ []) (value_by a)
values_read None value e = tt
values_read (Some z) value e = let k = number_is value z e in (ap (λ w. codes "value" ∷ w ∷ []) k.0, k.1)

value_read : (words : List (List ℕ)) → AreLine (codes "value" ∷ words) (value_form words)
value_read [] = tt
value_read (value ∷ []) = values_read (number_of value) value refl
value_read (value ∷ word ∷ words) = tt

-- items that leave no word have all words
all_words : {A : Type 0} (words_of : List A → List (List ℕ)) (xs : List A) (words rest : List (List ℕ)) → rest ≡ [] → words ≡ words_of xs ++ rest → words ≡ words_of xs
all_words words_of xs words rest none is = is ∙ ap (λ r. words_of xs ++ r) none ∙ append-nil (words_of xs)

points_read : (a : Option (List ℤ)) (words : List (List ℕ)) (count : ℕ) (rest : List (List ℕ)) → rest ≡ [] → AreRead (map signed_decimal) IsNumber words a count rest → AreLine (codes "point" ∷ words) (point_by a)
points_read None words count rest none k = tt
points_read (Some xs) words count rest none k = (ap (λ ws. codes "point" ∷ ws) (all_words (map signed_decimal) xs words rest none k.0), k.1)

point_read : (words : List (List ℕ)) → AreLine (codes "point" ∷ words) (point_form words)
point_read words =
    let items = items_by number_of words in
    points_read items.values words items.count items.rest
    (items_all number_of signed_decimal IsNumber number_is number_again words) (items_read number_of signed_decimal IsNumber number_is number_again words)

none_read : (words : List (List ℕ)) → AreLine (codes "none" ∷ words) (none_form words)
none_read [] = (refl, tt)
none_read (word ∷ words) = tt

counts_read : (a : Option ℕ) (count : List ℕ) → count_of count ≡ a → AreLine (codes "cuts" ∷ count ∷ []) (cuts_by a)
counts_read None count e = tt
counts_read (Some n) count e = let k = count_is count n e in (ap (λ w. codes "cuts" ∷ w ∷ []) k.0, k.1)

cuts_read : (words : List (List ℕ)) → AreLine (codes "cuts" ∷ words) (cuts_form words)
cuts_read [] = tt
cuts_read (count ∷ []) = counts_read (count_of count) count refl
cuts_read (count ∷ word ∷ words) = tt

-- a count that agrees with items is written as their number
counted : {A : Type 0} (xs : List A) (n items : ℕ) (count : List ℕ) → count_of count ≡ Some n → (n == items) ≡ true → length xs ≡ items → (count ≡ numeral (length xs)) × IsCount (length xs)
counted xs n items count e same long =
    let k = count_is count n e in
    let is : n ≡ length xs = eqb-true n items same ∙ sym long in
    (k.0 ∙ ap numeral is, subst IsCount is k.1)

none_left : (words : List (List ℕ)) → has_none words ≡ true → words ≡ []
none_left [] h = refl
none_left (word ∷ words) h = absurd (false≢true h)

gomories_read : (a b : Option ℕ) (c : Option (List Pair)) (divisor count : List ℕ) (words : List (List ℕ)) (items : ℕ) (rest : List (List ℕ))
    → weight_of divisor ≡ a → count_of count ≡ b → AreRead pair_words IsPair words c items rest → rest ≡ [] → agrees b items ≡ true → AreLine (codes "gomory" ∷ divisor ∷ count ∷ words) (gomory_by a b c)
gomories_read None b c divisor count words items rest e f k none same = tt
gomories_read (Some d) None c divisor count words items rest e f k none same = tt
gomories_read (Some d) (Some n) None divisor count words items rest e f k none same = tt
gomories_read (Some d) (Some n) (Some ps) divisor count words items rest e f k none same =
    let first = weight_is divisor d e in
    let second = counted ps n items count f same k.2 in
    let third = all_words pair_words ps words rest none k.0 in (
      ap (λ w. codes "gomory" ∷ w ∷ count ∷ words) first.0
          ∙ ap (λ w. codes "gomory" ∷ numeral d ∷ w ∷ words) second.0
          ∙ ap (λ ws. codes "gomory" ∷ numeral d ∷ numeral (length ps) ∷ ws) third,
      (record { each = k.1; few = second.1 }, first.1),
    )

gomory_if : (t : Bool) (divisor count : List ℕ) (words : List (List ℕ)) → are_counted (count_of count) (pairs_of words) ≡ t → AreLine (codes "gomory" ∷ divisor ∷ count ∷ words) (cond t (gomory_by (weight_of divisor) (count_of count) (pairs_of words).values) NoForm)
gomory_if false divisor count words t = tt
gomory_if true divisor count words t =
    let items = pairs_of words in
    let both = and_true (has_none items.rest) (agrees (count_of count) items.count) t in
    gomories_read (weight_of divisor) (count_of count) items.values divisor count words items.count items.rest refl refl (pairs_read words) (none_left items.rest both.0) both.1

gomory_read : (words : List (List ℕ)) → AreLine (codes "gomory" ∷ words) (gomory_form words)
gomory_read [] = tt
gomory_read (divisor ∷ []) = tt
gomory_read (divisor ∷ count ∷ words) = gomory_if (are_counted (count_of count) (pairs_of words)) divisor count words refl

covers_read : (a : Option RowRef) (b : Option ℕ) (c : Option (List ℕ)) (row count : List ℕ) (words : List (List ℕ)) (items : ℕ) (rest : List (List ℕ))
    → row_of row ≡ a → count_of count ≡ b → AreRead (map numeral) IsCount words c items rest → rest ≡ [] → agrees b items ≡ true → AreLine (codes "cover" ∷ row ∷ count ∷ words) (cover_by a b c)
covers_read None b c row count words items rest e f k none same = tt
covers_read (Some r) None c row count words items rest e f k none same = tt
covers_read (Some r) (Some n) None row count words items rest e f k none same = tt
covers_read (Some r) (Some n) (Some cs) row count words items rest e f k none same =
    let first = row_is row r e in
    let second = counted cs n items count f same k.2 in
    let third = all_words (map numeral) cs words rest none k.0 in (
      ap (λ w. codes "cover" ∷ w ∷ count ∷ words) first.0
          ∙ ap (λ w. codes "cover" ∷ row_word r ∷ w ∷ words) second.0
          ∙ ap (λ ws. codes "cover" ∷ row_word r ∷ numeral (length cs) ∷ ws) third,
      (first.1, record { each = k.1; few = second.1 }),
    )

cover_if : (t : Bool) (row count : List ℕ) (words : List (List ℕ)) → (is_row row && are_counted (count_of count) (items_by count_of words)) ≡ t → AreLine (codes "cover" ∷ row ∷ count ∷ words) (cond t (cover_by (row_of row) (count_of count) (items_by count_of words).values) NoForm)
cover_if false row count words t = tt
cover_if true row count words t =
    let items = items_by count_of words in
    let rest = (and_true (is_row row) (are_counted (count_of count) items) t).1 in
    let both = and_true (has_none items.rest) (agrees (count_of count) items.count) rest in
    covers_read (row_of row) (count_of count) items.values row count words items.count items.rest refl refl
    (items_read count_of numeral IsCount count_is count_again words) (none_left items.rest both.0) both.1

cover_read : (words : List (List ℕ)) → AreLine (codes "cover" ∷ words) (cover_form words)
cover_read [] = tt
cover_read (row ∷ []) = tt
cover_read (row ∷ count ∷ words) = cover_if (is_row row && are_counted (count_of count) (items_by count_of words)) row count words refl

trees_read : (a : Option ℕ) (count : List ℕ) → count_of count ≡ a → AreLine (codes "tree" ∷ count ∷ []) (tree_by a)
trees_read None count e = tt
trees_read (Some n) count e = let k = count_is count n e in (ap (λ w. codes "tree" ∷ w ∷ []) k.0, k.1)

tree_read : (words : List (List ℕ)) → AreLine (codes "tree" ∷ words) (tree_form words)
tree_read [] = tt
tree_read (count ∷ []) = trees_read (count_of count) count refl
tree_read (count ∷ word ∷ words) = tt

splits_read : (a : Option ℕ) (b c : Option ℤ) (col at next : List ℕ) → count_of col ≡ a → number_of at ≡ b → number_of next ≡ c → AreLine (codes "split" ∷ col ∷ at ∷ next ∷ []) (split_by a b c)
splits_read None b c col at next e f g = tt
splits_read (Some n) None c col at next e f g = tt
splits_read (Some n) (Some y) None col at next e f g = tt
splits_read (Some n) (Some y) (Some z) col at next e f g =
    let first = count_is col n e in
    let second = number_is at y f in
    let third = number_is next z g in (
      ap (λ w. codes "split" ∷ w ∷ at ∷ next ∷ []) first.0
          ∙ ap (λ w. codes "split" ∷ numeral n ∷ w ∷ next ∷ []) second.0
          ∙ ap (λ w. codes "split" ∷ numeral n ∷ signed_decimal y ∷ w ∷ []) third.0,
      (first.1, second.1, third.1),
    )

split_read : (words : List (List ℕ)) → AreLine (codes "split" ∷ words) (split_form words)
split_read [] = tt
split_read (col ∷ []) = tt
split_read (col ∷ at ∷ []) = tt
split_read (col ∷ at ∷ next ∷ []) = splits_read (count_of col) (number_of at) (number_of next) col at next refl refl refl
split_read (col ∷ at ∷ next ∷ word ∷ words) = tt

conflicts_read : (a : Option RowRef) (row : List ℕ) → row_of row ≡ a → AreClosing (codes "conflict" ∷ row ∷ []) (conflict_by a)
conflicts_read None row e = tt
conflicts_read (Some r) row e = let k = row_is row r e in (ap (λ w. codes "conflict" ∷ w ∷ []) k.0, k.1)

conflict_if : (t : Bool) (row : List ℕ) → AreClosing (codes "conflict" ∷ row ∷ []) (cond t (conflict_by (row_of row)) NoClosing)
conflict_if false row = tt
conflict_if true row = conflicts_read (row_of row) row refl

conflict_read : (words : List (List ℕ)) → AreClosing (codes "conflict" ∷ words) (conflict_form words)
conflict_read [] = tt
conflict_read (row ∷ []) = conflict_if (is_row row) row
conflict_read (row ∷ word ∷ words) = tt

empties_read : (a : Option ℕ) (col : List ℕ) → count_of col ≡ a → AreClosing (codes "empty" ∷ col ∷ []) (empty_by a)
empties_read None col e = tt
empties_read (Some n) col e = let k = count_is col n e in (ap (λ w. codes "empty" ∷ w ∷ []) k.0, k.1)

empty_read : (words : List (List ℕ)) → AreClosing (codes "empty" ∷ words) (empty_form words)
empty_read [] = tt
empty_read (col ∷ []) = empties_read (count_of col) col refl
empty_read (col ∷ word ∷ words) = tt

bounds_read : (b : Option ℕ) (c : Option (List Pair)) (count : List ℕ) (words : List (List ℕ)) (items : ℕ) (rest : List (List ℕ))
    → count_of count ≡ b → AreRead pair_words IsPair words c items rest → rest ≡ [] → agrees b items ≡ true → AreClosing (codes "bound" ∷ count ∷ words) (bound_by b c)
bounds_read None c count words items rest f k none same = tt
bounds_read (Some n) None count words items rest f k none same = tt
bounds_read (Some n) (Some ps) count words items rest f k none same =
    let first = counted ps n items count f same k.2 in
    let second = all_words pair_words ps words rest none k.0 in
    (ap (λ w. codes "bound" ∷ w ∷ words) first.0 ∙ ap (λ ws. codes "bound" ∷ numeral (length ps) ∷ ws) second, record { each = k.1; few = first.1 })

bound_if : (t : Bool) (count : List ℕ) (words : List (List ℕ)) → are_counted (count_of count) (pairs_of words) ≡ t → AreClosing (codes "bound" ∷ count ∷ words) (cond t (bound_by (count_of count) (pairs_of words).values) NoClosing)
bound_if false count words t = tt
bound_if true count words t =
    let items = pairs_of words in
    let both = and_true (has_none items.rest) (agrees (count_of count) items.count) t in
    bounds_read (count_of count) items.values count words items.count items.rest refl (pairs_read words) (none_left items.rest both.0) both.1

bound_read : (words : List (List ℕ)) → AreClosing (codes "bound" ∷ words) (bound_form words)
bound_read [] = tt
bound_read (count ∷ words) = bound_if (are_counted (count_of count) (pairs_of words)) count words refl

-- a word that is shown
shown_as : (word words : List ℕ) → bytes_eq word words ≡ true → words ≡ word
shown_as word words h = sym ((bytes_eq-Decides word words).0 h)

closing_if : (s t u : Bool) (word : List ℕ) (words : List (List ℕ)) → bytes_eq word (codes "conflict") ≡ s → bytes_eq word (codes "empty") ≡ t → bytes_eq word (codes "bound") ≡ u
    → AreClosing (word ∷ words) (cond s (conflict_form words) (cond t (empty_form words) (cond u (bound_form words) NoClosing)))
closing_if true t u word words e f g = subst (λ w. AreClosing (w ∷ words) (conflict_form words)) (shown_as word (codes "conflict") e) (conflict_read words)
closing_if false true u word words e f g = subst (λ w. AreClosing (w ∷ words) (empty_form words)) (shown_as word (codes "empty") f) (empty_read words)
closing_if false false true word words e f g = subst (λ w. AreClosing (w ∷ words) (bound_form words)) (shown_as word (codes "bound") g) (bound_read words)
closing_if false false false word words e f g = tt

closing_read : (words : List (List ℕ)) → AreClosing words (closing_form words)
closing_read [] = tt
closing_read (word ∷ words) = closing_if (bytes_eq word (codes "conflict")) (bytes_eq word (codes "empty")) (bytes_eq word (codes "bound")) word words refl refl refl

leaves_read : (b : Option ℕ) (c : Option (List Tighten)) (closing : ClosingReading) (count : List ℕ) (words : List (List ℕ)) (items : ℕ) (rest : List (List ℕ))
    → count_of count ≡ b → AreRead step_words IsStep words c items rest → AreClosing rest closing → agrees b items ≡ true → AreLine (codes "leaf" ∷ count ∷ words) (leaf_by b c closing)
leaves_read b c NoClosing count words items rest f k more same = tt
leaves_read b c BadClosing count words items rest f k more same = tt
leaves_read None c (Closes closing) count words items rest f k more same = tt
leaves_read (Some n) None (Closes closing) count words items rest f k more same = tt
leaves_read (Some n) (Some ss) (Closes closing) count words items rest f k more same =
    let first = counted ss n items count f same k.2 in
    let second : words ≡ step_words ss ++ closing_words closing = k.0 ∙ ap (λ r. step_words ss ++ r) more.0 in (
      ap (λ w. codes "leaf" ∷ w ∷ words) first.0 ∙ ap (λ ws. codes "leaf" ∷ numeral (length ss) ∷ ws) second,
      record { steps = record { each = k.1; few = first.1 }; closing = more.1 },
    )

leaf_if : (t : Bool) (count : List ℕ) (words : List (List ℕ)) → agrees (count_of count) (steps_of words).count ≡ t
    → AreLine (codes "leaf" ∷ count ∷ words) (cond t (leaf_by (count_of count) (steps_of words).values (closing_form (steps_of words).rest)) NoForm)
leaf_if false count words t = tt
leaf_if true count words t =
    let items = steps_of words in
    leaves_read (count_of count) items.values (closing_form items.rest) count words items.count items.rest refl (steps_read words) (closing_read items.rest) t

leaf_read : (words : List (List ℕ)) → AreLine (codes "leaf" ∷ words) (leaf_form words)
leaf_read [] = tt
leaf_read (count ∷ words) = leaf_if (agrees (count_of count) (steps_of words).count) count words refl

end_read : (words : List (List ℕ)) → AreLine (codes "end" ∷ words) (end_form words)
end_read [] = (refl, tt)
end_read (word ∷ words) = tt

-- how the first word of each form is written
abbrev keyword_text : Keyword → List ℕ
keyword_text keyword.Xsearch = codes "xsearch"
keyword_text keyword.Size = codes "size"
keyword_text keyword.Value = codes "value"
keyword_text keyword.Point = codes "point"
keyword_text keyword.Nothing = codes "none"
keyword_text keyword.Cuts = codes "cuts"
keyword_text keyword.Gomory = codes "gomory"
keyword_text keyword.Cover = codes "cover"
keyword_text keyword.Tree = codes "tree"
keyword_text keyword.Split = codes "split"
keyword_text keyword.Leaf = codes "leaf"
keyword_text keyword.End = codes "end"

-- a word that names a form is written so
abbrev IsNamed : List ℕ → Option Keyword → Type 0
IsNamed word None = Unit {0}
IsNamed word (Some k) = keyword_text k ≡ word

named_else : (t : Bool) (k : Keyword) (o : Option Keyword) (word : List ℕ) → bytes_eq word (keyword_text k) ≡ t → IsNamed word o → IsNamed word (cond t (Some k) o)
named_else true k o word t more = shown_as word (keyword_text k) t
named_else false k o word t more = more

named : (word : List ℕ) → IsNamed word (keyword_of word)
named word =
    named_else (bytes_eq word (codes "xsearch")) keyword.Xsearch _ word refl
    (named_else (bytes_eq word (codes "size")) keyword.Size _ word refl
    (named_else (bytes_eq word (codes "value")) keyword.Value _ word refl
    (named_else (bytes_eq word (codes "point")) keyword.Point _ word refl
    (named_else (bytes_eq word (codes "none")) keyword.Nothing _ word refl
    (named_else (bytes_eq word (codes "cuts")) keyword.Cuts _ word refl
    (named_else (bytes_eq word (codes "gomory")) keyword.Gomory _ word refl
    (named_else (bytes_eq word (codes "cover")) keyword.Cover _ word refl
    (named_else (bytes_eq word (codes "tree")) keyword.Tree _ word refl
    (named_else (bytes_eq word (codes "split")) keyword.Split _ word refl
    (named_else (bytes_eq word (codes "leaf")) keyword.Leaf _ word refl
    (named_else (bytes_eq word (codes "end")) keyword.End None word refl tt)))))))))))

forms_read : (k : Keyword) (words : List (List ℕ)) → AreLine (keyword_text k ∷ words) (form_by (Some k) words)
forms_read keyword.Xsearch words = header_read words
forms_read keyword.Size words = size_read words
forms_read keyword.Value words = value_read words
forms_read keyword.Point words = point_read words
forms_read keyword.Nothing words = none_read words
forms_read keyword.Cuts words = cuts_read words
forms_read keyword.Gomory words = gomory_read words
forms_read keyword.Cover words = cover_read words
forms_read keyword.Tree words = tree_read words
forms_read keyword.Split words = split_read words
forms_read keyword.Leaf words = leaf_read words
forms_read keyword.End words = end_read words

form_named : (o : Option Keyword) (word : List ℕ) (words : List (List ℕ)) → IsNamed word o → AreLine (word ∷ words) (form_by o words)
form_named None word words is = tt
form_named (Some k) word words is = subst (λ w. AreLine (w ∷ words) (form_by (Some k) words)) is (forms_read k words)

form_read : (words : List (List ℕ)) → AreLine words (form_of words)
form_read [] = tt
form_read (word ∷ words) = form_named (keyword_of word) word words (named word)

words_if : (t : Bool) (words : List (List ℕ)) → AreLine words (cond t NoForm (form_of words))
words_if true words = tt
words_if false words = form_read words

-- words from which a line is read are the words of this line
pub words_read : (words : List (List ℕ)) → AreLine words (words_reading words)
words_read words = words_if (list_any is_empty_word words) words
