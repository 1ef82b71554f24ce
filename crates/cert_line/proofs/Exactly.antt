-- Bytes are read as a line exactly where they are its text.
use Rattle.std.proofs.Common.{◌≡◌, ◌∙◌, ℕ, Bool, true, false, ◌==◌, List, [], ◌∷◌, ◌++◌, length, map, ℤ, refl, ap, sym, subst, Option, Some, None, cond}
use Rattle.std.specs.List.{AllByRecursion, list_any}
use Rattle.std.specs.Fmt.{decimal as numeral, signed_decimal}
use Rattle.ip_core.specs.declared.derivation.Derivation.{Derivation}
use Rattle.ip_core.specs.declared.derivation.Derivation.TheVariants.{Gomory, Cover}
use Rattle.ip_core.specs.declared.leaf.Pair.{Pair}
use Rattle.ip_core.specs.declared.leaf.Tighten.{Tighten}
use Rattle.ip_core.specs.declared.leaf.Closing.{Closing}
use Rattle.ip_core.specs.declared.leaf.Closing.TheVariants.{Conflict, Empty, Bound}
use Rattle.tree_cert.specs.declared.node.CertNode.{CertNode}
use Rattle.tree_cert.specs.declared.node.CertNode.TheVariants.{Split, Leaf as Ends}
use Rattle.cert_line.specs.declared.line.Line.{Line}
use Rattle.cert_line.specs.declared.line.Line.TheVariants.{Header, Size, Value, Point, Cuts, Cut, Tree, Node, End}
use Rattle.cert_line.specs.declared.line.LineReading.TheVariants.{NoForm, Is}
use Rattle.cert_line.specs.Words.{pieces, joined, has_none}
use Rattle.cert_line.specs.Readings.{form_of, is_empty_word, words_reading, reading_of}
use Rattle.cert_line.specs.Lines.{IsNumber, IsPair, IsStep, IsCount, IsDerivation, IsClosing, IsNode, IsPoint, IsLine, line_text, ReadingIsExact, LineHasNoFeed}
use Rattle.cert_line.proofs.LineWords.{AreLine, pair_words, side_word, step_words, closing_words, derivation_words, node_words, point_words, words_of}
use Rattle.cert_line.proofs.PlainWords.{IsWord, AreWords, joined_pieces, pieces_joined, none_empty, no_feed, count_is_word, weight_is_word, number_is_word, row_is_word}
use Rattle.cert_line.proofs.FormsRead.{words_read}
use Rattle.cert_line.proofs.FormsAgain.{form_again}
use Rattle.cert_line.proofs.LineTexts.{line_joined}

both_are_words : (front back : List (List ℕ)) → AreWords front → AreWords back → AreWords (front ++ back)
both_are_words [] back k more = more
both_are_words (word ∷ front) back k more = (k.0, both_are_words front back k.1 more)

pairs_are_words : (pairs : List Pair) → AllByRecursion IsPair pairs → AreWords (pair_words pairs)
pairs_are_words [] k = tt
pairs_are_words (p ∷ ps) k = (row_is_word p.row k.0.row, (weight_is_word p.weight k.0.weight, pairs_are_words ps k.1))

side_is_word : (low : Bool) → IsWord (side_word low)
side_is_word true = record { filled = refl; plain = refl }
side_is_word false = record { filled = refl; plain = refl }

steps_are_words : (steps : List Tighten) → AllByRecursion IsStep steps → AreWords (step_words steps)
steps_are_words [] k = tt
steps_are_words (s ∷ ss) k = (row_is_word s.row k.0.row, (count_is_word s.col k.0.col, (side_is_word s.low, steps_are_words ss k.1)))

counts_are_words : (ns : List ℕ) → AllByRecursion IsCount ns → AreWords (map numeral ns)
counts_are_words [] k = tt
counts_are_words (n ∷ ns) k = (count_is_word n k.0, counts_are_words ns k.1)

numbers_are_words : (zs : List ℤ) → AllByRecursion IsNumber zs → AreWords (map signed_decimal zs)
numbers_are_words [] k = tt
numbers_are_words (z ∷ zs) k = (number_is_word z k.0, numbers_are_words zs k.1)

closing_are_words : (closing : Closing) → IsClosing closing → AreWords (closing_words closing)
closing_are_words (Conflict row) k = (record { filled = refl; plain = refl }, (row_is_word row k, tt))
closing_are_words (Empty col) k = (record { filled = refl; plain = refl }, (count_is_word col k, tt))
closing_are_words (Bound pairs) k = (record { filled = refl; plain = refl }, (count_is_word (length pairs) k.few, pairs_are_words pairs k.each))

derivation_are_words : (d : Derivation) → IsDerivation d → AreWords (derivation_words d)
derivation_are_words (Gomory parts divisor) k =
    (record { filled = refl; plain = refl }, (weight_is_word divisor k.1, (count_is_word (length parts) k.0.few, pairs_are_words parts k.0.each)))
derivation_are_words (Cover row cols) k =
    (record { filled = refl; plain = refl }, (row_is_word row k.0, (count_is_word (length cols) k.1.few, counts_are_words cols k.1.each)))

node_are_words : (node : CertNode) → IsNode node → AreWords (node_words node)
node_are_words (Split col at next) k = (record { filled = refl; plain = refl }, (count_is_word col k.0, (number_is_word at k.1, (number_is_word next k.2, tt))))
node_are_words (Ends leaf) k = (
  record { filled = refl; plain = refl },
  (
    count_is_word (length leaf.steps) k.steps.few,
    both_are_words (step_words leaf.steps) (closing_words leaf.closing) (steps_are_words leaf.steps k.steps.each) (closing_are_words leaf.closing k.closing),
  ),
)

point_are_words : (point : Option (List ℤ)) → IsPoint point → AreWords (point_words point)
point_are_words None k = (record { filled = refl; plain = refl }, tt)
point_are_words (Some values) k = (record { filled = refl; plain = refl }, numbers_are_words values k)

line_are_words : (l : Line) → IsLine l → AreWords (words_of l)
line_are_words Header k = (record { filled = refl; plain = refl }, (record { filled = refl; plain = refl }, (record { filled = refl; plain = refl }, tt)))
line_are_words (Size cols rows) k = (record { filled = refl; plain = refl }, (count_is_word cols k.0, (count_is_word rows k.1, tt)))
line_are_words (Value value) k = (record { filled = refl; plain = refl }, (number_is_word value k, tt))
line_are_words (Point point) k = point_are_words point k
line_are_words (Cuts count) k = (record { filled = refl; plain = refl }, (count_is_word count k, tt))
line_are_words (Cut derivation) k = derivation_are_words derivation k
line_are_words (Tree count) k = (record { filled = refl; plain = refl }, (count_is_word count k, tt))
line_are_words (Node node) k = node_are_words node k
line_are_words End k = (record { filled = refl; plain = refl }, tt)

derivation_has_words : (d : Derivation) → has_none (derivation_words d) ≡ false
derivation_has_words (Gomory parts divisor) = refl
derivation_has_words (Cover row cols) = refl

node_has_words : (node : CertNode) → has_none (node_words node) ≡ false
node_has_words (Split col at next) = refl
node_has_words (Ends leaf) = refl

point_has_words : (point : Option (List ℤ)) → has_none (point_words point) ≡ false
point_has_words None = refl
point_has_words (Some values) = refl

line_has_words : (l : Line) → has_none (words_of l) ≡ false
line_has_words Header = refl
line_has_words (Size cols rows) = refl
line_has_words (Value value) = refl
line_has_words (Point point) = point_has_words point
line_has_words (Cuts count) = refl
line_has_words (Cut derivation) = derivation_has_words derivation
line_has_words (Tree count) = refl
line_has_words (Node node) = node_has_words node
line_has_words End = refl

words_again : (words : List (List ℕ)) → has_none words ≡ false → AreWords words → reading_of (joined words) ≡ form_of words
words_again [] some k = cc
words_again (word ∷ words) some k =
    let parted : pieces (joined (word ∷ words)) ≡ word ∷ words = joined_pieces word words k in
    let none : list_any is_empty_word (word ∷ words) ≡ false = none_empty (word ∷ words) k in
    ap words_reading parted ∙ ap (λ b. cond b NoForm (form_of (word ∷ words))) none

line_again : (bytes : List ℕ) (l : Line) → bytes ≡ line_text l → IsLine l → reading_of bytes ≡ Is l
line_again bytes l is k =
    ap reading_of (is ∙ sym (line_joined l)) ∙ words_again (words_of l) (line_has_words l) (line_are_words l k) ∙ form_again l k

line_is : (bytes : List ℕ) (l : Line) → reading_of bytes ≡ Is l → (bytes ≡ line_text l) × IsLine l
line_is bytes l e =
    let k = subst (AreLine (pieces bytes)) e (words_read (pieces bytes)) in
    (sym (pieces_joined bytes) ∙ ap joined k.0 ∙ line_joined l, k.1)

pub reading_is_exact : ReadingIsExact
reading_is_exact bytes l = (line_is bytes l, λ k. line_again bytes l k.0 k.1)

pub line_has_no_feed : LineHasNoFeed
line_has_no_feed l k = ap (list_any (λ b. b == 10)) (sym (line_joined l)) ∙ no_feed (words_of l) (line_are_words l k)
