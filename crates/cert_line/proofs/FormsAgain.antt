-- The words of a line are read as this line.
use Rattle.std.proofs.Common.{◌≡◌, ℕ, true, [], ◌++◌, length, map, refl, ap, Some, None, ◌==◌}
use Rattle.std.specs.Fmt.{decimal as numeral, signed_decimal}
use Rattle.std.proofs.lemmas.Bool.{eq-eqb}
use Rattle.ip_core.specs.declared.derivation.Derivation.{Derivation}
use Rattle.ip_core.specs.declared.derivation.Derivation.TheVariants.{Gomory, Cover}
use Rattle.ip_core.specs.declared.leaf.Closing.{Closing}
use Rattle.ip_core.specs.declared.leaf.Closing.TheVariants.{Conflict, Empty, Bound}
use Rattle.ip_core.specs.declared.leaf.Leaf.{Leaf}
use Rattle.tree_cert.specs.declared.node.CertNode.{CertNode}
use Rattle.tree_cert.specs.declared.node.CertNode.TheVariants.{Split, Leaf as Ends}
use Rattle.cert_line.specs.declared.closing.ClosingReading.TheVariants.{Is as Closes}
use Rattle.cert_line.specs.declared.line.Line.{Line}
use Rattle.cert_line.specs.declared.line.Line.TheVariants.{Header, Size, Value, Point, Cuts, Cut, Tree, Node, End}
use Rattle.cert_line.specs.declared.line.LineReading.TheVariants.{Is}
use Rattle.cert_line.specs.Numerals.{count_of, weight_of, number_of, is_row, row_of}
use Rattle.cert_line.specs.Items.{items_by, pairs_of, steps_of}
use Rattle.cert_line.specs.Readings.{closing_form, point_by, form_of}
use Rattle.cert_line.specs.Lines.{IsCount, IsNumber, IsDerivation, IsClosing, IsLeaf, IsNode, IsLine}
use Rattle.cert_line.proofs.LineWords.{row_word, pair_words, step_words, closing_words, leaf_words, derivation_words, node_words, words_of}
use Rattle.cert_line.proofs.NumberTexts.{count_is, count_again, weight_again, number_is, number_again, row_again, stands_as_row}
use Rattle.cert_line.proofs.ItemTexts.{all_items, items_again, pairs_again, steps_again, closing_stops}

same_count : (n : ℕ) → (n == n) ≡ true
same_count n = eq-eqb n n refl

closing_again : (closing : Closing) → IsClosing closing → closing_form (closing_words closing) ≡ Closes closing
closing_again (Conflict row) k =
    let stands : is_row (row_word row) ≡ true = stands_as_row row k in
    let is : row_of (row_word row) ≡ Some row = row_again row k in
    rw (stands, is) refl
closing_again (Empty col) k = rw (count_again col k) refl
closing_again (Bound pairs) k =
    let items : pairs_of (pair_words pairs) ≡ all_items pairs [] = pairs_again pairs k.each in
    let count : count_of (numeral (length pairs)) ≡ Some (length pairs) = count_again (length pairs) k.few in
    let same : (length pairs == length pairs) ≡ true = same_count (length pairs) in
    rw (items, count, same) refl

leaf_again : (leaf : Leaf) → IsLeaf leaf → form_of (leaf_words leaf) ≡ Is (Node (Ends leaf))
leaf_again leaf k =
    let items : steps_of (step_words leaf.steps ++ closing_words leaf.closing) ≡ all_items leaf.steps (closing_words leaf.closing) =
    steps_again leaf.steps (closing_words leaf.closing) k.steps.each (closing_stops leaf.closing) in
    let count : count_of (numeral (length leaf.steps)) ≡ Some (length leaf.steps) = count_again (length leaf.steps) k.steps.few in
    let same : (length leaf.steps == length leaf.steps) ≡ true = same_count (length leaf.steps) in
    let closing : closing_form (closing_words leaf.closing) ≡ Closes leaf.closing = closing_again leaf.closing k.closing in
    rw (items, count, same, closing) refl

derivation_again : (d : Derivation) → IsDerivation d → form_of (derivation_words d) ≡ Is (Cut d)
derivation_again (Gomory parts divisor) k =
    let items : pairs_of (pair_words parts) ≡ all_items parts [] = pairs_again parts k.0.each in
    let count : count_of (numeral (length parts)) ≡ Some (length parts) = count_again (length parts) k.0.few in
    let same : (length parts == length parts) ≡ true = same_count (length parts) in
    let by : weight_of (numeral divisor) ≡ Some divisor = weight_again divisor k.1 in
    rw (items, count, same, by) refl
derivation_again (Cover row cols) k =
    let items : items_by count_of (map numeral cols) ≡ all_items cols [] = items_again count_of numeral IsCount count_is count_again cols k.1.each in
    let count : count_of (numeral (length cols)) ≡ Some (length cols) = count_again (length cols) k.1.few in
    let same : (length cols == length cols) ≡ true = same_count (length cols) in
    let stands : is_row (row_word row) ≡ true = stands_as_row row k.0 in
    let is : row_of (row_word row) ≡ Some row = row_again row k.0 in
    rw (items, count, same, stands, is) refl

node_again : (node : CertNode) → IsNode node → form_of (node_words node) ≡ Is (Node node)
node_again (Split col at next) k =
    let first : count_of (numeral col) ≡ Some col = count_again col k.0 in
    let second : number_of (signed_decimal at) ≡ Some at = number_again at k.1 in
    let third : number_of (signed_decimal next) ≡ Some next = number_again next k.2 in
    rw (first, second, third) refl
node_again (Ends leaf) k = leaf_again leaf k

-- the words of a line whose numbers are in their ranges
pub form_again : (l : Line) → IsLine l → form_of (words_of l) ≡ Is l
form_again Header k = refl
form_again (Size cols rows) k =
    let first : count_of (numeral cols) ≡ Some cols = count_again cols k.0 in
    let second : count_of (numeral rows) ≡ Some rows = count_again rows k.1 in
    rw (first, second) refl
form_again (Value value) k = rw (number_again value k) refl
form_again (Point None) k = refl
form_again (Point (Some values)) k =
    let items : items_by number_of (map signed_decimal values) ≡ all_items values [] = items_again number_of signed_decimal IsNumber number_is number_again values k in
    ap (λ i. point_by i.values) items
form_again (Cuts count) k = rw (count_again count k) refl
form_again (Cut derivation) k = derivation_again derivation k
form_again (Tree count) k = rw (count_again count k) refl
form_again (Node node) k = node_again node k
form_again End k = refl
