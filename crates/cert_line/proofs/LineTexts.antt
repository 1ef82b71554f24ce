-- The text of a line is its words with a blank between each two.
use Rattle.std.proofs.Common.{◌≡◌, ◌∙◌, ℕ, List, [], ◌∷◌, ◌++◌, length, map, refl, ap, sym, append_assoc, Option, Some, None, ℤ, Bool, true, false, codes}
use Rattle.std.specs.Fmt.{decimal as numeral, signed_decimal}
use Rattle.std.proofs.lemmas.List.{append-nil}
use Rattle.ip_core.specs.declared.derivation.Derivation.{Derivation}
use Rattle.ip_core.specs.declared.derivation.Derivation.TheVariants.{Gomory, Cover}
use Rattle.ip_core.specs.declared.leaf.Pair.{Pair}
use Rattle.ip_core.specs.declared.leaf.Tighten.{Tighten}
use Rattle.ip_core.specs.declared.leaf.Closing.{Closing}
use Rattle.ip_core.specs.declared.leaf.Closing.TheVariants.{Conflict, Empty, Bound}
use Rattle.ip_core.specs.declared.row_ref.RowRef.{RowRef}
use Rattle.ip_core.specs.declared.row_ref.RowRef.TheVariants.{Model as ModelRow, Cut as CutRow}
use Rattle.tree_cert.specs.declared.node.CertNode.{CertNode}
use Rattle.tree_cert.specs.declared.node.CertNode.TheVariants.{Split, Leaf as Ends}
use Rattle.entry_text.specs.Fields.{number_field, number_fields, signed_field, signed_fields, row_field, pair_fields}
use Rattle.entry_text.specs.Entries.{derivation_text}
use Rattle.cert_line.specs.declared.line.Line.{Line}
use Rattle.cert_line.specs.declared.line.Line.TheVariants.{Header, Size, Value, Point, Cuts, Cut, Tree, Node, End}
use Rattle.cert_line.specs.Words.{fields, joined}
use Rattle.cert_line.specs.Lines.{side_field, step_fields, closing_fields, node_text, point_text, line_text}
use Rattle.cert_line.proofs.LineWords.{row_word, pair_words, side_word, step_words, closing_words, derivation_words, node_words, point_words, words_of}

-- a word after a blank stands before the others
row_field_is : (row : RowRef) (rest : List ℕ) → 32 ∷ (row_word row ++ rest) ≡ row_field row ++ rest
row_field_is (ModelRow n) rest = refl
row_field_is (CutRow n) rest = refl

side_field_is : (low : Bool) (rest : List ℕ) → 32 ∷ (side_word low ++ rest) ≡ side_field low ++ rest
side_field_is true rest = refl
side_field_is false rest = refl

pair_fields_are : (pairs : List Pair) → fields (pair_words pairs) ≡ pair_fields pairs
pair_fields_are [] = refl
pair_fields_are (p ∷ ps) =
    row_field_is p.row (number_field p.weight ++ fields (pair_words ps))
    ∙ ap (λ r. row_field p.row ++ (number_field p.weight ++ r)) (pair_fields_are ps)
    ∙ sym (append_assoc (row_field p.row) (number_field p.weight) (pair_fields ps))

step_fields_are : (steps : List Tighten) → fields (step_words steps) ≡ step_fields steps
step_fields_are [] = refl
step_fields_are (s ∷ ss) =
    row_field_is s.row (number_field s.col ++ (32 ∷ (side_word s.low ++ fields (step_words ss))))
    ∙ ap (λ r. row_field s.row ++ (number_field s.col ++ r)) (side_field_is s.low (fields (step_words ss)))
    ∙ ap (λ r. row_field s.row ++ (number_field s.col ++ (side_field s.low ++ r))) (step_fields_are ss)
    ∙ sym (append_assoc (row_field s.row) (number_field s.col) (side_field s.low ++ step_fields ss))
    ∙ sym (append_assoc (row_field s.row ++ number_field s.col) (side_field s.low) (step_fields ss))

number_fields_are : (ns : List ℕ) → fields (map numeral ns) ≡ number_fields ns
number_fields_are [] = refl
number_fields_are (n ∷ ns) = ap (λ r. number_field n ++ r) (number_fields_are ns)

signed_fields_are : (zs : List ℤ) → fields (map signed_decimal zs) ≡ signed_fields zs
signed_fields_are [] = refl
signed_fields_are (z ∷ zs) = ap (λ r. signed_field z ++ r) (signed_fields_are zs)

closing_fields_are : (closing : Closing) → fields (closing_words closing) ≡ closing_fields closing
closing_fields_are (Conflict row) = ap (λ r. codes " conflict" ++ r) (row_field_is row [] ∙ append-nil (row_field row))
closing_fields_are (Empty col) = ap (λ r. codes " empty" ++ r) (append-nil (number_field col))
closing_fields_are (Bound pairs) =
    ap (λ r. codes " bound" ++ (number_field (length pairs) ++ r)) (pair_fields_are pairs)
    ∙ sym (append_assoc (codes " bound") (number_field (length pairs)) (pair_fields pairs))

fields_append : (front back : List (List ℕ)) → fields (front ++ back) ≡ fields front ++ fields back
fields_append [] back = refl
fields_append (word ∷ front) back =
    ap (λ r. 32 ∷ (word ++ r)) (fields_append front back)
    ∙ ap (λ r. 32 ∷ r) (sym (append_assoc word (fields front) (fields back)))

leaf_text_is : (closing : List ℕ) (count : ℕ) (rest steps : List ℕ) → rest ≡ steps ++ closing → codes "leaf" ++ (number_field count ++ rest) ≡ codes "leaf" ++ number_field count ++ steps ++ closing
leaf_text_is closing count rest steps is =
    ap (λ r. codes "leaf" ++ (number_field count ++ r)) is
    ∙ sym (append_assoc (codes "leaf") (number_field count) (steps ++ closing))
    ∙ sym (append_assoc (codes "leaf" ++ number_field count) steps closing)

derivation_joined : (d : Derivation) → joined (derivation_words d) ≡ derivation_text d
derivation_joined (Gomory parts divisor) =
    ap (λ r. codes "gomory" ++ (number_field divisor ++ (number_field (length parts) ++ r))) (pair_fields_are parts)
    ∙ sym (append_assoc (codes "gomory") (number_field divisor) (number_field (length parts) ++ pair_fields parts))
    ∙ sym (append_assoc (codes "gomory" ++ number_field divisor) (number_field (length parts)) (pair_fields parts))
derivation_joined (Cover row cols) =
    ap (λ r. codes "cover" ++ r) (row_field_is row (number_field (length cols) ++ fields (map numeral cols)))
    ∙ ap (λ r. codes "cover" ++ (row_field row ++ (number_field (length cols) ++ r))) (number_fields_are cols)
    ∙ sym (append_assoc (codes "cover") (row_field row) (number_field (length cols) ++ number_fields cols))
    ∙ sym (append_assoc (codes "cover" ++ row_field row) (number_field (length cols)) (number_fields cols))

node_joined : (node : CertNode) → joined (node_words node) ≡ node_text node
node_joined (Split col at next) =
    ap (λ r. codes "split" ++ (number_field col ++ (signed_field at ++ r))) (append-nil (signed_field next))
    ∙ sym (append_assoc (codes "split") (number_field col) (signed_field at ++ signed_field next))
    ∙ sym (append_assoc (codes "split" ++ number_field col) (signed_field at) (signed_field next))
node_joined (Ends leaf) =
    leaf_text_is (closing_fields leaf.closing) (length leaf.steps) (fields (step_words leaf.steps ++ closing_words leaf.closing)) (step_fields leaf.steps)
    (fields_append (step_words leaf.steps) (closing_words leaf.closing)
    ∙ ap (λ r. r ++ fields (closing_words leaf.closing)) (step_fields_are leaf.steps)
    ∙ ap (λ r. step_fields leaf.steps ++ r) (closing_fields_are leaf.closing))

point_joined : (point : Option (List ℤ)) → joined (point_words point) ≡ point_text point
point_joined None = refl
point_joined (Some values) = ap (λ r. codes "point" ++ r) (signed_fields_are values)

pub line_joined : (l : Line) → joined (words_of l) ≡ line_text l
line_joined Header = refl
line_joined (Size cols rows) =
    ap (λ r. codes "size" ++ (number_field cols ++ r)) (append-nil (number_field rows))
    ∙ sym (append_assoc (codes "size") (number_field cols) (number_field rows))
line_joined (Value value) = ap (λ r. codes "value" ++ r) (append-nil (signed_field value))
line_joined (Point point) = point_joined point
line_joined (Cuts count) = ap (λ r. codes "cuts" ++ r) (append-nil (number_field count))
line_joined (Cut derivation) = derivation_joined derivation
line_joined (Tree count) = ap (λ r. codes "tree" ++ r) (append-nil (number_field count))
line_joined (Node node) = node_joined node
line_joined End = refl
