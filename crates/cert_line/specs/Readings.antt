-- What the bytes of a line are read as: first whether its words stand as in a form of line, then
-- whether each number of it is good.
use Rattle.std.specs.Prelude.{ℕ, Bool, ◌&&◌, ◌==◌, if◌then◌else◌, List, [], ◌∷◌, length, ℤ, Option, Some, None, codes}
use Rattle.std.specs.List.{list_any}
use Rattle.std.specs.Str.{bytes_eq}
use Rattle.ip_core.specs.declared.derivation.Derivation.TheVariants.{Gomory, Cover}
use Rattle.ip_core.specs.declared.leaf.Pair.{Pair}
use Rattle.ip_core.specs.declared.leaf.Tighten.{Tighten}
use Rattle.ip_core.specs.declared.leaf.Closing.TheVariants.{Conflict, Empty, Bound}
use Rattle.ip_core.specs.declared.row_ref.RowRef.{RowRef}
use Rattle.tree_cert.specs.declared.node.CertNode.TheVariants.{Split, Leaf}
use Rattle.cert_line.specs.declared.closing.ClosingReading.{ClosingReading}
use Rattle.cert_line.specs.declared.closing.ClosingReading.TheVariants.{NoForm as NoClosing, BadNumber as BadClosing, Is as Closes}
use Rattle.cert_line.specs.declared.keyword.Keyword.{Keyword}
use Rattle.cert_line.specs.declared.keyword.Keyword.TheVariants as keyword
use Rattle.cert_line.specs.declared.line.Line.TheVariants as line
use Rattle.cert_line.specs.declared.line.LineReading.{LineReading}
use Rattle.cert_line.specs.declared.line.LineReading.TheVariants.{NoForm, BadNumber, Is}
use Rattle.cert_line.specs.Words.{pieces}
use Rattle.cert_line.specs.Numerals.{count_of, weight_of, number_of, is_row, row_of}
use Rattle.cert_line.specs.Items.{Items, items_by, pairs_of, steps_of, agrees, are_counted}

-- What the numbers of a line give, each of them or none: a line where all are good.

-- the numbers of columns and of rows
abbrev pub size_by : Option ℕ → Option ℕ → LineReading
size_by None rows = BadNumber
size_by (Some cols) None = BadNumber
size_by (Some cols) (Some rows) = Is (line.Size cols rows)

-- a value
abbrev pub value_by : Option ℤ → LineReading
value_by None = BadNumber
value_by (Some value) = Is (line.Value value)

-- the values of a point
abbrev pub point_by : Option (List ℤ) → LineReading
point_by None = BadNumber
point_by (Some values) = Is (line.Point (Some values))

-- the number of cuts
abbrev pub cuts_by : Option ℕ → LineReading
cuts_by None = BadNumber
cuts_by (Some count) = Is (line.Cuts count)

-- a divisor, the count of rows with weights, and these
abbrev pub gomory_by : Option ℕ → Option ℕ → Option (List Pair) → LineReading
gomory_by None count parts = BadNumber
gomory_by (Some divisor) None parts = BadNumber
gomory_by (Some divisor) (Some count) None = BadNumber
gomory_by (Some divisor) (Some count) (Some parts) = Is (line.Cut (Gomory parts divisor))

-- a row, the count of columns, and these
abbrev pub cover_by : Option RowRef → Option ℕ → Option (List ℕ) → LineReading
cover_by None count cols = BadNumber
cover_by (Some row) None cols = BadNumber
cover_by (Some row) (Some count) None = BadNumber
cover_by (Some row) (Some count) (Some cols) = Is (line.Cut (Cover row cols))

-- the number of nodes
abbrev pub tree_by : Option ℕ → LineReading
tree_by None = BadNumber
tree_by (Some count) = Is (line.Tree count)

-- a column, the most of the low child and the least of the high one
abbrev pub split_by : Option ℕ → Option ℤ → Option ℤ → LineReading
split_by None at next = BadNumber
split_by (Some col) None next = BadNumber
split_by (Some col) (Some at) None = BadNumber
split_by (Some col) (Some at) (Some next) = Is (line.Node (Split col at next))

-- the row of a conflict
abbrev pub conflict_by : Option RowRef → ClosingReading
conflict_by None = BadClosing
conflict_by (Some row) = Closes (Conflict row)

-- the column that is empty
abbrev pub empty_by : Option ℕ → ClosingReading
empty_by None = BadClosing
empty_by (Some col) = Closes (Empty col)

-- the count of rows with multipliers, and these
abbrev pub bound_by : Option ℕ → Option (List Pair) → ClosingReading
bound_by None pairs = BadClosing
bound_by (Some count) None = BadClosing
bound_by (Some count) (Some pairs) = Closes (Bound pairs)

-- a count of steps, these, and what the words after them are read as
abbrev pub leaf_by : Option ℕ → Option (List Tighten) → ClosingReading → LineReading
leaf_by count steps NoClosing = NoForm
leaf_by count steps BadClosing = BadNumber
leaf_by None steps (Closes closing) = BadNumber
leaf_by (Some count) None (Closes closing) = BadNumber
leaf_by (Some count) (Some steps) (Closes closing) =
    Is (line.Node (Leaf (record { steps = steps; closing = closing })))

-- What the words after the first one are read as, for each form.

-- `certificate 1`
abbrev pub header_form : List (List ℕ) → LineReading
header_form (name ∷ version ∷ []) =
    if bytes_eq name (codes "certificate") && bytes_eq version (codes "1") then Is line.Header
    else NoForm
header_form _ = NoForm

-- two counts
abbrev pub size_form : List (List ℕ) → LineReading
size_form (cols ∷ rows ∷ []) = size_by (count_of cols) (count_of rows)
size_form _ = NoForm

-- one number
abbrev pub value_form : List (List ℕ) → LineReading
value_form (value ∷ []) = value_by (number_of value)
value_form _ = NoForm

-- any number of numbers
abbrev pub point_form : List (List ℕ) → LineReading
point_form words = point_by (items_by number_of words).values

-- no word
abbrev pub none_form : List (List ℕ) → LineReading
none_form [] = Is (line.Point None)
none_form _ = NoForm

-- one count
abbrev pub cuts_form : List (List ℕ) → LineReading
cuts_form (count ∷ []) = cuts_by (count_of count)
cuts_form _ = NoForm

-- a divisor, a count, and as many rows with weights
abbrev pub gomory_form : List (List ℕ) → LineReading
gomory_form (divisor ∷ count ∷ words) =
    if are_counted (count_of count) (pairs_of words)
    then gomory_by (weight_of divisor) (count_of count) (pairs_of words).values
    else NoForm
gomory_form _ = NoForm

-- a row, a count, and as many columns
abbrev pub cover_form : List (List ℕ) → LineReading
cover_form (row ∷ count ∷ words) =
    if is_row row && are_counted (count_of count) (items_by count_of words)
    then cover_by (row_of row) (count_of count) (items_by count_of words).values
    else NoForm
cover_form _ = NoForm

-- one count
abbrev pub tree_form : List (List ℕ) → LineReading
tree_form (count ∷ []) = tree_by (count_of count)
tree_form _ = NoForm

-- a column and two numbers
abbrev pub split_form : List (List ℕ) → LineReading
split_form (col ∷ at ∷ next ∷ []) = split_by (count_of col) (number_of at) (number_of next)
split_form _ = NoForm

-- one row
abbrev pub conflict_form : List (List ℕ) → ClosingReading
conflict_form (row ∷ []) = if is_row row then conflict_by (row_of row) else NoClosing
conflict_form _ = NoClosing

-- one column
abbrev pub empty_form : List (List ℕ) → ClosingReading
empty_form (col ∷ []) = empty_by (count_of col)
empty_form _ = NoClosing

-- a count, and as many rows with multipliers
abbrev pub bound_form : List (List ℕ) → ClosingReading
bound_form [] = NoClosing
bound_form (count ∷ words) =
    if are_counted (count_of count) (pairs_of words)
    then bound_by (count_of count) (pairs_of words).values
    else NoClosing

-- what the words after a leaf's steps are read as
abbrev pub closing_form : List (List ℕ) → ClosingReading
closing_form [] = NoClosing
closing_form (word ∷ words) =
    if bytes_eq word (codes "conflict") then conflict_form words
    else if bytes_eq word (codes "empty") then empty_form words
    else if bytes_eq word (codes "bound") then bound_form words
    else NoClosing

-- a leaf after its count: its steps, of which there are as many as a count says that isn't bad
abbrev pub counted_leaf : Option ℕ → Items Tighten → LineReading
counted_leaf count steps =
    if agrees count steps.count then leaf_by count steps.values (closing_form steps.rest)
    else NoForm

-- a count, as many steps, and a closing
abbrev pub leaf_form : List (List ℕ) → LineReading
leaf_form [] = NoForm
leaf_form (count ∷ words) = counted_leaf (count_of count) (steps_of words)

-- no word
abbrev pub end_form : List (List ℕ) → LineReading
end_form [] = Is line.End
end_form _ = NoForm

-- the form of line that a first word names
abbrev pub keyword_of : List ℕ → Option Keyword
keyword_of word =
    if bytes_eq word (codes "xsearch") then Some keyword.Xsearch
    else if bytes_eq word (codes "size") then Some keyword.Size
    else if bytes_eq word (codes "value") then Some keyword.Value
    else if bytes_eq word (codes "point") then Some keyword.Point
    else if bytes_eq word (codes "none") then Some keyword.Nothing
    else if bytes_eq word (codes "cuts") then Some keyword.Cuts
    else if bytes_eq word (codes "gomory") then Some keyword.Gomory
    else if bytes_eq word (codes "cover") then Some keyword.Cover
    else if bytes_eq word (codes "tree") then Some keyword.Tree
    else if bytes_eq word (codes "split") then Some keyword.Split
    else if bytes_eq word (codes "leaf") then Some keyword.Leaf
    else if bytes_eq word (codes "end") then Some keyword.End
    else None

-- what the words after this one are read as
abbrev pub form_by : Option Keyword → List (List ℕ) → LineReading
form_by None words = NoForm
form_by (Some keyword.Xsearch) words = header_form words
form_by (Some keyword.Size) words = size_form words
form_by (Some keyword.Value) words = value_form words
form_by (Some keyword.Point) words = point_form words
form_by (Some keyword.Nothing) words = none_form words
form_by (Some keyword.Cuts) words = cuts_form words
form_by (Some keyword.Gomory) words = gomory_form words
form_by (Some keyword.Cover) words = cover_form words
form_by (Some keyword.Tree) words = tree_form words
form_by (Some keyword.Split) words = split_form words
form_by (Some keyword.Leaf) words = leaf_form words
form_by (Some keyword.End) words = end_form words

-- what the words of a line are read as, where none is empty
abbrev pub form_of : List (List ℕ) → LineReading
form_of [] = NoForm
form_of (word ∷ words) = form_by (keyword_of word) words

-- whether a word has no byte, as between two blanks
abbrev pub is_empty_word : List ℕ → Bool
is_empty_word word = length word == 0

-- what words are read as
abbrev pub words_reading : List (List ℕ) → LineReading
words_reading words = if list_any is_empty_word words then NoForm else form_of words

-- what the bytes of a line are read as, its line feed aside
abbrev pub reading_of : List ℕ → LineReading
reading_of bytes = words_reading (pieces bytes)
