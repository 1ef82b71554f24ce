-- Worked rows: what lines are read as.
use Rattle.std.specs.Fmt.{digits}
use Rattle.std.proofs.Common.{◌≡◌, ◌^◌, ◌-◌, [], ◌∷◌, pos, negsuc, true, false, Some, None, refl, codes}
use Rattle.ip_core.specs.declared.derivation.Derivation.TheVariants.{Gomory, Cover}
use Rattle.ip_core.specs.declared.leaf.Closing.TheVariants.{Conflict, Empty, Bound}
use Rattle.ip_core.specs.declared.row_ref.RowRef.TheVariants.{Model, Cut}
use Rattle.tree_cert.specs.declared.node.CertNode.TheVariants.{Split, Leaf}
use Rattle.cert_line.specs.declared.numeral.TheConstants.{MAX_COUNT, MAX_WEIGHT, MAX_NUMBER}
use Rattle.cert_line.specs.declared.line.Line.TheVariants as line
use Rattle.cert_line.specs.declared.line.LineReading.TheVariants.{NoForm, BadNumber, Is}
use Rattle.cert_line.specs.Readings.{reading_of}
use Rattle.cert_line.specs.Lines.{line_text}

greatest_count : MAX_COUNT ≡ 2 ^ 32 - 1
greatest_count = refl

greatest_weight : MAX_WEIGHT ≡ 2 ^ 63 - 1
greatest_weight = refl

greatest_number : MAX_NUMBER ≡ 2 ^ 62
greatest_number = refl

header : reading_of (codes "xsearch certificate 1") ≡ Is line.Header
header = refl

other_version : reading_of (codes "xsearch certificate 2") ≡ NoForm
other_version = refl

size : reading_of (codes "size 1 2") ≡ Is (line.Size 1 2)
size = refl

size_lacks : reading_of (codes "size 1") ≡ NoForm
size_lacks = refl

empty_word : reading_of (codes "size 1  2") ≡ NoForm
empty_word = refl

empty_end : reading_of (codes "value 2 ") ≡ NoForm
empty_end = refl

no_word : reading_of [] ≡ NoForm
no_word = refl

value : reading_of (codes "value -6") ≡ Is (line.Value (negsuc 5))
value = refl

other_sign : reading_of (codes "value +6") ≡ BadNumber
other_sign = refl

minus_zero : reading_of (codes "value -0") ≡ BadNumber
minus_zero = refl

least_value : reading_of (codes "value -4611686018427387904") ≡ Is (line.Value (negsuc 4611686018427387903))
least_value = refl

below_least : reading_of (codes "value -4611686018427387905") ≡ BadNumber
below_least = refl

point : reading_of (codes "point 2 -1") ≡ Is (line.Point (Some (pos 2 ∷ negsuc 0 ∷ [])))
point = refl

empty_point : reading_of (codes "point") ≡ Is (line.Point (Some []))
empty_point = refl

no_point : reading_of (codes "none") ≡ Is (line.Point None)
no_point = refl

cuts : reading_of (codes "cuts 4294967295") ≡ Is (line.Cuts 4294967295)
cuts = refl

many_cuts : reading_of (codes "cuts 4294967296") ≡ BadNumber
many_cuts = refl

gomory : reading_of (codes "gomory 2048 1 r0 512") ≡ Is (line.Cut (Gomory (record { row = Model 0; weight = 512 } ∷ []) 2048))
gomory = refl

gomory_of_two : reading_of (codes "gomory 2 2 r0 1 k3 9223372036854775807") ≡ Is (line.Cut (Gomory (record { row = Model 0; weight = 1 } ∷ record { row = Cut 3; weight = 9223372036854775807 } ∷ []) 2))
gomory_of_two = refl

miscounted : reading_of (codes "gomory 2 2 r0 1") ≡ NoForm
miscounted = refl

-- a count that is bad itself frees its items
bad_count : reading_of (codes "gomory 2 02 r0 1") ≡ BadNumber
bad_count = refl

half_pair : reading_of (codes "gomory 2 02 r0") ≡ NoForm
half_pair = refl

bad_row : reading_of (codes "gomory 2 1 rx 1") ≡ BadNumber
bad_row = refl

no_row : reading_of (codes "gomory 2 1 x1 1") ≡ NoForm
no_row = refl

bare_row : reading_of (codes "gomory 2 1 r 1") ≡ NoForm
bare_row = refl

cover : reading_of (codes "cover k2 2 0 7") ≡ Is (line.Cut (Cover (Cut 2) (0 ∷ 7 ∷ [])))
cover = refl

tree : reading_of (codes "tree 3") ≡ Is (line.Tree 3)
tree = refl

split : reading_of (codes "split 0 0 1") ≡ Is (line.Node (Split 0 (pos 0) (pos 1)))
split = refl

leaf : reading_of (codes "leaf 1 r0 0 L conflict r1") ≡ Is (line.Node (Leaf (record { steps = record { row = Model 0; col = 0; low = true } ∷ []; closing = Conflict (Model 1) })))
leaf = refl

two_steps : reading_of (codes "leaf 2 r1 1 H k1 2 L empty 5") ≡ Is (line.Node (Leaf (record { steps = record { row = Model 1; col = 1; low = false } ∷ record { row = Cut 1; col = 2; low = true } ∷ []; closing = Empty 5 })))
two_steps = refl

bound : reading_of (codes "leaf 0 bound 1 r0 342") ≡ Is (line.Node (Leaf (record { steps = []; closing = Bound (record { row = Model 0; weight = 342 } ∷ []) })))
bound = refl

-- a bad count frees its own items alone
other_count : reading_of (codes "leaf 01 bound 2 r0 1") ≡ NoForm
other_count = refl

own_count : reading_of (codes "leaf 01 r0 0 L bound 1 r0 1") ≡ BadNumber
own_count = refl

other_side : reading_of (codes "leaf 1 r0 0 X conflict r1") ≡ NoForm
other_side = refl

end : reading_of (codes "end") ≡ Is line.End
end = refl

printed : line_text (line.Node (Leaf (record { steps = record { row = Model 0; col = 0; low = true } ∷ []; closing = Conflict (Model 1) }))) ≡ codes "leaf 1 r0 0 L conflict r1"
unfolding digits
printed = refl
