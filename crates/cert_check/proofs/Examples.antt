-- Worked rows: certificates with their verdicts.
use Rattle.std.specs.Prelude.{ℕ, ◌≡◌, refl, List, [], ◌∷◌, false, true, ℤ, pos, negsuc, Option, Some, None}
use Rattle.ip_core.specs.declared.derivation.Derivation.{Derivation}
use Rattle.ip_core.specs.declared.derivation.Derivation.TheVariants.{Gomory}
use Rattle.ip_core.specs.declared.leaf.Closing.TheVariants.{Conflict, Bound}
use Rattle.ip_core.specs.declared.leaf.Tighten.{Tighten}
use Rattle.ip_core.specs.declared.model.ModelParts.{ModelParts}
use Rattle.ip_core.specs.declared.row.Row.{Row}
use Rattle.ip_core.specs.declared.row_ref.RowRef.TheVariants.{Model, Cut}
use Rattle.ip_core.proofs.SmallModels.{single}
use Rattle.safe_bound.specs.Bounds.{reduced_cost, numerator}
use Rattle.leaf_truth.specs.Laws.{leaf_of}
use Rattle.tree_cert.specs.declared.certificate.Certificate.{Certificate}
use Rattle.tree_cert.specs.declared.node.CertNode.{CertNode}
use Rattle.tree_cert.specs.declared.node.CertNode.TheVariants.{Split, Leaf as Ends}
use Rattle.cert_check.specs.Nodes.{or_else}
use Rattle.cert_check.specs.Verdicts.{fault_of, verdict_of}
use Rattle.cert_check.specs.declared.verdict.Verdict.TheVariants.{Accepted, Rejected}
use Rattle.cert_check.specs.declared.verdict.Why.TheVariants.{Size, PointValue, PointBounds, PointRow, CutDerivation, SplitColumn, SplitGap, Bound as BadBound}

first_is_kept : or_else (Some SplitColumn) (Some SplitGap) ≡ Some SplitColumn
first_is_kept = refl

-- a certificate with no cuts
abbrev certificate : ℕ → ℕ → ℤ → Option (List ℤ) → List CertNode → Certificate
certificate cols rows value point nodes =
    record { cols = cols; rows = rows; value = value; point = point; cuts = []; nodes = nodes }

-- a step that raises a low, and one that lowers a high
abbrev raised : ℕ → ℕ → Tighten
raised row col = record { row = Model row; col = col; low = true }

abbrev lowered : ℕ → ℕ → Tighten
lowered row col = record { row = Model row; col = col; low = false }

-- a leaf that a multiplier of the first row bounds
abbrev bounded_by : ℕ → CertNode
bounded_by weight = Ends (leaf_of [] (Bound (record { row = Model 0; weight = weight } ∷ [])))

-- the least of x in 0 to 5 with 2x >= 3 is 2
abbrev two : List CertNode → Certificate
two nodes = certificate 1 1 (pos 2) (Some (pos 2 ∷ [])) nodes

bound_is_reached : verdict_of (fault_of single (two (bounded_by 342 ∷ []))) ≡ Accepted
unfolding reduced_cost numerator
bound_is_reached = refl

bound_is_missed : verdict_of (fault_of single (two (bounded_by 341 ∷ []))) ≡ Rejected 7 BadBound
unfolding reduced_cost numerator
bound_is_missed = refl

-- 2x + 2y + 2z >= 3, and <= 3
abbrev three_halves : Row
three_halves = record {
  terms = record { col = 0; coef = pos 2 } ∷ record { col = 1; coef = pos 2 } ∷ record { col = 2; coef = pos 2 } ∷ [];
  least = pos 3;
}

abbrev at_most_three_halves : Row
at_most_three_halves = record {
  terms = record { col = 0; coef = negsuc 1 } ∷ record { col = 1; coef = negsuc 1 } ∷ record { col = 2; coef = negsuc 1 } ∷ [];
  least = negsuc 2;
}

-- both in 0 to 1, without costs
abbrev halves : ModelParts
halves = record {
  name = 109 ∷ [];
  cols = (120 ∷ []) ∷ (121 ∷ []) ∷ (122 ∷ []) ∷ [];
  costs = pos 0 ∷ pos 0 ∷ pos 0 ∷ [];
  constant = pos 0;
  decimals = 0;
  maximise = false;
  root = record { lows = pos 0 ∷ pos 0 ∷ pos 0 ∷ []; highs = pos 1 ∷ pos 1 ∷ pos 1 ∷ [] };
  rows = three_halves ∷ at_most_three_halves ∷ [];
}

-- x parted after 0, or so that values are lost
abbrev parted : ℕ → ℤ → List CertNode
parted col next =
    Split col (pos 0) next
    ∷ Ends (leaf_of (raised 0 1 ∷ raised 0 2 ∷ []) (Conflict (Model 1)))
    ∷ Ends (leaf_of (lowered 1 1 ∷ lowered 1 2 ∷ []) (Conflict (Model 0)))
    ∷ []

abbrev none_in_halves : List CertNode → Certificate
none_in_halves nodes = certificate 3 2 (pos 1) None nodes

halves_have_none : verdict_of (fault_of halves (none_in_halves (parted 0 (pos 1)))) ≡ Accepted
halves_have_none = refl

gap_is_seen : verdict_of (fault_of halves (none_in_halves (parted 0 (pos 2)))) ≡ Rejected 7 SplitGap
gap_is_seen = refl

column_is_seen : verdict_of (fault_of halves (none_in_halves (parted 3 (pos 2)))) ≡ Rejected 7 SplitColumn
column_is_seen = refl

-- the third line is before the node lines, and its value is one more than the greatest
value_is_seen : verdict_of (fault_of halves (certificate 3 2 (pos 0) None (parted 0 (pos 2)))) ≡ Rejected 3 PointValue
value_is_seen = refl

size_is_seen : verdict_of (fault_of halves (certificate 2 3 (pos 0) None (parted 0 (pos 2)))) ≡ Rejected 2 Size
size_is_seen = refl

-- a point outside the root box, or of another length, has a reason on the fourth line alone
outside_is_seen : verdict_of (fault_of single (certificate 1 1 (pos 2) (Some (pos 6 ∷ [])) (bounded_by 341 ∷ []))) ≡ Rejected 4 PointBounds
outside_is_seen = refl

length_is_seen : verdict_of (fault_of single (certificate 1 1 (pos 2) (Some []) (bounded_by 341 ∷ []))) ≡ Rejected 4 PointBounds
length_is_seen = refl

-- a point that doesn't meet the row
row_is_seen : verdict_of (fault_of single (certificate 1 1 (pos 1) (Some (pos 1 ∷ [])) (bounded_by 341 ∷ []))) ≡ Rejected 4 PointRow
row_is_seen = refl

-- the weighted first row, divided
abbrev divided : ℕ → ℕ → Derivation
divided weight divisor = Gomory (record { row = Model 0; weight = weight } ∷ []) divisor

-- a cut as it is, as a cut behind others
abbrev again : ℕ → Derivation
again place = Gomory (record { row = Cut place; weight = 1 } ∷ []) 1

-- the least of x is 2, by cuts and nodes
abbrev two_by : List Derivation → List CertNode → Certificate
two_by cuts nodes = record (two nodes) { cuts = cuts }

-- a leaf that a multiplier of a cut bounds
abbrev bounded_by_cut : ℕ → ℕ → CertNode
bounded_by_cut place weight = Ends (leaf_of [] (Bound (record { row = Cut place; weight = weight } ∷ [])))

-- a step that raises the low to 2 leaves nothing to be bounded
cuts_are_derived : verdict_of (fault_of single (two_by (divided 1 2 ∷ divided 512 2048 ∷ []) (Ends (leaf_of (raised 0 0 ∷ []) (Bound [])) ∷ []))) ≡ Accepted
unfolding reduced_cost numerator
cuts_are_derived = refl

-- a leaf over a cut over a cut
second_cut_bounds : verdict_of (fault_of single (two_by (divided 1 2 ∷ again 0 ∷ []) (bounded_by_cut 1 513 ∷ []))) ≡ Accepted
unfolding reduced_cost numerator
second_cut_bounds = refl

-- the nodes stand behind the cuts
node_behind_cuts : verdict_of (fault_of single (two_by (divided 1 2 ∷ again 0 ∷ []) (bounded_by_cut 1 512 ∷ []))) ≡ Rejected 9 BadBound
unfolding reduced_cost numerator
node_behind_cuts = refl

-- a divisor of nothing, and a cut over a later cut, before a leaf that doesn't hold
no_divisor_is_seen : verdict_of (fault_of single (two_by (divided 1 2 ∷ divided 1 0 ∷ []) (bounded_by 341 ∷ []))) ≡ Rejected 7 CutDerivation
no_divisor_is_seen = refl

later_cut_is_seen : verdict_of (fault_of single (two_by (again 1 ∷ divided 1 2 ∷ []) (bounded_by 341 ∷ []))) ≡ Rejected 6 CutDerivation
later_cut_is_seen = refl
