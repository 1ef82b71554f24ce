-- When a certificate is accepted, and else its first fault.
use Rattle.std.specs.Prelude.{ℕ, zero, suc, ◌≡◌, ◌↔◌, ◌+◌, ◌==◌, Bool, true, not, ◌&&◌, ◌||◌, List, [], ◌∷◌, ◌++◌, length, ℤ, pos, ◌+ℤ◌, int_le, Option, Some, None, Result, Ok, Err}
use Rattle.std.specs.Ordering.{int_eq}
use Rattle.std.specs.List.{list_all}
use Rattle.ip_core.specs.Numbers.{int_at}
use Rattle.ip_core.specs.Sides.{Sides}
use Rattle.ip_core.specs.Rows.{activity}
use Rattle.ip_core.specs.Boxes.{greatest_value}
use Rattle.ip_core.specs.Models.{IsModel}
use Rattle.ip_core.specs.Truth.{IsBest, HasNoPoint, value_at}
use Rattle.ip_core.specs.declared.derivation.Derivation.{Derivation}
use Rattle.ip_core.specs.declared.model.ModelParts.{ModelParts}
use Rattle.ip_core.specs.declared.row.Row.{Row}
use Rattle.search_truth.specs.Cover.{HasFeasibleBest}
use Rattle.search_truth.specs.Search.{cutoff_of}
use Rattle.cut_derive.specs.Derivations.{derived_row}
use Rattle.cut_derive.specs.declared.refusal.Refusal.{Refusal}
use Rattle.tree_cert.specs.Trees.{IsTree}
use Rattle.tree_cert.specs.declared.certificate.Certificate.{Certificate}
use Rattle.cert_check.specs.Nodes.{Fault, reason_unless, or_else, on_line, nodes_fault}
use Rattle.cert_check.specs.declared.verdict.Why.{Why}
use Rattle.cert_check.specs.declared.verdict.Why.TheVariants.{Size, PointValue, PointBounds, PointRow, CutDerivation}
use Rattle.cert_check.specs.declared.verdict.Verdict.{Verdict}
use Rattle.cert_check.specs.declared.verdict.Verdict.TheVariants.{Accepted, Rejected}

-- whether each of the numbers below n passes a test
abbrev pub all_below : ℕ → (ℕ → Bool) → Bool
all_below zero test = true
all_below (suc n) test = all_below n test && test n

-- whether column j of a point lies between the low and the high of a box
abbrev pub is_between : Sides → List ℤ → ℕ → Bool
is_between s x j = int_le (int_at s.lows j) (int_at x j) && int_le (int_at x j) (int_at s.highs j)

-- whether a point has a value for each column of the model, and lies in the root box
abbrev pub is_in_root : ModelParts → List ℤ → Bool
is_in_root m x = (length x == length m.cols) && all_below (length x) (is_between m.root x)

-- whether a point meets a row
abbrev pub is_met : List ℤ → Row → Bool
is_met x row = int_le row.least (activity x row.terms)

-- the second line: the numbers of columns and rows are those of the model
abbrev pub size_reason : ModelParts → Certificate → Option Why
size_reason m c = reason_unless Size (c.cols == length m.cols && c.rows == length m.rows)

-- the third line: the value is that of the point, if this lies in the root box; and with no point
-- it is one more than the greatest value on the root box
abbrev pub value_reason : ModelParts → ℤ → Option (List ℤ) → Option Why
value_reason m v None = reason_unless PointValue (int_eq v (greatest_value m m.root +ℤ pos 1))
value_reason m v (Some x) =
    reason_unless PointValue (not (is_in_root m x) || int_eq v (value_at m x))

-- the fourth line: a point lies in the root box, and meets each row
abbrev pub point_reason : ModelParts → Option (List ℤ) → Option Why
point_reason m None = None
point_reason m (Some x) = or_else (reason_unless PointBounds (is_in_root m x))
    (reason_unless PointRow (list_all (is_met x) m.rows))

-- what follows from a row, if it was derived; and else the refused line
abbrev pub if_derived :
    ℕ → Result Row Refusal → (Row → Result (List Row) ℕ) → Result (List Row) ℕ
if_derived line (Ok row) rest = rest row
if_derived line (Err refusal) rest = Err line

-- Rows with those of the cuts behind them, where each cut is derived over the model and the rows
-- before its own; or the line of the first cut that is refused. The first stands on this line.
abbrev pub cut_rows : ModelParts → ℕ → List Row → List Derivation → Result (List Row) ℕ
cut_rows m line rows [] = Ok rows
cut_rows m line rows (cut ∷ cuts) = if_derived line (derived_row m rows cut)
    (λ row. cut_rows m (suc line) (rows ++ row ∷ []) cuts)

-- The fault of the first cut that is refused, or else that of the nodes over the rows of the cuts.
-- The nodes stand from the second line behind the cuts on, and the first has the root box.
abbrev pub tree_fault : ModelParts → Certificate → Result (List Row) ℕ → Option Fault
tree_fault m c (Err line) = Some (record { line = line; why = CutDerivation })
tree_fault m c (Ok rows) =
    nodes_fault m rows c.value (7 + length c.cuts) (m.root ∷ []) c.nodes

-- The first fault of a certificate: the first line with a reason, and the least of its reasons. The
-- cuts stand from the sixth line on.
abbrev pub fault_of : ModelParts → Certificate → Option Fault
fault_of m c =
    or_else (on_line 2 (size_reason m c))
    (or_else (on_line 3 (value_reason m c.value c.point))
    (or_else (on_line 4 (point_reason m c.point))
    (tree_fault m c (cut_rows m 6 [] c.cuts))))

-- what the checker says of a first fault, or of none
abbrev pub verdict_of : Option Fault → Verdict
verdict_of None = Accepted
verdict_of (Some fault) = Rejected fault.line fault.why

-- no line of the certificate has a fault
pub record IsAccepted (m : ModelParts) (c : Certificate) : Type 0 where
  pub none : fault_of m c ≡ None

-- what a value and a point say of a model: the point is best and has this value, or without one no
-- point is feasible
abbrev pub IsShown : ModelParts → ℤ → Option (List ℤ) → Type 0
IsShown m v None = HasNoPoint m
IsShown m v (Some x) = IsBest m x × (v ≡ value_at m x)

-- the certificate says the truth
pub record IsTrueCertificate (m : ModelParts) (c : Certificate) : Type 0 where
  pub shown : IsShown m c.value c.point

-- the cuts give these rows, each derived over the model and the rows before it
pub data AreDerivedBy (m : ModelParts) : List Derivation → List Row → Type 0 where
  NoCut : AreDerivedBy m [] []
  OneMore : (cuts : List Derivation) (rows : List Row) (cut : Derivation) (row : Row)
      → AreDerivedBy m cuts rows → derived_row m rows cut ≡ Ok row
      → AreDerivedBy m (cuts ++ cut ∷ []) (rows ++ row ∷ [])

-- What is so of an accepted certificate, line by line: the value is that of the point, which is
-- feasible, or without one it is one more than the greatest value on the root box. The nodes have no
-- fault over the rows of the cuts.
pub record IsFaultless (m : ModelParts) (c : Certificate) : Type 0 where
  pub cols : c.cols ≡ length m.cols
  pub rows : c.rows ≡ length m.rows
  pub value : c.value ≡ cutoff_of m c.point
  pub point : HasFeasibleBest m c.point
  pub derived : List Row
  pub cuts : AreDerivedBy m c.cuts derived
  pub nodes : nodes_fault m derived c.value (7 + length c.cuts) (m.root ∷ []) c.nodes ≡ None

-- a certificate is accepted exactly where each of its lines is as it is to be
abbrev pub AcceptedIsFaultless : Type 0
AcceptedIsFaultless = (m : ModelParts) (c : Certificate) → IsAccepted m c ↔ IsFaultless m c

-- an accepted certificate says the truth
abbrev pub AcceptedIsTrue : Type 0
AcceptedIsTrue = (m : ModelParts) (c : Certificate)
    → IsModel m → IsTree c.nodes → IsAccepted m c → IsTrueCertificate m c
