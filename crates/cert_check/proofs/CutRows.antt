-- The rows of cuts, derived one after the other.
use Rattle.std.proofs.Common.{◌≡◌, ◌∙◌, ℕ, suc, ◌+◌, ◌<◌, ◌^◌, List, [], ◌∷◌, ◌++◌, length, get_or, drop, Result, Ok, Err, refl, sym, ap, subst, arith}
use Rattle.std.proofs.lemmas.List.{append-nil, append_assoc, length-append, drop_more}
use Rattle.std.proofs.lemmas.List.Elements.{All-nil, All-cons, All-append}
use Rattle.ip_core.specs.Models.{IsModel}
use Rattle.ip_core.specs.Rows.{IsRow}
use Rattle.ip_core.specs.declared.derivation.Derivation.{Derivation}
use Rattle.ip_core.specs.declared.model.ModelParts.{ModelParts}
use Rattle.ip_core.specs.declared.row.Row.{Row}
use Rattle.safe_bound.specs.Premises.{AreCuts}
use Rattle.cut_derive.specs.Derivations.{derived_row}
use Rattle.cut_derive.specs.Laws.{AreDerived, NoCuts as NoRow, OneMore as OneMoreRow}
use Rattle.cut_derive.specs.declared.refusal.Refusal.{Refusal}
use Rattle.cut_derive.proofs.Following.{derived_row_is_cut}
use Rattle.cert_check.specs.Verdicts.{AreDerivedBy, NoCut, OneMore, if_derived, cut_rows}

-- an answer is rows, or the line that is refused
abbrev Answer : Type 0
Answer = Result (List Row) ℕ

ok_same : (a b : List Row) (first second : Answer) → first ≡ Ok a → second ≡ Ok b → first ≡ second → a ≡ b
ok_same a b first second one two same = cc

not_ok : (line : ℕ) (rows : List Row) (answer : Answer) → answer ≡ Err line → answer ≡ Ok rows → ⊥
not_ok line rows answer one two = cc

-- a row that was derived, and what follows from it
record IsFollowed (answer : Result Row Refusal) (rest : Row → Answer) (rows : List Row) : Type 0 where
  pub row : Row
  pub derived : answer ≡ Ok row
  pub follows : rest row ≡ Ok rows

followed : (line : ℕ) (answer : Result Row Refusal) (rest : Row → Answer) (rows : List Row) → if_derived line answer rest ≡ Ok rows → IsFollowed answer rest rows
followed line (Ok row) rest rows is = record { row = row; derived = refl; follows = is }
followed line (Err refusal) rest rows is = absurd (not_ok line rows (Err line) refl is)

-- rows that cuts give behind rows of other cuts are those of all these cuts
rows_behind : (m : ModelParts) (line : ℕ) (before : List Derivation) (rows : List Row) (cuts : List Derivation) (all : List Row) → AreDerivedBy m before rows → cut_rows m line rows cuts ≡ Ok all → AreDerivedBy m (before ++ cuts) all
rows_behind m line before rows [] all derived is =
    subst (AreDerivedBy m (before ++ [])) (ok_same rows all (Ok rows) (Ok all) refl refl is)
    (subst (λ (ds : List Derivation). AreDerivedBy m ds rows) (sym (append-nil before)) derived)
rows_behind m line before rows (cut ∷ cuts) all derived is =
    let first = followed line (derived_row m rows cut) (λ row. cut_rows m (suc line) (rows ++ row ∷ []) cuts) all is in
    subst (λ (ds : List Derivation). AreDerivedBy m ds all) (append_assoc before (cut ∷ []) cuts)
    (rows_behind m (suc line) (before ++ cut ∷ []) (rows ++ first.row ∷ []) cuts all (OneMore before rows cut first.row derived first.derived) first.follows)

-- so of all cuts
pub derived_by : (m : ModelParts) (line : ℕ) (cuts : List Derivation) (rows : List Row) → cut_rows m line [] cuts ≡ Ok rows → AreDerivedBy m cuts rows
derived_by m line cuts rows is = rows_behind m line [] [] cuts rows NoCut is

if_derived-ok : (line : ℕ) (answer : Result Row Refusal) (rest : Row → Answer) (row : Row) → answer ≡ Ok row → if_derived line answer rest ≡ rest row
if_derived-ok line answer rest row is = ap (λ (r : Result Row Refusal). if_derived line r rest) is

-- one cut more gives one row more
one_more_row : (m : ModelParts) (line : ℕ) (rows : List Row) (cuts : List Derivation) (all : List Row) (cut : Derivation) (row : Row) → cut_rows m line rows cuts ≡ Ok all → derived_row m all cut ≡ Ok row → cut_rows m line rows (cuts ++ cut ∷ []) ≡ Ok (all ++ row ∷ [])
one_more_row m line rows [] all cut row is derived =
    let same = ok_same rows all (Ok rows) (Ok all) refl refl is in
    if_derived-ok line (derived_row m rows cut) (λ r. Ok (rows ++ r ∷ [])) row (ap (λ (rs : List Row). derived_row m rs cut) same ∙ derived)
    ∙ ap (λ (rs : List Row). Ok (rs ++ row ∷ [])) same
one_more_row m line rows (first ∷ cuts) all cut row is derived =
    let begun = followed line (derived_row m rows first) (λ r. cut_rows m (suc line) (rows ++ r ∷ []) cuts) all is in
    if_derived-ok line (derived_row m rows first) (λ r. cut_rows m (suc line) (rows ++ r ∷ []) (cuts ++ cut ∷ [])) begun.row begun.derived
    ∙ one_more_row m (suc line) (rows ++ begun.row ∷ []) cuts all cut row begun.follows derived

-- rows that cuts give are those that are computed
pub rows_of : (m : ModelParts) (line : ℕ) (cuts : List Derivation) (rows : List Row) → AreDerivedBy m cuts rows → cut_rows m line [] cuts ≡ Ok rows
rows_of m line [] [] NoCut = refl
rows_of m line _ _ (OneMore cuts rows cut row before derived) =
    one_more_row m line [] cuts rows cut row (rows_of m line cuts rows before) derived

-- and each was derived over those before it
pub are_derived : (m : ModelParts) (cuts : List Derivation) (rows : List Row) → AreDerivedBy m cuts rows → AreDerived m rows
are_derived m [] [] NoCut = NoRow
are_derived m _ _ (OneMore cuts rows cut row before derived) = OneMoreRow rows cut row (are_derived m cuts rows before) derived

-- rows with one that was derived over them
pub cuts_with : (m : ModelParts) (rows : List Row) (cut : Derivation) (row : Row) → IsModel m → AreCuts m rows → length rows < 2 ^ 30 → derived_row m rows cut ≡ Ok row → AreCuts m (rows ++ row ∷ [])
cuts_with m rows cut row valid cuts few derived =
    let IsOne : Row → Type 0 = IsRow (length m.cols) m.root in record {
      rows = record { each = All-append IsOne rows (row ∷ []) cuts.rows.each (All-cons IsOne row [] (derived_row_is_cut m rows cut row valid cuts.rows derived).valid (All-nil IsOne)) };
      few = omega (arith, few, length-append rows (row ∷ []));
    }

-- the cuts from one on: the row of this one, and then the others
module _ (m : ModelParts) (line : ℕ) (rows : List Row) (cuts : List Derivation) (i : ℕ) (cut : Derivation) (known : i < length cuts) (is : cut ≡ get_or cuts i cut) where
  from_cut : cut_rows m line rows (drop i cuts) ≡ if_derived line (derived_row m rows cut) (λ row. cut_rows m (suc line) (rows ++ row ∷ []) (drop (i + 1) cuts))
  from_cut =
      ap (cut_rows m line rows) (drop_more cuts i cut known)
      ∙ ap (λ (d : Derivation). cut_rows m line rows (d ∷ drop (i + 1) cuts)) (sym is)

  pub cut_passes : (whole : Answer) (row : Row) → cut_rows m line rows (drop i cuts) ≡ whole → derived_row m rows cut ≡ Ok row → cut_rows m (line + 1) (rows ++ row ∷ []) (drop (i + 1) cuts) ≡ whole
  cut_passes whole row before derived =
      let one : line + 1 ≡ suc line = omega arith in
      ap (λ (k : ℕ). cut_rows m k (rows ++ row ∷ []) (drop (i + 1) cuts)) one
      ∙ sym (if_derived-ok line (derived_row m rows cut) (λ r. cut_rows m (suc line) (rows ++ r ∷ []) (drop (i + 1) cuts)) row derived)
      ∙ sym from_cut ∙ before
