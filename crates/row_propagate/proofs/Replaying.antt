use Rattle.std.proofs.Common.{◌≡◌, ◌∙◌, ℕ, List, [], ◌∷◌, length, ℤ, Option, Some, None, sym}
use Rattle.ip_core.specs.Sides.{Sides, IsInside}
use Rattle.ip_core.specs.Boxes.{IsWithin}
use Rattle.ip_core.specs.Rows.{AreTerms, IsMet, AreRows}
use Rattle.ip_core.specs.declared.row.Row.{Row}
use Rattle.ip_core.specs.declared.row_ref.RowRef.{RowRef}
use Rattle.ip_core.specs.declared.leaf.Tighten.{Tighten}
use Rattle.ip_core.proofs.NarrowerBoxes.{within_itself, within_both}
use Rattle.row_propagate.specs.declared.narrowing.Narrowing.{Narrowing}
use Rattle.row_propagate.specs.Rounding.{narrower_bound, narrower_box_by, tight_box}
use Rattle.row_propagate.specs.Replay.{replay, row_named}
use Rattle.row_propagate.specs.Points.{HasMetPoints}
use Rattle.row_propagate.proofs.Keeping.{tight_box_keeps}
use Rattle.row_propagate.proofs.Named.{named_met, named_terms}
use Rattle.row_propagate.proofs.Stepping.{narrower_box_within}

narrower_box_by_within : (s : Sides) (col : ℕ) (bound : Option Narrowing) → IsWithin s (narrower_box_by s col bound)
narrower_box_by_within s col None = within_itself s
narrower_box_by_within s col (Some bound) = narrower_box_within s col bound

-- a box lies around the same box after a row's rounded bound
pub tight_box_within : (row : Row) (s : Sides) (col : ℕ) → IsWithin s (tight_box row s col)
tight_box_within row s col = narrower_box_by_within s col (narrower_bound row s col)

-- and after any tightenings
pub replay_within : (named : RowRef → Row) (s : Sides) (steps : List Tighten) → IsWithin s (replay named s steps)
replay_within named s [] = within_itself s
replay_within named s (step ∷ steps) =
    within_both s (tight_box (named step.row) s step.col) (replay named (tight_box (named step.row) s step.col) steps) (tight_box_within (named step.row) s step.col) (replay_within named (tight_box (named step.row) s step.col) steps)

-- no point that meets the rows of all names is lost by tightenings
replay_inside : (named : RowRef → Row) (n : ℕ) (x : List ℤ) → ((name : RowRef) → AreTerms n (named name).terms) → ((name : RowRef) → IsMet x (named name)) → (s : Sides) (steps : List Tighten) → length s.lows ≡ n → length x ≡ n → IsInside s x → IsInside (replay named s steps) x
replay_inside named n x known met s [] columns long inside = inside
replay_inside named n x known met s (step ∷ steps) columns long inside =
    let row = named step.row in
    let terms : AreTerms (length s.lows) row.terms = rw columns (known step.row) in
    let next = (tight_box_keeps row s step.col terms).each x (long ∙ sym columns) inside (met step.row) in
    replay_inside named n x known met (tight_box row s step.col) steps ((tight_box_within row s step.col).as_many_lows ∙ columns) long next

-- so none that meets all rows and cuts is lost by their tightenings
pub replay_keeps : (n : ℕ) (root : Sides) (rows cuts : List Row) (s : Sides) (steps : List Tighten) → AreRows n root rows → AreRows n root cuts → length s.lows ≡ n → HasMetPoints rows cuts s (replay (row_named rows cuts) s steps)
replay_keeps n root rows cuts s steps of_rows of_cuts columns = record {
  each = λ x long inside met_rows met_cuts.
      replay_inside (row_named rows cuts) n x (λ name. named_terms n root rows cuts name of_rows of_cuts) (λ name. named_met rows cuts name x met_rows met_cuts) s steps columns (long ∙ columns) inside;
}
