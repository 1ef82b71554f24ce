-- What holds of the cuts that a task works with.
use Rattle.std.proofs.Common.{◌*◌, ◌^◌, ◌≤◌, List, [], ◌∷◌, length, All, arith}
use Rattle.std.proofs.lemmas.List.Elements.{All-head, All-tail}
use Rattle.std.proofs.lemmas.List.Sums.{sum_by-cons}
use Rattle.ip_core.specs.Models.{IsModel, term_count}
use Rattle.ip_core.specs.Rows.{AreRows}
use Rattle.ip_core.specs.declared.model.ModelParts.{ModelParts}
use Rattle.ip_core.specs.declared.row.Row.{Row}
use Rattle.safe_bound.specs.Premises.{AreCuts}
use Rattle.leaf_truth.specs.Laws.{AreValidCuts}
use Rattle.cut_derive.specs.Laws.{IsCut, NoCuts}
use Rattle.cut_derive.proofs.Following.{derived_are_cut_rows, derived_are_valid}
use Rattle.task_steps.specs.Fits.{AreFewDerived}

-- no cuts at all
pub none_derived : (m : ModelParts) → AreFewDerived m []
none_derived m = record { derived = NoCuts; few = omega arith }

-- every feasible point meets them
pub cuts_valid : (m : ModelParts) (cuts : List Row) → IsModel m → AreFewDerived m cuts
    → AreValidCuts m cuts
cuts_valid m cuts valid own = derived_are_valid m cuts valid own.derived

pub cut_rows : (m : ModelParts) (cuts : List Row) → IsModel m → AreFewDerived m cuts
    → AreRows (length m.cols) m.root cuts
cut_rows m cuts valid own = (cuts_valid m cuts valid own).rows

-- so bounds may use them
pub are_cuts : (m : ModelParts) (cuts : List Row) → IsModel m → AreFewDerived m cuts
    → AreCuts m cuts
are_cuts m cuts valid own = record {
  rows = cut_rows m cuts valid own;
  few = let few = own.few in omega arith;
}

terms_each : (m : ModelParts) (cuts : List Row) → All (IsCut m) cuts
    → term_count cuts ≤ 256 * length cuts
terms_each m [] all = omega arith
terms_each m (row ∷ rows) all =
    let here = (All-head (IsCut m) row rows all).short in
    let rest = terms_each m rows (All-tail (IsCut m) row rows all) in
    let both = sum_by-cons (λ (r : Row). length r.terms) row rows in
    omega (arith, here, rest, both)

-- their terms are at most 2^17
pub cut_terms : (m : ModelParts) (cuts : List Row) → IsModel m → AreFewDerived m cuts
    → term_count cuts ≤ 2 ^ 17
cut_terms m cuts valid own =
    let each = terms_each m cuts (derived_are_cut_rows m cuts valid own.derived).each in
    let few = own.few in
    omega arith
