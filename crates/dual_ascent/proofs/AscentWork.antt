use Rattle.std.proofs.Common.{◌≡◌, ℕ, ◌+◌, ◌*◌, ◌^◌, ◌≤◌, ◌++◌, List, length, arith}
use Rattle.std.proofs.lemmas.Nat.{mul-le}
use Rattle.std.proofs.lemmas.List.Sums.{sum_by-append}
use Rattle.ip_core.specs.Sides.{Sides}
use Rattle.ip_core.specs.Models.{IsModel, term_count}
use Rattle.ip_core.specs.declared.model.ModelParts.{ModelParts}
use Rattle.ip_core.specs.declared.row.Row.{Row}
use Rattle.safe_bound.specs.Bounds.{numerator}
use Rattle.dual_ascent.specs.Ascents.{ascent, ascent_work, first_climb, round_work}
use Rattle.dual_ascent.proofs.Climbing.{rounds_are_few}
use Rattle.dual_ascent.proofs.Rounds.{ascent_is}

-- the terms of rows one after the other
pub term_count-append : (rows more : List Row) → term_count (rows ++ more) ≡ term_count rows + term_count more
term_count-append rows more = sum_by-append (λ (row : Row). length row.terms) rows more

-- an ascent has at most 64 rounds
pub ascent_rounds : (m : ModelParts) (cuts : List Row) (s : Sides) → (ascent m cuts s).rounds ≤ 64
ascent_rounds m cuts s = rw ascent_is (omega (arith, rounds_are_few (numerator m cuts s) 64 (first_climb m cuts)))

-- so its work is at most that of 64 rounds
pub ascent_work-le : (m : ModelParts) (cuts : List Row) (s : Sides) (terms : ℕ) → term_count m.rows + term_count cuts ≤ terms → ascent_work m cuts s ≤ 64 * (3 * terms + 1)
ascent_work-le m cuts s terms few =
    let work : round_work m cuts ≤ 3 * terms + 1 = rw term_count-append (omega arith) in
    mul-le (ascent m cuts s).rounds (round_work m cuts) 64 (3 * terms + 1) (ascent_rounds m cuts s) work

-- the allowance with which a pulse that does nothing begins is enough, with at most 2^20 terms in the cuts
pub ascent_work_allowed : (m : ModelParts) (cuts : List Row) (s : Sides) → IsModel m → term_count cuts ≤ 2 ^ 20 → ascent_work m cuts s ≤ 2 ^ 40
ascent_work_allowed m cuts s valid few = omega (arith, ascent_work-le m cuts s (2 ^ 21) (omega (arith, valid.few.term_limit, few)))
