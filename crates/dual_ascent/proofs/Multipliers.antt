use Rattle.std.proofs.Common.{◌≡◌, ◌∙◌, ℕ, zero, suc, ◌+◌, ◌-◌, ◌<◌, ◌≤◌, ◌⊎◌, inl, inr, min, Bool, true, false, ◌==◌, if◌then◌else◌, List, length, replicate, get_or, set, ℤ, refl, arith}
use Rattle.std.proofs.lemmas.Bool.{cases_lt}
use Rattle.std.proofs.lemmas.List.{length-append, length-replicate, get_or_past}
use Rattle.std.proofs.lemmas.List.Elements.{All-replicate}
use Rattle.ip_core.specs.declared.model.ModelParts.{ModelParts}
use Rattle.ip_core.specs.declared.row.Row.{Row}
use Rattle.safe_bound.specs.declared.limits.TheConstants.{MAX_MULTIPLIER}
use Rattle.safe_bound.specs.Bounds.{all_rows, numerator}
use Rattle.safe_bound.specs.Premises.{AreMultipliers, AreSmall}
use Rattle.dual_ascent.specs.Climbs.{Climb}
use Rattle.dual_ascent.specs.Climbs.{after_row, after_rows, after_round, after_rounds, next_multiplier}
use Rattle.dual_ascent.specs.Ascents.{first_climb}
use Rattle.dual_ascent.specs.Laws.{AscentHasMultipliers}
use Rattle.dual_ascent.proofs.Candidates.{multipliers_set}
use Rattle.dual_ascent.proofs.Choices.{next_holds}
use Rattle.dual_ascent.proofs.Rounds.{ascent_is}

small_cases : (ys : List ℕ) (i : ℕ) → AreSmall ys → (i < length ys) ⊎ (length ys ≤ i) → get_or ys i 0 ≤ MAX_MULTIPLIER
small_cases ys i small (inl within) = small.each i 0 within
small_cases ys i small (inr past) = rw (get_or_past ys i 0 past) (omega arith)

-- a multiplier at any place, which is 0 past the end
pub small_at : (ys : List ℕ) (i : ℕ) → AreSmall ys → get_or ys i 0 ≤ MAX_MULTIPLIER
small_at ys i small = small_cases ys i small (cases_lt i (length ys))

next_small : (worth : List ℕ → ℤ) (size : ℕ) (ys : List ℕ) (i : ℕ) → AreSmall ys → next_multiplier worth size ys i ≤ MAX_MULTIPLIER
next_small worth size ys i small =
    let own = small_at ys i small in
    next_holds (λ y. y ≤ MAX_MULTIPLIER) worth size ys i own (omega arith) (omega (arith, own)) (omega arith)

row_keeps : (m : ModelParts) (cuts : List Row) (worth : List ℕ → ℤ) (size : ℕ) (ys : List ℕ) (i : ℕ) → AreMultipliers m cuts ys → AreMultipliers m cuts (after_row worth size ys i)
row_keeps m cuts worth size ys i valid = multipliers_set m cuts ys i (next_multiplier worth size ys i) valid (next_small worth size ys i valid.small)

rows_keep : (m : ModelParts) (cuts : List Row) (worth : List ℕ → ℤ) (size : ℕ) (ys : List ℕ) (n : ℕ) → AreMultipliers m cuts ys → AreMultipliers m cuts (after_rows worth size ys n)
unfolding after_rows
rows_keep m cuts worth size ys zero valid = valid
rows_keep m cuts worth size ys (suc n) valid = row_keeps m cuts worth size (after_rows worth size ys n) n (rows_keep m cuts worth size ys n valid)

round_keeps : (m : ModelParts) (cuts : List Row) (worth : List ℕ → ℤ) (c : Climb) → AreMultipliers m cuts c.mults → AreMultipliers m cuts (after_round worth c).mults
unfolding after_round
round_keeps m cuts worth c valid = rows_keep m cuts worth c.step_size c.mults (length c.mults) valid

either_keeps : (b : Bool) (m : ModelParts) (cuts : List Row) (c d : Climb) → AreMultipliers m cuts c.mults → AreMultipliers m cuts d.mults → AreMultipliers m cuts (if b then c else d).mults
either_keeps true m cuts c d first second = first
either_keeps false m cuts c d first second = second

rounds_keep : (m : ModelParts) (cuts : List Row) (worth : List ℕ → ℤ) (n : ℕ) (c : Climb) → AreMultipliers m cuts c.mults → AreMultipliers m cuts (after_rounds worth n c).mults
unfolding after_rounds
rounds_keep m cuts worth zero c valid = valid
rounds_keep m cuts worth (suc n) c valid =
    either_keeps (c.step_size == 0) m cuts c (after_rounds worth n (after_round worth c)) valid (rounds_keep m cuts worth n (after_round worth c) (round_keeps m cuts worth c valid))

-- a multiplier of 0 for each row
pub no_multipliers : (m : ModelParts) (cuts : List Row) → AreMultipliers m cuts (replicate (length (all_rows m cuts)) 0)
no_multipliers m cuts = record {
  one_each = length-replicate (length (all_rows m cuts)) 0 ∙ length-append m.rows cuts;
  small = record { each = All-replicate (λ y. y ≤ MAX_MULTIPLIER) (length (all_rows m cuts)) 0 (omega arith) };
}

-- an ascent has one small multiplier for each row
pub ascent_has_multipliers : AscentHasMultipliers
ascent_has_multipliers m cuts s = rw (ascent_is m cuts s) (rounds_keep m cuts (numerator m cuts s) 64 (first_climb m cuts) (no_multipliers m cuts))
