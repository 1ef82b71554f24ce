use Rattle.std.proofs.Common.{◌≡◌, ℕ, ◌+◌, ◌^◌, ◌<◌, ◌≤◌, List, length, take, drop, ℤ, pos, ◌-ℤ◌, ◌*ℤ◌, unsigned_abs, arith}
use Rattle.std.proofs.lemmas.Int.{ints, unsigned_abs-mul}
use Rattle.std.proofs.lemmas.List.{take_all}
use Rattle.std.proofs.lemmas.List.Elements.{All-take, All-drop}
use Rattle.ip_core.specs.Numbers.{int_at}
use Rattle.ip_core.specs.Models.{IsModel}
use Rattle.ip_core.specs.declared.model.ModelParts.{ModelParts}
use Rattle.ip_core.specs.declared.row.Row.{Row}
use Rattle.safe_bound.specs.declared.limits.TheConstants.{MAX_MULTIPLIER}
use Rattle.ip_core.specs.Rows.{coefficient}
use Rattle.safe_bound.specs.Weights.{weighted_coefficient}
use Rattle.safe_bound.specs.Bounds.{reduced_cost}
use Rattle.safe_bound.specs.Premises.{AreLight, AreSmall, AreWithin}
use Rattle.safe_bound.proofs.Lowering.{rows_room}
use Rattle.safe_bound.proofs.Smallness.{cost_narrow}
use Rattle.safe_bound.proofs.Weighted.{weighted_sum-append}

-- fronts and rests of small multipliers are small
pub front_small : (n : ℕ) (ys xs : List ℕ) → xs ≡ take n ys → AreSmall ys → AreSmall xs
front_small n ys xs same small = rw same (record { each = All-take (λ y. y ≤ MAX_MULTIPLIER) n ys small.each })

pub rest_small : (n : ℕ) (ys xs : List ℕ) → xs ≡ drop n ys → AreSmall ys → AreSmall xs
rest_small n ys xs same small = rw same (record { each = All-drop (λ y. y ≤ MAX_MULTIPLIER) n ys small.each })

-- 1,024 times the costs of a model
pub scaled_small : (m : ModelParts) (scaled costs : List ℤ) → IsModel m → costs ≡ m.costs → ((j : ℕ) → j < length costs → int_at scaled j ≡ pos 1024 *ℤ int_at costs j) → AreWithin (length m.cols) (2 ^ 60) scaled
scaled_small m scaled costs valid same values = record {
  each = λ j h.
      let known : j < length costs = rw same (omega (arith, valid.bounds.costs)) in
      let narrow : unsigned_abs (int_at costs j) ≤ 2 ^ 50 = rw same (cost_narrow m j valid (omega (arith, valid.bounds.costs))) in
      rw (values j known, unsigned_abs-mul) (omega (arith, narrow));
}

-- costs within a room, in a wider one
pub roomier : (n few most : ℕ) (xs : List ℤ) → few ≤ most → AreWithin n few xs → AreWithin n most xs
roomier n few most xs le within = record { each = λ j h. omega (arith, within.each j h) }

-- costs from which rows were taken
pub taken_room : (n most : ℕ) (old now : List ℤ) (rows : List Row) (ys : List ℕ) → AreWithin n most old → AreLight n rows → AreSmall ys → length rows ≤ 2 ^ 31 → ((j : ℕ) → j < n → int_at now j ≡ int_at old j -ℤ weighted_coefficient j rows ys) → AreWithin n (most + 2 ^ 121) now
taken_room n most old now rows ys within light small few values = record {
  each = λ j h.
      rows_room (int_at old j) (int_at now j) most j n rows ys (length rows) (within.each j h) light small few (rw (take_all (length rows) rows (omega arith)) (values j h));
}

-- a cost from which both the rows and the cuts were taken is the reduced cost
pub reduced_is : (m : ModelParts) (cuts : List Row) (ys : List ℕ) (j : ℕ) (scaled middle last : ℤ) → scaled ≡ pos 1024 *ℤ int_at m.costs j → middle ≡ scaled -ℤ weighted_coefficient j m.rows (take (length m.rows) ys) → last ≡ middle -ℤ weighted_coefficient j cuts (drop (length m.rows) ys) → last ≡ reduced_cost m cuts ys j
unfolding reduced_cost
reduced_is m cuts ys j scaled middle last first second third =
    omega (arith, ints, first, second, third, weighted_sum-append (λ row. coefficient j row.terms) m.rows cuts ys)
