-- What each step of a dive leaves of its box.
use Rattle.std.proofs.Common.{◌≡◌, ℕ, ◌+◌, ◌*◌, ◌<◌, ◌≤◌, Bool, true, false, not, ◌&&◌, cond, List, length, ℤ, pos, ◌≤ℤ◌, Option, Some, None, refl, subst, arith, mul-le-mul_right}
use Rattle.std.specs.Int.{int_min, int_max}
use Rattle.std.specs.Ordering.{int_eq}
use Rattle.std.specs.List.{zip}
use Rattle.std.proofs.lemmas.Bool.{false≢true}
use Rattle.std.proofs.lemmas.Int.{ints, clamps}
use Rattle.std.proofs.lemmas.List.Quantifiers.{position-Some}
use Rattle.std.proofs.lemmas.Slice.Zip.{get_or-zip, length-zip}
use Rattle.ip_core.specs.Numbers.{int_at}
use Rattle.ip_core.specs.Sides.{Sides, HasNoEmpty, IsPaired}
use Rattle.ip_core.specs.Boxes.{IsWithin}
use Rattle.ip_core.specs.Models.{term_count}
use Rattle.ip_core.specs.Truth.{IsFeasible}
use Rattle.ip_core.specs.declared.model.ModelParts.{ModelParts}
use Rattle.ip_core.specs.declared.row.Row.{Row}
use Rattle.ip_core.proofs.NarrowerBoxes.{within_both, within_itself}
use Rattle.row_propagate.specs.Passes.{propagation_of}
use Rattle.row_propagate.specs.declared.outcome.Outcome.{Outcome}
use Rattle.row_propagate.specs.declared.outcome.Outcome.TheVariants.{Open, Conflict, Empty}
use Rattle.round_dive.specs.declared.dive.DiveEnd.TheVariants.{On, Found}
use Rattle.round_dive.specs.Feasible.{is_feasible_at}
use Rattle.round_dive.specs.Dives.{dive_end, first_free, is_fixed, nearest_value, next_box, with_fixed}
use Rattle.round_dive.specs.Laws.{StepIsSound}
use Rattle.round_dive.proofs.FeasiblePoints.{and_true, feasible_decides}
use Rattle.round_dive.proofs.FixedColumns.{fixed_within, fixed_solid}
use Rattle.round_dive.proofs.FixedBoxes.{end_open}
use Rattle.round_dive.proofs.NarrowerRuns.{narrowed}

-- the first column that isn't fixed is one of the box, and isn't fixed
pub record IsFree (s : Sides) (j : ℕ) : Type 0 where
  pub known : j < length s.lows
  pub differs : int_eq (int_at s.lows j) (int_at s.highs j) ≡ false

not_true : (b : Bool) → not b ≡ true → b ≡ false
not_true true h = absurd (false≢true h)
not_true false h = refl

pub first_is_free : (s : Sides) (j : ℕ) → IsPaired s → first_free s ≡ Some j → IsFree s j
first_is_free s j paired some =
    let place = position-Some (λ (both : ℤ × ℤ). not (int_eq both.0 both.1)) (zip s.lows s.highs) j (pos 0, pos 0) some in
    let known : j < length s.lows = omega (arith, place.0, length-zip s.lows s.highs) in
    let read = get_or-zip s.lows s.highs j (pos 0, pos 0) known (omega (arith, known, paired.same_length)) in
    record { known = known; differs = not_true _ (rw read at place.1) }

nearest_between : (low high z : ℤ) → low ≤ℤ high
    → (low ≤ℤ int_min (int_max z low) high) × (int_min (int_max z low) high ≤ℤ high)
nearest_between low high z ordered = (omega (arith, ints, clamps, ordered), omega (arith, ints, clamps, ordered))

-- the next box lies within the box, and has no empty column either
pub record IsNext (s t : Sides) : Type 0 where
  pub within : IsWithin s t
  pub solid : HasNoEmpty t

fixed_next : (s : Sides) (x : List ℤ) (o : Option ℕ) → first_free s ≡ o → IsPaired s → HasNoEmpty s
    → IsNext s (with_fixed s x o)
fixed_next s x None is paired solid = record { within = within_itself s; solid = solid }
fixed_next s x (Some j) is paired solid =
    let z = nearest_value s j (int_at x j) in
    let between = nearest_between (int_at s.lows j) (int_at s.highs j) (int_at x j) (solid.all j (first_is_free s j paired is).known).ordered in
    record {
      within = fixed_within s j z between.0 between.1;
      solid = fixed_solid s j z paired solid;
    }

pub next_is : (s : Sides) (x : List ℤ) → IsPaired s → HasNoEmpty s → IsNext s (next_box s x)
next_is s x paired solid = fixed_next s x (first_free s) refl paired solid

-- what is found is feasible
found_by : (b : Bool) (y x : List ℤ) → cond b (Found y) On ≡ Found x → (b ≡ true) × (y ≡ x)
found_by true y x same = (refl, cc)
found_by false y x same = cc

found_feasible : (m : ModelParts) (outcome : Outcome) (s : Sides) (x : List ℤ)
    → dive_end m outcome s ≡ Found x → IsFeasible m x
found_feasible m Open s x same =
    let found = found_by (is_fixed s && is_feasible_at m s.lows) s.lows x same in
    subst (IsFeasible m) found.1 ((feasible_decides m s.lows).0 (and_true (is_fixed s) (is_feasible_at m s.lows) found.0).1)
found_feasible m (Conflict name) s x same = cc
found_feasible m (Empty col) s x same = cc

ten_passes : (rows cuts : List Row) (s : Sides) → HasNoEmpty s
    → (propagation_of rows cuts s).run.work ≤ 10 * (term_count rows + term_count cuts + 1)
ten_passes rows cuts s solid =
    let after = narrowed rows cuts s solid in
    rw after.counted (mul-le-mul_right (term_count rows + term_count cuts + 1) after.few)

pub step_is_sound : StepIsSound
step_is_sound m cuts s x paired solid =
    let next = next_is s x paired solid in
    let p = propagation_of m.rows cuts (next_box s x) in
    let after = narrowed m.rows cuts (next_box s x) next.solid in
    record {
      within = within_both s (next_box s x) p.sides next.within after.within;
      solid = λ going. after.solid (end_open m p.run.outcome p.sides going);
      feasible = record { found = λ y same. found_feasible m p.run.outcome p.sides y same };
      work = ten_passes m.rows cuts (next_box s x) next.solid;
    }
