-- What the passes leave of a box, and which leaves hold on it.
use Rattle.std.proofs.Common.{◌≡◌, ℕ, zero, suc, ◌<◌, ◌⊎◌, inl, inr, Bool, true, false, if◌then◌else◌, is_none, List, [], length, ℤ, ◌≤ℤ◌, ◌<ℤ◌, int_lt, Option, Some, None, refl, sym, ap, subst, arith}
use Rattle.std.proofs.lemmas.Int.{ints}
use Rattle.ip_core.specs.Boxes.{IsWithin}
use Rattle.ip_core.specs.Models.{IsModel}
use Rattle.ip_core.specs.Numbers.{int_at}
use Rattle.ip_core.specs.Rows.{AreRows}
use Rattle.ip_core.specs.Sides.{Sides, HasNoEmpty}
use Rattle.ip_core.specs.declared.leaf.Closing.{Closing}
use Rattle.ip_core.specs.declared.leaf.Closing.TheVariants.{Bound}
use Rattle.ip_core.specs.declared.leaf.Leaf.{Leaf}
use Rattle.ip_core.specs.declared.model.ModelParts.{ModelParts}
use Rattle.ip_core.specs.declared.row.Row.{Row}
use Rattle.search_truth.specs.Boxes.{IsClosed}
use Rattle.row_propagate.specs.declared.outcome.Outcome.TheVariants.{Open}
use Rattle.row_propagate.specs.Lawful.{IsAfter, IsCause}
use Rattle.row_propagate.specs.Passes.{Propagation, first_below, first_empty, first_or, open_run, propagation_of, propagation_from}
use Rattle.row_propagate.specs.Replay.{row_named}
use Rattle.row_propagate.proofs.Causes.{passes_caused}
use Rattle.row_propagate.proofs.Replaying.{replay_within}
use Rattle.safe_bound.specs.Bounds.{lagrangian_bound}
use Rattle.safe_bound.specs.Premises.{AreMultipliers}
use Rattle.leaf_truth.specs.Laws.{AreValidCuts, closing_of, leaf_of}
use Rattle.leaf_truth.specs.Leaves.{IsValidLeaf}
use Rattle.leaf_truth.specs.Multipliers.{pairs_of}
use Rattle.leaf_truth.proofs.Closes.{leaf_closes}
use Rattle.leaf_truth.proofs.Given.{bound_gives_leaf, outcome_gives_leaf}
use Rattle.leaf_truth.proofs.Solid.{solid_holds}
use Rattle.task_steps.specs.Lemmas.LawfulPasses.{passes_lawful}

-- the first number that passes a test is one that passes

or_some : (o : Option ℕ) (b : Bool) (n j : ℕ) → first_or o (if b then Some n else None) ≡ Some j
    → (o ≡ Some j) ⊎ ((b ≡ true) × (n ≡ j))
or_some (Some i) b n j same = inl same
or_some None true n j same = inr (refl, cc)
or_some None false n j same = absurd (cc)

some_cases : (n : ℕ) (test : ℕ → Bool) (j : ℕ)
    → (first_below n test ≡ Some j → (j < n) × (test j ≡ true))
    → (first_below n test ≡ Some j) ⊎ ((test n ≡ true) × (n ≡ j))
    → (j < suc n) × (test j ≡ true)
some_cases n test j before (inl found) =
    let parts = before found in (omega (arith, parts.0), parts.1)
some_cases n test j before (inr here) =
    let last = here.1 in (omega arith, rw (← last) here.0)

first_below_some : (n : ℕ) (test : ℕ → Bool) (j : ℕ) → first_below n test ≡ Some j
    → (j < n) × (test j ≡ true)
first_below_some zero test j found = absurd (cc)
first_below_some (suc n) test j found =
    some_cases n test j (first_below_some n test j)
    (or_some (first_below n test) (test n) n j found)

crossed_test : (high low : ℤ) → int_lt high low ≡ true → high <ℤ low
crossed_test high low test = grind (arith, ints)

-- What the passes over a model's rows and cuts leave of a box: they came to their last box by
-- lawful steps, and there the outcome has its cause.
pub record IsPassed (m : ModelParts) (cuts : List Row) (s : Sides) (p : Propagation) : Type 0 where
  pub after : IsAfter m.rows cuts s p.sides p.steps
  pub cause : IsCause m.rows cuts p.sides p.run.outcome

passed_cases : (m : ModelParts) (cuts : List Row) (s : Sides) (o : Option ℕ) → first_empty s ≡ o
    → IsModel m → AreRows (length m.cols) m.root cuts → length s.lows ≡ length m.cols
    → IsPassed m cuts s (propagation_from m.rows cuts s o)
passed_cases m cuts s (Some col) found valid of_cuts columns =
    let test = λ (j : ℕ). int_lt (int_at s.highs j) (int_at s.lows j) in
    let parts = first_below_some (length s.lows) test col found in
    record {
      after = record { replays = refl; lawful = tt };
      cause = record {
        known = parts.0;
        empty =
            record { crossed = crossed_test (int_at s.highs col) (int_at s.lows col) parts.1 };
      };
    }
passed_cases m cuts s None found valid of_cuts columns =
    let n = length m.cols in
    let first = open_run s [] in
    let solid : HasNoEmpty s = solid_holds s (ap (λ (o : Option ℕ). is_none o) found) in
    let rows : AreRows (length s.lows) m.root m.rows =
    subst (λ (k : ℕ). AreRows k m.root m.rows) (sym columns) valid.rows in
    let more : AreRows (length s.lows) m.root cuts =
    subst (λ (k : ℕ). AreRows k m.root cuts) (sym columns) of_cuts in
    let lawful = passes_lawful m.rows cuts s m.root 10 first 0 rows more refl (record {
      after = record { replays = refl; lawful = tt };
      columns = refl;
      solid = λ same. solid;
    }) in
    let caused = passes_caused n m.root m.rows cuts 10 first 0 valid.rows of_cuts refl
    (record { columns = columns; cause = solid }) in
    record { after = lawful.after; cause = caused.cause }

pub passes_passed : (m : ModelParts) (cuts : List Row) (s : Sides) → IsModel m
    → AreRows (length m.cols) m.root cuts → length s.lows ≡ length m.cols
    → IsPassed m cuts s (propagation_of m.rows cuts s)
passes_passed m cuts s valid of_cuts columns =
    passed_cases m cuts s (first_empty s) refl valid of_cuts columns

-- the last box lies in the first one
pub passed_within : (m : ModelParts) (cuts : List Row) (s : Sides) (p : Propagation)
    → IsPassed m cuts s p
    → IsWithin s p.sides
passed_within m cuts s p passed =
    subst (IsWithin s) (sym passed.after.replays) (replay_within (row_named m.rows cuts) s p.steps)

-- and has no empty column where nothing closed it
pub passed_solid : (m : ModelParts) (cuts : List Row) (s : Sides) (p : Propagation)
    → IsPassed m cuts s p
    → p.run.outcome ≡ Open → HasNoEmpty p.sides
passed_solid m cuts s p passed goes = subst (IsCause m.rows cuts p.sides) goes passed.cause

-- what closed it makes a leaf with the steps, which holds at every value
pub outcome_leaf : (m : ModelParts) (cuts : List Row) (s : Sides) (v : ℤ) (why : Closing)
    → IsModel m
    → AreRows (length m.cols) m.root cuts → length s.lows ≡ length m.cols
    → closing_of (propagation_of m.rows cuts s).run.outcome ≡ Some why
    → IsValidLeaf m cuts v s (leaf_of (propagation_of m.rows cuts s).steps why)
outcome_leaf m cuts s v why valid of_cuts columns closes =
    let p = propagation_of m.rows cuts s in
    let passed = passes_passed m cuts s valid of_cuts columns in
    outcome_gives_leaf m cuts v s p.sides p.steps p.run.outcome why passed.after passed.cause closes

-- and so do multipliers where nothing closed it, at each value up to their bound
pub bound_leaf : (m : ModelParts) (cuts : List Row) (s : Sides) (v : ℤ) (ys : List ℕ) → IsModel m
    → AreRows (length m.cols) m.root cuts → length s.lows ≡ length m.cols
    → (propagation_of m.rows cuts s).run.outcome ≡ Open
    → AreMultipliers m cuts ys
    → v ≤ℤ lagrangian_bound m cuts (propagation_of m.rows cuts s).sides ys
    → IsValidLeaf m cuts v s
    (leaf_of (propagation_of m.rows cuts s).steps (Bound (pairs_of (length m.rows) ys)))
bound_leaf m cuts s v ys valid of_cuts columns goes mults high =
    let p = propagation_of m.rows cuts s in
    let passed = passes_passed m cuts s valid of_cuts columns in
    bound_gives_leaf m cuts v s p.sides p.steps ys passed.after
    (passed_solid m cuts s p passed goes) mults
    high

-- a leaf that holds at a value closes its box there
pub leaf_closed : (m : ModelParts) (cuts : List Row) (v : ℤ) (s : Sides) (leaf : Leaf) → IsModel m
    → AreValidCuts m cuts → length s.lows ≡ length m.cols → IsValidLeaf m cuts v s leaf
    → IsClosed m v s
leaf_closed m cuts v s leaf valid valid_cuts columns holds =
    leaf_closes m cuts v s leaf valid valid_cuts columns holds
