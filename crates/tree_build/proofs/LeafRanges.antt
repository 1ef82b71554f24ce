-- The numbers of a leaf that holds are in the ranges of its text.
use Rattle.std.proofs.Common.{◌≡◌, ◌∙◌, ℕ, zero, suc, ◌+◌, ◌≤◌, ◌<◌, ◌^◌, true, false, List, [], ◌∷◌, length, get_or, nat_lt, ℤ, All, refl, sym, arith}
use Rattle.std.specs.List.{AllByRecursion}
use Rattle.std.proofs.lemmas.Bool.{false≢true, ltb-true}
use Rattle.std.proofs.lemmas.List.Elements.{All-head, All-tail}
use Rattle.ip_core.specs.Models.{IsModel}
use Rattle.ip_core.specs.RowRefs.{is_before}
use Rattle.ip_core.specs.Sides.{Sides}
use Rattle.ip_core.specs.declared.leaf.Closing.{Closing}
use Rattle.ip_core.specs.declared.leaf.Closing.TheVariants.{Bound, Conflict, Empty}
use Rattle.ip_core.specs.declared.leaf.Leaf.{Leaf}
use Rattle.ip_core.specs.declared.leaf.Pair.{Pair}
use Rattle.ip_core.specs.declared.leaf.Tighten.{Tighten}
use Rattle.ip_core.specs.declared.model.ModelParts.{ModelParts}
use Rattle.ip_core.specs.declared.row.Row.{Row}
use Rattle.ip_core.specs.declared.row_ref.RowRef.{RowRef}
use Rattle.ip_core.specs.declared.row_ref.RowRef.TheVariants.{Model, Cut}
use Rattle.row_propagate.specs.Lawful.{AreLawfulSteps}
use Rattle.row_propagate.specs.Replay.{HasRow, replay, row_named}
use Rattle.row_propagate.specs.Rounding.{tight_box}
use Rattle.row_propagate.proofs.Replaying.{replay_within, tight_box_within}
use Rattle.safe_bound.specs.declared.limits.TheConstants.{MAX_MULTIPLIER}
use Rattle.leaf_truth.specs.Laws.{IsClosing as Closes}
use Rattle.leaf_truth.specs.Leaves.{IsValidLeaf}
use Rattle.leaf_truth.specs.Multipliers.{place_of}
use Rattle.leaf_truth.proofs.Exactly.{leaf_reason_is_exact}
use Rattle.cut_derive.specs.declared.limits.TheConstants.{MAX_CUTS}
use Rattle.cert_line.specs.Lines.{AreItems, IsClosing, IsLeaf, IsPair, IsRow, IsStep}

-- the rows of a model, with as many cuts as there may be
pub record HasFewCuts (m : ModelParts) (cuts : List Row) : Type 0 where
  pub valid : IsModel m
  pub few : length cuts ≤ MAX_CUTS

pub row_range : (m : ModelParts) (cuts : List Row) (name : RowRef) → HasFewCuts m cuts
    → HasRow m.rows cuts name → IsRow name
row_range m cuts (Model i) own known =
    record { small = omega (arith, known, own.valid.few.row_limit) }
row_range m cuts (Cut i) own known = record { small = omega (arith, known, own.few) }

-- ---- steps

steps_range : (m : ModelParts) (cuts : List Row) (s : Sides) (steps : List Tighten)
    → HasFewCuts m cuts → length s.lows ≡ length m.cols → AreLawfulSteps m.rows cuts s steps
    → AllByRecursion IsStep steps
steps_range m cuts s [] own columns lawful = tt
steps_range m cuts s (step ∷ steps) own columns lawful =
    let row = row_named m.rows cuts step.row in
    let here = lawful.0 in (
      record {
        row = row_range m cuts step.row own here.row;
        col = record { small = omega (arith, here.col, columns, own.valid.bounds.columns) };
      },
      steps_range m cuts (tight_box row s step.col) steps own
          ((tight_box_within row s step.col).as_many_lows ∙ columns) lawful.1,
    )

-- ---- pairs

pairs_range : (m : ModelParts) (cuts : List Row) (pairs : List Pair) → HasFewCuts m cuts
    → All (λ (p : Pair). HasRow m.rows cuts p.row) pairs
    → All (λ (p : Pair). p.weight ≤ MAX_MULTIPLIER) pairs → AllByRecursion IsPair pairs
pairs_range m cuts [] own known small = tt
pairs_range m cuts (p ∷ pairs) own known small =
    let HasOwn : Pair → Type 0 = λ q. HasRow m.rows cuts q.row in
    let IsLight : Pair → Type 0 = λ q. q.weight ≤ MAX_MULTIPLIER in
    let light = All-head IsLight p pairs small in (
      record {
        row = row_range m cuts p.row own (All-head HasOwn p pairs known);
        weight = record { small = omega (arith, light) };
      },
      pairs_range m cuts pairs own (All-tail HasOwn p pairs known) (All-tail IsLight p pairs small),
    )

place_below : (rows cuts : List Row) (name : RowRef) → HasRow rows cuts name
    → place_of (length rows) name < length rows + length cuts
place_below rows cuts (Model i) known = omega (arith, known)
place_below rows cuts (Cut i) known = omega (arith, known)

place_rises : (rows cuts : List Row) (a b : RowRef) → HasRow rows cuts a → is_before a b ≡ true
    → place_of (length rows) a < place_of (length rows) b
place_rises rows cuts (Model i) (Model j) known before = ltb-true i j before
place_rises rows cuts (Model i) (Cut j) known before = omega (arith, known)
place_rises rows cuts (Cut i) (Model j) known before = absurd (false≢true before)
place_rises rows cuts (Cut i) (Cut j) known before = omega (arith, ltb-true i j before)

-- each pair's row comes before that of the next
abbrev Rise : List Pair → Type 0
Rise pairs = (k : ℕ) (d : Pair) → suc k < length pairs
    → is_before (get_or pairs k d).row (get_or pairs (suc k) d).row ≡ true

-- so there are no more of them than places from the first on
pairs_after : (rows cuts : List Row) (p : Pair) (pairs : List Pair)
    → All (λ (q : Pair). HasRow rows cuts q.row) (p ∷ pairs) → Rise (p ∷ pairs)
    → place_of (length rows) p.row + suc (length pairs) ≤ length rows + length cuts
pairs_after rows cuts p [] known rise =
    let HasOwn : Pair → Type 0 = λ q. HasRow rows cuts q.row in
    omega (arith, place_below rows cuts p.row (All-head HasOwn p [] known))
pairs_after rows cuts p (q ∷ pairs) known rise =
    let HasOwn : Pair → Type 0 = λ r. HasRow rows cuts r.row in
    let up = place_rises rows cuts p.row q.row (All-head HasOwn p (q ∷ pairs) known)
    (rise 0 p (omega arith)) in
    let rest = pairs_after rows cuts q pairs (All-tail HasOwn p (q ∷ pairs) known)
    (λ k d h. rise (suc k) d (omega (arith, h))) in
    omega (arith, up, rest)

pairs_few : (rows cuts : List Row) (pairs : List Pair)
    → All (λ (q : Pair). HasRow rows cuts q.row) pairs → Rise pairs
    → length pairs ≤ length rows + length cuts
pairs_few rows cuts [] known rise = omega arith
pairs_few rows cuts (p ∷ pairs) known rise =
    omega (arith, pairs_after rows cuts p pairs known rise)

-- ---- closings

closing_range : (m : ModelParts) (cuts : List Row) (v : ℤ) (s : Sides) (why : Closing)
    → HasFewCuts m cuts → length s.lows ≡ length m.cols → Closes m cuts v s why → IsClosing why
closing_range m cuts v s (Conflict name) own columns says = row_range m cuts name own says.known
closing_range m cuts v s (Empty col) own columns says =
    record { small = omega (arith, says.known, columns, own.valid.bounds.columns) }
closing_range m cuts v s (Bound pairs) own columns says =
    let few = pairs_few m.rows cuts pairs says.known says.rising.each in
    record {
      each = pairs_range m cuts pairs own says.known says.small;
      few = record { small = omega (arith, few, own.valid.few.row_limit, own.few) };
    }

-- a leaf that holds, with few steps
pub leaf_range : (m : ModelParts) (cuts : List Row) (v : ℤ) (s : Sides) (leaf : Leaf)
    → HasFewCuts m cuts → length s.lows ≡ length m.cols → IsValidLeaf m cuts v s leaf
    → length leaf.steps ≤ 2 ^ 21 → IsLeaf leaf
leaf_range m cuts v s leaf own columns valid few =
    let says = (leaf_reason_is_exact m cuts v s leaf).0 valid.no_reason in
    let last = replay (row_named m.rows cuts) s leaf.steps in
    record {
      steps = record {
        each = steps_range m cuts s leaf.steps own columns says.steps;
        few = record { small = omega (arith, few) };
      };
      closing = closing_range m cuts v last leaf.closing own
          ((replay_within (row_named m.rows cuts) s leaf.steps).as_many_lows ∙ columns)
          says.closing;
    }
