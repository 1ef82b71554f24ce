-- The pairs of multipliers stand for these multipliers.
use Rattle.std.proofs.Common.{◌≡◌, ◌∙◌, ◌⊎◌, inl, inr, ℕ, zero, suc, ◌+◌, ◌-◌, ◌<◌, ◌≤◌, ◌++◌, true, false, List, [], ◌∷◌, length, nat_lt, nat_le, All, refl, sym, subst, ap₂, arith}
use Rattle.std.specs.List.{list_all}
use Rattle.std.proofs.lemmas.Bool.{and_from, lt-ltb, le-ltb, le-leb, eq-eqb, ne_eqb, cond-true, cond-false, cases_lt}
use Rattle.std.proofs.lemmas.List.{length-append}
use Rattle.std.proofs.lemmas.List.Elements.{All-head, All-tail}
use Rattle.ip_core.specs.RowRefs.{is_before}
use Rattle.ip_core.specs.declared.row.Row.{Row}
use Rattle.ip_core.specs.declared.row_ref.RowRef.{RowRef}
use Rattle.ip_core.specs.declared.row_ref.RowRef.TheVariants.{Model, Cut}
use Rattle.ip_core.specs.declared.leaf.Pair.{Pair}
use Rattle.row_propagate.specs.Replay.{HasRow}
use Rattle.safe_bound.specs.declared.limits.TheConstants.{MAX_MULTIPLIER}
use Rattle.leaf_truth.specs.Steps.{has_row}
use Rattle.leaf_truth.specs.Multipliers.{name_at, is_same_row, weight_of, weights_from, multipliers, with_pair, pairs_from, pairs_of, is_pair, rise_after, are_rising}
use Rattle.leaf_truth.proofs.TestResults.{has_row-from}

-- names of rows by number, each of another row, in rising order
pub record IsNaming (name : ℕ → RowRef) : Type 0 where
  pub own : (k : ℕ) → is_same_row (name k) (name k) ≡ true
  pub other : (j k : ℕ) → (j ≡ k → ⊥) → is_same_row (name j) (name k) ≡ false
  pub before : (j k : ℕ) → j < k → is_before (name j) (name k) ≡ true

-- the names of a model's rows by their places, and those of cuts
pub name_of_row : (n place : ℕ) → place < n → name_at n place ≡ Model place
name_of_row n place below = cond-true (nat_lt place n) (Model place) (Cut (place - n)) (lt-ltb place n below)

pub name_of_cut : (n place : ℕ) → n ≤ place → name_at n place ≡ Cut (place - n)
name_of_cut n place above = cond-false (nat_lt place n) (Model place) (Cut (place - n)) (le-ltb place n above)

same_self : (name : RowRef) → is_same_row name name ≡ true
same_self (Model i) = eq-eqb i i refl
same_self (Cut i) = eq-eqb i i refl

-- one name at two places, by whether each is that of a row of the model
apart_cases : (n j k : ℕ) → (j ≡ k → ⊥) → (j < n) ⊎ (n ≤ j) → (k < n) ⊎ (n ≤ k) → is_same_row (name_at n j) (name_at n k) ≡ false
apart_cases n j k differ (inl a) (inl b) = rw (name_of_row n j a, name_of_row n k b) (ne_eqb j k differ)
apart_cases n j k differ (inl a) (inr b) = rw (name_of_row n j a, name_of_cut n k b) refl
apart_cases n j k differ (inr a) (inl b) = rw (name_of_cut n j a, name_of_row n k b) refl
apart_cases n j k differ (inr a) (inr b) =
    rw (name_of_cut n j a, name_of_cut n k b) (ne_eqb (j - n) (k - n) (λ e. differ (omega (arith, e, a, b))))

before_cases : (n j k : ℕ) → j < k → (j < n) ⊎ (n ≤ j) → (k < n) ⊎ (n ≤ k) → is_before (name_at n j) (name_at n k) ≡ true
before_cases n j k below (inl a) (inl b) = rw (name_of_row n j a, name_of_row n k b) (lt-ltb j k below)
before_cases n j k below (inl a) (inr b) = rw (name_of_row n j a, name_of_cut n k b) refl
before_cases n j k below (inr a) (inl b) = absurd (omega (arith, a, b, below))
before_cases n j k below (inr a) (inr b) =
    rw (name_of_cut n j a, name_of_cut n k b) (lt-ltb (j - n) (k - n) (omega (arith, below, a, b)))

pub place_naming : (n : ℕ) → IsNaming (name_at n)
place_naming n = record {
  own = λ k. same_self (name_at n k);
  other = λ j k differ. apart_cases n j k differ (cases_lt j n) (cases_lt k n);
  before = λ j k below. before_cases n j k below (cases_lt j n) (cases_lt k n);
}

with_pair_other : (a name : RowRef) (y : ℕ) (pairs : List Pair) → is_same_row a name ≡ false → weight_of (with_pair a y pairs) name ≡ weight_of pairs name
with_pair_other a name zero pairs other = refl
with_pair_other a name (suc y) pairs other = cond-false (is_same_row a name) (suc y) (weight_of pairs name) other

with_pair_own : (a : RowRef) (y : ℕ) (pairs : List Pair) → is_same_row a a ≡ true → weight_of pairs a ≡ 0 → weight_of (with_pair a y pairs) a ≡ y
with_pair_own a zero pairs own none = none
with_pair_own a (suc y) pairs own none = cond-true (is_same_row a a) (suc y) (weight_of pairs a) own

-- pairs of later rows say nothing of a row
weight_below : (name : ℕ → RowRef) → IsNaming name → (i : ℕ) (ys : List ℕ) (k : ℕ) → k < i → weight_of (pairs_from name i ys) (name k) ≡ 0
weight_below name naming i [] k below = refl
weight_below name naming i (y ∷ ys) k below =
    with_pair_other (name i) (name k) y (pairs_from name (i + 1) ys) (naming.other i k (λ e. omega (arith, e, below))) ∙ weight_below name naming (i + 1) ys k (omega (arith, below))

pub weights_same : (name : ℕ → RowRef) (rows : List Row) (i : ℕ) (first second : List Pair) → ((k : ℕ) → i ≤ k → weight_of first (name k) ≡ weight_of second (name k)) → weights_from name i rows first ≡ weights_from name i rows second
weights_same name [] i first second same = refl
weights_same name (row ∷ rows) i first second same =
    ap₂ (λ (w : ℕ) (ws : List ℕ). w ∷ ws) (same i (omega arith)) (weights_same name rows (i + 1) first second (λ k above. same k (omega (arith, above))))

-- the weights of multipliers' pairs are the multipliers
weights_again : (name : ℕ → RowRef) → IsNaming name → (rows : List Row) (i : ℕ) (ys : List ℕ) → length ys ≡ length rows → weights_from name i rows (pairs_from name i ys) ≡ ys
weights_again name naming [] i [] long = refl
weights_again name naming [] i (y ∷ ys) long = absurd (omega (arith, long))
weights_again name naming (row ∷ rows) i [] long = absurd (omega (arith, long))
weights_again name naming (row ∷ rows) i (y ∷ ys) long =
    let later = pairs_from name (i + 1) ys in
    ap₂ (λ (w : ℕ) (ws : List ℕ). w ∷ ws)
    (with_pair_own (name i) y later (naming.own i) (weight_below name naming (i + 1) ys i (omega arith)))
    (weights_same name rows (i + 1) (with_pair (name i) y later) later (λ k above. with_pair_other (name i) (name k) y later (naming.other i k (λ e. omega (arith, e, above))))
    ∙ weights_again name naming rows (i + 1) ys (omega (arith, long)))

pub multipliers_again : (rows cuts : List Row) (ys : List ℕ) → length ys ≡ length rows + length cuts → multipliers rows cuts (pairs_of (length rows) ys) ≡ ys
multipliers_again rows cuts ys many =
    weights_again (name_at (length rows)) (place_naming (length rows)) (rows ++ cuts) 0 ys (omega (arith, many, length-append rows cuts))

-- the pairs rise
after_from : (name : ℕ → RowRef) → IsNaming name → (ys : List ℕ) (j i : ℕ) → j < i → rise_after (name j) (pairs_from name i ys) ≡ true
after_from name naming [] j i below = refl
after_from name naming (zero ∷ ys) j i below = after_from name naming ys j (i + 1) (omega (arith, below))
after_from name naming (suc y ∷ ys) j i below =
    and_from (is_before (name j) (name i)) (rise_after (name i) (pairs_from name (i + 1) ys)) (naming.before j i below) (after_from name naming ys i (i + 1) (omega arith))

rising_from : (name : ℕ → RowRef) → IsNaming name → (ys : List ℕ) (i : ℕ) → are_rising (pairs_from name i ys) ≡ true
rising_from name naming [] i = refl
rising_from name naming (zero ∷ ys) i = rising_from name naming ys (i + 1)
rising_from name naming (suc y ∷ ys) i = after_from name naming ys i (i + 1) (omega arith)

pub pairs_rise : (n : ℕ) (ys : List ℕ) → are_rising (pairs_of n ys) ≡ true
pairs_rise n ys = rising_from (name_at n) (place_naming n) ys 0

abbrev IsSmall : ℕ → Type 0
IsSmall y = y ≤ MAX_MULTIPLIER

-- their rows exist, and they are small
known_from : (rows cuts : List Row) (name : ℕ → RowRef) (ys : List ℕ) (i : ℕ) → ((k : ℕ) → k < i + length ys → HasRow rows cuts (name k)) → All IsSmall ys → list_all (is_pair rows cuts) (pairs_from name i ys) ≡ true
known_from rows cuts name [] i known small = refl
known_from rows cuts name (zero ∷ ys) i known small =
    known_from rows cuts name ys (i + 1) (λ k below. known k (omega (arith, below))) (All-tail IsSmall zero ys small)
known_from rows cuts name (suc y ∷ ys) i known small =
    let light : suc y ≤ MAX_MULTIPLIER = All-head IsSmall (suc y) ys small in
    and_from (is_pair rows cuts (record { row = name i; weight = suc y })) (list_all (is_pair rows cuts) (pairs_from name (i + 1) ys))
    (and_from (has_row rows cuts (name i)) (nat_le (suc y) MAX_MULTIPLIER) (has_row-from rows cuts (name i) (known i (omega arith))) (le-leb (suc y) MAX_MULTIPLIER light))
    (known_from rows cuts name ys (i + 1) (λ k below. known k (omega (arith, below))) (All-tail IsSmall (suc y) ys small))

named_cases : (rows cuts : List Row) (k : ℕ) → k < length rows + length cuts → (k < length rows) ⊎ (length rows ≤ k) → HasRow rows cuts (name_at (length rows) k)
named_cases rows cuts k below (inl row) = subst (HasRow rows cuts) (sym (name_of_row (length rows) k row)) row
named_cases rows cuts k below (inr cut) = subst (HasRow rows cuts) (sym (name_of_cut (length rows) k cut)) (omega (arith, below, cut))

pub pairs_known : (rows cuts : List Row) (ys : List ℕ) → length ys ≡ length rows + length cuts → All IsSmall ys → list_all (is_pair rows cuts) (pairs_of (length rows) ys) ≡ true
pairs_known rows cuts ys many small =
    known_from rows cuts (name_at (length rows)) ys 0 (λ k below. named_cases rows cuts k (omega (arith, below, many)) (cases_lt k (length rows))) small
