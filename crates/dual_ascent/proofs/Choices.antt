use Rattle.std.proofs.Common.{◌≡◌, ◌∙◌, ℕ, zero, suc, ◌+◌, ◌-◌, ◌<◌, ◌≤◌, min, Bool, true, false, if◌then◌else◌, List, [], ◌∷◌, length, get_or, set, ℤ, ◌≤ℤ◌, ◌<ℤ◌, int_lt, refl, ap, arith}
use Rattle.std.proofs.lemmas.Int.{ints}
use Rattle.safe_bound.specs.declared.limits.TheConstants.{MAX_MULTIPLIER}
use Rattle.dual_ascent.specs.Climbs.{better, first_greatest, changes, candidates, trial, next_multiplier}
use Rattle.dual_ascent.specs.Laws.{IsFirstGreatest, RowTakesFirstGreatest}

at_most-less : (a b c : ℤ) → a <ℤ b → b ≤ℤ c → a <ℤ c
at_most-less a b c first second = omega (arith, ints)

at_most-both : (a b c : ℤ) → a ≤ℤ b → b <ℤ c → a <ℤ c
at_most-both a b c first second = omega (arith, ints)

at_most-all : (a b c : ℤ) → a ≤ℤ b → b ≤ℤ c → a ≤ℤ c
at_most-all a b c first second = omega (arith, ints)

test_true : (a b : ℤ) → int_lt a b ≡ true → a <ℤ b
test_true a b e = grind (arith, ints)

test_false : (a b : ℤ) → int_lt a b ≡ false → b ≤ℤ a
test_false a b e = grind (arith, ints)

module _ (worth : ℕ → ℤ) (best y : ℕ) (ys : List ℕ) (r : ℕ) where
  -- the second of two is worth more, so that the first is out
  second_greatest : worth best ≤ℤ worth r → (k : ℕ) → k < length (best ∷ y ∷ ys) → ((j : ℕ) → j < length (y ∷ ys) → worth (get_or (y ∷ ys) j 0) ≤ℤ worth r) → worth (get_or (best ∷ y ∷ ys) k 0) ≤ℤ worth r
  second_greatest first zero within rest = first
  second_greatest first (suc k) within rest = rest k (omega arith)

  second_first : worth best <ℤ worth r → (n k : ℕ) → k < suc n → ((j : ℕ) → j < n → worth (get_or (y ∷ ys) j 0) <ℤ worth r) → worth (get_or (best ∷ y ∷ ys) k 0) <ℤ worth r
  second_first below n zero within rest = below
  second_first below n (suc k) within rest = rest k (omega arith)

  second_taken : worth best <ℤ worth y → IsFirstGreatest worth (y ∷ ys) r → IsFirstGreatest worth (best ∷ y ∷ ys) r
  second_taken more rest =
      let up : worth y ≤ℤ worth r = rest.greatest 0 (omega arith) in
      let below : worth best <ℤ worth r = at_most-less (worth best) (worth y) (worth r) more up in
      record {
        place = suc rest.place;
        known = omega (arith, rest.known);
        here = rest.here;
        greatest = λ k h. second_greatest (omega (arith, ints, below)) k h rest.greatest;
        first = λ k h. second_first below rest.place k h rest.first;
      }

  -- the second is worth no more, so that it is out
  first_greatest_of : worth y ≤ℤ worth r → (k : ℕ) → k < length (best ∷ y ∷ ys) → ((j : ℕ) → j < length (best ∷ ys) → worth (get_or (best ∷ ys) j 0) ≤ℤ worth r) → worth (get_or (best ∷ y ∷ ys) k 0) ≤ℤ worth r
  first_greatest_of less zero within rest = rest 0 (omega arith)
  first_greatest_of less (suc zero) within rest = less
  first_greatest_of less (suc (suc k)) within rest = rest (suc k) (omega arith)

  first_first : worth y ≤ℤ worth best → (n k : ℕ) → k < suc (suc n) → ((j : ℕ) → j < suc n → worth (get_or (best ∷ ys) j 0) <ℤ worth r) → worth (get_or (best ∷ y ∷ ys) k 0) <ℤ worth r
  first_first less n zero within rest = rest 0 (omega arith)
  first_first less n (suc zero) within rest = at_most-both (worth y) (worth best) (worth r) less (rest 0 (omega arith))
  first_first less n (suc (suc k)) within rest = rest (suc k) (omega arith)

  kept_at : (place : ℕ) → place < length (best ∷ ys) → get_or (best ∷ ys) place 0 ≡ r → worth y ≤ℤ worth best → ((k : ℕ) → k < length (best ∷ ys) → worth (get_or (best ∷ ys) k 0) ≤ℤ worth r) → ((k : ℕ) → k < place → worth (get_or (best ∷ ys) k 0) <ℤ worth r) → IsFirstGreatest worth (best ∷ y ∷ ys) r
  kept_at zero known here less greatest first = record {
    place = 0;
    known = omega arith;
    here = here;
    greatest = λ k h. first_greatest_of (at_most-all (worth y) (worth best) (worth r) less (greatest 0 (omega arith))) k h greatest;
    first = λ k h. absurd (omega arith);
  }
  kept_at (suc place) known here less greatest first = record {
    place = suc (suc place);
    known = omega arith;
    here = here;
    greatest = λ k h. first_greatest_of (at_most-all (worth y) (worth best) (worth r) less (greatest 0 (omega arith))) k h greatest;
    first = λ k h. first_first less place k h first;
  }

  first_kept : worth y ≤ℤ worth best → IsFirstGreatest worth (best ∷ ys) r → IsFirstGreatest worth (best ∷ y ∷ ys) r
  first_kept less rest = kept_at rest.place rest.known rest.here less rest.greatest rest.first

either_taken : (b : Bool) (worth : ℕ → ℤ) (best y : ℕ) (ys : List ℕ) → int_lt (worth best) (worth y) ≡ b → IsFirstGreatest worth ((if b then y else best) ∷ ys) (first_greatest worth (if b then y else best) ys) → IsFirstGreatest worth (best ∷ y ∷ ys) (first_greatest worth (if b then y else best) ys)
either_taken true worth best y ys e rest = second_taken worth best y ys (first_greatest worth y ys) (test_true (worth best) (worth y) e) rest
either_taken false worth best y ys e rest = first_kept worth best y ys (first_greatest worth best ys) (test_false (worth best) (worth y) e) rest

one_greatest : (worth : ℕ → ℤ) (best k : ℕ) → k < 1 → worth (get_or (best ∷ []) k 0) ≤ℤ worth best
one_greatest worth best zero within = omega (arith, ints)
one_greatest worth best (suc k) within = absurd (omega arith)

-- the first of the greatest is what its name says
pub first_greatest_is : (worth : ℕ → ℤ) (best : ℕ) (ys : List ℕ) → IsFirstGreatest worth (best ∷ ys) (first_greatest worth best ys)
first_greatest_is worth best [] = record { place = 0; known = omega arith; here = refl; greatest = λ k h. one_greatest worth best k h; first = λ k h. absurd (omega arith) }
first_greatest_is worth best (y ∷ ys) = either_taken (int_lt (worth best) (worth y)) worth best y ys refl (first_greatest_is worth (better worth best y) ys)

-- a row takes the first of greatest worth among its candidates
pub row_takes_first_greatest : RowTakesFirstGreatest
row_takes_first_greatest worth size ys i = first_greatest_is (trial worth ys i) (get_or ys i 0) (changes size (get_or ys i 0))

better_holds : (P : ℕ → Type 0) (worth : ℕ → ℤ) (y z : ℕ) → P y → P z → (b : Bool) → P (if b then z else y)
better_holds P worth y z first second true = second
better_holds P worth y z first second false = first

-- what holds of each candidate holds of the one that a row takes
pub next_holds : (P : ℕ → Type 0) (worth : List ℕ → ℤ) (size : ℕ) (ys : List ℕ) (i : ℕ) → P (get_or ys i 0) → P (min (get_or ys i 0 + size) MAX_MULTIPLIER) → P (get_or ys i 0 - size) → P 0 → P (next_multiplier worth size ys i)
next_holds P worth size ys i own up down none =
    let f = trial worth ys i in
    let y = get_or ys i 0 in
    let first = better f y (min (y + size) MAX_MULTIPLIER) in
    let second = better f first (y - size) in
    better_holds P f second 0 (better_holds P f first (y - size) (better_holds P f y (min (y + size) MAX_MULTIPLIER) own up (int_lt (f y) (f (min (y + size) MAX_MULTIPLIER)))) down (int_lt (f first) (f (y - size)))) none (int_lt (f second) (f 0))
