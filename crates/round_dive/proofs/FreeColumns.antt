-- A step that isn't stuck leaves fewer columns that aren't fixed.
use Rattle.std.proofs.Common.{◌≡◌, ◌∙◌, ℕ, zero, suc, ◌<◌, ◌≤◌, ◌⊎◌, inl, inr, Bool, true, false, cond, List, length, ℤ, pos, ◌≤ℤ◌, Option, Some, refl, sym, subst, arith}
use Rattle.std.specs.Ordering.{int_eq}
use Rattle.std.proofs.lemmas.Bool.{cases_lt}
use Rattle.std.proofs.lemmas.Bool.Decides.{Decides-int_eq}
use Rattle.std.proofs.lemmas.Int.{ints}
use Rattle.std.proofs.lemmas.List.{get_or-set_same}
use Rattle.ip_core.specs.Numbers.{int_at, sum_below}
use Rattle.ip_core.specs.Sides.{Sides, HasNoEmpty, IsPaired}
use Rattle.ip_core.specs.Boxes.{IsWithin}
use Rattle.row_propagate.specs.Passes.{propagation_of}
use Rattle.round_dive.specs.Dives.{first_free, nearest_value, next_box, with_fixed, with_value}
use Rattle.round_dive.specs.Laws.{StepFixesColumn, free_at, free_count}
use Rattle.round_dive.proofs.NarrowerRuns.{narrowed}
use Rattle.round_dive.proofs.SoundDives.{IsFree, first_is_free, next_is, step_is_sound}

no_greater_sum : (n : ℕ) (f g : ℕ → ℕ) → ((k : ℕ) → k < n → g k ≤ f k)
    → sum_below n g ≤ sum_below n f
no_greater_sum zero f g each = omega arith
no_greater_sum (suc n) f g each =
    omega (arith, no_greater_sum n f g (λ k h. each k (omega (arith, h))), each n (omega arith))

less_cases : (n j : ℕ) (f g : ℕ → ℕ) → ((k : ℕ) → k < suc n → g k ≤ f k) → g j < f j
    → (j < n → sum_below n g < sum_below n f) → j < suc n → (j < n) ⊎ (n ≤ j)
    → sum_below (suc n) g < sum_below (suc n) f
less_cases n j f g each less before known (inl below) =
    omega (arith, before below, each n (omega arith))
less_cases n j f g each less before known (inr last) =
    let same : j ≡ n = omega (arith, known, last) in
    let here : g n < f n = subst (λ k. g k < f k) same less in
    omega (arith, no_greater_sum n f g (λ k h. each k (omega (arith, h))), here)

-- a sum of numbers that are no greater, and one less, is less
lesser_sum : (n j : ℕ) (f g : ℕ → ℕ) → ((k : ℕ) → k < n → g k ≤ f k) → j < n → g j < f j
    → sum_below n g < sum_below n f
lesser_sum zero j f g each known less = absurd (omega (arith, known))
lesser_sum (suc n) j f g each known less =
    less_cases n j f g each less
    (λ below. lesser_sum n j f g (λ k h. each k (omega (arith, h))) below less) known (cases_lt j n)

free_of_test : (b : Bool) → cond b 0 1 ≤ 1
free_of_test true = omega arith
free_of_test false = omega arith

free_small : (s : Sides) (k : ℕ) → free_at s k ≤ 1
free_small s k = free_of_test (int_eq (int_at s.lows k) (int_at s.highs k))

none_free : (s : Sides) (k : ℕ) → int_at s.lows k ≡ int_at s.highs k → free_at s k ≡ 0
none_free s k same = rw ((Decides-int_eq (int_at s.lows k) (int_at s.highs k)).1 same) refl

one_free : (s : Sides) (k : ℕ) → int_eq (int_at s.lows k) (int_at s.highs k) ≡ false
    → free_at s k ≡ 1
one_free s k differs = rw differs refl

-- a fixed column is fixed in a narrower box too
fixed_in : (low a b high : ℤ) → low ≤ℤ a → a ≤ℤ b → b ≤ℤ high → low ≡ high → a ≡ b
fixed_in low a b high above ordered below same = omega (arith, ints, above, ordered, below, same)

still_fixed : (s t : Sides) (k : ℕ) → IsWithin s t → HasNoEmpty t → k < length t.lows
    → int_at s.lows k ≡ int_at s.highs k → int_at t.lows k ≡ int_at t.highs k
still_fixed s t k within solid known same =
    fixed_in (int_at s.lows k) (int_at t.lows k) (int_at t.highs k) (int_at s.highs k)
    (within.lows k known) (solid.all k known).ordered (within.highs k known) same

no_freer_by : (s t : Sides) (k : ℕ) (b : Bool) → int_eq (int_at s.lows k) (int_at s.highs k) ≡ b
    → IsWithin s t → HasNoEmpty t → k < length t.lows → free_at t k ≤ free_at s k
no_freer_by s t k true is within solid known =
    let same = (Decides-int_eq (int_at s.lows k) (int_at s.highs k)).0 is in
    omega (arith, none_free t k (still_fixed s t k within solid known same))
no_freer_by s t k false is within solid known = omega (arith, one_free s k is, free_small t k)

no_freer : (s t : Sides) (k : ℕ) → IsWithin s t → HasNoEmpty t → k < length t.lows
    → free_at t k ≤ free_at s k
no_freer s t k within solid known = no_freer_by s t k _ refl within solid known

fewer : (s t : Sides) (j : ℕ) → IsWithin s t → HasNoEmpty t → IsFree s j
    → int_at t.lows j ≡ int_at t.highs j → free_count t < free_count s
fewer s t j within solid free fixed =
    let many : length t.lows ≡ length s.lows = within.as_many_lows in
    let less : free_at t j < free_at s j = omega (arith, none_free t j fixed, one_free s j free.differs) in
    rw many (lesser_sum (length s.lows) j (free_at s) (free_at t)
    (λ k h. no_freer s t k within solid (omega (arith, h, many))) free.known less)

value_fixed : (s : Sides) (j : ℕ) (z : ℤ) → IsPaired s → j < length s.lows
    → int_at (with_value s j z).lows j ≡ int_at (with_value s j z).highs j
value_fixed s j z paired known =
    get_or-set_same s.lows j z (pos 0) known
    ∙ sym (get_or-set_same s.highs j z (pos 0) (omega (arith, known, paired.same_length)))

next_fixed : (s : Sides) (x : List ℤ) (j : ℕ) → IsPaired s → j < length s.lows
    → first_free s ≡ Some j → int_at (next_box s x).lows j ≡ int_at (next_box s x).highs j
next_fixed s x j paired known some =
    subst (λ (o : Option ℕ). int_at (with_fixed s x o).lows j ≡ int_at (with_fixed s x o).highs j) (sym some)
    (value_fixed s j (nearest_value s j (int_at x j)) paired known)

pub step_fixes_column : StepFixesColumn
step_fixes_column m cuts s x j paired solid some going =
    let free = first_is_free s j paired some in
    let next = next_is s x paired solid in
    let sound = step_is_sound m cuts s x paired solid in
    let p = propagation_of m.rows cuts (next_box s x) in
    let after = narrowed m.rows cuts (next_box s x) next.solid in
    let known : j < length p.sides.lows = omega (arith, free.known, sound.within.as_many_lows) in
    fewer s p.sides j sound.within (sound.solid going) free
    (still_fixed (next_box s x) p.sides j after.within (sound.solid going) known (next_fixed s x j paired free.known some))
