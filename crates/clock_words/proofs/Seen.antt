-- What a seat has seen, as clock words and as stamps.
use Rattle.std.proofs.Common.{ℕ, zero, suc, ◌+◌, ◌<◌, ◌≤◌, ◌≡◌, max, List, length, set, replicate, slice_index, refl, sym, subst, arith}
use Rattle.std.proofs.lemmas.List.{get_or-set_same, get_or-set_other, set_past}
use Rattle.std.proofs.Math.Decide.{dec_lt}
use mathlib.Core.Logic.{dite}
use native.Mathlib.Decide.{ℕ_discrete}
use Rattle.clock_words.specs.Clocks.{due_count, stamp_of}
use Rattle.clock_words.specs.Stories.{Lists, due, list_of}
use Rattle.clock_words.proofs.DueWords.{none_due_at_first}

-- a row after the greater number was taken at a place is below nowhere before it
pub below_more : (xs ys : List ℕ) (i m : ℕ) → i < length xs
    → m ≡ max (slice_index xs i) (slice_index ys i)
    → ((k : ℕ) → k < i → slice_index ys k ≤ slice_index xs k)
    → (k : ℕ) → k < i + 1 → slice_index ys k ≤ slice_index (set xs i m) k
below_more xs ys i m there is below k lt = dite (ℕ_discrete k i)
    (λ e. let P : ℕ → Type 0 = λ j. slice_index ys j ≤ slice_index (set xs i m) j in
    let a : slice_index (set xs i m) i ≡ m = get_or-set_same xs i m 0 there in
    subst P (sym e) (omega arith))
    (λ ne. let a : slice_index (set xs i m) k ≡ slice_index xs k =
    get_or-set_other xs i k m 0 ne in
    let b = below k (omega arith) in omega arith)

-- each item of a row of zeros
pub zeros_at : (count slot : ℕ) → slice_index (replicate count 0) slot ≡ 0
zeros_at zero slot = refl
zeros_at (suc count) zero = refl
zeros_at (suc count) (suc slot) = zeros_at count slot

pub zeros_count : (story : Lists) (count slot : ℕ)
    → due_count (slice_index (replicate count 0) slot) ≡ due (list_of story slot)
    (stamp_of (slice_index (replicate count 0) slot))
zeros_count story count slot = let P : ℕ → Type 0 = λ c. due_count c ≡ due (list_of story slot)
    (stamp_of c) in
    subst P (sym (zeros_at count slot)) (sym (none_due_at_first (list_of story slot)))

pub counts_after_look : (story : Lists) (words : List ℕ) (slot word : ℕ)
    → ((j : ℕ) → due_count (slice_index words j) ≡ due (list_of story j)
    (stamp_of (slice_index words j)))
    → due_count word ≡ due (list_of story slot) (stamp_of word)
    → (j : ℕ) → due_count (slice_index (set words slot word) j) ≡ due (list_of story j)
    (stamp_of (slice_index (set words slot word) j))
counts_after_look story words slot word counts found j =
    let P : ℕ → ℕ → Type 0 = λ i c. due_count c ≡ due (list_of story i) (stamp_of c) in
    dite (ℕ_discrete j slot)
    (λ e. dite (dec_lt slot (length words))
    (λ here. subst (λ (i : ℕ). P i (slice_index (set words slot word) i)) (sym e)
    (subst (λ (c : ℕ). P slot c) (sym (get_or-set_same words slot word 0 here)) found))
    (λ past. subst (λ (l : List ℕ). P j (slice_index l j))
    (sym (set_past words slot word (omega arith))) (counts j)))
    (λ ne. subst (λ (c : ℕ). P j c) (sym (get_or-set_other words slot j word 0 ne)) (counts j))
