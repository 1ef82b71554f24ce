-- Stories of the tests.
use Rattle.std.proofs.Common.{ℕ, zero, suc, ◌+◌, ◌≤◌, ◌≡◌, true, List, [], ◌∷◌, ◌++◌, map, refl, arith}
use Rattle.std.proofs.lemmas.Bool.{le-leb}
use Rattle.clock_words.specs.Stories.{AreRising, Lists, is_rising, list_of, stamped_word}
use Rattle.clock_words.specs.declared.story.StampedWord.{StampedWord}

-- the words of one run: a start at 0, and at 14 a point found, a node closed and the task's end
abbrev pub run_list : List StampedWord
run_list = map (stamped_word 0) (4 ∷ 1 ∷ 0 ∷ 0 ∷ [])
    ++ map (stamped_word 14) (5 ∷ 5 ∷ 14 ∷ 0 ∷ 0 ∷ 4 ∷ 8 ∷ 14 ∷ 0 ∷ 3 ∷ 4 ∷ 14 ∷ [])

abbrev pub run_lists : Lists
run_lists = run_list ∷ [] ∷ []

-- so many numbers from one on, each at the clock of its value
unfoldable pub numbers : ℕ → ℕ → List StampedWord
numbers from zero = []
numbers from (suc count) = stamped_word from from ∷ numbers (from + 1) count

abbrev pub number_lists : Lists
number_lists = numbers 0 200 ∷ [] ∷ []

pub none_rise : AreRising []
none_rise = record { each = λ slot. refl }

run_rises : (slot : ℕ) → is_rising 0 (list_of run_lists slot) ≡ true
run_rises zero = refl
run_rises (suc zero) = refl
run_rises (suc (suc slot)) = refl

pub runs_rise : AreRising run_lists
runs_rise = record { each = run_rises }

rising_from : (from count least : ℕ) → least ≤ from → is_rising least (numbers from count) ≡ true
unfolding numbers
rising_from from zero least le = refl
rising_from from (suc count) least le =
    rw (le-leb least from le) (rising_from (from + 1) count from (omega arith))

number_rises : (slot : ℕ) → is_rising 0 (list_of number_lists slot) ≡ true
number_rises zero = rising_from 0 200 0 (omega arith)
number_rises (suc zero) = refl
number_rises (suc (suc slot)) = refl

pub numbers_rise : AreRising number_lists
numbers_rise = record { each = number_rises }
