-- How many words of a slot are due.
use Rattle.std.proofs.Common.{ℕ, zero, suc, ◌<◌, ◌≤◌, ◌≡◌, true, nat_lt, List, [], ◌∷◌, length, refl, arith}
use Rattle.std.proofs.lemmas.Bool.{lt-ltb}
use Rattle.std.proofs.lemmas.List.{length-map}
use Rattle.std.proofs.lemmas.Bool.Decides.{nat_tests}
use Rattle.clock_words.specs.Stories.{AreWithin, Lists, due, list_of, stamp_at, words_of}
use Rattle.clock_words.specs.declared.story.StampedWord.{StampedWord}

-- more words are due below a greater stamp
pub due_words_rise : (list : List StampedWord) (s t : ℕ) → s ≤ t → due list s ≤ due list t
due_words_rise [] s t le = omega arith
due_words_rise (w ∷ ws) s t le = let more = due_words_rise ws s t le in grind (arith, nat_tests)

-- the words in front that have smaller stamps are due
pub due_words_least : (list : List StampedWord) (n s : ℕ) → n ≤ length list
    → ((k : ℕ) → k < n → stamp_at list k < s) → n ≤ due list s
due_words_least list zero s le below = omega arith
due_words_least [] (suc n) s le below = absurd (omega arith)
due_words_least (w ∷ ws) (suc n) s le below =
    let first : w.stamp < s = below 0 (omega arith) in
    let rest : n ≤ due ws s = due_words_least ws n s (omega arith)
    (λ k lt. below (suc k) (omega arith)) in
    let test : nat_lt w.stamp s ≡ true = lt-ltb w.stamp s first in
    rw test (omega arith)

pub due_words_most : (list : List StampedWord) (s : ℕ) → due list s ≤ length list
due_words_most [] s = omega arith
due_words_most (w ∷ ws) s = let rest = due_words_most ws s in grind (arith, nat_tests)

-- nothing is due below 0
pub none_due_at_first : (list : List StampedWord) → due list 0 ≡ 0
none_due_at_first [] = refl
none_due_at_first (w ∷ ws) = grind (arith, nat_tests)

-- no more words are due than an area takes
pub due_within : (area slot stamp : ℕ) (lists : Lists) → AreWithin area lists
    → due (list_of lists slot) stamp ≤ area
due_within area slot stamp lists within =
    let most = due_words_most (list_of lists slot) stamp in let short = within.each slot in
    omega arith

-- a due word is one of the list
pub due_short : (list : List StampedWord) (stamp n k : ℕ) → n ≤ due list stamp → k < n
    → k < length (words_of list)
due_short list stamp n k le lt =
    omega (arith, due_words_most list stamp, length-map list (λ (w : StampedWord). w.word))
