-- Clock words as numbers.
use Rattle.std.proofs.Common.{ℕ, ◌-◌, ◌/◌, ◌^◌, ◌<◌, ◌≤◌, ◌≡◌, Bool, true, false, cond, nat_lt, inl, inr, refl, sym, subst, eq-eqb, ne_eqb, List, arith}
use Rattle.std.proofs.lemmas.Bool.Decides.{nat_tests}
use mathlib.Core.Logic.{dite}
use native.Mathlib.Decide.{ℕ_discrete}
use Rattle.clock_words.specs.Clocks.{IsStamp, clock_word, due_count, raised_word, stamp_of}
use Rattle.clock_words.specs.Rule.{IsRaise, later, same}
use Rattle.clock_words.specs.Stories.{due}
use Rattle.clock_words.specs.declared.story.StampedWord.{StampedWord}
use Rattle.clock_words.specs.declared.view.View.{View}

-- a later clock word has no smaller stamp
pub stamps_rise : (m n : ℕ) → m ≤ n → stamp_of m ≤ stamp_of n
stamps_rise m n le = grind (arith, nat_tests)

-- each clock word has a stamp that a clock word can hold
is_one_of : (b : Bool) (low : ℕ) → (b ≡ true → low < 2 ^ 41 - 1) → IsStamp (cond b low (2 ^ 62))
is_one_of true low below = inl (below refl)
is_one_of false low below = inr refl

pub stamp_is : (word : ℕ) → IsStamp (stamp_of word)
stamp_is word = is_one_of (nat_lt (word / 2 ^ 23) (2 ^ 41 - 1)) (word / 2 ^ 23)
    (λ e. grind (arith, nat_tests))

pub stamp_again : (stamp count : ℕ) → IsStamp stamp → count < 2 ^ 23
    → stamp_of (clock_word stamp count) ≡ stamp
stamp_again stamp count (inl low) small = grind (arith, nat_tests)
stamp_again stamp count (inr last) small = grind (arith, nat_tests)

pub count_again : (stamp count : ℕ) → count < 2 ^ 23 → due_count (clock_word stamp count) ≡ count
count_again stamp count small = omega arith

-- a seat may raise its clock word to that of a stamp below which no more words are due than it has
-- put
pub raised_is : (list : List StampedWord) (v : View) (stamp : ℕ) → IsStamp stamp
    → stamp_of v.own ≤ stamp
    → due list stamp ≤ v.written → v.written < 2 ^ 23 → IsRaise list v
    (raised_word v.own v.written stamp)
raised_is list v stamp ok above enough small =
    let P : Bool → Type 0 = λ b. IsRaise list v (cond b v.own (clock_word stamp v.written)) in
    dite (ℕ_discrete stamp (stamp_of v.own))
    (λ e. subst P (sym (eq-eqb stamp (stamp_of v.own) e)) (same refl))
    (λ ne. let again = stamp_again stamp v.written ok small in
    let Q : ℕ → Type 0 = λ n. stamp_of v.own < n in let R : ℕ
    → Type 0 = λ n. due list n ≤ v.written in
    let more : stamp_of v.own < stamp = omega arith in
    subst P (sym (ne_eqb stamp (stamp_of v.own) ne))
    (later (subst Q (sym again) more) (count_again stamp v.written small)
    (subst R (sym again) enough)))

pub raised_stamp : (own written stamp : ℕ) → IsStamp stamp → written < 2 ^ 23
    → stamp_of (raised_word own written stamp) ≡ stamp
raised_stamp own written stamp ok small =
    let P : Bool → Type 0 = λ b. stamp_of (cond b own (clock_word stamp written)) ≡ stamp in
    dite (ℕ_discrete stamp (stamp_of own))
    (λ e. subst P (sym (eq-eqb stamp (stamp_of own) e)) (sym e))
    (λ ne. subst P (sym (ne_eqb stamp (stamp_of own) ne)) (stamp_again stamp written ok small))

-- a stamp above that of a clock word has a greater clock word
pub words_rise : (word stamp count : ℕ) → IsStamp stamp → stamp_of word < stamp
    → word ≤ clock_word stamp count
words_rise word stamp count (inl low) above = grind (arith, nat_tests)
words_rise word stamp count (inr last) above = grind (arith, nat_tests)
