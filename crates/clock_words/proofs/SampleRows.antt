-- Rows of the stories of the tests.
use Rattle.std.proofs.Common.{ℕ, zero, suc, ◌+◌, ◌-◌, ◌<◌, ◌≤◌, ◌≡◌, List, [], ◌∷◌, length, map, set, replicate, slice_index, take, drop, refl, sym, ap, ◌∙◌, subst, arith}
use Rattle.std.proofs.lemmas.Bool.Decides.{nat_tests}
use Rattle.clock_words.specs.Samples.{number_lists, numbers, run_list, run_lists}
use Rattle.clock_words.specs.Seats.{BoardView, IsSeat, SeatView, clock_seen, due_seen, new_seat, own_list, with_look}
use Rattle.clock_words.specs.Stories.{AreWithin, Lists, due, list_of, stamped_word}
use Rattle.clock_words.specs.declared.story.StampedWord.{StampedWord}
use Rattle.clock_words.proofs.DueWords.{due_words_most}

pub length_numbers : (from count : ℕ) → length (numbers from count) ≡ count
unfolding numbers
length_numbers from zero = refl
length_numbers from (suc count) = ap suc (length_numbers (from + 1) count)

-- the number at a place is the first one and as many more
pub next_number : (from n count : ℕ) → n < count
    → take 1 (drop n (numbers from count)) ≡ stamped_word (from + n) (from + n) ∷ []
unfolding numbers
next_number from n zero lt = absurd (omega arith)
next_number from zero (suc count) lt =
    let e : from ≡ from + 0 = omega arith in ap (λ (k : ℕ). stamped_word k k ∷ []) e
next_number from (suc n) (suc count) lt =
    let e : from + 1 + n ≡ from + suc n = omega arith in
    next_number (from + 1) n count (omega arith) ∙ ap (λ (k : ℕ). stamped_word k k ∷ []) e

-- no more numbers are due below a stamp than there are from the first one to it
pub due_numbers : (from count stamp : ℕ) → due (numbers from count) stamp ≤ stamp - from
unfolding numbers
due_numbers from zero stamp = omega arith
due_numbers from (suc count) stamp =
    let rest = due_numbers (from + 1) count stamp in grind (arith, nat_tests)

none_short : (area slot : ℕ) → length (list_of [] slot) ≤ area
none_short area slot = omega arith

-- the lists of the tests are within the areas of their boards
pub none_within : (area : ℕ) → AreWithin area []
none_within area = record { each = none_short area }

runs_short : (slot : ℕ) → length (list_of run_lists slot) ≤ 64
runs_short zero = omega arith
runs_short (suc zero) = omega arith
runs_short (suc (suc slot)) = omega arith

pub runs_within : AreWithin 64 run_lists
runs_within = record { each = runs_short }

numbers_short : (slot : ℕ) → length (list_of number_lists slot) ≤ 256
numbers_short zero = let e = length_numbers 0 200 in omega arith
numbers_short (suc zero) = omega arith
numbers_short (suc (suc slot)) = omega arith

pub numbers_within : AreWithin 256 number_lists
numbers_within = record { each = numbers_short }

-- two looks at slot 0 are counted
pub two_looks : (board : BoardView) (s s' s'' : SeatView) (a b : ℕ) → board.shape.slots ≡ 2
    → s ≡ new_seat board 1 → s' ≡ with_look 0 a s → s'' ≡ with_look 0 b s'
    → slice_index s''.looks 0 ≡ 2
two_looks board s s' s'' a b two e f g =
    let one_more : List ℕ → List ℕ = λ l. set l 0 (slice_index l 0 + 1) in
    let none : s.looks ≡ 0 ∷ 0 ∷ [] =
    ap (λ (z : SeatView). z.looks) e ∙ ap (λ (n : ℕ). replicate n 0) two in
    let one : s'.looks ≡ 1 ∷ 0 ∷ [] = ap (λ (z : SeatView). z.looks) f ∙ ap one_more none in
    let both : s''.looks ≡ 2 ∷ 0 ∷ [] = ap (λ (z : SeatView). z.looks) g ∙ ap one_more one in
    ap (λ (l : List ℕ). slice_index l 0) both

module _ (board : BoardView) (s : SeatView) (seat : IsSeat board s) (slot : s.slot ≡ 0) where
  own_list_is : (lists : Lists) → board.story ≡ lists → own_list s ≡ list_of lists 0
  own_list_is lists story =
      ap (λ (b : BoardView). list_of b.story s.slot) seat.same
      ∙ (ap (λ (l : Lists). list_of l s.slot) story ∙ ap (λ (j : ℕ). list_of lists j) slot)

  -- nothing is due of a story without words
  pub none_due : (stamp : ℕ) → board.story ≡ [] → due (own_list s) stamp ≡ 0
  none_due stamp story = ap (λ (l : List StampedWord). due l stamp) (own_list_is [] story)

  -- the first words of the run
  pub first_of_run : board.story ≡ run_lists → s.own ≡ 0 → s.written ≡ 0
      → take 4 (drop s.written (own_list s)) ≡ map (stamped_word s.own) (4 ∷ 1 ∷ 0 ∷ 0 ∷ [])
  first_of_run story own written =
      let P : List StampedWord → ℕ → ℕ → Type 0 = λ l w o. take 4 (drop w l)
      ≡ map (stamped_word o) (4 ∷ 1 ∷ 0 ∷ 0 ∷ []) in
      subst (λ (l : List StampedWord). P l s.written s.own) (sym (own_list_is run_lists story))
      (subst (λ (w : ℕ). P run_list w s.own) (sym written)
      (subst (λ (o : ℕ). P run_list 0 o) (sym own) refl))

  pub due_of_run : board.story ≡ run_lists → due (own_list s) 14 ≡ 4
  due_of_run story = ap (λ (l : List StampedWord). due l 14) (own_list_is run_lists story)

  -- the next number
  pub next_of_numbers : (turn : ℕ) → board.story ≡ number_lists → s.own ≡ turn → s.written ≡ turn
      → turn < 200 → take 1 (drop s.written (own_list s)) ≡ map (stamped_word s.own) (turn ∷ [])
  next_of_numbers turn story own written lt =
      let P : List StampedWord → ℕ → ℕ → Type 0 = λ l w o. take 1 (drop w l)
      ≡ map (stamped_word o) (turn ∷ []) in
      let e : 0 + turn ≡ turn = omega arith in
      let here : P (numbers 0 200) turn turn =
      next_number 0 turn 200 lt ∙ ap (λ (k : ℕ). stamped_word k k ∷ []) e in
      subst (λ (l : List StampedWord). P l s.written s.own) (sym (own_list_is number_lists story))
      (subst (λ (w : ℕ). P (numbers 0 200) w s.own) (sym written)
      (subst (λ (o : ℕ). P (numbers 0 200) turn o) (sym own) here))

  pub due_of_numbers : (stamp : ℕ) → board.story ≡ number_lists → due (own_list s) stamp ≤ stamp
  due_of_numbers stamp story =
      let e : due (own_list s) stamp ≡ due (numbers 0 200) stamp =
      ap (λ (l : List StampedWord). due l stamp) (own_list_is number_lists story) in
      omega (arith, due_numbers 0 200 stamp)

  pub most_of_numbers : (stamp : ℕ) → board.story ≡ number_lists → due (own_list s) stamp ≤ 200
  most_of_numbers stamp story =
      let e : due (own_list s) stamp ≡ due (numbers 0 200) stamp =
      ap (λ (l : List StampedWord). due l stamp) (own_list_is number_lists story) in
      omega (arith, due_words_most (numbers 0 200) stamp, length_numbers 0 200)

-- no more numbers are seen to be due than there are
pub most_seen : (board : BoardView) (s : SeatView) → IsSeat board s → board.story ≡ number_lists
    → due_seen s 0 ≤ 200
most_seen board s seat story =
    let lists : list_of s.board.story 0 ≡ numbers 0 200 =
    ap (λ (b : BoardView). list_of b.story 0) seat.same
    ∙ ap (λ (l : Lists). list_of l 0) story in
    let seen : due_seen s 0 ≡ due (numbers 0 200) (clock_seen s 0) =
    ap (λ (l : List StampedWord). due l (clock_seen s 0)) lists in
    omega (arith, due_words_most (numbers 0 200) (clock_seen s 0), length_numbers 0 200)
