use Rattle.std.proofs.Common.{◌≡◌, ◌∙◌, ℕ, ◌+◌, ◌*◌, ◌^◌, ◌<◌, ◌≤◌, Bool, true, false, int_le, List, [], ◌∷◌, length, get_or, take, ℤ, pos, ◌+ℤ◌, ◌-ℤ◌, ◌*ℤ◌, ◌≤ℤ◌, ◌<ℤ◌, unsigned_abs, sum_by, FitsSigned, w64, to_z, of_z, refl, sym, ap, subst, arith}
use Rattle.std.specs.Int.{w128, int_max}
use Rattle.std.proofs.lemmas.Int.{ints, clamps, to_z-of_z, unsigned_abs-mul}
use Rattle.std.proofs.lemmas.List.{take_more, take_all}
use Rattle.std.proofs.lemmas.List.Sums.{sum_by-append, sum_by-cons, sum_by-take-le}
use Rattle.std.proofs.lemmas.Nat.{mul-le}
use Rattle.ip_core.specs.Numbers.{int_at}
use Rattle.ip_core.specs.declared.row.Term.{Term}
use Rattle.safe_bound.specs.Premises.{AreWithin}
use Rattle.safe_bound.proofs.Lowering.{exact_less}
use Rattle.safe_bound.proofs.Sizes.{small_fits, fits_narrow, unsigned_abs-sub_le}
use Rattle.dual_ascent.specs.Ends.{loss, term_loss, turned_size, turns}
use Rattle.dual_ascent.proofs.EndMoves.{turned_size-turns, turned_size-stays}

product_small : (by coef : ℤ) → unsigned_abs by ≤ 2 ^ 40 → FitsSigned w64 coef → unsigned_abs (by *ℤ coef) ≤ 2 ^ 103
product_small by coef small fits = rw unsigned_abs-mul (omega (arith, mul-le (unsigned_abs by) (unsigned_abs coef) (2 ^ 40) (2 ^ 63) small (fits_narrow coef fits)))

-- a number less a product with a number of 64 bits
pub fallen_small : (a by coef : ℤ) → unsigned_abs by ≤ 2 ^ 40 → FitsSigned w64 coef → unsigned_abs a ≤ 2 ^ 123 → unsigned_abs (a -ℤ (by *ℤ coef)) ≤ 2 ^ 124
fallen_small a by coef small fits room = omega (arith, unsigned_abs-sub_le a (by *ℤ coef) (2 ^ 123) (2 ^ 103) room (product_small by coef small fits))

-- as 128 bits hold it
pub fallen_is : (a by coef first second : ℤ) → first ≡ to_z w64 (of_z w64 by) → second ≡ to_z w64 (of_z w64 coef) → FitsSigned w64 by → FitsSigned w64 coef → unsigned_abs by ≤ 2 ^ 40 → unsigned_abs a ≤ 2 ^ 123 → to_z w128 (of_z w128 (to_z w128 (of_z w128 a) -ℤ to_z w128 (of_z w128 (to_z w128 (of_z w128 first) *ℤ to_z w128 (of_z w128 second))))) ≡ a -ℤ (by *ℤ coef)
fallen_is a by coef first second is_by is_coef fits_by fits_coef small room =
    let same_by : first ≡ by = is_by ∙ to_z-of_z w64 by fits_by in
    let same_coef : second ≡ coef = is_coef ∙ to_z-of_z w64 coef fits_coef in
    let exact = exact_less a by coef (small_fits a (2 ^ 123) room (omega arith)) (small_fits by (2 ^ 40) small (omega arith)) (small_fits coef (2 ^ 63) (fits_narrow coef fits_coef) (omega arith)) (small_fits (by *ℤ coef) (2 ^ 103) (product_small by coef small fits_coef) (omega arith)) in
    rw (same_by, same_coef, exact) (to_z-of_z w128 (a -ℤ (by *ℤ coef)) (small_fits (a -ℤ (by *ℤ coef)) (2 ^ 124) (fallen_small a by coef small fits_coef room) (omega arith)))

module _ (costs : ℕ → ℤ) (widths : ℕ → ℕ) (by : ℤ) (terms : List Term) (i : ℕ) (d : Term) (within : i < length terms) where
  -- the loss of one more term
  pub loss_more : loss costs widths by (take (i + 1) terms) ≡ loss costs widths by (take i terms) + term_loss costs widths by (get_or terms i d)
  loss_more =
      let pushed = ap (loss costs widths by) (take_more terms i d within) ∙ sum_by-append (term_loss costs widths by) (take i terms) (get_or terms i d ∷ []) in
      omega (arith, pushed, sum_by-cons (term_loss costs widths by) (get_or terms i d) [])

  -- is no more than the loss of all
  pub term_loss-le : term_loss costs widths by (get_or terms i d) ≤ loss costs widths by terms
  term_loss-le = omega (arith, loss_more, sum_by-take-le (term_loss costs widths by) terms (i + 1))

  -- where the cost of its column turns it is the size of the new cost times the width
  pub turned_loss : (new : ℤ) → new ≡ costs (get_or terms i d).col -ℤ (by *ℤ (get_or terms i d).coef) → turns (costs (get_or terms i d).col) new ≡ true → unsigned_abs new * widths (get_or terms i d).col ≡ term_loss costs widths by (get_or terms i d)
  turned_loss new same turned =
      let size = turned_size-turns (costs (get_or terms i d).col) new turned in
      rw (← size, same) refl

  -- and where it doesn't there is none
  pub stayed_loss : (new : ℤ) → new ≡ costs (get_or terms i d).col -ℤ (by *ℤ (get_or terms i d).coef) → turns (costs (get_or terms i d).col) new ≡ false → loss costs widths by (take (i + 1) terms) ≡ loss costs widths by (take i terms)
  stayed_loss new same turned =
      let size : turned_size (costs (get_or terms i d).col) (costs (get_or terms i d).col -ℤ (by *ℤ (get_or terms i d).coef)) ≡ 0 = rw (← same) (turned_size-stays (costs (get_or terms i d).col) new turned) in
      let none : term_loss costs widths by (get_or terms i d) ≡ 0 = rw size (omega arith) in
      omega (arith, loss_more, none)

-- what is left of a gain when the loss is whole
pub gain_whole : (floor left whole : ℤ) → floor <ℤ left → left ≡ whole → left ≡ int_max floor whole
gain_whole floor left whole above same = omega (arith, ints, clamps)

-- and when it is no more than the floor before that
pub gain_under : (floor first left : ℤ) (so_far all : ℕ) → left ≡ first -ℤ pos so_far → left ≤ℤ floor → so_far ≤ all → floor ≡ int_max floor (first -ℤ pos all)
gain_under floor first left so_far all is under more = omega (arith, ints, clamps)

-- what a function was given in numbers of 64 and 128 bits
pub fallen_exact : (result a by coef : ℤ) → FitsSigned w128 a → FitsSigned w64 by → FitsSigned w64 coef → result ≡ to_z w128 (of_z w128 a) -ℤ (to_z w64 (of_z w64 by) *ℤ to_z w64 (of_z w64 coef)) → result ≡ a -ℤ (by *ℤ coef)
fallen_exact result a by coef first second third same = rw (← to_z-of_z w128 a first, ← to_z-of_z w64 by second, ← to_z-of_z w64 coef third) same

pub turns_exact : (old new : ℤ) (result : Bool) → FitsSigned w128 old → FitsSigned w128 new → result ≡ turns (to_z w128 (of_z w128 old)) (to_z w128 (of_z w128 new)) → result ≡ turns old new
turns_exact old new result first second same = rw (to_z-of_z w128 old first, to_z-of_z w128 new second) at same

pub times_exact : (new part : ℤ) (width : ℕ) → FitsSigned w128 new → part ≡ pos (unsigned_abs (to_z w128 (of_z w128 new)) * width) → part ≡ pos (unsigned_abs new * width)
times_exact new part width fits same = rw (to_z-of_z w128 new fits) at same

-- what is left after a part fits, and is held exactly
pub rest_fits : (left part next : ℤ) → FitsSigned w128 part → left -ℤ part ≡ next → unsigned_abs next ≤ 2 ^ 126 → FitsSigned w128 (left -ℤ to_z w128 (of_z w128 part))
rest_fits left part next fits same small = rw (to_z-of_z w128 part fits, same) (small_fits next (2 ^ 126) small (omega arith))

pub rest_is : (left part next : ℤ) → FitsSigned w128 part → left -ℤ part ≡ next → unsigned_abs next ≤ 2 ^ 126 → to_z w128 (of_z w128 (left -ℤ to_z w128 (of_z w128 part))) ≡ next
rest_is left part next fits same small = rw (to_z-of_z w128 part fits, same) (to_z-of_z w128 next (small_fits next (2 ^ 126) small (omega arith)))

rest_joined : (left part first : ℤ) (so_far term next : ℕ) → left ≡ first -ℤ pos so_far → part ≡ pos term → next ≡ so_far + term → left -ℤ part ≡ first -ℤ pos next
rest_joined left part first so_far term next a b c = omega (arith, ints)

size_left : (first : ℤ) (so_far all : ℕ) → unsigned_abs first ≤ 2 ^ 92 → so_far ≤ all → all ≤ 2 ^ 125 → unsigned_abs (first -ℤ pos so_far) ≤ 2 ^ 126
size_left first so_far all small le few = omega (arith, ints)

module _ (costs : ℕ → ℤ) (widths : ℕ → ℕ) (by lack : ℤ) (terms : List Term) where
  -- what is left of the gain after the first n terms
  abbrev pub left_at : ℕ → ℤ
  left_at n = (by *ℤ lack) -ℤ pos (loss costs widths by (take n terms))

  pub left_small : (n : ℕ) → unsigned_abs by ≤ 2 ^ 40 → unsigned_abs lack ≤ 2 ^ 52 → loss costs widths by terms ≤ 2 ^ 125 → unsigned_abs ((by *ℤ lack) -ℤ pos (loss costs widths by (take n terms))) ≤ 2 ^ 126
  left_small n small few loss_few =
      let moved : unsigned_abs (by *ℤ lack) ≤ 2 ^ 92 = rw unsigned_abs-mul (omega (arith, mul-le (unsigned_abs by) (unsigned_abs lack) (2 ^ 40) (2 ^ 52) small few)) in
      size_left (by *ℤ lack) (loss costs widths by (take n terms)) (loss costs widths by terms) moved (sum_by-take-le (term_loss costs widths by) terms n) loss_few

  pub left_more : (i : ℕ) (d : Term) (left new part : ℤ) → i < length terms → left ≡ (by *ℤ lack) -ℤ pos (loss costs widths by (take i terms)) → new ≡ costs (get_or terms i d).col -ℤ (by *ℤ (get_or terms i d).coef) → turns (costs (get_or terms i d).col) new ≡ true → part ≡ pos (unsigned_abs new * widths (get_or terms i d).col) → left -ℤ part ≡ (by *ℤ lack) -ℤ pos (loss costs widths by (take (i + 1) terms))
  left_more i d left new part within so_far same turned is_part =
      rest_joined left part (by *ℤ lack) (loss costs widths by (take i terms)) (term_loss costs widths by (get_or terms i d)) (loss costs widths by (take (i + 1) terms)) so_far (is_part ∙ ap pos (turned_loss costs widths by terms i d within new same turned)) (loss_more costs widths by terms i d within)

-- tests of numbers of 128 bits
pub test_under : (a b : ℤ) → int_le a b ≡ true → a ≤ℤ b
test_under a b e = grind (arith, ints)

pub test_over : (a b : ℤ) → int_le a b ≡ false → b <ℤ a
test_over a b e = grind (arith, ints)

-- one step of the gain in exact numbers: the new cost of a term's column, and whether it turned
pub record IsStep (costs : List ℤ) (by : ℤ) (t : Term) (new : ℤ) (turned : Bool) : Type 0 where
  pub new_is : new ≡ int_at costs t.col -ℤ (by *ℤ t.coef)
  pub turned_is : turned ≡ turns (int_at costs t.col) new
  pub fits : FitsSigned w128 new
  pub small : unsigned_abs new ≤ 2 ^ 124

pub step_is : (costs : List ℤ) (by : ℤ) (t : Term) (new : ℤ) (turned : Bool) → t.col < length costs → AreWithin (length costs) (2 ^ 122) costs → unsigned_abs by ≤ 2 ^ 40 → FitsSigned w64 by → FitsSigned w64 t.coef → FitsSigned w128 new → new ≡ to_z w128 (of_z w128 (int_at costs t.col)) -ℤ (to_z w64 (of_z w64 by) *ℤ to_z w64 (of_z w64 t.coef)) → turned ≡ turns (to_z w128 (of_z w128 (int_at costs t.col))) (to_z w128 (of_z w128 new)) → IsStep costs by t new turned
step_is costs by t new turned known small by_small by_fits coef_fits fits is_new is_turned =
    let room : unsigned_abs (int_at costs t.col) ≤ 2 ^ 123 = omega (arith, small.each t.col known) in
    let old_fits : FitsSigned w128 (int_at costs t.col) = small_fits (int_at costs t.col) (2 ^ 123) room (omega arith) in
    let exact = fallen_exact new (int_at costs t.col) by t.coef old_fits by_fits coef_fits is_new in
    record {
      new_is = exact;
      turned_is = turns_exact (int_at costs t.col) new turned old_fits fits is_turned;
      fits = fits;
      small = rw exact (fallen_small (int_at costs t.col) by t.coef by_small coef_fits room);
    }

pub step_cost : (costs : List ℤ) (by : ℤ) (t : Term) (new : ℤ) (turned : Bool) → IsStep costs by t new turned → unsigned_abs (to_z w128 (of_z w128 new)) ≤ 2 ^ 126
step_cost costs by t new turned step = rw (to_z-of_z w128 new step.fits) (omega (arith, step.small))

pub step_product : (costs : List ℤ) (widths : List ℕ) (by : ℤ) (terms : List Term) (i : ℕ) (d : Term) (new : ℤ) (turned : Bool) → i < length terms → IsStep costs by (get_or terms i d) new turned → turned ≡ true → loss (int_at costs) (λ j. get_or widths j 0) by terms ≤ 2 ^ 125 → unsigned_abs (to_z w128 (of_z w128 new)) * get_or widths (get_or terms i d).col 0 ≤ 2 ^ 125
step_product costs widths by terms i d new turned within step turn few =
    let whole = turned_loss (int_at costs) (λ j. get_or widths j 0) by terms i d within new step.new_is (sym step.turned_is ∙ turn) in
    rw (to_z-of_z w128 new step.fits, whole) (omega (arith, term_loss-le (int_at costs) (λ j. get_or widths j 0) by terms i d within, few))

-- what is left after a term that turned its cost
pub step_left : (costs : List ℤ) (widths : List ℕ) (by lack : ℤ) (terms : List Term) (i : ℕ) (d : Term) (new part left : ℤ) (turned : Bool) → i < length terms → IsStep costs by (get_or terms i d) new turned → turned ≡ true → FitsSigned w64 by → FitsSigned w128 lack → part ≡ pos (unsigned_abs (to_z w128 (of_z w128 new)) * get_or widths (get_or terms i d).col 0) → left ≡ (to_z w64 (of_z w64 by) *ℤ to_z w128 (of_z w128 lack)) -ℤ pos (loss (int_at costs) (λ j. get_or widths j 0) (to_z w64 (of_z w64 by)) (take i terms)) → left -ℤ part ≡ (by *ℤ lack) -ℤ pos (loss (int_at costs) (λ j. get_or widths j 0) by (take (i + 1) terms))
step_left costs widths by lack terms i d new part left turned within step turn by_fits lack_fits is_part so_far =
    left_more (int_at costs) (λ j. get_or widths j 0) by lack terms i d left new part within (rw (to_z-of_z w64 by by_fits, to_z-of_z w128 lack lack_fits) at so_far) step.new_is (sym step.turned_is ∙ turn) (times_exact new part (get_or widths (get_or terms i d).col 0) step.fits is_part)

-- and after one that didn't
pub step_stays : (costs : List ℤ) (widths : List ℕ) (by lack : ℤ) (terms : List Term) (i : ℕ) (d : Term) (new left : ℤ) (turned : Bool) → i < length terms → IsStep costs by (get_or terms i d) new turned → turned ≡ false → FitsSigned w64 by → FitsSigned w128 lack → left ≡ (to_z w64 (of_z w64 by) *ℤ to_z w128 (of_z w128 lack)) -ℤ pos (loss (int_at costs) (λ j. get_or widths j 0) (to_z w64 (of_z w64 by)) (take i terms)) → left ≡ (by *ℤ lack) -ℤ pos (loss (int_at costs) (λ j. get_or widths j 0) by (take (i + 1) terms))
step_stays costs widths by lack terms i d new left turned within step turn by_fits lack_fits so_far =
    let still = stayed_loss (int_at costs) (λ j. get_or widths j 0) by terms i d within new step.new_is (sym step.turned_is ∙ turn) in
    rw still (rw (to_z-of_z w64 by by_fits, to_z-of_z w128 lack lack_fits) at so_far)

-- in the form in which a loop holds it
pub left_form : (costs : List ℤ) (widths : List ℕ) (by lack : ℤ) (terms : List Term) (left : ℤ) → FitsSigned w64 by → FitsSigned w128 lack → left ≡ (by *ℤ lack) -ℤ pos (loss (int_at costs) (λ j. get_or widths j 0) by terms) → left ≡ (to_z w64 (of_z w64 by) *ℤ to_z w128 (of_z w128 lack)) -ℤ pos (loss (int_at costs) (λ j. get_or widths j 0) (to_z w64 (of_z w64 by)) terms)
left_form costs widths by lack terms left by_fits lack_fits same = rw (to_z-of_z w64 by by_fits, to_z-of_z w128 lack lack_fits) same

-- a gain at other names of the same lists and numbers
pub gain_exact : (result floor : ℤ) (costs costs' : List ℤ) (widths widths' : List ℕ) (terms terms' : List Term) (by by' lack lack' : ℤ) → costs ≡ costs' → widths ≡ widths' → terms ≡ terms' → by ≡ by' → lack ≡ lack' → result ≡ int_max floor ((by *ℤ lack) -ℤ pos (loss (int_at costs) (λ j. get_or widths j 0) by terms)) → result ≡ int_max floor ((by' *ℤ lack') -ℤ pos (loss (int_at costs') (λ j. get_or widths' j 0) by' terms'))
gain_exact result floor costs costs' widths widths' terms terms' by by' lack lack' first second third fourth fifth held =
    subst (λ z. result ≡ int_max floor ((by' *ℤ z) -ℤ pos (loss (int_at costs') (λ j. get_or widths' j 0) by' terms'))) fifth
    (subst (λ z. result ≡ int_max floor ((z *ℤ lack) -ℤ pos (loss (int_at costs') (λ j. get_or widths' j 0) z terms'))) fourth
    (subst (λ ts. result ≡ int_max floor ((by *ℤ lack) -ℤ pos (loss (int_at costs') (λ j. get_or widths' j 0) by ts))) third
    (subst (λ ws. result ≡ int_max floor ((by *ℤ lack) -ℤ pos (loss (int_at costs') (λ j. get_or ws j 0) by terms))) second
    (subst (λ xs. result ≡ int_max floor ((by *ℤ lack) -ℤ pos (loss (int_at xs) (λ j. get_or widths j 0) by terms))) first held))))
