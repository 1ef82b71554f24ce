use Rattle.std.proofs.Common.{◌≡◌, ℕ, zero, suc, ◌+◌, ◌≤◌, Bool, true, false, ◌==◌, if◌then◌else◌, List, [], ◌∷◌, length, get_or, set, ℤ, ◌≤ℤ◌, int_lt, refl, ap, arith}
use Rattle.std.proofs.lemmas.Int.{ints}
use Rattle.std.proofs.lemmas.List.{set-get_or}
use Rattle.dual_ascent.specs.Climbs.{Climb}
use Rattle.dual_ascent.specs.Climbs.{better, first_greatest, changes, trial, after_row, after_rows, after_round, after_rounds}
use Rattle.dual_ascent.proofs.Rounds.{counted_round}
use Rattle.dual_ascent.specs.Laws.{NoRowLowers, NoRoundLowers, RoundsAreFew}

better_choice : (b : Bool) (worth : ℕ → ℤ) (y z : ℕ) → int_lt (worth y) (worth z) ≡ b → worth y ≤ℤ worth (if b then z else y)
better_choice true worth y z e = grind (arith, ints)
better_choice false worth y z e = omega (arith, ints)

-- the better of two is worth no less than the first
pub better-le : (worth : ℕ → ℤ) (y z : ℕ) → worth y ≤ℤ worth (better worth y z)
better-le worth y z = better_choice (int_lt (worth y) (worth z)) worth y z refl

int_le_trans : (a b c : ℤ) → a ≤ℤ b → b ≤ℤ c → a ≤ℤ c
int_le_trans a b c first second = omega (arith, ints)

-- the first of the greatest is worth no less than the one that comes before the others
pub first_greatest-le : (worth : ℕ → ℤ) (best : ℕ) (ys : List ℕ) → worth best ≤ℤ worth (first_greatest worth best ys)
first_greatest-le worth best [] = omega (arith, ints)
first_greatest-le worth best (y ∷ ys) = int_le_trans (worth best) (worth (better worth best y)) (worth (first_greatest worth (better worth best y) ys)) (better-le worth best y) (first_greatest-le worth (better worth best y) ys)

-- no row takes a multiplier that lowers the worth
pub no_row_lowers : NoRowLowers
no_row_lowers worth size ys i =
    let kept : worth (set ys i (get_or ys i 0)) ≡ worth ys = ap worth (set-get_or ys i 0) in
    rw (← kept) (first_greatest-le (trial worth ys i) (get_or ys i 0) (changes size (get_or ys i 0)))

-- the rows of a round lower nothing
pub rows-le : (worth : List ℕ → ℤ) (size : ℕ) (ys : List ℕ) (n : ℕ) → worth ys ≤ℤ worth (after_rows worth size ys n)
unfolding after_rows
rows-le worth size ys zero = omega (arith, ints)
rows-le worth size ys (suc n) = int_le_trans (worth ys) (worth (after_rows worth size ys n)) (worth (after_row worth size (after_rows worth size ys n) n)) (rows-le worth size ys n) (no_row_lowers worth size (after_rows worth size ys n) n)

round-le : (worth : List ℕ → ℤ) (c : Climb) → worth c.mults ≤ℤ worth (after_round worth c).mults
unfolding after_round
round-le worth c = rows-le worth c.step_size c.mults (length c.mults)

rounds_choice : (b : Bool) (worth : List ℕ → ℤ) (c d : Climb) → worth c.mults ≤ℤ worth d.mults → worth c.mults ≤ℤ worth (if b then c else d).mults
rounds_choice true worth c d le = omega (arith, ints)
rounds_choice false worth c d le = le

-- so no rounds lower it
pub no_round_lowers : NoRoundLowers
unfolding after_rounds
no_round_lowers worth zero c = omega (arith, ints)
no_round_lowers worth (suc n) c =
    rounds_choice (c.step_size == 0) worth c (after_rounds worth n (after_round worth c)) (int_le_trans (worth c.mults) (worth (after_round worth c).mults) (worth (after_rounds worth n (after_round worth c)).mults) (round-le worth c) (no_round_lowers worth n (after_round worth c)))

few_choice : (b : Bool) (c d : Climb) (n : ℕ) → d.rounds ≤ c.rounds + 1 + n → (if b then c else d).rounds ≤ c.rounds + suc n
few_choice true c d n le = omega arith
few_choice false c d n le = omega arith

-- a climb has at most one round for each that it may have
pub rounds_are_few : RoundsAreFew
unfolding after_rounds
rounds_are_few worth zero c = omega arith
rounds_are_few worth (suc n) c =
    few_choice (c.step_size == 0) c (after_rounds worth n (after_round worth c)) n (omega (arith, rounds_are_few worth n (after_round worth c), counted_round worth c))
