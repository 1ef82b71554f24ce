-- The places of the board's words are apart, and within the board.
use Rattle.std.proofs.Common.{ℕ, suc, ◌+◌, ◌*◌, ◌<◌, ◌≤◌, ◌≡◌, arith, mul-le-mul_right, suc-mul, lt_of_not-le}
use mathlib.Core.Logic.{dite}
use native.Mathlib.Decide.{dec_le}
use Rattle.clock_words.specs.Places.{area_place, clock_place, word_count}
use Rattle.clock_words.specs.declared.view.Shape.{Shape}

-- the areas of all slots lie below 2 ^ 28
pub area_fits : (slot area : ℕ) → slot ≤ 64 → area ≤ 4194304 → slot * area ≤ 268435456
area_fits slot area few small =
    let a : slot * area ≤ 64 * area = mul-le-mul_right area few in omega arith

further : (i j n : ℕ) → i < j → i * n + n ≤ j * n
further i j n lt = let a : suc i * n ≤ j * n = mul-le-mul_right n lt in omega (arith, suc-mul i n)

-- a place of an area tells its slot, and the place within the area
pub same_slot : (shape : Shape) (i k j l : ℕ) → k < shape.area → l < shape.area
    → area_place shape i k ≡ area_place shape j l → i ≡ j
same_slot shape i k j l lk ll e = dite (dec_le i j)
    (λ le. dite (dec_le j i) (λ ge. omega arith)
    (λ gt. let a = further i j shape.area (lt_of_not-le gt) in absurd (omega arith)))
    (λ gt. let a = further j i shape.area (lt_of_not-le gt) in absurd (omega arith))

pub same_place : (shape : Shape) (i k l : ℕ) → area_place shape i k ≡ area_place shape i l → k ≡ l
same_place shape i k l e = omega arith

pub clock_within : (shape : Shape) (slot : ℕ) → slot < shape.slots
    → clock_place slot < word_count shape
clock_within shape slot lt = omega arith

pub area_within : (shape : Shape) (slot k : ℕ) → slot < shape.slots → k < shape.area
    → area_place shape slot k < word_count shape
area_within shape slot k lt in_area = let a = further slot shape.slots shape.area lt in omega arith

pub clock_before_area : (shape : Shape) (slot other k : ℕ) → slot < shape.slots
    → clock_place slot < area_place shape other k
clock_before_area shape slot other k lt = omega arith
