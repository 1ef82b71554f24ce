-- Multipliers that climb, row by row and round by round, by the worth of the whole list.
use Rattle.std.specs.Prelude.{ℕ, zero, suc, ◌+◌, ◌-◌, ◌/◌, min, Bool, ◌==◌, if◌then◌else◌, List, [], ◌∷◌, length, slice_index, slice_set, ℤ, int_lt}
use Rattle.std.specs.Str.{bytes_eq}
use Rattle.safe_bound.specs.declared.limits.TheConstants.{MAX_MULTIPLIER}

-- a climb between two rounds: its multipliers, its step size, and how many rounds it has had
pub record Climb : Type 0 where
  pub mults : List ℕ
  pub step_size : ℕ
  pub rounds : ℕ

-- the second of two where it is worth more, else the first
abbrev pub better : (ℕ → ℤ) → ℕ → ℕ → ℕ
better worth y z = if int_lt (worth y) (worth z) then z else y

-- the first of those of greatest worth among `best` and the others, which follow in order
abbrev pub first_greatest : (ℕ → ℤ) → ℕ → List ℕ → ℕ
first_greatest worth best [] = best
first_greatest worth best (y ∷ ys) = first_greatest worth (better worth best y) ys

-- what a multiplier y can change to: up by the step size to at most the greatest multiplier, down by it to at least 0,
-- and 0
abbrev pub changes : ℕ → ℕ → List ℕ
changes size y = min (y + size) MAX_MULTIPLIER ∷ (y - size) ∷ 0 ∷ []

-- the candidates of a row: its multiplier y, and then what that can change to
abbrev pub candidates : ℕ → ℕ → List ℕ
candidates size y = y ∷ changes size y

-- the worth of the multipliers with that of row i changed to y
abbrev pub trial : (List ℕ → ℤ) → List ℕ → ℕ → ℕ → ℤ
trial worth ys i y = worth (slice_set ys i y)

-- the multiplier that row i takes: the first of greatest worth among its own and what it can change to
abbrev pub next_multiplier : (List ℕ → ℤ) → ℕ → List ℕ → ℕ → ℕ
next_multiplier worth size ys i =
    first_greatest (trial worth ys i) (slice_index ys i) (changes size (slice_index ys i))

-- the multipliers after row i has taken its own
abbrev pub after_row : (List ℕ → ℤ) → ℕ → List ℕ → ℕ → List ℕ
after_row worth size ys i = slice_set ys i (next_multiplier worth size ys i)

-- the multipliers after the first n rows have taken theirs in order
unfoldable pub after_rows : (List ℕ → ℤ) → ℕ → List ℕ → ℕ → List ℕ
after_rows worth size ys zero = ys
after_rows worth size ys (suc n) = after_row worth size (after_rows worth size ys n) n

-- whether two lists of multipliers are the same, so that no row took another one
abbrev pub is_same : List ℕ → List ℕ → Bool
is_same = bytes_eq

-- a climb after one more round: each row has taken its multiplier, and where none changed the step size is halved
unfoldable pub after_round : (List ℕ → ℤ) → Climb → Climb
after_round worth c =
    let next = after_rows worth c.step_size c.mults (length c.mults) in
    record {
      mults = next;
      step_size = if is_same c.mults next then c.step_size / 2 else c.step_size;
      rounds = c.rounds + 1;
    }

-- a climb after up to n more rounds: it ends where its step size is 0
unfoldable pub after_rounds : (List ℕ → ℤ) → ℕ → Climb → Climb
after_rounds worth zero c = c
after_rounds worth (suc n) c = if c.step_size == 0 then c
    else after_rounds worth n (after_round worth c)
