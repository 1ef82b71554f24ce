-- A chain of draws: numbers that depend on the first state alone.
use Rattle.std.specs.Prelude.{ℕ, zero, suc, ◌≤◌, ◌+◌, ◌*◌, ◌/◌, ◌%◌, ◌^◌, List, [], ◌∷◌, All}

-- the state that follows a state
unfoldable pub next : ℕ → ℕ
next z = (z * 6364136223846793005 + 1442695040888963407) % 2 ^ 64

-- a draw below n from a state: the state that follows gives the number
abbrev pub draw_below : ℕ → ℕ → ℕ
draw_below n z = next z / 2 ^ 33 % n

-- so many items one after the other, each of them given by a state and leading on to another
abbrev pub series : {A : Type 0} → (ℕ → A) → (ℕ → ℕ) → ℕ → ℕ → List A
series item past zero z = []
series item past (suc count) z = item z ∷ series item past count (past z)

-- the state after so many items
abbrev pub after : (ℕ → ℕ) → ℕ → ℕ → ℕ
after past zero z = z
after past (suc count) z = after past count (past z)

-- so many draws below n, 1 added to each
abbrev pub positive_draws : ℕ → ℕ → ℕ → List ℕ
positive_draws n count z = series (λ y. 1 + draw_below n y) next count z

-- numbers of at most `most`
pub record AreAtMost (most : ℕ) (numbers : List ℕ) : Type 0 where
  pub each : All (λ n. n ≤ most) numbers
