-- What a writer holds after a write that failed.
use Rattle.std.specs.Prelude.{ℕ, ◌≤◌, List, length, take, Option}
use Rattle.std.specs.Io.KnownBytes.{Appends}

-- what the writer holds grew by a front of these bytes
pub record AppendsFront (old new : Option (List ℕ)) (bytes : List ℕ) : Type 0 where
  pub count : ℕ
  pub within : count ≤ length bytes
  pub grows : Appends old new (take count bytes)
