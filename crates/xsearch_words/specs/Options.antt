-- What follows from an optional value.
use Rattle.std.specs.Prelude.{Option, Some, None}

-- what a value leads to, and nothing without one
abbrev pub when_some : {A B : Type 0} → Option A → (A → Option B) → Option B
when_some None next = None
when_some (Some a) next = next a
