use Rattle.std.specs.Prelude.{ℕ, ◌≡◌, List, ◌++◌, Result, Ok, Err}
use Rattle.ip_core.specs.declared.memory.OutOfMemory.{OutOfMemory}

-- `xs` are the first items of `ys`
pub record IsFront (xs ys : List ℕ) : Type 0 where
  pub rest : List ℕ
  pub whole : ys ≡ xs ++ rest

-- words were appended, or some of them where memory was short
abbrev pub HasAppended : Result (Unit {0}) OutOfMemory → List ℕ → List ℕ → List ℕ → Type 0
HasAppended (Ok done) added old new = new ≡ old ++ added
HasAppended (Err e) added old new = IsFront old new
