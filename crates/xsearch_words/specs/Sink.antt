-- What a sink and its answers tell.
use Rattle.std.specs.Prelude.{ℕ, ◌≡◌, ◌≤◌, if◌then◌else◌, List, ◌++◌, length, take, Option, Result}
use Rattle.std.specs.Option.{option_map}
use Rattle.xsearch_words.specs.Faults.{next_count, write_failed}
use Rattle.xsearch_words.specs.declared.error.WriteError.{WriteError}

-- what a sink tells: the bytes gone out, where it tells them, and its counts of faults and of calls
pub record SinkState : Type 0 where
  pub out : Option (List ℕ)
  pub faults : ℕ
  pub calls : ℕ

-- where the bytes gone out are told, these were appended; where they weren't, they aren't told now
abbrev pub GrowsBy : Option (List ℕ) → Option (List ℕ) → List ℕ → Type 0
GrowsBy old new bytes = new ≡ option_map (λ out. out ++ bytes) old

-- the same of a front of these bytes
pub record GrowsByFront (old new : Option (List ℕ)) (bytes : List ℕ) : Type 0 where
  pub count : ℕ
  pub within : count ≤ length bytes
  pub front : GrowsBy old new (take count bytes)

-- the count of faults after a call, which counts nothing but a failure
abbrev pub count_after_write : {A : Type 0} → ℕ → Result A WriteError → ℕ
count_after_write count result = if write_failed result then next_count count else count
