-- Switches among the words.
use Rattle.std.specs.Prelude.{ℕ, Bool, true, false, bytes_eq, if◌then◌else◌, List, codes, Option, Some, None}

-- `yes` or `no`
abbrev pub switch : List ℕ → Option Bool
switch value = if bytes_eq value (codes "yes") then Some true
    else if bytes_eq value (codes "no") then Some false else None

-- How an option's value sets a switch, or else this where the option isn't given. None where the
-- value is neither `yes` nor `no`.
abbrev pub switch_or : Bool → Option (List ℕ) → Option Bool
switch_or without None = Some without
switch_or without (Some value) = switch value
