-- The calls of a shelf or a sink in memory.
use Rattle.std.specs.Prelude.{ℕ, ◌==◌, Bool, List}
use Rattle.std.specs.List.{list_any}
use Rattle.xsearch_words.specs.Faults.{next_count}
use Rattle.xsearch_words.specs.declared.calls.Calls.{Calls}

-- no call was made yet, and those of these numbers are to fail after this many bytes
abbrev pub no_calls : List ℕ → ℕ → Calls
no_calls fails first = record { fails = fails; first = first; made = 0 }

-- the calls after one more
abbrev pub after_call : Calls → Calls
after_call calls = record calls { made = next_count calls.made }

-- whether the next call is to fail: its number is one of those that fail
abbrev pub next_fails : Calls → Bool
next_fails calls = list_any (λ number. number == next_count calls.made) calls.fails
