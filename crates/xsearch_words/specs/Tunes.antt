-- How a search is run, and what the words set of it.
use Rattle.std.specs.Prelude.{ℕ, ◌≤◌, ◌*◌, ◌/◌, ◌^◌, Bool, true, nat_le, if◌then◌else◌, List, Option, Some, None}
use Rattle.xsearch_words.specs.Forms.{value}
use Rattle.xsearch_words.specs.Numbers.{number_or}
use Rattle.xsearch_words.specs.Options.{when_some}
use Rattle.xsearch_words.specs.Switches.{switch_or}
use Rattle.xsearch_words.specs.declared.command.Key.TheVariants.{Tasks, Work, Store, Cuts, Heuristics}
use Rattle.xsearch_words.specs.declared.tune.Tune.{Tune}

-- the ranges of how a search is run
pub record IsTune (tune : Tune) : Type 0 where
  pub some_slots : 1 ≤ tune.tasks
  pub few_slots : tune.tasks ≤ 64
  pub little_work : tune.work ≤ 10 ^ 12
  pub some_store : 64 ≤ tune.store
  pub small_store : tune.tasks * tune.store ≤ 2 ^ 22

-- the store of each task where the words give none: the whole store in equal parts, rounded down
abbrev pub default_store : ℕ → ℕ
default_store tasks = 2 ^ 22 / tasks

-- so many tasks with this work and store for each, with cuts and dives or without, where their
-- stores together are at most 2^22
abbrev pub tune_of : ℕ → ℕ → ℕ → Bool → Bool → Option Tune
tune_of tasks work store cuts heuristics = if nat_le (tasks * store) (2 ^ 22)
    then Some (record {
      tasks = tasks;
      work = work;
      store = store;
      cuts = cuts;
      heuristics = heuristics;
    }) else None

-- `[--tasks=N] [--work=N] [--store=N] [--cuts=yes|no] [--heuristics=yes|no]`
abbrev pub tune_in : List (List ℕ) → Option Tune
tune_in words =
    when_some (number_or 4 1 64 (value Tasks words)) (λ tasks.
    when_some (number_or 200000000 0 (10 ^ 12) (value Work words)) (λ work.
    when_some (number_or (default_store tasks) 64 (2 ^ 22) (value Store words)) (λ store.
    when_some (switch_or true (value Cuts words)) (λ cuts.
    when_some (switch_or true (value Heuristics words)) (λ heuristics.
    tune_of tasks work store cuts heuristics)))))
