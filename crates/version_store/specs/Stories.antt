-- The words of a run: of each slot those of the entries that it publishes in the history.
use Rattle.std.specs.Prelude.{ℕ, zero, suc, List, [], ◌∷◌, ◌++◌, map}
use Rattle.clock_words.specs.Stories.{Lists, stamped_word}
use Rattle.clock_words.specs.declared.story.StampedWord.{StampedWord}
use Rattle.stamp_machine.specs.Machine.{final}
use Rattle.stamp_machine.specs.Runs.{of_slot}
use Rattle.stamp_machine.specs.declared.limits.Limits.{Limits}
use Rattle.work_stamp.specs.Taskers.{Rules}
use Rattle.work_stamp.specs.Words.{words}
use Rattle.work_stamp.specs.declared.stamped.KeyedEntry.{KeyedEntry}
use Rattle.work_stamp.specs.declared.stamped.Stamped.{Stamped}

-- an entry with its stamp
abbrev pub stamped : KeyedEntry → Stamped
stamped e = record { stamp = e.key.stamp; entry = e.entry }

-- the words of entries, each with the stamp of its entry
abbrev pub entry_list : List KeyedEntry → List StampedWord
entry_list [] = []
entry_list (e ∷ es) = map (stamped_word e.key.stamp) (words (stamped e)) ++ entry_list es

-- the words of so many slots, from a number on
abbrev pub lists_from : List KeyedEntry → ℕ → ℕ → Lists
lists_from history first zero = []
lists_from history first (suc more) = entry_list (of_slot first history)
    ∷ lists_from history (suc first) more

-- the words of each slot of a run
abbrev pub run_lists : {V L : Type 0} → Rules V L → Limits → Lists
run_lists r limits = lists_from (final r limits).entries 0 limits.slots
