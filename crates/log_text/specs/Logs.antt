-- The log of a search.
use Rattle.std.specs.Prelude.{ℕ, ◌+◌, Bool, true, false, List, [], ◌∷◌, ◌++◌, codes}
use Rattle.entry_text.specs.Entries.{entry_lines}
use Rattle.entry_text.specs.Fields.{number_field}
use Rattle.node_pool.specs.declared.settings.SearchSettings.{SearchSettings}
use Rattle.stamp_machine.specs.declared.history.History.{History}
use Rattle.stamp_machine.specs.declared.limits.Limits.{Limits}

-- the word of a switch
abbrev pub switch_word : Bool → List ℕ
switch_word true = codes "yes"
switch_word false = codes "no"

-- the number of tasks, and of each its limit on work and its store
abbrev pub limits_text : Limits → List ℕ
limits_text limits = codes "tasks" ++ number_field limits.slots ++ codes " work"
    ++ number_field limits.work ++ codes " store" ++ number_field limits.store

-- the switches of the search
abbrev pub switches_text : SearchSettings → List ℕ
switches_text settings = codes " cuts " ++ switch_word settings.cuts ++ codes " heuristics "
    ++ switch_word settings.heuristics

-- the line of a slot: its number, and the clock at which it ended
abbrev pub end_line : ℕ → ℕ → List ℕ
end_line slot clock = codes "end" ++ number_field slot ++ number_field clock ++ codes "\n"

-- the lines of the slots from this number on, in order, by the clocks at which they ended
abbrev pub end_lines : ℕ → List ℕ → List ℕ
end_lines slot [] = []
end_lines slot (clock ∷ clocks) = end_line slot clock ++ end_lines (slot + 1) clocks

-- The log of a search with these limits and settings, which left this history and ended with the
-- status of this word. The number of threads doesn't occur in it.
abbrev pub log_text : Limits → SearchSettings → History → List ℕ → List ℕ
log_text limits settings history status = codes "xsearch log 1\n" ++ limits_text limits
    ++ switches_text settings ++ codes "\n" ++ entry_lines history.entries
    ++ end_lines 0 history.ends ++ codes "status " ++ status ++ codes "\n"
