-- Histories: entries under keys, in order.
use Rattle.std.specs.Prelude.{List, [], ◌∷◌, ◌++◌}
use Rattle.work_stamp.specs.declared.entry.Entry.{Entry}
use Rattle.work_stamp.specs.declared.key.Key.{Key}
use Rattle.work_stamp.specs.declared.stamped.KeyedEntry.{KeyedEntry}

-- an entry under a key
abbrev pub keyed_entry : Key → Entry → KeyedEntry
keyed_entry k e = record { key = k; entry = e }

-- entries under one key
abbrev pub under : Key → List Entry → List KeyedEntry
under k [] = []
under k (e ∷ es) = keyed_entry k e ∷ under k es

-- entries may follow a history one after the other
abbrev pub FollowInTurn : (List KeyedEntry → Entry → Type 0) → List KeyedEntry → List KeyedEntry →
    Type 0
FollowInTurn MayFollow history [] = Unit {0}
FollowInTurn MayFollow history (e ∷ es) = MayFollow history e.entry
    × FollowInTurn MayFollow (history ++ e ∷ []) es
