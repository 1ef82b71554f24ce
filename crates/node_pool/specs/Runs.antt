-- A short history, for tests.
use Rattle.std.specs.Prelude.{true, false, List, [], ◌∷◌, pos}
use Rattle.ip_core.specs.declared.model.ModelParts.{ModelParts}
use Rattle.work_stamp.specs.Histories.{keyed_entry}
use Rattle.work_stamp.specs.declared.entry.Entry.{Entry}
use Rattle.work_stamp.specs.declared.entry.Entry.TheVariants.{Start, Done, Split, Closed}
use Rattle.work_stamp.specs.declared.stamped.KeyedEntry.{KeyedEntry}
use Rattle.node_pool.specs.Views.{View, view_of}
use Rattle.node_pool.specs.declared.settings.SearchSettings.{SearchSettings}

-- entries whose keys don't matter
abbrev pub without_keys : List Entry → List KeyedEntry
without_keys [] = []
without_keys (e ∷ es) = keyed_entry (record { stamp = 0; slot = 0 }) e ∷ without_keys es

abbrev pub dives : SearchSettings
dives = record { cuts = false; heuristics = true }

-- the root is split, and its low child is closed
abbrev pub split_root : Entry
split_root = Split 0 0 (pos 0) 4 0 (pos 0)

abbrev pub dives_view : ModelParts → View
dives_view m = view_of m dives (without_keys (Start 0 ∷ split_root ∷ Closed 4 ∷ Done ∷ []))
