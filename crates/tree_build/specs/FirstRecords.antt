-- Where the first record of a name stands.
use Rattle.std.specs.Prelude.{ℕ, ◌≡◌, suc, nat_eq, if◌then◌else◌, List, [], ◌∷◌, Option, Some, None}
use Rattle.std.specs.BTreeMap.{BTreeMap, get}
use Rattle.std.specs.Ordering.{nat_cmp}
use Rattle.ip_core.specs.declared.leaf.Record.{Record}
use Rattle.work_stamp.specs.declared.stamped.KeyedEntry.{KeyedEntry}
use Rattle.tree_build.specs.Partings.{first_parting}
use Rattle.tree_build.specs.declared.parting.Parting.{Parting}
use Rattle.tree_build.specs.declared.record_place.RecordPlace.{RecordPlace}

-- where the first record of a name stands among those of a slot, from an index on; and where none
-- of them has it, the place that later slots give
abbrev pub place_in : ℕ → ℕ → List Record → ℕ → Option RecordPlace → Option RecordPlace
place_in slot index [] name later = later
place_in slot index (r ∷ rs) name later =
    if nat_eq r.node name then Some (record { slot = slot; index = index })
    else place_in slot (suc index) rs name later

-- where the first record of a name stands among those of slots, from a slot on
abbrev pub place_from : ℕ → List (List Record) → ℕ → Option RecordPlace
place_from slot [] name = None
place_from slot (records ∷ lists) name =
    place_in slot 0 records name (place_from (suc slot) lists name)

-- the map has the place of the first record of each name among those of slots, from a slot on
pub record HasRecordPlaces (slot : ℕ) (lists : List (List Record)) (places : BTreeMap ℕ RecordPlace)
    : Type 0 where
  pub each : (name : ℕ) → get nat_cmp places name ≡ place_from slot lists name

-- the map has that of each name among the records of a slot, from an index on; and where they have
-- none of a name, what another map has
pub record HasSlotPlaces (slot index : ℕ) (records : List Record)
    (later places : BTreeMap ℕ RecordPlace) : Type 0 where
  pub each : (name : ℕ)
      → get nat_cmp places name ≡ place_in slot index records name (get nat_cmp later name)

-- the map has the first parting of each node that is parted
pub record HasFirstPartings (entries : List KeyedEntry) (partings : BTreeMap ℕ Parting) : Type 0
  where
    pub each : (name : ℕ) → get nat_cmp partings name ≡ first_parting entries name
