-- How the entries of a history part nodes.
use Rattle.std.specs.Prelude.{ℕ, nat_eq, if◌then◌else◌, List, [], ◌∷◌, Option, Some, None}
use Rattle.work_stamp.specs.declared.entry.Entry.{Entry}
use Rattle.work_stamp.specs.declared.entry.Entry.TheVariants.{Start, CutStart, HeurStart, Done, Found, Cut, Split, Closed, Halt}
use Rattle.work_stamp.specs.declared.stamped.KeyedEntry.{KeyedEntry}
use Rattle.tree_build.specs.declared.parting.Parting.{Parting}

-- how an entry parts a node, if it does
abbrev pub parting_of : Entry → Option Parting
parting_of (Start node) = None
parting_of CutStart = None
parting_of (HeurStart node) = None
parting_of Done = None
parting_of (Found value point) = None
parting_of (Cut derivation) = None
parting_of (Split node col at first keep bound) =
    Some (record { node = node; col = col; at = at; first = first })
parting_of (Closed node) = None
parting_of Halt = None

-- a parting, where it is of the node of this name
abbrev pub of_node : ℕ → Option Parting → Option Parting
of_node name None = None
of_node name (Some p) = if nat_eq p.node name then Some p else None

-- the first of two, where there is one, and else the second
abbrev pub parting_or : Option Parting → Option Parting → Option Parting
parting_or None later = later
parting_or (Some p) later = Some p

-- the first parting of the node of this name
abbrev pub first_parting : List KeyedEntry → ℕ → Option Parting
first_parting [] name = None
first_parting (e ∷ es) name =
    parting_or (of_node name (parting_of e.entry)) (first_parting es name)
