use Rattle.std.specs.Prelude.{List, [], ◌∷◌}
use Rattle.ip_core.specs.Sides.{Sides, with_high, with_low}
use Rattle.node_pool.specs.declared.bound_change.BoundChange.{BoundChange}
use Rattle.node_pool.specs.declared.bound_change.BoundChange.TheVariants.{High, Low}

-- the box with the end of one column changed, where that is narrower
abbrev pub with_change : BoundChange → Sides → Sides
with_change (High col high) s = with_high s col high
with_change (Low col low) s = with_low s col low

-- the box after all changes, of which the last is made first
abbrev pub with_changes : List BoundChange → Sides → Sides
with_changes [] s = s
with_changes (c ∷ cs) s = with_change c (with_changes cs s)
