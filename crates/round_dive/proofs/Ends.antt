-- How a step ends, and what is left of the box.
use Rattle.std.proofs.Common.{◌≡◌, ◌≢◌, List, ℤ, refl, subst}
use Rattle.ip_core.specs.Boxes.{IsWithin}
use Rattle.ip_core.specs.Sides.{Sides, HasNoEmpty}
use Rattle.ip_core.specs.Truth.{IsFeasible}
use Rattle.ip_core.specs.declared.model.ModelParts.{ModelParts}
use Rattle.ip_core.specs.declared.row.Row.{Row}
use Rattle.ip_core.specs.declared.leaf.Tighten.{Tighten}
use Rattle.row_propagate.specs.Lawful.{AreLawfulSteps}
use Rattle.row_propagate.specs.Replay.{replay, row_named}
use Rattle.row_propagate.specs.declared.outcome.Outcome.{Outcome}
use Rattle.round_dive.specs.declared.dive.DiveEnd.{DiveEnd}
use Rattle.round_dive.specs.declared.dive.DiveEnd.TheVariants.{On, Found, Stuck}
use Rattle.row_propagate.specs.declared.outcome.Outcome.TheVariants.{Open}
use Rattle.ip_core.proofs.NarrowerBoxes.{within_both}
use Rattle.round_dive.proofs.FixedBoxes.{fixed_stays}
use Rattle.round_dive.specs.Dives.{HasFeasiblePoint, IsEndOf, IsReachedBySteps}

found_inside : (y x : List ℤ) → Found y ≡ Found x → y ≡ x
found_inside y x same = cc

-- the point of an end is feasible
pub end_feasible : (m : ModelParts) (outcome : Outcome) (s : Sides) (end : DiveEnd)
    → IsEndOf m outcome s end → HasFeasiblePoint m end
end_feasible m outcome s On is = record { found = λ x same. cc }
end_feasible m outcome s (Found y) is = record { found = λ x same. subst (IsFeasible m) (found_inside y x same) is.feasible }
end_feasible m outcome s Stuck is = record { found = λ x same. cc }

-- the box after lawful steps
pub reached_by_steps : (rows cuts : List Row) (start s : Sides) (steps : List Tighten)
    → s ≡ replay (row_named rows cuts) start steps → AreLawfulSteps rows cuts start steps
    → IsReachedBySteps rows cuts start s
reached_by_steps rows cuts start s steps replays lawful =
    record { steps = steps; after = record { replays = replays; lawful = lawful } }

-- an end that isn't stuck comes of passes that left the box open
passes_open : (m : ModelParts) (outcome : Outcome) (s : Sides) (end : DiveEnd) → IsEndOf m outcome s end
    → end ≢ Stuck → outcome ≡ Open
passes_open m outcome s On is going = is.left_open
passes_open m outcome s (Found x) is going = is.left_open
passes_open m outcome s Stuck is going = absurd (going refl)

-- where that end isn't stuck, a box whose columns are all fixed is the box after it
pub fixed_box_stays : (m : ModelParts) (outcome : Outcome) (end : DiveEnd) (old next new : Sides)
    → IsEndOf m outcome new end → (outcome ≡ Open → HasNoEmpty new) → IsWithin old next
    → IsWithin next new → old.lows ≡ old.highs → end ≢ Stuck → new ≡ old
fixed_box_stays m outcome end old next new is solid outer inner fixed going =
    fixed_stays old new fixed (within_both old next new outer inner)
    (solid (passes_open m outcome new end is going))
