-- Boxes within the root box.
use Rattle.std.proofs.Common.{◌≡◌, ◌∙◌, length, sym, subst, le_trans}
use Rattle.ip_core.specs.Sides.{Sides, HasLimits, HasNoEmpty, IsPaired}
use Rattle.ip_core.specs.Boxes.{IsWithin, IsWithinReach}
use Rattle.ip_core.specs.Models.{IsModel}
use Rattle.ip_core.specs.declared.model.ModelParts.{ModelParts}
use Rattle.ip_core.proofs.NarrowerBoxes.{within_both}
use Rattle.ip_core.proofs.Reaching.{model_within_reach, open_within_reach, reach-le_limit}
use Rattle.task_steps.specs.Fits.{IsSmall}

-- a box within the root box's reach lies within the limit of bounds
reached_small : (root s : Sides) → HasLimits root → IsWithinReach root s → IsSmall s
reached_small root s limits near = record {
  lows = λ j. le_trans (near.lows j) (reach-le_limit root j limits);
  highs = λ j. le_trans (near.highs j) (reach-le_limit root j limits);
}

-- so does what passes leave of a task's box
pub passed_small : (m : ModelParts) (old new : Sides) → IsModel m → IsWithin m.root old
    → IsPaired old → IsWithin old new → HasNoEmpty new → IsSmall new
passed_small m old new valid outer paired inner solid =
    let same : length new.highs ≡ length new.lows =
    inner.as_many_highs ∙ paired.same_length ∙ sym inner.as_many_lows in
    reached_small m.root new valid.bounds.limits
    (open_within_reach m.root new (within_both m.root old new outer inner) same solid)

-- a copy of a task's box lies in the root box
pub copied_within : (m : ModelParts) (s old : Sides) → old ≡ s → IsWithin m.root s
    → IsWithin m.root old
copied_within m s old same within = subst (IsWithin m.root) (sym same) within

-- what passes leave of it is within the root box's reach
pub passed_near : (m : ModelParts) (s old new : Sides) → old ≡ s → IsModel m → IsWithin m.root s
    → IsWithin old new → HasNoEmpty new → IsWithinReach m.root new
passed_near m s old new same valid outer inner solid =
    model_within_reach m new valid
    (within_both m.root old new (copied_within m s old same outer) inner) solid
