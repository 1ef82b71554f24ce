-- A move that reads the history hears the other slots: it can be made, or it waits.
use Rattle.std.specs.Prelude.{◌≡◌, Option, Some, None}
use Rattle.clock_words.specs.Seats.{SeatView}
use Rattle.stamp_machine.specs.Slots.{key_of}
use Rattle.stamp_machine.specs.declared.limits.Limits.{Limits}
use Rattle.work_stamp.specs.Taskers.{Rules}
use Rattle.version_store.specs.Advances.{IsWaiting}
use Rattle.version_store.specs.Carriers.{IsStanding}
use Rattle.version_store.specs.Hearing.{IsAllEnough}
use Rattle.version_store.specs.declared.hearing_all.Short.{Short}
use Rattle.version_store.specs.declared.playing.Playing.{Playing}

-- enough was heard for the slot's next move, or the move waits for a slot
abbrev pub IsHeardOrWaits : {V L : Type 0} → Rules V L → Limits → SeatView → SeatView →
    Playing V L → Playing V L → Option Short → Type 0
IsHeardOrWaits r limits old new p q None =
    IsAllEnough limits.slots (key_of old.slot p.slot) q.heard
IsHeardOrWaits r limits old new p q (Some short) =
    IsWaiting r limits old new p q short.slot short.clock

-- The others were heard: the carrier still stands where it stood, and what it works with is the same
-- but for what waits and what was heard.
pub record HasAwaited {V L : Type 0} (r : Rules V L) (FitsView : V → Type 0) (limits : Limits)
    (old new : SeatView) (p q : Playing V L) (found : Option Short) : Type 0 where
  pub stands : IsStanding r FitsView limits new q
  pub stays : q ≡ record p { merge = q.merge; heard = q.heard }
  pub outcome : IsHeardOrWaits r limits old new p q found
