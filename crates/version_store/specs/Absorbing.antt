-- What a carrier absorbs before a move that reads the history.
use Rattle.std.specs.Prelude.{◌≡◌, ◌<◌, Some}
use Rattle.stamp_machine.specs.Machine.{final}
use Rattle.stamp_machine.specs.Runs.{below, state_of}
use Rattle.stamp_machine.specs.Slots.{key_of}
use Rattle.stamp_machine.specs.declared.limits.Limits.{Limits}
use Rattle.stamp_machine.specs.declared.slot.Live.{Live}
use Rattle.work_stamp.specs.Taskers.{Rules, view_of}
use Rattle.work_stamp.specs.declared.key.Key.{Key}
use Rattle.version_store.specs.Carriers.{IsAtMove}
use Rattle.version_store.specs.Hearing.{IsAllEnough}
use Rattle.version_store.specs.declared.playing.Playing.{Playing}

-- a live slot stands before its move of this key, and enough was heard of each other slot
pub record CanAbsorb {V L : Type 0} (r : Rules V L) (FitsView : V → Type 0) (limits : Limits)
    (key : Key) (p : Playing V L) : Type 0 where
  pub number : key.slot < limits.slots
  pub live : Live L
  pub lives : (state_of r limits (final r limits).entries key.slot p.moves).live ≡ Some live
  pub key_is : key ≡ key_of key.slot (state_of r limits (final r limits).entries key.slot p.moves)
  pub at : IsAtMove r FitsView limits key.slot p
  pub enough : IsAllEnough limits.slots key p.heard

-- all that lies below the key was absorbed
pub record HasAbsorbed {V L : Type 0} (r : Rules V L) (FitsView : V → Type 0) (limits : Limits)
    (key : Key) (p q : Playing V L) : Type 0 where
  pub at : IsAtMove r FitsView limits key.slot q
  pub view_is : q.view ≡ view_of r (below key (final r limits).entries)
  pub done_is : at.done ≡ below key (final r limits).entries
  pub heard_stays : q.heard ≡ p.heard
  pub slot_stays : q.slot ≡ p.slot
  pub moves_stay : q.moves ≡ p.moves
