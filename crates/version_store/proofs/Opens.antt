-- All of a move before its chunk, from its three cases.
use Rattle.std.proofs.Common.{ℕ, ◌+◌, ◌<◌, ◌≡◌, List, Option, Some, Result, Ok, Err, refl, ap, ◌∙◌, subst}
use Rattle.std.specs.Prelude.{IsErr, slice_index}
use Rattle.clock_words.specs.Seats.{SeatView}
use Rattle.ip_core.specs.declared.memory.OutOfMemory.{OutOfMemory}
use Rattle.stamp_machine.specs.Machine.{final, slot_after_chunk}
use Rattle.stamp_machine.specs.Merges.{reads}
use Rattle.stamp_machine.specs.Runs.{turn_in}
use Rattle.stamp_machine.specs.declared.limits.Limits.{Limits}
use Rattle.stamp_machine.specs.declared.slot.Slot.{Slot}
use Rattle.work_stamp.specs.Taskers.{Rules}
use Rattle.version_store.specs.Advances.{GoesOn, HasOpened, HasSparedLooks, IsBlocked, IsDone, IsMove, OpenFails, view_read}
use Rattle.version_store.specs.Awaiting.{HasAwaited, IsHeardOrWaits}
use Rattle.version_store.specs.Moving.{HasMoved, MoveFails, MoveGoesOn, MoveIsDone}
use Rattle.version_store.specs.declared.hearing_all.Short.{Short}
use Rattle.version_store.specs.declared.playing.Playing.{Playing}
use Rattle.version_store.specs.declared.playing.Start.{Start}
use Rattle.version_store.specs.declared.playing.Start.TheVariants as start

module _ {V L : Type 0} (r : Rules V L) (FitsView : V → Type 0) (FitsLocal : L → Type 0)
    (limits : Limits) (old new : SeatView) (p : Playing V L) where
  pub failed_opens : (result : Result (Start V L) OutOfMemory) → IsErr result →
      HasOpened r FitsView FitsLocal limits old new p result
  failed_opens (Ok x) e = absurd cc
  failed_opens (Err e) is = OpenFails e refl

  -- the rest of a move looks at no slot
  pub spared_still : (mid : SeatView) → HasSparedLooks r limits old mid p → new.looks ≡ mid.looks →
      HasSparedLooks r limits old new p
  spared_still mid h same = record {
    unread = λ unread. same ∙ h.unread unread;
    enough = λ slot lt e. ap (λ (l : List ℕ). slice_index l slot) same ∙ h.enough slot lt e;
  }

  -- a move that waits
  pub blocked_opens : (q : Playing V L) (found : Option Short) (short : Short) →
      HasAwaited r FitsView limits old new p q found → found ≡ Some short →
      HasOpened r FitsView FitsLocal limits old new p (Ok (start.Blocked q short.slot short.clock))
  blocked_opens q found short h is = IsBlocked q short.slot short.clock refl h.stands
      (subst (λ (o : Option Short). IsHeardOrWaits r limits old new p q o) is h.outcome)

  -- a move of a slot that is as it was
  module _ (number : ℕ) (q : Playing V L) (number_is : number ≡ old.slot)
      (slot_is : q.slot ≡ p.slot) (moves_are : q.moves ≡ p.moves) where
    move_again : (slot : Slot L) (view : V) (moves : ℕ) → IsMove r limits number q slot view moves →
        IsMove r limits old.slot p slot view moves
    move_again slot view moves m = record {
      slot_is = m.slot_is
          ∙ (ap (λ (n : ℕ). (turn_in r limits (final r limits).entries n q.slot).slot) number_is
          ∙ ap (λ (x : Slot L). (turn_in r limits (final r limits).entries old.slot x).slot) slot_is);
      view_is = λ reading. m.view_is (ap (λ (x : Slot L). reads r limits x) slot_is ∙ reading)
          ∙ (ap (λ (n : ℕ). view_read r limits n q.slot) number_is
          ∙ ap (λ (x : Slot L). view_read r limits old.slot x) slot_is);
      counted = m.counted ∙ ap (λ (n : ℕ). n + 1) moves_are;
    }

    later : (clock : ℕ) → q.slot.clock < clock → p.slot.clock < clock
    later clock lt = subst (λ (x : Slot L). x.clock < clock) slot_is lt

    pub moved_opens : (result : Result (Start V L) OutOfMemory) →
        HasMoved r FitsView FitsLocal limits new number q result →
        HasOpened r FitsView FitsLocal limits old new p result
    moved_opens result (MoveIsDone x e stands m rises) =
        IsDone x e stands (move_again x.slot x.view x.moves m) (λ lives. later x.slot.clock (rises lives))
    moved_opens result (MoveGoesOn x local e begun m rises) =
        GoesOn x local e begun (move_again (slot_after_chunk r x.slot local) x.view x.moves m)
        (later (slot_after_chunk r x.slot local).clock rises)
    moved_opens result (MoveFails e is) = OpenFails e is
