-- What a slot between tasks does is the last part of its move before the chunk.
use Rattle.std.proofs.Common.{ℕ, ◌≡◌, Bool, true, false, List, Option, Result, refl, sym, ap, ◌∙◌, subst}
use Rattle.std.specs.Prelude.{if◌then◌else◌}
use Rattle.clock_words.specs.Seats.{SeatView}
use Rattle.ip_core.specs.declared.memory.OutOfMemory.{OutOfMemory}
use Rattle.stamp_machine.specs.Machine.{fits}
use Rattle.stamp_machine.specs.Openings.{CanRunAfter, opening_of_begin, prefixed, task_opening, turn_of_opening}
use Rattle.stamp_machine.specs.declared.limits.Limits.{Limits}
use Rattle.stamp_machine.specs.declared.opening.Opening.{Opening}
use Rattle.stamp_machine.specs.declared.opening.Opening.TheVariants as opening
use Rattle.stamp_machine.specs.declared.opening.Turn.{Turn}
use Rattle.stamp_machine.specs.declared.slot.Slot.{Slot}
use Rattle.work_stamp.specs.Taskers.{Rules}
use Rattle.work_stamp.specs.declared.entry.Entry.{Entry}
use Rattle.work_stamp.specs.declared.task.Begin.{Begin}
use Rattle.work_stamp.specs.declared.task.Begin.TheVariants.{Take, Idle, End}
use Rattle.version_store.specs.Closing.{CloseFails, GoesAt, HasClosed, IsClosed, IsOpening, StaysOpen, opening_of, slot_before}
use Rattle.version_store.specs.Moving.{CanBegin}
use Rattle.version_store.specs.declared.playing.Playing.{Playing}
use Rattle.version_store.specs.declared.playing.Start.{Start}

-- a task that is taken begins at the clock before the move
goes_if : {L : Type 0} (b : Bool) (clock : ℕ) (t over : Turn L) (local : L) → t.slot.clock ≡ clock →
    GoesAt clock (if b then (opening.Goes t local) else (opening.Done over))
goes_if true clock t over local e = e
goes_if false clock t over local e = tt

goes_begin : {L : Type 0} (limits : Limits) (slot : Slot L) (local : L) (does : Begin) →
    GoesAt slot.clock (opening_of_begin limits slot local does)
goes_begin limits slot local End = tt
goes_begin limits slot local Idle = tt
goes_begin limits slot local (Take es) = goes_if (fits limits slot.words es) slot.clock _ _ local refl

module _ {V L : Type 0} (r : Rules V L) (FitsView : V → Type 0) (FitsLocal : L → Type 0)
    (limits : Limits) (seat : SeatView) (p : Playing V L) (local : L)
    (b : CanBegin r FitsView FitsLocal limits seat p local) where
  -- what is left of the move is what the slot does on the view
  pub begun_opening : (opened : Opening L) (es : List Entry) (slot : Slot L) (after : Option L) →
      opened ≡ task_opening r limits p.view p.slot local → CanRunAfter r FitsLocal opened →
      opening_of es slot after ≡ opened →
      IsOpening r FitsView FitsLocal limits seat (record p { slot = slot }) (opening_of es slot after)
  begun_opening opened es slot after is runs parts_are =
      let begun = r.begin p.view local in
      let whole : task_opening r limits p.view p.slot local ≡ opening_of es slot after = sym (parts_are ∙ is) in
      record {
        joined = b.joined;
        ranges = b.ranges;
        number = b.number;
        live = b.live;
        lives = b.lives;
        few = b.few;
        parts = b.parts ∙ ap (λ (o : Opening L). prefixed b.joined (turn_of_opening r o)) whole;
        can = subst (λ (o : Opening L). CanRunAfter r FitsLocal o) (sym parts_are) runs;
        clock = subst (λ (o : Opening L). GoesAt (slot_before r limits seat.slot p).clock o) whole
            (subst (λ (n : ℕ). GoesAt n (task_opening r limits p.view p.slot local)) b.clock
            (goes_begin limits p.slot begun.local begun.does));
        amid = record {
          done = b.amid.done;
          left = b.amid.left;
          whole = b.amid.whole;
          past = b.amid.past;
          view_is = b.amid.view_is;
          view_fits = b.amid.view_fits;
          mine_is = b.amid.mine_is;
          own = b.amid.own;
          last = b.amid.last;
          heard = b.amid.heard;
          queues = b.amid.queues;
        };
        seated = b.seated;
        fetched = b.fetched;
      }

-- the slot that a carrier works with while a move is made isn't looked at
pub closed_again : {V L : Type 0} (r : Rules V L) (FitsView : V → Type 0) (FitsLocal : L → Type 0)
    (limits : Limits) (new : SeatView) (number : ℕ) (p : Playing V L) (slot : Slot L)
    (result : Result (Start V L) OutOfMemory) →
    HasClosed r FitsView FitsLocal limits new number (record p { slot = slot }) result →
    HasClosed r FitsView FitsLocal limits new number p result
closed_again r FitsView FitsLocal limits new number p slot result (IsClosed q e stands slot_is view_is moves_are rises) =
    IsClosed q e stands slot_is view_is moves_are rises
closed_again r FitsView FitsLocal limits new number p slot result (StaysOpen q local e begun slot_is view_is moves_are rises) =
    StaysOpen q local e begun slot_is view_is moves_are rises
closed_again r FitsView FitsLocal limits new number p slot result (CloseFails e is) = CloseFails e is
