-- What a run of the machine works with: the history with its view, and the slots.
use Rattle.std.specs.Prelude.{ℕ, ◌≡◌, ◌≤◌, ◌<◌, ◌+◌, ◌-◌, ◌^◌, if◌then◌else◌, Option, Some, None, List, [], ◌∷◌, ◌++◌, length}
use Rattle.work_stamp.specs.Histories.{under, FollowInTurn}
use Rattle.work_stamp.specs.Taskers.{Rules, view_of, view_after}
use Rattle.work_stamp.specs.declared.entry.Entry.{Entry}
use Rattle.work_stamp.specs.declared.key.Key.{Key}
use Rattle.work_stamp.specs.declared.stamped.KeyedEntry.{KeyedEntry}
use Rattle.stamp_machine.specs.Slots.{key_of, moves_left}
use Rattle.stamp_machine.specs.Machine.{State, turn, fits, word_count, moves, as_history}
use Rattle.stamp_machine.specs.declared.history.History.{History}
use Rattle.stamp_machine.specs.Kept.{IsFittingWhileLive}
use Rattle.stamp_machine.specs.declared.limits.Limits.{Limits}
use Rattle.stamp_machine.specs.declared.opening.Turn.{Turn}
use Rattle.stamp_machine.specs.declared.slot.Slot.{Slot}
use Rattle.stamp_machine.specs.declared.play.HistoryView.{HistoryView}
use Rattle.stamp_machine.specs.declared.play.AfterMove.{AfterMove}
use Rattle.stamp_machine.specs.declared.play.Play.{Play}

-- how many moves all slots may still make
abbrev pub moves_left_all : {L : Type 0} → Limits → List (Slot L) → ℕ
moves_left_all limits [] = 0
moves_left_all limits (slot ∷ slots) = moves_left limits slot + moves_left_all limits slots

-- a history with its view, which the tasks take, and which entries may follow under a key
pub record CanGrow {V L : Type 0} (r : Rules V L) (FitsView : V → Type 0)
    (MayFollow : List KeyedEntry → Entry → Type 0) (so_far : HistoryView V) (k : Key)
    (es : List Entry) : Type 0 where
  pub view : so_far.view ≡ view_of r so_far.entries
  pub fits : FitsView so_far.view
  pub follow : FollowInTurn MayFollow so_far.entries (under k es)
  pub few : length so_far.entries + length es ≤ 2 ^ 31

-- a history with its view after these entries joined it under a key
abbrev pub with_entries : {V L : Type 0} → Rules V L → HistoryView V → Key → List Entry →
    HistoryView V
with_entries r so_far k es = record {
  entries = so_far.entries ++ under k es;
  view =
      view_after r so_far.view (under k es);
}

-- what a move leaves: the history after the move's entries, and the slot afterwards
abbrev pub after_move : {V L : Type 0} → Rules V L → HistoryView V → Key → Turn L → AfterMove V L
after_move r so_far k t = record { so_far = with_entries r so_far k t.entries; slot = t.slot }

-- a slot that can move on this history and its view
pub record CanTurn {V L : Type 0} (r : Rules V L) (FitsView : V → Type 0) (FitsLocal : L → Type 0)
    (MayFollow : List KeyedEntry → Entry → Type 0) (limits : Limits) (so_far : HistoryView V)
    (number : ℕ) (slot : Slot L) : Type 0 where
  pub grow : CanGrow r FitsView MayFollow so_far (key_of number slot)
      (turn r limits number so_far.view slot).entries
  pub fits : IsFittingWhileLive FitsLocal slot.live
  pub store : slot.words ≤ limits.store - 4

-- a slot whose pending entries have joined, which begins a task or goes on with one of this local
pub record CanWork {L : Type 0} (FitsLocal : L → Type 0) (limits : Limits) (slot : Slot L)
    (local : L) : Type 0 where
  pub fits : FitsLocal local
  pub store : slot.words ≤ limits.store - 4
  pub early : slot.clock < 10 ^ 12

-- a state of the machine with the view of its history
abbrev pub play_of : {V L : Type 0} → Rules V L → State L → Play V L
play_of r state = record {
  so_far = record
      { entries = state.entries; view = view_of r state.entries };
  slots = state.slots;
}

-- the machine has come to this after some number of moves
pub record PlaysMachine {V L : Type 0} (r : Rules V L) (limits : Limits)
    (play : Play V L) : Type 0 where
  pub count : ℕ
  pub is : play ≡ play_of r (moves r limits count)

-- what the slots of a run leave
abbrev pub history_of_play : {V L : Type 0} → Play V L → History
history_of_play play = as_history (record { entries = play.so_far.entries; slots = play.slots })

-- the words of a slot with these entries, none where they don't fit
abbrev pub words_with : Limits → ℕ → List Entry → Option ℕ
words_with limits words es = if fits limits words es then Some (words + word_count es) else None
