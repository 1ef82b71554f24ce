-- A move of a slot in two steps: what is pending joins, and then what the slot begins or goes on with.
use Rattle.std.proofs.Common.{◌≡◌, ℕ, ◌+◌, ◌≤◌, ◌^◌, Bool, true, false, List, [], ◌∷◌, ◌++◌, length, refl, sym, ap, ◌∙◌, subst, append_assoc, length-append, arith}
use Rattle.std.specs.Prelude.{Option, if◌then◌else◌}
use Rattle.std.proofs.lemmas.List.{append-nil}
use Rattle.work_stamp.specs.Histories.{under, FollowInTurn}
use Rattle.work_stamp.specs.Taskers.{Rules, Standing, view_after, view_of, IsLawful}
use Rattle.work_stamp.specs.declared.entry.Entry.{Entry}
use Rattle.work_stamp.specs.declared.entry.Entry.TheVariants.{Halt}
use Rattle.work_stamp.specs.declared.key.Key.{Key}
use Rattle.work_stamp.specs.declared.stamped.KeyedEntry.{KeyedEntry}
use Rattle.work_stamp.specs.declared.task.Begin.{Begin}
use Rattle.work_stamp.specs.declared.task.Begin.TheVariants.{Take, Idle, End}
use Rattle.stamp_machine.specs.Slots.{slot_after_end, key_of}
use Rattle.stamp_machine.specs.Machine.{fits, slot_after_chunk, slot_after_join, slot_after_idle, turn_of_begin, turn_after_begin, turn_after_join}
use Rattle.stamp_machine.specs.Openings.{prefixed}
use Rattle.stamp_machine.specs.Plays.{CanGrow, with_entries, after_move}
use Rattle.stamp_machine.specs.declared.limits.Limits.{Limits}
use Rattle.stamp_machine.specs.declared.opening.Turn.{Turn}
use Rattle.stamp_machine.specs.declared.play.HistoryView.{HistoryView}
use Rattle.stamp_machine.specs.declared.slot.Slot.{Slot}
use Rattle.stamp_machine.specs.declared.slot.Live.{Live}
use Rattle.stamp_machine.proofs.Follows.{under-append, length-under, view_after-append, follow-left, follow-right}
use Rattle.stamp_machine.proofs.Turns.{views_fit}

taken_parts : {L : Type 0} (b : Bool) (pending es : List Entry) (s o : Slot L) →
    ◌≡◌ {A = Turn L} (if b then (record { entries = pending ++ es; slot = s }) else (record { entries = pending ++ Halt ∷ []; slot = o }))
    (prefixed pending (if b then (record { entries = es; slot = s }) else (record { entries = Halt ∷ []; slot = o })))
taken_parts true pending es s o = refl
taken_parts false pending es s o = refl

beginning_parts : {V L : Type 0} (r : Rules V L) (limits : Limits) (slot : Slot L) (pending : List Entry) (local : L) (d : Begin) →
    turn_of_begin r limits slot pending local d ≡ prefixed pending (turn_of_begin r limits (slot_after_end slot) [] local d)
beginning_parts r limits slot pending local End = ap (λ (es : List Entry). record { entries = es; slot = slot_after_end slot }) (sym (append-nil pending))
beginning_parts r limits slot pending local Idle = ap (λ (es : List Entry). record { entries = es; slot = slot_after_idle slot local }) (sym (append-nil pending))
beginning_parts r limits slot pending local (Take es) = taken_parts (fits limits slot.words es) pending es _ (slot_after_end slot)

-- a slot between tasks begins
pub going_start : {V L : Type 0} (r : Rules V L) (limits : Limits) (number : ℕ) (view : V) (slot : Slot L) (live : Live L) → r.at_start live.local ≡ true →
    turn_after_join r limits number view slot live ≡ prefixed live.pending (turn_after_begin r limits (slot_after_end (slot_after_join slot live)) [] (r.begin (view_after r view (under (key_of number slot) live.pending)) live.local))
going_start r limits number view slot live e =
    let b = r.begin (view_after r view (under (key_of number slot) live.pending)) live.local in
    ap (λ (x : Bool). if x then turn_after_begin r limits (slot_after_join slot live) live.pending b else (record { entries = live.pending; slot = slot_after_chunk r (slot_after_join slot live) live.local })) e
    ∙ beginning_parts r limits (slot_after_join slot live) live.pending b.local b.does

-- another slot goes on with its task
pub going_else : {V L : Type 0} (r : Rules V L) (limits : Limits) (number : ℕ) (view : V) (slot : Slot L) (live : Live L) → r.at_start live.local ≡ false →
    turn_after_join r limits number view slot live ≡ record { entries = live.pending; slot = slot_after_chunk r (slot_after_end (slot_after_join slot live)) live.local }
going_else r limits number view slot live e =
    let b = r.begin (view_after r view (under (key_of number slot) live.pending)) live.local in
    ap (λ (x : Bool). if x then turn_after_begin r limits (slot_after_join slot live) live.pending b else (record { entries = live.pending; slot = slot_after_chunk r (slot_after_join slot live) live.local })) e

-- two steps of a move in one
pub moved_parts : {V L : Type 0} (r : Rules V L) (so_far : HistoryView V) (k : Key) (es : List Entry) (t : Turn L) → after_move r (with_entries r so_far k es) k t ≡ after_move r so_far k (prefixed es t)
moved_parts r so_far k es t =
    let parts = under-append k es t.entries in
    let entries : (so_far.entries ++ under k es) ++ under k t.entries ≡ so_far.entries ++ under k (es ++ t.entries) = append_assoc so_far.entries (under k es) (under k t.entries) ∙ ap (λ (x : List KeyedEntry). so_far.entries ++ x) (sym parts) in
    let view = sym (view_after-append r so_far.view (under k es) (under k t.entries)) ∙ ap (view_after r so_far.view) (sym parts) in
    ap (λ (x : List KeyedEntry). record { so_far = record { entries = x; view = view_after r (view_after r so_far.view (under k es)) (under k t.entries) }; slot = t.slot }) entries
    ∙ ap (λ v. record { so_far = record { entries = so_far.entries ++ under k (es ++ t.entries); view = v }; slot = t.slot }) view

module _ (V L : Type 0) (r : Rules V L) (FitsView : V → Type 0) (FitsLocal : L → Type 0) (MayFollow : List KeyedEntry → Entry → Type 0) (Agrees : List KeyedEntry → List (Option (Standing L)) → Type 0)
    (law : IsLawful r FitsView FitsLocal MayFollow Agrees) where
  pub grow_left : (so_far : HistoryView V) (k : Key) (xs ys : List Entry) → CanGrow r FitsView MayFollow so_far k (xs ++ ys) → CanGrow r FitsView MayFollow so_far k xs
  grow_left so_far k xs ys can = record {
    view = can.view;
    fits = can.fits;
    follow = follow-left MayFollow so_far.entries (under k xs) (under k ys) (subst (FollowInTurn MayFollow so_far.entries) (under-append k xs ys) can.follow);
    few = omega (arith, can.few, length-append xs ys);
  }

  pub grow_right : (so_far : HistoryView V) (k : Key) (xs ys : List Entry) → CanGrow r FitsView MayFollow so_far k (xs ++ ys) → CanGrow r FitsView MayFollow (with_entries r so_far k xs) k ys
  grow_right so_far k xs ys can =
      let follow = subst (FollowInTurn MayFollow so_far.entries) (under-append k xs ys) can.follow in
      let left = follow-left MayFollow so_far.entries (under k xs) (under k ys) follow in
      let few : length so_far.entries + length (under k xs) ≤ 2 ^ 31 = omega (arith, can.few, length-append xs ys, length-under k xs) in
      let view : (with_entries r so_far k xs).view ≡ view_of r (so_far.entries ++ under k xs) = ap (λ v. view_after r v (under k xs)) can.view ∙ sym (view_after-append r r.fresh_view so_far.entries (under k xs)) in
      record {
        view = view;
        fits = subst FitsView (sym view) (views_fit V L r FitsView FitsLocal MayFollow Agrees law so_far.entries (under k xs) few (subst FitsView can.view can.fits) left);
        follow = follow-right MayFollow so_far.entries (under k xs) (under k ys) follow;
        few = omega (arith, can.few, length-append xs ys, length-append so_far.entries (under k xs), length-under k xs);
      }
