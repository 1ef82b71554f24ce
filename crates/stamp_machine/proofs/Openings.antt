-- A move is what its parts come to.
use Rattle.std.proofs.Common.{◌≡◌, ℕ, ◌+◌, ◌-◌, ◌<◌, ◌≤◌, Bool, true, false, List, [], ◌∷◌, Option, Some, None, refl, sym, ap, ◌∙◌, subst, arith}
use Rattle.std.proofs.lemmas.Result.{IfOk-weaker}
use Rattle.std.specs.Prelude.{IfOk, Result, nat_le, not, ◌&&◌, if◌then◌else◌}
use Rattle.work_stamp.specs.Histories.{under}
use Rattle.work_stamp.specs.Taskers.{Rules, Standing, view_after, IsLawful}
use Rattle.work_stamp.specs.declared.entry.Entry.{Entry}
use Rattle.work_stamp.specs.declared.entry.Entry.TheVariants.{Halt}
use Rattle.work_stamp.specs.declared.key.Key.{Key}
use Rattle.work_stamp.specs.declared.stamped.KeyedEntry.{KeyedEntry}
use Rattle.work_stamp.specs.declared.task.Begin.{Begin}
use Rattle.work_stamp.specs.declared.task.Begin.TheVariants.{Take, Idle, End}
use Rattle.stamp_machine.specs.Slots.{key_of, slot_after_end}
use Rattle.stamp_machine.specs.Machine.{word_count, fits, slot_after_chunk, slot_after_join, turn_of_begin, turn_after_join, turn_while_live}
use Rattle.stamp_machine.specs.Merges.{reads, reads_while_live}
use Rattle.stamp_machine.specs.Kept.{IsFittingWhileLive}
use Rattle.stamp_machine.specs.Limits.{AreLimits}
use Rattle.stamp_machine.specs.Openings.{CanRun, CanRunAfter, HaveParts, opening_of_begin, opening_of_take, opening_while_live, pending_opening, task_opening, turn_from, turn_of_opening, prefixed}
use Rattle.stamp_machine.specs.Plays.{CanGrow, CanWork, with_entries, after_move}
use Rattle.stamp_machine.specs.declared.limits.Limits.{Limits}
use Rattle.stamp_machine.specs.declared.opening.Opening.{Opening}
use Rattle.stamp_machine.specs.declared.opening.Opening.TheVariants.{Done, Goes}
use Rattle.stamp_machine.specs.declared.opening.Turn.{Turn}
use Rattle.stamp_machine.specs.declared.play.HistoryView.{HistoryView}
use Rattle.stamp_machine.specs.declared.slot.Slot.{Slot}
use Rattle.stamp_machine.specs.declared.slot.Live.{Live}
use Rattle.stamp_machine.proofs.Grows.{going_start, going_else, grow_left, grow_right, moved_parts}

taken_is : {V L : Type 0} (r : Rules V L) (b : Bool) (es : List Entry) (slot over : Slot L) (local : L) →
    ◌≡◌ {A = Turn L} (if b then (record { entries = es; slot = slot_after_chunk r slot local }) else (record { entries = Halt ∷ []; slot = over }))
    (turn_of_opening r (if b then (Goes (record { entries = es; slot = slot }) local) else (Done (record { entries = Halt ∷ []; slot = over }))))
taken_is r true es slot over local = refl
taken_is r false es slot over local = refl

begin_is : {V L : Type 0} (r : Rules V L) (limits : Limits) (slot : Slot L) (local : L) (d : Begin) →
    turn_of_begin r limits (slot_after_end slot) [] local d ≡ turn_of_opening r (opening_of_begin limits (slot_after_end slot) local d)
begin_is r limits slot local End = refl
begin_is r limits slot local Idle = refl
begin_is r limits slot local (Take es) = taken_is r (fits limits slot.words es) es (slot_after_end (record slot { words = slot.words + word_count es })) (slot_after_end slot) local

join_is : {V L : Type 0} (r : Rules V L) (limits : Limits) (number : ℕ) (view : V) (slot : Slot L) (live : Live L) (b : Bool) → r.at_start live.local ≡ b →
    turn_after_join r limits number view slot live ≡ turn_from r limits (key_of number slot) view (Goes (record { entries = live.pending; slot = slot_after_end (slot_after_join slot live) }) live.local)
join_is r limits number view slot live true e =
    let ended = slot_after_end (slot_after_join slot live) in
    let begun = r.begin (view_after r view (under (key_of number slot) live.pending)) live.local in
    let first = turn_of_opening r (task_opening r limits (view_after r view (under (key_of number slot) live.pending)) ended live.local) in
    going_start r limits number view slot live e
    ∙ (ap (prefixed live.pending) (begin_is r limits (slot_after_join slot live) begun.local begun.does)
    ∙ sym (ap (λ (x : Bool). if x then prefixed live.pending first else (record { entries = live.pending; slot = slot_after_chunk r ended live.local })) e))
join_is r limits number view slot live false e =
    let ended = slot_after_end (slot_after_join slot live) in
    let first = turn_of_opening r (task_opening r limits (view_after r view (under (key_of number slot) live.pending)) ended live.local) in
    going_else r limits number view slot live e
    ∙ sym (ap (λ (x : Bool). if x then prefixed live.pending first else (record { entries = live.pending; slot = slot_after_chunk r ended live.local })) e)

chosen : {V L : Type 0} (r : Rules V L) (limits : Limits) (k : Key) (view : V) (over fit : Bool) (ended halted going : Turn L) (work : Turn L) (local : L) → going ≡ turn_from r limits k view (Goes work local) →
    (if over then ended else (if fit then going else halted)) ≡ turn_from r limits k view (if over then (Done ended) else (if fit then (Goes work local) else (Done halted)))
chosen r limits k view true fit ended halted going work local e = refl
chosen r limits k view false true ended halted going work local e = e
chosen r limits k view false false ended halted going work local e = refl

live_is : {V L : Type 0} (r : Rules V L) (limits : Limits) (number : ℕ) (view : V) (slot : Slot L) (o : Option (Live L)) → slot.live ≡ o →
    turn_while_live r limits number view slot o ≡ turn_from r limits (key_of number slot) view (opening_while_live limits slot o)
live_is r limits number view slot None e = ap (λ (o : Option (Live _)). record { entries = []; slot = record slot { live = o } }) e
live_is r limits number view slot (Some live) e =
    chosen r limits (key_of number slot) view (nat_le limits.work slot.clock) (fits limits slot.words live.pending) _ _ _ _ live.local (join_is r limits number view slot live (r.at_start live.local) refl)

-- where a slot goes on after what is pending has joined, it lives, and no limit ends it
pub record IsGoing {L : Type 0} (limits : Limits) (slot : Slot L) (o : Option (Live L)) (t : Turn L) (local : L) : Type 0 where
  pub live : Live L
  pub lives : o ≡ Some live
  pub early : slot.clock < limits.work
  pub room : fits limits slot.words live.pending ≡ true
  pub turn_is : t ≡ record { entries = live.pending; slot = slot_after_end (slot_after_join slot live) }
  pub local_is : local ≡ live.local

done_not_going : {L : Type 0} (d t : Turn L) (local : L) → Done d ≡ Goes t local → ⊥
done_not_going d t local e = cc

same_turn : {L : Type 0} (a b : Turn L) (x y : L) → Goes a x ≡ Goes b y → (b ≡ a) × (y ≡ x)
same_turn a b x y e = (cc, cc)

going_by : {L : Type 0} (limits : Limits) (slot : Slot L) (live : Live L) (over fit : Bool) (ended halted t : Turn L) (local : L) → nat_le limits.work slot.clock ≡ over → fits limits slot.words live.pending ≡ fit →
    (if over then (Done ended) else (if fit then (Goes (record { entries = live.pending; slot = slot_after_end (slot_after_join slot live) }) live.local) else (Done halted))) ≡ Goes t local → IsGoing limits slot (Some live) t local
going_by limits slot live true fit ended halted t local o f e = absurd (done_not_going ended t local e)
going_by limits slot live false false ended halted t local o f e = absurd (done_not_going halted t local e)
going_by limits slot live false true ended halted t local o f e =
    let same = same_turn _ t live.local local e in
    record { live = live; lives = refl; early = grind arith; room = f; turn_is = same.0; local_is = same.1 }

going_live : {L : Type 0} (limits : Limits) (slot : Slot L) (o : Option (Live L)) (t : Turn L) (local : L) → opening_while_live limits slot o ≡ Goes t local → IsGoing limits slot o t local
going_live limits slot None t local e = absurd (done_not_going _ t local e)
going_live limits slot (Some live) t local e = going_by limits slot live (nat_le limits.work slot.clock) (fits limits slot.words live.pending) _ _ t local refl refl e

pub going : {L : Type 0} (limits : Limits) (slot : Slot L) (t : Turn L) (local : L) → pending_opening limits slot ≡ Goes t local → IsGoing limits slot slot.live t local
going limits slot t local e = going_live limits slot slot.live t local e

-- and goes on within the limits
pub can_work : {L : Type 0} (FitsLocal : L → Type 0) (limits : Limits) (slot : Slot L) (t : Turn L) (local : L) → AreLimits limits → IsFittingWhileLive FitsLocal slot.live → pending_opening limits slot ≡ Goes t local → CanWork FitsLocal limits t.slot local
can_work FitsLocal limits slot t local ranges fit e =
    let g = going limits slot t local e in
    let its = subst (IsFittingWhileLive FitsLocal) g.lives fit in
    let within : slot.words + word_count g.live.pending ≤ limits.store - 4 = grind (arith, g.room) in
    record {
      fits = subst FitsLocal (sym g.local_is) its.local;
      store = omega (arith, ap (λ (x : Turn _). x.slot.words) g.turn_is, within);
      early = omega (arith, ap (λ (x : Turn _). x.slot.clock) g.turn_is, g.early, ranges.little_work);
    }

reads_by : (over fit start : Bool) → over ≡ false → fit ≡ true → (not over && (fit && start)) ≡ start
reads_by over fit start o f = ap (λ (x : Bool). not x && (fit && start)) o ∙ ap (λ (x : Bool). x && start) f

-- such a slot's move reads the history where it is between tasks
going_reads : {V L : Type 0} (r : Rules V L) (limits : Limits) (slot : Slot L) (t : Turn L) (local : L) → pending_opening limits slot ≡ Goes t local → reads r limits slot ≡ r.at_start local
going_reads r limits slot t local e =
    let g = going limits slot t local e in
    let over : nat_le limits.work slot.clock ≡ false = grind (arith, g.early) in
    ap (reads_while_live r limits slot.clock slot.words) g.lives
    ∙ (reads_by (nat_le limits.work slot.clock) (fits limits slot.words g.live.pending) (r.at_start g.live.local) over g.room
    ∙ ap r.at_start (sym g.local_is))

unread_by : {V L : Type 0} (r : Rules V L) (limits : Limits) (k : Key) (view : V) (slot : Slot L) (o : Opening L) → pending_opening limits slot ≡ o → reads r limits slot ≡ false → turn_from r limits k view o ≡ turn_of_opening r o
unread_by r limits k view slot (Done t) e h = refl
unread_by r limits k view slot (Goes t local) e h =
    let goes_on : r.at_start local ≡ false = sym (going_reads r limits slot t local e) ∙ h in
    let first = turn_of_opening r (task_opening r limits (view_after r view (under k t.entries)) t.slot local) in
    ap (λ (x : Bool). if x then prefixed t.entries first else turn_of_opening r (Goes t local)) goes_on

-- a slot that goes on and doesn't read may run its chunk
pub going_runs : {V L : Type 0} (r : Rules V L) (FitsLocal : L → Type 0) (limits : Limits) (slot : Slot L) (t : Turn L) (local : L) → AreLimits limits → IsFittingWhileLive FitsLocal slot.live → reads r limits slot ≡ false → pending_opening limits slot ≡ Goes t local → CanRun r FitsLocal t.slot local
going_runs r FitsLocal limits slot t local ranges fit h e =
    let can = can_work FitsLocal limits slot t local ranges fit e in
    record { fits = can.fits; begun = sym (going_reads r limits slot t local e) ∙ h; early = can.early }

pub parts : {V L : Type 0} (r : Rules V L) (limits : Limits) → HaveParts r limits
parts r limits = record {
  whole = λ number view slot. live_is r limits number view slot slot.live refl;
  starts = λ slot t local e. going_reads r limits slot t local e;
  unread = λ number view slot h. live_is r limits number view slot slot.live refl ∙ unread_by r limits (key_of number slot) view slot (pending_opening limits slot) refl h;
}

taken_runs_by : {V L : Type 0} (r : Rules V L) (FitsLocal : L → Type 0) (b : Bool) (t over : Turn L) (local : L) → CanRun r FitsLocal t.slot local → CanRunAfter r FitsLocal (if b then (Goes t local) else (Done over))
taken_runs_by r FitsLocal true t over local can = can
taken_runs_by r FitsLocal false t over local can = tt

module _ (V L : Type 0) (r : Rules V L) (FitsView : V → Type 0) (FitsLocal : L → Type 0) (MayFollow : List KeyedEntry → Entry → Type 0) (Agrees : List KeyedEntry → List (Option (Standing L)) → Type 0)
    (law : IsLawful r FitsView FitsLocal MayFollow Agrees) (limits : Limits) where
  -- a slot that takes a task may run its first chunk
  pub taken_runs : {E : Type 0} (view : V) (slot : Slot L) (local after : L) (es : List Entry) (result : Result (Opening L) E) →
      FitsView view → CanWork FitsLocal limits slot local → r.at_start local ≡ true → (r.begin view local).does ≡ Take es → after ≡ (r.begin view local).local →
      IfOk result (λ opening. opening ≡ opening_of_take limits slot after es) → IfOk result (λ opening. CanRunAfter r FitsLocal opening)
  taken_runs view slot local after es result fits_view can starts does is given =
      IfOk-weaker result (λ opening. opening ≡ opening_of_take limits slot after es) (λ opening. CanRunAfter r FitsLocal opening)
      (λ opening e. subst (CanRunAfter r FitsLocal) (sym e)
      (taken_runs_by r FitsLocal (fits limits slot.words es) (record { entries = es; slot = slot_after_end (record slot { words = slot.words + word_count es }) }) (record { entries = Halt ∷ []; slot = slot_after_end slot }) after
      (record {
        fits = subst FitsLocal (sym is) (law.begin_fits view local fits_view can.fits starts);
        begun = ap r.at_start is ∙ law.take_begins view local es fits_view can.fits starts does;
        early = can.early;
      })))
      given

  module _ (so_far : HistoryView V) (k : Key) (t : Turn L) (local : L) where
    abbrev Whole : Turn L
    Whole = turn_from r limits k so_far.view (Goes t local)

    abbrev Then : V → Turn L
    Then view = turn_of_opening r (task_opening r limits view t.slot local)

    whole_start : r.at_start local ≡ true → Whole ≡ prefixed t.entries (Then (view_after r so_far.view (under k t.entries)))
    whole_start e = ap (λ (x : Bool). if x then prefixed t.entries (Then (view_after r so_far.view (under k t.entries))) else turn_of_opening r (Goes t local)) e

    whole_else : r.at_start local ≡ false → Whole ≡ turn_of_opening r (Goes t local)
    whole_else e = ap (λ (x : Bool). if x then prefixed t.entries (Then (view_after r so_far.view (under k t.entries))) else turn_of_opening r (Goes t local)) e

    abbrev CanGo : List Entry → Type 0
    CanGo es = CanGrow r FitsView MayFollow so_far k es

    pending_grows_by : (b : Bool) → r.at_start local ≡ b → CanGo Whole.entries → CanGo t.entries
    pending_grows_by true e can =
        grow_left V L r FitsView FitsLocal MayFollow Agrees law so_far k t.entries _ (subst (λ (w : Turn L). CanGo w.entries) (whole_start e) can)
    pending_grows_by false e can = subst (λ (w : Turn L). CanGo w.entries) (whole_else e) can

    -- what is pending can join
    pub pending_grows : CanGo Whole.entries → CanGo t.entries
    pending_grows can = pending_grows_by (r.at_start local) refl can

    -- and behind it what the slot begins with
    pub begun_grows : (after : HistoryView V) → CanGo Whole.entries → r.at_start local ≡ true → after ≡ with_entries r so_far k t.entries → CanGrow r FitsView MayFollow after k (Then after.view).entries
    begun_grows after can start grew =
        subst (λ a. CanGrow r FitsView MayFollow a k (Then a.view).entries) (sym grew)
        (grow_right V L r FitsView FitsLocal MayFollow Agrees law so_far k t.entries _ (subst (λ (w : Turn L). CanGo w.entries) (whole_start start) can))

    pub begun_moved : (after : HistoryView V) → r.at_start local ≡ true → after ≡ with_entries r so_far k t.entries → after_move r after k (Then after.view) ≡ after_move r so_far k Whole
    begun_moved after start grew =
        ap (λ a. after_move r a k (Then a.view)) grew
        ∙ (moved_parts r so_far k t.entries (Then (view_after r so_far.view (under k t.entries)))
        ∙ ap (after_move r so_far k) (sym (whole_start start)))
