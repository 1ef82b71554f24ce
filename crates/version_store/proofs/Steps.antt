-- A step of a carrier's parts, and the advance that it makes.
use Rattle.std.proofs.Common.{ℕ, ◌≡◌, ◌<◌, length, Bool, true, false, Option, Some, None, Result, Ok, Err, refl, sym, ap, ◌∙◌, subst}
use Rattle.std.specs.Prelude.{IfOk}
use Rattle.clock_words.specs.Seats.{BoardView, IsSeat, SeatView}
use Rattle.ip_core.specs.declared.memory.OutOfMemory.{OutOfMemory}
use Rattle.stamp_machine.specs.Machine.{slot_after_chunk}
use Rattle.stamp_machine.specs.declared.limits.Limits.{Limits}
use Rattle.stamp_machine.specs.declared.slot.Live.{Live}
use Rattle.work_stamp.specs.Taskers.{Rules}
use Rattle.version_store.specs.Advances.{GoesOn, IsBlocked, IsDone, OpenFails, StepEnds, StepFails, StepMoves, StepWaits, Moves, Ends, Waits, Breaks, HasAdvanced, HasOpened, HasSparedLooks, HasStepped, IsMove, IsSameSeat, advance_of, advance_while_live, has_live, moved_outcome, playing_of, stepped}
use Rattle.version_store.specs.Carriers.{CarrierView, HasBegun, IsStanding, IsStandingWhileWhole, IsWhole, carrier_view}
use Rattle.version_store.specs.declared.advance.Advance.{Advance}
use Rattle.version_store.specs.declared.advance.Advance.TheVariants.{Moved, Blocked, Ended}
use Rattle.version_store.specs.declared.playing.Parts.{Parts}
use Rattle.version_store.specs.declared.playing.Playing.{Playing}
use Rattle.version_store.specs.declared.playing.Start.TheVariants as start
use Rattle.version_store.specs.declared.playing.Stepped.{Stepped}

live_moved : {L : Type 0} (live : Option (Live L)) → has_live live ≡ true →
    advance_while_live live ≡ Moved
live_moved None e = cc
live_moved (Some live) e = refl

over_ended : {L : Type 0} (live : Option (Live L)) → has_live live ≡ false →
    advance_while_live live ≡ Ended
over_ended None e = refl
over_ended (Some live) e = cc

module _ {V L : Type 0} (r : Rules V L) (FitsView : V → Type 0) (FitsLocal : L → Type 0)
    (limits : Limits) (old new : SeatView) (p : Playing V L) where
  after_done : (q : Playing V L) → IsStanding r FitsView limits new q →
      IsMove r limits old.slot p q.slot q.view q.moves →
      (has_live q.slot.live ≡ true → p.slot.clock < q.slot.clock) → (b : Bool) →
      has_live q.slot.live ≡ b → HasStepped r FitsView limits old new p (Ok (stepped q))
  after_done q s m up true e = StepMoves q
      (ap (λ (a : Advance). let x : Result (Stepped V L) OutOfMemory = Ok (record { playing = q; advance = a }) in x) (live_moved q.slot.live e))
      s m e (up e)
  after_done q s m up false e = StepEnds q
      (ap (λ (a : Advance). let x : Result (Stepped V L) OutOfMemory = Ok (record { playing = q; advance = a }) in x) (over_ended q.slot.live e))
      s m e

  pub done_steps : (q : Playing V L) →
      HasOpened r FitsView FitsLocal limits old new p (Ok (start.Done q)) →
      HasStepped r FitsView limits old new p (Ok (stepped q))
  done_steps q (IsDone q' e s m up) = let same : q' ≡ q = cc in
      subst (λ (x : Playing V L). HasStepped r FitsView limits old new p (Ok (stepped x))) same
      (after_done q' s m up (has_live q'.slot.live) refl)
  done_steps q (IsBlocked q' slot clock e s w) = absurd cc
  done_steps q (GoesOn q' local e b m up) = absurd cc
  done_steps q (OpenFails x e) = absurd cc

  pub blocked_steps : (q : Playing V L) (slot clock : ℕ) →
      HasOpened r FitsView FitsLocal limits old new p (Ok (start.Blocked q slot clock)) →
      HasStepped r FitsView limits old new p
      (Ok (record { playing = q; advance = Blocked slot clock }))
  blocked_steps q slot clock (IsDone q' e s m up) = absurd cc
  blocked_steps q slot clock (IsBlocked q' slot' clock' e s w) =
      let is : ◌≡◌ {A = Result (Stepped V L) OutOfMemory}
      (Ok (record { playing = q; advance = Blocked slot clock }))
      (Ok (record { playing = q'; advance = Blocked slot' clock' })) = cc in
      StepWaits q' slot' clock' is s w
  blocked_steps q slot clock (GoesOn q' local e b m up) = absurd cc
  blocked_steps q slot clock (OpenFails x e) = absurd cc

  -- what is done of a move that goes on with its chunk
  pub record HasGone (q : Playing V L) (local : L) : Type 0 where
    pub begun : HasBegun r FitsView FitsLocal limits new q local
    pub move : IsMove r limits old.slot p (slot_after_chunk r q.slot local) q.view q.moves
    pub later : p.slot.clock < (slot_after_chunk r q.slot local).clock

  pub goes : (q : Playing V L) (local : L) →
      HasOpened r FitsView FitsLocal limits old new p (Ok (start.Goes q local)) → HasGone q local
  goes q local (IsDone q' e s m up) = absurd cc
  goes q local (IsBlocked q' slot clock e s w) = absurd cc
  goes q local (GoesOn q' local' e b m up) =
      let same : q' ≡ q = cc in
      let same_local : local' ≡ local = cc in
      subst (λ (x : Playing V L). HasGone x local) same
      (subst (λ (x : L). HasGone q' x) same_local (record { begun = b; move = m; later = up }))
  goes q local (OpenFails x e) = absurd cc

-- a seat of which all but the own clock is as before
module _ (old new : SeatView) (same : record new { own = 0 } ≡ record old { own = 0 }) where
  pub board_kept : new.board ≡ old.board
  board_kept = ap (λ (s : SeatView). s.board) same

  pub slot_kept : new.slot ≡ old.slot
  slot_kept = ap (λ (s : SeatView). s.slot) same

  pub looks_kept : new.looks ≡ old.looks
  looks_kept = ap (λ (s : SeatView). s.looks) same

  pub seat_kept : (board : BoardView) → IsSeat board old → IsSeat board new
  seat_kept board s = record {
    same = board_kept ∙ s.same;
    own_slot = subst (λ (n : ℕ). n < board.shape.slots) (sym slot_kept) s.own_slot;
    size = ap (λ (s : SeatView). length s.seen) same ∙ s.size;
    looks_size = ap (λ (s : SeatView). length s.looks) same ∙ s.looks_size;
    fetched_size = ap (λ (s : SeatView). length s.fetched) same ∙ s.fetched_size;
  }

module _ {V L : Type 0} (r : Rules V L) (FitsView : V → Type 0) (FitsLocal : L → Type 0)
    (limits : Limits) where
  -- a seat all of which but the own clock is as before, and which stands at the chunk's end
  chunk_stands : (seat : SeatView) (own : ℕ) (q : Playing V L) (local : L) →
      HasBegun r FitsView FitsLocal limits seat q local →
      own ≡ (slot_after_chunk r q.slot local).clock →
      IsStanding r FitsView limits (record seat { own = own })
      (record q { slot = slot_after_chunk r q.slot local })
  chunk_stands seat own q local b is = record {
    ranges = b.ranges;
    number = b.number;
    state = b.state;
    few = b.few;
    at = record {
      done = b.at.done;
      left = b.at.left;
      whole = b.at.whole;
      past = b.at.past;
      view_is = b.at.view_is;
      view_fits = b.at.view_fits;
      mine_is = b.at.mine_is;
      own = b.at.own;
      last = b.at.last;
      heard = b.at.heard;
      queues = b.at.queues;
    };
    seated = record {
      owns = record {
        same = b.seated.owns.same;
        own_slot = b.seated.owns.own_slot;
        size = b.seated.owns.size;
        looks_size = b.seated.owns.looks_size;
        fetched_size = b.seated.owns.fetched_size;
      };
      story = b.seated.story;
      own = is;
      put = b.seated.put;
    };
    fetched = record { clocks = b.fetched.clocks; words = b.fetched.words };
  }

  own_again : (old new : SeatView) → record new { own = 0 } ≡ record old { own = 0 } →
      record old { own = new.own } ≡ new
  own_again old new same = ap (λ (s : SeatView). let x : SeatView = record s { own = new.own } in x)
      (sym same)

  pub goes_stand : (seat new : SeatView) (q after : Playing V L) (local : L) →
      HasBegun r FitsView FitsLocal limits seat q local →
      record new { own = 0 } ≡ record seat { own = 0 } →
      after ≡ record q { slot = slot_after_chunk r q.slot local } →
      new.own ≡ after.slot.clock → IsStanding r FitsView limits new after
  goes_stand seat new q after local b same is own =
      subst (λ (x : Playing V L). IsStanding r FitsView limits new x) (sym is)
      (subst (λ (s : SeatView). IsStanding r FitsView limits s
      (record q { slot = slot_after_chunk r q.slot local })) (own_again seat new same)
      (chunk_stands seat new.own q local b (own ∙ ap (λ (x : Playing V L). x.slot.clock) is)))

  -- a move that went on with its chunk
  pub gone_steps : (old seat new : SeatView) (p q : Playing V L) (local : L)
      (outcome : Result (Playing V L) OutOfMemory) →
      HasGone r FitsView FitsLocal limits old seat p q local →
      record new { own = 0 } ≡ record seat { own = 0 } →
      IfOk outcome (λ after. after ≡ record q { slot = slot_after_chunk r q.slot local }) →
      IfOk outcome (λ after. new.own ≡ after.slot.clock) →
      HasStepped r FitsView limits old new p (moved_outcome outcome)
  gone_steps old seat new p q local (Err e) g same is own = StepFails e refl
  gone_steps old seat new p q local (Ok after) g same is own =
      let s : IsStanding r FitsView limits new after =
      goes_stand seat new q after local g.begun same is own in
      let P : Playing V L → Type 0 = λ x. (IsMove r limits old.slot p x.slot x.view x.moves)
      × ((has_live x.slot.live ≡ true) × (p.slot.clock < x.slot.clock)) in
      let t : P after = subst P (sym is) (g.move, (refl, g.later)) in
      StepMoves after refl s t.0 t.1.0 t.1.1

-- an advance that a step makes
module _ {T V L : Type 0} (tasker : T) (r : Rules V L) (FitsView : V → Type 0) (limits : Limits)
    (old new : SeatView) (p : Playing V L) (looks : HasSparedLooks r limits old new p) where
  abbrev pub carrier_of : SeatView → Option (Playing V L) → CarrierView T V L
  carrier_of seat playing =
      record { tasker = tasker; limits = limits; seat = seat; playing = playing }

  pub steps_advance : (outcome : Result (Stepped V L) OutOfMemory) →
      HasStepped r FitsView limits old new p outcome →
      HasAdvanced r (carrier_of old (Some p)) (carrier_of new (playing_of outcome))
      (advance_of outcome)
  steps_advance outcome (StepMoves q e s m lives later) =
      let P : Result (Stepped V L) OutOfMemory → Type 0 = λ x. HasAdvanced r (carrier_of old (Some p)) (carrier_of new (playing_of x)) (advance_of x) in
      subst P (sym e) (Moves p q refl refl refl m lives later looks)
  steps_advance outcome (StepEnds q e s m over) =
      let P : Result (Stepped V L) OutOfMemory → Type 0 = λ x. HasAdvanced r (carrier_of old (Some p)) (carrier_of new (playing_of x)) (advance_of x) in
      subst P (sym e) (Ends p q refl refl refl m over looks)
  steps_advance outcome (StepWaits q slot clock e s w) =
      let P : Result (Stepped V L) OutOfMemory → Type 0 = λ x. HasAdvanced r (carrier_of old (Some p)) (carrier_of new (playing_of x)) (advance_of x) in
      subst P (sym e) (Waits p q slot clock refl refl refl w looks)
  steps_advance outcome (StepFails x e) =
      let P : Result (Stepped V L) OutOfMemory → Type 0 = λ x. HasAdvanced r (carrier_of old (Some p)) (carrier_of new (playing_of x)) (advance_of x) in
      subst P (sym e) (Breaks x refl refl)

  -- what is left of the parts is whole
  pub steps_whole : (outcome : Result (Stepped V L) OutOfMemory) → IsSameSeat old new →
      HasStepped r FitsView limits old new p outcome →
      IsWhole r FitsView limits (record { seat = new; playing = playing_of outcome })
  steps_whole outcome same step = record { seat = board_own new old.board same.seat; stands = stands outcome step } where
    board_own : (s : SeatView) (board : BoardView) → IsSeat board s → IsSeat s.board s
    board_own s board is = subst (λ (b : BoardView). IsSeat b s) (sym is.same) is

    stands : (outcome : Result (Stepped V L) OutOfMemory) →
        HasStepped r FitsView limits old new p outcome →
        IsStandingWhileWhole r FitsView limits new (playing_of outcome)
    stands outcome (StepMoves q e s m lives later) = subst (λ (x : Result (Stepped V L) OutOfMemory). IsStandingWhileWhole r FitsView limits new (playing_of x)) (sym e) s
    stands outcome (StepEnds q e s m over) = subst (λ (x : Result (Stepped V L) OutOfMemory). IsStandingWhileWhole r FitsView limits new (playing_of x)) (sym e) s
    stands outcome (StepWaits q slot clock e s w) = subst (λ (x : Result (Stepped V L) OutOfMemory). IsStandingWhileWhole r FitsView limits new (playing_of x)) (sym e) s
    stands outcome (StepFails x e) = subst (λ (x : Result (Stepped V L) OutOfMemory). IsStandingWhileWhole r FitsView limits new (playing_of x)) (sym e) tt

-- the same over a carrier's parts
pub carrier_advances : {T V L : Type 0} (tasker : T) (r : Rules V L) (FitsView : V → Type 0)
    (limits inside_limits : Limits) (parts : Option (Parts V L)) (self : CarrierView T V L)
    (old new : SeatView) (playing : Option (Playing V L)) (p : Playing V L)
    (outcome : Result (Stepped V L) OutOfMemory) (after : Parts V L)
    (advance : Result Advance OutOfMemory) →
    carrier_view tasker inside_limits parts ≡ self → self.limits ≡ limits →
    parts ≡ Some (record { seat = old; playing = playing }) → playing ≡ Some p →
    HasSparedLooks r limits old new p → HasStepped r FitsView limits old new p outcome →
    after ≡ record { seat = new; playing = playing_of outcome } → advance ≡ advance_of outcome →
    HasAdvanced r self (record {
      tasker = tasker;
      limits = inside_limits;
      seat = after.seat;
      playing = after.playing;
    }) advance
carrier_advances tasker r FitsView limits inside_limits parts self old new playing p outcome after advance view_is is_limits parts_is playing_is looks step after_is advance_is =
    let whole : self ≡ record { tasker = tasker; limits = inside_limits; seat = old; playing = Some p } =
    sym view_is ∙ (ap (carrier_view tasker inside_limits) parts_is
    ∙ ap (λ (o : Option (Playing _ _)). let c : CarrierView _ _ _ = record { tasker = tasker; limits = inside_limits; seat = old; playing = o } in c) playing_is) in
    let same : limits ≡ inside_limits = sym is_limits ∙ ap (λ (c : CarrierView _ _ _). c.limits) whole in
    let P : Limits → Type 0 = λ l. HasAdvanced r (record { tasker = tasker; limits = l; seat = old; playing = Some p }) (record { tasker = tasker; limits = l; seat = new; playing = playing_of outcome }) (advance_of outcome) in
    let done : P inside_limits = subst P same (steps_advance tasker r FitsView limits old new p looks outcome step) in
    subst (λ (c : CarrierView _ _ _). HasAdvanced r c (record { tasker = tasker; limits = inside_limits; seat = after.seat; playing = after.playing }) advance) (sym whole)
    (subst (λ (a : Result Advance OutOfMemory). HasAdvanced r (record { tasker = tasker; limits = inside_limits; seat = old; playing = Some p }) (record { tasker = tasker; limits = inside_limits; seat = after.seat; playing = after.playing }) a) (sym advance_is)
    (subst (λ (x : Parts _ _). HasAdvanced r (record { tasker = tasker; limits = inside_limits; seat = old; playing = Some p }) (record { tasker = tasker; limits = inside_limits; seat = x.seat; playing = x.playing }) (advance_of outcome)) (sym after_is) done))
