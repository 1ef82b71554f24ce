-- What a carrier at its slot's end has: the slot of the machine's last state, and all of its entries.
use Rattle.std.proofs.Common.{◌≡◌, ℕ, ◌<◌, true, List, length, Option, Some, None, refl, sym, ap, ◌∙◌, subst}
use Rattle.std.specs.Prelude.{not}
use Rattle.clock_words.specs.Seats.{SeatView}
use Rattle.commit_order.specs.Queues.{Queue, empty_queue, queue_of}
use Rattle.stamp_machine.specs.Machine.{final}
use Rattle.stamp_machine.specs.Runs.{of_slot, state_of}
use Rattle.stamp_machine.specs.Slots.{at}
use Rattle.stamp_machine.specs.declared.limits.Limits.{Limits}
use Rattle.stamp_machine.specs.declared.slot.Live.{Live}
use Rattle.stamp_machine.specs.declared.slot.Slot.{Slot}
use Rattle.stamp_machine.proofs.Histories.{slot_sorted}
use Rattle.stamp_machine.proofs.Occurrences.{ends_known, over_last}
use Rattle.work_stamp.specs.Taskers.{IsLawful, Rules, Standing}
use Rattle.work_stamp.specs.declared.entry.Entry.{Entry}
use Rattle.work_stamp.specs.declared.stamped.KeyedEntry.{KeyedEntry}
use Rattle.version_store.specs.Advances.{ended_while_whole, has_live}
use Rattle.version_store.specs.Carriers.{IsStanding, IsStandingWhileWhole}
use Rattle.version_store.specs.declared.playing.Playing.{Playing}
use Rattle.version_store.proofs.FedEntries.{CanFeedBoth, feeds_both}

not_live : {L : Type 0} (live : Option (Live L)) → not (has_live live) ≡ true → live ≡ None
not_live None h = refl
not_live (Some live) h = absurd cc

-- a carrier at its slot's end isn't broken
pub ended_is_whole : {V L : Type 0} (o : Option (Playing V L)) → ended_while_whole o ≡ true →
    o ≡ None → ⊥
ended_is_whole None h e = absurd cc
ended_is_whole (Some p) h e = absurd cc

module _ (V L : Type 0) (r : Rules V L) (FitsView : V → Type 0) (FitsLocal : L → Type 0)
    (MayFollow : List KeyedEntry → Entry → Type 0)
    (Agrees : List KeyedEntry → List (Option (Standing L)) → Type 0)
    (law : IsLawful r FitsView FitsLocal MayFollow Agrees) (limits : Limits) where
  -- the parts of a carrier at its slot's end
  pub record HasPublished (seat : SeatView) (p : Playing V L) : Type 0 where
    pub within : seat.slot < length p.merge
    pub last : at (final r limits).slots seat.slot ≡ Some p.slot
    pub feeds : (queues : List Queue) → seat.slot < length queues →
        queue_of queues seat.slot ≡ empty_queue →
        CanFeedBoth queues seat.slot p.mine (queue_of p.merge seat.slot).entries
        (of_slot seat.slot (final r limits).entries)

  published : (seat : SeatView) (p : Playing V L) → IsStanding r FitsView limits seat p →
      not (has_live p.slot.live) ≡ true → HasPublished seat p
  published seat p h ended =
      let over : (state_of r limits (final r limits).entries seat.slot p.moves).live ≡ None =
      sym (ap (λ (s : Slot L). s.live) h.state) ∙ not_live p.slot.live ended in
      let there = over_last V L r FitsView FitsLocal MayFollow Agrees law limits h.ranges seat.slot
      p.moves h.number over in
      let known = ends_known V L r FitsView FitsLocal MayFollow Agrees law limits h.ranges seat.slot
      p.moves h.number over in
      record {
        within = subst (λ (n : ℕ). seat.slot < n) (sym h.at.queues) h.number;
        last = there ∙ ap Some (sym h.state);
        feeds = λ queues within fresh. feeds_both queues seat.slot h.at.done p.mine
            (queue_of p.merge seat.slot).entries (of_slot seat.slot (final r limits).entries) within
            fresh h.at.mine_is (h.at.own ∙ sym known)
            (slot_sorted V L r FitsView FitsLocal MayFollow Agrees law limits h.ranges seat.slot);
      }

  published_by : (seat : SeatView) (o : Option (Playing V L)) (p : Playing V L) → o ≡ Some p →
      ended_while_whole o ≡ true → IsStandingWhileWhole r FitsView limits seat o → HasPublished seat p
  published_by seat None p e h s = absurd cc
  published_by seat (Some q) p e h s =
      let same : q ≡ p = cc in
      subst (HasPublished seat) same (published seat q s h)

  -- the same of a carrier whose parts were taken out
  pub published_whole : (seat : SeatView) (o result : Option (Playing V L)) (p : Playing V L) →
      result ≡ o → result ≡ Some p → ended_while_whole o ≡ true →
      IsStandingWhileWhole r FitsView limits seat result → HasPublished seat p
  published_whole seat o result p is some h s =
      published_by seat result p some (ap ended_while_whole is ∙ h) s
