-- A carrier stands where it stood after it heard the other slots.
use Rattle.std.proofs.Common.{ℕ, ◌≡◌, ◌≢◌, ◌≤◌, ◌<◌, Bool, true, false, List, ◌++◌, length, map, Option, Some, None, refl, sym, ap, ◌∙◌, subst, arith}
use mathlib.Core.Logic.{dite}
use Rattle.std.proofs.Math.Decide.{dec_lt}
use Rattle.std.proofs.lemmas.Bool.Decides.{nat_tests}
use Rattle.clock_words.specs.Seats.{BoardView, IsSeat, SeatView}
use Rattle.commit_order.specs.Merges.{slot_entry}
use Rattle.commit_order.specs.Queues.{Queue}
use Rattle.stamp_machine.specs.Machine.{final}
use Rattle.stamp_machine.specs.Merges.{reads}
use Rattle.stamp_machine.specs.Runs.{entries_by, of_slot, state_of}
use Rattle.stamp_machine.specs.Slots.{key_of}
use Rattle.stamp_machine.specs.declared.limits.Limits.{Limits}
use Rattle.work_stamp.specs.Taskers.{Rules}
use Rattle.work_stamp.specs.declared.key.Key.{Key}
use Rattle.version_store.specs.Advances.{HasSparedLooks, IsEnough}
use Rattle.version_store.specs.Awaiting.{HasAwaited, IsHeardOrWaits}
use Rattle.version_store.specs.Carriers.{IsAtMove, IsStanding, clock_heard}
use Rattle.version_store.specs.Hearing.{CanHearAll, HasHeardOn, HasHeardOthers, IsFound, is_enough}
use Rattle.version_store.specs.Stories.{entry_list}
use Rattle.version_store.specs.declared.heard.Heard.{Heard}
use Rattle.version_store.specs.declared.hearing_all.Short.{Short}
use Rattle.version_store.specs.declared.playing.Playing.{Playing}

-- a clock that is enough by its two cases passes the test
pub enough_test : (key : Key) (other clock : ℕ) → IsEnough key.slot key.stamp other clock →
    other ≢ key.slot → is_enough key other clock ≡ true
enough_test key other clock e apart = dite (dec_lt other key.slot)
    (λ lt. let le : key.stamp < clock = e.smaller lt in grind (arith, nat_tests))
    (λ ge. let lt : key.slot < other = omega (arith, ge, apart) in
    let le : key.stamp ≤ clock = e.larger lt in grind (arith, nat_tests))

-- and one that doesn't pass isn't enough, on either side
pub short_smaller : (key : Key) (other clock : ℕ) → is_enough key other clock ≡ false →
    other < key.slot → clock ≤ key.stamp
short_smaller key other clock e lt = grind (arith, nat_tests)

pub short_larger : (key : Key) (other clock : ℕ) → is_enough key other clock ≡ false →
    key.slot < other → clock < key.stamp
short_larger key other clock e lt = grind (arith, nat_tests)

module _ {V L : Type 0} (r : Rules V L) (FitsView : V → Type 0) (limits : Limits)
    (old new : SeatView) (p : Playing V L) (s : IsStanding r FitsView limits old p) where
  -- the other slots can be heard
  pub can_hear : (key : Key) → key ≡ key_of old.slot p.slot →
      CanHearAll (final r limits).entries limits.slots key.slot old p.merge p.heard
  can_hear key is = subst (λ (n : ℕ). CanHearAll (final r limits).entries limits.slots n old p.merge p.heard)
      (sym (ap (λ (k : Key). k.slot) is)) (record {
        each = λ slot lt apart. record {
          count = s.at.heard.counts slot lt apart;
          last = s.at.heard.last slot lt apart;
          seen = s.fetched.clocks slot lt apart;
          within = s.at.queues;
          size = s.at.heard.size;
        };
      })

  module _ (after : List Queue) (heard : List Heard)
      (others : HasHeardOthers (key_of old.slot p.slot) old new p.heard)
      (on : HasHeardOn (final r limits).entries limits.slots old.slot old new p.merge after p.heard heard)
    where
      at_still : IsAtMove r FitsView limits old.slot (record p { merge = after; heard = heard })
      at_still = record {
        done = s.at.done;
        left = s.at.left;
        whole = s.at.whole;
        past = s.at.past;
        view_is = s.at.view_is;
        view_fits = s.at.view_fits;
        mine_is = s.at.mine_is;
        own = ap (λ (q : Queue). of_slot old.slot s.at.done ++ map (slot_entry old.slot) q.entries) on.own
            ∙ s.at.own;
        last = subst (λ (q : Queue). q.last_stamp ≤ (state_of r limits (final r limits).entries old.slot p.moves).clock)
            (sym on.own) s.at.last;
        heard = record {
          logs = λ slot lt apart. on.waits slot lt apart (of_slot slot s.at.done) (s.at.heard.logs slot lt apart);
          counts = λ slot lt apart. (on.can.each slot lt apart).count;
          last = λ slot lt apart. (on.can.each slot lt apart).last;
          size = on.heard_size ∙ s.at.heard.size;
        };
        queues = on.queues_size ∙ s.at.queues;
      }

      pub stands_still : IsStanding r FitsView limits new (record p { merge = after; heard = heard })
      stands_still = record {
        ranges = s.ranges;
        number = subst (λ (n : ℕ). n < limits.slots) (sym others.own_slot) s.number;
        state = s.state ∙ ap (λ (n : ℕ). state_of r limits (final r limits).entries n p.moves) (sym others.own_slot);
        few = s.few;
        at = subst (λ (n : ℕ). IsAtMove r FitsView limits n (record p { merge = after; heard = heard }))
            (sym others.own_slot) at_still;
        seated = record {
          owns = subst (λ (b : BoardView). IsSeat b new) (sym others.seat.same) others.seat;
          story = ap (λ (b : BoardView). b.story) others.seat.same ∙ s.seated.story;
          own = others.own ∙ s.seated.own;
          put = others.written ∙ (s.seated.put
              ∙ ap (λ (n : ℕ). length (entry_list (entries_by r limits (final r limits).entries n p.moves))) (sym others.own_slot));
        };
        fetched = record {
          clocks = λ slot lt apart. (on.can.each slot lt (λ e. apart (e ∙ sym others.own_slot))).seen;
          words = λ slot lt apart. on.words slot lt (λ e. apart (e ∙ sym others.own_slot))
              (s.fetched.words slot lt (λ e. apart (e ∙ sym others.own_slot)));
        };
      }

      heard_or_waits : reads r limits p.slot ≡ true → (found : Option Short) →
          IsFound limits.slots (key_of old.slot p.slot) old new heard found →
          IsHeardOrWaits r limits old new p (record p { merge = after; heard = heard }) found
      heard_or_waits reading None enough = enough
      heard_or_waits reading (Some short) is = record {
        reading = reading;
        other = is.other;
        within = is.within;
        looked = is.looked;
        found = is.found;
        smaller = λ lt. short_smaller (key_of old.slot p.slot) short.slot short.clock is.little lt;
        larger = λ lt. short_larger (key_of old.slot p.slot) short.slot short.clock is.little lt;
        slot_stays = refl;
        view_stays = refl;
        moves_stay = refl;
        put_stays = others.written;
        clock_stays = others.own;
      }

  -- what comes of hearing the others
  pub awaited : (key : Key) → key ≡ key_of old.slot p.slot → reads r limits p.slot ≡ true →
      (after : List Queue) (heard : List Heard) (found : Option Short) →
      HasHeardOthers key old new p.heard →
      HasHeardOn (final r limits).entries limits.slots key.slot old new p.merge after p.heard heard →
      IsFound limits.slots key old new heard found →
      HasAwaited r FitsView limits old new p (record p { merge = after; heard = heard }) found
  awaited key is reading after heard found others on out =
      let others' = subst (λ (k : Key). HasHeardOthers k old new p.heard) is others in
      let on' = subst (λ (k : Key). HasHeardOn (final r limits).entries limits.slots k.slot old new p.merge after p.heard heard) is on in
      let out' = subst (λ (k : Key). IsFound limits.slots k old new heard found) is out in
      record {
        stands = stands_still after heard others' on';
        stays = refl;
        outcome = heard_or_waits after heard others' on' reading found out';
      }

  -- only slots of which too little was heard were looked at
  pub spared_looks : (key : Key) → key ≡ key_of old.slot p.slot → reads r limits p.slot ≡ true →
      HasHeardOthers key old new p.heard → HasSparedLooks r limits old new p
  spared_looks key is reading others =
      let others' = subst (λ (k : Key). HasHeardOthers k old new p.heard) is others in
      record {
        unread = λ unread. absurd (never (reads r limits p.slot) reading unread);
        enough = λ slot lt e. others'.spared slot
            (λ apart. enough_test (key_of old.slot p.slot) slot (clock_heard p.heard slot) e apart);
      } where
        never : (b : Bool) → b ≡ true → b ≡ false → ⊥
        never b e f = cc
