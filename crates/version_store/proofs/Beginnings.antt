-- A carrier before its slot's first move.
use Rattle.std.proofs.Common.{ℕ, zero, suc, ◌<◌, ◌≡◌, List, [], ◌∷◌, map, replicate, get_or, Option, Some, refl, sym, ap, ◌∙◌, subst, arith}
use Rattle.std.specs.Prelude.{nat_lt, false}
use Rattle.std.proofs.lemmas.Bool.Decides.{nat_tests}
use Rattle.std.proofs.lemmas.List.{length-replicate}
use Rattle.clock_words.specs.Seats.{IsSeat, SeatView}
use Rattle.clock_words.specs.Stories.{due}
use Rattle.clock_words.proofs.DueWords.{none_due_at_first}
use Rattle.commit_order.specs.Merges.{slot_entry, waiting_entries}
use Rattle.commit_order.specs.Queues.{Queue, empty_queue}
use Rattle.stamp_machine.specs.Limits.{AreLimits}
use Rattle.stamp_machine.specs.Machine.{final}
use Rattle.stamp_machine.specs.Orders.{Each}
use Rattle.stamp_machine.specs.Runs.{log, of_slot}
use Rattle.stamp_machine.specs.declared.limits.Limits.{Limits}
use Rattle.stamp_machine.proofs.Orders.{filter_none}
use Rattle.work_stamp.specs.Taskers.{IsLawful, Rules, Standing}
use Rattle.work_stamp.specs.declared.entry.Entry.{Entry}
use Rattle.work_stamp.specs.declared.stamped.KeyedEntry.{KeyedEntry}
use Rattle.version_store.specs.Carriers.{IsStanding, IsWhole, fresh_playing}
use Rattle.version_store.specs.Stories.{entry_list, run_lists}
use Rattle.version_store.specs.declared.heard.Heard.{Heard}
use Rattle.version_store.specs.declared.playing.Playing.{Playing}
use Rattle.version_store.proofs.EntryWords.{log_is}

same_each : {A : Type 0} (count slot : ℕ) (x : A) → get_or (replicate count x) slot x ≡ x
same_each zero slot x = refl
same_each (suc count) zero x = refl
same_each (suc count) (suc slot) x = same_each count slot x

abbrev none_heard : Heard
none_heard = record { clock = 0; count = 0 }

none_below : (es : List KeyedEntry) → Each (λ e. nat_lt e.key.stamp 0 ≡ false) es
none_below [] = tt
none_below (e ∷ es) = (grind (arith, nat_tests), none_below es)

none_waits : (count slot : ℕ) → waiting_entries (replicate count empty_queue) slot ≡ []
none_waits count slot = ap (λ (q : Queue). map (slot_entry slot) q.entries) (same_each count slot empty_queue)

none_logged : (slot : ℕ) (history : List KeyedEntry) → log slot 0 history ≡ []
none_logged slot history = sym (log_is slot 0 history)
    ∙ filter_none (λ (e : KeyedEntry). nat_lt e.key.stamp 0) (of_slot slot history) (none_below (of_slot slot history))

module _ (V L : Type 0) (r : Rules V L) (FitsView : V → Type 0) (FitsLocal : L → Type 0)
    (MayFollow : List KeyedEntry → Entry → Type 0)
    (Agrees : List KeyedEntry → List (Option (Standing L)) → Type 0)
    (law : IsLawful r FitsView FitsLocal MayFollow Agrees) (limits : Limits)
    (ranges : AreLimits limits) where
  pub fresh_stands : (seat : SeatView) → IsSeat seat.board seat → seat.board.story ≡ run_lists r limits →
      seat.slot < limits.slots → seat.own ≡ 0 → seat.written ≡ 0 →
      IsStanding r FitsView limits seat (fresh_playing r limits seat.slot)
  fresh_stands seat is story within own put = record {
    ranges = ranges;
    number = within;
    state = refl;
    few = omega arith;
    at = record {
      done = [];
      left = (final r limits).entries;
      whole = refl;
      past = record { each = tt };
      view_is = refl;
      view_fits = law.fresh_view_fits;
      mine_is = refl;
      own = none_waits limits.slots seat.slot;
      last = let q = ap (λ (x : Queue). x.last_stamp) (same_each limits.slots seat.slot empty_queue) in omega (arith, q);
      heard = record {
        logs = λ slot lt apart. let h = same_each limits.slots slot none_heard in
            none_waits limits.slots slot ∙ sym (ap (λ (x : Heard). log slot x.clock (final r limits).entries) h ∙ none_logged slot (final r limits).entries);
        counts = λ slot lt apart. let h = same_each limits.slots slot none_heard in
            ap (λ (x : Heard). x.count) h ∙ sym (ap (λ (x : Heard). due (entry_list (of_slot slot (final r limits).entries)) x.clock) h ∙ none_due_at_first (entry_list (of_slot slot (final r limits).entries)));
        last = λ slot lt apart. let q = ap (λ (x : Queue). x.last_stamp) (same_each limits.slots slot empty_queue) in omega (arith, q);
        size = length-replicate limits.slots none_heard;
      };
      queues = length-replicate limits.slots empty_queue;
    };
    seated = record { owns = is; story = story; own = own; put = put };
    fetched = record {
      clocks = λ slot lt apart. let h = ap (λ (x : Heard). x.clock) (same_each limits.slots slot none_heard) in omega (arith, h);
      words = λ slot lt apart. let h = ap (λ (x : Heard). x.count) (same_each limits.slots slot none_heard) in omega (arith, h);
    };
  }

  pub fresh_whole : (r' : Rules V L) (F' : V → Type 0) → r' ≡ r → F' ≡ FitsView → (seat : SeatView) (p : Playing V L) → p ≡ fresh_playing r limits seat.slot →
      IsSeat seat.board seat → seat.board.story ≡ run_lists r limits →
      seat.slot < limits.slots → seat.own ≡ 0 → seat.written ≡ 0 →
      IsWhole r' F' limits (record { seat = seat; playing = Some p })
  fresh_whole r' F' er eF seat p e is story within own put = record {
    seat = is;
    stands = subst (λ (x : Rules V L). IsStanding x F' limits seat p) (sym er)
        (subst (λ (x : V → Type 0). IsStanding r x limits seat p) (sym eF)
        (subst (λ (x : Playing V L). IsStanding r FitsView limits seat x) (sym e) (fresh_stands seat is story within own put)));
  }
