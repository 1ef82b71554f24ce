-- A move of a live slot keeps what the laws of tasks promise.
use Rattle.std.proofs.Common.{◌≡◌, ℕ, ◌+◌, ◌-◌, ◌<◌, ◌≤◌, ◌^◌, true, false, List, [], ◌∷◌, ◌++◌, length, set, get_or, Option, Some, None, refl, sym, ap, ◌∙◌, subst, append_assoc, length-append, arith}
use Rattle.std.specs.Prelude.{nat_le}
use Rattle.std.proofs.lemmas.List.{append-nil}
use Rattle.std.proofs.lemmas.List.Elements.{All-append, All-cons, All-nil}
use Rattle.work_stamp.specs.Histories.{keyed_entry, under, FollowInTurn}
use Rattle.work_stamp.specs.Taskers.{Rules, Standing, standing, view_after, view_of, IsLawful, CanJoin, HaveWords}
use Rattle.work_stamp.specs.Writable.{HasWords}
use Rattle.work_stamp.specs.declared.entry.Entry.{Entry}
use Rattle.work_stamp.specs.declared.entry.Entry.TheVariants.{Halt}
use Rattle.work_stamp.specs.declared.key.Key.{Key}
use Rattle.work_stamp.specs.declared.stamped.KeyedEntry.{KeyedEntry}
use Rattle.work_stamp.specs.declared.task.Begin.{Begin}
use Rattle.work_stamp.specs.declared.task.Begin.TheVariants.{Take, Idle, End}
use Rattle.stamp_machine.specs.Slots.{key_of, slot_after_end}
use Rattle.stamp_machine.specs.Machine.{word_count, fits, slot_after_chunk, slot_after_join, slot_after_idle, turn_of_begin, turn_after_begin, turn_while_live}
use Rattle.stamp_machine.specs.Kept.{IsFitting, IsKept}
use Rattle.stamp_machine.specs.declared.limits.Limits.{Limits}
use Rattle.stamp_machine.specs.declared.opening.Turn.{Turn}
use Rattle.stamp_machine.specs.declared.slot.Slot.{Slot}
use Rattle.stamp_machine.specs.declared.slot.Live.{Live}
use Rattle.stamp_machine.proofs.Choices.{by_test}
use Rattle.stamp_machine.proofs.Places.{at-get_or, get_or-at, at-set_same, set-set, set-at}
use Rattle.stamp_machine.proofs.Follows.{under-append, length-under, view_after-append, follow-append}

-- each entry has three words or more
pub some_words : (es : List Entry) → length es ≤ word_count es
some_words [] = omega arith
some_words (e ∷ es) =
    omega (arith, some_words es)

pub word_count-append : (xs ys : List Entry) → word_count (xs ++ ys) ≡ word_count xs + word_count ys
word_count-append [] ys = omega arith
word_count-append (x ∷ xs) ys = omega (arith, word_count-append xs ys)

no_words : HaveWords []
no_words = record { each = All-nil HasWords }

halt_words : HaveWords (Halt ∷ [])
halt_words = record { each = All-cons HasWords Halt [] (record { writable = tt; in_range = tt }) (All-nil HasWords) }

words-append : (xs ys : List Entry) → HaveWords xs → HaveWords ys → HaveWords (xs ++ ys)
words-append xs ys p q = record { each = All-append HasWords xs ys p.each q.each }

module _ (V L : Type 0) (r : Rules V L) (FitsView : V → Type 0) (FitsLocal : L → Type 0) (MayFollow : List KeyedEntry → Entry → Type 0) (Agrees : List KeyedEntry → List (Option (Standing L)) → Type 0)
    (law : IsLawful r FitsView FitsLocal MayFollow Agrees) where
  -- the view of a history goes on fitting
  pub views_fit : (history more : List KeyedEntry) → length history + length more ≤ 2 ^ 31 → FitsView (view_of r history) → FollowInTurn MayFollow history more → FitsView (view_of r (history ++ more))
  views_fit history [] few f follow = subst (λ h. FitsView (view_of r h)) (sym (append-nil history)) f
  views_fit history (e ∷ es) few f follow =
      let can : CanJoin r MayFollow (view_of r history) e.entry = record { history = history; few = omega arith; is_view = refl; follows = follow.0 } in
      let next : FitsView (view_of r (history ++ e ∷ [])) = subst FitsView (sym (view_after-append r r.fresh_view history (e ∷ []))) (law.absorb_fits (view_of r history) e.key e.entry f can) in
      let size : length (history ++ e ∷ []) ≡ length history + 1 = length-append history (e ∷ []) in
      subst (λ h. FitsView (view_of r h)) (append_assoc history (e ∷ []) es) (views_fit (history ++ e ∷ []) es (omega arith) next follow.1)

  -- what is pending joins, one entry after the other
  pub record AllJoin (history : List KeyedEntry) (slots : List (Option (Standing L))) (number : ℕ) (k : Key) (l : L) (es : List Entry) : Type 0 where
    pub follow : FollowInTurn MayFollow history (under k es)
    pub agrees : Agrees (history ++ under k es) (set slots number (standing l []))

  all_join : (history : List KeyedEntry) (slots : List (Option (Standing L))) (number : ℕ) (k : Key) (l : L) (es : List Entry) →
      length history + length es < 2 ^ 31 → Agrees history slots → get_or slots number None ≡ standing l es → AllJoin history slots number k l es
  all_join history slots number k l [] few a e = record {
    follow = tt;
    agrees =
        subst (λ h. Agrees h (set slots number (standing l []))) (sym (append-nil history))
        (subst (Agrees history) (sym (set-at slots number (standing l []) (get_or-at slots number _ e))) a);
  }
  all_join history slots number k l (x ∷ es) few a e =
      let step = law.pending_joins history slots number k l x es (omega arith) a e in
      let there = at-get_or None (set slots number (standing l es)) number (standing l es) (at-set_same slots number _ (standing l es) (get_or-at slots number _ e)) in
      let size : length (history ++ keyed_entry k x ∷ []) ≡ length history + 1 = length-append history (keyed_entry k x ∷ []) in
      let rest = all_join (history ++ keyed_entry k x ∷ []) (set slots number (standing l es)) number k l es (omega arith) step there in
      record {
        follow = (law.pending_follows history slots number l x es (omega arith) a e, rest.follow);
        agrees =
            subst (λ h. Agrees h (set slots number (standing l []))) (append_assoc history (keyed_entry k x ∷ []) (under k es))
            (subst (Agrees ((history ++ keyed_entry k x ∷ []) ++ under k es)) (set-set slots number (standing l es) (standing l [])) rest.agrees);
      }

  module _ (limits : Limits) where
    -- a live slot that may move: it stands in the list of slots as it is, and its store has room in the history
    pub record CanMove (history : List KeyedEntry) (slots : List (Option (Standing L))) (number : ℕ) (old : Slot L) (live : Live L) : Type 0 where
      pub agrees : Agrees history slots
      pub there : get_or slots number None ≡ standing live.local live.pending
      pub fits : IsFitting FitsLocal live
      pub view : FitsView (view_of r history)
      pub store : old.words ≤ limits.store - 4
      pub some : 4 ≤ limits.store
      pub room : length history + (limits.store - old.words) < 2 ^ 31

    module _ (history : List KeyedEntry) (slots : List (Option (Standing L))) (number : ℕ) (old : Slot L) (live : Live L) (can : CanMove history slots number old live) where
      abbrev Kept : Turn L → Type 0
      Kept t = IsKept r FitsLocal MayFollow Agrees limits history slots number old t

      ended_kept : Kept (record { entries = []; slot = slot_after_end old })
      ended_kept = record {
        follow = tt;
        agrees = subst (λ h. Agrees h (set slots number None)) (sym (append-nil history)) (law.slot_leaves history slots number (omega (arith, can.room)) can.agrees);
        fits = tt;
        rises = tt;
        left = omega arith;
        low = λ h. h;
        few = omega arith;
        words = no_words;
        fills = omega arith;
        store = can.store;
      }

      halted_kept : Kept (record { entries = Halt ∷ []; slot = slot_after_end old })
      halted_kept =
          let few : length history < 2 ^ 31 = omega (arith, can.room) in
          record {
            follow = (law.halt_follows history slots few can.agrees, tt);
            agrees = law.halt_joins history (set slots number None) (key_of number old) few (law.slot_leaves history slots number few can.agrees);
            fits = tt;
            rises = tt;
            left = omega arith;
            low = λ h. h;
            few = omega arith;
            words = halt_words;
            fills = omega arith;
            store = can.store;
          }

      -- what is pending fits, and joins
      pub record Joined : Type 0 where
        pub all : AllJoin history slots number (key_of number old) live.local live.pending
        pub there : get_or (set slots number (standing live.local [])) number None ≡ standing live.local []
        pub short : length (history ++ under (key_of number old) live.pending) + (limits.store - (slot_after_join old live).words) < 2 ^ 31
        pub store : (slot_after_join old live).words ≤ limits.store - 4
        pub view : FitsView (view_after r (view_of r history) (under (key_of number old) live.pending))
        pub is_view : view_after r (view_of r history) (under (key_of number old) live.pending) ≡ view_of r (history ++ under (key_of number old) live.pending)

      pub joins : fits limits old.words live.pending ≡ true → Joined
      joins fit =
          let within : old.words + word_count live.pending ≤ limits.store - 4 = grind arith in
          let words = some_words live.pending in
          let few : length history + length live.pending < 2 ^ 31 = omega (arith, can.room, can.store, can.some) in
          let all = all_join history slots number (key_of number old) live.local live.pending few can.agrees can.there in
          let size : length (history ++ under (key_of number old) live.pending) ≡ length history + length live.pending =
          length-append history (under (key_of number old) live.pending) ∙ ap (λ (n : ℕ). length history + n) (length-under (key_of number old) live.pending) in
          let is_view = view_after-append r r.fresh_view history (under (key_of number old) live.pending) in
          let count = length-under (key_of number old) live.pending in
          let most : length history + length (under (key_of number old) live.pending) ≤ 2 ^ 31 = omega arith in
          record {
            all = all;
            there = at-get_or None (set slots number (standing live.local [])) number (standing live.local []) (at-set_same slots number _ (standing live.local []) (get_or-at slots number _ can.there));
            short = omega (arith, can.room, can.store, can.some);
            store = within;
            view = subst FitsView is_view (views_fit history (under (key_of number old) live.pending) most can.view all.follow);
            is_view = sym is_view;
          }

      -- the slot works on: its local stands with nothing pending, and its last chunk is what is pending afterwards
      working_kept : (entries : List Entry) (slot : Slot L) (l : L) →
          FollowInTurn MayFollow history (under (key_of number old) entries) → Agrees (history ++ under (key_of number old) entries) (set slots number (standing l [])) →
          length (history ++ under (key_of number old) entries) < 2 ^ 31 → FitsLocal l → r.at_start l ≡ false →
          slot.clock ≡ old.clock → HaveWords entries → word_count entries + old.words ≤ slot.words → slot.words ≤ limits.store - 4 → old.clock < limits.work → Kept (record { entries = entries; slot = slot_after_chunk r slot l })
      working_kept entries slot l follow agrees short f begun clock words fills store lives =
          let there = at-get_or None (set slots number (standing l [])) number (standing l []) (at-set_same slots number _ (standing l []) (get_or-at slots number _ can.there)) in
          let next = law.chunk_agrees (history ++ under (key_of number old) entries) (set slots number (standing l [])) number l short agrees there begun in
          let work = law.some_work l f begun in
          record {
            follow = follow;
            agrees = subst (Agrees (history ++ under (key_of number old) entries)) (set-set slots number (standing l []) (standing (r.chunk l).local (r.chunk l).gives.entries)) next;
            fits = record { local = law.chunk_fits l f begun; words = law.chunk_words l f begun };
            rises = omega (arith, clock, work);
            left = omega (arith, clock, work, lives);
            low = λ h. omega (arith, clock, lives, law.little_work l f begun);
            few = omega (arith, fills, some_words entries);
            words = words;
            fills = omega (arith, fills);
            store = store;
          }

      goes_on_kept : Joined → old.clock < limits.work → r.at_start live.local ≡ false → Kept (record { entries = live.pending; slot = slot_after_chunk r (slot_after_join old live) live.local })
      goes_on_kept j lives begun =
          working_kept live.pending (slot_after_join old live) live.local j.all.follow j.all.agrees (omega (arith, j.short)) can.fits.local begun refl can.fits.words (omega arith) j.store lives

      waits_kept : Joined → old.clock < limits.work → Kept (record { entries = live.pending; slot = slot_after_idle (slot_after_join old live) live.local })
      waits_kept j lives =
          let words = some_words live.pending in
          record {
            follow = j.all.follow;
            agrees = j.all.agrees;
            fits = record { local = can.fits.local; words = record { each = λ k d h. absurd (omega arith) } };
            rises = omega arith;
            left = omega (arith, lives);
            low = λ h. omega (arith, lives);
            few = omega arith;
            words = can.fits.words;
            fills = omega arith;
            store = j.store;
          }

      is_over_kept : Joined → Kept (record { entries = live.pending; slot = slot_after_end (slot_after_join old live) })
      is_over_kept j =
          let words = some_words live.pending in
          let left = law.slot_leaves (history ++ under (key_of number old) live.pending) (set slots number (standing live.local [])) number (omega (arith, j.short)) j.all.agrees in
          record {
            follow = j.all.follow;
            agrees = subst (Agrees (history ++ under (key_of number old) live.pending)) (set-set slots number (standing live.local []) None) left;
            fits = tt;
            rises = tt;
            left = omega arith;
            low = λ h. h;
            few = omega arith;
            words = can.fits.words;
            fills = omega arith;
            store = j.store;
          }

      -- a Halt in the place of a task's entries
      halts_kept : Joined → Kept (record { entries = live.pending ++ Halt ∷ []; slot = slot_after_end (slot_after_join old live) })
      halts_kept j =
          let words = some_words live.pending in
          let few : length (history ++ under (key_of number old) live.pending) < 2 ^ 31 = omega (arith, j.short) in
          let left = law.slot_leaves (history ++ under (key_of number old) live.pending) (set slots number (standing live.local [])) number few j.all.agrees in
          let halted = law.halt_joins (history ++ under (key_of number old) live.pending) (set (set slots number (standing live.local [])) number None) (key_of number old) few left in
          let parts = under-append (key_of number old) live.pending (Halt ∷ []) in
          let whole : (history ++ under (key_of number old) live.pending) ++ keyed_entry (key_of number old) Halt ∷ [] ≡ history ++ under (key_of number old) (live.pending ++ Halt ∷ []) =
          append_assoc history (under (key_of number old) live.pending) (keyed_entry (key_of number old) Halt ∷ []) ∙ ap (λ (es : List KeyedEntry). history ++ es) (sym parts) in
          record {
            follow = subst (FollowInTurn MayFollow history) (sym parts)
                (follow-append MayFollow history (under (key_of number old) live.pending) (keyed_entry (key_of number old) Halt ∷ []) j.all.follow (law.halt_follows _ _ few j.all.agrees, tt));
            agrees = subst (λ h. Agrees h (set slots number None)) whole (subst (Agrees _) (set-set slots number (standing live.local []) None) halted);
            fits = tt;
            rises = tt;
            left = omega arith;
            low = λ h. h;
            few = omega (arith, length-append live.pending (Halt ∷ []));
            words = words-append live.pending (Halt ∷ []) can.fits.words halt_words;
            fills = omega (arith, word_count-append live.pending (Halt ∷ []));
            store = j.store;
          }

      takes_kept : (j : Joined) (es : List Entry) → old.clock < limits.work → r.at_start live.local ≡ true → (r.begin (view_of r (history ++ under (key_of number old) live.pending)) live.local).does ≡ Take es →
          fits limits (slot_after_join old live).words es ≡ true →
          Kept (record { entries = live.pending ++ es; slot = slot_after_chunk r (record (slot_after_join old live) { words = (slot_after_join old live).words + word_count es }) (r.begin (view_of r (history ++ under (key_of number old) live.pending)) live.local).local })
      takes_kept j es lives start does fit =
          let more = some_words es in
          let within : (slot_after_join old live).words + word_count es ≤ limits.store - 4 = grind arith in
          let few : length (history ++ under (key_of number old) live.pending) < 2 ^ 31 = omega (arith, j.short) in
          let view = subst FitsView j.is_view j.view in
          let follow = law.take_follows _ _ number (key_of number old) live.local es few j.all.agrees j.there start does in
          let agrees = law.take_joins _ _ number (key_of number old) live.local es few j.all.agrees j.there start does in
          let parts = under-append (key_of number old) live.pending es in
          let whole : (history ++ under (key_of number old) live.pending) ++ under (key_of number old) es ≡ history ++ under (key_of number old) (live.pending ++ es) =
          append_assoc history (under (key_of number old) live.pending) (under (key_of number old) es) ∙ ap (λ (x : List KeyedEntry). history ++ x) (sym parts) in
          let local = (r.begin (view_of r (history ++ under (key_of number old) live.pending)) live.local).local in
          let size : length (history ++ under (key_of number old) (live.pending ++ es)) ≡ length (history ++ under (key_of number old) live.pending) + length es =
          ap length (sym whole) ∙ (length-append (history ++ under (key_of number old) live.pending) (under (key_of number old) es) ∙ ap (λ (n : ℕ). length (history ++ under (key_of number old) live.pending) + n) (length-under (key_of number old) es)) in
          working_kept (live.pending ++ es) (record (slot_after_join old live) { words = (slot_after_join old live).words + word_count es }) local
          (subst (FollowInTurn MayFollow history) (sym parts) (follow-append MayFollow history (under (key_of number old) live.pending) (under (key_of number old) es) j.all.follow follow))
          (subst (λ h. Agrees h (set slots number (standing local []))) whole (subst (Agrees _) (set-set slots number (standing live.local []) (standing local [])) agrees))
          (omega (arith, j.short, size, j.store))
          (law.begin_fits _ live.local view can.fits.local start)
          (law.take_begins _ live.local es view can.fits.local start does)
          refl
          (words-append live.pending es can.fits.words (law.begin_words _ live.local es view can.fits.local start does))
          (omega (arith, word_count-append live.pending es))
          within
          lives

      begins_kept : (j : Joined) (d : Begin) → old.clock < limits.work → r.at_start live.local ≡ true → (r.begin (view_of r (history ++ under (key_of number old) live.pending)) live.local).does ≡ d →
          Kept (turn_of_begin r limits (slot_after_join old live) live.pending (r.begin (view_of r (history ++ under (key_of number old) live.pending)) live.local).local d)
      begins_kept j End lives start does = is_over_kept j
      begins_kept j Idle lives start does =
          let same = law.idle_stays _ live.local (subst FitsView j.is_view j.view) can.fits.local start does in
          subst (λ l. Kept (record { entries = live.pending; slot = slot_after_idle (slot_after_join old live) l })) (sym same) (waits_kept j lives)
      begins_kept j (Take es) lives start does =
          by_test Kept (fits limits (slot_after_join old live).words es) _ _ (λ fit. takes_kept j es lives start does fit) (λ fit. halts_kept j)

      pub live_kept : Kept (turn_while_live r limits number (view_of r history) old (Some live))
      live_kept =
          by_test Kept (nat_le limits.work old.clock) _ _ (λ over. ended_kept)
          (λ early. let lives : old.clock < limits.work = grind arith in by_test Kept (fits limits old.words live.pending) _ _
          (λ fit.
          let j = joins fit in
          by_test Kept (r.at_start live.local) _ _
          (λ start. subst (λ view. Kept (turn_after_begin r limits (slot_after_join old live) live.pending (r.begin view live.local))) (sym j.is_view) (begins_kept j _ lives start refl))
          (λ begun. goes_on_kept j lives begun))
          (λ full. halted_kept))
