-- Where the entries of the history and the records of its slots come from.
use Rattle.std.proofs.Common.{◌≡◌, ◌∙◌, ℕ, zero, suc, ◌+◌, ◌<◌, ◌^◌, ◌⊎◌, inl, inr, true, false, List, [], ◌∷◌, ◌++◌, length, map, set, get_or, Option, Some, None, refl, sym, ap, subst, append_assoc, arith}
use Rattle.std.specs.Prelude.{nat_le}
use Rattle.std.proofs.lemmas.List.{append-nil}
use Rattle.ip_core.specs.declared.leaf.Record.{Record}
use Rattle.work_stamp.specs.Histories.{keyed_entry, under}
use Rattle.work_stamp.specs.Taskers.{Rules, Standing, standing, view_of, IsLawful}
use Rattle.work_stamp.specs.declared.entry.Entry.{Entry}
use Rattle.work_stamp.specs.declared.entry.Entry.TheVariants.{Halt}
use Rattle.work_stamp.specs.declared.key.Key.{Key}
use Rattle.work_stamp.specs.declared.stamped.KeyedEntry.{KeyedEntry}
use Rattle.work_stamp.specs.declared.task.Begin.{Begin}
use Rattle.work_stamp.specs.declared.task.Begin.TheVariants.{Take, Idle, End}
use Rattle.stamp_machine.specs.Limits.{AreLimits}
use Rattle.stamp_machine.specs.Machine.{State, word_count, fits, slot_after_chunk, slot_after_join, slot_after_idle, turn_of_begin, turn_after_begin, turn_while_live, turn, first, last, moves, move_next, move_of}
use Rattle.stamp_machine.specs.Records.{IsPart, HasStanding, IsJoinedChunk, HasChunk, HasOrigin, OfHalt, OfTake, OfChunk, RecordsHaveChunks, EntriesHaveOrigins}
use Rattle.stamp_machine.specs.Slots.{at, key_of, slot_after_end, next_slot, standing_of}
use Rattle.stamp_machine.specs.declared.limits.Limits.{Limits}
use Rattle.stamp_machine.specs.declared.opening.Turn.{Turn}
use Rattle.stamp_machine.specs.declared.slot.Slot.{Slot}
use Rattle.stamp_machine.specs.declared.slot.Live.{Live}
use Rattle.stamp_machine.proofs.Choices.{by_test}
use Rattle.stamp_machine.proofs.Follows.{under-append}
use Rattle.stamp_machine.proofs.Least.{next_is}
use Rattle.stamp_machine.proofs.Orders.{set_each}
use Rattle.stamp_machine.proofs.Places.{at-append, at-front, at-behind, at-get_or, get_or-at, at-map, at-set_same, none_is_no_some, same_some}
use Rattle.stamp_machine.proofs.Standings.{fresh_at, can_move, moves_stand}
use Rattle.stamp_machine.proofs.Turns.{CanMove, Joined, joins}

-- ---- parts of lists

abbrev longer_part : {A : Type 0} (xs whole more : List A) → IsPart xs whole → IsPart xs (whole ++ more)
longer_part xs whole more p = record {
  front = p.front;
  rest = p.rest ++ more;
  is = ap (λ (ys : List _). ys ++ more) p.is ∙ append_assoc (p.front ++ xs) p.rest more;
}

-- an item of a part stands in the whole
pub part_at : {A : Type 0} (xs whole : List A) (place : ℕ) (x : A) → IsPart xs whole → at xs place ≡ Some x → (there : ℕ) × (at whole there ≡ Some x)
part_at xs whole place x p e =
    let b = at-behind p.front xs place x e in
    (b.0, subst (λ (ys : List _). at ys b.0 ≡ Some x) (sym p.is) (at-front (p.front ++ xs) p.rest b.0 x b.1))

pub at-under : (k : Key) (es : List Entry) (place : ℕ) (x : Entry) → at es place ≡ Some x → at (under k es) place ≡ Some (keyed_entry k x)
at-under k [] place x e = absurd (none_is_no_some x e)
at-under k (y ∷ es) zero x e = ap (λ (z : Entry). Some (keyed_entry k z)) (same_some y x e)
at-under k (y ∷ es) (suc place) x e = at-under k es place x e

under-at : (k : Key) (es : List Entry) (place : ℕ) (e : KeyedEntry) → at (under k es) place ≡ Some e → (e ≡ keyed_entry k e.entry) × (at es place ≡ Some e.entry)
under-at k [] place e h = absurd (none_is_no_some e h)
under-at k (y ∷ es) zero e h =
    let same = same_some (keyed_entry k y) e h in
    (sym same ∙ ap (λ (z : KeyedEntry). keyed_entry k z.entry) same, ap (λ (z : KeyedEntry). Some z.entry) same)
under-at k (y ∷ es) (suc place) e h = under-at k es place e h

only_halt : (place : ℕ) (x : Entry) → at (Halt ∷ []) place ≡ Some x → x ≡ Halt
only_halt zero x e = sym (same_some Halt x e)
only_halt (suc place) x e = absurd (none_is_no_some x e)

-- ---- the records of slots

abbrev records_at : {L : Type 0} → List (Slot L) → ℕ → List Record
records_at slots number = get_or (map (λ slot. slot.records) slots) number []

records_there : {L : Type 0} (slots : List (Slot L)) (number : ℕ) (slot : Slot L) → at slots number ≡ Some slot → records_at slots number ≡ slot.records
records_there slots number slot there = at-get_or [] (map (λ slot. slot.records) slots) number slot.records (at-map (λ slot. slot.records) slots number slot there)

-- records are those of some slot
slot_of : {L : Type 0} (slots : List (Slot L)) (number place : ℕ) (item : Record) → at (records_at slots number) place ≡ Some item → (slot : Slot L) × ((at slots number ≡ Some slot) × (records_at slots number ≡ slot.records))
slot_of [] number place item e = absurd (none_is_no_some item e)
slot_of (s ∷ slots) zero place item e = (s, (refl, refl))
slot_of (s ∷ slots) (suc number) place item e = slot_of slots number place item e

-- a slot that gains records changes nothing else
more_records : {L : Type 0} (slots : List (Slot L)) (k : ℕ) (old new : Slot L) (more : List Record) → at slots k ≡ Some old → new.records ≡ old.records ++ more →
    (j : ℕ) → (extra : List Record) × (records_at (set slots k new) j ≡ records_at slots j ++ extra)
more_records [] k old new more there is j = absurd (none_is_no_some old there)
more_records (s ∷ slots) zero old new more there is zero = (more, is ∙ ap (λ (x : Slot _). x.records ++ more) (sym (same_some s old there)))
more_records (s ∷ slots) zero old new more there is (suc j) = ([], sym (append-nil (records_at slots j)))
more_records (s ∷ slots) (suc k) old new more there is zero = ([], sym (append-nil s.records))
more_records (s ∷ slots) (suc k) old new more there is (suc j) = more_records slots k old new more there is j

module _ (V L : Type 0) (r : Rules V L) (FitsLocal : L → Type 0) (Agrees : List KeyedEntry → List (Option (Standing L)) → Type 0) where
  abbrev Stood : List KeyedEntry → ℕ → L → Type 0
  Stood entries number local = HasStanding FitsLocal Agrees entries number local

  abbrev Chunk : List KeyedEntry → List Record → Key → L → Type 0
  Chunk entries records key local = IsJoinedChunk r FitsLocal Agrees entries records key local

  abbrev Source : List KeyedEntry → List Record → ℕ → Record → Type 0
  Source entries records number item = HasChunk r FitsLocal Agrees entries records number item

  abbrev Origin : List KeyedEntry → List Record → KeyedEntry → Type 0
  Origin entries records e = HasOrigin r FitsLocal Agrees entries records e

  -- ---- what a chunk that joined has in the history and with the slot

  -- an entry of it stands in the history
  pub entry_stands : (entries : List KeyedEntry) (records : List Record) (key : Key) (local : L) → IsJoinedChunk r FitsLocal Agrees entries records key local →
      (place : ℕ) (x : Entry) → at (r.chunk local).gives.entries place ≡ Some x → (there : ℕ) × (at entries there ≡ Some (keyed_entry key x))
  entry_stands entries records key local c place x e =
      let p = part_at (under key (r.chunk local).gives.entries) c.stood.later place (keyed_entry key x) c.entry_part (at-under key (r.chunk local).gives.entries place x e) in
      let b = at-behind c.stood.front c.stood.later p.0 (keyed_entry key x) p.1 in
      (b.0, subst (λ (ys : List KeyedEntry). at ys b.0 ≡ Some (keyed_entry key x)) (sym c.stood.whole) b.1)

  -- a record of it is one of the slot's
  pub record_stands : (entries : List KeyedEntry) (records : List Record) (key : Key) (local : L) → IsJoinedChunk r FitsLocal Agrees entries records key local →
      (place : ℕ) (item : Record) → at (r.chunk local).gives.records place ≡ Some item → (there : ℕ) × (at records there ≡ Some item)
  record_stands entries records key local c place item e = part_at (r.chunk local).gives.records records place item c.record_part e

  -- ---- longer histories and more records

  abbrev longer_standing : (xs more : List KeyedEntry) (number : ℕ) (local : L) → Stood xs number local → Stood (xs ++ more) number local
  longer_standing xs more number local s = record {
    front = s.front;
    later = s.later ++ more;
    whole = ap (λ (es : List KeyedEntry). es ++ more) s.whole ∙ append_assoc s.front s.later more;
    slots = s.slots;
    agrees = s.agrees;
    there = s.there;
    fits = s.fits;
  }

  longer_chunk : (xs more : List KeyedEntry) (records extra : List Record) (key : Key) (local : L) → Chunk xs records key local → Chunk (xs ++ more) (records ++ extra) key local
  longer_chunk xs more records extra key local c = record {
    stood = longer_standing xs more key.slot local c.stood;
    busy = c.busy;
    entry_part = longer_part (under key (r.chunk local).gives.entries) c.stood.later more c.entry_part;
    record_part = longer_part (r.chunk local).gives.records records extra c.record_part;
  }

  longer_source : (xs more : List KeyedEntry) (records extra : List Record) (number : ℕ) (item : Record) → Source xs records number item → Source (xs ++ more) (records ++ extra) number item
  longer_source xs more records extra number item s = record {
    key = s.key;
    own = s.own;
    local = s.local;
    chunk = longer_chunk xs more records extra s.key s.local s.chunk;
    place = s.place;
    there = s.there;
  }

  longer_origin : (xs more : List KeyedEntry) (records extra : List Record) (e : KeyedEntry) → Origin xs records e → Origin (xs ++ more) (records ++ extra) e
  longer_origin xs more records extra e (OfHalt h) = OfHalt h
  longer_origin xs more records extra e (OfTake t) = OfTake (record {
    local = t.local;
    stood = longer_standing xs more e.key.slot t.local t.stood;
    starts = t.starts;
    takes = t.takes;
    does = t.does;
    rest = t.rest ++ more;
    joins = ap (λ (es : List KeyedEntry). es ++ more) t.joins ∙ append_assoc (under e.key t.takes) t.rest more;
    place = t.place;
    there = t.there;
  })
  longer_origin xs more records extra e (OfChunk c) = OfChunk (record {
    local = c.local;
    chunk = longer_chunk xs more records extra e.key c.local c.chunk;
    place = c.place;
    there = c.there;
  })

  -- ---- what is pending

  -- what is pending, with its records, is one chunk's
  record IsPendingChunk (entries : List KeyedEntry) (number : ℕ) (live : Live L) : Type 0 where
    local : L
    stood : HasStanding FitsLocal Agrees entries number local
    busy : r.at_start local ≡ false
    entries_are : live.pending ≡ (r.chunk local).gives.entries
    records_are : live.leaves ≡ (r.chunk local).gives.records

  -- or nothing is pending
  abbrev IsOneChunk : List KeyedEntry → ℕ → Option (Live L) → Type 0
  IsOneChunk entries number None = Unit {0}
  IsOneChunk entries number (Some live) = ((live.pending ≡ []) × (live.leaves ≡ [])) ⊎ IsPendingChunk entries number live

  longer_one : (xs more : List KeyedEntry) (number : ℕ) (o : Option (Live L)) → IsOneChunk xs number o → IsOneChunk (xs ++ more) number o
  longer_one xs more number None w = tt
  longer_one xs more number (Some live) (inl w) = inl w
  longer_one xs more number (Some live) (inr p) = inr (record {
    local = p.local;
    stood = longer_standing xs more number p.local p.stood;
    busy = p.busy;
    entries_are = p.entries_are;
    records_are = p.records_are;
  })

  -- a move: the slot's records grow by those that join, and each entry and each record that joins has its source
  record IsTold (before : List KeyedEntry) (k : Key) (old : Slot L) (t : Turn L) : Type 0 where
    more : List Record
    records : t.slot.records ≡ old.records ++ more
    waits : IsOneChunk (before ++ under k t.entries) k.slot t.slot.live
    entries : (place : ℕ) (x : Entry) → at t.entries place ≡ Some x → Origin (before ++ under k t.entries) (old.records ++ more) (keyed_entry k x)
    leaves : (place : ℕ) (item : Record) → at more place ≡ Some item → Source (before ++ under k t.entries) (old.records ++ more) k.slot item

  -- what was pending has joined, with further entries behind it
  joined_chunk : (before : List KeyedEntry) (earlier : List Record) (k : Key) (live : Live L) (es : List Entry) (p : IsPendingChunk before k.slot live) →
      Chunk (before ++ under k (live.pending ++ es)) (earlier ++ live.leaves) k p.local
  joined_chunk before earlier k live es p = record {
    stood = longer_standing before (under k (live.pending ++ es)) k.slot p.local p.stood;
    busy = p.busy;
    entry_part = record {
      front = p.stood.later;
      rest = under k es;
      is = ap (λ (ys : List KeyedEntry). p.stood.later ++ ys) (under-append k live.pending es)
          ∙ (sym (append_assoc p.stood.later (under k live.pending) (under k es)) ∙ ap (λ (ys : List Entry). (p.stood.later ++ under k ys) ++ under k es) p.entries_are);
    };
    record_part = record {
      front = earlier;
      rest = [];
      is = ap (λ (ys : List Record). earlier ++ ys) p.records_are ∙ sym (append-nil (earlier ++ (r.chunk p.local).gives.records));
    };
  }

  joins_told : (before : List KeyedEntry) (k : Key) (old : Slot L) (live : Live L) (es : List Entry) (s : Slot L) →
      IsOneChunk before k.slot (Some live) → s.records ≡ old.records ++ live.leaves → IsOneChunk (before ++ under k (live.pending ++ es)) k.slot s.live →
      ((place : ℕ) (x : Entry) → at es place ≡ Some x → Origin (before ++ under k (live.pending ++ es)) (old.records ++ live.leaves) (keyed_entry k x)) →
      IsTold before k old (record { entries = live.pending ++ es; slot = s })
  joins_told before k old live es s (inl nothing) records waits further = record {
    more = live.leaves;
    records = records;
    waits = waits;
    entries = λ place x there. further place x (subst (λ (ys : List Entry). at (ys ++ es) place ≡ Some x) nothing.0 there);
    leaves = λ place item there. absurd (none_is_no_some item (subst (λ (ys : List Record). at ys place ≡ Some item) nothing.1 there));
  }
  joins_told before k old live es s (inr p) records waits further = record {
    more = live.leaves;
    records = records;
    waits = waits;
    entries = λ place x there. by_place place x (at-append live.pending es place x there);
    leaves = λ place item there. record {
      key = k;
      own = refl;
      local = p.local;
      chunk = joined_chunk before old.records k live es p;
      place = place;
      there = subst (λ (ys : List Record). at ys place ≡ Some item) p.records_are there;
    };
  } where
    by_place : (place : ℕ) (x : Entry) → (at live.pending place ≡ Some x) ⊎ ((later : ℕ) × (at es later ≡ Some x)) →
        Origin (before ++ under k (live.pending ++ es)) (old.records ++ live.leaves) (keyed_entry k x)
    by_place place x (inl there) = OfChunk (record {
      local = p.local;
      chunk = joined_chunk before old.records k live es p;
      place = place;
      there = subst (λ (ys : List Entry). at ys place ≡ Some x) p.entries_are there;
    })
    by_place place x (inr (later, there)) = further later x there

-- ---- a move of a lawful system of tasks

module _ (V L : Type 0) (r : Rules V L) (FitsView : V → Type 0) (FitsLocal : L → Type 0) (MayFollow : List KeyedEntry → Entry → Type 0) (Agrees : List KeyedEntry → List (Option (Standing L)) → Type 0)
    (law : IsLawful r FitsView FitsLocal MayFollow Agrees) (limits : Limits) where
  module _ (history : List KeyedEntry) (slots : List (Option (Standing L))) (number : ℕ) (old : Slot L) (live : Live L)
      (can : CanMove V L r FitsView FitsLocal MayFollow Agrees law limits history slots number old live)
      (waits : IsOneChunk V L r FitsLocal Agrees history number (Some live)) where
    abbrev k : Key
    k = key_of number old

    abbrev Told : Turn L → Type 0
    Told t = IsTold V L r FitsLocal Agrees history k old t

    abbrev HasJoined : Type 0
    HasJoined = Joined V L r FitsView FitsLocal MayFollow Agrees law limits history slots number old live can

    -- the history after what was pending
    abbrev joined : List KeyedEntry
    joined = history ++ under k live.pending

    -- a slot that is over has dropped what was pending
    drops : (es : List Entry) → ((place : ℕ) (x : Entry) → at es place ≡ Some x → x ≡ Halt) → Told (record { entries = es; slot = slot_after_end old })
    drops es halts = record {
      more = [];
      records = sym (append-nil old.records);
      waits = tt;
      entries = λ place x there. OfHalt (halts place x there);
      leaves = λ place item there. absurd (none_is_no_some item there);
    }

    -- what was pending joins, and nothing else
    joins_alone : (s : Slot L) → s.records ≡ old.records ++ live.leaves → IsOneChunk V L r FitsLocal Agrees joined number s.live → Told (record { entries = live.pending; slot = s })
    joins_alone s records after =
        subst (λ (es : List Entry). Told (record { entries = es; slot = s })) (append-nil live.pending)
        (joins_told V L r FitsLocal Agrees history k old live [] s waits records
        (subst (λ (es : List Entry). IsOneChunk V L r FitsLocal Agrees (history ++ under k es) number s.live) (sym (append-nil live.pending)) after)
        (λ place x there. absurd (none_is_no_some x there)))

    goes_on : HasJoined → r.at_start live.local ≡ false → Told (record { entries = live.pending; slot = slot_after_chunk r (slot_after_join old live) live.local })
    goes_on j busy = joins_alone (slot_after_chunk r (slot_after_join old live) live.local) refl (inr (record {
      local = live.local;
      stood = record {
        front = joined;
        later = [];
        whole = sym (append-nil joined);
        slots = set slots number (standing live.local []);
        agrees = j.all.agrees;
        there = j.there;
        fits = can.fits.local;
      };
      busy = busy;
      entries_are = refl;
      records_are = refl;
    }))

    takes : HasJoined → (es : List Entry) → r.at_start live.local ≡ true → (r.begin (view_of r joined) live.local).does ≡ Take es →
        Told (record { entries = live.pending ++ es; slot = slot_after_chunk r (record (slot_after_join old live) { words = (slot_after_join old live).words + word_count es }) (r.begin (view_of r joined) live.local).local })
    takes j es start does =
        let few : length joined < 2 ^ 31 = omega (arith, j.short) in
        let view = subst FitsView j.is_view j.view in
        let local = (r.begin (view_of r joined) live.local).local in
        let agrees = law.take_joins joined (set slots number (standing live.local [])) number k live.local es few j.all.agrees j.there start does in
        let whole : joined ++ under k es ≡ history ++ under k (live.pending ++ es) =
        append_assoc history (under k live.pending) (under k es) ∙ ap (λ (x : List KeyedEntry). history ++ x) (sym (under-append k live.pending es)) in
        let after = set (set slots number (standing live.local [])) number (standing local []) in
        let stands : get_or after number None ≡ standing local [] =
        at-get_or None after number (standing local []) (at-set_same (set slots number (standing live.local [])) number _ (standing local []) (get_or-at (set slots number (standing live.local [])) number _ j.there)) in
        let slot = slot_after_chunk r (record (slot_after_join old live) { words = (slot_after_join old live).words + word_count es }) local in
        joins_told V L r FitsLocal Agrees history k old live es slot waits refl
        (inr (record {
          local = local;
          stood = record {
            front = history ++ under k (live.pending ++ es);
            later = [];
            whole = sym (append-nil (history ++ under k (live.pending ++ es)));
            slots = after;
            agrees = subst (λ h. Agrees h after) whole agrees;
            there = stands;
            fits = law.begin_fits (view_of r joined) live.local view can.fits.local start;
          };
          busy = law.take_begins (view_of r joined) live.local es view can.fits.local start does;
          entries_are = refl;
          records_are = refl;
        }))
        (λ place x there. OfTake (record {
          local = live.local;
          stood = record {
            front = joined;
            later = under k es;
            whole = sym whole;
            slots = set slots number (standing live.local []);
            agrees = j.all.agrees;
            there = j.there;
            fits = can.fits.local;
          };
          starts = start;
          takes = es;
          does = does;
          rest = [];
          joins = sym (append-nil (under k es));
          place = place;
          there = there;
        }))

    begins : HasJoined → (d : Begin) → r.at_start live.local ≡ true → (r.begin (view_of r joined) live.local).does ≡ d →
        Told (turn_of_begin r limits (slot_after_join old live) live.pending (r.begin (view_of r joined) live.local).local d)
    begins j End start does = joins_alone (slot_after_end (slot_after_join old live)) refl tt
    begins j Idle start does = joins_alone (slot_after_idle (slot_after_join old live) (r.begin (view_of r joined) live.local).local) refl (inl (refl, refl))
    begins j (Take es) start does =
        by_test Told (fits limits (slot_after_join old live).words es) _ _
        (λ fit. takes j es start does)
        (λ full. joins_told V L r FitsLocal Agrees history k old live (Halt ∷ []) (slot_after_end (slot_after_join old live)) waits refl tt (λ place x there. OfHalt (only_halt place x there)))

    told_live : Told (turn_while_live r limits number (view_of r history) old (Some live))
    told_live =
        by_test Told (nat_le limits.work old.clock) _ _
        (λ over. drops [] (λ place x there. absurd (none_is_no_some x there)))
        (λ early. by_test Told (fits limits old.words live.pending) _ _
        (λ fit.
        let j = joins V L r FitsView FitsLocal MayFollow Agrees law limits history slots number old live can fit in
        by_test Told (r.at_start live.local) _ _
        (λ start. subst (λ view. Told (turn_after_begin r limits (slot_after_join old live) live.pending (r.begin view live.local))) (sym j.is_view) (begins j _ start refl))
        (λ busy. goes_on j busy))
        (λ full. drops (Halt ∷ []) only_halt))

  -- ---- all moves

  record AreTold (state : State L) : Type 0 where
    waits : (number : ℕ) (slot : Slot L) → at state.slots number ≡ Some slot → IsOneChunk V L r FitsLocal Agrees state.entries number slot.live
    records : (number : ℕ) (slot : Slot L) → at state.slots number ≡ Some slot → (place : ℕ) (item : Record) → at slot.records place ≡ Some item →
        HasChunk r FitsLocal Agrees state.entries slot.records number item
    entries : (place : ℕ) (e : KeyedEntry) → at state.entries place ≡ Some e → HasOrigin r FitsLocal Agrees state.entries (records_at state.slots e.key.slot) e

  first_told : AreTold (first r limits)
  first_told = record {
    waits = λ number slot there.
        let f = fresh_at r 0 limits.slots number slot there in
        subst (λ (s : Slot L). IsOneChunk V L r FitsLocal Agrees [] number s.live) (sym f.0) (inl (refl, refl));
    records = λ number slot there place item e.
        let f = fresh_at r 0 limits.slots number slot there in
        absurd (none_is_no_some item (subst (λ (s : Slot L). at s.records place ≡ Some item) f.0 e));
    entries = λ place e h. absurd (none_is_no_some e h);
  }

  module _ (state : State L) (all : AreTold state) (number : ℕ) (slot : Slot L) (there : at state.slots number ≡ Some slot) (t : Turn L)
      (told : IsTold V L r FitsLocal Agrees state.entries (key_of number slot) slot t) where
    abbrev own : Key
    own = key_of number slot

    abbrev after : List KeyedEntry
    after = state.entries ++ under own t.entries

    other_records : (j : ℕ) (other : Slot L) → at state.slots j ≡ Some other → (place : ℕ) (item : Record) → at other.records place ≡ Some item → HasChunk r FitsLocal Agrees after other.records j item
    other_records j other stands place item e =
        subst (λ (rs : List Record). HasChunk r FitsLocal Agrees after rs j item) (append-nil other.records)
        (longer_source V L r FitsLocal Agrees state.entries (under own t.entries) other.records [] j item (all.records j other stands place item e))

    own_records : (place : ℕ) (item : Record) → at t.slot.records place ≡ Some item → HasChunk r FitsLocal Agrees after t.slot.records number item
    own_records place item e =
        subst (λ (rs : List Record). HasChunk r FitsLocal Agrees after rs number item) (sym told.records)
        (by_place (at-append slot.records told.more place item (subst (λ (rs : List Record). at rs place ≡ Some item) told.records e))) where
          by_place : (at slot.records place ≡ Some item) ⊎ ((later : ℕ) × (at told.more later ≡ Some item)) → HasChunk r FitsLocal Agrees after (slot.records ++ told.more) number item
          by_place (inl h) = longer_source V L r FitsLocal Agrees state.entries (under own t.entries) slot.records told.more number item (all.records number slot there place item h)
          by_place (inr (later, h)) = told.leaves later item h

    entries_told : (place : ℕ) (e : KeyedEntry) → at after place ≡ Some e → HasOrigin r FitsLocal Agrees after (records_at (set state.slots number t.slot) e.key.slot) e
    entries_told place e h = by_place (at-append state.entries (under own t.entries) place e h) where
      by_place : (at state.entries place ≡ Some e) ⊎ ((later : ℕ) × (at (under own t.entries) later ≡ Some e)) → HasOrigin r FitsLocal Agrees after (records_at (set state.slots number t.slot) e.key.slot) e
      by_place (inl before) =
          let m = more_records state.slots number slot t.slot told.more there told.records e.key.slot in
          subst (λ (rs : List Record). HasOrigin r FitsLocal Agrees after rs e) (sym m.1)
          (longer_origin V L r FitsLocal Agrees state.entries (under own t.entries) (records_at state.slots e.key.slot) m.0 e (all.entries place e before))
      by_place (inr (later, stands)) =
          let u = under-at own t.entries later e stands in
          let its : records_at (set state.slots number t.slot) number ≡ slot.records ++ told.more =
          records_there (set state.slots number t.slot) number t.slot (at-set_same state.slots number slot t.slot there) ∙ told.records in
          subst (λ (y : KeyedEntry). HasOrigin r FitsLocal Agrees after (records_at (set state.slots number t.slot) y.key.slot) y) (sym u.0)
          (subst (λ (rs : List Record). HasOrigin r FitsLocal Agrees after rs (keyed_entry own e.entry)) (sym its) (told.entries later e.entry u.1))

    after_told : AreTold (record { entries = after; slots = set state.slots number t.slot })
    after_told = record {
      waits = set_each (λ j (y : Slot L). IsOneChunk V L r FitsLocal Agrees after j y.live) state.slots number t.slot
          (λ j other ne stands. longer_one V L r FitsLocal Agrees state.entries (under own t.entries) j other.live (all.waits j other stands))
          told.waits;
      records = set_each (λ j (y : Slot L). (place : ℕ) (item : Record) → at y.records place ≡ Some item → HasChunk r FitsLocal Agrees after y.records j item) state.slots number t.slot
          (λ j other ne stands. other_records j other stands)
          own_records;
      entries = entries_told;
    }

  module _ (ranges : AreLimits limits) where
    next_told : (n : ℕ) (o : Option ℕ) → next_slot (moves r limits n).slots ≡ o → AreTold (moves r limits n) → AreTold (move_next r limits (moves r limits n) o)
    next_told n None e all = all
    next_told n (Some number) e all =
        let state = moves r limits n in
        let x = next_is state.slots number e in
        let s = moves_stand V L r FitsView FitsLocal MayFollow Agrees law limits ranges n in
        let can = can_move V L r FitsView FitsLocal MayFollow Agrees law limits ranges state s number x.slot x.live x.there x.lives in
        let waits = subst (IsOneChunk V L r FitsLocal Agrees state.entries number) x.lives (all.waits number x.slot x.there) in
        let told : IsTold V L r FitsLocal Agrees state.entries (key_of number x.slot) x.slot (turn r limits number (view_of r state.entries) x.slot) =
        subst (λ o. IsTold V L r FitsLocal Agrees state.entries (key_of number x.slot) x.slot (turn_while_live r limits number (view_of r state.entries) x.slot o)) (sym x.lives)
        (told_live state.entries (map standing_of state.slots) number x.slot x.live can waits) in
        subst (λ o. AreTold (move_of r limits state number o)) (sym x.there) (after_told state all number x.slot x.there _ told)

    all_told : (n : ℕ) → AreTold (moves r limits n)
    unfolding moves
    all_told zero = first_told
    all_told (suc n) = next_told n (next_slot (moves r limits n).slots) refl (all_told n)

    pub records_told : RecordsHaveChunks r FitsLocal Agrees limits
    records_told number place item e =
        let state = moves r limits (last limits) in
        let s = slot_of state.slots number place item e in
        subst (λ (rs : List Record). HasChunk r FitsLocal Agrees state.entries rs number item) (sym s.1.1)
        ((all_told (last limits)).records number s.0 s.1.0 place item (subst (λ (rs : List Record). at rs place ≡ Some item) s.1.1 e))

    pub origins_told : EntriesHaveOrigins r FitsLocal Agrees limits
    origins_told = (all_told (last limits)).entries
