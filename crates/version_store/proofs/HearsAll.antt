-- The other slots that are heard, one after the other.
use Rattle.std.proofs.Common.{ℕ, ◌+◌, ◌<◌, ◌≤◌, ◌≡◌, ◌≢◌, Bool, true, false, List, [], ◌∷◌, ◌++◌, length, map, slice_index, refl, sym, ap, ◌∙◌, subst, append_assoc, arith}
use Rattle.std.specs.Prelude.{not, nat_eq, nat_lt, if◌then◌else◌}
use mathlib.Core.Logic.{dite}
use native.Mathlib.Decide.{ℕ_discrete}
use Rattle.std.proofs.Math.ListN.{length-set}
use Rattle.std.proofs.lemmas.Bool.{eqb-true}
use Rattle.std.proofs.lemmas.Bool.Decides.{nat_tests}
use Rattle.std.proofs.lemmas.List.{append-nil, get_or-set_other, get_or-set_same}
use Rattle.clock_words.specs.Seats.{BoardView, IsSeat, SeatView, clock_seen}
use Rattle.clock_words.specs.Stories.{due}
use Rattle.commit_order.specs.Merges.{after_feed, slot_entry, waiting_entries}
use Rattle.commit_order.specs.Queues.{Queue, queue_of}
use Rattle.commit_order.proofs.Waiting.{waits_last}
use Rattle.stamp_machine.specs.Orders.{Each}
use Rattle.stamp_machine.specs.Runs.{log, of_slot}
use Rattle.stamp_machine.proofs.Orders.{each_filtered}
use Rattle.work_stamp.specs.declared.key.Key.{Key}
use Rattle.work_stamp.specs.declared.stamped.KeyedEntry.{KeyedEntry}
use Rattle.work_stamp.specs.declared.stamped.Stamped.{Stamped}
use Rattle.version_store.specs.Carriers.{clock_heard, heard_of}
use Rattle.version_store.specs.Hearing.{CanHear, CanHearAll, HasHeard, HasHeardMore, HasHeardOn, HasHeardOthers, IsShort, after_feeds, below_stamp, between, is_enough}
use Rattle.version_store.specs.Stories.{entry_list, stamped}
use Rattle.version_store.specs.declared.heard.Heard.{Heard}
use Rattle.version_store.proofs.EntryWords.{log_is, more_is}
use Rattle.version_store.proofs.Hears.{IsRunHistory}

-- entries that were fed wait behind those that waited, and the other queues stay
pub record AreFed (queues : List Queue) (slot : ℕ) (items : List Stamped) (after : List Queue) :
    Type 0 where
  pub slots : length after ≡ length queues
  pub own : waiting_entries after slot ≡ waiting_entries queues slot ++ map (slot_entry slot) items
  pub others : (other : ℕ) → other ≢ slot → queue_of after other ≡ queue_of queues other
  pub last : (most : ℕ) → (queue_of queues slot).last_stamp ≤ most →
      Each (λ (item : Stamped). item.stamp ≤ most) items → (queue_of after slot).last_stamp ≤ most

pub all_fed : (queues : List Queue) (slot : ℕ) (items : List Stamped) → slot < length queues →
    AreFed queues slot items (after_feeds queues slot items)
all_fed queues slot [] within = record {
  slots = refl;
  own = sym (append-nil (waiting_entries queues slot));
  others = λ other apart. refl;
  last = λ most le each. le;
}
all_fed queues slot (item ∷ items) within =
    let one = waits_last queues slot item within in
    let rest = all_fed (after_feed queues slot item) slot items (subst (λ (n : ℕ). slot < n) (sym one.slots) within) in
    record {
      slots = rest.slots ∙ one.slots;
      own = rest.own ∙ (ap (λ (l : List KeyedEntry). l ++ map (slot_entry slot) items) one.own
          ∙ append_assoc (waiting_entries queues slot) (slot_entry slot item ∷ []) (map (slot_entry slot) items));
      others = λ other apart. rest.others other apart ∙ one.others other apart;
      last = λ most le each. rest.last most (omega (arith, one.last, each.0)) each.1;
    }

-- a slot's entries under their keys again
pub own_again : (slot : ℕ) (es : List KeyedEntry) → Each (λ e. e.key.slot ≡ slot) es →
    map (slot_entry slot) (map stamped es) ≡ es
own_again slot [] h = refl
own_again slot (e ∷ es) h =
    let here : slot_entry slot (stamped e) ≡ e =
    ap (λ (n : ℕ). let k : Key = record { stamp = e.key.stamp; slot = n } in let x : KeyedEntry = record { key = k; entry = e.entry } in x) (sym h.0) in
    ap (λ (x : KeyedEntry). x ∷ map (slot_entry slot) (map stamped es)) here
    ∙ ap (λ (l : List KeyedEntry). e ∷ l) (own_again slot es h.1)

own_by : (b : Bool) (slot : ℕ) (e : KeyedEntry) (es : List KeyedEntry) → nat_eq e.key.slot slot ≡ b →
    Each (λ e. e.key.slot ≡ slot) (of_slot slot es) →
    Each (λ e. e.key.slot ≡ slot) (if b then e ∷ of_slot slot es else of_slot slot es)
own_by true slot e es t h = (eqb-true e.key.slot slot t, h)
own_by false slot e es t h = h

pub each_own : (slot : ℕ) (es : List KeyedEntry) → Each (λ e. e.key.slot ≡ slot) (of_slot slot es)
each_own slot [] = tt
each_own slot (e ∷ es) = own_by (nat_eq e.key.slot slot) slot e es refl (each_own slot es)

below_by : (b : Bool) (high : ℕ) (e : KeyedEntry) (es : List KeyedEntry) →
    nat_lt e.key.stamp high ≡ b → Each (λ e. e.key.stamp ≤ high) (below_stamp high es) →
    Each (λ e. e.key.stamp ≤ high) (if b then e ∷ below_stamp high es else below_stamp high es)
below_by true high e es t h = (grind (arith, nat_tests), h)
below_by false high e es t h = h

each_below : (high : ℕ) (es : List KeyedEntry) → Each (λ e. e.key.stamp ≤ high) (below_stamp high es)
each_below high [] = tt
each_below high (e ∷ es) = below_by (nat_lt e.key.stamp high) high e es refl (each_below high es)

pub stamps_again : (most : ℕ) (es : List KeyedEntry) → Each (λ e. e.key.stamp ≤ most) es →
    Each (λ (item : Stamped). item.stamp ≤ most) (map stamped es)
stamps_again most [] h = tt
stamps_again most (e ∷ es) h = (h.0, stamps_again most es h.1)

-- one slot that was heard
module _ (history : List KeyedEntry) (known : IsRunHistory history) (slots slot : ℕ)
    (within : slot < slots) (old new : SeatView) (queues after : List Queue)
    (heard heard' : List Heard) (can : CanHear history slots slot old queues heard) (clock : ℕ)
    (one : HasHeard slot old new)
    (more : HasHeardMore history slot old new queues after heard heard' clock) where
  abbrev own_entries : List KeyedEntry
  own_entries = of_slot slot history

  abbrev news : List KeyedEntry
  news = between (clock_heard heard slot) clock own_entries

  room : slot < length queues
  room = omega (arith, can.within, within)

  place : slot < length heard
  place = omega (arith, can.size, within)

  fed : AreFed queues slot (map stamped news) after
  fed = subst (λ (qs : List Queue). AreFed queues slot (map stamped news) qs) (sym more.queues_are)
      (all_fed queues slot (map stamped news) room)

  pub clock_now : heard_of heard' slot ≡ record { clock = clock; count = due (entry_list own_entries) clock }
  clock_now = ap (λ (l : List Heard). heard_of l slot) more.heard_is
      ∙ get_or-set_same heard slot (record { clock = clock; count = due (entry_list own_entries) clock }) (record { clock = 0; count = 0 }) place

  pub others_now : (other : ℕ) → other ≢ slot → heard_of heard' other ≡ heard_of heard other
  others_now other apart = ap (λ (l : List Heard). heard_of l other) more.heard_is
      ∙ get_or-set_other heard slot other (record { clock = clock; count = due (entry_list own_entries) clock }) (record { clock = 0; count = 0 }) apart

  low : clock_heard heard slot ≤ clock
  low = omega (arith, can.seen, one.later, more.found)

  news_own : Each (λ e. e.key.slot ≡ slot) news
  news_own = each_filtered (λ e. e.key.slot ≡ slot) (λ e. not (nat_lt e.key.stamp (clock_heard heard slot))) (below_stamp clock own_entries)
      (each_filtered (λ e. e.key.slot ≡ slot) (λ e. nat_lt e.key.stamp clock) own_entries (each_own slot history))

  news_low : Each (λ e. e.key.stamp ≤ clock) news
  news_low = each_filtered (λ e. e.key.stamp ≤ clock) (λ e. not (nat_lt e.key.stamp (clock_heard heard slot))) (below_stamp clock own_entries)
      (each_below clock own_entries)

  pub log_now : (done : List KeyedEntry) →
      done ++ waiting_entries queues slot ≡ log slot (clock_heard heard slot) history →
      done ++ waiting_entries after slot ≡ log slot (clock_heard heard' slot) history
  log_now done is =
      ap (λ (l : List KeyedEntry). done ++ l) (fed.own ∙ ap (λ (l : List KeyedEntry). waiting_entries queues slot ++ l) (own_again slot news news_own))
      ∙ (sym (append_assoc done (waiting_entries queues slot) news)
      ∙ (ap (λ (l : List KeyedEntry). l ++ news) (is ∙ sym (log_is slot (clock_heard heard slot) history))
      ∙ (sym (more_is (clock_heard heard slot) clock own_entries low (known.sorted slot).in_order)
      ∙ (log_is slot clock history
      ∙ ap (λ (h : Heard). log slot h.clock history) (sym clock_now)))))

  pub can_now : CanHear history slots slot new after heard'
  can_now = record {
    count = ap (λ (h : Heard). h.count) clock_now
        ∙ ap (λ (h : Heard). due (entry_list own_entries) h.clock) (sym clock_now);
    last = let c = ap (λ (h : Heard). h.clock) clock_now in
        let l = fed.last clock (omega (arith, can.last, low)) (stamps_again clock news news_low) in
        omega (arith, c, l);
    seen = let c = ap (λ (h : Heard). h.clock) clock_now in omega (arith, c, more.found);
    within = fed.slots ∙ can.within;
    size = ap length more.heard_is ∙ (length-set heard slot (record { clock = clock; count = due (entry_list own_entries) clock }) ∙ can.size);
  }

  pub can_still : (other : ℕ) → other ≢ slot → CanHear history slots other old queues heard →
      CanHear history slots other new after heard'
  can_still other apart c =
      let h = others_now other apart in
      let q = fed.others other apart in record {
        count = ap (λ (x : Heard). x.count) h ∙ (c.count ∙ ap (λ (x : Heard). due (entry_list (of_slot other history)) x.clock) (sym h));
        last = omega (arith, ap (λ (x : Heard). x.clock) h, ap (λ (x : Queue). x.last_stamp) q, c.last);
        seen = omega (arith, ap (λ (x : Heard). x.clock) h, one.seen other apart, c.seen);
        within = fed.slots ∙ c.within;
        size = ap length more.heard_is ∙ (length-set heard slot (record { clock = clock; count = due (entry_list own_entries) clock }) ∙ c.size);
      }

  pub waiting_still : (other : ℕ) → other ≢ slot → waiting_entries after other ≡ waiting_entries queues other
  waiting_still other apart = ap (λ (q : Queue). map (slot_entry other) q.entries) (fed.others other apart)

  pub own_still : (other : ℕ) → other ≢ slot → queue_of after other ≡ queue_of queues other
  own_still other apart = fed.others other apart

  pub queues_size : length after ≡ length queues
  queues_size = fed.slots

  pub heard_size : length heard' ≡ length heard
  heard_size = ap length more.heard_is ∙ length-set heard slot (record { clock = clock; count = due (entry_list own_entries) clock })

  pub words_now : (heard_of heard slot).count ≤ slice_index old.fetched slot →
      (heard_of heard' slot).count ≤ slice_index new.fetched slot
  words_now le = let c = ap (λ (h : Heard). h.count) clock_now in omega (arith, c, more.words, le)

-- the slots before a number were heard
pub record IsHearing (history : List KeyedEntry) (slots : ℕ) (key : Key) (old new : SeatView)
    (queues after : List Queue) (heard heard' : List Heard) (next : ℕ) : Type 0 where
  pub seat : HasHeardOthers key old new heard
  pub on : HasHeardOn history slots key.slot old new queues after heard heard'
  pub unlooked : (slot : ℕ) → next ≤ slot → slice_index new.looks slot ≡ slice_index old.looks slot
  pub unheard : (slot : ℕ) → next ≤ slot → heard_of heard' slot ≡ heard_of heard slot
  pub enough : (slot : ℕ) → slot < next → slot ≢ key.slot →
      is_enough key slot (clock_heard heard' slot) ≡ true

pub hearing_first : (history : List KeyedEntry) (slots : ℕ) (key : Key) (board : BoardView)
    (old : SeatView) (queues : List Queue) (heard : List Heard) → IsSeat board old →
    CanHearAll history slots key.slot old queues heard →
    IsHearing history slots key old old queues queues heard heard 0
hearing_first history slots key board old queues heard before can = record {
  seat = record {
    seat = subst (λ (b : BoardView). IsSeat b old) (sym before.same) before;
    own_slot = refl;
    own = refl;
    written = refl;
    seen = λ slot. omega arith;
    fetched = λ slot. omega arith;
    spared = λ slot e. refl;
  };
  on = record {
    waits = λ slot lt apart done is. is;
    own = refl;
    can = can;
    words = λ slot lt apart le. le;
    queues_size = refl;
    heard_size = refl;
  };
  unlooked = λ slot le. refl;
  unheard = λ slot le. refl;
  enough = λ slot lt apart. absurd (omega arith);
}

-- a slot that isn't heard is the own one, or enough was heard of it
pub hearing_skip : (history : List KeyedEntry) (slots : ℕ) (key : Key) (old new : SeatView)
    (queues after : List Queue) (heard heard' : List Heard) (next : ℕ) →
    IsHearing history slots key old new queues after heard heard' next →
    (next ≢ key.slot → is_enough key next (clock_heard heard' next) ≡ true) →
    IsHearing history slots key old new queues after heard heard' (next + 1)
hearing_skip history slots key old new queues after heard heard' next h skip = record {
  seat = h.seat;
  on = h.on;
  unlooked = λ slot le. h.unlooked slot (omega arith);
  unheard = λ slot le. h.unheard slot (omega arith);
  enough = λ slot lt apart. dite (ℕ_discrete slot next)
      (λ e. subst (λ (n : ℕ). is_enough key n (clock_heard heard' n) ≡ true) (sym e) (skip (λ q. apart (e ∙ q))))
      (λ ne. h.enough slot (omega arith) apart);
}

module _ (history : List KeyedEntry) (known : IsRunHistory history) (slots : ℕ) (key : Key)
    (old seat new : SeatView) (queues mid after : List Queue) (heard heard_mid heard' : List Heard)
    (next : ℕ) (within : next < slots)
    (h : IsHearing history slots key old seat queues mid heard heard_mid next)
    (apart : next ≢ key.slot) (little : is_enough key next (clock_heard heard_mid next) ≡ false) where
  abbrev its : CanHear history slots next seat mid heard_mid
  its = h.on.can.each next within apart

  false_true : (b : Bool) → b ≡ false → b ≡ true → ⊥
  false_true b e f = cc

  -- the seat after a slot more was heard
  pub others_then : HasHeard next seat new → HasHeardOthers key old new heard
  others_then one = record {
    seat = subst (λ (b : BoardView). IsSeat b new) h.seat.seat.same one.seat;
    own_slot = one.own_slot ∙ h.seat.own_slot;
    own = one.own ∙ h.seat.own;
    written = one.written ∙ h.seat.written;
    seen = λ slot. dite (ℕ_discrete slot next)
        (λ e. subst (λ (n : ℕ). clock_seen old n ≤ clock_seen new n) (sym e) (omega (arith, one.later, h.seat.seen next)))
        (λ ne. omega (arith, one.seen slot ne, h.seat.seen slot));
    fetched = λ slot. omega (arith, one.fetched slot, h.seat.fetched slot);
    spared = λ slot spared. dite (ℕ_discrete slot next)
        (λ e. let same : clock_heard heard_mid next ≡ clock_heard heard next = ap (λ (x : Heard). x.clock) (h.unheard next (omega arith)) in
        let enough : is_enough key next (clock_heard heard next) ≡ true = subst (λ (n : ℕ). is_enough key n (clock_heard heard n) ≡ true) e (spared (λ q. apart (sym e ∙ q))) in
        absurd (false_true (is_enough key next (clock_heard heard next)) (ap (is_enough key next) (sym same) ∙ little) enough))
        (λ ne. one.other_looks slot ne ∙ h.seat.spared slot spared);
  }

  pub hearing_on : (clock : ℕ) → HasHeard next seat new →
      HasHeardMore history next seat new mid after heard_mid heard' clock →
      HasHeardOn history slots key.slot old new queues after heard heard'
  hearing_on clock one more = record {
    waits = λ slot lt other done is. dite (ℕ_discrete slot next)
        (λ e. subst (λ (n : ℕ). done ++ waiting_entries after n ≡ log n (clock_heard heard' n) history) (sym e)
        (log_now history known slots next within seat new mid after heard_mid heard' its clock one more done
        (subst (λ (n : ℕ). done ++ waiting_entries mid n ≡ log n (clock_heard heard_mid n) history) e (h.on.waits slot lt other done is))))
        (λ ne. ap (λ (l : List KeyedEntry). done ++ l) (waiting_still history known slots next within seat new mid after heard_mid heard' its clock one more slot ne)
        ∙ (h.on.waits slot lt other done is
        ∙ ap (λ (x : Heard). log slot x.clock history) (sym (others_now history known slots next within seat new mid after heard_mid heard' its clock one more slot ne))));
    own = own_still history known slots next within seat new mid after heard_mid heard' its clock one more key.slot (λ q. apart (sym q)) ∙ h.on.own;
    can = record {
      each = λ slot lt other. dite (ℕ_discrete slot next)
          (λ e. subst (λ (n : ℕ). CanHear history slots n new after heard') (sym e) (can_now history known slots next within seat new mid after heard_mid heard' its clock one more))
          (λ ne. can_still history known slots next within seat new mid after heard_mid heard' its clock one more slot ne (h.on.can.each slot lt other));
    };
    words = λ slot lt other le. dite (ℕ_discrete slot next)
        (λ e. subst (λ (n : ℕ). (heard_of heard' n).count ≤ slice_index new.fetched n) (sym e)
        (words_now history known slots next within seat new mid after heard_mid heard' its clock one more
        (subst (λ (n : ℕ). (heard_of heard_mid n).count ≤ slice_index seat.fetched n) e (h.on.words slot lt other le))))
        (λ ne. let same = ap (λ (x : Heard). x.count) (others_now history known slots next within seat new mid after heard_mid heard' its clock one more slot ne) in
        omega (arith, same, one.fetched slot, h.on.words slot lt other le));
    queues_size = queues_size history known slots next within seat new mid after heard_mid heard' its clock one more ∙ h.on.queues_size;
    heard_size = heard_size history known slots next within seat new mid after heard_mid heard' its clock one more ∙ h.on.heard_size;
  }

  pub hearing_then : (clock : ℕ) → HasHeard next seat new →
      HasHeardMore history next seat new mid after heard_mid heard' clock →
      is_enough key next clock ≡ true →
      IsHearing history slots key old new queues after heard heard' (next + 1)
  hearing_then clock one more enough = record {
    seat = others_then one;
    on = hearing_on clock one more;
    unlooked = λ slot le. one.other_looks slot (λ e. omega (arith, e)) ∙ h.unlooked slot (omega arith);
    unheard = λ slot le. others_now history known slots next within seat new mid after heard_mid heard' its clock one more slot (λ e. omega (arith, e)) ∙ h.unheard slot (omega arith);
    enough = λ slot lt other. dite (ℕ_discrete slot next)
        (λ e. subst (λ (n : ℕ). is_enough key n (clock_heard heard' n) ≡ true) (sym e)
        (ap (λ (x : Heard). is_enough key next x.clock) (clock_now history known slots next within seat new mid after heard_mid heard' its clock one more) ∙ enough))
        (λ ne. ap (λ (x : Heard). is_enough key slot x.clock) (others_now history known slots next within seat new mid after heard_mid heard' its clock one more slot ne)
        ∙ h.enough slot (omega arith) other);
  }

  pub short_then : (clock : ℕ) → HasHeard next seat new →
      HasHeardMore history next seat new mid after heard_mid heard' clock →
      is_enough key next clock ≡ false →
      IsShort slots key old new (record { slot = next; clock = clock })
  short_then clock one more short = record {
    other = apart;
    within = within;
    looked = one.looked ∙ ap (λ (n : ℕ). n + 1) (h.unlooked next (omega arith));
    found = more.found;
    little = short;
  }
