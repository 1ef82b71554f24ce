-- A slot that is heard: the board's words of it are those of its entries.
use Rattle.std.proofs.Common.{ℕ, zero, suc, ◌+◌, ◌*◌, ◌-◌, ◌^◌, ◌<◌, ◌≤◌, ◌≡◌, List, [], ◌∷◌, length, map, take, drop, set, slice_index, Result, Ok, Err, refl, sym, ap, ◌∙◌, subst, arith}
use Rattle.std.specs.Prelude.{Bool, Option, true, false, not, nat_lt, nat_eq, if◌then◌else◌}
use Rattle.std.proofs.lemmas.Bool.Decides.{nat_tests}
use Rattle.std.proofs.Math.Nat.{mul-le-mul_left}
use Rattle.std.proofs.lemmas.List.{get_or-set_same, get_or-set_other, length-append, length-map}
use Rattle.clock_words.specs.Seats.{BoardView, IsSeat, SeatView, clock_seen, due_seen, with_fetch, with_look}
use Rattle.clock_words.specs.Stories.{Lists, due, list_of, stamped_word, words_of}
use Rattle.clock_words.specs.declared.story.StampedWord.{StampedWord}
use Rattle.clock_words.proofs.DueWords.{due_words_most, due_words_rise}
use Rattle.commit_order.specs.Queues.{Queue, queue_of}
use Rattle.stamp_machine.specs.Limits.{AreLimits}
use Rattle.stamp_machine.specs.Machine.{final}
use Rattle.stamp_machine.specs.Orders.{AreInOrder, Each, IsNotLess, IsSorted}
use Rattle.stamp_machine.specs.Runs.{of_slot}
use Rattle.stamp_machine.specs.declared.limits.Limits.{Limits}
use Rattle.stamp_machine.proofs.Histories.{slot_sorted}
use Rattle.stamp_machine.proofs.Orders.{each_filtered, in_order_filtered}
use Rattle.stamp_machine.proofs.Ranges.{stores_fit, words_of_each}
use Rattle.work_stamp.specs.Taskers.{IsLawful, Rules, Standing}
use Rattle.work_stamp.specs.Words.{further_words, words}
use Rattle.work_stamp.specs.Writable.{HasWords}
use Rattle.stamp_machine.specs.Ranges.{keyed_word_count}
use Rattle.work_stamp.specs.declared.entry.Entry.{Entry}
use Rattle.work_stamp.specs.declared.stamped.KeyedEntry.{KeyedEntry}
use Rattle.work_stamp.specs.declared.stamped.Stamped.{Stamped}
use Rattle.version_store.specs.Carriers.{clock_heard, heard_of}
use Rattle.version_store.specs.Hearing.{AreLater, CanFeed, CanHear, HasFetchedAt, HasHeard, HasHeardMore, after_feeds, below_stamp, between, from_stamp}
use Rattle.version_store.specs.Stories.{entry_list, stamped}
use Rattle.version_store.specs.declared.heard.Heard.{Heard}
use Rattle.version_store.proofs.EntryWords.{due_between, words_between}

-- entries that are fed have words, and stamps from one on
have_words : (es : List KeyedEntry) → Each (λ e. HasWords e.entry) es →
    Each (λ (item : Stamped). HasWords item.entry) (map stamped es)
have_words [] h = tt
have_words (e ∷ es) h = (h.0, have_words es h.1)

are_later : (least : ℕ) (es : List KeyedEntry) → Each (λ e. least ≤ e.key.stamp) es →
    AreInOrder es → AreLater least (map stamped es)
are_later least [] h order = tt
are_later least (e ∷ es) h order = (h.0, are_later e.key.stamp es (later es order.0) order.1) where
  later : (es : List KeyedEntry) → Each (λ x. IsNotLess x.key e.key) es →
      Each (λ x. e.key.stamp ≤ x.key.stamp) es
  later [] h = tt
  later (f ∷ fs) h = (h.0.stamps, later fs h.1)

from_there_by : (b : Bool) (low : ℕ) (e : KeyedEntry) (es : List KeyedEntry) →
    nat_lt e.key.stamp low ≡ b → Each (λ x. low ≤ x.key.stamp) (from_stamp low es) →
    Each (λ x. low ≤ x.key.stamp) (if not b then e ∷ from_stamp low es else from_stamp low es)
from_there_by true low e es t h = h
from_there_by false low e es t h = (grind (arith, nat_tests), h)

pub from_there : (low : ℕ) (es : List KeyedEntry) →
    Each (λ x. low ≤ x.key.stamp) (from_stamp low es)
from_there low [] = tt
from_there low (e ∷ es) = from_there_by (nat_lt e.key.stamp low) low e es refl (from_there low es)

at_least : (low least : ℕ) (es : List KeyedEntry) → least ≤ low →
    Each (λ x. low ≤ x.key.stamp) es → Each (λ x. least ≤ x.key.stamp) es
at_least low least [] le h = tt
at_least low least (e ∷ es) le h = (omega (arith, h.0), at_least low least es le h.1)

-- what is known of the history of a run
pub record IsRunHistory (history : List KeyedEntry) : Type 0 where
  pub sorted : (number : ℕ) → IsSorted (of_slot number history)
  pub have_words : Each (λ e. HasWords e.entry) history
  pub short : (number : ℕ) → length (entry_list (of_slot number history)) ≤ 2 ^ 22

words_counted : (es : List KeyedEntry) → length (entry_list es) ≡ keyed_word_count es
words_counted [] = refl
words_counted (e ∷ es) =
    let ws : List ℕ = words (stamped e) in
    let whole : length (entry_list (e ∷ es)) ≡ length (map (stamped_word e.key.stamp) ws) + length (entry_list es) =
    length-append (map (stamped_word e.key.stamp) ws) (entry_list es) in
    let size : length (map (stamped_word e.key.stamp) ws) ≡ length ws = length-map ws (stamped_word e.key.stamp) in
    let rest = words_counted es in
    let own : length ws ≡ 3 + length (further_words e.entry) = omega arith in
    omega (arith, whole, size, rest, own)

store_small : (limits : Limits) → AreLimits limits → limits.store ≤ 2 ^ 22
store_small limits ranges =
    let one : limits.store * 1 ≤ limits.store * limits.slots = mul-le-mul_left limits.store ranges.some_slots in
    let swap : limits.store * limits.slots ≡ limits.slots * limits.store = grind arith in
    omega (arith, one, swap, ranges.small_store)

module _ (V L : Type 0) (r : Rules V L) (FitsView : V → Type 0) (FitsLocal : L → Type 0)
    (MayFollow : List KeyedEntry → Entry → Type 0)
    (Agrees : List KeyedEntry → List (Option (Standing L)) → Type 0)
    (law : IsLawful r FitsView FitsLocal MayFollow Agrees) (limits : Limits)
    (ranges : AreLimits limits) where
  pub run_history : IsRunHistory (final r limits).entries
  run_history = record {
    sorted = slot_sorted V L r FitsView FitsLocal MayFollow Agrees law limits ranges;
    have_words = words_of_each V L r FitsView FitsLocal MayFollow Agrees law limits ranges;
    short = λ number.
        let fit = (stores_fit V L r FitsView FitsLocal MayFollow Agrees law limits ranges).each number in
        let small = store_small limits ranges in
        let count = words_counted (of_slot number (final r limits).entries) in
        omega (arith, fit, small, count);
  }

-- a slot that is looked at
pub heard_look : (board : BoardView) (slot clock : ℕ) (old seat : SeatView) → IsSeat board old →
    IsSeat board seat → slot < board.shape.slots → seat ≡ with_look slot clock old →
    clock_seen old slot ≤ clock → HasHeard slot old seat
heard_look board slot clock old seat before after within is later =
    let looks : slot < length old.looks = omega (arith, before.looks_size) in
    let sees : slot < length old.seen = omega (arith, before.size) in
    let found : clock_seen (with_look slot clock old) slot ≡ clock =
    get_or-set_same old.seen slot clock 0 sees in
    record {
      seat = subst (λ (b : BoardView). IsSeat b seat) (sym before.same) after;
      own_slot = ap (λ (s : SeatView). s.slot) is;
      own = ap (λ (s : SeatView). s.own) is;
      written = ap (λ (s : SeatView). s.written) is;
      looked = ap (λ (s : SeatView). slice_index s.looks slot) is
          ∙ get_or-set_same old.looks slot (slice_index old.looks slot + 1) 0 looks;
      other_looks = λ other apart. ap (λ (s : SeatView). slice_index s.looks other) is
          ∙ get_or-set_other old.looks slot other (slice_index old.looks slot + 1) 0 apart;
      seen = λ other apart. ap (λ (s : SeatView). clock_seen s other) is
          ∙ get_or-set_other old.seen slot other clock 0 apart;
      later = omega (arith, ap (λ (s : SeatView). clock_seen s slot) is, found, later);
      fetched = λ other. let same = ap (λ (s : SeatView). slice_index s.fetched other) is in
          omega (arith, same);
    }

rises_at : (xs : List ℕ) (k n other : ℕ) →
    slice_index xs other ≤ slice_index (set xs k (slice_index xs k + n)) other
rises_at [] k n other = omega arith
rises_at (x ∷ xs) zero n zero = omega arith
rises_at (x ∷ xs) zero n (suc other) = omega arith
rises_at (x ∷ xs) (suc k) n zero = omega arith
rises_at (x ∷ xs) (suc k) n (suc other) = rises_at xs k n other

pub heard_fetch : {A E : Type 0} (board : BoardView) (slot count : ℕ) (old seat new : SeatView)
    (result : Result A E) → IsSeat board old → HasHeard slot old seat →
    HasFetchedAt board slot count seat new result → HasHeard slot old new
heard_fetch board slot count old seat new (Err e) before h is =
    subst (λ (s : SeatView). HasHeard slot old s) (sym is) h
heard_fetch board slot count old seat new (Ok x) before h f =
    let is = f.1 in record {
      seat = subst (λ (b : BoardView). IsSeat b new) (sym before.same) f.0;
      own_slot = ap (λ (s : SeatView). s.slot) is ∙ h.own_slot;
      own = ap (λ (s : SeatView). s.own) is ∙ h.own;
      written = ap (λ (s : SeatView). s.written) is ∙ h.written;
      looked = ap (λ (s : SeatView). slice_index s.looks slot) is ∙ h.looked;
      other_looks = λ other apart. ap (λ (s : SeatView). slice_index s.looks other) is
          ∙ h.other_looks other apart;
      seen = λ other apart. ap (λ (s : SeatView). clock_seen s other) is ∙ h.seen other apart;
      later = let same = ap (λ (s : SeatView). clock_seen s slot) is in
          omega (arith, same, h.later);
      fetched = λ other.
          let more = rises_at seat.fetched slot count other in
          let same = ap (λ (s : SeatView). slice_index s.fetched other) is in
          omega (arith, more, same, h.fetched other);
    }

-- the words of a slot that are due from the clock heard up to the clock found
module _ (history : List KeyedEntry) (known : IsRunHistory history) (slots slot : ℕ)
    (within : slot < slots) (old : SeatView) (queues : List Queue) (heard : List Heard)
    (can : CanHear history slots slot old queues heard) (clock : ℕ)
    (later : clock_seen old slot ≤ clock) where
  abbrev own_entries : List KeyedEntry
  own_entries = of_slot slot history

  abbrev pub new_entries : List KeyedEntry
  new_entries = between (clock_heard heard slot) clock own_entries

  rises : clock_heard heard slot ≤ clock
  rises = omega (arith, can.seen, later)

  pub count_rises : (heard_of heard slot).count ≤ due (entry_list own_entries) clock
  count_rises = let more = due_words_rise (entry_list own_entries) (clock_heard heard slot) clock rises in
      omega (arith, can.count, more)

  pub count_is : due (entry_list own_entries) clock ≡
      (heard_of heard slot).count + length (entry_list new_entries)
  count_is = due_between (clock_heard heard slot) clock own_entries rises (known.sorted slot).in_order
      ∙ ap (λ (n : ℕ). n + length (entry_list new_entries)) (sym can.count)

  pub new_count : (n : ℕ) → n ≡ due (entry_list own_entries) clock - (heard_of heard slot).count →
      n ≡ length (entry_list new_entries)
  new_count n is = omega (arith, is, count_is)

  pub words_found : (n : ℕ) (lists : Lists) (ws : List ℕ) →
      n ≡ due (entry_list own_entries) clock - (heard_of heard slot).count →
      list_of lists slot ≡ entry_list own_entries →
      ws ≡ take n (drop (heard_of heard slot).count (words_of (list_of lists slot))) →
      CanFeed queues slot ws (map stamped new_entries)
  words_found n lists ws size story is = record {
    words_are = is ∙ (ap (λ (l : List StampedWord). take n (drop (heard_of heard slot).count (words_of l))) story
        ∙ (ap (λ (k : ℕ). take n (drop k (words_of (entry_list own_entries)))) can.count
        ∙ words_between (clock_heard heard slot) clock n own_entries rises (known.sorted slot).in_order (new_count n size)));
    have_words = have_words new_entries
        (each_filtered (λ e. HasWords e.entry) (λ e. not (nat_lt e.key.stamp (clock_heard heard slot))) (below_stamp clock own_entries)
        (each_filtered (λ e. HasWords e.entry) (λ e. nat_lt e.key.stamp clock) own_entries
        (each_filtered (λ e. HasWords e.entry) (λ e. nat_eq e.key.slot slot) history known.have_words)));
    later = are_later (queue_of queues slot).last_stamp new_entries
        (at_least (clock_heard heard slot) (queue_of queues slot).last_stamp new_entries can.last
        (from_there (clock_heard heard slot) (below_stamp clock own_entries)))
        (in_order_filtered (λ e. not (nat_lt e.key.stamp (clock_heard heard slot))) (below_stamp clock own_entries)
        (in_order_filtered (λ e. nat_lt e.key.stamp clock) own_entries (known.sorted slot).in_order));
    within = omega (arith, can.within, within);
  }

  pub words_short : (n : ℕ) (ws : List ℕ) → n ≤ due (entry_list own_entries) clock → length ws ≤ n →
      length ws ≤ 2 ^ 30
  words_short n ws le is =
      let most = due_words_most (entry_list own_entries) clock in
      let short = known.short slot in
      omega (arith, most, short, le, is)

-- how many words are due below the clock found
pub due_found : (board : BoardView) (slot clock : ℕ) (old seat : SeatView)
    (list : List StampedWord) → IsSeat board old → slot < board.shape.slots →
    seat ≡ with_look slot clock old → list_of board.story slot ≡ list →
    due_seen seat slot ≡ due list clock
due_found board slot clock old seat list before within is story =
    let sees : slot < length old.seen = omega (arith, before.size) in
    ap (λ (s : SeatView). due_seen s slot) is
    ∙ (ap (λ (n : ℕ). due (list_of old.board.story slot) n)
    (get_or-set_same old.seen slot clock 0 sees)
    ∙ ap (λ (l : List StampedWord). due l clock)
    (ap (λ (b : BoardView). list_of b.story slot) before.same ∙ story))

-- what is known after the fetch
module _ (history : List KeyedEntry) (known : IsRunHistory history) (slots slot : ℕ)
    (within : slot < slots) (board : BoardView) (old seat new : SeatView) (queues after : List Queue)
    (heard : List Heard) (can : CanHear history slots slot old queues heard) (clock : ℕ)
    (later : clock_seen old slot ≤ clock) (before : IsSeat board old)
    (here : slot < board.shape.slots) where
  pub heard_more : (n count : ℕ) → seat ≡ with_look slot clock old → new ≡ with_fetch slot n seat →
      n ≡ due (entry_list (of_slot slot history)) clock - (heard_of heard slot).count →
      count ≡ due (entry_list (of_slot slot history)) clock →
      after ≡ after_feeds queues slot (map stamped
      (new_entries history known slots slot within old queues heard can clock later)) →
      HasHeardMore history slot old new queues after heard
      (set heard slot (record { clock = clock; count = count })) clock
  heard_more n count looked fetched size is fed =
      let sees : slot < length old.seen = omega (arith, before.size) in
      let room : slot < length old.fetched = omega (arith, before.fetched_size) in
      let same : slice_index seat.fetched slot ≡ slice_index old.fetched slot =
      ap (λ (s : SeatView). slice_index s.fetched slot) looked in
      let wide : length seat.fetched ≡ length old.fetched =
      ap (λ (s : SeatView). length s.fetched) looked in
      let added : slice_index new.fetched slot ≡ slice_index seat.fetched slot + n =
      ap (λ (s : SeatView). slice_index s.fetched slot) fetched
      ∙ get_or-set_same seat.fetched slot (slice_index seat.fetched slot + n) 0
      (omega (arith, wide, room)) in
      let rise = count_rises history known slots slot within old queues heard can clock later in
      record {
        found = ap (λ (s : SeatView). clock_seen s slot) fetched
            ∙ (ap (λ (s : SeatView). clock_seen s slot) looked
            ∙ get_or-set_same old.seen slot clock 0 sees);
        queues_are = fed;
        heard_is = ap (λ (c : ℕ). let h : Heard = record { clock = clock; count = c } in set heard slot h) is;
        words = omega (arith, same, added, size, rise);
      }

pub take_short : {A : Type 0} (n : ℕ) (xs : List A) → length (take n xs) ≤ n
take_short zero xs = omega arith
take_short (suc n) [] = omega arith
take_short (suc n) (x ∷ xs) = let rest = take_short n xs in omega (arith, rest)
