-- What is fetched of another slot, and how it comes to wait.
use Rattle.std.specs.Prelude.{ℕ, ◌≡◌, ◌≢◌, ◌≤◌, ◌<◌, ◌+◌, Bool, true, false, not, nat_lt, nat_le, if◌then◌else◌, IfOk, Option, Some, None, List, [], ◌∷◌, ◌++◌, filter, length, map, slice_index, slice_set, Result, Ok, Err}
use Rattle.clock_words.specs.Seats.{BoardView, IsSeat, SeatView, clock_seen, with_fetch}
use Rattle.clock_words.specs.Stories.{due}
use Rattle.commit_order.specs.Merges.{after_feed, waiting_entries}
use Rattle.commit_order.specs.Queues.{Queue, queue_of}
use Rattle.stamp_machine.specs.Orders.{Each}
use Rattle.stamp_machine.specs.Runs.{log, of_slot}
use Rattle.work_stamp.specs.Words.{words}
use Rattle.work_stamp.specs.Writable.{HasWords}
use Rattle.work_stamp.specs.declared.key.Key.{Key}
use Rattle.work_stamp.specs.declared.stamped.KeyedEntry.{KeyedEntry}
use Rattle.work_stamp.specs.declared.stamped.Stamped.{Stamped}
use Rattle.version_store.specs.Carriers.{clock_heard, heard_of}
use Rattle.version_store.specs.Stories.{entry_list, stamped}
use Rattle.version_store.specs.declared.heard.Heard.{Heard}
use Rattle.version_store.specs.declared.hearing_all.Short.{Short}

-- the words of entries with their stamps, one after the other
abbrev pub item_words : List Stamped → List ℕ
item_words [] = []
item_words (item ∷ items) = words item ++ item_words items

-- the entries below a stamp, and those from it on
abbrev pub below_stamp : ℕ → List KeyedEntry → List KeyedEntry
below_stamp stamp entries = filter (λ e. nat_lt e.key.stamp stamp) entries

abbrev pub from_stamp : ℕ → List KeyedEntry → List KeyedEntry
from_stamp stamp entries = filter (λ e. not (nat_lt e.key.stamp stamp)) entries

-- the entries from one stamp on, and below another
abbrev pub between : ℕ → ℕ → List KeyedEntry → List KeyedEntry
between low high entries = from_stamp low (below_stamp high entries)

-- entries were fed for a slot, one after the other
abbrev pub after_feeds : List Queue → ℕ → List Stamped → List Queue
after_feeds queues slot [] = queues
after_feeds queues slot (item ∷ items) = after_feeds (after_feed queues slot item) slot items

-- stamps that don't fall, from one on
abbrev pub AreLater : ℕ → List Stamped → Type 0
AreLater least [] = Unit {0}
AreLater least (item ∷ items) = (least ≤ item.stamp) × AreLater item.stamp items

-- words that are those of some entries, which may be fed for a slot
pub record CanFeed (queues : List Queue) (slot : ℕ) (ws : List ℕ) (items : List Stamped) :
    Type 0 where
  pub words_are : ws ≡ item_words items
  pub have_words : Each (λ (item : Stamped). HasWords item.entry) items
  pub later : AreLater (queue_of queues slot).last_stamp items
  pub within : slot < length queues

-- what a seat keeps while it hears a slot: it knows no less than before, and only that slot was
-- looked at, once
pub record HasHeard (slot : ℕ) (old new : SeatView) : Type 0 where
  pub seat : IsSeat old.board new
  pub own_slot : new.slot ≡ old.slot
  pub own : new.own ≡ old.own
  pub written : new.written ≡ old.written
  pub looked : slice_index new.looks slot ≡ slice_index old.looks slot + 1
  pub other_looks : (other : ℕ) → other ≢ slot →
      slice_index new.looks other ≡ slice_index old.looks other
  pub seen : (other : ℕ) → other ≢ slot → clock_seen new other ≡ clock_seen old other
  pub later : clock_seen old slot ≤ clock_seen new slot
  pub fetched : (other : ℕ) → slice_index old.fetched other ≤ slice_index new.fetched other

-- a slot was heard up to the clock now seen: its entries from the clock heard before on wait behind
-- those that waited, and their words were fetched
pub record HasHeardMore (history : List KeyedEntry) (slot : ℕ) (old new : SeatView)
    (queues after : List Queue) (heard heard' : List Heard) (clock : ℕ) : Type 0 where
  pub found : clock_seen new slot ≡ clock
  pub queues_are : after ≡ after_feeds queues slot (map stamped
      (between (clock_heard heard slot) clock (of_slot slot history)))
  pub heard_is : heard' ≡ slice_set heard slot (record {
    clock = clock;
    count = due (entry_list (of_slot slot history)) clock;
  })
  pub words : slice_index old.fetched slot +
      due (entry_list (of_slot slot history)) clock ≤
      slice_index new.fetched slot + (heard_of heard slot).count

-- words that begin with those of an entry
pub record BeginsWith (item : Stamped) (ws : List ℕ) : Type 0 where
  pub rest : List ℕ
  pub whole : ws ≡ words item ++ rest
  pub has_words : HasWords item.entry

-- a slot can be heard: all of its words that are due below the clock heard were fetched, the seat has
-- seen that clock, and no entry that was fed has a later stamp
pub record CanHear (history : List KeyedEntry) (slots slot : ℕ) (seat : SeatView)
    (queues : List Queue) (heard : List Heard) : Type 0 where
  pub count : (heard_of heard slot).count ≡
      due (entry_list (of_slot slot history)) (clock_heard heard slot)
  pub last : (queue_of queues slot).last_stamp ≤ clock_heard heard slot
  pub seen : clock_heard heard slot ≤ clock_seen seat slot
  pub within : length queues ≡ slots
  pub size : length heard ≡ slots

-- so many words of a slot were fetched, or none for want of memory
abbrev pub HasFetchedAt : {A E : Type 0} → BoardView → ℕ → ℕ → SeatView → SeatView → Result A E →
    Type 0
HasFetchedAt board slot count old new (Ok x) = IsSeat board new × (new ≡ with_fetch slot count old)
HasFetchedAt board slot count old new (Err e) = new ≡ old

-- whether a clock of another slot is enough for a move of this key
abbrev pub is_enough : Key → ℕ → ℕ → Bool
is_enough key other clock =
    if nat_lt other key.slot then nat_lt key.stamp clock else nat_le key.stamp clock

-- each other slot can be heard
pub record CanHearAll (history : List KeyedEntry) (slots number : ℕ) (seat : SeatView)
    (queues : List Queue) (heard : List Heard) : Type 0 where
  pub each : (slot : ℕ) → slot < slots → slot ≢ number →
      CanHear history slots slot seat queues heard

-- what a seat keeps while it hears others: it knows no less than before, and didn't look at a slot of
-- which enough was heard
pub record HasHeardOthers (key : Key) (old new : SeatView) (heard : List Heard) : Type 0 where
  pub seat : IsSeat old.board new
  pub own_slot : new.slot ≡ old.slot
  pub own : new.own ≡ old.own
  pub written : new.written ≡ old.written
  pub seen : (slot : ℕ) → clock_seen old slot ≤ clock_seen new slot
  pub fetched : (slot : ℕ) → slice_index old.fetched slot ≤ slice_index new.fetched slot
  pub spared : (slot : ℕ) →
      (slot ≢ key.slot → is_enough key slot (clock_heard heard slot) ≡ true) →
      slice_index new.looks slot ≡ slice_index old.looks slot

-- What is heard of other slots waits behind what waited: what made a log with it before makes the log
-- up to the clock heard now.
pub record HasHeardOn (history : List KeyedEntry) (slots number : ℕ) (old new : SeatView)
    (queues after : List Queue) (heard heard' : List Heard) : Type 0 where
  pub waits : (slot : ℕ) → slot < slots → slot ≢ number → (done : List KeyedEntry) →
      done ++ waiting_entries queues slot ≡ log slot (clock_heard heard slot) history →
      done ++ waiting_entries after slot ≡ log slot (clock_heard heard' slot) history
  pub own : queue_of after number ≡ queue_of queues number
  pub can : CanHearAll history slots number new after heard'
  pub words : (slot : ℕ) → slot < slots → slot ≢ number →
      (heard_of heard slot).count ≤ slice_index old.fetched slot →
      (heard_of heard' slot).count ≤ slice_index new.fetched slot
  pub queues_size : length after ≡ length queues
  pub heard_size : length heard' ≡ length heard

-- enough was heard of each other slot
pub record IsAllEnough (slots : ℕ) (key : Key) (heard : List Heard) : Type 0 where
  pub each : (slot : ℕ) → slot < slots → slot ≢ key.slot →
      is_enough key slot (clock_heard heard slot) ≡ true

-- a look of this call found a slot's clock, which is not enough
pub record IsShort (slots : ℕ) (key : Key) (old new : SeatView) (short : Short) : Type 0 where
  pub other : short.slot ≢ key.slot
  pub within : short.slot < slots
  pub looked : slice_index new.looks short.slot ≡ slice_index old.looks short.slot + 1
  pub found : clock_seen new short.slot ≡ short.clock
  pub little : is_enough key short.slot short.clock ≡ false

-- what was found
abbrev pub IsFound : ℕ → Key → SeatView → SeatView → List Heard → Option Short → Type 0
IsFound slots key old new heard None = IsAllEnough slots key heard
IsFound slots key old new heard (Some short) = IsShort slots key old new short

-- what comes of hearing the other slots
pub record HasHeardAll {E : Type 0} (history : List KeyedEntry) (slots : ℕ) (key : Key)
    (old new : SeatView) (queues after : List Queue) (heard heard' : List Heard)
    (result : Result (Option Short) E) : Type 0 where
  pub seat : HasHeardOthers key old new heard
  pub heard_on : IfOk result (λ found.
      HasHeardOn history slots key.slot old new queues after heard heard')
  pub found : IfOk result (λ found. IsFound slots key old new heard' found)
