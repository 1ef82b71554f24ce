-- Entries of a slot that are fed one after the other.
use Rattle.std.proofs.Common.{◌≡◌, ℕ, ◌<◌, ◌≤◌, Bool, true, false, List, [], ◌∷◌, ◌++◌, length, map, refl, sym, ap, ◌∙◌, subst, arith}
use Rattle.std.specs.Prelude.{nat_eq, if◌then◌else◌}
use Rattle.std.proofs.lemmas.Bool.{eqb-true}
use Rattle.std.proofs.lemmas.List.{append-nil, append_assoc, map-append}
use Rattle.commit_order.specs.Merges.{after_feed, slot_entry, waiting_entries}
use Rattle.commit_order.specs.Queues.{Queue, empty_queue, queue_of}
use Rattle.commit_order.proofs.Waiting.{waits_last}
use Rattle.stamp_machine.specs.Orders.{AreInOrder, Each, IsNotLess, IsSorted}
use Rattle.stamp_machine.specs.Runs.{of_slot}
use Rattle.work_stamp.specs.declared.stamped.KeyedEntry.{KeyedEntry}
use Rattle.work_stamp.specs.declared.stamped.Stamped.{Stamped}
use Rattle.version_store.specs.Gathers.{CanFeed, HasFed, RiseFrom, after_feeds}
use Rattle.version_store.specs.Stories.{stamped}

pub fed : (queues : List Queue) (slot : ℕ) (items : List Stamped) → slot < length queues →
    HasFed queues slot (map (slot_entry slot) items) (after_feeds queues slot items)
fed queues slot [] within = record {
  size = refl;
  own = sym (append-nil (waiting_entries queues slot));
  others = λ other apart. refl;
}
fed queues slot (item ∷ items) within =
    let one = waits_last queues slot item within in
    let rest = fed (after_feed queues slot item) slot items
    (subst (λ (n : ℕ). slot < n) (sym one.slots) within) in
    record {
      size = rest.size ∙ one.slots;
      own = rest.own
          ∙ (ap (λ (es : List KeyedEntry). es ++ map (slot_entry slot) items) one.own
          ∙ append_assoc (waiting_entries queues slot) (slot_entry slot item ∷ [])
          (map (slot_entry slot) items));
      others = λ other apart. rest.others other apart ∙ one.others other apart;
    }

pub rest_can_feed : (queues : List Queue) (slot : ℕ) (xs ys : List Stamped) →
    slot < length queues → RiseFrom (queue_of queues slot).last_stamp (xs ++ ys) →
    CanFeed (after_feeds queues slot xs) slot ys
rest_can_feed queues slot [] ys within h = record { within = within; rising = h }
rest_can_feed queues slot (x ∷ xs) ys within h =
    let one = waits_last queues slot x within in
    rest_can_feed (after_feed queues slot x) slot xs ys
    (subst (λ (n : ℕ). slot < n) (sym one.slots) within)
    (subst (λ (n : ℕ). RiseFrom n (xs ++ ys)) (sym one.last) h.1)

-- after the first of some entries the others can be fed
pub next_can_feed : (queues : List Queue) (slot : ℕ) (item : Stamped) (items : List Stamped) →
    CanFeed queues slot (item ∷ items) → CanFeed (after_feed queues slot item) slot items
next_can_feed queues slot item items h =
    rest_can_feed queues slot (item ∷ []) items h.within h.rising

front_rises : (least : ℕ) (xs ys : List Stamped) → RiseFrom least (xs ++ ys) → RiseFrom least xs
front_rises least [] ys h = tt
front_rises least (x ∷ xs) ys h = (h.0, front_rises x.stamp xs ys h.1)

-- no stamp falls below that of an entry that comes before
later_stamps : (e : KeyedEntry) (es : List KeyedEntry) →
    Each (λ later. IsNotLess later.key e.key) es → Each (λ later. e.key.stamp ≤ later.key.stamp) es
later_stamps e [] h = tt
later_stamps e (f ∷ fs) h = (h.0.stamps, later_stamps e fs h.1)

stamps_rise : (es : List KeyedEntry) (least : ℕ) → Each (λ e. least ≤ e.key.stamp) es →
    AreInOrder es → RiseFrom least (map stamped es)
stamps_rise [] least h order = tt
stamps_rise (e ∷ es) least h order =
    (h.0, stamps_rise es e.key.stamp (later_stamps e es order.0) order.1)

all_from_zero : (es : List KeyedEntry) → Each (λ e. 0 ≤ e.key.stamp) es
all_from_zero [] = tt
all_from_zero (e ∷ es) = (omega arith, all_from_zero es)

keyed_again_by : (slot : ℕ) (e : KeyedEntry) (rest : List KeyedEntry) (b : Bool) →
    nat_eq e.key.slot slot ≡ b → map (slot_entry slot) (map stamped rest) ≡ rest →
    map (slot_entry slot) (map stamped (if b then e ∷ rest else rest)) ≡
    (if b then e ∷ rest else rest)
keyed_again_by slot e rest true t h =
    let same : slot_entry slot (stamped e) ≡ e =
    ap (λ (n : ℕ). record { key = record { stamp = e.key.stamp; slot = n }; entry = e.entry })
    (sym (eqb-true e.key.slot slot t)) in
    ap (λ (x : KeyedEntry). x ∷ map (slot_entry slot) (map stamped rest)) same
    ∙ ap (λ (es : List KeyedEntry). e ∷ es) h
keyed_again_by slot e rest false t h = h

-- a slot's entries, each fed by its stamp, get their keys again
keyed_again : (slot : ℕ) (es : List KeyedEntry) →
    map (slot_entry slot) (map stamped (of_slot slot es)) ≡ of_slot slot es
keyed_again slot [] = refl
keyed_again slot (e ∷ es) =
    keyed_again_by slot e (of_slot slot es) (nat_eq e.key.slot slot) refl (keyed_again slot es)

stamped_again : (slot : ℕ) (items : List Stamped) → map stamped (map (slot_entry slot) items) ≡ items
stamped_again slot [] = refl
stamped_again slot (item ∷ items) = ap (λ (xs : List Stamped). item ∷ xs) (stamped_again slot items)

-- what feeding the entries of a slot asks for and does: those absorbed, and then those that wait
pub record CanFeedBoth (queues : List Queue) (slot : ℕ) (mine : List KeyedEntry)
    (items : List Stamped) (whole : List KeyedEntry) : Type 0 where
  pub first : CanFeed queues slot (map stamped mine)
  pub second : CanFeed (after_feeds queues slot (map stamped mine)) slot items
  pub both : HasFed queues slot whole
      (after_feeds (after_feeds queues slot (map stamped mine)) slot items)

pub feeds_both : (queues : List Queue) (slot : ℕ) (done mine : List KeyedEntry)
    (items : List Stamped) (whole : List KeyedEntry) → slot < length queues →
    queue_of queues slot ≡ empty_queue → mine ≡ of_slot slot done →
    of_slot slot done ++ map (slot_entry slot) items ≡ whole → IsSorted whole →
    CanFeedBoth queues slot mine items whole
feeds_both queues slot done mine items whole within fresh is own sorted =
    let joined : mine ++ map (slot_entry slot) items ≡ whole =
    ap (λ (es : List KeyedEntry). es ++ map (slot_entry slot) items) is ∙ own in
    let stamps : map stamped whole ≡ map stamped mine ++ items =
    ap (map stamped) (sym joined)
    ∙ (map-append stamped mine (map (slot_entry slot) items)
    ∙ ap (λ (xs : List Stamped). map stamped mine ++ xs) (stamped_again slot items)) in
    let rising : RiseFrom 0 (map stamped mine ++ items) =
    subst (RiseFrom 0) stamps (stamps_rise whole 0 (all_from_zero whole) sorted.in_order) in
    let from : RiseFrom (queue_of queues slot).last_stamp (map stamped mine ++ items) =
    subst (λ (q : Queue). RiseFrom q.last_stamp (map stamped mine ++ items)) (sym fresh) rising in
    let keyed : map (slot_entry slot) (map stamped mine) ≡ mine =
    subst (λ (es : List KeyedEntry). map (slot_entry slot) (map stamped es) ≡ es) (sym is)
    (keyed_again slot done) in
    let one = fed queues slot (map stamped mine) within in
    let two = fed (after_feeds queues slot (map stamped mine)) slot items
    (subst (λ (n : ℕ). slot < n) (sym one.size) within) in
    record {
      first = record {
        within = within;
        rising = front_rises (queue_of queues slot).last_stamp (map stamped mine) items from;
      };
      second = rest_can_feed queues slot (map stamped mine) items within from;
      both = record {
        size = two.size ∙ one.size;
        own = two.own
            ∙ (ap (λ (es : List KeyedEntry). es ++ map (slot_entry slot) items)
            (one.own ∙ ap (λ (es : List KeyedEntry). waiting_entries queues slot ++ es) keyed)
            ∙ (append_assoc (waiting_entries queues slot) mine (map (slot_entry slot) items)
            ∙ ap (λ (es : List KeyedEntry). waiting_entries queues slot ++ es) joined));
        others = λ other apart. two.others other apart ∙ one.others other apart;
      };
    }

pub second_is_fed : (queues after : List Queue) (slot number : ℕ) (mine : List KeyedEntry)
    (own : List Queue) (items : List Stamped) (whole : List KeyedEntry) → number ≡ slot →
    after ≡ after_feeds queues number (map stamped mine) → items ≡ (queue_of own number).entries →
    CanFeedBoth queues slot mine (queue_of own slot).entries whole → CanFeed after number items
second_is_fed queues after slot number mine own items whole n a i f =
    subst (λ (q : List Queue). CanFeed q number items) (sym a)
    (subst (λ (xs : List Stamped). CanFeed (after_feeds queues number (map stamped mine)) number xs) (sym i)
    (subst (λ (k : ℕ). CanFeed (after_feeds queues k (map stamped mine)) k (queue_of own k).entries) (sym n)
    f.second))

pub both_are_fed : (queues after last : List Queue) (slot number : ℕ) (mine : List KeyedEntry)
    (own : List Queue) (items : List Stamped) (whole : List KeyedEntry) → number ≡ slot →
    after ≡ after_feeds queues number (map stamped mine) → items ≡ (queue_of own number).entries →
    last ≡ after_feeds after number items →
    CanFeedBoth queues slot mine (queue_of own slot).entries whole → HasFed queues slot whole last
both_are_fed queues after last slot number mine own items whole n a i l f =
    let total : last ≡ after_feeds (after_feeds queues slot (map stamped mine)) slot (queue_of own slot).entries =
    l ∙ (ap (λ (q : List Queue). after_feeds q number items) a
    ∙ (ap (λ (xs : List Stamped). after_feeds (after_feeds queues number (map stamped mine)) number xs) i
    ∙ ap (λ (k : ℕ). after_feeds (after_feeds queues k (map stamped mine)) k (queue_of own k).entries) n)) in
    subst (HasFed queues slot whole) (sym total) f.both
