-- Gathering slot by slot, until all that the run left is there.
use Rattle.std.proofs.Common.{◌≡◌, ℕ, zero, suc, ◌+◌, ◌<◌, ◌≤◌, ◌^◌, Bool, true, false, ◌||◌, nat_eq, nat_lt, List, [], ◌∷◌, ◌++◌, length, map, take, get_or, replicate, Option, Some, None, refl, sym, ap, ◌∙◌, subst, arith}
use Rattle.std.specs.List.{list_any, remove, slice_get}
use Rattle.std.proofs.lemmas.Bool.{eqb-false, eqb-true}
use Rattle.std.proofs.lemmas.Bool.Decides.{nat_tests}
use Rattle.std.proofs.lemmas.List.{map-append, take_all}
use Rattle.clock_words.specs.Seats.{BoardView}
use Rattle.commit_order.specs.Merges.{slot_entry, waiting_entries}
use Rattle.commit_order.specs.Queues.{Queue, empty_queue, queue_of}
use Rattle.ip_core.specs.declared.leaf.Record.{Record}
use Rattle.stamp_machine.specs.Limits.{AreLimits}
use Rattle.stamp_machine.specs.Machine.{final, history, last}
use Rattle.stamp_machine.specs.Orders.{Each}
use Rattle.stamp_machine.specs.Runs.{of_slot}
use Rattle.stamp_machine.specs.Slots.{at}
use Rattle.stamp_machine.specs.declared.history.History.{History}
use Rattle.stamp_machine.specs.declared.limits.Limits.{Limits}
use Rattle.stamp_machine.specs.declared.slot.Slot.{Slot}
use Rattle.stamp_machine.proofs.Histories.{sorted}
use Rattle.stamp_machine.proofs.Keeping.{keeps}
use Rattle.stamp_machine.proofs.Merges.{same_histories}
use Rattle.stamp_machine.proofs.Orders.{each_filtered}
use Rattle.stamp_machine.proofs.Ranges.{low_clocks}
use Rattle.work_stamp.specs.Taskers.{IsLawful, Rules, Standing}
use Rattle.work_stamp.specs.declared.entry.Entry.{Entry}
use Rattle.work_stamp.specs.declared.stamped.KeyedEntry.{KeyedEntry}
use Rattle.version_store.specs.Carriers.{CarrierView}
use Rattle.version_store.specs.Gathers.{AreEnded, AreLow, HasFed, HasSlot, HasTakenCarrier, IsAtEnd, IsGathering, IsMerged}

none_is_no_some : {A : Type 0} (x : A) → None ≡ Some x → ⊥
none_is_no_some x e = cc

each_taken : {A : Type 0} (P : A → Type 0) (xs : List A) (n : ℕ) → Each P xs → Each P (take n xs)
each_taken P xs zero h = tt
each_taken P [] (suc n) h = tt
each_taken P (x ∷ xs) (suc n) h = (h.0, each_taken P xs n h.1)

-- what holds of each item holds of an item at a place, and of each of the others
pub each_got : {A : Type 0} (P : A → Type 0) (xs : List A) (place : ℕ) (x : A) → Each P xs →
    slice_get xs place ≡ Some x → P x
each_got P [] place x h e = absurd (none_is_no_some x e)
each_got P (y ∷ ys) zero x h e =
    let same : y ≡ x = cc in
    subst P same h.0
each_got P (y ∷ ys) (suc place) x h e = each_got P ys place x h.1 e

pub each_removed : {A : Type 0} (P : A → Type 0) (xs : List A) (place : ℕ) → Each P xs →
    Each P (remove xs place)
each_removed P [] zero h = tt
each_removed P [] (suc place) h = tt
each_removed P (x ∷ xs) zero h = h.1
each_removed P (x ∷ xs) (suc place) h = (h.0, each_removed P xs place h.1)

any_by : (b c d : Bool) → (c ≡ true → d ≡ true) → (b || c) ≡ true → (b || d) ≡ true
any_by true c d f h = refl
any_by false c d f h = f h

any_in_rest : (b c : Bool) → b ≡ false → (b || c) ≡ true → c ≡ true
any_in_rest true c e h = absurd cc
any_in_rest false c e h = h

-- an item that fails a test is taken out of a list that has one that passes it
any_removed : {A : Type 0} (test : A → Bool) (xs : List A) (place : ℕ) (x : A) →
    slice_get xs place ≡ Some x → test x ≡ false → list_any test xs ≡ true →
    list_any test (remove xs place) ≡ true
any_removed test [] place x e fails h = absurd (none_is_no_some x e)
any_removed test (y ∷ ys) zero x e fails h =
    let same : y ≡ x = cc in
    any_in_rest (test y) (list_any test ys) (ap test same ∙ fails) h
any_removed test (y ∷ ys) (suc place) x e fails h =
    any_by (test y) (list_any test ys) (list_any test (remove ys place))
    (λ q. any_removed test ys place x e fails q) h

other_by : (a b : ℕ) (t : Bool) → nat_eq a b ≡ t → (a ≡ b → ⊥) → t ≡ false
other_by a b true e apart = absurd (apart (eqb-true a b e))
other_by a b false e apart = refl

pub other_number : (a b : ℕ) → (a ≡ b → ⊥) → nat_eq a b ≡ false
other_number a b apart = other_by a b (nat_eq a b) refl apart

slot_left : {T V L : Type 0} (before after : List (CarrierView T V L)) (number slot : ℕ)
    (carrier : CarrierView T V L) → HasTakenCarrier before number carrier after →
    (number ≡ slot → ⊥) → HasSlot slot before → HasSlot slot after
slot_left {T} {V} {L} before after number slot carrier taken apart h = record {
  some = subst (λ (cs : List (CarrierView T V L)). list_any (λ c. nat_eq c.seat.slot slot) cs ≡ true)
      (sym taken.left)
      (any_removed (λ (c : CarrierView T V L). nat_eq c.seat.slot slot) before taken.place carrier
      taken.there (other_number carrier.seat.slot slot (λ e. apart (sym taken.slot ∙ e))) h.some);
}

less_by : (a b : ℕ) → a < suc b → (a ≡ b → ⊥) → a < b
less_by a b h apart = omega (arith, h, apart)

above : (a b : ℕ) → suc b ≤ a → a ≡ b → ⊥
above a b h e = absurd (omega (arith, h, e))

below_by : (a b : ℕ) → nat_lt a b ≡ true → a < b
below_by a b h = grind (arith, nat_tests)

past_by : (a b : ℕ) → nat_lt a b ≡ false → b ≤ a
past_by a b h = grind (arith, nat_tests)

get_replicate : (queue : Queue) (n slot : ℕ) → get_or (replicate n queue) slot queue ≡ queue
get_replicate queue zero slot = refl
get_replicate queue (suc n) zero = refl
get_replicate queue (suc n) (suc slot) = get_replicate queue n slot

length_replicate : (queue : Queue) (n : ℕ) → length (replicate n queue) ≡ n
length_replicate queue zero = refl
length_replicate queue (suc n) = ap suc (length_replicate queue n)

take_more : {A : Type 0} (xs : List A) (n : ℕ) (x : A) → at xs n ≡ Some x →
    take (suc n) xs ≡ take n xs ++ x ∷ []
take_more [] n x e = absurd (none_is_no_some x e)
take_more (y ∷ ys) zero x e =
    let same : y ≡ x = cc in
    ap (λ z. z ∷ []) same
take_more (y ∷ ys) (suc n) x e = ap (λ zs. y ∷ zs) (take_more ys n x e)

each_at_places : {A : Type 0} (P : A → Type 0) (xs : List A) →
    ((place : ℕ) (x : A) → at xs place ≡ Some x → P x) → Each P xs
each_at_places P [] h = tt
each_at_places P (x ∷ xs) h = (h 0 x refl, each_at_places P xs (λ place y e. h (suc place) y e))

pub starts : {T V L : Type 0} (r : Rules V L) (board : BoardView) (tasker : T) (limits : Limits)
    (carriers : List (CarrierView T V L)) (queues : List Queue) (records : List (List Record))
    (ends : List ℕ) (slots : ℕ) → queues ≡ replicate slots empty_queue → records ≡ [] → ends ≡ [] →
    slots ≡ length carriers → AreEnded board tasker limits carriers →
    IsGathering r board tasker limits 0 queues records ends carriers
starts r board tasker limits carriers queues records ends slots fresh no_records no_ends is ended = record {
  ranges = ended.ranges;
  size = ap (λ (qs : List Queue). length qs) fresh ∙ (length_replicate empty_queue slots ∙ (is ∙ ended.number));
  fed = λ slot h. absurd (omega (arith, h));
  fresh = λ slot h. ap (λ (qs : List Queue). queue_of qs slot) fresh ∙ get_replicate empty_queue slots slot;
  records_are = no_records;
  ends_are = no_ends;
  runs = ended.ends;
  slots = λ slot h within. ended.slots slot within;
}

fed_number : {V L : Type 0} (r : Rules V L) (limits : Limits) (number : ℕ)
    (before after : List Queue) → queue_of before number ≡ empty_queue →
    HasFed before number (of_slot number (final r limits).entries) after →
    waiting_entries after number ≡ of_slot number (final r limits).entries
fed_number r limits number before after fresh fed = fed.own
    ∙ ap (λ (q : Queue). map (slot_entry number) q.entries ++ of_slot number (final r limits).entries)
    fresh

fed_by : {V L : Type 0} (r : Rules V L) (limits : Limits) (number : ℕ) (before after : List Queue)
    (slot : ℕ) (b : Bool) → nat_eq slot number ≡ b → queue_of before number ≡ empty_queue →
    HasFed before number (of_slot number (final r limits).entries) after →
    (slot < number → waiting_entries before slot ≡ of_slot slot (final r limits).entries) →
    slot < suc number → waiting_entries after slot ≡ of_slot slot (final r limits).entries
fed_by r limits number before after slot true e fresh fed earlier h =
    subst (λ (n : ℕ). waiting_entries after n ≡ of_slot n (final r limits).entries)
    (sym (eqb-true slot number e)) (fed_number r limits number before after fresh fed)
fed_by r limits number before after slot false e fresh fed earlier h =
    let apart = eqb-false slot number e in
    ap (λ (q : Queue). map (slot_entry slot) q.entries) (fed.others slot apart)
    ∙ earlier (less_by slot number h apart)

-- the carrier of the next slot was taken out, its entries were fed, and its records and end taken over
pub goes_on : {T V L : Type 0} (r : Rules V L) (board : BoardView) (tasker : T) (limits : Limits)
    (number : ℕ) (before after : List Queue) (records : List (List Record)) (ends : List ℕ)
    (left rest : List (CarrierView T V L)) (carrier : CarrierView T V L) (slot : Slot L) →
    IsGathering r board tasker limits number before records ends left →
    HasTakenCarrier left number carrier rest →
    HasFed before number (of_slot number (final r limits).entries) after →
    at (final r limits).slots number ≡ Some slot →
    IsGathering r board tasker limits (suc number) after (records ++ slot.records ∷ [])
    (ends ++ slot.clock ∷ []) rest
goes_on {T} {V} {L} r board tasker limits number before after records ends left rest carrier slot g taken
    fed there =
    let more = take_more (final r limits).slots number slot there in
    record {
      ranges = g.ranges;
      size = fed.size ∙ g.size;
      fed = λ j h. fed_by r limits number before after j (nat_eq j number) refl
          (g.fresh number (omega arith)) fed (g.fed j) h;
      fresh = λ j h. fed.others j (above j number h) ∙ g.fresh j (omega (arith, h));
      records_are = ap (λ (xs : List (List Record)). xs ++ slot.records ∷ []) g.records_are
          ∙ (sym (map-append (λ (s : Slot L). s.records) (take number (final r limits).slots) (slot ∷ []))
          ∙ ap (map (λ (s : Slot L). s.records)) (sym more));
      ends_are = ap (λ (xs : List ℕ). xs ++ slot.clock ∷ []) g.ends_are
          ∙ (sym (map-append (λ (s : Slot L). s.clock) (take number (final r limits).slots) (slot ∷ []))
          ∙ ap (map (λ (s : Slot L). s.clock)) (sym more));
      runs = subst (Each (IsAtEnd board tasker limits)) (sym taken.left)
          (each_removed (IsAtEnd board tasker limits) left taken.place g.runs);
      slots = λ j h within. slot_left left rest number j carrier taken
          (λ e. above j number h (sym e)) (g.slots j (omega (arith, h)) within);
    }

-- the slot and the entries of a carrier are those of its run
slot_of_run : {T V L : Type 0} (rules : T → Rules V L) (board : BoardView) (tasker : T)
    (limits : Limits) (carrier : CarrierView T V L) (number : ℕ) (slot : Slot L) →
    IsAtEnd board tasker limits carrier → carrier.seat.slot ≡ number →
    at (final (rules carrier.tasker) carrier.limits).slots carrier.seat.slot ≡ Some slot →
    at (final (rules tasker) limits).slots number ≡ Some slot
slot_of_run {T} {V} {L} rules board tasker limits carrier number slot e is h =
    subst (λ (t : T). at (final (rules t) limits).slots number ≡ Some slot) e.tasker_is
    (subst (λ (l : Limits). at (final (rules carrier.tasker) l).slots number ≡ Some slot) e.limits_are
    (subst (λ (n : ℕ). at (final (rules carrier.tasker) carrier.limits).slots n ≡ Some slot) is h))

fed_of_run : {T V L : Type 0} (rules : T → Rules V L) (board : BoardView) (tasker : T)
    (limits : Limits) (carrier : CarrierView T V L) (number : ℕ) (before after : List Queue) →
    IsAtEnd board tasker limits carrier → carrier.seat.slot ≡ number →
    HasFed before carrier.seat.slot
    (of_slot carrier.seat.slot (final (rules carrier.tasker) carrier.limits).entries) after →
    HasFed before number (of_slot number (final (rules tasker) limits).entries) after
fed_of_run {T} {V} {L} rules board tasker limits carrier number before after e is h =
    subst (λ (t : T). HasFed before number (of_slot number (final (rules t) limits).entries) after) e.tasker_is
    (subst (λ (l : Limits). HasFed before number (of_slot number (final (rules carrier.tasker) l).entries) after)
    e.limits_are
    (subst (λ (n : ℕ). HasFed before n (of_slot n (final (rules carrier.tasker) carrier.limits).entries) after)
    is h))

-- the same, as the calls of one round leave it
pub next_gathered : {T V L : Type 0} (rules : T → Rules V L) (board : BoardView) (tasker : T)
    (limits : Limits) (number : ℕ) (before after : List Queue) (records more : List (List Record))
    (ends later : List ℕ) (left rest : List (CarrierView T V L)) (carrier : CarrierView T V L)
    (slot : Slot L) → IsGathering (rules tasker) board tasker limits number before records ends left →
    HasTakenCarrier left number carrier rest →
    at (final (rules carrier.tasker) carrier.limits).slots carrier.seat.slot ≡ Some slot →
    HasFed before carrier.seat.slot
    (of_slot carrier.seat.slot (final (rules carrier.tasker) carrier.limits).entries) after →
    more ≡ records ++ slot.records ∷ [] → later ≡ ends ++ slot.clock ∷ [] →
    IsGathering (rules tasker) board tasker limits (number + 1) after more later rest
next_gathered {T} {V} {L} rules board tasker limits number before after records more ends later left rest
    carrier slot g taken there fed pushed risen =
    let e : IsAtEnd board tasker limits carrier =
    each_got (IsAtEnd board tasker limits) left taken.place carrier g.runs taken.there in
    let next : suc number ≡ number + 1 = omega arith in
    subst (λ (n : ℕ). IsGathering (rules tasker) board tasker limits n after more later rest) next
    (subst (λ (rs : List (List Record)). IsGathering (rules tasker) board tasker limits (suc number) after rs later rest)
    (sym pushed)
    (subst (λ (cs : List ℕ). IsGathering (rules tasker) board tasker limits (suc number) after
    (records ++ slot.records ∷ []) cs rest) (sym risen)
    (goes_on (rules tasker) board tasker limits number before after records ends left rest carrier slot
    g taken (fed_of_run rules board tasker limits carrier number before after e taken.slot fed)
    (slot_of_run rules board tasker limits carrier number slot e taken.slot there))))

abbrev pub history_with : List KeyedEntry → List (List Record) → List ℕ → History
history_with entries records ends = record { entries = entries; records = records; ends = ends }

wait_by : {T V L : Type 0} (r : Rules V L) (board : BoardView) (tasker : T) (limits : Limits)
    (number : ℕ) (queues : List Queue) (records : List (List Record)) (ends : List ℕ)
    (left : List (CarrierView T V L)) →
    IsGathering r board tasker limits number queues records ends left →
    ((slot : ℕ) → number ≤ slot → of_slot slot (final r limits).entries ≡ []) →
    (slot : ℕ) (b : Bool) → nat_lt slot number ≡ b →
    waiting_entries queues slot ≡ of_slot slot (final r limits).entries
wait_by r board tasker limits number queues records ends left g none slot true h =
    g.fed slot (below_by slot number h)
wait_by r board tasker limits number queues records ends left g none slot false h =
    ap (λ (q : Queue). map (slot_entry slot) q.entries) (g.fresh slot (past_by slot number h))
    ∙ sym (none slot (past_by slot number h))

module _ (V L : Type 0) (r : Rules V L) (FitsView : V → Type 0) (FitsLocal : L → Type 0)
    (MayFollow : List KeyedEntry → Entry → Type 0)
    (Agrees : List KeyedEntry → List (Option (Standing L)) → Type 0)
    (law : IsLawful r FitsView FitsLocal MayFollow Agrees) (limits : Limits) where
  stamps_low : AreLimits limits → (slot : ℕ) →
      Each (λ e. e.key.stamp < 2 ^ 63) (of_slot slot (final r limits).entries)
  stamps_low ranges slot =
      let work = ranges.little_work in
      each_filtered (λ (e : KeyedEntry). e.key.stamp < 2 ^ 63) (λ (e : KeyedEntry). nat_eq e.key.slot slot)
      (final r limits).entries
      (each_at_places (λ (e : KeyedEntry). e.key.stamp < 2 ^ 63) (final r limits).entries
      (λ place e there.
      let low = (low_clocks V L r FitsView FitsLocal MayFollow Agrees law limits ranges).stamps place e there in
      omega (arith, low, work)))

  -- all that waits is of the history
  all_wait : {T : Type 0} (board : BoardView) (tasker : T) (number : ℕ) (queues : List Queue)
      (records : List (List Record)) (ends : List ℕ) (left : List (CarrierView T V L)) →
      number ≡ limits.slots → IsGathering r board tasker limits number queues records ends left →
      (slot : ℕ) → waiting_entries queues slot ≡ of_slot slot (final r limits).entries
  all_wait board tasker number queues records ends left is g slot =
      wait_by r board tasker limits number queues records ends left g
      (λ j past. (keeps V L r FitsView FitsLocal MayFollow Agrees law limits g.ranges (last limits)).slots
      j (omega (arith, past, is))) slot (nat_lt slot number) refl

  pub all_low : {T : Type 0} (board : BoardView) (tasker : T) (number : ℕ) (queues : List Queue)
      (records : List (List Record)) (ends : List ℕ) (left : List (CarrierView T V L)) →
      number ≡ limits.slots → IsGathering r board tasker limits number queues records ends left →
      AreLow queues
  all_low board tasker number queues records ends left is g = record {
    each = λ slot. subst (Each (λ e. e.key.stamp < 2 ^ 63))
        (sym (all_wait board tasker number queues records ends left is g slot))
        (stamps_low g.ranges slot);
  }

  pub gathered : {T : Type 0} (board : BoardView) (tasker : T) (number : ℕ) (queues : List Queue)
      (records : List (List Record)) (ends : List ℕ) (left : List (CarrierView T V L))
      (entries : List KeyedEntry) → number ≡ limits.slots →
      IsGathering r board tasker limits number queues records ends left → IsMerged queues entries →
      history_with entries records ends ≡ history r limits
  gathered board tasker number queues records ends left entries is g merged =
      let same : entries ≡ (final r limits).entries =
      same_histories entries (final r limits).entries merged.order
      (sorted V L r FitsView FitsLocal MayFollow Agrees law limits g.ranges)
      (λ slot. merged.slots slot ∙ all_wait board tasker number queues records ends left is g slot) in
      let count : length (final r limits).slots ≡ limits.slots =
      (keeps V L r FitsView FitsLocal MayFollow Agrees law limits g.ranges (last limits)).stands.number in
      let all : take number (final r limits).slots ≡ (final r limits).slots =
      take_all number (final r limits).slots (omega (arith, count, is)) in
      let recs : records ≡ map (λ (s : Slot L). s.records) (final r limits).slots =
      g.records_are ∙ ap (map (λ (s : Slot L). s.records)) all in
      let clocks : ends ≡ map (λ (s : Slot L). s.clock) (final r limits).slots =
      g.ends_are ∙ ap (map (λ (s : Slot L). s.clock)) all in
      ap (λ (es : List KeyedEntry). history_with es records ends) same
      ∙ (ap (λ (rs : List (List Record)). history_with (final r limits).entries rs ends) recs
      ∙ ap (λ (cs : List ℕ). history_with (final r limits).entries
      (map (λ (s : Slot L). s.records) (final r limits).slots) cs) clocks)
