-- Entries that are put and wait, one after the other.
use Rattle.std.proofs.Common.{ℕ, ◌+◌, ◌≤◌, ◌<◌, ◌≡◌, List, [], ◌∷◌, ◌++◌, length, map, take, drop, refl, sym, ap, ◌∙◌, subst, append_assoc, arith}
use Rattle.std.proofs.Math.Seq.{drop-append_seam, take-append_seam}
use Rattle.std.proofs.lemmas.List.{append-nil, drop-drop, length-append, length-map, map-append}
use Rattle.std.proofs.lemmas.List.Elements.{All-head, All-tail}
use Rattle.clock_words.specs.Seats.{BoardView, IsSeat, SeatView, own_list}
use Rattle.clock_words.specs.Stories.{stamped_word}
use Rattle.clock_words.specs.declared.story.StampedWord.{StampedWord}
use Rattle.commit_order.specs.Merges.{after_feed}
use Rattle.commit_order.specs.Queues.{Queue, queue_of}
use Rattle.commit_order.proofs.Waiting.{waits_last}
use Rattle.stamp_machine.proofs.Follows.{under-append}
use Rattle.work_stamp.specs.Histories.{keyed_entry, under}
use Rattle.work_stamp.specs.Words.{words}
use Rattle.work_stamp.specs.Writable.{HasWords}
use Rattle.work_stamp.specs.declared.entry.Entry.{Entry}
use Rattle.work_stamp.specs.declared.key.Key.{Key}
use Rattle.work_stamp.specs.declared.stamped.KeyedEntry.{KeyedEntry}
use Rattle.work_stamp.specs.declared.stamped.Stamped.{Stamped}
use Rattle.version_store.specs.Hearing.{after_feeds}
use Rattle.version_store.specs.Publishing.{CanPublish, CanPut, HasPublished, IsPutting}
use Rattle.version_store.specs.Stories.{entry_list, stamped}
use Rattle.version_store.proofs.EntryWords.{entry_list-append}

-- the board's condition on words that are put
pub next_words : (seat : SeatView) (item : Stamped) (ws : List ℕ) → CanPut seat item → ws ≡ words item →
    take (length ws) (drop seat.written (own_list seat)) ≡ map (stamped_word seat.own) ws
next_words seat item ws can is =
    let m : List StampedWord = map (stamped_word item.stamp) (words item) in
    let size : length ws ≡ length m = ap length is ∙ sym (length-map (words item) (stamped_word item.stamp)) in
    ap (λ (n : ℕ). take n (drop seat.written (own_list seat))) size
    ∙ (ap (λ (l : List StampedWord). take (length m) l) can.next
    ∙ (take-append_seam m can.rest
    ∙ (ap (λ (n : ℕ). map (stamped_word n) (words item)) can.stamp
    ∙ ap (map (stamped_word seat.own)) (sym is))))

pub record ArePublishing (board : BoardView) (key : Key) (start seat : SeatView)
    (queues now : List Queue) (done left : List Entry) : Type 0 where
  pub putting : IsPutting board start seat
  pub can : CanPublish key seat left
  pub so_far : HasPublished key start seat queues now done
  pub last : (queue_of now key.slot).last_stamp ≤ key.stamp
  pub within : key.slot < length now

pub publishing_first : (board : BoardView) (key : Key) (seat : SeatView) (queues : List Queue)
    (entries left : List Entry) → IsSeat board seat → CanPublish key seat entries →
    (queue_of queues key.slot).last_stamp ≤ key.stamp → key.slot < length queues → left ≡ entries →
    ArePublishing board key seat seat queues queues [] left
publishing_first board key seat queues entries left is can last within same = record {
  putting = record { seat = is; same = refl };
  can = subst (λ (l : List Entry). CanPublish key seat l) (sym same) can;
  so_far = record { put = omega arith; queues_are = refl };
  last = last;
  within = within;
}

pub first_can : (board : BoardView) (key : Key) (start seat : SeatView) (queues now : List Queue)
    (done left : List Entry) (e : Entry) (more : List Entry) →
    ArePublishing board key start seat queues now done left → left ≡ e ∷ more →
    CanPut seat (record { stamp = key.stamp; entry = e })
first_can board key start seat queues now done left e more p is =
    let can : CanPublish key seat (e ∷ more) = subst (λ (l : List Entry). CanPublish key seat l) is p.can in
    let item : Stamped = record { stamp = key.stamp; entry = e } in record {
      rest = entry_list (under key more) ++ can.rest;
      next = can.next ∙ append_assoc (map (stamped_word key.stamp) (words item)) (entry_list (under key more)) can.rest;
      stamp = can.stamp;
      has_words = All-head HasWords e more can.have_words.each;
    }

feeds-append : (queues : List Queue) (slot : ℕ) (xs ys : List Stamped) →
    after_feeds queues slot (xs ++ ys) ≡ after_feeds (after_feeds queues slot xs) slot ys
feeds-append queues slot [] ys = refl
feeds-append queues slot (x ∷ xs) ys = feeds-append (after_feed queues slot x) slot xs ys

pub publishing_next : (board : BoardView) (key : Key) (start seat seat' : SeatView)
    (queues now next : List Queue) (done left : List Entry) (e : Entry) (more : List Entry) →
    ArePublishing board key start seat queues now done left → left ≡ e ∷ more →
    IsPutting board seat seat' →
    seat'.written ≡ seat.written + length (words (record { stamp = key.stamp; entry = e })) →
    next ≡ after_feed now key.slot (record { stamp = key.stamp; entry = e }) →
    ArePublishing board key start seat' queues next (done ++ e ∷ []) more
publishing_next board key start seat seat' queues now next done left e more p is put written fed =
    let can : CanPublish key seat (e ∷ more) = subst (λ (l : List Entry). CanPublish key seat l) is p.can in
    let item : Stamped = record { stamp = key.stamp; entry = e } in
    let m : List StampedWord = map (stamped_word key.stamp) (words item) in
    let size : length m ≡ length (words item) = length-map (words item) (stamped_word key.stamp) in
    let w = waits_last now key.slot item p.within in
    let list : own_list seat' ≡ own_list seat = ap (λ (s : SeatView). own_list s) put.same in
    let whole : under key (done ++ e ∷ []) ≡ under key done ++ keyed_entry key e ∷ [] = under-append key done (e ∷ []) in
    let words_one : length (entry_list (keyed_entry key e ∷ [])) ≡ length (words item) =
    ap length (append-nil m) ∙ size in
    record {
      putting = record {
        seat = put.seat;
        same = put.same ∙ ap (λ (s : SeatView). let x : SeatView = record s { written = seat'.written } in x) p.putting.same;
      };
      can = record {
        rest = can.rest;
        next = ap (λ (l : List StampedWord). drop seat'.written l) list
            ∙ (ap (λ (n : ℕ). drop n (own_list seat)) (written ∙ ap (λ (n : ℕ). seat.written + n) (sym size))
            ∙ (drop-add seat.written (length m) (own_list seat)
            ∙ (ap (λ (l : List StampedWord). drop (length m) l) (can.next ∙ append_assoc m (entry_list (under key more)) can.rest)
            ∙ drop-append_seam m (entry_list (under key more) ++ can.rest))));
        stamp = can.stamp ∙ sym (ap (λ (s : SeatView). s.own) put.same);
        have_words = record { each = All-tail HasWords e more can.have_words.each };
      };
      so_far = record {
        put = let a = ap (λ (l : List KeyedEntry). length (entry_list l)) whole in
            let b = ap length (entry_list-append (under key done) (keyed_entry key e ∷ [])) in
            let d = length-append (entry_list (under key done)) (entry_list (keyed_entry key e ∷ [])) in
            omega (arith, a, b, d, words_one, written, p.so_far.put);
        queues_are = fed ∙ (ap (λ (q : List Queue). after_feed q key.slot item) p.so_far.queues_are
            ∙ (sym (feeds-append queues key.slot (map stamped (under key done)) (item ∷ []))
            ∙ ap (λ (l : List Stamped). after_feeds queues key.slot l)
            (sym (ap (map stamped) whole ∙ map-append stamped (under key done) (keyed_entry key e ∷ [])))));
      };
      last = let l = ap (λ (q : List Queue). (queue_of q key.slot).last_stamp) fed in omega (arith, l, w.last);
      within = let s = ap length fed in omega (arith, s, w.slots, p.within);
    } where
      drop-add : {A : Type 0} (a b : ℕ) (xs : List A) → drop (a + b) xs ≡ drop b (drop a xs)
      drop-add a b xs = sym (drop-drop b a xs)
