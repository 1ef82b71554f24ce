-- Own entries that are put and absorbed, one after the other.
use Rattle.std.proofs.Common.{suc, ◌+◌, ◌≡◌, List, [], ◌∷◌, ◌++◌, length, map, replicate, Option, refl, sym, ap, ◌∙◌, subst, append_assoc, arith}
use Rattle.std.proofs.lemmas.List.{append-nil, get_or-replicate, length-replicate}
use Rattle.clock_words.specs.Seats.{BoardView, IsSeat, SeatView}
use Rattle.commit_order.specs.Merges.{after_feed}
use Rattle.commit_order.specs.Queues.{Queue, empty_queue}
use Rattle.stamp_machine.proofs.Follows.{under-append}
use Rattle.stamp_machine.proofs.Joins.{IsJoining, joins_can, joins_next, more_view}
use Rattle.work_stamp.specs.Histories.{keyed_entry, under}
use Rattle.work_stamp.specs.Taskers.{CanJoin, IsLawful, Rules, Standing, view_after}
use Rattle.work_stamp.specs.Words.{words}
use Rattle.work_stamp.specs.declared.entry.Entry.{Entry}
use Rattle.work_stamp.specs.declared.key.Key.{Key}
use Rattle.work_stamp.specs.declared.stamped.KeyedEntry.{KeyedEntry}
use Rattle.work_stamp.specs.declared.stamped.Stamped.{Stamped}
use Rattle.version_store.specs.Hearing.{after_feeds}
use Rattle.version_store.specs.Publishing.{CanJoinAll, CanPublish, CanPut, HasJoined, IsPutting}
use Rattle.version_store.specs.Stories.{stamped}
use Rattle.version_store.specs.declared.playing.Playing.{Playing}
use Rattle.version_store.proofs.Publishes.{ArePublishing, first_can, publishing_first, publishing_next}

-- the queues of as many slots as there have to be
abbrev pub no_queues : Key → List Queue
no_queues key = replicate (suc key.slot) empty_queue

abbrev pub fed_queues : Key → List Entry → List Queue
fed_queues key done = after_feeds (no_queues key) key.slot (map stamped (under key done))

pub record AreJoining {V L : Type 0} (r : Rules V L) (FitsView : V → Type 0)
    (MayFollow : List KeyedEntry → Entry → Type 0) (board : BoardView) (key : Key)
    (start seat : SeatView) (p q : Playing V L) (done left : List Entry) : Type 0 where
  pub publishing : ArePublishing board key start seat (no_queues key) (fed_queues key done) done left
  pub grow : CanJoinAll r FitsView MayFollow q.view key left
  pub view_is : q.view ≡ view_after r p.view (under key done)
  pub mine_is : q.mine ≡ p.mine ++ under key done
  pub merge_stays : q.merge ≡ p.merge
  pub heard_stays : q.heard ≡ p.heard
  pub slot_stays : q.slot ≡ p.slot
  pub moves_stay : q.moves ≡ p.moves

module _ (V L : Type 0) (r : Rules V L) (FitsView : V → Type 0) (FitsLocal : L → Type 0)
    (MayFollow : List KeyedEntry → Entry → Type 0)
    (Agrees : List KeyedEntry → List (Option (Standing L)) → Type 0)
    (law : IsLawful r FitsView FitsLocal MayFollow Agrees) (board : BoardView) (key : Key)
    (start : SeatView) (p : Playing V L) where
  abbrev Joining : SeatView → Playing V L → List Entry → List Entry → Type 0
  Joining seat q done left = AreJoining r FitsView MayFollow board key start seat p q done left

  pub joining_first : (entries left : List Entry) → IsSeat board start → CanPublish key start entries →
      CanJoinAll r FitsView MayFollow p.view key entries → left ≡ entries → Joining start p [] left
  joining_first entries left is can grow same =
      let none = get_or-replicate (suc key.slot) key.slot empty_queue empty_queue (omega arith) in
      let size = length-replicate (suc key.slot) empty_queue in
      let stamp = ap (λ (q : Queue). q.last_stamp) none in record {
        publishing = publishing_first board key start (no_queues key) entries left is can
            (omega (arith, stamp)) (omega (arith, size)) same;
        grow = subst (λ (l : List Entry). CanJoinAll r FitsView MayFollow p.view key l) (sym same) grow;
        view_is = refl;
        mine_is = sym (append-nil p.mine);
        merge_stays = refl;
        heard_stays = refl;
        slot_stays = refl;
        moves_stay = refl;
      }

  as_joining : (view : V) (left : List Entry) (g : CanJoinAll r FitsView MayFollow view key left) →
      IsJoining r FitsView MayFollow key g.history view left
  as_joining view left g = record { is_view = g.is_view; fits = g.fits; follow = g.follow; few = g.few }

  pub joining_can : (seat : SeatView) (q : Playing V L) (done left : List Entry) (e : Entry)
      (more : List Entry) → Joining seat q done left → left ≡ e ∷ more →
      CanJoin r MayFollow q.view e
  joining_can seat q done left e more j is =
      joins_can V L r FitsView FitsLocal MayFollow Agrees law key j.grow.history q.view left e more (as_joining q.view left j.grow) is

  pub joining_put : (seat : SeatView) (q : Playing V L) (done left : List Entry) (e : Entry)
      (more : List Entry) → Joining seat q done left → left ≡ e ∷ more →
      CanPut seat (record { stamp = key.stamp; entry = e })
  joining_put seat q done left e more j is =
      first_can board key start seat (no_queues key) (fed_queues key done) done left e more j.publishing is

  pub joining_next : (seat seat' : SeatView) (q : Playing V L) (done left : List Entry) (e : Entry)
      (more : List Entry) (view : V) (mine : List KeyedEntry) → Joining seat q done left →
      left ≡ e ∷ more → IsPutting board seat seat' →
      seat'.written ≡ seat.written + length (words (record { stamp = key.stamp; entry = e })) →
      view ≡ r.absorb q.view key e → mine ≡ q.mine ++ keyed_entry key e ∷ [] →
      Joining seat' (record q { view = view; mine = mine }) (done ++ e ∷ []) more
  joining_next seat seat' q done left e more view mine j is put written absorbed kept =
      let item : Stamped = record { stamp = key.stamp; entry = e } in
      let next = publishing_next board key start seat seat' (no_queues key) (fed_queues key done)
      (after_feed (fed_queues key done) key.slot item) done left e more j.publishing is put written refl in
      let g = joins_next V L r FitsView FitsLocal MayFollow Agrees law key j.grow.history q.view left e more
      (j.grow.history ++ keyed_entry key e ∷ []) view (as_joining q.view left j.grow) is absorbed refl in
      let whole = under-append key done (e ∷ []) in
      record {
        publishing = subst (λ (qs : List Queue). ArePublishing board key start seat' (no_queues key) qs (done ++ e ∷ []) more) next.so_far.queues_are next;
        grow = record { history = j.grow.history ++ keyed_entry key e ∷ []; is_view = g.is_view; fits = g.fits; follow = g.follow; few = g.few };
        view_is = more_view V L r FitsView FitsLocal MayFollow Agrees law key p.view q.view view done e j.view_is absorbed;
        mine_is = kept ∙ (ap (λ (l : List KeyedEntry). l ++ keyed_entry key e ∷ []) j.mine_is
            ∙ (append_assoc p.mine (under key done) (keyed_entry key e ∷ [])
            ∙ ap (λ (l : List KeyedEntry). p.mine ++ l) (sym whole)));
        merge_stays = j.merge_stays;
        heard_stays = j.heard_stays;
        slot_stays = j.slot_stays;
        moves_stay = j.moves_stay;
      }

  pub joining_done : (seat : SeatView) (q : Playing V L) (done left entries : List Entry) →
      Joining seat q done left → done ≡ entries → HasJoined r key start seat p q entries
  joining_done seat q done left entries j is =
      subst (λ (l : List Entry). HasJoined r key start seat p q l) is (record {
        put = j.publishing.so_far.put;
        view_is = j.view_is;
        mine_is = j.mine_is;
        merge_stays = j.merge_stays;
        heard_stays = j.heard_stays;
        slot_stays = j.slot_stays;
        moves_stay = j.moves_stay;
      })
