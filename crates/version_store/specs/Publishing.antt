-- What a slot publishes: words on the board, and entries that wait in its own queue.
use Rattle.std.specs.Prelude.{◌≡◌, ◌≤◌, ◌+◌, ◌^◌, List, ◌++◌, drop, length, map}
use Rattle.clock_words.specs.Seats.{BoardView, IsSeat, SeatView, own_list}
use Rattle.clock_words.specs.Stories.{stamped_word}
use Rattle.clock_words.specs.declared.story.StampedWord.{StampedWord}
use Rattle.commit_order.specs.Queues.{Queue}
use Rattle.work_stamp.specs.Histories.{FollowInTurn, under}
use Rattle.work_stamp.specs.Taskers.{HaveWords, Rules, view_after, view_of}
use Rattle.work_stamp.specs.Words.{words}
use Rattle.work_stamp.specs.Writable.{HasWords}
use Rattle.work_stamp.specs.declared.entry.Entry.{Entry}
use Rattle.work_stamp.specs.declared.key.Key.{Key}
use Rattle.work_stamp.specs.declared.stamped.KeyedEntry.{KeyedEntry}
use Rattle.work_stamp.specs.declared.stamped.Stamped.{Stamped}
use Rattle.version_store.specs.Hearing.{after_feeds}
use Rattle.version_store.specs.Stories.{entry_list, stamped}
use Rattle.version_store.specs.declared.playing.Playing.{Playing}

-- the next words of the own slot's story are those of an entry at the own clock
pub record CanPut (seat : SeatView) (item : Stamped) : Type 0 where
  pub rest : List StampedWord
  pub next : drop seat.written (own_list seat) ≡
      map (stamped_word item.stamp) (words item) ++ rest
  pub stamp : item.stamp ≡ seat.own
  pub has_words : HasWords item.entry

-- the next words of the own slot's story are those of entries under a key at the own clock
pub record CanPublish (key : Key) (seat : SeatView) (entries : List Entry) : Type 0 where
  pub rest : List StampedWord
  pub next : drop seat.written (own_list seat) ≡ entry_list (under key entries) ++ rest
  pub stamp : key.stamp ≡ seat.own
  pub have_words : HaveWords entries

-- words of the own slot may have been put, and nothing else
pub record IsPutting (board : BoardView) (old new : SeatView) : Type 0 where
  pub seat : IsSeat board new
  pub same : new ≡ record old { written = new.written }

-- the words of entries were put, and the entries wait in the own queue
pub record HasPublished (key : Key) (old new : SeatView) (queues after : List Queue)
    (entries : List Entry) : Type 0 where
  pub put : new.written ≡ old.written + length (entry_list (under key entries))
  pub queues_are : after ≡ after_feeds queues key.slot (map stamped (under key entries))

-- entries that may follow, one after the other, the history of which this is the view
pub record CanJoinAll {V L : Type 0} (r : Rules V L) (FitsView : V → Type 0)
    (MayFollow : List KeyedEntry → Entry → Type 0) (view : V) (key : Key)
    (entries : List Entry) : Type 0 where
  pub history : List KeyedEntry
  pub is_view : view ≡ view_of r history
  pub fits : FitsView view
  pub follow : FollowInTurn MayFollow history (under key entries)
  pub few : length history + length entries ≤ 2 ^ 31

-- the words of own entries were put, and the entries were absorbed
pub record HasJoined {V L : Type 0} (r : Rules V L) (key : Key) (old new : SeatView)
    (p q : Playing V L) (entries : List Entry) : Type 0 where
  pub put : new.written ≡ old.written + length (entry_list (under key entries))
  pub view_is : q.view ≡ view_after r p.view (under key entries)
  pub mine_is : q.mine ≡ p.mine ++ under key entries
  pub merge_stays : q.merge ≡ p.merge
  pub heard_stays : q.heard ≡ p.heard
  pub slot_stays : q.slot ≡ p.slot
  pub moves_stay : q.moves ≡ p.moves
