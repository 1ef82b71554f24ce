-- How what waits changes with what is fed and taken.
use Rattle.std.proofs.Common.{◌≡◌, ℕ, ◌<◌, List, [], ◌∷◌, length, drop, sym, ap, ◌∙◌}
use Rattle.std.specs.Prelude.{map}
use Rattle.std.proofs.lemmas.List.{get_or-set_other, get_or-set_same, length-set, map-append}
use Rattle.work_stamp.specs.declared.key.Key.{Key}
use Rattle.work_stamp.specs.declared.stamped.KeyedEntry.{KeyedEntry}
use Rattle.work_stamp.specs.declared.stamped.Stamped.{Stamped}
use Rattle.commit_order.specs.Laws.{IsFirstOfSlot, IsLastOfSlot}
use Rattle.commit_order.specs.Merges.{IsLeast, slot_entry}
use Rattle.commit_order.specs.Queues.{Queue, empty_queue, queue_of, with_entry, without_first}

pub waits_last : (queues : List Queue) (slot : ℕ) (item : Stamped) → slot < length queues
    → IsLastOfSlot queues slot item
waits_last queues slot item within =
    let queue = queue_of queues slot in
    let same = get_or-set_same queues slot (with_entry item queue) empty_queue within in
    record {
      slots = length-set queues slot (with_entry item queue);
      last = ap (λ (q : Queue). q.last_stamp) same;
      own = ap (λ (q : Queue). map (slot_entry slot) q.entries) same
          ∙ map-append (slot_entry slot) queue.entries (item ∷ []);
      others = λ other apart.
          get_or-set_other queues slot other (with_entry item queue) empty_queue apart;
    }

rest_waits : (slot : ℕ) (entries : List Stamped) (e : KeyedEntry) (later : List KeyedEntry)
    → map (slot_entry slot) entries ≡ e ∷ later → map (slot_entry slot) entries
    ≡ e ∷ map (slot_entry slot) (drop 1 entries)
rest_waits slot [] e later is = cc
rest_waits slot (item ∷ items) e later is =
    let same : slot_entry slot item ≡ e = cc in
    ap (λ (x : KeyedEntry). x ∷ map (slot_entry slot) items) same

pub waited_first : (queues : List Queue) (key : Key) (e : KeyedEntry) → IsLeast queues key e
    → IsFirstOfSlot queues e
waited_first queues key e l =
    let slot = e.key.slot in
    let queue = queue_of queues slot in
    let same = get_or-set_same queues slot (without_first queue) empty_queue l.within in
    record {
      slots = length-set queues slot (without_first queue);
      last = ap (λ (q : Queue). q.last_stamp) same;
      own = rest_waits slot queue.entries e l.later l.first
          ∙ ap (λ (q : Queue). e ∷ map (slot_entry slot) q.entries) (sym same);
      others = λ other apart.
          get_or-set_other queues slot other (without_first queue) empty_queue apart;
    }
