-- The words of a run fit into a board whose areas have as many words as a slot's store.
use Rattle.std.proofs.Common.{ℕ, zero, suc, ◌≤◌, ◌<◌, ◌≡◌, ◌+◌, ◌*◌, ◌^◌, List, [], ◌∷◌, length, map, refl, arith, length-append}
use Rattle.std.proofs.lemmas.List.{length-map}
use Rattle.clock_words.specs.Places.{IsShape}
use Rattle.clock_words.specs.Stories.{AreWithin, list_of, stamped_word}
use Rattle.stamp_machine.specs.Limits.{AreLimits}
use Rattle.stamp_machine.specs.Machine.{final}
use Rattle.stamp_machine.specs.Ranges.{FitStores, keyed_word_count}
use Rattle.stamp_machine.specs.Runs.{of_slot}
use Rattle.stamp_machine.specs.declared.limits.Limits.{Limits}
use Rattle.work_stamp.specs.Taskers.{Rules}
use Rattle.work_stamp.specs.Words.{words}
use Rattle.work_stamp.specs.declared.stamped.KeyedEntry.{KeyedEntry}
use Rattle.version_store.specs.Stories.{entry_list, lists_from, run_lists, stamped}

list_length : (es : List KeyedEntry) → length (entry_list es) ≡ keyed_word_count es
list_length [] = refl
list_length (e ∷ es) = omega (
  arith,
  list_length es,
  length-append (map (stamped_word e.key.stamp) (words (stamped e))) (entry_list es),
  length-map (words (stamped e)) (stamped_word e.key.stamp),
)

list_within : (history : List KeyedEntry) (store : ℕ) →
    ((number : ℕ) → keyed_word_count (of_slot number history) < store) →
    (first more slot : ℕ) → length (list_of (lists_from history first more) slot) ≤ store
list_within history store each first zero slot = omega arith
list_within history store each first (suc more) zero =
    omega (arith, list_length (of_slot first history), each first)
list_within history store each first (suc more) (suc slot) =
    list_within history store each (suc first) more slot

pub run_within : {V L : Type 0} (r : Rules V L) (limits : Limits) → FitStores r limits →
    AreWithin limits.store (run_lists r limits)
run_within r limits fit = record {
  each = λ slot.
      list_within (final r limits).entries limits.store fit.each 0 limits.slots slot;
}

product_within : (n m : ℕ) → 1 ≤ n → m ≤ n * m
product_within zero m some_one = absurd (omega arith)
product_within (suc n) m some_one = omega arith

pub shape_fits : (limits : Limits) → AreLimits limits → IsShape limits.slots limits.store
shape_fits limits ranges = record {
  some_slot = omega (arith, ranges.some_slots);
  most_slots = ranges.few_slots;
  most_words = omega (arith, product_within limits.slots limits.store ranges.some_slots, ranges.small_store);
}
