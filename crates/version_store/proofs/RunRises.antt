-- The stamps of a run's words don't fall, by which its story is one.
use Rattle.std.proofs.Common.{ℕ, zero, suc, ◌≤◌, ◌≡◌, true, List, [], ◌∷◌, ◌++◌, map, refl, arith}
use Rattle.std.specs.Prelude.{Option}
use Rattle.std.proofs.lemmas.Bool.{le-leb}
use Rattle.clock_words.specs.Stories.{AreRising, is_rising, list_of, stamped_word}
use Rattle.clock_words.specs.declared.story.StampedWord.{StampedWord}
use Rattle.stamp_machine.specs.Limits.{AreLimits}
use Rattle.stamp_machine.specs.Machine.{final}
use Rattle.stamp_machine.specs.Orders.{AreInOrder, Each, IsNotLess, IsSorted}
use Rattle.stamp_machine.specs.Runs.{of_slot}
use Rattle.stamp_machine.specs.declared.limits.Limits.{Limits}
use Rattle.stamp_machine.proofs.Histories.{slot_sorted}
use Rattle.work_stamp.specs.Taskers.{IsLawful, Rules, Standing}
use Rattle.work_stamp.specs.Words.{further_words}
use Rattle.work_stamp.specs.declared.entry.Entry.{Entry}
use Rattle.work_stamp.specs.declared.stamped.KeyedEntry.{KeyedEntry}
use Rattle.version_store.specs.Stories.{entry_list, lists_from, run_lists}

-- words of one stamp before words that rise from it
same_stamp_rises : (stamp : ℕ) (ws : List ℕ) (rest : List StampedWord) →
    is_rising stamp rest ≡ true → is_rising stamp (map (stamped_word stamp) ws ++ rest) ≡ true
same_stamp_rises stamp [] rest h = h
same_stamp_rises stamp (w ∷ ws) rest h =
    rw (le-leb stamp stamp (omega arith)) (same_stamp_rises stamp ws rest h)

-- no stamp falls below that of an entry that comes before
later_stamps : (e : KeyedEntry) (es : List KeyedEntry) →
    Each (λ later. IsNotLess later.key e.key) es → Each (λ later. e.key.stamp ≤ later.key.stamp) es
later_stamps e [] h = tt
later_stamps e (f ∷ fs) h = (h.0.stamps, later_stamps e fs h.1)

pub entries_rise : (es : List KeyedEntry) (least : ℕ) → Each (λ e. least ≤ e.key.stamp) es →
    AreInOrder es → is_rising least (entry_list es) ≡ true
entries_rise [] least h order = refl
entries_rise (e ∷ es) least h order =
    rw (le-leb least e.key.stamp h.0)
    (rw (le-leb e.key.stamp e.key.stamp (omega arith))
    (same_stamp_rises e.key.stamp (further_words e.entry) (entry_list es)
    (entries_rise es e.key.stamp (later_stamps e es order.0) order.1)))

all_from_zero : (es : List KeyedEntry) → Each (λ e. 0 ≤ e.key.stamp) es
all_from_zero [] = tt
all_from_zero (e ∷ es) = (omega arith, all_from_zero es)

lists_rise : (history : List KeyedEntry) (first more slot : ℕ) →
    ((number : ℕ) → IsSorted (of_slot number history)) →
    is_rising 0 (list_of (lists_from history first more) slot) ≡ true
lists_rise history first zero slot sorted = refl
lists_rise history first (suc more) zero sorted =
    entries_rise (of_slot first history) 0 (all_from_zero (of_slot first history))
    (sorted first).in_order
lists_rise history first (suc more) (suc slot) sorted =
    lists_rise history (suc first) more slot sorted

module _ (V L : Type 0) (r : Rules V L) (FitsView : V → Type 0) (FitsLocal : L → Type 0)
    (MayFollow : List KeyedEntry → Entry → Type 0)
    (Agrees : List KeyedEntry → List (Option (Standing L)) → Type 0)
    (law : IsLawful r FitsView FitsLocal MayFollow Agrees) (limits : Limits)
    (ranges : AreLimits limits) where
  pub run_rises : AreRising (run_lists r limits)
  run_rises = record {
    each = λ slot. lists_rise (final r limits).entries 0 limits.slots slot
        (slot_sorted V L r FitsView FitsLocal MayFollow Agrees law limits ranges);
  }
