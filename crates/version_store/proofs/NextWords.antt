-- The words of a slot's story that come next, in the middle of a move.
use Rattle.std.proofs.Common.{ℕ, suc, ◌<◌, ◌≡◌, List, [], ◌++◌, length, drop, Option, Some, None, refl, sym, ap, ◌∙◌, append_assoc}
use Rattle.std.proofs.Math.Seq.{drop-append_seam}
use Rattle.std.proofs.lemmas.List.{append-nil}
use Rattle.clock_words.specs.Seats.{SeatView, own_list}
use Rattle.clock_words.specs.Stories.{list_of}
use Rattle.clock_words.specs.declared.story.StampedWord.{StampedWord}
use Rattle.stamp_machine.specs.Limits.{AreLimits}
use Rattle.stamp_machine.specs.Machine.{final}
use Rattle.stamp_machine.specs.Runs.{entries_by, of_slot, state_of, turn_in}
use Rattle.stamp_machine.specs.Slots.{key_of}
use Rattle.stamp_machine.specs.declared.limits.Limits.{Limits}
use Rattle.stamp_machine.specs.declared.slot.Live.{Live}
use Rattle.stamp_machine.specs.declared.slot.Slot.{Slot}
use Rattle.stamp_machine.proofs.Follows.{under-append}
use Rattle.stamp_machine.proofs.Occurrences.{ends_known, logs_known}
use Rattle.work_stamp.specs.Histories.{under}
use Rattle.work_stamp.specs.Taskers.{HaveWords, IsLawful, Rules, Standing}
use Rattle.work_stamp.specs.declared.entry.Entry.{Entry}
use Rattle.work_stamp.specs.declared.key.Key.{Key}
use Rattle.work_stamp.specs.declared.stamped.KeyedEntry.{KeyedEntry}
use Rattle.version_store.specs.Carriers.{IsSeated}
use Rattle.version_store.specs.Publishing.{CanPublish}
use Rattle.version_store.specs.Stories.{entry_list, run_lists}
use Rattle.version_store.proofs.EntryWords.{entry_list-append, list_of_slot}

module _ (V L : Type 0) (r : Rules V L) (FitsView : V → Type 0) (FitsLocal : L → Type 0)
    (MayFollow : List KeyedEntry → Entry → Type 0)
    (Agrees : List KeyedEntry → List (Option (Standing L)) → Type 0)
    (law : IsLawful r FitsView FitsLocal MayFollow Agrees) (limits : Limits)
    (ranges : AreLimits limits) (number : ℕ) (within : number < limits.slots) where
  abbrev H : List KeyedEntry
  H = (final r limits).entries

  -- a slot's entries begin with what it has published before a move
  pub record HasRest (moves : ℕ) : Type 0 where
    pub rest : List KeyedEntry
    pub whole : of_slot number H ≡ entries_by r limits H number moves ++ rest

  rest_by : (moves : ℕ) (live : Option (Live L)) →
      (state_of r limits H number moves).live ≡ live → HasRest moves
  rest_by moves None over = record {
    rest = [];
    whole = ends_known V L r FitsView FitsLocal MayFollow Agrees law limits ranges number moves within over
        ∙ sym (append-nil (entries_by r limits H number moves));
  }
  rest_by moves (Some live) lives =
      let k = logs_known V L r FitsView FitsLocal MayFollow Agrees law limits ranges number moves live within lives in
      record { rest = k.rest; whole = k.front }

  pub has_rest : (moves : ℕ) → HasRest moves
  has_rest moves = rest_by moves (state_of r limits H number moves).live refl

  -- the words of the own slot are those of its entries
  pub own_words : (seat : SeatView) → seat.slot ≡ number → seat.board.story ≡ run_lists r limits →
      own_list seat ≡ entry_list (of_slot number H)
  own_words seat is story = ap (λ l. list_of l seat.slot) story
      ∙ (ap (λ (n : ℕ). list_of (run_lists r limits) n) is ∙ list_of_slot H limits.slots number within)

  -- where some of a move's entries were put, the next ones may be put, up to any of the move's
  module _ (m : ℕ) (joined es more : List Entry)
      (parts : (turn_in r limits H number (state_of r limits H number m)).entries ≡ joined ++ (es ++ more)) where
    abbrev before : Slot L
    before = state_of r limits H number m

    abbrev K : Key
    K = key_of number before

    abbrev A : List KeyedEntry
    A = entries_by r limits H number m

    abbrev J : List KeyedEntry
    J = under K joined

    abbrev U : List KeyedEntry
    U = under K es

    abbrev X : List KeyedEntry
    X = under K more ++ (has_rest (suc m)).rest

    entries_are : entries_by r limits H number (suc m) ≡ (A ++ J) ++ (U ++ under K more)
    entries_are = ap (λ (l : List Entry). A ++ under K l) parts
        ∙ (ap (λ (l : List KeyedEntry). A ++ l) (under-append K joined (es ++ more)
        ∙ ap (λ (l : List KeyedEntry). J ++ l) (under-append K es more))
        ∙ sym (append_assoc A J (U ++ under K more)))

    slot_is : of_slot number H ≡ (A ++ J) ++ (U ++ X)
    slot_is = let rest : List KeyedEntry = (has_rest (suc m)).rest in
        (has_rest (suc m)).whole
        ∙ (ap (λ (l : List KeyedEntry). l ++ rest) entries_are
        ∙ (append_assoc (A ++ J) (U ++ under K more) rest
        ∙ ap (λ (l : List KeyedEntry). (A ++ J) ++ l) (append_assoc U (under K more) rest)))

    words_are : entry_list (of_slot number H) ≡ entry_list (A ++ J) ++ (entry_list U ++ entry_list X)
    words_are = ap entry_list slot_is
        ∙ (entry_list-append (A ++ J) (U ++ X)
        ∙ ap (λ (l : List StampedWord). entry_list (A ++ J) ++ l) (entry_list-append U X))

    pub next_words : (seat : SeatView) → seat.slot ≡ number →
        IsSeated r limits seat before.clock (A ++ J) → HaveWords es → CanPublish K seat es
    next_words seat is seated have_words =
        let whole : own_list seat ≡ entry_list (A ++ J) ++ (entry_list U ++ entry_list X) =
        own_words seat is seated.story ∙ words_are in
        record {
          rest = entry_list X;
          next = ap (λ (n : ℕ). drop n (own_list seat)) seated.put
              ∙ (ap (λ (l : List StampedWord). drop (length (entry_list (A ++ J))) l) whole
              ∙ drop-append_seam (entry_list (A ++ J)) (entry_list U ++ entry_list X));
          stamp = sym seated.own;
          have_words = have_words;
        }
