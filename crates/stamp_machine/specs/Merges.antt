-- Laws of histories in the order of their keys, and of moves that don't read the history.
use Rattle.std.specs.Prelude.{ℕ, ◌≡◌, ◌<◌, ◌+◌, Bool, false, not, ◌&&◌, nat_le, List, ◌∷◌, Option, Some, None}
use Rattle.work_stamp.specs.Taskers.{Rules}
use Rattle.work_stamp.specs.declared.key.Key.{Key}
use Rattle.work_stamp.specs.declared.stamped.KeyedEntry.{KeyedEntry}
use Rattle.stamp_machine.specs.Machine.{fits, turn}
use Rattle.stamp_machine.specs.Orders.{IsNotLess, IsSorted}
use Rattle.stamp_machine.specs.Runs.{below, of_slot, log}
use Rattle.stamp_machine.specs.declared.limits.Limits.{Limits}
use Rattle.stamp_machine.specs.declared.slot.Slot.{Slot}
use Rattle.stamp_machine.specs.declared.slot.Live.{Live}

-- what a slot has published below a key: up to the key's stamp where its number is smaller than that of the key's slot,
-- and else below it
pub record HasSides (history : List KeyedEntry) (k : Key) (number : ℕ) : Type 0 where
  pub smaller : number < k.slot → of_slot number (below k history) ≡
      log number (k.stamp + 1) history
  pub own : number ≡ k.slot → of_slot number (below k history) ≡ log number k.stamp history
  pub larger : k.slot < number → of_slot number (below k history) ≡ log number k.stamp history

-- the first entry of a history in order is its slot's first one, and no slot's first one has a lesser key
pub record HasLeastFirst (e : KeyedEntry) (history : List KeyedEntry) : Type 0 where
  pub own : of_slot e.key.slot (e ∷ history) ≡ e ∷ of_slot e.key.slot history
  pub least : (number : ℕ) (f : KeyedEntry) (fs : List KeyedEntry) →
      of_slot number (e ∷ history) ≡ f ∷ fs → IsNotLess f.key e.key

-- histories in order with the same entries of each slot are the same
abbrev pub AreSame : Type 0
AreSame = (a b : List KeyedEntry) → IsSorted a → IsSorted b →
    ((number : ℕ) → of_slot number a ≡ of_slot number b) → a ≡ b

-- whether a slot's move reads the history: it lives and is between tasks, and no limit ends it
abbrev pub reads_while_live : {V L : Type 0} → Rules V L → Limits → ℕ → ℕ → Option (Live L) → Bool
reads_while_live r limits clock words None = false
reads_while_live r limits clock words (Some live) = not (nat_le limits.work clock)
    && (fits limits words live.pending && r.at_start live.local)

-- the same of a slot
abbrev pub reads : {V L : Type 0} → Rules V L → Limits → Slot L → Bool
reads r limits slot = reads_while_live r limits slot.clock slot.words slot.live

-- every other move is the same on every view
abbrev pub AreUnread : {V L : Type 0} → Rules V L → Limits → Type 0
AreUnread r limits = (number : ℕ) (a b : _) (slot : Slot _) → reads r limits slot ≡ false →
    turn r limits number a slot ≡ turn r limits number b slot
