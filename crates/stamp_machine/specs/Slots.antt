-- Slots, by themselves and in a list.
use Rattle.std.specs.Prelude.{ℕ, ◌≡◌, zero, suc, ◌+◌, ◌-◌, Bool, true, false, nat_le, if◌then◌else◌, List, [], ◌∷◌, map, get_or, Option, Some, None}
use Rattle.work_stamp.specs.Taskers.{Rules, Standing, standing}
use Rattle.work_stamp.specs.declared.key.Key.{Key}
use Rattle.stamp_machine.specs.declared.limits.Limits.{Limits}
use Rattle.stamp_machine.specs.declared.slot.Slot.{Slot}
use Rattle.stamp_machine.specs.declared.slot.Live.{Live}

-- the item at a place, none past the end
abbrev pub at : {A : Type 0} → List A → ℕ → Option A
at [] place = None
at (x ∷ xs) zero = Some x
at (x ∷ xs) (suc place) = at xs place

-- a slot before its first move, between tasks
abbrev pub fresh_slot : {V L : Type 0} → Rules V L → ℕ → Slot L
fresh_slot r number = record {
  clock = 0;
  words = 0;
  records = [];
  live =
      Some (record { local = r.fresh_local number; pending = []; leaves = [] });
}

-- so many fresh slots, from a number on
abbrev pub fresh_slots : {V L : Type 0} → Rules V L → ℕ → ℕ → List (Slot L)
fresh_slots r first zero = []
fresh_slots r first (suc more) = fresh_slot r first ∷ fresh_slots r (suc first) more

-- the slot is over, and what is pending is dropped
abbrev pub slot_after_end : {L : Type 0} → Slot L → Slot L
slot_after_end slot = record slot { live = None }

-- the key of a slot's next move
abbrev pub key_of : {L : Type 0} → ℕ → Slot L → Key
key_of number slot = record { stamp = slot.clock; slot = number }

-- the clock of a slot, none where it is over
abbrev pub clock_while_live : {L : Type 0} → ℕ → Option (Live L) → Option ℕ
clock_while_live clock None = None
clock_while_live clock (Some live) = Some clock

-- the clock of a slot, none where it is over
abbrev pub live_clock : {L : Type 0} → Slot L → Option ℕ
live_clock slot = clock_while_live slot.clock slot.live

-- the number, and 0 where there is none
abbrev pub number_or : Option ℕ → ℕ
number_or None = 0
number_or (Some n) = n

-- the number at a place
abbrev pub number_at : List (Option ℕ) → ℕ → ℕ
number_at clocks place = number_or (get_or clocks place None)

-- the place of the least number, and of equal ones the first
abbrev pub sooner : Option ℕ → List (Option ℕ) → Option ℕ → Option ℕ
sooner None clocks None = None
sooner None clocks (Some place) = Some (suc place)
sooner (Some clock) clocks None = Some 0
sooner (Some clock) clocks (Some place) = if nat_le clock (number_at clocks place) then Some 0
    else Some (suc place)

-- whether a number comes before the one at a later place
abbrev pub is_sooner : Option ℕ → List (Option ℕ) → Option ℕ → Bool
is_sooner None clocks later = false
is_sooner (Some clock) clocks None = true
is_sooner (Some clock) clocks (Some later) = nat_le clock (number_at clocks later)

-- the place of the least number of a list
abbrev pub least : List (Option ℕ) → Option ℕ
least [] = None
least (clock ∷ clocks) = sooner clock clocks (least clocks)

-- the live slot that moves next: the one of the least clock, and of equal ones of the least number
abbrev pub next_slot : {L : Type 0} → List (Slot L) → Option ℕ
next_slot slots = least (map live_clock slots)

-- a place at which a live slot stands
pub record IsLiveAt {L : Type 0} (slots : List (Slot L)) (place : ℕ) : Type 0 where
  pub clock : ℕ
  pub is : get_or (map live_clock slots) place None ≡ Some clock

-- whether a slot lives and comes before a later one
abbrev pub comes_first : {L : Type 0} → List (Slot L) → ℕ → Option ℕ → Bool
comes_first slots number later = is_sooner (get_or (map live_clock slots) number None)
    (map live_clock slots) later

-- a slot as the laws of tasks see it
abbrev pub standing_while_live : {L : Type 0} → Option (Live L) → Option (Standing L)
standing_while_live None = None
standing_while_live (Some live) = standing live.local live.pending

-- the local and the pending entries of a slot
abbrev pub standing_of : {L : Type 0} → Slot L → Option (Standing L)
standing_of slot = standing_while_live slot.live

-- how many moves a slot may still make: each but the last counts some work
abbrev pub moves_while_live : {L : Type 0} → ℕ → ℕ → Option (Live L) → ℕ
moves_while_live work clock None = 0
moves_while_live work clock (Some live) = work - clock + 1

-- how many moves a slot may still make
abbrev pub moves_left : {L : Type 0} → Limits → Slot L → ℕ
moves_left limits slot = moves_while_live limits.work slot.clock slot.live
