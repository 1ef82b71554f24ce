-- What a turn leaves of the carriers of a run, and what they are at the end.
use Rattle.std.proofs.Common.{◌≡◌, ℕ, zero, suc, ◌+◌, ◌<◌, ◌≤◌, Bool, true, false, nat_eq, List, [], ◌∷◌, ◌++◌, length, get_or, refl, sym, ap, ◌∙◌, subst, ◌||◌, ◌&&◌, arith}
use Rattle.std.proofs.lemmas.Bool.Decides.{nat_tests}
use Rattle.std.proofs.lemmas.List.{length-append, length-set}
use Rattle.std.specs.List.{list_any, list_all}
use Rattle.std.specs.Prelude.{slice_set}
use Rattle.clock_words.specs.Seats.{BoardView, SeatView, new_seat}
use Rattle.stamp_machine.specs.Limits.{AreLimits}
use Rattle.stamp_machine.specs.Orders.{Each}
use Rattle.stamp_machine.specs.declared.limits.Limits.{Limits}
use Rattle.version_store.specs.Advances.{IsSameRun, has_ended}
use Rattle.version_store.specs.Carriers.{CarrierView}
use Rattle.version_store.proofs.Seats.{AreSeatsFrom}
use Rattle.version_store.specs.Gathers.{AreEnded, AreOfEndedRun, IsAtEnd}
use Rattle.carrier_tests.specs.Driven.{AreCarriers, AreFirst, AreFrom, IsCarrierOf}

either : (a b : Bool) → (a ≡ false → b ≡ true) → a || b ≡ true
either true b right = refl
either false b right = right refl

both : (a b : Bool) → a && b ≡ true → (a ≡ true) × (b ≡ true)
both true b all = (refl, all)
both false b all = absurd cc

pub no_items : {A : Type 0} (xs : List A) → length xs ≡ 0 → xs ≡ []
no_items [] none = refl
no_items (x ∷ xs) none = absurd (omega (arith, none))

-- the seats that are left after one more
pub next_seats : (board : BoardView) (slots : ℕ) (before : List SeatView) (s : SeatView) (rest : List SeatView) →
    AreSeatsFrom board slots (length before + 1) rest → AreSeatsFrom board slots (length (before ++ s ∷ [])) rest
next_seats board slots before s rest are =
    let next : length before + 1 ≡ length (before ++ s ∷ []) = omega (arith, length-append before (s ∷ [])) in
    subst (λ n. AreSeatsFrom board slots n rest) next are

-- two lists of the same length with one more item each
pub one_longer : {A B : Type 0} (xs ys : List A) (zs : List B) (x : A) (z : B) → length xs ≡ length zs →
    ys ≡ xs ++ x ∷ [] → length ys ≡ length (zs ++ z ∷ [])
one_longer xs ys zs x z same more =
    omega (arith, same, ap length more, length-append xs (x ∷ []), length-append zs (z ∷ []))

module _ {T V L : Type 0} (board : BoardView) (tasker : T) (limits : Limits) where
  -- one of the carriers, by its place
  from_at : (first : ℕ) (cs : List (CarrierView T V L)) (k : ℕ) (c : CarrierView T V L) →
      AreFrom board tasker limits first cs → k < length cs → c ≡ get_or cs k c →
      IsCarrierOf board tasker limits (first + k) c
  from_at first [] k c from within there = absurd (omega (arith, within))
  from_at first (x ∷ xs) zero c from within there =
      let at : first ≡ first + 0 = omega arith in
      subst (λ n. IsCarrierOf board tasker limits n c) at
      (subst (IsCarrierOf board tasker limits first) (sym there) from.0)
  from_at first (x ∷ xs) (suc k) c from within there =
      let at : suc first + k ≡ first + suc k = omega arith in
      subst (λ n. IsCarrierOf board tasker limits n c) at
      (from_at (suc first) xs k c from.1 (omega (arith, within)) there)

  -- another carrier of the same slot in its place
  from_set : (first : ℕ) (cs : List (CarrierView T V L)) (k : ℕ) (c : CarrierView T V L) →
      AreFrom board tasker limits first cs → IsCarrierOf board tasker limits (first + k) c →
      AreFrom board tasker limits first (slice_set cs k c)
  from_set first [] k c from is = tt
  from_set first (x ∷ xs) zero c from is =
      let at : first + 0 ≡ first = omega arith in
      (subst (λ n. IsCarrierOf board tasker limits n c) at is, from.1)
  from_set first (x ∷ xs) (suc k) c from is =
      let at : first + suc k ≡ suc first + k = omega arith in
      (from.0, from_set (suc first) xs k c from.1 (subst (λ n. IsCarrierOf board tasker limits n c) at is))

  -- one more carrier, of the next slot
  from_push : (first : ℕ) (cs : List (CarrierView T V L)) (c : CarrierView T V L) →
      AreFrom board tasker limits first cs → IsCarrierOf board tasker limits (first + length cs) c →
      AreFrom board tasker limits first (cs ++ c ∷ [])
  from_push first [] c from is =
      let at : first + 0 ≡ first = omega arith in
      (subst (λ n. IsCarrierOf board tasker limits n c) at is, tt)
  from_push first (x ∷ xs) c from is =
      let at : first + suc (length xs) ≡ suc first + length xs = omega arith in
      (from.0, from_push (suc first) xs c from.1 (subst (λ n. IsCarrierOf board tasker limits n c) at is))

  -- each slot from the first one on has a carrier
  from_slot : (first : ℕ) (cs : List (CarrierView T V L)) (number : ℕ) → AreFrom board tasker limits first cs →
      first ≤ number → number < first + length cs → list_any (λ c. nat_eq c.seat.slot number) cs ≡ true
  from_slot first [] number from low high = absurd (omega (arith, low, high))
  from_slot first (c ∷ cs) number from low high =
      either (nat_eq c.seat.slot number) (list_any (λ d. nat_eq d.seat.slot number) cs)
      (λ apart. from_slot (suc first) cs number from.1 (grind (arith, nat_tests, from.0.slot_is)) (omega (arith, high)))

  from_ends : (first : ℕ) (cs : List (CarrierView T V L)) → AreFrom board tasker limits first cs →
      list_all (λ c. has_ended c) cs ≡ true → Each (IsAtEnd board tasker limits) cs
  from_ends first [] from all = tt
  from_ends first (c ∷ cs) from all =
      let split = both (has_ended c) (list_all (λ d. has_ended d) cs) all in (
        record { tasker_is = from.0.tasker_is; limits_are = from.0.limits_are; board_is = from.0.board_is; ended = split.0 },
        from_ends (suc first) cs from.1 split.1,
      )

  -- the carriers of all slots at their slots' ends
  pub ended_carriers : (cs : List (CarrierView T V L)) → AreCarriers board tasker limits cs →
      list_all (λ c. has_ended c) cs ≡ true → AreEnded board tasker limits cs
  ended_carriers cs are all = record {
    ranges = are.ranges;
    ends = from_ends 0 cs are.first.each all;
    number = are.number;
    slots = λ number below. record { some = from_slot 0 cs number are.first.each (omega arith) (omega (arith, are.number, below)) };
  }

  -- the same, where the test was made of a list that is the same
  pub all_are : (cs seen : List (CarrierView T V L)) → AreCarriers board tasker limits cs →
      true ≡ list_all (λ c. has_ended c) seen → seen ≡ cs → AreEnded board tasker limits cs
  all_are cs seen are all same = ended_carriers cs are
      (ap (list_all (λ c. has_ended c)) (sym same) ∙ sym all)

  -- the same of a list that is the same
  pub ended_run : (cs seen ds : List (CarrierView T V L)) (tested : Bool) →
      AreCarriers board tasker limits cs → tested ≡ true → tested ≡ list_all (λ c. has_ended c) seen →
      seen ≡ cs → ds ≡ cs → AreOfEndedRun board ds
  ended_run cs seen ds tested are passed is same also = record {
    tasker = tasker;
    limits = limits;
    ended = subst (λ l. AreEnded board tasker limits l) (sym also)
        (all_are cs seen are (sym passed ∙ is) same);
  }

  -- the carrier of a slot
  pub carrier_at : (cs : List (CarrierView T V L)) (slot : ℕ) (c : CarrierView T V L) →
      AreCarriers board tasker limits cs → slot < limits.slots → c ≡ get_or cs slot c →
      IsCarrierOf board tasker limits slot c
  carrier_at cs slot c are below there =
      let at : 0 + slot ≡ slot = omega arith in
      subst (λ n. IsCarrierOf board tasker limits n c) at
      (from_at 0 cs slot c are.first.each (omega (arith, are.number, below)) there)

  -- a turn leaves a carrier of the same run and slot
  pub same_run : (slot : ℕ) (c d : CarrierView T V L) → IsCarrierOf board tasker limits slot c → IsSameRun c d →
      IsCarrierOf board tasker limits slot d
  same_run slot c d is same = record {
    tasker_is = same.tasker ∙ is.tasker_is;
    limits_are = same.limits ∙ is.limits_are;
    board_is = same.board ∙ is.board_is;
    slot_is = same.slot ∙ is.slot_is;
  }

  -- the carriers after a turn of one of them
  pub after_turn : (cs : List (CarrierView T V L)) (slot : ℕ) (d : CarrierView T V L) →
      AreCarriers board tasker limits cs → IsCarrierOf board tasker limits slot d →
      AreCarriers board tasker limits (slice_set cs slot d)
  after_turn cs slot d are is = record {
    ranges = are.ranges;
    first = record {
      each = let at : slot ≡ 0 + slot = omega arith in
          from_set 0 cs slot d are.first.each (subst (λ n. IsCarrierOf board tasker limits n d) at is);
    };
    number = length-set cs slot d ∙ are.number;
  }

  -- no carriers yet
  pub none_first : (cs : List (CarrierView T V L)) → cs ≡ [] → AreFirst board tasker limits cs
  none_first cs none = subst (λ l. AreFirst board tasker limits l) (sym none) (record { each = tt })

  -- one more carrier, of the next slot
  pub one_more_in : (cs ds : List (CarrierView T V L)) (c : CarrierView T V L) (slot : ℕ) →
      AreFirst board tasker limits cs → IsCarrierOf board tasker limits slot c → slot ≡ length cs →
      ds ≡ cs ++ c ∷ [] → AreFirst board tasker limits ds
  one_more_in cs ds c slot are is at more =
      let next : slot ≡ 0 + length cs = omega (arith, at) in
      subst (λ l. AreFirst board tasker limits l) (sym more)
      (record {
        each = from_push 0 cs c are.each
            (subst (λ n. IsCarrierOf board tasker limits n c) next is);
      })

  -- the carriers of all slots, once there are so many
  pub all_first : (cs : List (CarrierView T V L)) → AreLimits limits → AreFirst board tasker limits cs →
      length cs ≡ limits.slots → AreCarriers board tasker limits cs
  all_first cs ranges are number = record { ranges = ranges; first = are; number = number }

  -- a carrier for a new seat
  pub new_carrier : (seat : SeatView) (c : CarrierView T V L) → c.tasker ≡ tasker →
      c.limits ≡ limits → c.seat ≡ seat → seat ≡ new_seat board seat.slot →
      IsCarrierOf board tasker limits seat.slot c
  new_carrier seat c t l s new = record {
    tasker_is = t;
    limits_are = l;
    board_is = ap (λ (x : SeatView). x.board) (s ∙ new);
    slot_is = ap (λ (x : SeatView). x.slot) s;
  }
