-- The place of the least number, and the slot that moves next.
use Rattle.std.proofs.Common.{◌≡◌, ℕ, zero, suc, ◌<◌, ◌≤◌, List, [], ◌∷◌, map, get_or, Option, Some, None, refl, ap, ◌∙◌, subst, arith}
use Rattle.std.specs.Prelude.{nat_le}
use Rattle.stamp_machine.specs.Slots.{at, number_at, number_or, sooner, least, live_clock, clock_while_live, next_slot}
use Rattle.stamp_machine.specs.declared.slot.Slot.{Slot}
use Rattle.stamp_machine.specs.declared.slot.Live.{Live}
use Rattle.stamp_machine.proofs.Places.{at-get_or, at-map}
use Rattle.stamp_machine.proofs.Choices.{by_test}

pub record IsLeast (clocks : List (Option ℕ)) (place : ℕ) : Type 0 where
  pub clock : ℕ
  pub is : get_or clocks place None ≡ Some clock
  pub no_less : (j a : ℕ) → get_or clocks j None ≡ Some a → clock ≤ a
  pub first : (j a : ℕ) → j < place → get_or clocks j None ≡ Some a → clock < a

abbrev IsNone : List (Option ℕ) → Type 0
IsNone clocks = (j a : ℕ) → get_or clocks j None ≡ Some a → ⊥

no_some : (a : ℕ) → None ≡ Some a → ⊥
no_some a e = cc

-- the first one is the least
here_less : (c : ℕ) (clocks : List (Option ℕ)) → ((j a : ℕ) → get_or clocks j None ≡ Some a → c ≤ a) → (j a : ℕ) → get_or (Some c ∷ clocks) j None ≡ Some a → c ≤ a
here_less c clocks less zero a e = let q : c ≡ a = cc in omega arith
here_less c clocks less (suc j) a e = less j a e

here_is : (c : ℕ) (clocks : List (Option ℕ)) → ((j a : ℕ) → get_or clocks j None ≡ Some a → c ≤ a) → IsLeast (Some c ∷ clocks) 0
here_is c clocks less = record { clock = c; is = refl; no_less = here_less c clocks less; first = λ j a h e. absurd (omega arith) }

-- the least is further on
later_less : (o : Option ℕ) (clocks : List (Option ℕ)) (place : ℕ) (l : IsLeast clocks place) → ((a : ℕ) → o ≡ Some a → l.clock < a) → (j a : ℕ) → get_or (o ∷ clocks) j None ≡ Some a → l.clock ≤ a
later_less o clocks place l more zero a e = omega (arith, more a e)
later_less o clocks place l more (suc j) a e = l.no_less j a e

later_first : (o : Option ℕ) (clocks : List (Option ℕ)) (place : ℕ) (l : IsLeast clocks place) → ((a : ℕ) → o ≡ Some a → l.clock < a) → (j a : ℕ) → j < suc place → get_or (o ∷ clocks) j None ≡ Some a → l.clock < a
later_first o clocks place l more zero a h e = more a e
later_first o clocks place l more (suc j) a h e = l.first j a (omega arith) e

later_is : (o : Option ℕ) (clocks : List (Option ℕ)) (place : ℕ) (l : IsLeast clocks place) → ((a : ℕ) → o ≡ Some a → l.clock < a) → IsLeast (o ∷ clocks) (suc place)
later_is o clocks place l more = record { clock = l.clock; is = l.is; no_less = later_less o clocks place l more; first = later_first o clocks place l more }

pub record IsFound (clocks : List (Option ℕ)) (place : Option ℕ) : Type 0 where
  pub some : (k : ℕ) → place ≡ Some k → IsLeast clocks k
  pub none : place ≡ None → IsNone clocks

none_after : (clocks : List (Option ℕ)) → IsNone clocks → IsNone (None ∷ clocks)
none_after clocks n zero a e = no_some a e
none_after clocks n (suc j) a e = n j a e

place_is : (clocks : List (Option ℕ)) (p k : ℕ) → IsLeast clocks p → Some p ≡ Some k → IsLeast clocks k
place_is clocks p k l e = let q : p ≡ k = cc in subst (IsLeast clocks) q l

some_no_none : (k : ℕ) → Some k ≡ None → ⊥
some_no_none k e = cc

number_is : (clocks : List (Option ℕ)) (p c : ℕ) → get_or clocks p None ≡ Some c → number_at clocks p ≡ c
number_is clocks p c e = ap number_or e

sooner_is : (o : Option ℕ) (clocks : List (Option ℕ)) (m : Option ℕ) → IsFound clocks m → IsFound (o ∷ clocks) (sooner o clocks m)
sooner_is None clocks None f = record { some = λ k e. absurd (no_some k e); none = λ e. none_after clocks (f.none refl) }
sooner_is None clocks (Some p) f =
    record { some = λ k e. place_is (None ∷ clocks) (suc p) k (later_is None clocks p (f.some p refl) (λ a h. absurd (no_some a h))) e; none = λ e. absurd (some_no_none (suc p) e) }
sooner_is (Some c) clocks None f =
    record { some = λ k e. place_is (Some c ∷ clocks) 0 k (here_is c clocks (λ j a h. absurd (f.none refl j a h))) e; none = λ e. absurd (some_no_none 0 e) }
sooner_is (Some c) clocks (Some p) f =
    let l = f.some p refl in
    let n = number_is clocks p l.clock l.is in
    by_test (IsFound (Some c ∷ clocks)) (nat_le c (number_at clocks p)) (Some 0) (Some (suc p))
    (λ t.
    let le : c ≤ l.clock = grind arith in
    record { some = λ k e. place_is (Some c ∷ clocks) 0 k (here_is c clocks (λ j a h. omega (arith, l.no_less j a h))) e; none = λ e. absurd (some_no_none 0 e) })
    (λ t.
    let lt : l.clock < c = grind arith in
    record { some = λ k e. place_is (Some c ∷ clocks) (suc p) k (later_is (Some c) clocks p l (λ a h. let q : c ≡ a = cc in omega arith)) e; none = λ e. absurd (some_no_none (suc p) e) })

nowhere : IsNone []
nowhere j a e = no_some a e

pub least_is : (clocks : List (Option ℕ)) → IsFound clocks (least clocks)
least_is [] = record { some = λ k e. absurd (no_some k e); none = λ e. nowhere }
least_is (o ∷ clocks) = sooner_is o clocks (least clocks) (least_is clocks)

-- the slot that moves next lives, and no live slot has a lesser clock, or the same clock and a lesser number
pub record IsNext {L : Type 0} (slots : List (Slot L)) (number : ℕ) : Type 0 where
  pub slot : Slot L
  pub live : Live L
  pub there : at slots number ≡ Some slot
  pub lives : slot.live ≡ Some live
  pub no_less : (j : ℕ) (other : Slot L) (its : Live L) → at slots j ≡ Some other → other.live ≡ Some its → slot.clock ≤ other.clock
  pub first : (j : ℕ) (other : Slot L) (its : Live L) → j < number → at slots j ≡ Some other → other.live ≡ Some its → slot.clock < other.clock

clock_of : {L : Type 0} (slots : List (Slot L)) (j : ℕ) (slot : Slot L) (live : Live L) → at slots j ≡ Some slot → slot.live ≡ Some live → get_or (map live_clock slots) j None ≡ Some slot.clock
clock_of slots j slot live e h = at-get_or None (map live_clock slots) j (live_clock slot) (at-map live_clock slots j slot e) ∙ ap (clock_while_live slot.clock) h

record HasClock {L : Type 0} (slots : List (Slot L)) (j clock : ℕ) : Type 0 where
  slot : Slot L
  live : Live L
  there : at slots j ≡ Some slot
  lives : slot.live ≡ Some live
  same : slot.clock ≡ clock

has_clock_here : {L : Type 0} (slot : Slot L) (slots : List (Slot L)) (clock : ℕ) (o : Option (Live L)) → slot.live ≡ o → clock_while_live slot.clock o ≡ Some clock → HasClock (slot ∷ slots) 0 clock
has_clock_here slot slots clock None h e = absurd (no_some clock e)
has_clock_here slot slots clock (Some live) h e = record { slot = slot; live = live; there = refl; lives = h; same = cc }

has_clock : {L : Type 0} (slots : List (Slot L)) (j clock : ℕ) → get_or (map live_clock slots) j None ≡ Some clock → HasClock slots j clock
has_clock [] j clock e = absurd (no_some clock e)
has_clock (slot ∷ slots) zero clock e = has_clock_here slot slots clock slot.live refl e
has_clock (slot ∷ slots) (suc j) clock e =
    let h = has_clock slots j clock e in
    record { slot = h.slot; live = h.live; there = h.there; lives = h.lives; same = h.same }

pub next_is : {L : Type 0} (slots : List (Slot L)) (number : ℕ) → next_slot slots ≡ Some number → IsNext slots number
next_is slots number e =
    let l = (least_is (map live_clock slots)).some number e in
    let h = has_clock slots number l.clock l.is in
    record {
      slot = h.slot;
      live = h.live;
      there = h.there;
      lives = h.lives;
      no_less = λ j other its a b. omega (arith, h.same, l.no_less j other.clock (clock_of slots j other its a b));
      first = λ j other its lt a b. omega (arith, h.same, l.first j other.clock lt (clock_of slots j other its a b));
    }

-- where no slot moves next, none lives
pub none_lives : {L : Type 0} (slots : List (Slot L)) (j : ℕ) (slot : Slot L) (live : Live L) → next_slot slots ≡ None → at slots j ≡ Some slot → slot.live ≡ Some live → ⊥
none_lives slots j slot live e a b = (least_is (map live_clock slots)).none e j slot.clock (clock_of slots j slot live a b)
