-- The slot that moves next is found from the last slot to the first.
use Rattle.std.proofs.Common.{◌≡◌, ℕ, zero, suc, ◌+◌, ◌<◌, Bool, true, false, List, [], ◌∷◌, length, map, get_or, drop, Option, Some, None, refl, sym, ap, ◌∙◌, drop-cons, arith}
use Rattle.std.specs.Prelude.{nat_le, if◌then◌else◌}
use Rattle.std.proofs.lemmas.List.{get_or-drop, length-map}
use Rattle.stamp_machine.specs.Slots.{number_at, number_or, sooner, is_sooner, least, live_clock, clock_while_live, next_slot, comes_first, IsLiveAt}
use Rattle.stamp_machine.specs.declared.slot.Slot.{Slot}
use Rattle.stamp_machine.specs.declared.slot.Live.{Live}
use Rattle.std.specs.Option.{is_some}
use Rattle.stamp_machine.proofs.Places.{get_or-at, at-length}
use Rattle.stamp_machine.proofs.Least.{least_is}

none_some : (k : ℕ) → None ≡ Some k → ⊥
none_some k e = cc

-- a place behind so many items
abbrev pub shifted : ℕ → Option ℕ → Option ℕ
shifted n None = None
shifted n (Some place) = Some (n + place)

none_before : (o : Option ℕ) → shifted 0 o ≡ o
none_before None = refl
none_before (Some k) = let same : 0 + k ≡ k = omega arith in ap Some same

chosen : (a b : Bool) (n k : ℕ) → a ≡ b → shifted n (if a then Some 0 else Some (suc k)) ≡ (if b then Some n else Some (suc n + k))
chosen true b n k e = let zero_more : n + 0 ≡ n = omega arith in ap Some zero_more ∙ ap (λ (c : Bool). if c then Some n else Some (suc n + k)) e
chosen false b n k e = let one_more : n + suc k ≡ suc n + k = omega arith in ap Some one_more ∙ ap (λ (c : Bool). if c then Some n else Some (suc n + k)) e

-- one step from behind
sooner_step : (o : Option ℕ) (n : ℕ) (clocks rest : List (Option ℕ)) (m : Option ℕ) → ((k : ℕ) → get_or rest k None ≡ get_or clocks (suc n + k) None) →
    shifted n (sooner o rest m) ≡ (if is_sooner o clocks (shifted (suc n) m) then Some n else shifted (suc n) m)
sooner_step None n clocks rest None same = refl
sooner_step None n clocks rest (Some k) same = let one_more : n + suc k ≡ suc n + k = omega arith in ap Some one_more
sooner_step (Some c) n clocks rest None same = let zero_more : n + 0 ≡ n = omega arith in ap Some zero_more
sooner_step (Some c) n clocks rest (Some k) same =
    chosen (nat_le c (number_at rest k)) (nat_le c (number_at clocks (suc n + k))) n k (ap (λ o. nat_le c (number_or o)) (same k))

pub step : (clocks : List (Option ℕ)) (n : ℕ) → n < length clocks →
    shifted n (least (drop n clocks)) ≡ (if is_sooner (get_or clocks n None) clocks (shifted (suc n) (least (drop (suc n) clocks))) then Some n else shifted (suc n) (least (drop (suc n) clocks)))
step clocks n h =
    ap (λ cs. shifted n (least cs)) (drop-cons clocks n None h)
    ∙ sooner_step (get_or clocks n None) n clocks (drop (suc n) clocks) (least (drop (suc n) clocks)) (λ k. get_or-drop (suc n) clocks k None)

-- a place at which a live slot stands is a place of the list
pub live_within : {L : Type 0} (slots : List (Slot L)) (place : ℕ) → IsLiveAt slots place → place < length slots
live_within slots place h = let there = at-length (map live_clock slots) place (Some h.clock) (get_or-at (map live_clock slots) place h.clock h.is) in let same : length (map live_clock slots) ≡ length slots = simp length-map in omega (arith, there, same)

map_within : {A B : Type 0} (f : A → B) (xs : List A) (k : ℕ) (d : A) (e : B) → k < length xs → get_or (map f xs) k e ≡ f (get_or xs k d)
map_within f [] k d e h = absurd (omega arith)
map_within f (x ∷ xs) zero d e h = refl
map_within f (x ∷ xs) (suc k) d e h = map_within f xs k d e (omega arith)

clock_is : {L : Type 0} (clock c : ℕ) (live : Option (Live L)) → clock_while_live clock live ≡ Some c → c ≡ clock
clock_is clock c None e = cc
clock_is clock c (Some live) e = cc

sooner_live : {L : Type 0} (clock : ℕ) (live : Option (Live L)) (clocks : List (Option ℕ)) (later : ℕ) → is_some live ≡ true → is_sooner (clock_while_live clock live) clocks (Some later) ≡ nat_le clock (number_at clocks later)
sooner_live clock None clocks later e = cc
sooner_live clock (Some live) clocks later e = refl

pub comes_first_is : {L : Type 0} (slots : List (Slot L)) (number place : ℕ) (later : Option ℕ) (a b : Slot L) → number < length slots → a ≡ get_or slots number a → b ≡ get_or slots place b →
    is_some a.live ≡ true → IsLiveAt slots place → later ≡ Some place → nat_le a.clock (get_or slots place b).clock ≡ comes_first slots number later
comes_first_is slots number place later a b here ea eb lives h is =
    let clocks = map live_clock slots in
    let first : get_or clocks number None ≡ live_clock a = map_within live_clock slots number a None here ∙ ap live_clock (sym ea) in
    let second : get_or clocks place None ≡ live_clock b = map_within live_clock slots place b None (live_within slots place h) ∙ ap live_clock (sym eb) in
    let same : h.clock ≡ b.clock = clock_is b.clock h.clock b.live (sym second ∙ h.is) in
    let its : number_at clocks place ≡ b.clock = ap number_or h.is ∙ same in
    sym (ap (λ o. is_sooner (get_or clocks number None) clocks o) is
    ∙ (ap (λ o. is_sooner o clocks (Some place)) first
    ∙ (sooner_live a.clock a.live clocks place lives
    ∙ (ap (λ n. nat_le a.clock n) its ∙ ap (λ (s : Slot _). nat_le a.clock s.clock) eb))))

shifted_live : {L : Type 0} (slots : List (Slot L)) (n : ℕ) (o : Option ℕ) (place : ℕ) → least (drop n (map live_clock slots)) ≡ o → shifted n o ≡ Some place → IsLiveAt slots place
shifted_live slots n None place e h = absurd (none_some place h)
shifted_live slots n (Some k) place e h =
    let l = (least_is (drop n (map live_clock slots))).some k e in
    let at_place : n + k ≡ place = cc in
    record { clock = l.clock; is = ap (λ j. get_or (map live_clock slots) j None) (sym at_place) ∙ (sym (get_or-drop n (map live_clock slots) k None) ∙ l.is) }

pub least_lives : {L : Type 0} (slots : List (Slot L)) (n : ℕ) (next : Option ℕ) → next ≡ shifted n (least (drop n (map live_clock slots))) → (place : ℕ) → next ≡ Some place → IsLiveAt slots place
least_lives slots n next e place h = shifted_live slots n _ place refl (sym e ∙ h)

-- a step of the loop, from one number to the one before it
pub step_back : {L : Type 0} (slots : List (Slot L)) (n before : ℕ) (next : Option ℕ) → n ≡ suc before → before < length slots → next ≡ shifted n (least (drop n (map live_clock slots))) →
    (if comes_first slots before next then Some before else next) ≡ shifted before (least (drop before (map live_clock slots)))
step_back slots n before next e h is =
    let clocks = map live_clock slots in
    let same : length (map live_clock slots) ≡ length slots = simp length-map in
    let here : before < length clocks = omega (arith, same) in
    let next_is = is ∙ ap (λ k. shifted k (least (drop k clocks))) e in
    ap (λ o. if comes_first slots before o then Some before else o) next_is ∙ sym (step clocks before here)

pub at_first : {L : Type 0} (slots : List (Slot L)) → shifted 0 (least (drop 0 (map live_clock slots))) ≡ next_slot slots
at_first slots = none_before (least (map live_clock slots))
