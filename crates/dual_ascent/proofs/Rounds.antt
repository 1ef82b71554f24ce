use Rattle.std.proofs.Math.Nat.{suc-mul}
use Rattle.std.proofs.lemmas.Nat.{mul-le}
use Rattle.std.proofs.Common.{◌≡◌, ◌∙◌, ℕ, zero, suc, ◌+◌, ◌-◌, ◌*◌, ◌/◌, ◌<◌, ◌≤◌, Bool, true, false, ◌==◌, if◌then◌else◌, List, length, ℤ, refl, sym, arith}
use Rattle.std.proofs.lemmas.Bool.Decides.{nat_tests}
use Rattle.ip_core.specs.Sides.{Sides}
use Rattle.ip_core.specs.declared.model.ModelParts.{ModelParts}
use Rattle.ip_core.specs.declared.row.Row.{Row}
use Rattle.safe_bound.specs.Bounds.{numerator}
use Rattle.dual_ascent.specs.Climbs.{Climb}
use Rattle.dual_ascent.specs.Ascents.{ascent, first_climb}
use Rattle.dual_ascent.specs.Climbs.{after_rows, after_round, after_rounds, is_same}

stop_choice : (b : Bool) (c d : Climb) → b ≡ true → (if b then c else d) ≡ c
stop_choice true c d e = refl
stop_choice false c d e = absurd (cc)

go_choice : (b : Bool) (c d : Climb) → b ≡ false → (if b then c else d) ≡ d
go_choice true c d e = absurd (cc)
go_choice false c d e = refl

-- a climb whose step size is 0 has ended
pub after_rounds_stop : (worth : List ℕ → ℤ) (n : ℕ) (c : Climb) → c.step_size ≡ 0 → after_rounds worth n c ≡ c
unfolding after_rounds
after_rounds_stop worth zero c none = refl
after_rounds_stop worth (suc n) c none = stop_choice (c.step_size == 0) c (after_rounds worth n (after_round worth c)) (grind (arith, nat_tests))

-- with no more rounds a climb has ended
pub after_rounds_none : (worth : List ℕ → ℤ) (c : Climb) → after_rounds worth 0 c ≡ c
unfolding after_rounds
after_rounds_none worth c = refl

-- one more round
pub after_rounds_more : (worth : List ℕ → ℤ) (n : ℕ) (c : Climb) → (c.step_size ≡ 0 → ⊥) → after_rounds worth (suc n) c ≡ after_rounds worth n (after_round worth c)
unfolding after_rounds
after_rounds_more worth n c some = go_choice (c.step_size == 0) c (after_rounds worth n (after_round worth c)) (grind (arith, nat_tests))

-- after one more of 64 rounds what is left is one less
pub round_taken : (worth : List ℕ → ℤ) (i : ℕ) (c now last : Climb) → i < 64 → (c.step_size ≡ 0 → ⊥) → now ≡ after_round worth c → after_rounds worth (64 - i) c ≡ last → after_rounds worth (64 - (i + 1)) now ≡ last
round_taken worth i c now last within some taken rest =
    let left : 64 - i ≡ suc (64 - (i + 1)) = omega arith in
    rw taken (sym (after_rounds_more worth (64 - (i + 1)) c some) ∙ rw left at rest)

-- after all of 64 rounds the climb has ended
pub rounds_spent : (worth : List ℕ → ℤ) (i : ℕ) (c last : Climb) → 64 ≤ i → after_rounds worth (64 - i) c ≡ last → c ≡ last
rounds_spent worth i c last spent rest =
    let left : 64 - i ≡ 0 = omega arith in
    sym (after_rounds_none worth c) ∙ rw left at rest

-- so it has where its step size is 0
pub rounds_stopped : (worth : List ℕ → ℤ) (i : ℕ) (c last : Climb) → c.step_size ≡ 0 → after_rounds worth (64 - i) c ≡ last → c ≡ last
rounds_stopped worth i c last none rest = sym (after_rounds_stop worth (64 - i) c none) ∙ rest

-- a climb with one more round
abbrev pub with_round : Climb → Climb
with_round c = record c { rounds = c.rounds + 1 }

-- what a round leaves where all multipliers stayed
pub round_same : (worth : List ℕ → ℤ) (c : Climb) (next : List ℕ) (same : Bool) → next ≡ after_rows worth c.step_size c.mults (length c.mults) → same ≡ is_same c.mults next → same ≡ true → with_round (record { mults = next; step_size = c.step_size / 2; rounds = c.rounds }) ≡ after_round worth c
unfolding after_round
round_same worth c next same rows is_same here =
    rw (← rows, ← is_same, here) refl

-- and where one changed
pub round_changed : (worth : List ℕ → ℤ) (c : Climb) (next : List ℕ) (same : Bool) → next ≡ after_rows worth c.step_size c.mults (length c.mults) → same ≡ is_same c.mults next → same ≡ false → with_round (record { mults = next; step_size = c.step_size; rounds = c.rounds }) ≡ after_round worth c
unfolding after_round
round_changed worth c next same rows is_same here =
    rw (← rows, ← is_same, here) refl

-- an ascent is a climb of at most 64 rounds from its beginning
pub ascent_is : (m : ModelParts) (cuts : List Row) (s : Sides) → ascent m cuts s ≡ after_rounds (numerator m cuts s) 64 (first_climb m cuts)
unfolding ascent
ascent_is m cuts s = refl

-- a round is counted
pub counted_round : (worth : List ℕ → ℤ) (c : Climb) → (after_round worth c).rounds ≡ c.rounds + 1
unfolding after_round
counted_round worth c = refl

grown_choice : (b : Bool) (c d : Climb) → c.rounds + 1 ≤ d.rounds → c.rounds ≤ (if b then c else d).rounds
grown_choice true c d le = omega arith
grown_choice false c d le = omega arith

-- rounds only grow
pub rounds_grow : (worth : List ℕ → ℤ) (n : ℕ) (c : Climb) → c.rounds ≤ (after_rounds worth n c).rounds
unfolding after_rounds
rounds_grow worth zero c = omega arith
rounds_grow worth (suc n) c =
    grown_choice (c.step_size == 0) c (after_rounds worth n (after_round worth c)) (omega (arith, rounds_grow worth n (after_round worth c), counted_round worth c))

-- so a climb before its last round has one round less than at its end
pub rounds_left : (worth : List ℕ → ℤ) (i : ℕ) (c now last : Climb) → i < 64 → (c.step_size ≡ 0 → ⊥) → now ≡ after_round worth c → after_rounds worth (64 - i) c ≡ last → c.rounds + 1 ≤ last.rounds
rounds_left worth i c now last within some taken rest =
    let left : after_rounds worth (64 - (i + 1)) now ≡ last = round_taken worth i c now last within some taken rest in
    let more : now.rounds ≡ c.rounds + 1 = rw taken (counted_round worth c) in
    let grown : now.rounds ≤ last.rounds = rw (← left) (rounds_grow worth (64 - (i + 1)) now) in
    omega arith

-- the work of one more round is allowed
pub round_allowed : (rounds total work allowed first : ℕ) → rounds + 1 ≤ total → total * work ≤ first → allowed + rounds * work ≡ first → work ≤ allowed
round_allowed rounds total work allowed first more whole so_far =
    let next : suc rounds * work ≤ total * work = mul-le (suc rounds) work total work (omega arith) (omega arith) in
    omega (arith, next, suc-mul rounds work)

-- and is told
pub round_told : (before after rounds next work first : ℕ) → after + work ≡ before → next ≡ rounds + 1 → before + rounds * work ≡ first → after + next * work ≡ first
round_told before after rounds next work first told one_more so_far =
    let here : next ≡ suc rounds = omega arith in
    rw here (omega (arith, suc-mul rounds work))
