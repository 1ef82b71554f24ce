-- What the steps of a worker leave of its pass and of the carriers that it keeps.
use Rattle.std.proofs.Common.{◌≡◌, ℕ, zero, suc, ◌+◌, ◌<◌, ◌≤◌, nat_eq, if◌then◌else◌, List, [], ◌∷◌, ◌++◌, length, map, sym, refl, ap, ◌∙◌, subst, Bool, true, false, length-append, ◌||◌, Option, Some, None, MatchOption, IfSome, IfNone, Result, Ok, Err, MatchResult, is_ok, is_some, true≢false, arith}
use Rattle.std.specs.Prelude.{remove, slice_index_or, ⊤}
use Rattle.clock_words.specs.Seats.{BoardView, SeatView, new_seat}
use Rattle.stamp_machine.specs.declared.limits.Limits.{Limits}
use Rattle.std.proofs.lemmas.Bool.Decides.{nat_tests}
use Rattle.crossbeam_queue.specs.Fifo.{Forks, Held, Learns, Merges, Pops, Pushes}
use Rattle.std.specs.List.{list_any}
use Rattle.stamp_machine.specs.Limits.{AreLimits}
use Rattle.stamp_machine.specs.Orders.{Each}
use Rattle.version_store.specs.Advances.{has_ended, lives}
use Rattle.version_store.specs.Carriers.{CarrierView}
use Rattle.version_store.specs.Gathers.{AreEnded}
use Rattle.task_crew.specs.declared.hand.Hand.{Hand}
use Rattle.task_crew.specs.declared.worker.End.{End}
use Rattle.task_crew.specs.declared.worker.End.TheVariants.{Empty, Stopped}
use Rattle.task_crew.specs.declared.worker.Next.{Next}
use Rattle.task_crew.specs.declared.worker.Next.TheVariants.{Served, Idle, Ends}
use Rattle.task_crew.specs.Hands.{times, once_below, hand, run_of_first, filled, both, spent, kept_part, other_parts, IsInRun}
use Rattle.task_crew.specs.Crews.{RunView, HoldsAll, run_of, run_on, slot_of, Lives, AreKept, HasEntered, HasLeft, HasReturned, HasRoom, HasAll, IsWorker, AreHeld, IsLiving, IsAtWork, IsServing, AreOver, IsOverAll, WhenEmpty, WhenGoesOn, WhenOver, end_of}
use Rattle.task_crew.proofs.Hands.{all_with, enters, few, forks, leaves, length_without, merges, returns, times_append, times_without}

abbrev some_of : {A : Type 0} → A → Option A → A
some_of d None = d
some_of d (Some x) = x

pub same_some : {A : Type 0} {x y : A} → Some x ≡ Some y → x ≡ y
same_some {A} {x} {y} e = ap (some_of x) e

none_left : {A : Type 0} (xs : List A) → length xs ≡ 0 → xs ≡ []
none_left [] e = refl
none_left (x ∷ xs) e = absurd (omega (arith, e))

-- an empty list, by the test of its length
pub none_if_empty : {A : Type 0} (xs : List A) (test : Bool) → test ≡ nat_eq (length xs) 0 → test ≡ true → xs ≡ []
none_if_empty xs test is holds = none_left xs (grind (arith, nat_tests, is, holds))

run_there : {R : Type 0} (run : R) (count : ℕ) → 0 < count → run_of_first run count ≡ Some run
run_there run zero some_one = absurd (omega (arith, some_one))
run_there run (suc count) some_one = refl

once_there : (number count : ℕ) → number < count → once_below count number ≡ 1
once_there number count below = grind (arith, nat_tests)

either_there : (b rest : Bool) (n : ℕ) → (0 < n → rest ≡ true) → 0 < (if b then 1 else 0) + n → b || rest ≡ true
either_there true rest n more there = refl
either_there false rest n more there = more (omega (arith, there))

one_or_more : (n rest total : ℕ) → total ≡ (if nat_eq n n then 1 else 0) + rest → 0 < total
one_or_more n rest total is = grind (arith, nat_tests, is)

-- what holds is so where a worker returns that found the queue empty, too
pub when_over : {P : Type 0} (next : Next) → P → WhenOver next P
when_over Served p = tt
when_over Idle p = tt
when_over (Ends Stopped) p = tt
when_over (Ends Empty) p = p

-- what holds is so where a worker goes on, too
pub when_goes_on : {P : Type 0} (next : Next) → P → WhenGoesOn next P
when_goes_on Served p = p
when_goes_on Idle p = p
when_goes_on (Ends end) p = tt

-- what holds where nothing was found
pub if_none : {A P : Type 0} (x : Option A) → x ≡ None → IfNone x P → P
if_none None is p = p
if_none (Some y) is p = absurd (true≢false (ap is_some is))

module _ {T : Type 0} where
  -- two workers as one
  pub worker_both : (run : RunView T) (v u w : Hand (RunView T)) → IsWorker run v → w ≡ both v u → IsWorker run w
  worker_both run v u w is e = subst (IsWorker run) (sym e) (record { part = omega (arith, is.part); same = is.same; count = is.count })

  -- the pass that has filled the queue
  pub worker_filled : (run : RunView T) (v : Hand (RunView T)) → 0 < run.limits.slots → v ≡ filled run run.limits.slots → IsWorker run v
  worker_filled run v some_slot e = subst (IsWorker run) (sym e)
      (record { part = omega arith; same = run_there run run.limits.slots some_slot; count = refl })

  -- the two passes after a share
  pub worker_kept : (run : RunView T) (v w : Hand (RunView T)) → IsWorker run v → w ≡ kept_part v → IsWorker run w
  worker_kept run v w is e = subst (IsWorker run) (sym e) (record { part = omega arith; same = is.same; count = is.count })

  pub worker_others : (run : RunView T) (v w : Hand (RunView T)) → IsWorker run v → 1 < v.parts → w ≡ other_parts v → IsWorker run w
  worker_others run v w is more e = subst (IsWorker run) (sym e) (record { part = omega (arith, more); same = is.same; count = is.count })

  -- the same pass
  pub worker_same : (run : RunView T) (v w : Hand (RunView T)) → IsWorker run v → w ≡ v → IsWorker run w
  worker_same run v w is e = subst (IsWorker run) (sym e) is

module _ {T V L : Type 0} where
  slots_append : (slot : ℕ) (xs ys : List (CarrierView T V L)) →
      times slot (map slot_of (xs ++ ys)) ≡ times slot (map slot_of xs) + times slot (map slot_of ys)
  slots_append slot [] ys = omega arith
  slots_append slot (x ∷ xs) ys = omega (arith, slots_append slot xs ys)

  over_append : (run : RunView T) (xs ys : List (CarrierView T V L)) → AreOver run xs → AreOver run ys → AreOver run (xs ++ ys)
  over_append run [] ys over more = more
  over_append run (x ∷ xs) ys over more = (over.0, over_append run xs ys over.1 more)

  living_append : (run : RunView T) (xs ys : List (CarrierView T V L)) → Each (IsLiving run) xs → Each (IsLiving run) ys →
      Each (IsLiving run) (xs ++ ys)
  living_append run [] ys are more = more
  living_append run (x ∷ xs) ys are more = (are.0, living_append run xs ys are.1 more)

  -- a worker serves a carrier that was taken out
  pub serving_left : (run : RunView T) (v w : Hand (RunView T)) (kept waiting : List (CarrierView T V L)) (c : CarrierView T V L) →
      IsAtWork run v kept waiting → HasLeft v c w → IsServing run w kept waiting c
  serving_left run v w kept waiting c is left = subst (λ u. IsServing run u kept waiting c) (sym left.0) (record {
    worker = record { part = is.worker.part; same = is.worker.same; count = is.worker.count };
    held = record { each = λ slot. omega (arith, is.held.each slot); size = omega (arith, is.held.size) };
    over = is.over;
    living = is.living;
    served = record { of_run = same_some (sym left.1.same ∙ is.worker.same); lives = left.1.lives };
    few = omega (arith, left.2);
  })

  -- a carrier that is served is one of the queue's run
  in_run : (run : RunView T) (v : Hand (RunView T)) (kept waiting : List (CarrierView T V L)) (c : CarrierView T V L) →
      IsServing run v kept waiting c → IsInRun slot_of run_of Lives v.run c
  in_run run v kept waiting c s = record { same = s.worker.same ∙ ap Some (sym s.served.of_run); lives = s.served.lives }

  -- its slot is with the pass
  stands : (run : RunView T) (v : Hand (RunView T)) (kept waiting : List (CarrierView T V L)) (c : CarrierView T V L) →
      IsServing run v kept waiting c → 0 < times (slot_of c) v.holds
  stands run v kept waiting c s = one_or_more (slot_of c) (times (slot_of c) (map slot_of (kept ++ waiting)))
      (times (slot_of c) v.holds) (s.held.each (slot_of c))

  -- what the steps on the queue owe
  pub may_enter : (n pass : ℕ) (v : Hand (RunView T)) (c : CarrierView T V L) → v ≡ filled (run_of c) (slot_of c) → lives c ≡ true →
      Pushes AreKept n pass v c (HasEntered v c) × Learns (AreKept {T = T} {V = V} {L = L}) pass v (HasRoom v)
  may_enter n pass v c is live =
      (enters slot_of run_of Lives n pass v c is live, few slot_of run_of Lives pass v (omega (arith, ap (λ u. u.parts) is)))

  pub may_leave : (pass : ℕ) (run : RunView T) (v : Hand (RunView T)) → IsWorker run v →
      Pops AreKept pass v (HasLeft {T = T} {V = V} {L = L} v) × Learns (AreKept {T = T} {V = V} {L = L}) pass v (HasAll v)
  may_leave pass run v is = (leaves slot_of run_of Lives pass v is.part, all_with slot_of run_of Lives pass v)

  pub may_return : (n pass : ℕ) (run : RunView T) (v : Hand (RunView T)) (kept waiting : List (CarrierView T V L)) (c : CarrierView T V L) →
      IsServing run v kept waiting c →
      Pushes AreKept n pass v c (HasReturned v c) × Learns (AreKept {T = T} {V = V} {L = L}) pass v (HasRoom v)
  may_return n pass run v kept waiting c s = (
    returns slot_of run_of Lives n pass v c s.worker.part (stands run v kept waiting c s) (in_run run v kept waiting c s),
    few slot_of run_of Lives pass v s.worker.part,
  )

  pub may_share : (pass : ℕ) (v : Hand (RunView T)) → 1 < v.parts → Forks (AreKept {T = T} {V = V} {L = L}) pass v (kept_part v) (other_parts v)
  may_share pass v parts = forks slot_of run_of Lives pass v parts

  pub may_take_in : (pass : ℕ) (run : RunView T) (v : Hand (RunView T)) (other : ℕ) (u : Hand (RunView T)) → IsWorker run v →
      Merges (AreKept {T = T} {V = V} {L = L}) pass v other u (both v u) spent
  may_take_in pass run v other u is = merges slot_of run_of Lives pass v other u is.part

  -- the carrier of a new board's seat has the run of the board
  pub fresh_run : (tasker : T) (limits : Limits) (board : BoardView) (seat : SeatView) (c : CarrierView T V L) →
      c.tasker ≡ tasker → c.limits ≡ limits → c.seat ≡ seat → seat ≡ new_seat board seat.slot → run_of c ≡ run_on tasker limits board
  fresh_run tasker limits board seat c t l s new =
      let b : c.seat.board ≡ board = ap (λ (x : SeatView). x.board) (s ∙ new) in
      λ i. record { tasker = t i; limits = l i; board = b i }

  -- the carrier can be put in next
  pub filled_for : (run : RunView T) (v : Hand (RunView T)) (k : ℕ) (c : CarrierView T V L) →
      v ≡ filled run k → run_of c ≡ run → slot_of c ≡ k → v ≡ filled (run_of c) (slot_of c)
  filled_for run v k c is same slot = is ∙ (ap (λ (r : RunView T). filled r k) (sym same) ∙ ap (filled (run_of c)) (sym slot))

  -- the same of an item that is made of the carrier
  pub filled_as : (v : Hand (RunView T)) (c i : CarrierView T V L) → v ≡ filled (run_of c) (slot_of c) → i ≡ c →
      v ≡ filled (run_of i) (slot_of i)
  filled_as v c i is made = is ∙ ap (λ (x : CarrierView T V L). filled (run_of x) (slot_of x)) (sym made)

  pub filled_of : (v : Hand (RunView T)) (c i : CarrierView T V L) → v ≡ filled (run_of i) (slot_of i + 1) → i ≡ c →
      v ≡ filled (run_of c) (slot_of c + 1)
  filled_of v c i is made = is ∙ ap (λ (x : CarrierView T V L). filled (run_of x) (slot_of x + 1)) made

  -- the pass that a new carrier of a run was put in with
  pub filled_next : (run : RunView T) (v : Hand (RunView T)) (k : ℕ) (c : CarrierView T V L) →
      v ≡ filled (run_of c) (slot_of c + 1) → run_of c ≡ run → slot_of c ≡ k → v ≡ filled run (k + 1)
  filled_next run v k c is same slot =
      is ∙ (ap (λ (r : RunView T). filled r (slot_of c + 1)) same ∙ ap (λ (n : ℕ). filled run (n + 1)) slot)

  -- the pass after a carrier was put in, for which there is room
  pub entered : (size : ℕ) (v w : Hand (RunView T)) (c : CarrierView T V L) (result : Result ⊤ (CarrierView T V L)) →
      v ≡ filled (run_of c) (slot_of c) → slot_of c < size →
      MatchResult result (λ _. HasEntered v c w) (λ x. (x ≡ c) × (w ≡ v) × Held size (HasRoom {T = T} {V = V} {L = L} v)) →
      w ≡ filled (run_of c) (slot_of c + 1)
  entered size v w c (Ok done) e below rule =
      rule ∙ (ap (λ (u : Hand (RunView T)). hand u.parts (Some (run_of c)) (u.count + 1) u.holds) e
      ∙ ap (λ o. hand 1024 o (slot_of c + 1) []) (sym (run_there (run_of c) (slot_of c + 1) (omega arith))))
  entered size v w c (Err x) e below rule =
      let held : Held size (HasRoom {T = T} {V = V} {L = L} v) = rule.2 in
      let count : v.count ≡ slot_of c = ap (λ (u : Hand (RunView T)). u.count) e in
      absurd (omega (arith, held.1, held.2, count, below))

  -- after the carrier was put back
  pub work_returned : (run : RunView T) (v w : Hand (RunView T)) (kept waiting : List (CarrierView T V L)) (c : CarrierView T V L) →
      IsServing run v kept waiting c → HasReturned v c w → IsAtWork run w kept waiting
  work_returned run v w kept waiting c s back = subst (λ u. IsAtWork run u kept waiting) (sym back) (record {
    worker = record { part = s.worker.part; same = s.worker.same; count = s.worker.count };
    held = record {
      each = λ slot. omega (arith, s.held.each slot, times_without (slot_of c) slot v.holds (stands run v kept waiting c s));
      size = omega (arith, s.held.size, length_without (slot_of c) v.holds (stands run v kept waiting c s));
    };
    over = s.over;
    living = s.living;
    few = λ _. omega (arith, s.few, length_without (slot_of c) v.holds (stands run v kept waiting c s));
  })

  pub work_pushed : (size : ℕ) (run : RunView T) (v w : Hand (RunView T)) (kept waiting : List (CarrierView T V L)) (c : CarrierView T V L)
      (result : Result ⊤ (CarrierView T V L)) (done : ⊤) → IsServing run v kept waiting c → result ≡ Ok done →
      MatchResult result (λ _. HasReturned v c w) (λ x. (x ≡ c) × (w ≡ v) × Held size (HasRoom {T = T} {V = V} {L = L} v)) →
      IsAtWork run w kept waiting
  work_pushed size run v w kept waiting c (Ok u) done s is rule = work_returned run v w kept waiting c s rule
  work_pushed size run v w kept waiting c (Err x) done s is rule = absurd (true≢false (sym (ap is_ok is)))

  -- the carriers of the same slots
  held_with : (slots : List ℕ) (rest : List (CarrierView T V L)) (c d : CarrierView T V L) → AreHeld slots (c ∷ rest) → slot_of d ≡ slot_of c →
      AreHeld slots (d ∷ rest)
  held_with slots rest c d held slot = record {
    each = λ k. omega (arith, held.each k, ap (λ n. times k (n ∷ [])) slot);
    size = held.size;
  }

  -- another state of the carrier is served as well, of a pass that holds the same
  pub serving_item : (run : RunView T) (v : Hand (RunView T)) (kept all waiting : List (CarrierView T V L)) (c b d i : CarrierView T V L) →
      IsServing run v kept waiting c → b ≡ c → run_of d ≡ run_of b → slot_of d ≡ slot_of b → lives d ≡ true →
      all ≡ kept → i ≡ d → IsServing run v all waiting i
  serving_item run v kept all waiting c b d i s is same slot live more made =
      subst (λ l. IsServing run v l waiting i) (sym more) (subst (IsServing run v kept waiting) (sym made) (record {
        worker = s.worker;
        held = held_with v.holds (kept ++ waiting) c d s.held (slot ∙ ap slot_of is);
        over = s.over;
        living = s.living;
        served = record { of_run = same ∙ (ap run_of is ∙ s.served.of_run); lives = live };
        few = s.few;
      }))

  -- a carrier that waits with the worker
  pub work_waiting : (run : RunView T) (v : Hand (RunView T)) (kept waiting all : List (CarrierView T V L)) (c : CarrierView T V L) →
      IsServing run v kept waiting c → all ≡ waiting ++ c ∷ [] → IsAtWork run v kept all
  work_waiting run v kept waiting all c s more = subst (IsAtWork run v kept) (sym more) (record {
    worker = s.worker;
    held = record {
      each = λ slot. omega (
        arith,
        s.held.each slot,
        slots_append slot kept waiting,
        slots_append slot kept (waiting ++ c ∷ []),
        slots_append slot waiting (c ∷ []),
      );
      size = omega (
        arith,
        s.held.size,
        length-append kept waiting,
        length-append kept (waiting ++ c ∷ []),
        length-append waiting (c ∷ []),
      );
    };
    over = s.over;
    living = living_append run waiting (c ∷ []) s.living (s.served, tt);
    few = λ _. s.few;
  })

  -- of carriers from which one was removed
  removed_slots : (slot : ℕ) (xs : List (CarrierView T V L)) (place : ℕ) (d : CarrierView T V L) → place < length xs →
      times slot (map slot_of xs)
      ≡ (if nat_eq (slot_of (slice_index_or xs place d)) slot then 1 else 0) + times slot (map slot_of (remove xs place))
  removed_slots slot [] place d below = absurd (omega (arith, below))
  removed_slots slot (x ∷ xs) zero d below = refl
  removed_slots slot (x ∷ xs) (suc place) d below = omega (arith, removed_slots slot xs place d (omega (arith, below)))

  removed_length : (xs : List (CarrierView T V L)) (place : ℕ) → place < length xs → length xs ≡ suc (length (remove xs place))
  removed_length [] place below = absurd (omega (arith, below))
  removed_length (x ∷ xs) zero below = refl
  removed_length (x ∷ xs) (suc place) below = ap suc (removed_length xs place (omega (arith, below)))

  removed_living : (run : RunView T) (xs : List (CarrierView T V L)) (place : ℕ) (d : CarrierView T V L) → place < length xs →
      Each (IsLiving run) xs → IsLiving run (slice_index_or xs place d) × Each (IsLiving run) (remove xs place)
  removed_living run [] place d below are = absurd (omega (arith, below))
  removed_living run (x ∷ xs) zero d below are = are
  removed_living run (x ∷ xs) (suc place) d below are =
      let rest = removed_living run xs place d (omega (arith, below)) are.1 in (rest.0, (are.0, rest.1))

  -- a carrier that waited with the worker is served
  pub serving_up : (run : RunView T) (v w : Hand (RunView T)) (kept waiting rest : List (CarrierView T V L)) (place : ℕ) (c : CarrierView T V L) →
      IsAtWork run v kept waiting → place < length waiting → c ≡ slice_index_or waiting place c → rest ≡ remove waiting place →
      w ≡ v → IsServing run w kept rest c
  serving_up run v w kept waiting rest place c is below at left same =
      let living = removed_living run waiting place c below is.living in
      subst (λ u. IsServing run u kept rest c) (sym same) (subst (λ l. IsServing run v kept l c) (sym left) (record {
        worker = is.worker;
        held = record {
          each = λ slot. omega (
            arith,
            is.held.each slot,
            removed_slots slot waiting place c below,
            ap (λ x. times slot (slot_of x ∷ [])) at,
            slots_append slot kept waiting,
            slots_append slot kept (remove waiting place),
          );
          size = omega (
            arith,
            is.held.size,
            removed_length waiting place below,
            length-append kept waiting,
            length-append kept (remove waiting place),
          );
        };
        over = is.over;
        living = living.1;
        served = subst (IsLiving run) (sym at) living.0;
        few = is.few (omega (arith, below));
      }))

  -- a pass that holds nothing, and no carriers
  pub none_held : (slots : List ℕ) → slots ≡ [] → AreHeld {T = T} {V = V} {L = L} slots []
  none_held slots e = subst (λ l. AreHeld {T = T} {V = V} {L = L} l []) (sym e) (record { each = λ slot. refl; size = refl })

  pub over_none : (run : RunView T) (v : Hand (RunView T)) (kept : List (CarrierView T V L)) → v.holds ≡ [] → kept ≡ [] → IsOverAll run v kept
  over_none run v kept none e = subst (λ (l : List (CarrierView T V L)). IsOverAll run v l) (sym e)
      (record { held = none_held v.holds none; over = tt })

  none_more : (kept : List (CarrierView T V L)) → kept ++ [] ≡ kept
  none_more [] = refl
  none_more (c ∷ cs) = ap (λ l. c ∷ l) (none_more cs)

  -- what a worker keeps, with which no carrier waits
  pub over_when_none : (run : RunView T) (v : Hand (RunView T)) (kept waiting : List (CarrierView T V L)) → IsAtWork run v kept waiting → waiting ≡ [] →
      IsOverAll run v kept
  over_when_none run v kept waiting is none = record {
    held = subst (AreHeld v.holds) (ap (λ l. kept ++ l) none ∙ none_more kept) is.held;
    over = is.over;
  }

  pub work_of_over : (run : RunView T) (v : Hand (RunView T)) (kept waiting : List (CarrierView T V L)) → IsWorker run v → IsOverAll run v kept → waiting ≡ [] →
      IsAtWork run v kept waiting
  work_of_over run v kept waiting worker is none = subst (IsAtWork run v kept) (sym none) (record {
    worker = worker;
    held = subst (AreHeld v.holds) (sym (none_more kept)) is.held;
    over = is.over;
    living = tt;
    few = λ some. absurd (omega (arith, some));
  })

  pub over_next : (run : RunView T) (v : Hand (RunView T)) (kept waiting seen : List (CarrierView T V L)) (next : Next) →
      IsAtWork run v kept waiting → seen ≡ waiting → WhenOver next (seen ≡ []) → WhenOver next (IsOverAll run v kept)
  over_next run v kept waiting seen Served is same none = tt
  over_next run v kept waiting seen Idle is same none = tt
  over_next run v kept waiting seen (Ends Stopped) is same none = tt
  over_next run v kept waiting seen (Ends Empty) is same none = over_when_none run v kept waiting is (sym same ∙ none)

  -- the worker keeps the carrier, which a turn has changed
  pub held_kept : (run : RunView T) (v w : Hand (RunView T)) (kept waiting all more : List (CarrierView T V L)) (c b d : CarrierView T V L) →
      IsServing run v kept waiting c → b ≡ c → slot_of d ≡ slot_of b → w ≡ v → all ≡ kept ++ d ∷ [] → more ≡ waiting →
      AreHeld w.holds (all ++ more)
  held_kept run v w kept waiting all more c b d s is slot same joined still =
      let held = held_with v.holds (kept ++ waiting) c d s.held (slot ∙ ap slot_of is) in
      subst (λ (u : Hand (RunView T)). AreHeld u.holds (all ++ more)) (sym same) (subst (AreHeld v.holds)
      (sym (ap (λ l. l ++ waiting) joined) ∙ sym (ap (λ l. all ++ l) still)) (record {
        each = λ k. omega (
          arith,
          held.each k,
          slots_append k kept waiting,
          slots_append k (kept ++ d ∷ []) waiting,
          slots_append k kept (d ∷ []),
        );
        size = omega (
          arith,
          held.size,
          length-append kept waiting,
          length-append (kept ++ d ∷ []) waiting,
          length-append kept (d ∷ []),
        );
      }))

  pub work_kept : (run : RunView T) (v w : Hand (RunView T)) (kept waiting all more : List (CarrierView T V L)) (c b d : CarrierView T V L) →
      IsServing run v kept waiting c → b ≡ c → run_of d ≡ run_of b → slot_of d ≡ slot_of b → has_ended d ≡ true →
      w ≡ v → all ≡ kept ++ d ∷ [] → more ≡ waiting → IsAtWork run w all more
  work_kept run v w kept waiting all more c b d s is run_same slot ended same joined still =
      let of_run = run_same ∙ (ap run_of is ∙ s.served.of_run) in record {
        worker = subst (IsWorker run) (sym same) s.worker;
        held = held_kept run v w kept waiting all more c b d s is slot same joined still;
        over = subst (AreOver run) (sym joined) (over_append run kept (d ∷ []) s.over (
          record {
            tasker_is = ap (λ (r : RunView T). r.tasker) of_run;
            limits_are = ap (λ (r : RunView T). r.limits) of_run;
            board_is = ap (λ (r : RunView T). r.board) of_run;
            ended = ended;
          },
          tt,
        ));
        living = subst (Each (IsLiving run)) (sym still) s.living;
        few = λ _. subst (λ (u : Hand (RunView T)). length u.holds ≤ u.count) (sym same) s.few;
      }

  -- where the queue is empty, the pass with all parts holds each slot
  pub holds_all : (v : Hand (RunView T)) → Held 0 (HasAll {T = T} {V = V} {L = L} v) → HoldsAll v
  holds_all v held = record {
    each = λ parts slot.
        omega (arith, (held.2 parts).0 slot, ap (λ (l : List (CarrierView T V L)). times slot (map slot_of l)) (none_left held.0 held.1));
    size = λ parts. omega (arith, (held.2 parts).1, held.1);
  }

  -- what a worker knows after it took the next carrier out, or found none
  pub taken_parts : (v w : Hand (RunView T)) (x : Option (CarrierView T V L)) →
      MatchOption x ((w ≡ v) × Held 0 (HasAll {T = T} {V = V} {L = L} v)) (λ c. HasLeft v c w) → w.parts ≡ v.parts
  taken_parts v w None rule = ap (λ (u : Hand (RunView T)). u.parts) rule.0
  taken_parts v w (Some c) rule = ap (λ (u : Hand (RunView T)). u.parts) rule.0

  pub taken_serving : (run : RunView T) (v w : Hand (RunView T)) (kept waiting : List (CarrierView T V L)) (x : Option (CarrierView T V L)) →
      IsAtWork run v kept waiting → MatchOption x ((w ≡ v) × Held 0 (HasAll {T = T} {V = V} {L = L} v)) (λ c. HasLeft v c w) → IfSome x (λ c. IsServing run w kept waiting c)
  taken_serving run v w kept waiting None is rule = tt
  taken_serving run v w kept waiting (Some c) is rule = serving_left run v w kept waiting c is rule

  pub taken_work : (run : RunView T) (v w : Hand (RunView T)) (kept waiting : List (CarrierView T V L)) (x : Option (CarrierView T V L)) →
      IsAtWork run v kept waiting → MatchOption x ((w ≡ v) × Held 0 (HasAll {T = T} {V = V} {L = L} v)) (λ c. HasLeft v c w) → IfNone x (IsAtWork run w kept waiting)
  taken_work run v w kept waiting None is rule = subst (λ u. IsAtWork run u kept waiting) (sym rule.0) is
  taken_work run v w kept waiting (Some c) is rule = tt

  pub taken_all : (v w : Hand (RunView T)) (x : Option (CarrierView T V L)) →
      MatchOption x ((w ≡ v) × Held 0 (HasAll {T = T} {V = V} {L = L} v)) (λ c. HasLeft v c w) → IfNone x (HoldsAll w)
  taken_all v w None rule = subst HoldsAll (sym rule.0) (holds_all v rule.1)
  taken_all v w (Some c) rule = tt

  -- what two workers keep
  pub over_both : (run : RunView T) (v u w : Hand (RunView T)) (kept others all : List (CarrierView T V L)) →
      IsOverAll run v kept → IsOverAll run u others → w ≡ both v u → all ≡ kept ++ others → IsOverAll run w all
  over_both run v u w kept others all a b e more = subst (λ l. IsOverAll run w l) (sym more)
      (subst (λ x. IsOverAll run x (kept ++ others)) (sym e) (record {
        held = record {
          each = λ slot.
              omega (arith, times_append slot v.holds u.holds, slots_append slot kept others, a.held.each slot, b.held.each slot);
          size = omega (arith, length-append v.holds u.holds, length-append kept others, a.held.size, b.held.size);
        };
        over = over_append run kept others a.over b.over;
      }))

  pub when_both : (run : RunView T) (v u w : Hand (RunView T)) (kept others all : List (CarrierView T V L)) (fits : Bool) (x y : End) →
      WhenEmpty x (IsOverAll run v kept) → WhenEmpty y (IsOverAll run u others) → w ≡ both v u →
      (fits ≡ true → all ≡ kept ++ others) → WhenEmpty (end_of fits x y) (IsOverAll run w all)
  when_both run v u w kept others all false x y a b e more = tt
  when_both run v u w kept others all true Empty Empty a b e more = over_both run v u w kept others all a b e (more refl)
  when_both run v u w kept others all true Empty Stopped a b e more = tt
  when_both run v u w kept others all true Stopped y a b e more = tt

  pub when_both_is : (run : RunView T) (v u w : Hand (RunView T)) (kept others all : List (CarrierView T V L)) (fits : Bool) (x y z : End) →
      WhenEmpty x (IsOverAll run v kept) → WhenEmpty y (IsOverAll run u others) → w ≡ both v u →
      (fits ≡ true → all ≡ kept ++ others) → z ≡ end_of fits x y → WhenEmpty z (IsOverAll run w all)
  when_both_is run v u w kept others all fits x y z a b e more is = subst (λ (q : End). WhenEmpty q (IsOverAll run w all)) (sym is)
      (when_both run v u w kept others all fits x y a b e more)

  -- where a slot stands among those of the carriers, one of them has it
  one_there : (number : ℕ) (kept : List (CarrierView T V L)) → 0 < times number (map slot_of kept) →
      list_any (λ c. nat_eq c.seat.slot number) kept ≡ true
  one_there number [] there = absurd (omega (arith, there))
  one_there number (c ∷ cs) there = either_there (nat_eq c.seat.slot number) (list_any (λ d. nat_eq d.seat.slot number) cs)
      (times number (map slot_of cs)) (one_there number cs) there

  -- the carriers that are kept at the end are all of the run
  pub all_ended : (run : RunView T) (v : Hand (RunView T)) (kept : List (CarrierView T V L)) → AreLimits run.limits → IsWorker run v →
      v.parts ≡ 1024 → HoldsAll v → AreHeld v.holds kept → AreOver run kept → AreEnded run.board run.tasker run.limits kept
  all_ended run v kept ranges is parts all held over = record {
    ranges = ranges;
    ends = over;
    number = omega (arith, held.size, all.size parts, is.count);
    slots = λ number below. record {
      some = one_there number kept (omega (
        arith,
        held.each number,
        all.each parts number,
        ap (λ k. once_below k number) is.count,
        once_there number run.limits.slots below,
      ));
    };
  }

  pub ended_when_empty : (run : RunView T) (v : Hand (RunView T)) (kept all : List (CarrierView T V L)) (x : End) → x ≡ Empty →
      AreLimits run.limits → IsWorker run v → v.parts ≡ 1024 → WhenEmpty x (HoldsAll v) → WhenEmpty x (IsOverAll run v kept) →
      all ≡ kept → AreEnded run.board run.tasker run.limits all
  ended_when_empty run v kept all x empty ranges is parts holds over same =
      let o : IsOverAll run v kept = subst (λ (y : End). WhenEmpty y (IsOverAll run v kept)) empty over in
      let h : HoldsAll v = subst (λ (y : End). WhenEmpty y (HoldsAll v)) empty holds in
      subst (λ (l : List (CarrierView T V L)). AreEnded run.board run.tasker run.limits l) (sym same)
      (all_ended run v kept ranges is parts h o.held o.over)
