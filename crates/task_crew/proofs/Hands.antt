-- Each step on the queue keeps the rule.
use Rattle.std.proofs.Common.{◌≡◌, ◌≢◌, ℕ, zero, suc, ◌+◌, ◌<◌, ◌≤◌, nat_eq, true, false, Bool, List, [], ◌∷◌, ◌++◌, length, map, set, sym, refl, ap, ◌∙◌, subst, ⊎_elim, Option, Some, None, length-append, arith, if◌then◌else◌, is_some, true≢false}
use mathlib.Core.Option.{some, some-injective, some-ne-none}
use lib.ListN.{get_elem?}
use Rattle.std.proofs.lemmas.Bool.Decides.{nat_tests}
use Rattle.crossbeam_queue.specs.Fifo.{Pushes, Pops, Forks, Merges, Learns}
use Rattle.crossbeam_queue.proofs.Lists.{at_set, at_snoc}
use Rattle.task_crew.specs.declared.hand.Hand.{Hand}
use Rattle.task_crew.specs.Hands.{times, once_below, total, hand, first_hand, run_of_first, filled, kept_part, without, other_parts, both, spent, IsInRun, AreInRun, AreOnce, Enters, Leaves, Returns, AreFew, AreAll}

pub times_append : (slot : ℕ) (xs ys : List ℕ) → times slot (xs ++ ys) ≡ times slot xs + times slot ys
times_append slot [] ys = omega arith
times_append slot (x ∷ xs) ys = omega (arith, times_append slot xs ys)

-- the list that a slot left, where it stood
leaves_once : (here : Bool) (slot other s : ℕ) (ss : List ℕ) → nat_eq s slot ≡ here → 0 < times slot (s ∷ ss) →
    (0 < times slot ss → times other ss ≡ (if nat_eq slot other then 1 else 0) + times other (without slot ss)) →
    times other (s ∷ ss) ≡ (if nat_eq slot other then 1 else 0) + times other (if here then ss else s ∷ without slot ss)
leaves_once true slot other s ss is there rest = grind (arith, nat_tests, is)
leaves_once false slot other s ss is there rest =
    omega (arith, rest (omega (arith, there, ap {B = ℕ} (λ b. if b then 1 else 0) is)))

pub times_without : (slot other : ℕ) (ss : List ℕ) → 0 < times slot ss →
    times other ss ≡ (if nat_eq slot other then 1 else 0) + times other (without slot ss)
times_without slot other [] there = absurd (omega (arith, there))
times_without slot other (s ∷ ss) there =
    leaves_once (nat_eq s slot) slot other s ss refl there (times_without slot other ss)

one_fewer : (here : Bool) (slot s : ℕ) (ss : List ℕ) → nat_eq s slot ≡ here → 0 < times slot (s ∷ ss) →
    (0 < times slot ss → length ss ≡ suc (length (without slot ss))) →
    suc (length ss) ≡ suc (length (if here then ss else s ∷ without slot ss))
one_fewer true slot s ss is there rest = refl
one_fewer false slot s ss is there rest = ap suc (rest (omega (arith, there, ap {B = ℕ} (λ b. if b then 1 else 0) is)))

pub length_without : (slot : ℕ) (ss : List ℕ) → 0 < times slot ss → length ss ≡ suc (length (without slot ss))
length_without slot [] there = absurd (omega (arith, there))
length_without slot (s ∷ ss) there = one_fewer (nat_eq s slot) slot s ss refl there (length_without slot ss)

-- the sum after a change of one item
total_set : {A : Type 0} (f : A → ℕ) (xs : List A) (place : ℕ) (v w : A) → get_elem? xs place ≡ some v →
    total f (set xs place w) + f v ≡ total f xs + f w
total_set f [] place v w at = absurd (some-ne-none v (sym at))
total_set f (x ∷ xs) zero v w at = let e = ap f (some-injective x v at) in omega (arith, e)
total_set f (x ∷ xs) (suc place) v w at = omega (arith, total_set f xs place v w at)

total_append : {A : Type 0} (f : A → ℕ) (xs : List A) (w : A) → total f (xs ++ w ∷ []) ≡ total f xs + f w
total_append f [] w = omega arith
total_append f (x ∷ xs) w = omega (arith, total_append f xs w)

-- an item is part of the sum, and so are two
one_within : {A : Type 0} (f : A → ℕ) (xs : List A) (place : ℕ) (v : A) → get_elem? xs place ≡ some v → f v ≤ total f xs
one_within f [] place v at = absurd (some-ne-none v (sym at))
one_within f (x ∷ xs) zero v at = let e = ap f (some-injective x v at) in omega (arith, e)
one_within f (x ∷ xs) (suc place) v at = omega (arith, one_within f xs place v at)

two_within : {A : Type 0} (f : A → ℕ) (xs : List A) (place other : ℕ) (v u : A) → place ≢ other →
    get_elem? xs place ≡ some v → get_elem? xs other ≡ some u → f v + f u ≤ total f xs
two_within f [] place other v u apart at at' = absurd (some-ne-none v (sym at))
two_within f (x ∷ xs) zero zero v u apart at at' = absurd (apart refl)
two_within f (x ∷ xs) zero (suc other) v u apart at at' =
    let e = ap f (some-injective x v at) in omega (arith, e, one_within f xs other u at')
two_within f (x ∷ xs) (suc place) zero v u apart at at' =
    let e = ap f (some-injective x u at') in omega (arith, e, one_within f xs place v at)
two_within f (x ∷ xs) (suc place) (suc other) v u apart at at' =
    omega (arith, two_within f xs place other v u (λ e. apart (ap suc e)) at at')

-- a sum over items of which all are 0 but one
none_more : {A : Type 0} (f : A → ℕ) (xs : List A) →
    ((other : ℕ) (u : A) → get_elem? xs other ≡ some u → f u ≡ 0) → total f xs ≡ 0
none_more f [] zeros = refl
none_more f (x ∷ xs) zeros =
    omega (arith, zeros 0 x refl, none_more f xs (λ other u at. zeros (suc other) u at))

alone : {A : Type 0} (f : A → ℕ) (xs : List A) (place : ℕ) (v : A) → get_elem? xs place ≡ some v →
    ((other : ℕ) (u : A) → other ≢ place → get_elem? xs other ≡ some u → f u ≡ 0) → total f xs ≡ f v
alone f [] place v at zeros = absurd (some-ne-none v (sym at))
alone f (x ∷ xs) zero v at zeros = let e = ap f (some-injective x v at) in
    omega (arith, e, none_more f xs (λ other u at'. zeros (suc other) u (λ e. absurd (omega arith)) at'))
alone f (x ∷ xs) (suc place) v at zeros = omega (
  arith,
  zeros 0 x (λ e. absurd (omega arith)) refl,
  alone f xs place v at (λ other u apart at'. zeros (suc other) u (λ e. apart (omega arith)) at'),
)

once_next : (count slot : ℕ) → once_below count slot + (if nat_eq count slot then 1 else 0) ≡ once_below (count + 1) slot
once_next count slot = grind (arith, nat_tests)

module _ {C R : Type 0} (slot_of : C → ℕ) (run_of : C → R) (Lives : C → Type 0) where
  abbrev pub Kept : List C → List (Hand R) → Type 0
  Kept = AreOnce slot_of run_of Lives

  slots_append : (slot : ℕ) (xs : List C) (x : C) →
      times slot (map slot_of (xs ++ x ∷ [])) ≡ times slot (map slot_of xs) + (if nat_eq (slot_of x) slot then 1 else 0)
  slots_append slot [] x = omega arith
  slots_append slot (y ∷ ys) x = omega (arith, slots_append slot ys x)

  in_run_append : (run : Option R) (xs : List C) (x : C) → AreInRun slot_of run_of Lives run xs →
      IsInRun slot_of run_of Lives run x → AreInRun slot_of run_of Lives run (xs ++ x ∷ [])
  in_run_append run [] x are is = (is, tt)
  in_run_append run (y ∷ ys) x are is = (are.0, in_run_append run ys x are.1 is)

  only : (place : ℕ) (u : Hand R) → get_elem? (first_hand ∷ []) place ≡ some u → (P : Hand R → Type 0) → P first_hand → P u
  only zero u at P p = subst P (some-injective first_hand u at) p
  only (suc place) u at P p = absurd (some-ne-none u (sym at))

  -- the items of no run are those of any
  of_first : (run : R) (count : ℕ) (xs : List C) → AreInRun slot_of run_of Lives (run_of_first run count) xs →
      AreInRun slot_of run_of Lives (Some run) xs
  of_first run zero [] are = tt
  of_first run zero (x ∷ xs) are = absurd (true≢false (sym (ap is_some are.0.same)))
  of_first run (suc count) xs are = are

  -- a change of one view: the sums move with it, and what held of each view holds of all again
  pub enters : (n pass : ℕ) (v : Hand R) (c : C) → v ≡ filled (run_of c) (slot_of c) → Lives c →
      Pushes Kept n pass v c (Enters slot_of run_of Lives v c)
  enters n pass v c is lives items views _ kept at =
      let w : Hand R = hand v.parts (Some (run_of c)) (v.count + 1) v.holds in
      let all_parts : v.parts ≡ 1024 = ap (λ u. u.parts) is in
      let same = kept.know pass v at (omega (arith, all_parts)) in
      let count_is : v.count ≡ slot_of c = ap (λ u. u.count) is in
      let none_else : (other : ℕ) (u : Hand R) → other ≢ pass → get_elem? views other ≡ some u → u.parts ≡ 0 =
      (λ other u apart at'. omega (
        arith,
        all_parts,
        kept.parts,
        two_within (λ x. x.parts) views pass other v u (λ e. apart (sym e)) at at',
      )) in
      let was : AreInRun slot_of run_of Lives (run_of_first (run_of c) (slot_of c)) items =
      subst (λ o. AreInRun slot_of run_of Lives o items) (sym same.0 ∙ ap (λ u. u.run) is) kept.in_run in (
        w,
        record {
          run = Some (run_of c);
          count = v.count + 1;
          parts = omega (arith, total_set (λ u. u.parts) views pass v w at, kept.parts);
          know = λ j u at' some_part. ⊎_elim (λ (x : (j ≡ pass) × (w ≡ u)). (ap (λ y. y.run) (sym x.1), ap (λ y. y.count) (sym x.1)))
              (λ (x : (j ≢ pass) × (get_elem? views j ≡ some u)). absurd (omega (arith, none_else j u x.0 x.1, some_part))) (at_set views pass j w u at');
          idle = λ j u at' no_part. ⊎_elim (λ (x : (j ≡ pass) × (w ≡ u)). ap (λ y. y.holds) (sym x.1) ∙ ap (λ y. y.holds) is)
              (λ (x : (j ≢ pass) × (get_elem? views j ≡ some u)). kept.idle j u x.1 no_part) (at_set views pass j w u at');
          once = λ slot. omega (
            arith,
            slots_append slot items c,
            total_set (λ u. times slot u.holds) views pass v w at,
            kept.once slot,
            ap (λ k. once_below k slot) same.1,
            ap (λ k. times slot (k ∷ [])) count_is,
            once_next v.count slot,
          );
          all = omega (arith, length-append items (c ∷ []), total_set (λ u. length u.holds) views pass v w at, kept.all, same.1);
          in_run = in_run_append (Some (run_of c)) items c (of_first (run_of c) (slot_of c) items was) (record { same = refl; lives = lives });
        },
        refl,
      )

  pub leaves : (pass : ℕ) (v : Hand R) → 0 < v.parts → Pops Kept pass v (Leaves slot_of run_of Lives v)
  leaves pass v some_part c items views kept at =
      let w : Hand R = hand v.parts v.run v.count (slot_of c ∷ v.holds) in
      let same = kept.know pass v at some_part in (
        w,
        record {
          run = kept.run;
          count = kept.count;
          parts = omega (arith, total_set (λ u. u.parts) views pass v w at, kept.parts);
          know = λ j u at' part. ⊎_elim (λ (x : (j ≡ pass) × (w ≡ u)). (ap (λ y. y.run) (sym x.1) ∙ same.0, ap (λ y. y.count) (sym x.1) ∙ same.1))
              (λ (x : (j ≢ pass) × (get_elem? views j ≡ some u)). kept.know j u x.1 part) (at_set views pass j w u at');
          idle = λ j u at' no_part. ⊎_elim (λ (x : (j ≡ pass) × (w ≡ u)). absurd (omega (arith, ap (λ y. y.parts) x.1)))
              (λ (x : (j ≢ pass) × (get_elem? views j ≡ some u)). kept.idle j u x.1 no_part) (at_set views pass j w u at');
          once = λ slot. omega (arith, total_set (λ u. times slot u.holds) views pass v w at, kept.once slot);
          all = omega (arith, total_set (λ u. length u.holds) views pass v w at, kept.all);
          in_run = kept.in_run.1;
        },
        (
          refl,
          subst (λ o. IsInRun slot_of run_of Lives o c) (sym same.0) kept.in_run.0,
          omega (arith, one_within (λ u. length u.holds) views pass v at, kept.all, same.1),
        ),
      )

  pub returns : (n pass : ℕ) (v : Hand R) (c : C) → 0 < v.parts → 0 < times (slot_of c) v.holds →
      IsInRun slot_of run_of Lives v.run c → Pushes Kept n pass v c (Returns slot_of run_of Lives v c)
  returns n pass v c some_part holds is items views _ kept at =
      let w : Hand R = hand v.parts v.run v.count (without (slot_of c) v.holds) in
      let same = kept.know pass v at some_part in (
        w,
        record {
          run = kept.run;
          count = kept.count;
          parts = omega (arith, total_set (λ u. u.parts) views pass v w at, kept.parts);
          know = λ j u at' part. ⊎_elim (λ (x : (j ≡ pass) × (w ≡ u)). (ap (λ y. y.run) (sym x.1) ∙ same.0, ap (λ y. y.count) (sym x.1) ∙ same.1))
              (λ (x : (j ≢ pass) × (get_elem? views j ≡ some u)). kept.know j u x.1 part) (at_set views pass j w u at');
          idle = λ j u at' no_part. ⊎_elim (λ (x : (j ≡ pass) × (w ≡ u)). absurd (omega (arith, ap (λ y. y.parts) x.1)))
              (λ (x : (j ≢ pass) × (get_elem? views j ≡ some u)). kept.idle j u x.1 no_part) (at_set views pass j w u at');
          once = λ slot. omega (
            arith,
            slots_append slot items c,
            total_set (λ u. times slot u.holds) views pass v w at,
            kept.once slot,
            times_without (slot_of c) slot v.holds holds,
          );
          all = omega (
            arith,
            length-append items (c ∷ []),
            total_set (λ u. length u.holds) views pass v w at,
            kept.all,
            length_without (slot_of c) v.holds holds,
          );
          in_run = in_run_append kept.run items c kept.in_run (subst (λ o. IsInRun slot_of run_of Lives o c) same.0 is);
        },
        refl,
      )

  pub forks : (pass : ℕ) (v : Hand R) → 1 < v.parts → Forks Kept pass v (kept_part v) (other_parts v)
  forks pass v parts items views kept at =
      let left : Hand R = kept_part v in
      let right : Hand R = other_parts v in
      let vs : List (Hand R) = set views pass left in
      let same = kept.know pass v at (omega arith) in record {
        run = kept.run;
        count = kept.count;
        parts = omega (arith, total_append (λ u. u.parts) vs right, total_set (λ u. u.parts) views pass v left at, kept.parts);
        know = λ j u at' part. ⊎_elim
            (λ (x : get_elem? vs j ≡ some u). ⊎_elim (λ (y : (j ≡ pass) × (left ≡ u)). (ap (λ z. z.run) (sym y.1) ∙ same.0, ap (λ z. z.count) (sym y.1) ∙ same.1))
            (λ (y : (j ≢ pass) × (get_elem? views j ≡ some u)). kept.know j u y.1 part) (at_set views pass j left u x))
            (λ (x : right ≡ u). (ap (λ z. z.run) (sym x) ∙ same.0, ap (λ z. z.count) (sym x) ∙ same.1)) (at_snoc vs right u j at');
        idle = λ j u at' no_part. ⊎_elim
            (λ (x : get_elem? vs j ≡ some u). ⊎_elim (λ (y : (j ≡ pass) × (left ≡ u)). absurd (omega (arith, ap (λ z. z.parts) y.1)))
            (λ (y : (j ≢ pass) × (get_elem? views j ≡ some u)). kept.idle j u y.1 no_part) (at_set views pass j left u x))
            (λ (x : right ≡ u). ap (λ z. z.holds) (sym x)) (at_snoc vs right u j at');
        once = λ slot. omega (arith, total_append (λ u. times slot u.holds) vs right, total_set (λ u. times slot u.holds) views pass v left at, kept.once slot);
        all = omega (arith, total_append (λ u. length u.holds) vs right, total_set (λ u. length u.holds) views pass v left at, kept.all);
        in_run = kept.in_run;
      }

  pub merges : (pass : ℕ) (v : Hand R) (other : ℕ) (w : Hand R) → 0 < v.parts → Merges Kept pass v other w (both v w) spent
  merges pass v other w some_part items views kept at apart at' =
      let all : Hand R = both v w in
      let no : Hand R = spent in
      let vs : List (Hand R) = set views pass all in
      let same = kept.know pass v at some_part in record {
        run = kept.run;
        count = kept.count;
        parts = omega (arith, total_set (λ u. u.parts) vs other w no at', total_set (λ u. u.parts) views pass v all at, kept.parts);
        know = λ j u there part. ⊎_elim (λ (x : (j ≡ other) × (no ≡ u)). absurd (omega (arith, ap (λ z. z.parts) x.1, part)))
            (λ (x : (j ≢ other) × (get_elem? vs j ≡ some u)). ⊎_elim (λ (y : (j ≡ pass) × (all ≡ u)). (ap (λ z. z.run) (sym y.1) ∙ same.0, ap (λ z. z.count) (sym y.1) ∙ same.1))
            (λ (y : (j ≢ pass) × (get_elem? views j ≡ some u)). kept.know j u y.1 part) (at_set views pass j all u x.1)) (at_set vs other j no u there);
        idle = λ j u there no_part. ⊎_elim (λ (x : (j ≡ other) × (no ≡ u)). ap (λ z. z.holds) (sym x.1))
            (λ (x : (j ≢ other) × (get_elem? vs j ≡ some u)). ⊎_elim (λ (y : (j ≡ pass) × (all ≡ u)). absurd (omega (arith, ap (λ z. z.parts) y.1)))
            (λ (y : (j ≢ pass) × (get_elem? views j ≡ some u)). kept.idle j u y.1 no_part) (at_set views pass j all u x.1)) (at_set vs other j no u there);
        once = λ slot. omega (
          arith,
          total_set (λ u. times slot u.holds) vs other w no at',
          total_set (λ u. times slot u.holds) views pass v all at,
          kept.once slot,
          times_append slot v.holds w.holds,
        );
        all = omega (
          arith,
          total_set (λ u. length u.holds) vs other w no at',
          total_set (λ u. length u.holds) views pass v all at,
          kept.all,
          length-append v.holds w.holds,
        );
        in_run = kept.in_run;
      }

  pub few : (pass : ℕ) (v : Hand R) → 0 < v.parts → Learns Kept pass v (AreFew slot_of run_of Lives v)
  few pass v some_part items views kept at =
      omega (arith, (kept.know pass v at some_part).1, kept.all, one_within (λ u. length u.holds) views pass v at)

  pub all_with : (pass : ℕ) (v : Hand R) → Learns Kept pass v (AreAll slot_of run_of Lives v)
  all_with pass v items views kept at parts =
      let same = kept.know pass v at (omega (arith, parts)) in
      let none : (other : ℕ) (u : Hand R) → other ≢ pass → get_elem? views other ≡ some u → u.holds ≡ [] =
      (λ other u apart at'. kept.idle other u at' (omega (
        arith,
        parts,
        kept.parts,
        two_within (λ x. x.parts) views pass other v u (λ e. apart (sym e)) at at',
      ))) in (
        (λ slot. omega (
          arith,
          alone (λ u. times slot u.holds) views pass v at (λ other u apart at'. ap (times slot) (none other u apart at')),
          kept.once slot,
          ap (λ k. once_below k slot) same.1,
        )),
        omega (arith, alone (λ u. length u.holds) views pass v at (λ other u apart at'. ap length (none other u apart at')), kept.all, same.1),
      )

  pub begins : Kept [] (first_hand ∷ [])
  begins = record {
    run = None;
    count = 0;
    parts = refl;
    know = λ j u at part. only j u at (λ x. (x.run ≡ None) × (x.count ≡ 0)) (refl, refl);
    idle = λ j u at no_part. only j u at (λ x. x.holds ≡ []) refl;
    once = λ slot. grind (arith, nat_tests);
    all = refl;
    in_run = tt;
  }
