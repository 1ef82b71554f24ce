-- What a history owes the slots, after one more entry.
use Rattle.std.proofs.Common.{◌≡◌, ◌∙◌, ℕ, suc, ◌+◌, ◌<◌, ◌≤◌, ◌^◌, Bool, true, false, cond, ◌||◌, nat_eq, ◌≤ℤ◌, ℤ, Option, Some, None, refl, sym, ap, subst, arith}
use Rattle.std.proofs.lemmas.Bool.{ne_eqb}
use Rattle.ip_core.specs.declared.model.ModelParts.{ModelParts}
use Rattle.work_stamp.specs.declared.entry.Entry.{Entry}
use Rattle.work_stamp.specs.declared.entry.Entry.TheVariants.{Split}
use Rattle.node_pool.specs.Laws.{AreKnown, HasCutsOf}
use Rattle.node_pool.specs.Lemmas.Cuts.{more_cuts}
use Rattle.node_pool.specs.Views.{View, is_known}
use Rattle.task_steps.specs.Claims.{Claim, HasHold, Held, IsOwed, Meets, claims_with, count_left, count_name}
use Rattle.task_steps.specs.Fits.{FitsView}
use Rattle.task_steps.specs.Sound.{IsSound}
use Rattle.task_steps.specs.Tasks.{child_name}
use Rattle.task_steps.specs.declared.answer.Best.{Best}
use Rattle.task_steps.specs.Lemmas.Entries.{IsNext, adds_cut, gone, makes}
use Rattle.task_steps.specs.Lemmas.Fitting.{held_known}
use Rattle.task_steps.specs.Lemmas.NameCounts.{among_counts, counts_among, eq_from_test, ne_from_test}

-- neither of two children's names is one of two others
pub record AreApart (first name : ℕ) : Type 0 where
  pub one_one : first ≡ name → ⊥
  pub two_one : first + 1 ≡ name → ⊥
  pub one_two : first ≡ name + 1 → ⊥
  pub two_two : first + 1 ≡ name + 1 → ⊥

-- of two slots
pub apart_by_slot : (i j a b : ℕ) → (i ≡ j → ⊥) → a ≤ 2 ^ 37 → b ≤ 2 ^ 37
    → AreApart (child_name i a) (child_name j b)
apart_by_slot i j a b apart first second = record {
  one_one = λ e. omega arith;
  two_one = λ e. omega arith;
  one_two = λ e. omega arith;
  two_two = λ e. omega arith;
}

-- of one slot
pub apart_by_ordinal : (i a b : ℕ) → a < b → AreApart (child_name i a) (child_name i b)
apart_by_ordinal i a b less = record {
  one_one = λ e. omega arith;
  two_one = λ e. omega arith;
  one_two = λ e. omega arith;
  two_two = λ e. omega arith;
}

-- an entry makes neither a name nor the next one
pub record MakesNeither (e : Entry) (name : ℕ) : Type 0 where
  pub one : makes e name ≡ false
  pub two : makes e (name + 1) ≡ false

pub quiet : (e : Entry) → ((name : ℕ) → makes e name ≡ false) → (name : ℕ) → MakesNeither e name
quiet e none name = record { one = none name; two = none (name + 1) }

neither_test : (a b : Bool) → a ≡ false → b ≡ false → (a || b) ≡ false
neither_test a b first second = rw (first, second) refl

pub split_makes_neither : (node col : ℕ) (at : ℤ) (first keep : ℕ) (bound : ℤ) (name : ℕ)
    → AreApart first name → MakesNeither (Split node col at first keep bound) name
split_makes_neither node col at first keep bound name apart = record {
  one = neither_test _ _ (ne_eqb first name apart.one_one) (ne_eqb (first + 1) name apart.two_one);
  two = neither_test _ _ (ne_eqb first (name + 1) apart.one_two)
      (ne_eqb (first + 1) (name + 1) apart.two_two);
}

still_new : (m : ModelParts) (v w : View) (e : Entry) (name : ℕ) → IsNext m v w e
    → is_known v name ≡ false → makes e name ≡ false → is_known w name ≡ false
still_new m v w e name next new none =
    next.names name ∙ ap (λ (b : Bool). b || makes e name) new ∙ none

-- a claim that goes on
pub owed_next : (m : ModelParts) (v w : View) (e : Entry) (slot : ℕ) (c d : Claim)
    → IsNext m v w e → IsOwed m v slot c → HasHold m w d.hold → w.cutoff ≤ℤ d.cutoff
    → c.splits ≤ d.splits → d.splits ≤ suc v.entries → HasCutsOf d.cuts w.cuts
    → (d.adds ≡ true → w.cuts ≡ d.cuts) → (d.adds ≡ true → 1 ≤ w.cut_starts)
    → ((k : ℕ) → d.splits < k → k ≤ 2 ^ 37 → MakesNeither e (child_name slot k))
    → IsOwed m w slot d
owed_next m v w e slot c d next owed held below risen few front alone begun neither =
    let counted = next.counted in
    record {
      held = held;
      cutoff = below;
      few = omega (arith, counted, few);
      cuts = front;
      alone = alone;
      begun = begun;
      first_new = λ k above most. still_new m v w e (child_name slot k) next
          (owed.first_new k (omega arith) most) (neither k above most).one;
      second_new = λ k above most. still_new m v w e (child_name slot k + 1) next
          (owed.second_new k (omega arith) most) (neither k above most).two;
    }

-- cuts that stand in front go on to do so
pub still_front : (m : ModelParts) (v w : View) (e : Entry) (slot : ℕ) (c : Claim) → IsNext m v w e
    → IsOwed m v slot c → HasCutsOf c.cuts w.cuts
still_front m v w e slot c next owed = more_cuts c.cuts v.cuts w.cuts owed.cuts next.cuts

-- and where no cut is added, a slot that adds cuts goes on to have all of them
pub still_alone : (m : ModelParts) (v w : View) (e : Entry) (slot : ℕ) (c : Claim) → IsNext m v w e
    → adds_cut e ≡ false → IsOwed m v slot c → c.adds ≡ true → w.cuts ≡ c.cuts
still_alone m v w e slot c next none owed adds = next.same_cuts none ∙ owed.alone adds

pub still_begun : (m : ModelParts) (v w : View) (e : Entry) (slot : ℕ) (c : Claim) → IsNext m v w e
    → IsOwed m v slot c → c.adds ≡ true → 1 ≤ w.cut_starts
still_begun m v w e slot c next owed adds =
    let more = next.cut_starts in
    let some = owed.begun adds in
    omega arith

-- what is held stays held, where the entry isn't done with it
pub still_held : (m : ModelParts) (v w : View) (e : Entry) (o : Option Held) → IsNext m v w e
    → AreKnown v → HasHold m v o → ((b : Held) → o ≡ Some b → gone e b.name ≡ 0) → HasHold m w o
still_held m v w e None next known held still = tt
still_held m v w e (Some b) next known held still =
    let before = among_counts b.name v.held_nodes held.held.among in
    let after : 1 ≤ count_name b.name w.held_nodes =
    omega (arith, next.held b.name, before, still b refl) in
    record {
      held = record { among = counts_among b.name w.held_nodes after };
      boxed = next.boxes b.name (held_known v b.name known held.held) ∙ held.boxed;
    }

-- the claims of all slots

owed_cases : (m : ModelParts) (w : View) (slot j : ℕ) (c d : Claim) (b : Bool) → nat_eq j slot ≡ b
    → IsOwed m w slot d → ((j ≡ slot → ⊥) → IsOwed m w j c) → IsOwed m w j (cond b d c)
owed_cases m w slot j c d true is own others =
    subst (λ (i : ℕ). IsOwed m w i d) (sym (eq_from_test j slot is)) own
owed_cases m w slot j c d false is own others = others (ne_from_test j slot is)

apart_cases : (slot i j : ℕ) (x y d : Claim) (s t : Bool) → nat_eq i slot ≡ s → nat_eq j slot ≡ t
    → (a b : Held)
    → ((j ≡ slot → ⊥) → d.hold ≡ Some a → y.hold ≡ Some b → a.name ≡ b.name → ⊥)
    → ((i ≡ slot → ⊥) → d.hold ≡ Some b → x.hold ≡ Some a → b.name ≡ a.name → ⊥)
    → (x.hold ≡ Some a → y.hold ≡ Some b → a.name ≡ b.name → i ≡ j)
    → (cond s d x).hold ≡ Some a → (cond t d y).hold ≡ Some b → a.name ≡ b.name → i ≡ j
apart_cases slot i j x y d true true first second a b one other old left right same =
    eq_from_test i slot first ∙ sym (eq_from_test j slot second)
apart_cases slot i j x y d true false first second a b one other old left right same =
    absurd (one (ne_from_test j slot second) left right same)
apart_cases slot i j x y d false true first second a b one other old left right same =
    absurd (other (ne_from_test i slot first) right left (sym same))
apart_cases slot i j x y d false false first second a b one other old left right same =
    old left right same

adding_cases : (slot i j : ℕ) (x y d : Claim) (s t : Bool) → nat_eq i slot ≡ s → nat_eq j slot ≡ t
    → ((j ≡ slot → ⊥) → d.adds ≡ true → y.adds ≡ true → ⊥)
    → ((i ≡ slot → ⊥) → d.adds ≡ true → x.adds ≡ true → ⊥)
    → (x.adds ≡ true → y.adds ≡ true → i ≡ j)
    → (cond s d x).adds ≡ true → (cond t d y).adds ≡ true → i ≡ j
adding_cases slot i j x y d true true first second one other old left right =
    eq_from_test i slot first ∙ sym (eq_from_test j slot second)
adding_cases slot i j x y d true false first second one other old left right =
    absurd (one (ne_from_test j slot second) left right)
adding_cases slot i j x y d false true first second one other old left right =
    absurd (other (ne_from_test i slot first) right left)
adding_cases slot i j x y d false false first second one other old left right = old left right

-- a history that meets the claims after the claim of one slot changed
pub meets_next : (m : ModelParts) (v w : View) (best better : Option Best) (slot : ℕ)
    (claims : ℕ → Claim) (d : Claim) → Meets m v best claims → FitsView m w → IsSound m w better
    → ((name : ℕ) → count_left w name ≤ 1) → IsOwed m w slot d
    → ((j : ℕ) → (j ≡ slot → ⊥) → IsOwed m w j (claims j))
    → ((j : ℕ) (a b : Held) → (j ≡ slot → ⊥) → d.hold ≡ Some a → (claims j).hold ≡ Some b
    → a.name ≡ b.name → ⊥)
    → ((j : ℕ) → (j ≡ slot → ⊥) → d.adds ≡ true → (claims j).adds ≡ true → ⊥)
    → Meets m w better (claims_with claims slot d)
meets_next m v w best better slot claims d meets fits sound once own others apart adding = record {
  fits = fits;
  sound = sound;
  once = once;
  owed = λ j. owed_cases m w slot j (claims j) d (nat_eq j slot) refl own (others j);
  apart = λ i j a b left right same. apart_cases slot i j (claims i) (claims j) d (nat_eq i slot)
      (nat_eq j slot) refl refl a b (λ other. apart j a b other) (λ other. apart i b a other)
      (meets.apart i j a b) left right same;
  adding = λ i j left right. adding_cases slot i j (claims i) (claims j) d (nat_eq i slot)
      (nat_eq j slot) refl refl (λ other. adding j other) (λ other. adding i other)
      (meets.adding i j) left right;
}
