-- A history that meets all claims meets them after an entry that is due.
use Rattle.std.proofs.Common.{◌≡◌, ◌∙◌, ℕ, zero, suc, ◌+◌, ◌<◌, ◌≤◌, ◌^◌, Bool, true, false, nat_eq, List, [], ◌∷◌, ◌++◌, ℤ, ◌≤ℤ◌, Option, Some, None, refl, sym, ap, subst, arith}
use Rattle.std.proofs.lemmas.Bool.{false≢true, ne_eqb}
use Rattle.std.proofs.lemmas.Int.{ints, clamps}
use Rattle.std.proofs.lemmas.Option.{none-some, same_Some}
use Rattle.ip_core.specs.Models.{IsModel}
use Rattle.ip_core.specs.Sides.{Sides}
use Rattle.ip_core.specs.declared.model.ModelParts.{ModelParts}
use Rattle.ip_core.specs.declared.row.Row.{Row}
use Rattle.ip_core.specs.declared.derivation.Derivation.{Derivation}
use Rattle.cut_derive.specs.Derivations.{derived_row}
use Rattle.search_truth.specs.Boxes.{IsClosed, high_child, low_child}
use Rattle.work_stamp.specs.declared.entry.Entry.{Entry}
use Rattle.work_stamp.specs.declared.entry.Entry.TheVariants.{Start, CutStart, HeurStart, Done, Found, Cut, Split, Closed, Halt}
use Rattle.node_pool.specs.Branchings.{box_of}
use Rattle.node_pool.specs.Follows.{IsHeld, IsOpen, IsValued, MayFollow}
use Rattle.node_pool.specs.Laws.{HasCutsOf}
use Rattle.node_pool.specs.Lemmas.Boxes.{boxes_are_parts}
use Rattle.node_pool.specs.Lemmas.Cuts.{same_cuts}
use Rattle.node_pool.specs.Nodes.{without_name}
use Rattle.node_pool.specs.Views.{View, after_entry, is_known, with_row}
use Rattle.task_steps.specs.Answers.{best_after}
use Rattle.task_steps.specs.Claims.{Claim, HasHeld, HasHold, Held, Holds, IsCutNow, IsDone, IsOwed, IsSplitNow, Meets, claim_after, claims_with, count_left, count_name, child_held, hold_after_split, one_if}
use Rattle.task_steps.specs.Keeps.{keep_of}
use Rattle.task_steps.specs.Tasks.{child_name, next_ordinal}
use Rattle.task_steps.specs.declared.answer.Best.{Best}
use Rattle.task_steps.specs.declared.keep.Keep.{Keep}
use Rattle.task_steps.specs.declared.keep.Keep.TheVariants.{Low, High, Neither}
use Rattle.task_steps.specs.Lemmas.Entries.{IsNext, adds_cut, gone, made, next_of}
use Rattle.task_steps.specs.Lemmas.Fitting.{held_known, left_known, view_fits}
use Rattle.task_steps.specs.Lemmas.NameCounts.{among_counts, count_last, counts_among, eq_from_test, one_false, one_true, open_taken, test_itself}
use Rattle.task_steps.specs.Lemmas.Owing.{AreApart, MakesNeither, apart_by_ordinal, apart_by_slot, meets_next, owed_next, quiet, split_makes_neither, still_alone, still_begun, still_front, still_held}
use Rattle.task_steps.specs.Lemmas.Sounds.{closed_sound, found_sound, sound_next, split_sound}

le_both : (a b c : ℤ) → a ≤ℤ b → b ≤ℤ c → a ≤ℤ c
le_both a b c first second = omega (arith, ints)

no_one : (n : ℕ) → n ≡ 0 → 1 ≤ n → ⊥
no_one n none some = omega (arith, none, some)

-- what a claim holds, in the view

pub held_box : (m : ModelParts) (v : View) (c : Claim) (name : ℕ) (holds : Holds c name)
    → HasHold m v c.hold → box_of m.root v.branches name ≡ holds.node.bounds
held_box m v c name holds held =
    let has : HasHeld m v holds.node = subst (HasHold m v) holds.is held in
    subst (λ (n : ℕ). box_of m.root v.branches n ≡ holds.node.bounds) holds.named has.boxed

pub held_is : (m : ModelParts) (v : View) (c : Claim) (name : ℕ) (holds : Holds c name)
    → HasHold m v c.hold → IsHeld v name
held_is m v c name holds held =
    let has : HasHeld m v holds.node = subst (HasHold m v) holds.is held in
    subst (λ (n : ℕ). IsHeld v n) holds.named has.held

-- two new names that no claim holds

pub new_apart : (v : View) (a b : ℕ) → is_known v a ≡ false → is_known v b ≡ true → a ≡ b → ⊥
new_apart v a b new known same =
    false≢true (sym new ∙ ap (λ (n : ℕ). is_known v n) same ∙ known)

not_both : (b c : Bool) → (b ≡ true → c ≡ false) → one_if b + one_if c ≤ 1
not_both true true apart = absurd (false≢true (sym (apart refl)))
not_both true false apart = omega arith
not_both false true apart = omega arith
not_both false false apart = omega arith

next_differs : (first name : ℕ) → nat_eq first name ≡ true → nat_eq (first + 1) name ≡ false
next_differs first name h =
    let same = eq_from_test first name h in ne_eqb (first + 1) name (λ e. omega arith)

once_next : (m : ModelParts) (v w : View) (e : Entry) (name : ℕ) → IsNext m v w e
    → made e name ≡ 0 → count_left v name ≤ 1 → count_left w name ≤ 1
once_next m v w e name next none once = omega (arith, next.left name, none, once)

no_left : (v : View) (name n : ℕ) → count_left v name ≡ n → (1 ≤ n → ⊥) → count_left v name ≡ 0
no_left v name zero is never = is
no_left v name (suc n) is never = absurd (never (omega arith))

once_new : (m : ModelParts) (v w : View) (e : Entry) (name : ℕ) → IsNext m v w e
    → made e name ≤ 1 → count_left v name ≡ 0 → count_left w name ≤ 1
once_new m v w e name next few none = omega (arith, next.left name, few, none)

split_once : (m : ModelParts) (v : View) (node col : ℕ) (at : ℤ) (first keep : ℕ) (bound : ℤ)
    (best : Option Best) (claims : ℕ → Claim) (name : ℕ) (b : Bool) → is_known v name ≡ b
    → Meets m v best claims → MayFollow m v (Split node col at first keep bound)
    → count_left (after_entry m v (Split node col at first keep bound)) name ≤ 1
split_once m v node col at first keep bound best claims name true is meets follows =
    let e = Split node col at first keep bound in
    let one = one_false (nat_eq first name)
    (ne_eqb first name (new_apart v first name follows.joins.first_new is)) in
    let two = one_false (nat_eq (first + 1) name)
    (ne_eqb (first + 1) name (new_apart v (first + 1) name follows.joins.second_new is)) in
    once_next m v (after_entry m v e) e name (next_of m v e follows) (omega (arith, one, two))
    (meets.once name)
split_once m v node col at first keep bound best claims name false is meets follows =
    let e = Split node col at first keep bound in
    once_new m v (after_entry m v e) e name (next_of m v e follows)
    (not_both (nat_eq first name) (nat_eq (first + 1) name) (next_differs first name))
    (no_left v name (count_left v name) refl
    (λ some. false≢true (sym is ∙ left_known v name meets.fits.known some)))

-- the child that is kept

kept_has : (m : ModelParts) (v : View) (node col : ℕ) (at : ℤ) (first keep : ℕ) (bound : ℤ)
    (h : Held) → box_of m.root v.branches node ≡ h.bounds
    → HasHold m (after_entry m v (Split node col at first keep bound))
    (child_held h col at first (keep_of keep))
kept_has m v node col at first zero bound h same = record {
  held = record {
    among = counts_among first (without_name node v.held_nodes ++ first ∷ [])
        (omega (
          arith,
          count_last first first (without_name node v.held_nodes),
          one_true (nat_eq first first) (test_itself first),
        ));
  };
  boxed = boxes_are_parts.low m v m.root node col at first 0 bound
      ∙ ap (λ (s : Sides). low_child s col at) same;
}
kept_has m v node col at first (suc zero) bound h same = record {
  held = record {
    among = counts_among (first + 1) (without_name node v.held_nodes ++ (first + 1) ∷ [])
        (omega (
          arith,
          count_last (first + 1) (first + 1) (without_name node v.held_nodes),
          one_true (nat_eq (first + 1) (first + 1)) (test_itself (first + 1)),
        ));
  };
  boxed = boxes_are_parts.high m v m.root node col at first 1 bound
      ∙ ap (λ (s : Sides). high_child s col at) same;
}
kept_has m v node col at first (suc (suc more)) bound h same = tt

kept_new : (v : View) (h : Held) (col : ℕ) (at : ℤ) (first : ℕ) (keep : Keep) (a : Held)
    → is_known v first ≡ false → is_known v (first + 1) ≡ false
    → child_held h col at first keep ≡ Some a → is_known v a.name ≡ false
kept_new v h col at first Low a one two is =
    subst (λ (n : Held). is_known v n.name ≡ false) (same_Some _ a is) one
kept_new v h col at first High a one two is =
    subst (λ (n : Held). is_known v n.name ≡ false) (same_Some _ a is) two
kept_new v h col at first Neither a one two is = absurd (none-some a is)

-- the claim of a slot that takes a node
abbrev pub claim_on : ModelParts → View → Claim → ℕ → Claim
claim_on m v c node = record c {
  hold = Some (record { name = node; bounds = box_of m.root v.branches node });
  cutoff = v.cutoff;
  cuts = v.cuts;
  adds = false;
}

-- the claim of a slot that dives
abbrev pub claim_for_dive : View → Claim → Claim
claim_for_dive v c = record c { hold = None; cuts = v.cuts; adds = false }

-- the claim of a slot that looks for cuts
abbrev pub claim_for_cuts : View → Claim → Claim
claim_for_cuts v c = record c { hold = None; cuts = v.cuts; adds = true }

module _ (m : ModelParts) (v : View) (best : Option Best) (slot : ℕ) (claims : ℕ → Claim)
    (valid : IsModel m) (meets : Meets m v best claims) where
  -- the other slots' claims go on where their nodes stay held
  others_next : (w : View) (e : Entry) (j : ℕ) → IsNext m v w e
      → ((claims j).adds ≡ true → w.cuts ≡ (claims j).cuts)
      → ((b : Held) → (claims j).hold ≡ Some b → gone e b.name ≡ 0)
      → ((k : ℕ) → k ≤ 2 ^ 37 → MakesNeither e (child_name j k)) → IsOwed m w j (claims j)
  others_next w e j next alone still neither =
      let owed = meets.owed j in
      let few = owed.few in
      owed_next m v w e j (claims j) (claims j) next owed
      (still_held m v w e (claims j).hold next meets.fits.known owed.held still)
      (le_both w.cutoff v.cutoff (claims j).cutoff next.falls owed.cutoff)
      (omega arith) (omega (arith, few)) (still_front m v w e j (claims j) next owed) alone
      (still_begun m v w e j (claims j) next owed) (λ k above most. neither k most)

  quietly : (w : View) (e : Entry) (j : ℕ) → IsNext m v w e → adds_cut e ≡ false
      → (claims j).adds ≡ true → w.cuts ≡ (claims j).cuts
  quietly w e j next none adds =
      still_alone m v w e j (claims j) next none (meets.owed j) adds

  same_adds : (j : ℕ) → (j ≡ slot → ⊥) → (claims slot).adds ≡ true → (claims j).adds ≡ true → ⊥
  same_adds j other own their = other (sym (meets.adding slot j own their))

  same_claims : (j : ℕ) (a b : Held) → (j ≡ slot → ⊥) → (claims slot).hold ≡ Some a
      → (claims j).hold ≡ Some b → a.name ≡ b.name → ⊥
  same_claims j a b other left right same = other (sym (meets.apart slot j a b left right same))

  pub joined_done : MayFollow m v Done → Meets m (after_entry m v Done) best
      (claims_with claims slot (claim_after m (claims slot) Done))
  joined_done follows =
      let w = after_entry m v Done in
      let next : IsNext m v w Done = next_of m v Done follows in
      let owed = meets.owed slot in
      let few = owed.few in
      let d = claim_after m (claims slot) Done in
      meets_next m v w best best slot claims d meets
      (view_fits m v Done meets.fits follows)
      (sound_next m v w Done best next meets.fits.known refl meets.sound
      (λ name some. absurd (no_one (gone Done name) refl some)))
      (λ name. once_next m v w Done name next refl (meets.once name))
      (owed_next m v w Done slot (claims slot) d next owed
      (still_held m v w Done (claims slot).hold next meets.fits.known owed.held (λ b is. refl))
      (le_both w.cutoff v.cutoff (claims slot).cutoff next.falls owed.cutoff) (omega arith)
      (omega (arith, few)) (still_front m v w Done slot (claims slot) next owed)
      (λ adds. absurd (false≢true adds)) (λ adds. absurd (false≢true adds))
      (λ k above most. quiet Done (λ n. refl) _))
      (λ j other. others_next w Done j next
      (quietly w Done j next refl) (λ b is. refl) (λ k most. quiet Done (λ n. refl) _))
      same_claims (λ j other own their. false≢true own)

  -- a point is found
  pub joined_found : (value : ℤ) (point : List ℤ) → IsValued m value point
      → MayFollow m v (Found value point)
      → Meets m (after_entry m v (Found value point)) (best_after best (Found value point))
      (claims_with claims slot (claim_after m (claims slot) (Found value point)))
  joined_found value point valued follows =
      let e = Found value point in
      let w = after_entry m v e in
      let next : IsNext m v w e = next_of m v e follows in
      let owed = meets.owed slot in
      let few = owed.few in
      meets_next m v w best (best_after best e) slot claims (claim_after m (claims slot) e) meets
      (view_fits m v e meets.fits follows)
      (found_sound m v value point best valid meets.sound valued)
      (λ name. once_next m v w e name next refl (meets.once name))
      (owed_next m v w e slot (claims slot) (claim_after m (claims slot) e) next owed
      (still_held m v w e (claims slot).hold next meets.fits.known owed.held (λ b is. refl))
      (omega (arith, ints, clamps)) (omega arith) (omega (arith, few))
      (still_front m v w e slot (claims slot) next owed)
      (still_alone m v w e slot (claims slot) next refl owed)
      (still_begun m v w e slot (claims slot) next owed)
      (λ k above most. quiet e (λ n. refl) _))
      (λ j other. others_next w e j next
      (quietly w e j next refl) (λ b is. refl) (λ k most. quiet e (λ n. refl) _))
      same_claims same_adds

  -- the nodes of others have other names
  others_apart : (name : ℕ) (holds : Holds (claims slot) name) (j : ℕ) (b : Held)
      → (j ≡ slot → ⊥) → (claims j).hold ≡ Some b → one_if (nat_eq name b.name) ≡ 0
  others_apart name holds j b other is =
      one_false (nat_eq name b.name) (ne_eqb name b.name
      (λ same. other (meets.apart j slot b holds.node is holds.is (sym same ∙ sym holds.named))))

  -- what another slot holds is held
  held_of : (j : ℕ) (b : Held) → (claims j).hold ≡ Some b → IsHeld v b.name
  held_of j b is = held_is m v (claims j) b.name (record { node = b; is = is; named = refl })
      (meets.owed j).held

  left_held : (j : ℕ) (b : Held) → (claims j).hold ≡ Some b → is_known v b.name ≡ true
  left_held j b is = held_known v b.name meets.fits.known (held_of j b is)

  -- a node that is open is not held
  open_apart : (node : ℕ) (b : Held) → IsOpen v node → IsHeld v b.name → node ≡ b.name → ⊥
  open_apart node b opened held same =
      let one = open_taken node node opened.node v.open_nodes opened.first in
      let two = subst (λ (n : ℕ). 1 ≤ count_name n v.held_nodes) (sym same)
      (among_counts b.name v.held_nodes held.among) in
      let itself = one_true (nat_eq node node) (test_itself node) in
      omega (arith, one, two, itself, meets.once node)

  -- a held node is closed
  pub joined_closed : (name : ℕ) → IsDone m (claims slot) name → MayFollow m v (Closed name)
      → Meets m (after_entry m v (Closed name)) best
      (claims_with claims slot (claim_after m (claims slot) (Closed name)))
  joined_closed name done follows =
      let e = Closed name in
      let w = after_entry m v e in
      let next : IsNext m v w e = next_of m v e follows in
      let owed = meets.owed slot in
      let few = owed.few in
      let box = held_box m v (claims slot) name done.holds owed.held in
      let closed : IsClosed m v.cutoff (box_of m.root v.branches name) =
      subst (λ (s : Sides). IsClosed m v.cutoff s) (sym box) (record {
        none_below = λ y feasible inside. le_both v.cutoff (claims slot).cutoff _ owed.cutoff
            (done.closed.none_below y feasible inside);
      }) in
      meets_next m v w best best slot claims (claim_after m (claims slot) e) meets
      (view_fits m v e meets.fits follows)
      (closed_sound m v name best follows meets.fits.known meets.sound closed)
      (λ n. once_next m v w e n next refl (meets.once n))
      (owed_next m v w e slot (claims slot) (claim_after m (claims slot) e) next owed tt owed.cutoff
      (omega arith) (omega (arith, few))
      (still_front m v w e slot (claims slot) next owed)
      (still_alone m v w e slot (claims slot) next refl owed)
      (still_begun m v w e slot (claims slot) next owed) (λ k above most. quiet e (λ n. refl) _))
      (λ j other. others_next w e j next
      (quietly w e j next refl) (λ b is. others_apart name done.holds j b other is)
      (λ k most. quiet e (λ n. refl) _))
      (λ j a b other left right same. none-some a left) same_adds

  -- a held node is split
  pub joined_split : (name col : ℕ) (at : ℤ) (first keep : ℕ) (bound : ℤ)
      → IsSplitNow m slot (claims slot) name col at first keep → v.entries < 2 ^ 31
      → MayFollow m v (Split name col at first keep bound)
      → Meets m (after_entry m v (Split name col at first keep bound)) best
      (claims_with claims slot (claim_after m (claims slot) (Split name col at first keep bound)))
  joined_split name col at first keep bound now short follows =
      let e = Split name col at first keep bound in
      let w = after_entry m v e in
      let next : IsNext m v w e = next_of m v e follows in
      let c = claims slot in
      let owed = meets.owed slot in
      let few = owed.few in
      let ordinal = next_ordinal c.splits in
      let node = now.holds.node in
      let d : Claim = record {
        hold = child_held node col at first (keep_of keep);
        cutoff = c.cutoff;
        splits = ordinal;
        cuts = c.cuts;
        adds = c.adds;
      } in
      let same_claim : claim_after m c e ≡ d = ap (λ (o : Option Held). record c {
        hold = hold_after_split o col at first (keep_of keep);
        splits = ordinal;
      }) now.holds.is in
      let most : ordinal ≤ 2 ^ 37 = omega arith in
      let box = held_box m v c name now.holds owed.held in
      let one = follows.joins.first_new in
      let two = follows.joins.second_new in
      let meets_d : Meets m w best (claims_with claims slot d) =
      meets_next m v w best best slot claims d meets
      (view_fits m v e meets.fits follows)
      (split_sound m v name col at first keep bound best follows meets.fits.known meets.sound)
      (λ n. split_once m v name col at first keep bound best claims n (is_known v n) refl meets
      follows)
      (owed_next m v w e slot c d next owed (kept_has m v name col at first keep bound node box)
      (le_both w.cutoff v.cutoff c.cutoff next.falls owed.cutoff)
      (omega arith) (omega (arith, few))
      (still_front m v w e slot (claims slot) next owed)
      (still_alone m v w e slot (claims slot) next refl owed)
      (still_begun m v w e slot (claims slot) next owed)
      (λ k above k_most. split_makes_neither name col at first keep bound (child_name slot k)
      (subst (λ (f : ℕ). AreApart f (child_name slot k)) (sym now.named)
      (apart_by_ordinal slot ordinal k above))))
      (λ j other. others_next w e j next
      (quietly w e j next refl) (λ b is. others_apart name now.holds j b other is)
      (λ k k_most. split_makes_neither name col at first keep bound (child_name j k)
      (subst (λ (f : ℕ). AreApart f (child_name j k)) (sym now.named)
      (apart_by_slot slot j ordinal k (λ same. other (sym same)) most k_most))))
      (λ j a b other left right same. new_apart v a.name b.name
      (kept_new v node col at first (keep_of keep) a one two left)
      (left_held j b right) same) same_adds
      in
      subst (λ (x : Claim). Meets m w best (claims_with claims slot x)) (sym same_claim) meets_d

  -- an open node is taken by a slot
  pub joined_start : (node : ℕ) → MayFollow m v (Start node)
      → Meets m (after_entry m v (Start node)) best
      (claims_with claims slot (claim_on m v (claims slot) node))
  joined_start node follows =
      let e = Start node in
      let w = after_entry m v e in
      let next : IsNext m v w e = next_of m v e follows in
      let d = claim_on m v (claims slot) node in
      let owed = meets.owed slot in
      let few = owed.few in
      let itself = one_true (nat_eq node node) (test_itself node) in
      meets_next m v w best best slot claims d meets
      (view_fits m v e meets.fits follows)
      (sound_next m v w e best next meets.fits.known refl meets.sound
      (λ name some. absurd (no_one (gone e name) refl some)))
      (λ name. once_next m v w e name next refl (meets.once name))
      (owed_next m v w e slot (claims slot) d next owed (record {
        held = record {
          among = counts_among node (v.held_nodes ++ node ∷ [])
              (omega (arith, count_last node node v.held_nodes, itself));
        };
        boxed = refl;
      }) (omega (arith, ints)) (omega arith) (omega (arith, few)) next.cuts
      (λ adds. absurd (false≢true adds)) (λ adds. absurd (false≢true adds))
      (λ k above most. quiet e (λ n. refl) _))
      (λ j other. others_next w e j next
      (quietly w e j next refl) (λ b is. refl) (λ k most. quiet e (λ n. refl) _))
      (λ j a b other left right same. open_apart node b follows.joins (held_of j b right)
      (ap (λ (n : Held). n.name) (same_Some _ a left) ∙ same))
      (λ j other own their. false≢true own)

  -- a slot dives from an open node, which stays open
  pub joined_dive : (node : ℕ) → MayFollow m v (HeurStart node)
      → Meets m (after_entry m v (HeurStart node)) best
      (claims_with claims slot (claim_for_dive v (claims slot)))
  joined_dive node follows =
      let e = HeurStart node in
      let w = after_entry m v e in
      let next : IsNext m v w e = next_of m v e follows in
      let d = claim_for_dive v (claims slot) in
      let owed = meets.owed slot in
      let few = owed.few in
      meets_next m v w best best slot claims d meets
      (view_fits m v e meets.fits follows)
      (sound_next m v w e best next meets.fits.known refl meets.sound
      (λ name some. absurd (no_one (gone e name) refl some)))
      (λ name. once_next m v w e name next refl (meets.once name))
      (owed_next m v w e slot (claims slot) d next owed tt
      (le_both w.cutoff v.cutoff (claims slot).cutoff next.falls owed.cutoff) (omega arith)
      (omega (arith, few)) next.cuts
      (λ adds. absurd (false≢true adds)) (λ adds. absurd (false≢true adds))
      (λ k above most. quiet e (λ n. refl) _))
      (λ j other. others_next w e j next (quietly w e j next refl) (λ b is. refl)
      (λ k most. quiet e (λ n. refl) _))
      (λ j a b other left right same. none-some a left)
      (λ j other own their. false≢true own)

  -- a Halt changes no claim
  pub joined_halt : MayFollow m v Halt → Meets m (after_entry m v Halt) best claims
  joined_halt follows =
      let w = after_entry m v Halt in
      let next : IsNext m v w Halt = next_of m v Halt follows in
      record {
        fits = view_fits m v Halt meets.fits follows;
        sound = sound_next m v w Halt best next meets.fits.known refl meets.sound
            (λ name some. absurd (no_one (gone Halt name) refl some));
        once = λ name. once_next m v w Halt name next refl (meets.once name);
        owed = λ j. others_next w Halt j next
            (quietly w Halt j next refl) (λ b is. refl) (λ k most. quiet Halt (λ n. refl) _);
        apart = meets.apart;
        adding = meets.adding;
      }

  -- a slot begins to look for cuts, where none has
  pub joined_cut_start : v.cut_starts ≡ 0 → MayFollow m v CutStart
      → Meets m (after_entry m v CutStart) best
      (claims_with claims slot (claim_for_cuts v (claims slot)))
  joined_cut_start none follows =
      let e = CutStart in
      let w = after_entry m v e in
      let next : IsNext m v w e = next_of m v e follows in
      let d = claim_for_cuts v (claims slot) in
      let owed = meets.owed slot in
      let few = owed.few in
      meets_next m v w best best slot claims d meets
      (view_fits m v e meets.fits follows)
      (sound_next m v w e best next meets.fits.known refl meets.sound
      (λ name some. absurd (no_one (gone e name) refl some)))
      (λ name. once_next m v w e name next refl (meets.once name))
      (owed_next m v w e slot (claims slot) d next owed tt
      (le_both w.cutoff v.cutoff (claims slot).cutoff next.falls owed.cutoff) (omega arith)
      (omega (arith, few)) next.cuts (λ adds. next.same_cuts refl) (λ adds. omega arith)
      (λ k above most. quiet e (λ n. refl) _))
      (λ j other. others_next w e j next (quietly w e j next refl) (λ b is. refl)
      (λ k most. quiet e (λ n. refl) _))
      (λ j a b other left right same. none-some a left)
      (λ j other own their. no_one v.cut_starts none ((meets.owed j).begun their))

  -- a cut is added
  pub joined_cut : (derivation : Derivation) → IsCutNow m (claims slot) derivation
      → MayFollow m v (Cut derivation) → Meets m (after_entry m v (Cut derivation)) best
      (claims_with claims slot (claim_after m (claims slot) (Cut derivation)))
  joined_cut derivation now follows =
      let e = Cut derivation in
      let w = after_entry m v e in
      let next : IsNext m v w e = next_of m v e follows in
      let c = claims slot in
      let d = claim_after m c e in
      let owed = meets.owed slot in
      let few = owed.few in
      let same : w.cuts ≡ d.cuts =
      ap (λ (cuts : List Row). with_row cuts (derived_row m cuts derivation))
      (owed.alone now.adds) in
      meets_next m v w best best slot claims d meets
      (view_fits m v e meets.fits follows)
      (sound_next m v w e best next meets.fits.known refl meets.sound
      (λ name some. absurd (no_one (gone e name) refl some)))
      (λ name. once_next m v w e name next refl (meets.once name))
      (owed_next m v w e slot c d next owed
      (still_held m v w e c.hold next meets.fits.known owed.held (λ b is. refl))
      (le_both w.cutoff v.cutoff c.cutoff next.falls owed.cutoff) (omega arith)
      (omega (arith, few)) (subst (HasCutsOf d.cuts) (sym same) (same_cuts d.cuts))
      (λ adds. same) (still_begun m v w e slot c next owed)
      (λ k above most. quiet e (λ n. refl) _))
      (λ j other. others_next w e j next (λ adds. absurd (same_adds j other now.adds adds))
      (λ b is. refl) (λ k most. quiet e (λ n. refl) _))
      same_claims same_adds
