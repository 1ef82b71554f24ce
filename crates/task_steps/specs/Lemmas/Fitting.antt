-- A view that fits does so after one more entry.
use Rattle.std.proofs.Common.{◌≡◌, ◌∙◌, ℕ, zero, suc, ◌+◌, ◌-◌, ◌<◌, ◌≤◌, ◌^◌, Bool, true, false, ◌||◌, nat_eq, List, [], ◌∷◌, length, ℤ, ◌≤ℤ◌, pos, All, refl, sym, subst, arith}
use Rattle.std.proofs.lemmas.Bool.{false≢true}
use Rattle.std.proofs.lemmas.Int.{ints}
use Rattle.std.proofs.lemmas.List.Elements.{All-head, All-tail}
use Rattle.ip_core.proofs.NarrowerBoxes.{within_itself}
use Rattle.ip_core.proofs.Reaching.{greatest_shares_small, root_within_reach}
use Rattle.ip_core.specs.Boxes.{IsWithin}
use Rattle.ip_core.specs.Models.{IsModel}
use Rattle.ip_core.specs.Sides.{Sides, IsPaired}
use Rattle.ip_core.specs.declared.model.ModelParts.{ModelParts}
use Rattle.search_truth.proofs.Within.{within_high_child, within_low_child}
use Rattle.work_stamp.specs.declared.entry.Entry.{Entry}
use Rattle.work_stamp.specs.declared.entry.Entry.TheVariants.{Start, CutStart, HeurStart, Done, Found, Cut, Split, Closed, Halt}
use Rattle.node_pool.specs.Branchings.{box_of}
use Rattle.node_pool.specs.Follows.{IsHeld, MayFollow, MayJoin}
use Rattle.node_pool.specs.Laws.{AreKnown}
use Rattle.node_pool.specs.Lemmas.Boxes.{boxes_are_parts}
use Rattle.node_pool.specs.Lemmas.Cuts.{cuts_are_derived}
use Rattle.node_pool.specs.Views.{View, after_entry, fresh_view, is_known}
use Rattle.node_pool.specs.declared.node.OpenNode.{OpenNode}
use Rattle.node_pool.specs.declared.settings.SearchSettings.{SearchSettings}
use Rattle.task_steps.specs.Claims.{count_left, count_name, count_open, one_if}
use Rattle.task_steps.specs.Fits.{FitsView, IsBoxed}
use Rattle.task_steps.specs.Lemmas.Entries.{IsNext, makes, next_of}
use Rattle.task_steps.specs.Lemmas.NameCounts.{eq_from_test, is_among}
use Rattle.task_steps.specs.Lemmas.TaskChunks.{paired_high, paired_low}
use Rattle.task_steps.specs.Lemmas.TaskCuts.{none_derived}

-- nodes that are left have known names

among_cases : (P : ℕ → Type 0) (name x : ℕ) (xs : List ℕ) (b : Bool) → nat_eq x name ≡ b → P x
    → (is_among name xs ≡ true → P name) → (b || is_among name xs) ≡ true → P name
among_cases P name x xs true is here later h = subst P (eq_from_test x name is) here
among_cases P name x xs false is here later h = later h

among_has : (P : ℕ → Type 0) (name : ℕ) (xs : List ℕ) → All P xs → is_among name xs ≡ true → P name
among_has P name [] all h = absurd (false≢true h)
among_has P name (x ∷ xs) all h =
    among_cases P name x xs (nat_eq x name) refl (All-head P x xs all)
    (among_has P name xs (All-tail P x xs all)) h

-- a held name is known
pub held_known : (v : View) (name : ℕ) → AreKnown v → IsHeld v name → is_known v name ≡ true
held_known v name known held =
    among_has (λ n. is_known v n ≡ true) name v.held_nodes known.held held.among

-- boxes

boxed_with : (m : ModelParts) (w : View) (name : ℕ) (s : Sides) → name < 2 ^ 64
    → IsWithin m.root s → IsPaired s → box_of m.root w.branches name ≡ s → IsBoxed m w name
boxed_with m w name s word within paired is = record {
  word = word;
  within = subst (λ (t : Sides). IsWithin m.root t) (sym is) within;
  paired = subst (λ (t : Sides). IsPaired t) (sym is) paired;
}

-- the boxes of the children of a split
children_boxed : (m : ModelParts) (v : View) (node col : ℕ) (at : ℤ) (first keep : ℕ) (bound : ℤ)
    (name : ℕ) (b : Bool) → nat_eq first name ≡ b → first < 2 ^ 64 - 1 → IsBoxed m v node
    → (b || nat_eq (first + 1) name) ≡ true
    → IsBoxed m (after_entry m v (Split node col at first keep bound)) name
children_boxed m v node col at first keep bound name true is room parent h =
    let w = after_entry m v (Split node col at first keep bound) in
    let s = box_of m.root v.branches node in
    subst (λ (n : ℕ). IsBoxed m w n) (eq_from_test first name is)
    (boxed_with m w first _ (omega arith) (within_low_child m.root s col at parent.within)
    (paired_low s col at parent.paired)
    (boxes_are_parts.low m v m.root node col at first keep bound))
children_boxed m v node col at first keep bound name false is room parent h =
    let w = after_entry m v (Split node col at first keep bound) in
    let s = box_of m.root v.branches node in
    subst (λ (n : ℕ). IsBoxed m w n) (eq_from_test (first + 1) name h)
    (boxed_with m w (first + 1) _ (omega arith) (within_high_child m.root s col at parent.within)
    (paired_high s col at parent.paired)
    (boxes_are_parts.high m v m.root node col at first keep bound))

-- the box of a name that an entry makes
made_boxed : (m : ModelParts) (v : View) (e : Entry) (name : ℕ) → FitsView m v → MayJoin m v e
    → makes e name ≡ true → IsBoxed m (after_entry m v e) name
made_boxed m v (Start node) name fits may h = absurd (false≢true h)
made_boxed m v CutStart name fits may h = absurd (false≢true h)
made_boxed m v (HeurStart node) name fits may h = absurd (false≢true h)
made_boxed m v Done name fits may h = absurd (false≢true h)
made_boxed m v (Found value point) name fits may h = absurd (false≢true h)
made_boxed m v (Cut derivation) name fits may h = absurd (false≢true h)
made_boxed m v (Split node col at first keep bound) name fits may h =
    children_boxed m v node col at first keep bound name (nat_eq first name) refl may.room
    (fits.boxed node (held_known v node fits.known may.held)) h
made_boxed m v (Closed node) name fits may h = absurd (false≢true h)
made_boxed m v Halt name fits may h = absurd (false≢true h)

boxed_cases : (m : ModelParts) (v w : View) (e : Entry) (name : ℕ) (b : Bool)
    → is_known v name ≡ b → FitsView m v → IsNext m v w e
    → (makes e name ≡ true → IsBoxed m w name) → (b || makes e name) ≡ true → IsBoxed m w name
boxed_cases m v w e name true is fits next new h =
    let old = fits.boxed name is in
    boxed_with m w name _ old.word old.within old.paired (next.boxes name is)
boxed_cases m v w e name false is fits next new h = new h

cutoff_stays : (a b : ℤ) → a ≤ℤ b → b ≤ℤ pos (2 ^ 51) → a ≤ℤ pos (2 ^ 51)
cutoff_stays a b falls few = omega (arith, ints)

-- the view after an entry that may follow
pub view_fits : (m : ModelParts) (v : View) (e : Entry) → FitsView m v → MayFollow m v e
    → FitsView m (after_entry m v e)
view_fits m v e fits follows =
    let next = next_of m v e follows in
    record {
      known = boxes_are_parts.known_after m v e fits.known follows;
      boxed = λ name h. boxed_cases m v (after_entry m v e) e name (is_known v name) refl fits next
          (made_boxed m v e name fits follows.joins) (sym (next.names name) ∙ h);
      cutoff = cutoff_stays (after_entry m v e).cutoff v.cutoff next.falls fits.cutoff;
      cuts = record {
        derived = cuts_are_derived.after m v e fits.cuts.derived;
        few = cuts_are_derived.few m v e follows fits.cuts.few;
      };
    }

root_named : (name : ℕ) (b : Bool) → nat_eq 0 name ≡ b → (b || false) ≡ true → 0 ≡ name
root_named name true is h = eq_from_test 0 name is
root_named name false is h = absurd (false≢true h)

-- the fresh view
pub fresh_view_fits : (m : ModelParts) (settings : SearchSettings) → IsModel m → IsPaired m.root
    → FitsView m (fresh_view m settings)
fresh_view_fits m settings valid paired =
    let greatest = greatest_shares_small m m.root (length m.costs) valid
    (root_within_reach m.root) (omega arith) in
    record {
      known = boxes_are_parts.known_at_first m settings;
      boxed = λ name h. subst (λ (n : ℕ). IsBoxed m (fresh_view m settings) n)
          (root_named name (nat_eq 0 name) refl h)
          (record { word = omega arith; within = within_itself m.root; paired = paired });
      cutoff = omega (arith, ints, greatest);
      cuts = none_derived m;
    }

-- nodes that count are known

open_known_cases : (P : ℕ → Type 0) (name : ℕ) (x : OpenNode) (xs : List OpenNode) (b : Bool)
    → nat_eq x.name name ≡ b → P x.name → (1 ≤ count_open name xs → P name)
    → 1 ≤ one_if b + count_open name xs → P name
open_known_cases P name x xs true is here later some = subst P (eq_from_test x.name name is) here
open_known_cases P name x xs false is here later some = later (omega arith)

open_counted : (P : ℕ → Type 0) (name : ℕ) (xs : List OpenNode) → All (λ node. P node.name) xs
    → 1 ≤ count_open name xs → P name
open_counted P name [] all some = absurd (omega arith)
open_counted P name (x ∷ xs) all some =
    open_known_cases P name x xs (nat_eq x.name name) refl
    (All-head (λ (node : OpenNode). P node.name) x xs all)
    (open_counted P name xs (All-tail (λ (node : OpenNode). P node.name) x xs all)) some

name_known_cases : (P : ℕ → Type 0) (name x : ℕ) (xs : List ℕ) (b : Bool) → nat_eq x name ≡ b
    → P x → (1 ≤ count_name name xs → P name) → 1 ≤ one_if b + count_name name xs → P name
name_known_cases P name x xs true is here later some = subst P (eq_from_test x name is) here
name_known_cases P name x xs false is here later some = later (omega arith)

name_counted : (P : ℕ → Type 0) (name : ℕ) (xs : List ℕ) → All P xs → 1 ≤ count_name name xs
    → P name
name_counted P name [] all some = absurd (omega arith)
name_counted P name (x ∷ xs) all some =
    name_known_cases P name x xs (nat_eq x name) refl (All-head P x xs all)
    (name_counted P name xs (All-tail P x xs all)) some

left_cases : (v : View) (name n : ℕ) → AreKnown v → count_open name v.open_nodes ≡ n
    → 1 ≤ count_left v name → is_known v name ≡ true
left_cases v name zero known is some =
    name_counted (λ k. is_known v k ≡ true) name v.held_nodes known.held (omega (arith, is, some))
left_cases v name (suc n) known is some =
    open_counted (λ k. is_known v k ≡ true) name v.open_nodes known.opened (omega (arith, is))

-- a node that is left has a known name
pub left_known : (v : View) (name : ℕ) → AreKnown v → 1 ≤ count_left v name
    → is_known v name ≡ true
left_known v name known some = left_cases v name (count_open name v.open_nodes) known refl some
