-- Names of nodes are known, and boxes of known names stay.
use Rattle.std.proofs.Common.{◌≡◌, ◌∙◌, ℕ, zero, suc, ◌+◌, Bool, true, false, cond, ◌||◌, nat_eq, List, [], ◌∷◌, ◌++◌, ℤ, pos, ◌+ℤ◌, Option, Some, None, All, refl, sym, ap, subst, arith}
use Rattle.std.specs.List.{list_any}
use Rattle.std.proofs.lemmas.Bool.{true≢false}
use Rattle.std.proofs.lemmas.Bool.Decides.{nat_tests}
use Rattle.std.proofs.lemmas.List.Elements.{All-cons, All-head, All-nil, All-tail, All-weaker}
use Rattle.std.proofs.lemmas.Option.{none-some, same_Some}
use Rattle.ip_core.specs.Sides.{Sides}
use Rattle.ip_core.specs.declared.model.ModelParts.{ModelParts}
use Rattle.search_truth.specs.Boxes.{low_child, high_child}
use Rattle.work_stamp.specs.declared.entry.Entry.{Entry}
use Rattle.work_stamp.specs.declared.entry.Entry.TheVariants.{Start, CutStart, HeurStart, Done, Found, Cut, Split, Closed, Halt}
use Rattle.node_pool.specs.Branchings.{Branch, box_by, box_of, boxes_after, boxes_with, change_for, is_child}
use Rattle.node_pool.specs.Follows.{IsOpen, MayJoin, MaySplit}
use Rattle.node_pool.specs.Laws.{AreKnown, BoxesAreParts}
use Rattle.node_pool.specs.Lemmas.Orders.{All-insert_open, All-without_node}
use Rattle.node_pool.specs.Nodes.{first_named, insert_open, without_name}
use Rattle.node_pool.specs.Views.{View, fresh_view, is_known, without_held, open_node, after_entry, with_branch, with_children}
use Rattle.node_pool.specs.declared.bound_change.BoundChange.{BoundChange}
use Rattle.node_pool.specs.declared.bound_change.BoundChange.TheVariants.{High, Low}
use Rattle.node_pool.specs.declared.node.OpenNode.{OpenNode}

-- tests

pub same_from_test : (a b : ℕ) → nat_eq a b ≡ true → a ≡ b
same_from_test a b h = grind (arith, nat_tests)

pub test_itself : (a : ℕ) → nat_eq a a ≡ true
test_itself a = grind (arith, nat_tests)

pub differ_from_next : (a : ℕ) → nat_eq a (a + 1) ≡ false
differ_from_next a = grind (arith, nat_tests)

pub or_first : (a b : Bool) → a ≡ true → (a || b) ≡ true
or_first a b h = rw h refl

pub or_second : (a b : Bool) → b ≡ true → (a || b) ≡ true
or_second true b h = refl
or_second false b h = h

any_cases : {A : Type 0} (p : A → Bool) (x : A) (xs ys : List A) (b : Bool) → p x ≡ b
    → (b || list_any p xs) ≡ true → (list_any p xs ≡ true → list_any p (xs ++ ys) ≡ true)
    → (b || list_any p (xs ++ ys)) ≡ true
any_cases p x xs ys true is h later = refl
any_cases p x xs ys false is h later = later h

any_kept : {A : Type 0} (p : A → Bool) (xs ys : List A) → list_any p xs ≡ true
    → list_any p (xs ++ ys) ≡ true
any_kept p [] ys h = absurd (true≢false (sym h))
any_kept p (x ∷ xs) ys h = any_cases p x xs ys (p x) refl h (any_kept p xs ys)

any_last : {A : Type 0} (p : A → Bool) (xs : List A) (x : A) → p x ≡ true
    → list_any p (xs ++ x ∷ []) ≡ true
any_last p [] x h = or_first (p x) false h
any_last p (y ∷ ys) x h = or_second (p y) (list_any p (ys ++ x ∷ [])) (any_last p ys x h)

-- known names

known_cases : (v : View) (b : Branch) (name : ℕ) (t : Bool)
    → (t || list_any (λ c. is_child c name) v.branches) ≡ true
    → (t || list_any (λ c. is_child c name) (v.branches ++ b ∷ [])) ≡ true
known_cases v b name true h = refl
known_cases v b name false h = any_kept (λ c. is_child c name) v.branches (b ∷ []) h

known_with_branch : (v : View) (b : Branch) (name : ℕ) → is_known v name ≡ true
    → is_known (with_branch v b) name ≡ true
known_with_branch v b name h = known_cases v b name (nat_eq 0 name) h

child_known : (v : View) (b : Branch) (name : ℕ) → is_child b name ≡ true
    → is_known (with_branch v b) name ≡ true
child_known v b name h = or_second (nat_eq 0 name) _
    (any_last (λ c. is_child c name) v.branches b h)

-- boxes

boxes_last : (boxes : ℕ → Sides) (bs : List Branch) (b : Branch) (name : ℕ)
    → boxes_after boxes (bs ++ b ∷ []) name ≡ boxes_with (boxes_after boxes bs) b name
boxes_last boxes [] b name = refl
boxes_last boxes (x ∷ xs) b name = boxes_last (boxes_with boxes x) xs b name

children_branches : (v : View) (low high : OpenNode) (keep : ℕ)
    → (with_children v low high keep).branches ≡ v.branches
children_branches v low high zero = refl
children_branches v low high (suc zero) = refl
children_branches v low high (suc (suc more)) = refl

abbrev branch : ℕ → ℕ → ℤ → ℕ → ℤ → Branch
branch node col at first bound =
    record { node = node; col = col; at = at; first = first; bound = bound }

split_branches : (m : ModelParts) (v : View) (node col : ℕ) (at : ℤ) (first keep : ℕ) (bound : ℤ)
    → (after_entry m v (Split node col at first keep bound)).branches ≡ v.branches
    ++ branch node col at first bound ∷ []
split_branches m v node col at first keep bound =
    children_branches (with_branch (without_held v node) (branch node col at first bound))
    (open_node first bound) (open_node (first + 1) bound) keep

split_box : (m : ModelParts) (v : View) (root : Sides) (node col : ℕ) (at : ℤ) (first keep : ℕ) (bound : ℤ)
    (name : ℕ)
    → box_of root (after_entry m v (Split node col at first keep bound)).branches name
    ≡ boxes_with (λ other. box_of root v.branches other) (branch node col at first bound) name
split_box m v root node col at first keep bound name =
    ap (λ (bs : List Branch). box_of root bs name) (split_branches m v node col at first keep bound)
    ∙ boxes_last (λ other. root) v.branches (branch node col at first bound) name

first_change : (b : Branch) (name : ℕ) → nat_eq b.first name ≡ true
    → change_for b name ≡ Some (High b.col b.at)
first_change b name h = rw h refl

second_change : (b : Branch) (name : ℕ) → nat_eq b.first name ≡ false
    → nat_eq (b.first + 1) name ≡ true → change_for b name ≡ Some (Low b.col (b.at +ℤ pos 1))
second_change b name h i = rw (h, i) refl

pub no_change : (b : Branch) (name : ℕ) → nat_eq b.first name ≡ false
    → nat_eq (b.first + 1) name ≡ false → change_for b name ≡ None
no_change b name h i = rw (h, i) refl

low_box : (m : ModelParts) (v : View) (root : Sides) (node col : ℕ) (at : ℤ) (first keep : ℕ) (bound : ℤ)
    → box_of root (after_entry m v (Split node col at first keep bound)).branches first
    ≡ low_child (box_of root v.branches node) col at
low_box m v root node col at first keep bound =
    split_box m v root node col at first keep bound first
    ∙ ap (λ (c : Option BoundChange).
    box_by c (box_of root v.branches first) (box_of root v.branches node))
    (first_change (branch node col at first bound) first (test_itself first))

high_box : (m : ModelParts) (v : View) (root : Sides) (node col : ℕ) (at : ℤ) (first keep : ℕ) (bound : ℤ)
    → box_of root (after_entry m v (Split node col at first keep bound)).branches (first + 1)
    ≡ high_child (box_of root v.branches node) col at
high_box m v root node col at first keep bound =
    split_box m v root node col at first keep bound (first + 1)
    ∙ ap (λ (c : Option BoundChange).
    box_by c (box_of root v.branches (first + 1)) (box_of root v.branches node))
    (second_change (branch node col at first bound) (first + 1) (differ_from_next first)
    (test_itself (first + 1)))

new_cases : (v : View) (a b : ℕ) (t : Bool) → nat_eq a b ≡ t → is_known v a ≡ false
    → is_known v b ≡ true → t ≡ false
new_cases v a b true is new known =
    absurd (true≢false (sym known ∙ ap (λ (n : ℕ). is_known v n) (sym (same_from_test a b is))
    ∙ new))
new_cases v a b false is new known = refl

-- a new name is not a known one
new_differs : (v : View) (a b : ℕ) → is_known v a ≡ false → is_known v b ≡ true → nat_eq a b ≡ false
new_differs v a b new known = new_cases v a b (nat_eq a b) refl new known

split_stays : (m : ModelParts) (v : View) (root : Sides) (node col : ℕ) (at : ℤ) (first keep : ℕ)
    (bound : ℤ) (name : ℕ) → MaySplit m v node col at first keep → is_known v name ≡ true
    → box_of root (after_entry m v (Split node col at first keep bound)).branches name
    ≡ box_of root v.branches name
split_stays m v root node col at first keep bound name may known =
    split_box m v root node col at first keep bound name
    ∙ ap (λ (c : Option BoundChange).
    box_by c (box_of root v.branches name) (box_of root v.branches node))
    (no_change (branch node col at first bound) name (new_differs v first name may.first_new known)
    (new_differs v (first + 1) name may.second_new known))

box_stays : (m : ModelParts) (v : View) (e : Entry) (root : Sides) (name : ℕ) → MayJoin m v e
    → is_known v name ≡ true → box_of root (after_entry m v e).branches name
    ≡ box_of root v.branches name
box_stays m v (Start node) root name may known = refl
box_stays m v CutStart root name may known = refl
box_stays m v (HeurStart node) root name may known = refl
box_stays m v Done root name may known = refl
box_stays m v (Found value point) root name may known = refl
box_stays m v (Cut derivation) root name may known = refl
box_stays m v (Split node col at first keep bound) root name may known =
    split_stays m v root node col at first keep bound name may known
box_stays m v (Closed node) root name may known = refl
box_stays m v Halt root name may known = refl

-- nodes

All-end : {A : Type 0} (P : A → Type 0) (xs : List A) (x : A) → All P xs → P x
    → All P (xs ++ x ∷ [])
All-end P [] x all here = All-cons P x [] here all
All-end P (y ∷ ys) x all here =
    All-cons P y (ys ++ x ∷ []) (All-head P y ys all) (All-end P ys x (All-tail P y ys all) here)

fewer_cases : (P : ℕ → Type 0) (x : ℕ) (xs fewer : List ℕ) (same : Bool) → P x → All P xs
    → All P fewer → All P (cond same xs (x ∷ fewer))
fewer_cases P x xs fewer true first others rest = others
fewer_cases P x xs fewer false first others rest = All-cons P x fewer first rest

All-without_name : (P : ℕ → Type 0) (name : ℕ) (xs : List ℕ) → All P xs
    → All P (without_name name xs)
All-without_name P name [] all = all
All-without_name P name (x ∷ xs) all =
    fewer_cases P x xs (without_name name xs) (nat_eq x name) (All-head P x xs all)
    (All-tail P x xs all) (All-without_name P name xs (All-tail P x xs all))

first_cases : (P : OpenNode → Type 0) (name : ℕ) (x node : OpenNode) (xs : List OpenNode) (t : Bool)
    → nat_eq x.name name ≡ t → P x → (first_named name xs ≡ Some node → P node × (node.name ≡ name))
    → cond t (Some x) (first_named name xs) ≡ Some node
    → P node × (node.name ≡ name)
first_cases P name x node xs true is here later first =
    let same = same_Some x node first in
    (subst P same here, ap (λ (n : OpenNode). n.name) (sym same) ∙ same_from_test x.name name is)
first_cases P name x node xs false is here later first = later first

first_has : (P : OpenNode → Type 0) (name : ℕ) (node : OpenNode) (xs : List OpenNode) → All P xs
    → first_named name xs ≡ Some node → P node × (node.name ≡ name)
first_has P name node [] all first = absurd (none-some node first)
first_has P name node (x ∷ xs) all first =
    first_cases P name x node xs (nat_eq x.name name) refl (All-head P x xs all)
    (first_has P name node xs (All-tail P x xs all)) first

open_known : (v : View) (name : ℕ) → AreKnown v → IsOpen v name → is_known v name ≡ true
open_known v name known opened =
    let has = first_has (λ node. is_known v node.name ≡ true) name opened.node v.open_nodes
    known.opened opened.first in
    subst (λ (n : ℕ). is_known v n ≡ true) has.1 has.0

children_known : (v : View) (low high : OpenNode) (keep : ℕ) → AreKnown v
    → is_known v low.name ≡ true → is_known v high.name ≡ true
    → AreKnown (with_children v low high keep)
children_known v low high zero known first second = record {
  opened = All-insert_open (λ node. is_known v node.name ≡ true) high v.open_nodes second
      known.opened;
  held = All-end (λ name. is_known v name ≡ true) v.held_nodes low.name known.held first;
}
children_known v low high (suc zero) known first second = record {
  opened = All-insert_open (λ node. is_known v node.name ≡ true) low v.open_nodes first
      known.opened;
  held = All-end (λ name. is_known v name ≡ true) v.held_nodes high.name known.held second;
}
children_known v low high (suc (suc more)) known first second = record {
  opened = All-insert_open (λ node. is_known v node.name ≡ true) high (insert_open low v.open_nodes)
      second (All-insert_open (λ node. is_known v node.name ≡ true) low v.open_nodes first
      known.opened);
  held = known.held;
}

branch_known : (v : View) (b : Branch) → AreKnown v → AreKnown (with_branch v b)
branch_known v b known = record {
  opened = All-weaker (λ node. is_known v node.name ≡ true)
      (λ node. is_known (with_branch v b) node.name ≡ true)
      (λ node h. known_with_branch v b node.name h) v.open_nodes known.opened;
  held = All-weaker (λ name. is_known v name ≡ true)
      (λ name. is_known (with_branch v b) name ≡ true) (λ name h. known_with_branch v b name h)
      v.held_nodes known.held;
}

gone_known : (v : View) (node : ℕ) → AreKnown v → AreKnown (without_held v node)
gone_known v node known =
    record {
      opened = known.opened;
      held = All-without_name (λ name. is_known v name ≡ true) node v.held_nodes known.held;
    }

same_lists : (v w : View) → w.open_nodes ≡ v.open_nodes → w.held_nodes ≡ v.held_nodes
    → w.branches ≡ v.branches → AreKnown v → AreKnown w
same_lists v w opened held branches known = record {
  opened = subst (λ (bs : List Branch). All
      (λ (node : OpenNode). (nat_eq 0 node.name || list_any (λ b. is_child b node.name) bs) ≡ true)
      w.open_nodes) (sym branches)
      (subst (λ (ns : List OpenNode). All (λ (node : OpenNode). is_known v node.name ≡ true) ns)
      (sym opened) known.opened);
  held = subst (λ (bs : List Branch). All (λ (name : ℕ).
      (nat_eq 0 name || list_any (λ b. is_child b name) bs) ≡ true) w.held_nodes) (sym branches)
      (subst (λ (ns : List ℕ). All (λ (name : ℕ). is_known v name ≡ true) ns) (sym held)
      known.held);
}

split_known : (v : View) (node col : ℕ) (at : ℤ) (first keep : ℕ) (bound : ℤ) → AreKnown v
    → AreKnown (with_children (with_branch (without_held v node) (branch node col at first bound))
    (open_node first bound) (open_node (first + 1) bound) keep)
split_known v node col at first keep bound known =
    let b = branch node col at first bound in
    children_known (with_branch (without_held v node) b) (open_node first bound)
    (open_node (first + 1) bound) keep
    (branch_known (without_held v node) b (gone_known v node known))
    (child_known (without_held v node) b first
    (or_first (nat_eq first first) (nat_eq (first + 1) first) (test_itself first)))
    (child_known (without_held v node) b (first + 1)
    (or_second (nat_eq first (first + 1)) (nat_eq (first + 1) (first + 1))
    (test_itself (first + 1))))

entry_known : (m : ModelParts) (v : View) (e : Entry) → AreKnown v → MayJoin m v e
    → AreKnown (after_entry m v e)
entry_known m v (Start node) known may = record {
  opened = All-without_node (λ other. is_known v other.name ≡ true) node v.open_nodes known.opened;
  held = All-end (λ name. is_known v name ≡ true) v.held_nodes node known.held
      (open_known v node known may);
}
entry_known m v CutStart known may = same_lists v _ refl refl refl known
entry_known m v (HeurStart node) known may = same_lists v _ refl refl refl known
entry_known m v Done known may = same_lists v _ refl refl refl known
entry_known m v (Found value point) known may = same_lists v _ refl refl refl known
entry_known m v (Cut derivation) known may = same_lists v _ refl refl refl known
entry_known m v (Split node col at first keep bound) known may =
    same_lists _ (after_entry m v (Split node col at first keep bound)) refl refl refl
    (split_known v node col at first keep bound known)
entry_known m v (Closed node) known may =
    same_lists (without_held v node) _ refl refl refl (gone_known v node known)
entry_known m v Halt known may = same_lists v _ refl refl refl known

pub boxes_are_parts : BoxesAreParts
boxes_are_parts = record {
  known_at_first = λ m settings. record {
    opened =
        All-cons (λ node. is_known (fresh_view m settings) node.name ≡ true) (open_node 0 _) [] refl
        (All-nil (λ node. is_known (fresh_view m settings) node.name ≡ true));
    held = All-nil (λ name. is_known (fresh_view m settings) name ≡ true);
  };
  known_after = λ m v e known may. entry_known m v e known may.joins;
  root = λ m settings root. refl;
  low = low_box;
  high = high_box;
  stays = λ m v e root name may known. box_stays m v e root name may.joins known;
}
