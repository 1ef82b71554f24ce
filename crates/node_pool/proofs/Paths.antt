-- The box of a name, branching by branching from the last.
use Rattle.std.proofs.Common.{◌≡◌, ◌∙◌, ℕ, zero, suc, ◌+◌, ◌≤◌, ◌<◌, Bool, true, false, cond, ◌||◌, nat_eq, List, [], ◌∷◌, ◌++◌, length, take, slice_get, slice_index_or, Option, Some, None, ℤ, refl, sym, ap, subst, arith}
use Rattle.std.proofs.lemmas.Bool.{true≢false}
use Rattle.std.proofs.lemmas.Option.{get_or_from_slice_get, none-some, same_Some}
use Rattle.ip_core.specs.Sides.{Sides}
use Rattle.node_pool.specs.BoundChanges.{with_change, with_changes}
use Rattle.node_pool.specs.Branchings.{Branch, box_by, box_of, boxes_after, boxes_with, change_for, is_child}
use Rattle.node_pool.specs.Lemmas.Boxes.{no_change}
use Rattle.node_pool.specs.Lemmas.Orders.{or_false}
use Rattle.node_pool.specs.Trees.{IsMadeAt, IsOriginBefore, IsRootBefore, IsUnmade, Tree, node_of, with_name}
use Rattle.node_pool.specs.declared.bound_change.BoundChange.{BoundChange}
use Rattle.node_pool.proofs.Origins.{bound_made, not_made}

-- the changes of a front, one more at its end
front_changed : (cs : List BoundChange) (k : ℕ) (d : BoundChange) (s : Sides) → k < length cs
    → with_changes (take (suc k) cs) s
    ≡ with_changes (take k cs) (with_change (slice_index_or cs k d) s)
front_changed [] k d s below = absurd (omega (arith, below))
front_changed (c ∷ cs) zero d s below = refl
front_changed (c ∷ cs) (suc k) d s below =
    ap (with_change c) (front_changed cs k d s (omega (arith, below)))

changed_last : (cs : List BoundChange) (c : BoundChange) (s : Sides)
    → with_changes (cs ++ c ∷ []) s ≡ with_changes cs (with_change c s)
changed_last [] c s = refl
changed_last (x ∷ xs) c s = ap (with_change x) (changed_last xs c s)

-- one change more is made, the one in front of those that are made
pub one_made : (cs : List BoundChange) (k n : ℕ) (d : BoundChange) (s t final : Sides) → n ≡ suc k
    → k < length cs → t ≡ with_change (slice_index_or cs k d) s → with_changes (take n cs) s ≡ final
    → with_changes (take k cs) t ≡ final
one_made cs k n d s t final next below is same =
    ap (with_changes (take k cs)) is ∙ sym (front_changed cs k d s below)
    ∙ subst (λ (j : ℕ). with_changes (take j cs) s ≡ final) next same

no_change_for : (b : Branch) (name : ℕ) → is_child b name ≡ false → change_for b name ≡ None
no_change_for b name h =
    let parts = or_false (nat_eq b.first name) (nat_eq (b.first + 1) name) h in
    no_change b name parts.0 parts.1

some_cases : (s t : Bool) (x y : BoundChange) → (s || t) ≡ true
    → cond s (Some x) (cond t (Some y) None) ≡ None → ⊥
some_cases true t x y h is = none-some x (sym is)
some_cases false true x y h is = none-some y (sym is)
some_cases false false x y h is = true≢false (sym h)

-- a child has a change
pub some_change : (b : Branch) (name : ℕ) → is_child b name ≡ true → change_for b name ≡ None → ⊥
some_change b name h is = some_cases (nat_eq b.first name) (nat_eq (b.first + 1) name) _ _ h is

-- a front of branchings none of which makes the name leaves its box
none_made : (boxes : ℕ → Sides) (bs : List Branch) (n name : ℕ)
    → ((j : ℕ) (b : Branch) → j < n → slice_get bs j ≡ Some b → is_child b name ≡ false)
    → boxes_after boxes (take n bs) name ≡ boxes name
none_made boxes bs zero name none = refl
none_made boxes [] (suc n) name none = refl
none_made boxes (b ∷ bs) (suc n) name none =
    none_made (boxes_with boxes b) bs n name
    (λ j c below here. none (suc j) c (omega (arith, below)) here)
    ∙ ap (λ (c : Option BoundChange). box_by c (boxes name) (boxes b.node))
    (no_change_for b name (none 0 b (omega arith) refl))

-- the last branching of a front that makes the name gives it its box
made_box : (boxes : ℕ → Sides) (bs : List Branch) (n k : ℕ) (b : Branch) (name : ℕ) → k < n
    → slice_get bs k ≡ Some b
    → ((j : ℕ) (c : Branch) → k < j → slice_get bs j ≡ Some c → is_child c name ≡ false)
    → boxes_after boxes (take n bs) name ≡ boxes_with (boxes_after boxes (take k bs)) b name
made_box boxes bs zero k b name below at none = absurd (omega (arith, below))
made_box boxes [] (suc n) k b name below at none = absurd (none-some b at)
made_box boxes (x ∷ bs) (suc n) zero b name below at none =
    none_made (boxes_with boxes x) bs n name (λ j c less here. none (suc j) c (omega arith) here)
    ∙ ap (λ (y : Branch). boxes_with boxes y name) (same_Some x b at)
made_box boxes (x ∷ bs) (suc n) (suc k) b name below at none =
    made_box (boxes_with boxes x) bs n k b name (omega (arith, below)) at
    (λ j c less here. none (suc j) c (omega (arith, less)) here)

later_differs : (k j : ℕ) → k < j → j ≡ k → ⊥
later_differs k j less same = omega (arith, less, same)

earlier_differs : (left k j : ℕ) → left ≤ k → j < left → j ≡ k → ⊥
earlier_differs left k j late less same = omega (arith, late, less, same)

origin_made : (bs : List Branch) (name left place parent : ℕ) (change : BoundChange)
    (made : IsMadeAt bs name place) → place < left → change_for made.branch name ≡ Some change
    → parent ≡ made.branch.node
    → IsOriginBefore bs name left (record { place = place; change = change; parent = parent })
origin_made bs name left place parent change made below is up = record {
  before = below;
  box = λ root.
      made_box (λ other. root) bs left place made.branch name below made.at
      (λ j c less here. not_made bs name place made j c (later_differs place j less) here)
      ∙ ap (λ (o : Option BoundChange).
      box_by o (box_of root (take place bs) name) (box_of root (take place bs) made.branch.node))
      is
      ∙ ap (λ (p : ℕ). with_change change (box_of root (take place bs) p)) (sym up);
}

-- what is read at the place of the branching is the branching
read_is : (bs : List Branch) (name place : ℕ) (x : Branch) (made : IsMadeAt bs name place)
    → x ≡ slice_index_or bs place x → x ≡ made.branch
read_is bs name place x made read = read ∙ get_or_from_slice_get bs place made.branch x made.at

pub node_read : (t : Tree) (name place : ℕ) (x : Branch) (bound : ℤ) → nat_eq name 0 ≡ false
    → IsMadeAt t.branches name place → x ≡ slice_index_or t.branches place x → bound ≡ x.bound
    → node_of t name ≡ Some (record { bound = bound; name = name })
node_read t name place x bound named made read is =
    ap (with_name name) (bound_made t name place named made
    ∙ ap (λ (b : Branch). Some b.bound) (sym (read_is t.branches name place x made read))
    ∙ ap (λ (z : ℤ). Some z) (sym is))

pub root_without_change : (bs : List Branch) (name left place : ℕ) (x : Branch)
    → IsMadeAt bs name place → x ≡ slice_index_or bs place x → change_for x name ≡ None
    → IsRootBefore bs name left
root_without_change bs name left place x made read none =
    absurd (some_change made.branch name made.child
    (ap (λ (b : Branch). change_for b name) (sym (read_is bs name place x made read)) ∙ none))

pub origin_box : (bs : List Branch) (name left place parent : ℕ) (change : BoundChange) (x : Branch)
    → IsMadeAt bs name place → x ≡ slice_index_or bs place x → place < left
    → change_for x name ≡ Some change → parent ≡ x.node
    → IsOriginBefore bs name left (record { place = place; change = change; parent = parent })
origin_box bs name left place parent change x made read below some here =
    let same = read_is bs name place x made read in
    origin_made bs name left place parent change made below
    (ap (λ (b : Branch). change_for b name) (sym same) ∙ some)
    (here ∙ ap (λ (b : Branch). b.node) same)

pub root_where_unmade : (bs : List Branch) (name left : ℕ) → IsUnmade bs name
    → IsRootBefore bs name left
root_where_unmade bs name left unmade =
    record {
      box = λ root. none_made (λ other. root) bs left name
          (λ j c below here. unmade.none j c here);
    }

pub root_where_later : (bs : List Branch) (name left place : ℕ) → IsMadeAt bs name place
    → left ≤ place → IsRootBefore bs name left
root_where_later bs name left place made late = record {
  box = λ root. none_made (λ other. root) bs left name
      (λ j c below here. not_made bs name place made j c (earlier_differs left place j late below)
      here);
}

pub ruleset root_boxes = (root_where_unmade, root_without_change)

-- the changes that make the box of a node from that of a name after a front of the branchings
abbrev pub IsMade : List Branch → ℕ → List BoundChange → ℕ → ℕ → Type 0
IsMade bs node path n name = (root : Sides)
    → box_of root bs node ≡ with_changes path (box_of root (take n bs) name)

pub step_up : (bs : List Branch) (node : ℕ) (path longer : List BoundChange) (n name k parent : ℕ)
    (c : BoundChange) → ((root : Sides) → box_of root (take n bs) name
    ≡ with_change c (box_of root (take k bs) parent)) → longer ≡ path ++ c ∷ []
    → IsMade bs node path n name → IsMade bs node longer k parent
step_up bs node path longer n name k parent c up pushed made root =
    made root ∙ ap (with_changes path) (up root)
    ∙ sym (changed_last path c (box_of root (take k bs) parent))
    ∙ ap (λ (cs : List BoundChange). with_changes cs (box_of root (take k bs) parent))
    (sym pushed)

pub path_ends : (bs : List Branch) (node : ℕ) (path : List BoundChange) (n name : ℕ)
    → IsRootBefore bs name n → IsMade bs node path n name → (root : Sides)
    → box_of root bs node ≡ with_changes path root
path_ends bs node path n name at_root made root = made root
    ∙ ap (with_changes path) (at_root.box root)
