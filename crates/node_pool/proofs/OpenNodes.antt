-- The ordered set of open nodes gives and takes as the list does, and the tree has their bounds.
use Rattle.std.proofs.Common.{◌≡◌, ◌∙◌, ℕ, ◌+◌, Bool, true, false, cond, ◌&&◌, ◌||◌, ◌==◌, nat_eq, nat_lt, int_lt, List, [], ◌∷◌, ◌++◌, Option, Some, None, ℤ, All, refl, sym, ap, subst, arith}
use Rattle.std.specs.BTreeMap.{is_at}
use Rattle.std.specs.BTreeSet.{insert_key}
use Rattle.std.specs.List.{list_any}
use Rattle.std.specs.Ordering.{is_eq, match_ordering, ordering_then, int_cmp, nat_cmp}
use Rattle.std.specs.declared.cmp.Ordering.{Ordering}
use Rattle.std.specs.declared.cmp.Ordering.TheVariants.{Less, Equal, Greater}
use Rattle.std.specs.Set.{remove_key}
use Rattle.std.proofs.lemmas.Bool.{true≢false}
use Rattle.std.proofs.lemmas.Bool.Decides.{nat_tests}
use Rattle.std.proofs.lemmas.Int.{ints}
use Rattle.std.proofs.lemmas.List.Elements.{All-cons, All-head, All-nil, All-tail, All-weaker}
use Rattle.std.proofs.lemmas.Option.{none-some, same_Some}
use Rattle.node_pool.specs.Branchings.{Branch, is_child}
use Rattle.node_pool.specs.Follows.{IsFresh}
use Rattle.node_pool.specs.Lemmas.Boxes.{same_from_test, test_itself, or_first, or_second}
use Rattle.node_pool.specs.Lemmas.Orders.{All-insert_open, All-without_node, or_false}
use Rattle.node_pool.specs.Nodes.{first_named, insert_open, is_before, without_node}
use Rattle.node_pool.specs.Trees.{HasBound, HasOpenBounds, IsNewBranch, Tree, bound_of, child_bound, node_of, branch_of, with_name}
use Rattle.node_pool.specs.Views.{View, is_known}
use Rattle.node_pool.specs.declared.node.OpenNode.{OpenNode}

-- the order of the set
abbrev pub node_cmp : OpenNode → OpenNode → Ordering
node_cmp a b = ordering_then (int_cmp a.bound b.bound) (nat_cmp a.name b.name)

-- p, g: the bound is less, greater; r, s: the name is less, the same
order_cases : {T : Type 0} (p g r s : Bool) (a b c : T) → s ≡ false
    → match_ordering (ordering_then (cond p Less (cond g Greater Equal))
    (cond r Less (cond s Equal Greater))) a b c
    ≡ cond (p || (is_eq (cond p Less (cond g Greater Equal)) && r)) a c
order_cases true g r s a b c h = refl
order_cases false true r s a b c h = refl
order_cases false false true s a b c h = refl
order_cases false false false true a b c h = absurd (true≢false h)
order_cases false false false false a b c h = refl

other_cases : (p g r s : Bool) → s ≡ false
    → is_eq (ordering_then (cond p Less (cond g Greater Equal))
    (cond r Less (cond s Equal Greater))) ≡ false
other_cases true g r s h = refl
other_cases false true r s h = refl
other_cases false false true s h = refl
other_cases false false false true h = absurd (true≢false h)
other_cases false false false false h = refl

same_cases : (p g r s : Bool) → p ≡ false → g ≡ false → r ≡ false → s ≡ true
    → is_eq (ordering_then (cond p Less (cond g Greater Equal))
    (cond r Less (cond s Equal Greater))) ≡ true
same_cases p g r s hp hg hr hs = rw (hp, hg, hr, hs) refl

apart_names : (a b : ℕ) → nat_eq a b ≡ false → (b == a) ≡ false
apart_names a b h = grind (arith, nat_tests)

same_names : (a b : ℕ) → a ≡ b → (a == b) ≡ true
same_names a b h = grind (arith, nat_tests)

not_less : (a b : ℕ) → a ≡ b → nat_lt a b ≡ false
not_less a b h = grind (arith, nat_tests)

not_below : (a b : ℤ) → a ≡ b → int_lt a b ≡ false
not_below a b h = grind (arith, ints)

named_cases : (name : ℕ) (x : OpenNode) (later : Option OpenNode) (t : Bool)
    → cond t (Some x) later ≡ None → (t ≡ false) × (later ≡ None)
named_cases name x later true h = absurd (none-some x (sym h))
named_cases name x later false h = (refl, h)

-- a node of a new name goes to the same place
pub insert_is : (node : OpenNode) (xs : List OpenNode) → first_named node.name xs ≡ None
    → insert_key node_cmp xs node ≡ insert_open node xs
insert_is node [] absent = refl
insert_is node (x ∷ xs) absent =
    let parts = named_cases node.name x (first_named node.name xs) (nat_eq x.name node.name)
    absent in
    order_cases (int_lt node.bound x.bound) (int_lt x.bound node.bound) (nat_lt node.name x.name)
    (node.name == x.name) (node ∷ x ∷ xs) (x ∷ xs) (x ∷ insert_key node_cmp xs node)
    (apart_names x.name node.name parts.0)
    ∙ ap (λ (more : List OpenNode). cond (is_before node x) (node ∷ x ∷ xs) (x ∷ more))
    (insert_is node xs parts.1)

bound_same : (t : Tree) (a b : OpenNode) → a.name ≡ b.name → HasBound t a → HasBound t b
    → a.bound ≡ b.bound
bound_same t a b same first second =
    same_Some a.bound b.bound (sym first.is ∙ ap (bound_of t) same ∙ second.is)

at_cases : (t : Tree) (node x : OpenNode) (b : Bool) → nat_eq x.name node.name ≡ b → HasBound t node
    → HasBound t x → is_at (node_cmp node) x ≡ b
at_cases t node x true is first second =
    let name = sym (same_from_test x.name node.name is) in
    let bound = bound_same t node x name first second in
    same_cases (int_lt node.bound x.bound) (int_lt x.bound node.bound) (nat_lt node.name x.name)
    (node.name == x.name) (not_below node.bound x.bound bound)
    (not_below x.bound node.bound (sym bound)) (not_less node.name x.name name)
    (same_names node.name x.name name)
at_cases t node x false is first second =
    other_cases (int_lt node.bound x.bound) (int_lt x.bound node.bound) (nat_lt node.name x.name)
    (node.name == x.name) (apart_names x.name node.name is)

remove_list : (t : Tree) (node : OpenNode) (xs : List OpenNode) → HasBound t node
    → All (HasBound t) xs → remove_key (is_at (node_cmp node)) xs ≡ without_node node.name xs
remove_list t node [] is all = refl
remove_list t node (x ∷ xs) is all =
    ap (λ (b : Bool). cond b xs (x ∷ remove_key (is_at (node_cmp node)) xs))
    (at_cases t node x (nat_eq x.name node.name) refl is (All-head (HasBound t) x xs all))
    ∙ ap (λ (more : List OpenNode). cond (nat_eq x.name node.name) xs (x ∷ more))
    (remove_list t node xs is (All-tail (HasBound t) x xs all))

node_cases : (name : ℕ) (bound : Option ℤ) (node : OpenNode) → with_name name bound ≡ Some node
    → (bound ≡ Some node.bound) × (node.name ≡ name)
node_cases name None node is = absurd (none-some node is)
node_cases name (Some z) node is =
    let same = same_Some (record { bound = z; name = name }) node is in
    (ap (λ (n : OpenNode). Some n.bound) same, ap (λ (n : OpenNode). n.name) (sym same))

no_bound : (name : ℕ) (bound : Option ℤ) → with_name name bound ≡ None → bound ≡ None
no_bound name None is = refl
no_bound name (Some z) is = absurd (none-some (record { bound = z; name = name }) (sym is))

-- the node of a name is taken out as it stands in the tree
pub remove_is : (t : Tree) (name : ℕ) (node : OpenNode) (xs ys : List OpenNode)
    → node_of t name ≡ Some node → HasOpenBounds t xs → ys ≡ remove_key (is_at (node_cmp node)) xs
    → ys ≡ without_node name xs
remove_is t name node xs ys is have taken =
    let parts = node_cases name (bound_of t name) node is in
    taken ∙ remove_list t node xs (record { is = ap (bound_of t) parts.1 ∙ parts.0 }) have.each
    ∙ ap (λ (n : ℕ). without_node n xs) parts.1

-- a view without the open node of a name
pub view_without : (v w : View) (name : ℕ) (ys : List OpenNode) → w ≡ v
    → ys ≡ without_node name w.open_nodes
    → record w { open_nodes = ys } ≡ record v { open_nodes = without_node name v.open_nodes }
view_without v w name ys same is =
    ap (λ (nodes : List OpenNode). record w { open_nodes = nodes }) is
    ∙ ap (λ (u : View). record u { open_nodes = without_node name u.open_nodes }) same

unnamed_cases : (t : Tree) (name : ℕ) (x : OpenNode) (b : Bool) → nat_eq x.name name ≡ b
    → bound_of t name ≡ None → HasBound t x → b ≡ false
unnamed_cases t name x true is none has =
    absurd (none-some x.bound
    (sym none ∙ ap (bound_of t) (sym (same_from_test x.name name is)) ∙ has.is))
unnamed_cases t name x false is none has = refl

unnamed : (t : Tree) (name : ℕ) (x : OpenNode) → bound_of t name ≡ None → HasBound t x
    → nat_eq x.name name ≡ false
unnamed t name x none has = unnamed_cases t name x (nat_eq x.name name) refl none has

absent_list : (t : Tree) (name : ℕ) (xs : List OpenNode) → bound_of t name ≡ None
    → All (HasBound t) xs → without_node name xs ≡ xs
absent_list t name [] none all = refl
absent_list t name (x ∷ xs) none all =
    ap (λ (b : Bool). cond b xs (x ∷ without_node name xs))
    (unnamed t name x none (All-head (HasBound t) x xs all))
    ∙ ap (λ (more : List OpenNode). x ∷ more)
    (absent_list t name xs none (All-tail (HasBound t) x xs all))

-- no open node has a name that the tree doesn't have
pub absent_is : (t : Tree) (name : ℕ) (xs : List OpenNode) → node_of t name ≡ None → HasOpenBounds t xs
    → without_node name xs ≡ xs
absent_is t name xs none have =
    absent_list t name xs (no_bound name (bound_of t name) none) have.each

none_named_list : (t : Tree) (name : ℕ) (xs : List OpenNode) → bound_of t name ≡ None
    → All (HasBound t) xs → first_named name xs ≡ None
none_named_list t name [] none all = refl
none_named_list t name (x ∷ xs) none all =
    ap (λ (b : Bool). cond b (Some x) (first_named name xs))
    (unnamed t name x none (All-head (HasBound t) x xs all))
    ∙ none_named_list t name xs none (All-tail (HasBound t) x xs all)

-- bounds that stay

pub bounds_without : (t : Tree) (name : ℕ) (xs ys : List OpenNode) → ys ≡ without_node name xs
    → HasOpenBounds t xs → HasOpenBounds t ys
bounds_without t name xs ys is have =
    record {
      each = subst (λ (zs : List OpenNode). All (HasBound t) zs) (sym is)
          (All-without_node (HasBound t) name xs have.each);
    }

bound_named : (t : Tree) (name : ℕ) → nat_eq name 0 ≡ false
    → bound_of t name ≡ child_bound (branch_of t.branches name)
bound_named t name named =
    ap (λ (b : Bool). cond b (Some t.root_bound) (child_bound (branch_of t.branches name))) named

pub bounds_with : (t : Tree) (v : View) (node : OpenNode) (xs ys : List OpenNode)
    → v.branches ≡ t.branches → ys ≡ insert_open node xs → IsFresh v node → HasOpenBounds t xs
    → HasOpenBounds t ys
bounds_with t v node xs ys same is fresh have =
    let bound : bound_of t node.name ≡ Some node.bound = bound_named t node.name fresh.named
    ∙ ap (λ (bs : List Branch). child_bound (branch_of bs node.name)) (sym same) ∙ fresh.bound in
    record {
      each = subst (λ (zs : List OpenNode). All (HasBound t) zs) (sym is)
          (All-insert_open (HasBound t) node xs (record { is = bound }) have.each);
    }

branch_cases : (b x : Branch) (bs : List Branch) (name : ℕ) (t : Bool) (y : Branch)
    → (branch_of bs name ≡ Some y → branch_of (bs ++ b ∷ []) name ≡ Some y)
    → cond t (Some x) (branch_of bs name) ≡ Some y
    → cond t (Some x) (branch_of (bs ++ b ∷ []) name) ≡ Some y
branch_cases b x bs name true y later is = is
branch_cases b x bs name false y later is = later is

branch_stays : (bs : List Branch) (b : Branch) (name : ℕ) (y : Branch) → branch_of bs name ≡ Some y
    → branch_of (bs ++ b ∷ []) name ≡ Some y
branch_stays [] b name y is = absurd (none-some y is)
branch_stays (x ∷ bs) b name y is =
    branch_cases b x bs name (is_child x name) y (branch_stays bs b name y) is

bound_cases : (o p : Option Branch) (z : ℤ) → ((y : Branch) → o ≡ Some y → p ≡ Some y)
    → child_bound o ≡ Some z → child_bound p ≡ Some z
bound_cases None p z stays is = absurd (none-some z is)
bound_cases (Some y) p z stays is = ap child_bound (stays y refl) ∙ is

root_cases : (b : Bool) (root : ℤ) (o p : Option Branch) (z : ℤ)
    → ((y : Branch) → o ≡ Some y → p ≡ Some y) → cond b (Some root) (child_bound o) ≡ Some z
    → cond b (Some root) (child_bound p) ≡ Some z
root_cases true root o p z stays is = is
root_cases false root o p z stays is = bound_cases o p z stays is

bound_stays : (root : ℤ) (bs : List Branch) (b : Branch) (x : OpenNode)
    → HasBound (record { root_bound = root; branches = bs }) x
    → HasBound (record { root_bound = root; branches = bs ++ b ∷ [] }) x
bound_stays root bs b x has =
    record {
      is = root_cases (nat_eq x.name 0) root (branch_of bs x.name)
          (branch_of (bs ++ b ∷ []) x.name) x.bound (branch_stays bs b x.name) has.is;
    }

-- the tree has the bounds of open nodes also after one branching more
pub bounds_after : (t u : Tree) (b : Branch) (xs : List OpenNode)
    → u ≡ record { root_bound = t.root_bound; branches = t.branches ++ b ∷ [] } → HasOpenBounds t xs
    → HasOpenBounds u xs
bounds_after t u b xs is have = record {
  each = subst (λ (w : Tree). All (HasBound w) xs) (sym is)
      (All-weaker (HasBound t) (HasBound (record
      { root_bound = t.root_bound; branches = t.branches ++ b ∷ [] }))
      (λ x has. bound_stays t.root_bound t.branches b x has) xs have.each);
}

-- the tree has the bound of the root
pub bounds_at_first : (t : Tree) (xs : List OpenNode) (bound : ℤ)
    → t ≡ record { root_bound = bound; branches = [] }
    → xs ≡ record { bound = bound; name = 0 } ∷ [] → HasOpenBounds t xs
bounds_at_first t xs bound is only = record {
  each = subst (λ (w : Tree). All (HasBound w) xs) (sym is)
      (subst (λ (ys : List OpenNode).
      All (HasBound (record { root_bound = bound; branches = [] })) ys) (sym only)
      (All-cons (HasBound (record { root_bound = bound; branches = [] }))
      (record { bound = bound; name = 0 }) [] (record { is = refl })
      (All-nil (HasBound (record { root_bound = bound; branches = [] })))));
}

-- new names

unknown : (v : View) (name : ℕ) → is_known v name ≡ false
    → (nat_eq 0 name ≡ false) × (list_any (λ b. is_child b name) v.branches ≡ false)
unknown v name h = or_false (nat_eq 0 name) (list_any (λ b. is_child b name) v.branches) h

pub new_branch : (v : View) (b : Branch) (first : ℕ) → b.first ≡ first → is_known v first ≡ false
    → is_known v (first + 1) ≡ false → IsNewBranch v.branches b
new_branch v b first is one two = record {
  first = subst (λ (n : ℕ). list_any (λ (c : Branch). is_child c n) v.branches ≡ false) (sym is)
      (unknown v first one).1;
  second = subst (λ (n : ℕ). list_any (λ (c : Branch). is_child c (n + 1)) v.branches ≡ false)
      (sym is) (unknown v (first + 1) two).1;
}

turned : (a b : ℕ) → nat_eq a b ≡ false → nat_eq b a ≡ false
turned a b h = grind (arith, nat_tests)

last_branch : (bs : List Branch) (b : Branch) (name : ℕ)
    → list_any (λ c. is_child c name) bs ≡ false → is_child b name ≡ true
    → branch_of (bs ++ b ∷ []) name ≡ Some b
last_branch [] b name new child = ap (λ (t : Bool). cond t (Some b) None) child
last_branch (x ∷ bs) b name new child =
    let parts = or_false (is_child x name) (list_any (λ c. is_child c name) bs) new in
    ap (λ (t : Bool). cond t (Some x) (branch_of (bs ++ b ∷ []) name)) parts.0
    ∙ last_branch bs b name parts.1 child

none_parts : (bs : List Branch) (name : ℕ) → list_any (λ c. is_child c name) bs ≡ false
    → branch_of bs name ≡ None
none_parts [] name new = refl
none_parts (x ∷ bs) name new =
    let parts = or_false (is_child x name) (list_any (λ c. is_child c name) bs) new in
    ap (λ (t : Bool). cond t (Some x) (branch_of bs name)) parts.0 ∙ none_parts bs name parts.1

-- a child of the last branching may be opened
fresh_child : (t : Tree) (v w : View) (xs : List OpenNode) (b : Branch) (node : OpenNode)
    → v.branches ≡ t.branches → w.open_nodes ≡ xs → w.branches ≡ t.branches ++ b ∷ []
    → HasOpenBounds t xs → is_known v node.name ≡ false → is_child b node.name ≡ true
    → b.bound ≡ node.bound → IsFresh w node
fresh_child t v w xs b node same nodes more have new child bound =
    let parts = unknown v node.name new in
    let named = turned 0 node.name parts.0 in
    let unmade : list_any (λ c. is_child c node.name) t.branches ≡ false =
    ap (λ (bs : List Branch). list_any (λ c. is_child c node.name) bs) (sym same) ∙ parts.1 in
    let none : bound_of t node.name ≡ None = bound_named t node.name named
    ∙ ap child_bound (none_parts t.branches node.name unmade) in
    record {
      apart = ap (first_named node.name) nodes ∙ none_named_list t node.name xs none have.each;
      named = named;
      bound = ap (λ (bs : List Branch). child_bound (branch_of bs node.name)) more
          ∙ ap child_bound (last_branch t.branches b node.name unmade child)
          ∙ ap (λ (z : ℤ). Some z) bound;
    }

pub fresh_low : (t : Tree) (v w : View) (xs : List OpenNode) (b : Branch) (node : OpenNode)
    → v.branches ≡ t.branches → w.open_nodes ≡ xs → w.branches ≡ t.branches ++ b ∷ []
    → HasOpenBounds t xs → is_known v node.name ≡ false → b.first ≡ node.name → b.bound ≡ node.bound
    → IsFresh w node
fresh_low t v w xs b node same nodes more have new first bound =
    fresh_child t v w xs b node same nodes more have new
    (or_first (nat_eq b.first node.name) (nat_eq (b.first + 1) node.name)
    (ap (λ (n : ℕ). nat_eq n node.name) first ∙ test_itself node.name)) bound

pub fresh_high : (t : Tree) (v w : View) (xs : List OpenNode) (b : Branch) (node : OpenNode)
    → v.branches ≡ t.branches → w.open_nodes ≡ xs → w.branches ≡ t.branches ++ b ∷ []
    → HasOpenBounds t xs → is_known v node.name ≡ false → b.first + 1 ≡ node.name → b.bound ≡ node.bound
    → IsFresh w node
fresh_high t v w xs b node same nodes more have new second bound =
    fresh_child t v w xs b node same nodes more have new
    (or_second (nat_eq b.first node.name) (nat_eq (b.first + 1) node.name)
    (ap (λ (n : ℕ). nat_eq n node.name) second ∙ test_itself node.name)) bound

still_none_cases : (name : ℕ) (node x : OpenNode) (xs more : List OpenNode) (before : Bool)
    → nat_eq node.name name ≡ false → nat_eq x.name name ≡ false → first_named name xs ≡ None
    → first_named name more ≡ None
    → first_named name (cond before (node ∷ x ∷ xs) (x ∷ more)) ≡ None
still_none_cases name node x xs more true here first others longer = rw (here, first) others
still_none_cases name node x xs more false here first others longer = rw first longer

still_none : (name : ℕ) (node : OpenNode) (xs : List OpenNode) → nat_eq node.name name ≡ false
    → first_named name xs ≡ None → first_named name (insert_open node xs) ≡ None
still_none name node [] here absent = rw here refl
still_none name node (x ∷ xs) here absent =
    let parts = named_cases name x (first_named name xs) (nat_eq x.name name) absent in
    still_none_cases name node x xs (insert_open node xs) (is_before node x) here parts.0 parts.1
    (still_none name node xs here parts.1)

-- a second child may be opened after the first
pub fresh_after : (v w : View) (low high : OpenNode)
    → w ≡ record v { open_nodes = insert_open low v.open_nodes } → nat_eq low.name high.name ≡ false
    → IsFresh v high → IsFresh w high
fresh_after v w low high is apart fresh = record {
  apart = ap (λ (u : View). first_named high.name u.open_nodes) is
      ∙ still_none high.name low v.open_nodes apart fresh.apart;
  named = fresh.named;
  bound = ap (λ (u : View). child_bound (branch_of u.branches high.name)) is ∙ fresh.bound;
}
