-- The open nodes stand in the order of their picking.
use Rattle.std.proofs.Common.{◌≡◌, ◌∙◌, ℕ, zero, suc, ◌+◌, ◌≤◌, ◌⊎◌, inl, inr, Bool, true, false, cond, ◌&&◌, ◌||◌, nat_lt, List, [], ◌∷◌, ℤ, ◌<ℤ◌, ◌≤ℤ◌, int_lt, Some, All, Contains, refl, sym, subst, arith}
use Rattle.std.specs.Ordering.{int_eq}
use Rattle.std.proofs.lemmas.Bool.{or_cases, true≢false}
use Rattle.std.proofs.lemmas.Bool.Decides.{Decides-int_eq, nat_tests}
use Rattle.std.proofs.lemmas.Int.{ints}
use Rattle.std.proofs.lemmas.List.Elements.{All-cons, All-head, All-nil, All-tail, All-weaker}
use Rattle.std.proofs.lemmas.Option.{none-some, same_Some}
use Rattle.ip_core.specs.declared.model.ModelParts.{ModelParts}
use Rattle.work_stamp.specs.declared.entry.Entry.{Entry}
use Rattle.work_stamp.specs.declared.entry.Entry.TheVariants.{Start, CutStart, HeurStart, Done, Found, Cut, Split, Closed, Halt}
use Rattle.work_stamp.specs.declared.stamped.KeyedEntry.{KeyedEntry}
use Rattle.node_pool.specs.Laws.{BestIsLeast, IsNoLater}
use Rattle.node_pool.specs.Nodes.{insert_open, is_before, without_node}
use Rattle.node_pool.specs.Picks.{first_name}
use Rattle.node_pool.specs.Views.{View, fresh_view, without_held, open_node, after_entry, view_after, view_of, with_branch, with_children}
use Rattle.node_pool.specs.declared.node.OpenNode.{OpenNode}
use Rattle.node_pool.specs.declared.settings.SearchSettings.{SearchSettings}

-- tests

and_true : (a b : Bool) → (a && b) ≡ true → (a ≡ true) × (b ≡ true)
and_true true b h = (refl, h)
and_true false b h = absurd (true≢false (sym h))

pub or_false : (a b : Bool) → (a || b) ≡ false → (a ≡ false) × (b ≡ false)
or_false true b h = absurd (true≢false h)
or_false false b h = (refl, h)

-- what all nodes of a list have

all_insert_cases : (P : OpenNode → Type 0) (node x : OpenNode) (xs more : List OpenNode)
    (before : Bool) → P node → P x → All P xs → All P more
    → All P (cond before (node ∷ x ∷ xs) (x ∷ more))
all_insert_cases P node x xs more true here first others longer =
    All-cons P node (x ∷ xs) here (All-cons P x xs first others)
all_insert_cases P node x xs more false here first others longer = All-cons P x more first longer

pub All-insert_open : (P : OpenNode → Type 0) (node : OpenNode) (xs : List OpenNode) → P node
    → All P xs → All P (insert_open node xs)
All-insert_open P node [] here all = All-cons P node [] here all
All-insert_open P node (x ∷ xs) here all =
    let first = All-head P x xs all in
    let others = All-tail P x xs all in
    all_insert_cases P node x xs (insert_open node xs) (is_before node x) here first others
    (All-insert_open P node xs here others)

all_without_cases : (P : OpenNode → Type 0) (x : OpenNode) (xs fewer : List OpenNode) (same : Bool)
    → P x → All P xs → All P fewer → All P (cond same xs (x ∷ fewer))
all_without_cases P x xs fewer true first others rest = others
all_without_cases P x xs fewer false first others rest = All-cons P x fewer first rest

pub All-without_node : (P : OpenNode → Type 0) (name : ℕ) (xs : List OpenNode) → All P xs
    → All P (without_node name xs)
All-without_node P name [] all = all
All-without_node P name (x ∷ xs) all =
    all_without_cases P x xs (without_node name xs) _ (All-head P x xs all) (All-tail P x xs all)
    (All-without_node P name xs (All-tail P x xs all))

-- the order

lt_from_test : (a b : ℤ) → int_lt a b ≡ true → a <ℤ b
lt_from_test a b h = grind (arith, ints)

le_from_failed : (a b : ℤ) → int_lt a b ≡ false → b ≤ℤ a
le_from_failed a b h = grind (arith, ints)

less_or_same : (a b : ℤ) → b ≤ℤ a → (b <ℤ a) ⊎ (b ≡ a)
less_or_same a b h = grind (arith, ints)

name_cases : (a b : OpenNode)
    → (int_lt a.bound b.bound ≡ true) ⊎ ((int_eq a.bound b.bound && nat_lt a.name b.name) ≡ true)
    → IsNoLater a b
name_cases a b (inl less) = inl (lt_from_test a.bound b.bound less)
name_cases a b (inr same) =
    let parts = and_true (int_eq a.bound b.bound) (nat_lt a.name b.name) same in
    let less = parts.1 in
    inr ((Decides-int_eq a.bound b.bound).0 parts.0, grind (arith, nat_tests))

before_is : (a b : OpenNode) → is_before a b ≡ true → IsNoLater a b
before_is a b h = name_cases a b (or_cases (int_lt a.bound b.bound)
    (int_eq a.bound b.bound && nat_lt a.name b.name) h)

fails_second : (a b : Bool) → (a && b) ≡ false → a ≡ true → b ≡ false
fails_second true b h is = h
fails_second false b h is = absurd (true≢false (sym is))

name_at_most : (a b : OpenNode) → nat_lt a.name b.name ≡ false → b.name ≤ a.name
name_at_most a b h = grind (arith, nat_tests)

failed_cases : (a b : OpenNode) → (int_eq a.bound b.bound && nat_lt a.name b.name) ≡ false
    → (b.bound <ℤ a.bound) ⊎ (b.bound ≡ a.bound) → IsNoLater b a
failed_cases a b failed (inl less) = inl less
failed_cases a b failed (inr same) =
    inr (
      same,
      name_at_most a b
          (fails_second (int_eq a.bound b.bound) (nat_lt a.name b.name) failed
          ((Decides-int_eq a.bound b.bound).1 (sym same))),
    )

not_before : (a b : OpenNode) → is_before a b ≡ false → IsNoLater b a
not_before a b h =
    let parts = or_false (int_lt a.bound b.bound) (int_eq a.bound b.bound && nat_lt a.name b.name)
    h in
    failed_cases a b parts.1 (less_or_same a.bound b.bound (le_from_failed a.bound b.bound parts.0))

itself : (a : OpenNode) → IsNoLater a a
itself a = inr (refl, omega arith)

in_turn : (a b c : OpenNode) → IsNoLater a b → IsNoLater b c → IsNoLater a c
in_turn a b c (inl x) (inl y) = inl (omega (arith, ints))
in_turn a b c (inl x) (inr y) = inl (subst (λ (z : ℤ). a.bound <ℤ z) y.0 x)
in_turn a b c (inr x) (inl y) = inl (subst (λ (z : ℤ). z <ℤ c.bound) (sym x.0) y)
in_turn a b c (inr x) (inr y) =
    inr (x.0 ∙ y.0, (let first = x.1 in let second = y.1 in omega arith))

-- lists in order

abbrev IsOrdered : List OpenNode → Type 0
IsOrdered [] = Unit {0}
IsOrdered (x ∷ xs) = All (IsNoLater x) xs × IsOrdered xs

insert_cases : (node x : OpenNode) (xs : List OpenNode) (before : Bool) → is_before node x ≡ before
    → All (IsNoLater x) xs → IsOrdered xs → IsOrdered (insert_open node xs)
    → IsOrdered (cond before (node ∷ x ∷ xs) (x ∷ insert_open node xs))
insert_cases node x xs true is first ordered longer =
    let here = before_is node x is in (
      All-cons (IsNoLater node) x xs here
          (All-weaker (IsNoLater x) (IsNoLater node) (λ y after. in_turn node x y here after) xs
          first),
      (first, ordered),
    )
insert_cases node x xs false is first ordered longer =
    (All-insert_open (IsNoLater x) node xs (not_before node x is) first, longer)

insert_ordered : (node : OpenNode) (xs : List OpenNode) → IsOrdered xs
    → IsOrdered (insert_open node xs)
insert_ordered node [] ordered = (All-nil (IsNoLater node), tt)
insert_ordered node (x ∷ xs) ordered =
    insert_cases node x xs (is_before node x) refl ordered.0 ordered.1
    (insert_ordered node xs ordered.1)

without_cases : (x : OpenNode) (xs fewer : List OpenNode) (same : Bool) → IsOrdered xs
    → All (IsNoLater x) fewer → IsOrdered fewer → IsOrdered (cond same xs (x ∷ fewer))
without_cases x xs fewer true ordered first rest = ordered
without_cases x xs fewer false ordered first rest = (first, rest)

without_ordered : (name : ℕ) (xs : List OpenNode) → IsOrdered xs → IsOrdered (without_node name xs)
without_ordered name [] ordered = tt
without_ordered name (x ∷ xs) ordered =
    without_cases x xs (without_node name xs) _ ordered.1
    (All-without_node (IsNoLater x) name xs ordered.0) (without_ordered name xs ordered.1)

-- views

children_ordered : (v : View) (low high : OpenNode) (keep : ℕ) → IsOrdered v.open_nodes
    → IsOrdered (with_children v low high keep).open_nodes
children_ordered v low high zero ordered = insert_ordered high v.open_nodes ordered
children_ordered v low high (suc zero) ordered = insert_ordered low v.open_nodes ordered
children_ordered v low high (suc (suc more)) ordered =
    insert_ordered high (insert_open low v.open_nodes) (insert_ordered low v.open_nodes ordered)

entry_ordered : (m : ModelParts) (v : View) (e : Entry) → IsOrdered v.open_nodes
    → IsOrdered (after_entry m v e).open_nodes
entry_ordered m v (Start node) ordered = without_ordered node v.open_nodes ordered
entry_ordered m v CutStart ordered = ordered
entry_ordered m v (HeurStart node) ordered = ordered
entry_ordered m v Done ordered = ordered
entry_ordered m v (Found value point) ordered = ordered
entry_ordered m v (Cut derivation) ordered = ordered
entry_ordered m v (Split node col at first keep bound) ordered =
    children_ordered (with_branch (without_held v node)
    (record { node = node; col = col; at = at; first = first; bound = bound }))
    (open_node first bound) (open_node (first + 1) bound) keep ordered
entry_ordered m v (Closed node) ordered = ordered
entry_ordered m v Halt ordered = ordered

all_ordered : (m : ModelParts) (v : View) (es : List KeyedEntry) → IsOrdered v.open_nodes
    → IsOrdered (view_after m v es).open_nodes
all_ordered m v [] ordered = ordered
all_ordered m v (e ∷ es) ordered =
    all_ordered m (after_entry m v e.entry) es (entry_ordered m v e.entry ordered)

-- at every history they do
pub history_ordered : (m : ModelParts) (settings : SearchSettings) (history : List KeyedEntry)
    → IsOrdered (view_of m settings history).open_nodes
history_ordered m settings history =
    all_ordered m (fresh_view m settings) history (All-nil (IsNoLater (open_node 0 _)), tt)

-- the first node of an ordered list comes no later than any
first_best : (nodes : List OpenNode) (name : ℕ) → IsOrdered nodes → first_name nodes ≡ Some name
    → (node : OpenNode) × ((node.name ≡ name) × (Contains nodes node × All (IsNoLater node) nodes))
first_best [] name ordered is = absurd (none-some name is)
first_best (x ∷ xs) name ordered is = (
  x,
  (
    same_Some x.name name is,
    ((0, omega arith, refl), All-cons (IsNoLater x) x xs (itself x) ordered.0),
  ),
)

pub best_is_least : BestIsLeast
best_is_least m settings history name is =
    let found = first_best (view_of m settings history).open_nodes name
    (history_ordered m settings history) is in
    record { node = found.0; named = found.1.0; among = found.1.1.0; best = found.1.1.1 }
