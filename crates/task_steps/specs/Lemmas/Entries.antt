-- What one more entry changes of a view.
use Rattle.std.proofs.Common.{◌≡◌, ◌∙◌, ℕ, zero, suc, ◌+◌, ◌≤◌, Bool, true, false, ◌||◌, nat_eq, List, [], ◌∷◌, ◌++◌, ℤ, ◌≤ℤ◌, refl, ap, arith}
use Rattle.std.specs.Int.{int_min}
use Rattle.std.specs.List.{list_any}
use Rattle.std.proofs.lemmas.Bool.{true≢false}
use Rattle.std.proofs.lemmas.Int.{ints, clamps}
use Rattle.std.proofs.lemmas.List.Folds.{list_any-append}
use Rattle.ip_core.specs.declared.model.ModelParts.{ModelParts}
use Rattle.work_stamp.specs.declared.entry.Entry.{Entry}
use Rattle.work_stamp.specs.declared.entry.Entry.TheVariants.{Start, CutStart, HeurStart, Done, Found, Cut, Split, Closed, Halt}
use Rattle.node_pool.specs.Branchings.{Branch, box_of, is_child}
use Rattle.node_pool.specs.Follows.{MayFollow, MayJoin, MaySplit}
use Rattle.node_pool.specs.Laws.{HasCutsOf}
use Rattle.node_pool.specs.Lemmas.Boxes.{boxes_are_parts}
use Rattle.node_pool.specs.Lemmas.Cuts.{children_cuts, cuts_are_derived}
use Rattle.node_pool.specs.Nodes.{insert_open}
use Rattle.node_pool.specs.Views.{View, after_entry, is_known, open_node, with_branch, with_children, without_held}
use Rattle.node_pool.specs.declared.node.OpenNode.{OpenNode}
use Rattle.task_steps.specs.Claims.{count_left, count_name, one_if}
use Rattle.task_steps.specs.Lemmas.NameCounts.{count_inserted, count_last, name_taken, open_taken}

-- whether an entry makes a name: a split makes those of both children
abbrev pub makes : Entry → ℕ → Bool
makes (Start node) name = false
makes CutStart name = false
makes (HeurStart node) name = false
makes Done name = false
makes (Found value point) name = false
makes (Cut derivation) name = false
makes (Split node col at first keep bound) name = nat_eq first name || nat_eq (first + 1) name
makes (Closed node) name = false
makes Halt name = false

-- how many nodes of a name an entry makes
abbrev pub made : Entry → ℕ → ℕ
made (Start node) name = 0
made CutStart name = 0
made (HeurStart node) name = 0
made Done name = 0
made (Found value point) name = 0
made (Cut derivation) name = 0
made (Split node col at first keep bound) name =
    one_if (nat_eq first name) + one_if (nat_eq (first + 1) name)
made (Closed node) name = 0
made Halt name = 0

-- and how many it is done with
abbrev pub gone : Entry → ℕ → ℕ
gone (Start node) name = 0
gone CutStart name = 0
gone (HeurStart node) name = 0
gone Done name = 0
gone (Found value point) name = 0
gone (Cut derivation) name = 0
gone (Split node col at first keep bound) name = one_if (nat_eq node name)
gone (Closed node) name = one_if (nat_eq node name)
gone Halt name = 0

-- whether an entry adds a cut
abbrev pub adds_cut : Entry → Bool
adds_cut (Start node) = false
adds_cut CutStart = false
adds_cut (HeurStart node) = false
adds_cut Done = false
adds_cut (Found value point) = false
adds_cut (Cut derivation) = true
adds_cut (Split node col at first keep bound) = false
adds_cut (Closed node) = false
adds_cut Halt = false

-- The view `w` after one more entry. Known names stay known, and their boxes stay; cuts stay; the
-- cutoff only falls; the nodes that are left, and those that are held, are the old ones but for
-- those that the entry is done with, and those that it makes.
pub record IsNext (m : ModelParts) (v w : View) (e : Entry) : Type 0 where
  pub names : (name : ℕ) → is_known w name ≡ (is_known v name || makes e name)
  pub counted : w.entries ≡ suc v.entries
  pub falls : w.cutoff ≤ℤ v.cutoff
  pub boxes : (name : ℕ) → is_known v name ≡ true
      → box_of m.root w.branches name ≡ box_of m.root v.branches name
  pub left : (name : ℕ) → count_left w name + gone e name ≡ count_left v name + made e name
  pub held : (name : ℕ)
      → count_name name v.held_nodes ≤ count_name name w.held_nodes + gone e name
  pub cuts : HasCutsOf v.cuts w.cuts
  pub same_cuts : adds_cut e ≡ false → w.cuts ≡ v.cuts
  pub cut_starts : v.cut_starts ≤ w.cut_starts

-- names

or_false : (b : Bool) → b ≡ (b || false)
or_false true = refl
or_false false = refl

three_tests : (a b c : Bool) → (a || (b || (c || false))) ≡ ((a || b) || c)
three_tests true b c = refl
three_tests false true c = refl
three_tests false false true = refl
three_tests false false false = refl

abbrev branch : ℕ → ℕ → ℤ → ℕ → ℤ → Branch
branch node col at first bound =
    record { node = node; col = col; at = at; first = first; bound = bound }

-- the view in which the children of a split come in
abbrev pub base_of : View → ℕ → ℕ → ℤ → ℕ → ℤ → View
base_of v node col at first bound =
    with_branch (without_held v node) (branch node col at first bound)

children_branches : (v : View) (low high : OpenNode) (keep : ℕ)
    → (with_children v low high keep).branches ≡ v.branches
children_branches v low high zero = refl
children_branches v low high (suc zero) = refl
children_branches v low high (suc (suc more)) = refl

last_known : (bs : List Branch) (b : Branch) (name : ℕ)
    → (nat_eq 0 name || list_any (λ (c : Branch). is_child c name) (bs ++ b ∷ []))
    ≡ ((nat_eq 0 name || list_any (λ (c : Branch). is_child c name) bs) || is_child b name)
last_known bs b name =
    ap (λ (t : Bool). nat_eq 0 name || t)
    (list_any-append (λ (c : Branch). is_child c name) bs (b ∷ []))
    ∙ three_tests (nat_eq 0 name) (list_any (λ (c : Branch). is_child c name) bs) (is_child b name)

split_names : (m : ModelParts) (v : View) (node col : ℕ) (at : ℤ) (first keep : ℕ) (bound : ℤ)
    (name : ℕ)
    → is_known (after_entry m v (Split node col at first keep bound)) name
    ≡ (is_known v name || (nat_eq first name || nat_eq (first + 1) name))
split_names m v node col at first keep bound name =
    ap (λ (bs : List Branch). nat_eq 0 name || list_any (λ (c : Branch). is_child c name) bs)
    (children_branches (base_of v node col at first bound) (open_node first bound)
    (open_node (first + 1) bound) keep)
    ∙ last_known v.branches (branch node col at first bound) name

names_after : (m : ModelParts) (v : View) (e : Entry) (name : ℕ)
    → is_known (after_entry m v e) name ≡ (is_known v name || makes e name)
names_after m v (Start node) name = or_false (is_known v name)
names_after m v CutStart name = or_false (is_known v name)
names_after m v (HeurStart node) name = or_false (is_known v name)
names_after m v Done name = or_false (is_known v name)
names_after m v (Found value point) name = or_false (is_known v name)
names_after m v (Cut derivation) name = or_false (is_known v name)
names_after m v (Split node col at first keep bound) name =
    split_names m v node col at first keep bound name
names_after m v (Closed node) name = or_false (is_known v name)
names_after m v Halt name = or_false (is_known v name)

-- the cutoff

children_cutoff : (v : View) (low high : OpenNode) (keep : ℕ)
    → (with_children v low high keep).cutoff ≡ v.cutoff
children_cutoff v low high zero = refl
children_cutoff v low high (suc zero) = refl
children_cutoff v low high (suc (suc more)) = refl

-- a split leaves the cutoff
pub split_cutoff : (m : ModelParts) (v : View) (node col : ℕ) (at : ℤ) (first keep : ℕ) (bound : ℤ)
    → (after_entry m v (Split node col at first keep bound)).cutoff ≡ v.cutoff
split_cutoff m v node col at first keep bound =
    children_cutoff (base_of v node col at first bound) (open_node first bound)
    (open_node (first + 1) bound) keep

not_above : (a b : ℤ) → a ≡ b → a ≤ℤ b
not_above a b same = omega (arith, ints)

least_falls : (a b : ℤ) → int_min a b ≤ℤ a
least_falls a b = omega (arith, ints, clamps)

cutoff_after : (m : ModelParts) (v : View) (e : Entry) → (after_entry m v e).cutoff ≤ℤ v.cutoff
cutoff_after m v (Start node) = not_above v.cutoff v.cutoff refl
cutoff_after m v CutStart = not_above v.cutoff v.cutoff refl
cutoff_after m v (HeurStart node) = not_above v.cutoff v.cutoff refl
cutoff_after m v Done = not_above v.cutoff v.cutoff refl
cutoff_after m v (Found value point) = least_falls v.cutoff value
cutoff_after m v (Cut derivation) = not_above v.cutoff v.cutoff refl
cutoff_after m v (Split node col at first keep bound) =
    not_above _ v.cutoff (split_cutoff m v node col at first keep bound)
cutoff_after m v (Closed node) = not_above v.cutoff v.cutoff refl
cutoff_after m v Halt = not_above v.cutoff v.cutoff refl

-- nodes

children_left : (v : View) (low high : OpenNode) (keep name : ℕ)
    → count_left (with_children v low high keep) name
    ≡ count_left v name + (one_if (nat_eq low.name name) + one_if (nat_eq high.name name))
children_left v low high zero name =
    let opened = count_inserted name high v.open_nodes in
    let held = count_last name low.name v.held_nodes in
    omega arith
children_left v low high (suc zero) name =
    let opened = count_inserted name low v.open_nodes in
    let held = count_last name high.name v.held_nodes in
    omega arith
children_left v low high (suc (suc more)) name =
    let one = count_inserted name low v.open_nodes in
    let two = count_inserted name high (insert_open low v.open_nodes) in
    omega (arith, one, two)

split_left : (m : ModelParts) (v : View) (node col : ℕ) (at : ℤ) (first keep : ℕ) (bound : ℤ)
    (name : ℕ) → MaySplit m v node col at first keep
    → count_left (after_entry m v (Split node col at first keep bound)) name
    + one_if (nat_eq node name)
    ≡ count_left v name + (one_if (nat_eq first name) + one_if (nat_eq (first + 1) name))
split_left m v node col at first keep bound name may =
    let taken = name_taken name node v.held_nodes may.held.among in
    let come = children_left (base_of v node col at first bound) (open_node first bound)
    (open_node (first + 1) bound) keep name in
    omega (arith, taken, come)

left_after : (m : ModelParts) (v : View) (e : Entry) (name : ℕ) → MayJoin m v e
    → count_left (after_entry m v e) name + gone e name ≡ count_left v name + made e name
left_after m v (Start node) name may =
    let taken = open_taken name node may.node v.open_nodes may.first in
    let last = count_last name node v.held_nodes in
    omega (arith, taken, last)
left_after m v CutStart name may = refl
left_after m v (HeurStart node) name may = refl
left_after m v Done name may = refl
left_after m v (Found value point) name may = refl
left_after m v (Cut derivation) name may = refl
left_after m v (Split node col at first keep bound) name may =
    split_left m v node col at first keep bound name may
left_after m v (Closed node) name may =
    let taken = name_taken name node v.held_nodes may.among in omega (arith, taken)
left_after m v Halt name may = refl

children_held : (v : View) (low high : OpenNode) (keep name : ℕ)
    → count_name name v.held_nodes ≤ count_name name (with_children v low high keep).held_nodes
children_held v low high zero name =
    let last = count_last name low.name v.held_nodes in omega (arith, last)
children_held v low high (suc zero) name =
    let last = count_last name high.name v.held_nodes in omega (arith, last)
children_held v low high (suc (suc more)) name = omega arith

held_after : (m : ModelParts) (v : View) (e : Entry) (name : ℕ) → MayJoin m v e
    → count_name name v.held_nodes
    ≤ count_name name (after_entry m v e).held_nodes + gone e name
held_after m v (Start node) name may =
    let last = count_last name node v.held_nodes in omega (arith, last)
held_after m v CutStart name may = omega arith
held_after m v (HeurStart node) name may = omega arith
held_after m v Done name may = omega arith
held_after m v (Found value point) name may = omega arith
held_after m v (Cut derivation) name may = omega arith
held_after m v (Split node col at first keep bound) name may =
    let taken = name_taken name node v.held_nodes may.held.among in
    let kept = children_held (base_of v node col at first bound) (open_node first bound)
    (open_node (first + 1) bound) keep name in
    omega (arith, taken, kept)
held_after m v (Closed node) name may =
    let taken = name_taken name node v.held_nodes may.among in omega (arith, taken)
held_after m v Halt name may = omega arith

-- cuts

cuts_same : (m : ModelParts) (v : View) (e : Entry) → adds_cut e ≡ false
    → (after_entry m v e).cuts ≡ v.cuts
cuts_same m v (Start node) none = refl
cuts_same m v CutStart none = refl
cuts_same m v (HeurStart node) none = refl
cuts_same m v Done none = refl
cuts_same m v (Found value point) none = refl
cuts_same m v (Cut derivation) none = absurd (true≢false none)
cuts_same m v (Split node col at first keep bound) none =
    children_cuts (base_of v node col at first bound) (open_node first bound)
    (open_node (first + 1) bound) keep
cuts_same m v (Closed node) none = refl
cuts_same m v Halt none = refl

children_cut_starts : (v : View) (low high : OpenNode) (keep : ℕ)
    → (with_children v low high keep).cut_starts ≡ v.cut_starts
children_cut_starts v low high zero = refl
children_cut_starts v low high (suc zero) = refl
children_cut_starts v low high (suc (suc more)) = refl

no_fewer : (a b : ℕ) → b ≡ a → a ≤ b
no_fewer a b same = omega (arith, same)

cut_starts_after : (m : ModelParts) (v : View) (e : Entry)
    → v.cut_starts ≤ (after_entry m v e).cut_starts
cut_starts_after m v (Start node) = no_fewer v.cut_starts v.cut_starts refl
cut_starts_after m v CutStart = omega arith
cut_starts_after m v (HeurStart node) = no_fewer v.cut_starts v.cut_starts refl
cut_starts_after m v Done = no_fewer v.cut_starts v.cut_starts refl
cut_starts_after m v (Found value point) = no_fewer v.cut_starts v.cut_starts refl
cut_starts_after m v (Cut derivation) = no_fewer v.cut_starts v.cut_starts refl
cut_starts_after m v (Split node col at first keep bound) =
    no_fewer v.cut_starts _ (children_cut_starts (base_of v node col at first bound)
    (open_node first bound) (open_node (first + 1) bound) keep)
cut_starts_after m v (Closed node) = no_fewer v.cut_starts v.cut_starts refl
cut_starts_after m v Halt = no_fewer v.cut_starts v.cut_starts refl

one_more : (n : ℕ) → n + 1 ≡ suc n
one_more n = omega arith

-- an entry that may follow
pub next_of : (m : ModelParts) (v : View) (e : Entry) → MayFollow m v e
    → IsNext m v (after_entry m v e) e
next_of m v e follows = record {
  names = names_after m v e;
  counted = one_more v.entries;
  falls = cutoff_after m v e;
  boxes = λ name known. boxes_are_parts.stays m v e m.root name follows known;
  left = λ name. left_after m v e name follows.joins;
  held = λ name. held_after m v e name follows.joins;
  cuts = cuts_are_derived.stay m v e;
  same_cuts = cuts_same m v e;
  cut_starts = cut_starts_after m v e;
}
