-- Partings of a search: each names new children, which only later entries part.
use Rattle.std.proofs.Common.{◌≡◌, ◌∙◌, ℕ, ◌+◌, ◌<◌, ◌-◌, ◌^◌, ◌≤ℤ◌, ◌<ℤ◌, Bool, true, false, cond, ◌||◌, nat_eq, List, [], ◌∷◌, ◌++◌, ℤ, pos, Option, Some, None, refl, sym, ap, subst, arith}
use Rattle.std.proofs.lemmas.Bool.{true≢false}
use Rattle.std.proofs.lemmas.Int.{ints}
use Rattle.std.proofs.lemmas.Option.{none-some, same_Some}
use Rattle.ip_core.specs.declared.leaf.Record.{Record}
use Rattle.ip_core.specs.declared.model.ModelParts.{ModelParts}
use Rattle.work_stamp.specs.declared.entry.Entry.{Entry}
use Rattle.work_stamp.specs.declared.entry.Entry.TheVariants.{Start, CutStart, HeurStart, Done, Found, Cut, Split, Closed, Halt}
use Rattle.work_stamp.specs.declared.stamped.KeyedEntry.{KeyedEntry}
use Rattle.work_stamp.specs.Histories.{FollowInTurn}
use Rattle.node_pool.specs.Branchings.{HasSuccessors}
use Rattle.node_pool.specs.Follows.{MayFollow, MayJoin, MaySplit}
use Rattle.node_pool.specs.Laws.{AreKnown}
use Rattle.node_pool.specs.Lemmas.Boxes.{boxes_are_parts}
use Rattle.node_pool.specs.Lemmas.Joining.{view_next}
use Rattle.node_pool.specs.Views.{View, after_entry, fresh_view, is_known, view_of}
use Rattle.node_pool.specs.declared.settings.SearchSettings.{SearchSettings}
use Rattle.task_steps.specs.Agrees.{MayFollowIn}
use Rattle.task_steps.specs.Answers.{splits_alone}
use Rattle.task_steps.specs.Truth.{IsHistory}
use Rattle.task_steps.specs.Lemmas.Entries.{makes, next_of}
use Rattle.task_steps.specs.Lemmas.Fitting.{held_known}
use Rattle.task_steps.specs.Lemmas.NameCounts.{eq_from_test}
use Rattle.tree_cert.specs.declared.node.CertNode.{CertNode}
use Rattle.tree_cert.specs.declared.node.CertNode.TheVariants.{Leaf as Ends}
use Rattle.tree_build.specs.Partings.{first_parting, of_node, parting_of, parting_or}
use Rattle.tree_build.specs.ProofTrees.{leaf_named, parted, split_node, tree_of}
use Rattle.tree_build.specs.declared.parting.Parting.{Parting}

-- each entry may follow the view of those before it
abbrev pub Follows : ModelParts → View → List KeyedEntry → Type 0
Follows m v [] = Unit {0}
Follows m v (e ∷ es) = MayFollow m v e.entry × Follows m (after_entry m v e.entry) es

pub follows_view : (m : ModelParts) (settings : SearchSettings) (front es : List KeyedEntry)
    → FollowInTurn (MayFollowIn m settings) front es → Follows m (view_of m settings front) es
follows_view m settings front [] follow = tt
follows_view m settings front (e ∷ es) follow = (
  follow.0,
  subst (λ (v : View). Follows m v es) (view_next m (fresh_view m settings) front e)
      (follows_view m settings (front ++ e ∷ []) es follow.1),
)

-- a history of the model's search from its first view on
pub follows_first : (m : ModelParts) (es : List KeyedEntry) → IsHistory m es
    → Follows m (fresh_view m splits_alone) es
follows_first m es history = follows_view m splits_alone [] es history.follow

-- a parting of a node that is known: the children are new, and the numbers have successors
pub record IsNewParting (v : View) (p : Parting) : Type 0 where
  pub first : is_known v p.first ≡ false
  pub second : is_known v (p.first + 1) ≡ false
  pub successors : HasSuccessors p.at p.first

number_next : (z : ℤ) → z ≤ℤ pos (2 ^ 31) → z <ℤ pos (2 ^ 62)
number_next z below = omega (arith, ints, below)

name_next : (n : ℕ) → n < 2 ^ 64 - 1 → n + 1 < 2 ^ 64
name_next n room = omega (arith, room)

abbrev parting : ℕ → ℕ → ℤ → ℕ → Parting
parting node col at first = record { node = node; col = col; at = at; first = first }

split_new : (m : ModelParts) (v : View) (node col : ℕ) (at : ℤ) (first keep : ℕ)
    → MaySplit m v node col at first keep → IsNewParting v (parting node col at first)
split_new m v node col at first keep may = record {
  first = may.first_new;
  second = may.second_new;
  successors = record {
    number = number_next at may.cut.below;
    name = name_next first may.room;
  };
}

node_cases : (v : View) (name : ℕ) (q p : Parting) (t : Bool) → IsNewParting v q
    → cond t (Some q) None ≡ Some p → IsNewParting v p
node_cases v name q p true new is = subst (IsNewParting v) (same_Some q p is) new
node_cases v name q p false new is = absurd (none-some p is)

-- an entry that parts a node
new_here : (m : ModelParts) (v : View) (e : Entry) (name : ℕ) (p : Parting) → MayJoin m v e
    → of_node name (parting_of e) ≡ Some p → IsNewParting v p
new_here m v (Start node) name p may is = absurd (none-some p is)
new_here m v CutStart name p may is = absurd (none-some p is)
new_here m v (HeurStart node) name p may is = absurd (none-some p is)
new_here m v Done name p may is = absurd (none-some p is)
new_here m v (Found value point) name p may is = absurd (none-some p is)
new_here m v (Cut derivation) name p may is = absurd (none-some p is)
new_here m v (Split node col at first keep bound) name p may is =
    node_cases v name (parting node col at first) p (nat_eq node name)
    (split_new m v node col at first keep may) is
new_here m v (Closed node) name p may is = absurd (none-some p is)
new_here m v Halt name p may is = absurd (none-some p is)

apart_cases : (v : View) (name : ℕ) (q : Parting) (t : Bool) → nat_eq q.node name ≡ t
    → is_known v q.node ≡ true → is_known v name ≡ false → cond t (Some q) None ≡ None
apart_cases v name q true is known new =
    absurd (true≢false (sym known ∙ ap (λ (n : ℕ). is_known v n) (eq_from_test q.node name is)
    ∙ new))
apart_cases v name q false is known new = refl

-- an entry parts no node that is new
none_new : (m : ModelParts) (v : View) (e : Entry) (name : ℕ) → AreKnown v → MayJoin m v e
    → is_known v name ≡ false → of_node name (parting_of e) ≡ None
none_new m v (Start node) name known may new = refl
none_new m v CutStart name known may new = refl
none_new m v (HeurStart node) name known may new = refl
none_new m v Done name known may new = refl
none_new m v (Found value point) name known may new = refl
none_new m v (Cut derivation) name known may new = refl
none_new m v (Split node col at first keep bound) name known may new =
    apart_cases v name (parting node col at first) (nat_eq node name) refl
    (held_known v node known may.held) new
none_new m v (Closed node) name known may new = refl
none_new m v Halt name known may new = refl

or_none : (a b : Bool) → (a || b) ≡ false → a ≡ false
or_none true b h = absurd (true≢false h)
or_none false b h = refl

-- what is new after an entry was new before it
new_before : (m : ModelParts) (v : View) (e : Entry) (name : ℕ) → MayFollow m v e
    → is_known (after_entry m v e) name ≡ false → is_known v name ≡ false
new_before m v e name may new =
    or_none (is_known v name) (makes e name) (sym ((next_of m v e may).names name) ∙ new)

parting_before : (m : ModelParts) (v : View) (e : Entry) (p : Parting) → MayFollow m v e
    → IsNewParting (after_entry m v e) p → IsNewParting v p
parting_before m v e p may new = record {
  first = new_before m v e p.first may new.first;
  second = new_before m v e (p.first + 1) may new.second;
  successors = new.successors;
}

new_cases : (m : ModelParts) (v : View) (e : Entry) (name : ℕ) (p : Parting) (o later : Option Parting)
    → of_node name (parting_of e) ≡ o → MayFollow m v e
    → (later ≡ Some p → IsNewParting (after_entry m v e) p) → parting_or o later ≡ Some p
    → IsNewParting v p
new_cases m v e name p None later is may rest found =
    parting_before m v e p may (rest found)
new_cases m v e name p (Some q) later is may rest found =
    new_here m v e name p may.joins (is ∙ found)

-- the first parting of a node
pub first_new : (m : ModelParts) (v : View) (es : List KeyedEntry) (name : ℕ) (p : Parting)
    → Follows m v es → first_parting es name ≡ Some p → IsNewParting v p
first_new m v [] name p follow found = absurd (none-some p found)
first_new m v (e ∷ es) name p follow found =
    new_cases m v e.entry name p (of_node name (parting_of e.entry)) (first_parting es name) refl
    follow.0 (first_new m (after_entry m v e.entry) es name p follow.1) found

-- ---- trees

-- a node that is new to an entry has the same tree with it and without it
same_tree : (m : ModelParts) (v : View) (records : List Record) (e : KeyedEntry)
    (es : List KeyedEntry) (name : ℕ) → AreKnown v → MayFollow m v e.entry
    → is_known v name ≡ false → tree_of records es name ≡ tree_of records (e ∷ es) name
same_tree m v records e es name known may new =
    sym (ap (λ (o : Option Parting). parted o name (tree_of records es))
    (none_new m v e.entry name known may.joins new))

-- the node of a parting, before the trees of its children
abbrev pub parted_tree : List Record → List KeyedEntry → Parting → List CertNode
parted_tree records es p =
    split_node p ∷ (tree_of records es p.first ++ tree_of records es (p.first + 1))

same_children : (m : ModelParts) (v : View) (records : List Record) (e : KeyedEntry)
    (es : List KeyedEntry) (p : Parting) → AreKnown v → MayFollow m v e.entry → IsNewParting v p
    → parted_tree records es p ≡ parted_tree records (e ∷ es) p
same_children m v records e es p known may new =
    ap (λ (low : List CertNode). split_node p ∷ (low ++ tree_of records es (p.first + 1)))
    (same_tree m v records e es p.first known may new.first)
    ∙ ap (λ (high : List CertNode). split_node p ∷ (tree_of records (e ∷ es) p.first ++ high))
    (same_tree m v records e es (p.first + 1) known may new.second)

split_cases : (records : List Record) (es : List KeyedEntry) (name : ℕ) (p : Parting)
    (o later : Option Parting) → parting_or o later ≡ Some p
    → (later ≡ Some p → tree_of records es name ≡ parted_tree records es p)
    → parted o name (tree_of records es) ≡ parted_tree records es p
split_cases records es name p None later found rest = rest found
split_cases records es name p (Some q) later found rest =
    ap (parted_tree records es) (same_Some q p found)

-- the tree of a node that is parted
pub split_tree : (m : ModelParts) (v : View) (records : List Record) (es : List KeyedEntry)
    (name : ℕ) (p : Parting) → AreKnown v → Follows m v es → first_parting es name ≡ Some p
    → tree_of records es name ≡ parted_tree records es p
split_tree m v records [] name p known follow found = absurd (none-some p found)
split_tree m v records (e ∷ es) name p known follow found =
    split_cases records es name p (of_node name (parting_of e.entry)) (first_parting es name) found
    (split_tree m (after_entry m v e.entry) records es name p
    (boxes_are_parts.known_after m v e.entry known follow.0) follow.1)
    ∙ same_children m v records e es p known follow.0 (first_new m v (e ∷ es) name p follow found)

leaf_cases : (records : List Record) (es : List KeyedEntry) (name : ℕ) (o later : Option Parting)
    → parting_or o later ≡ None
    → (later ≡ None → tree_of records es name ≡ Ends (leaf_named records name) ∷ [])
    → parted o name (tree_of records es) ≡ Ends (leaf_named records name) ∷ []
leaf_cases records es name None later none rest = rest none
leaf_cases records es name (Some q) later none rest = absurd (none-some q (sym none))

-- the tree of a node that isn't
pub leaf_tree : (records : List Record) (es : List KeyedEntry) (name : ℕ)
    → first_parting es name ≡ None
    → tree_of records es name ≡ Ends (leaf_named records name) ∷ []
leaf_tree records [] name none = refl
leaf_tree records (e ∷ es) name none =
    leaf_cases records es name (of_node name (parting_of e.entry)) (first_parting es name) none
    (leaf_tree records es name)
