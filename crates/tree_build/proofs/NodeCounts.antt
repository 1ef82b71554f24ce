-- How many nodes the trees of a history have.
use Rattle.std.proofs.Common.{◌≡◌, ◌∙◌, ℕ, zero, suc, ◌+◌, ◌*◌, ◌≤◌, ◌⊎◌, inl, inr, Bool, true, false, cond, ◌||◌, nat_eq, if◌then◌else◌, List, [], ◌∷◌, ◌++◌, length, Option, Some, None, refl, sym, ap, subst, arith}
use Rattle.std.proofs.lemmas.Bool.{true≢false}
use Rattle.std.proofs.lemmas.List.{length-append}
use Rattle.std.proofs.lemmas.Option.{none-some, same_Some}
use Rattle.ip_core.specs.declared.leaf.Record.{Record}
use Rattle.ip_core.specs.declared.model.ModelParts.{ModelParts}
use Rattle.work_stamp.specs.declared.entry.Entry.{Entry}
use Rattle.work_stamp.specs.declared.entry.Entry.TheVariants.{Start, CutStart, HeurStart, Done, Found, Cut, Split, Closed, Halt}
use Rattle.work_stamp.specs.declared.stamped.KeyedEntry.{KeyedEntry}
use Rattle.node_pool.specs.Follows.{MayFollow}
use Rattle.node_pool.specs.Lemmas.Boxes.{or_first, or_second}
use Rattle.node_pool.specs.Views.{View, after_entry, is_known}
use Rattle.task_steps.specs.Claims.{count_name, one_if}
use Rattle.task_steps.specs.Lemmas.Entries.{makes, next_of}
use Rattle.task_steps.specs.Lemmas.NameCounts.{eq_from_test, one_at_most, test_itself}
use Rattle.tree_build.specs.Partings.{of_node, parting_of}
use Rattle.tree_build.specs.ProofTrees.{parted, split_node, tree_of}
use Rattle.tree_build.specs.declared.parting.Parting.{Parting}
use Rattle.tree_build.proofs.Partings.{Follows}

-- ---- names and their children

-- names that are known, each once
pub record AreDistinct (v : View) (names : List ℕ) : Type 0 where
  pub once : (name : ℕ) → count_name name names ≤ 1
  pub known : (name : ℕ) → 1 ≤ count_name name names → is_known v name ≡ true

-- the names with those of the children in the place of the node that is parted
abbrev with_children : Parting → List ℕ → List ℕ
with_children p [] = []
with_children p (name ∷ names) =
    if nat_eq p.node name then p.first ∷ (p.first + 1) ∷ names else name ∷ with_children p names

-- the children of a parting are new, and are the names that its entry makes
record HasNewChildren (v w : View) (p : Parting) : Type 0 where
  first_new : is_known v p.first ≡ false
  second_new : is_known v (p.first + 1) ≡ false
  names : (name : ℕ)
      → is_known w name ≡ (is_known v name || (nat_eq p.first name || nat_eq (p.first + 1) name))

new_children : (m : ModelParts) (v : View) (e : Entry) (p : Parting) → MayFollow m v e
    → parting_of e ≡ Some p → HasNewChildren v (after_entry m v e) p
new_children m v (Start node) p may is = absurd (none-some p is)
new_children m v CutStart p may is = absurd (none-some p is)
new_children m v (HeurStart node) p may is = absurd (none-some p is)
new_children m v Done p may is = absurd (none-some p is)
new_children m v (Found value point) p may is = absurd (none-some p is)
new_children m v (Cut derivation) p may is = absurd (none-some p is)
new_children m v (Split node col at first keep bound) p may is =
    let e = Split node col at first keep bound in
    subst (HasNewChildren v (after_entry m v e)) (same_Some _ p is) (record {
      first_new = may.joins.first_new;
      second_new = may.joins.second_new;
      names = (next_of m v e may).names;
    })
new_children m v (Closed node) p may is = absurd (none-some p is)
new_children m v Halt p may is = absurd (none-some p is)

count_cases : (p : Parting) (other : ℕ) (names later : List ℕ) (name : ℕ) (t : Bool)
    → count_name name later
    ≤ count_name name names + one_if (nat_eq p.first name) + one_if (nat_eq (p.first + 1) name)
    → count_name name (cond t (p.first ∷ (p.first + 1) ∷ names) (other ∷ later))
    ≤ count_name name (other ∷ names) + one_if (nat_eq p.first name)
    + one_if (nat_eq (p.first + 1) name)
count_cases p other names later name true rest = omega arith
count_cases p other names later name false rest = omega (arith, rest)

children_count : (p : Parting) (names : List ℕ) (name : ℕ)
    → count_name name (with_children p names)
    ≤ count_name name names + one_if (nat_eq p.first name) + one_if (nat_eq (p.first + 1) name)
children_count p [] name = omega arith
children_count p (other ∷ names) name =
    count_cases p other names (with_children p names) name (nat_eq p.node other)
    (children_count p names name)

length_cases : (p : Parting) (other : ℕ) (names later : List ℕ) (t : Bool)
    → length later ≤ suc (length names)
    → length (cond t (p.first ∷ (p.first + 1) ∷ names) (other ∷ later))
    ≤ suc (length (other ∷ names))
length_cases p other names later true rest = omega arith
length_cases p other names later false rest = omega (arith, rest)

children_length : (p : Parting) (names : List ℕ)
    → length (with_children p names) ≤ suc (length names)
children_length p [] = omega arith
children_length p (other ∷ names) =
    length_cases p other names (with_children p names) (nat_eq p.node other)
    (children_length p names)

-- a name that counts is known
counted_once : (v : View) (names : List ℕ) (name : ℕ) (n : ℕ) → n ≡ count_name name names
    → (1 ≤ count_name name names → is_known v name ≡ true) → is_known v name ≡ false → n ≡ 0
counted_once v names name zero is known new = refl
counted_once v names name (suc n) is known new =
    absurd (true≢false (sym (known (omega (arith, is))) ∙ new))

new_count : (v : View) (names : List ℕ) (name : ℕ) → AreDistinct v names
    → is_known v name ≡ false → count_name name names ≡ 0
new_count v names name distinct new =
    counted_once v names name (count_name name names) refl (distinct.known name) new

not_both : (a name : ℕ) (s t : Bool) → nat_eq a name ≡ s → nat_eq (a + 1) name ≡ t
    → one_if s + one_if t ≤ 1
not_both a name true true first second =
    absurd (omega (arith, eq_from_test a name first, eq_from_test (a + 1) name second))
not_both a name true false first second = omega arith
not_both a name false true first second = omega arith
not_both a name false false first second = omega arith

-- a child's name isn't among names that are known
child_cases : (v : View) (names : List ℕ) (a name : ℕ) (t : Bool) → nat_eq a name ≡ t
    → AreDistinct v names → is_known v a ≡ false
    → (one_if t ≡ 0) ⊎ (count_name name names ≡ 0)
child_cases v names a name true is distinct new =
    inr (subst (λ (n : ℕ). count_name n names ≡ 0) (eq_from_test a name is)
    (new_count v names a distinct new))
child_cases v names a name false is distinct new = inl refl

once_cases : (a b n k : ℕ) → n ≤ 1 → a + b ≤ 1 → k ≤ n + a + b → (a ≡ 0) ⊎ (n ≡ 0)
    → (b ≡ 0) ⊎ (n ≡ 0) → k ≤ 1
once_cases a b n k once both few (inl first) (inl second) = omega (arith, once, few, first, second)
once_cases a b n k once both few (inl first) (inr none) = omega (arith, both, few, none)
once_cases a b n k once both few (inr none) second = omega (arith, both, few, none)

known_cases : (k : Bool) (s t : Bool) (n c : ℕ) → 1 ≤ c → c ≤ n + one_if s + one_if t
    → (1 ≤ n → k ≡ true) → (k || (s || t)) ≡ true
known_cases k true t n c some few known = or_second k true refl
known_cases k false true n c some few known = or_second k true refl
known_cases k false false n c some few known =
    or_first k false (known (omega (arith, some, few)))

children_distinct : (m : ModelParts) (v : View) (e : Entry) (p : Parting) (names : List ℕ)
    → MayFollow m v e → parting_of e ≡ Some p → AreDistinct v names
    → AreDistinct (after_entry m v e) (with_children p names)
children_distinct m v e p names may is distinct =
    let has = new_children m v e p may is in
    record {
      once = λ name. once_cases (one_if (nat_eq p.first name)) (one_if (nat_eq (p.first + 1) name))
          (count_name name names) (count_name name (with_children p names)) (distinct.once name)
          (not_both p.first name (nat_eq p.first name) (nat_eq (p.first + 1) name) refl refl)
          (children_count p names name)
          (child_cases v names p.first name (nat_eq p.first name) refl distinct has.first_new)
          (child_cases v names (p.first + 1) name (nat_eq (p.first + 1) name) refl distinct
          has.second_new);
      known = λ name some. has.names name
          ∙ known_cases (is_known v name) (nat_eq p.first name) (nat_eq (p.first + 1) name)
          (count_name name names) (count_name name (with_children p names)) some
          (children_count p names name) (distinct.known name);
    }

same_distinct : (m : ModelParts) (v : View) (e : Entry) (names : List ℕ) → MayFollow m v e
    → AreDistinct v names → AreDistinct (after_entry m v e) names
same_distinct m v e names may distinct = record {
  once = distinct.once;
  known = λ name some. (next_of m v e may).names name
      ∙ or_first (is_known v name) (makes e name) (distinct.known name some);
}

-- ---- the nodes of their trees

module _ (records : List Record) where
  -- the nodes of the trees of names
  abbrev sizes : List KeyedEntry → List ℕ → ℕ
  sizes es [] = 0
  sizes es (name ∷ names) = length (tree_of records es name) + sizes es names

  leaf_sizes : (names : List ℕ) → sizes [] names ≡ length names
  leaf_sizes [] = refl
  leaf_sizes (name ∷ names) = omega (arith, leaf_sizes names)

  parted_size : (es : List KeyedEntry) (name : ℕ) (p : Parting)
      → length (parted (Some p) name (tree_of records es))
      ≡ suc (length (tree_of records es p.first) + length (tree_of records es (p.first + 1)))
  parted_size es name p =
      ap suc (length-append (tree_of records es p.first) (tree_of records es (p.first + 1)))

  -- an entry that parts none of the names
  none_parted : (e : KeyedEntry) (es : List KeyedEntry) (names : List ℕ)
      → ((name : ℕ) → 1 ≤ count_name name names → of_node name (parting_of e.entry) ≡ None)
      → sizes (e ∷ es) names ≡ sizes es names
  none_parted e es [] none = refl
  none_parted e es (name ∷ names) none =
      let here = ap (λ (o : Option Parting). length (parted o name (tree_of records es)))
      (none name (omega (arith, ap one_if (test_itself name)))) in
      let rest = none_parted e es names (λ other some. none other (omega (arith, some))) in
      omega (arith, here, rest)

  other_cases : (p : Parting) (name : ℕ) (names : List ℕ) (t : Bool) → nat_eq p.node name ≡ t
      → count_name p.node names ≡ 0 → 1 ≤ count_name name names → cond t (Some p) None ≡ None
  other_cases p name names true is none some =
      let same = ap (λ (n : ℕ). count_name n names) (eq_from_test p.node name is) in
      absurd (omega (arith, same, none, some))
  other_cases p name names false is none some = refl

  size_cases : (e : KeyedEntry) (es : List KeyedEntry) (p : Parting) (name : ℕ)
      (names : List ℕ) (t : Bool) → nat_eq p.node name ≡ t → parting_of e.entry ≡ Some p
      → count_name p.node (name ∷ names) ≤ 1
      → (count_name p.node names ≤ 1
      → sizes (e ∷ es) names ≤ suc (sizes es (with_children p names)))
      → sizes (e ∷ es) (name ∷ names)
      ≤ suc (sizes es (cond t (p.first ∷ (p.first + 1) ∷ names) (name ∷ with_children p names)))
  size_cases e es p name names true test is once later =
      let there = ap (λ (o : Option Parting). length (parted o name (tree_of records es)))
      (ap (of_node name) is ∙ ap (λ (t : Bool). cond t (Some p) None) test) in
      let turned = ap (λ (n : ℕ). one_if (nat_eq n p.node)) (sym (eq_from_test p.node name test)) in
      let itself = ap one_if (test_itself p.node) in
      let gone : count_name p.node names ≡ 0 = omega (arith, once, turned, itself) in
      let rest = none_parted e es names (λ other some.
      ap (of_node other) is ∙ other_cases p other names (nat_eq p.node other) refl gone some) in
      omega (arith, there, parted_size es name p, rest)
  size_cases e es p name names false test is once later =
      let there = ap (λ (o : Option Parting). length (parted o name (tree_of records es)))
      (ap (of_node name) is ∙ ap (λ (t : Bool). cond t (Some p) None) test) in
      let rest = later (omega (arith, once)) in
      omega (arith, there, rest)

  -- an entry that parts a node
  size_parted : (e : KeyedEntry) (es : List KeyedEntry) (p : Parting) (names : List ℕ)
      → parting_of e.entry ≡ Some p → count_name p.node names ≤ 1
      → sizes (e ∷ es) names ≤ suc (sizes es (with_children p names))
  size_parted e es p [] is once = omega arith
  size_parted e es p (name ∷ names) is once =
      size_cases e es p name names (nat_eq p.node name) refl is once (size_parted e es p names is)

  entry_cases : (m : ModelParts) (v : View) (e : KeyedEntry) (es : List KeyedEntry)
      (names : List ℕ) (o : Option Parting) → parting_of e.entry ≡ o → MayFollow m v e.entry
      → AreDistinct v names
      → ((later : List ℕ) → AreDistinct (after_entry m v e.entry) later
      → sizes es later ≤ length later + 2 * length es)
      → sizes (e ∷ es) names ≤ length names + 2 * suc (length es)
  entry_cases m v e es names None is may distinct few =
      let same = none_parted e es names (λ name some. ap (of_node name) is) in
      omega (arith, same, few names (same_distinct m v e.entry names may distinct))
  entry_cases m v e es names (Some p) is may distinct few =
      let now = size_parted e es p names is (distinct.once p.node) in
      let rest = few (with_children p names)
      (children_distinct m v e.entry p names may is distinct) in
      omega (arith, now, rest, children_length p names)

  -- together they have no more nodes than there are names, and two for each entry
  pub sizes_few : (m : ModelParts) (v : View) (es : List KeyedEntry) (names : List ℕ)
      → Follows m v es → AreDistinct v names → sizes es names ≤ length names + 2 * length es
  sizes_few m v [] names follow distinct = omega (arith, leaf_sizes names)
  sizes_few m v (e ∷ es) names follow distinct =
      entry_cases m v e es names (parting_of e.entry) refl follow.0 distinct
      (λ later. sizes_few m (after_entry m v e.entry) es later follow.1)
