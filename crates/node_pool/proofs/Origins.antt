-- Which branching makes a name.
use Rattle.std.proofs.Common.{◌≡◌, ◌∙◌, ℕ, zero, suc, ◌+◌, ◌-◌, ◌≤◌, ◌⊎◌, inl, inr, Bool, true, false, cond, nat_eq, List, [], ◌∷◌, ◌++◌, length, slice_get, Some, None, refl, sym, ap, subst, arith}
use Rattle.std.specs.BTreeMap.{BTreeMap, get, is_at}
use Rattle.std.specs.List.{list_any}
use Rattle.std.specs.Map.{lookup}
use Rattle.std.specs.Ordering.{nat_cmp}
use Rattle.std.proofs.lemmas.Bool.{or_cases, true≢false}
use Rattle.std.proofs.lemmas.Bool.Decides.{nat_tests}
use Rattle.std.proofs.lemmas.Map.Keys.{any_passes_from_place}
use Rattle.std.proofs.lemmas.Option.{none-some, same_Some, slice_get_within}
use Rattle.node_pool.specs.Branchings.{Branch, is_child}
use Rattle.node_pool.specs.Lemmas.Boxes.{or_first, or_second, same_from_test}
use Rattle.node_pool.specs.Trees.{AreApart, HasNoFirst, IsFirstAt, IsIndexed, IsMadeAt, IsNewBranch, IsUnmade, Tree, bound_of, child_bound, node_of, branch_of, with_name}

-- tests

pub bool_not : (b : Bool) → (b ≡ true → ⊥) → b ≡ false
bool_not true h = absurd (h refl)
bool_not false h = refl

test_same : (a b : ℕ) → a ≡ b → nat_eq a b ≡ true
test_same a b h = grind (arith, nat_tests)

child_split : (b : Branch) (name : ℕ)
    → (nat_eq b.first name ≡ true) ⊎ (nat_eq (b.first + 1) name ≡ true)
    → (b.first ≡ name) ⊎ (b.first + 1 ≡ name)
child_split b name (inl h) = inl (same_from_test b.first name h)
child_split b name (inr h) = inr (same_from_test (b.first + 1) name h)

-- the name of a child is that of the first or of the second
child_cases : (b : Branch) (name : ℕ) → is_child b name ≡ true
    → (b.first ≡ name) ⊎ (b.first + 1 ≡ name)
child_cases b name h = child_split b name
    (or_cases (nat_eq b.first name) (nat_eq (b.first + 1) name) h)

first_is_child : (b : Branch) (name : ℕ) → b.first ≡ name → is_child b name ≡ true
first_is_child b name h =
    or_first (nat_eq b.first name) (nat_eq (b.first + 1) name) (test_same b.first name h)

second_is_child : (b : Branch) (name : ℕ) → b.first + 1 ≡ name → is_child b name ≡ true
second_is_child b name h =
    or_second (nat_eq b.first name) (nat_eq (b.first + 1) name) (test_same (b.first + 1) name h)

-- the branching of a name, by the map's answers

alone_first : (bs : List Branch) (name place : ℕ) (f : IsFirstAt bs name place) → AreApart bs
    → (j : ℕ) (b : Branch) → slice_get bs j ≡ Some b → (b.first ≡ name) ⊎ (b.first + 1 ≡ name)
    → j ≡ place
alone_first bs name place f apart j b here (inl same) = f.alone j b here same
alone_first bs name place f apart j b here (inr next) =
    absurd (apart.each j place b f.branch here f.at (next ∙ sym f.named))

pub made_first : (bs : List Branch) (name place : ℕ) → IsFirstAt bs name place → AreApart bs
    → IsMadeAt bs name place
made_first bs name place f apart = record {
  within = slice_get_within bs place f.branch f.at;
  branch = f.branch;
  at = f.at;
  child = first_is_child f.branch name f.named;
  alone = λ j b here child. alone_first bs name place f apart j b here (child_cases b name child);
}

next_name : (name n : ℕ) → 1 ≤ name → n ≡ name - 1 → n + 1 ≡ name
next_name name n some is = omega (arith, some, is)

second_of : (a name n : ℕ) → n + 1 ≡ name → a ≡ n → a + 1 ≡ name
second_of a name n next is = omega (arith, next, is)

first_of : (a name n : ℕ) → n + 1 ≡ name → a + 1 ≡ name → a ≡ n
first_of a name n next is = omega (arith, next, is)

alone_second : (bs : List Branch) (name n place : ℕ) → n + 1 ≡ name → (f : IsFirstAt bs n place)
    → HasNoFirst bs name → (j : ℕ) (b : Branch) → slice_get bs j ≡ Some b
    → (b.first ≡ name) ⊎ (b.first + 1 ≡ name) → j ≡ place
alone_second bs name n place next f none j b here (inl same) = absurd (none.none j b here same)
alone_second bs name n place next f none j b here (inr after) =
    f.alone j b here (first_of b.first name n next after)

pub made_second : (bs : List Branch) (name n place : ℕ) → 1 ≤ name → n ≡ name - 1
    → IsFirstAt bs n place → HasNoFirst bs name → IsMadeAt bs name place
made_second bs name n place some before f none = record {
  within = slice_get_within bs place f.branch f.at;
  branch = f.branch;
  at = f.at;
  child = second_is_child f.branch name
      (second_of f.branch.first name n (next_name name n some before) f.named);
  alone = λ j b here child.
      alone_second bs name n place (next_name name n some before) f none j b here
      (child_cases b name child);
}

none_of_two : (bs : List Branch) (name n : ℕ) → n + 1 ≡ name → HasNoFirst bs name → HasNoFirst bs n
    → (j : ℕ) (b : Branch) → slice_get bs j ≡ Some b → (b.first ≡ name) ⊎ (b.first + 1 ≡ name) → ⊥
none_of_two bs name n next none fewer j b here (inl same) = none.none j b here same
none_of_two bs name n next none fewer j b here (inr after) =
    fewer.none j b here (first_of b.first name n next after)

pub unmade_two : (bs : List Branch) (name n : ℕ) → 1 ≤ name → n ≡ name - 1 → HasNoFirst bs name
    → HasNoFirst bs n → IsUnmade bs name
unmade_two bs name n some before none fewer =
    record {
      none = λ j b here. bool_not (is_child b name)
          (λ child. none_of_two bs name n (next_name name n some before) none fewer j b here
          (child_cases b name child));
    }

one_at_least : (a name : ℕ) → a + 1 ≡ name → 1 ≤ name
one_at_least a name h = omega (arith, h)

none_at_zero : (bs : List Branch) (name : ℕ) → (1 ≤ name → ⊥) → HasNoFirst bs name
    → (j : ℕ) (b : Branch) → slice_get bs j ≡ Some b → (b.first ≡ name) ⊎ (b.first + 1 ≡ name) → ⊥
none_at_zero bs name least none j b here (inl same) = none.none j b here same
none_at_zero bs name least none j b here (inr after) = least (one_at_least b.first name after)

pub unmade_zero : (bs : List Branch) (name : ℕ) → (1 ≤ name → ⊥) → HasNoFirst bs name
    → IsUnmade bs name
unmade_zero bs name least none =
    record {
      none = λ j b here. bool_not (is_child b name)
          (λ child. none_at_zero bs name least none j b here (child_cases b name child));
    }

pub ruleset origins = (made_first, made_second, unmade_two, unmade_zero)

-- another branching than the one that makes the name makes it not
pub not_made : (bs : List Branch) (name place : ℕ) → IsMadeAt bs name place → (j : ℕ) (b : Branch)
    → (j ≡ place → ⊥) → slice_get bs j ≡ Some b → is_child b name ≡ false
not_made bs name place made j b apart here =
    bool_not (is_child b name) (λ child. apart (made.alone j b here child))

-- the first branching of a name

not_zero : (n : ℕ) → 0 ≡ suc n → ⊥
not_zero n h = omega (arith, h)

less_one : (j n : ℕ) → suc j ≡ suc n → j ≡ n
less_one j n h = omega (arith, h)

branch_at : (bs : List Branch) (name place : ℕ) (b : Branch) → slice_get bs place ≡ Some b
    → is_child b name ≡ true → ((j : ℕ) (c : Branch) → slice_get bs j ≡ Some c
    → is_child c name ≡ true → j ≡ place) → branch_of bs name ≡ Some b
branch_at [] name place b at child alone = absurd (none-some b at)
branch_at (x ∷ bs) name zero b at child alone =
    let same : x ≡ b = same_Some x b at in
    let made : is_child x name ≡ true = ap (λ (y : Branch). is_child y name) same ∙ child in
    ap (λ (t : Bool). cond t (Some x) (branch_of bs name)) made ∙ ap (λ (y : Branch). Some y) same
branch_at (x ∷ bs) name (suc place) b at child alone =
    let other : is_child x name ≡ false =
    bool_not (is_child x name) (λ made. not_zero place (alone 0 x refl made)) in
    ap (λ (t : Bool). cond t (Some x) (branch_of bs name)) other
    ∙ branch_at bs name place b at child
    (λ j c here made. less_one j place (alone (suc j) c here made))

pub no_branch : (bs : List Branch) (name : ℕ)
    → ((j : ℕ) (b : Branch) → slice_get bs j ≡ Some b → is_child b name ≡ false)
    → branch_of bs name ≡ None
no_branch [] name none = refl
no_branch (x ∷ bs) name none =
    ap (λ (t : Bool). cond t (Some x) (branch_of bs name)) (none 0 x refl)
    ∙ no_branch bs name (λ j b here. none (suc j) b here)

bound_by_branch : (t : Tree) (name : ℕ) → nat_eq name 0 ≡ false
    → bound_of t name ≡ child_bound (branch_of t.branches name)
bound_by_branch t name named =
    ap (λ (b : Bool). cond b (Some t.root_bound) (child_bound (branch_of t.branches name))) named

pub bound_made : (t : Tree) (name place : ℕ) → nat_eq name 0 ≡ false
    → (made : IsMadeAt t.branches name place) → bound_of t name ≡ Some made.branch.bound
bound_made t name place named made = bound_by_branch t name named
    ∙ ap child_bound (branch_at t.branches name place made.branch made.at made.child made.alone)

pub node_unmade : (t : Tree) (name : ℕ) → nat_eq name 0 ≡ false → IsUnmade t.branches name
    → node_of t name ≡ None
node_unmade t name named unmade =
    ap (with_name name) (bound_by_branch t name named
    ∙ ap child_bound (no_branch t.branches name unmade.none))

-- one branching more

one_later : (bs : List Branch) (b : Branch) (j : ℕ) (c : Branch)
    → (slice_get bs j ≡ Some c) ⊎ ((j ≡ length bs) × (c ≡ b))
    → (slice_get bs j ≡ Some c) ⊎ ((suc j ≡ suc (length bs)) × (c ≡ b))
one_later bs b j c (inl old) = inl old
one_later bs b j c (inr new) = inr (ap (λ (n : ℕ). suc n) new.0, new.1)

pub at_end : (bs : List Branch) (b : Branch) (j : ℕ) (c : Branch)
    → slice_get (bs ++ b ∷ []) j ≡ Some c → (slice_get bs j ≡ Some c) ⊎ ((j ≡ length bs) × (c ≡ b))
at_end [] b zero c here = inr (refl, sym (same_Some b c here))
at_end [] b (suc j) c here = absurd (none-some c here)
at_end (x ∷ bs) b zero c here = inl here
at_end (x ∷ bs) b (suc j) c here = one_later bs b j c (at_end bs b j c here)

still_at : (bs : List Branch) (b : Branch) (j : ℕ) (c : Branch) → slice_get bs j ≡ Some c
    → slice_get (bs ++ b ∷ []) j ≡ Some c
still_at [] b j c here = absurd (none-some c here)
still_at (x ∷ bs) b zero c here = here
still_at (x ∷ bs) b (suc j) c here = still_at bs b j c here

last_at : (bs : List Branch) (b : Branch) → slice_get (bs ++ b ∷ []) (length bs) ≡ Some b
last_at [] b = refl
last_at (x ∷ bs) b = last_at bs b

-- no branching so far makes a new name
none_makes : (bs : List Branch) (name : ℕ) → list_any (λ c. is_child c name) bs ≡ false
    → (j : ℕ) (c : Branch) → slice_get bs j ≡ Some c → is_child c name ≡ true → ⊥
none_makes bs name new j c here child =
    true≢false (sym (any_passes_from_place (λ c. is_child c name) bs j c here child) ∙ new)

no_loop : (n : ℕ) → n + 1 ≡ n → ⊥
no_loop n h = omega (arith, h)

is_at_from_same : (a b : ℕ) → a ≡ b → is_at (nat_cmp a) b ≡ true
is_at_from_same a b h = grind (arith, nat_tests)

same_from_is_at : (a b : ℕ) → is_at (nat_cmp a) b ≡ true → a ≡ b
same_from_is_at a b h = grind (arith, nat_tests)

module _ (bs : List Branch) (b : Branch) (places more : BTreeMap ℕ ℕ)
    (indexed : IsIndexed bs places) (new : IsNewBranch bs b)
    (updates : (q : ℕ) → get nat_cmp more q ≡ cond (is_at (nat_cmp b.first) q) (Some (length bs))
    (get nat_cmp places q)) where
  new_alone : (first : ℕ) → b.first ≡ first → (j : ℕ) (c : Branch) → c.first ≡ first
      → (slice_get bs j ≡ Some c) ⊎ ((j ≡ length bs) × (c ≡ b)) → j ≡ length bs
  new_alone first is j c named (inl old) =
      absurd (none_makes bs b.first new.first j c old (first_is_child c b.first (named ∙ sym is)))
  new_alone first is j c named (inr last) = last.0

  old_alone : (first place : ℕ) → is_at (nat_cmp b.first) first ≡ false
      → (f : IsFirstAt bs first place) → (j : ℕ) (c : Branch) → c.first ≡ first
      → (slice_get bs j ≡ Some c) ⊎ ((j ≡ length bs) × (c ≡ b)) → j ≡ place
  old_alone first place other f j c named (inl old) = f.alone j c old named
  old_alone first place other f j c named (inr last) =
      absurd (true≢false (sym (is_at_from_same b.first first
      (ap (λ (x : Branch). x.first) (sym last.1) ∙ named)) ∙ other))

  found_new : (first place : ℕ) → b.first ≡ first → length bs ≡ place
      → IsFirstAt (bs ++ b ∷ []) first place
  found_new first place is here = record {
    branch = b;
    at = subst (λ (n : ℕ). slice_get (bs ++ b ∷ []) n ≡ Some b) here (last_at bs b);
    named = is;
    alone = λ j c there named. new_alone first is j c named (at_end bs b j c there) ∙ here;
  }

  found_old : (first place : ℕ) → is_at (nat_cmp b.first) first ≡ false → IsFirstAt bs first place
      → IsFirstAt (bs ++ b ∷ []) first place
  found_old first place other f = record {
    branch = f.branch;
    at = still_at bs b place f.branch f.at;
    named = f.named;
    alone = λ j c there named. old_alone first place other f j c named (at_end bs b j c there);
  }

  found_cases : (first place : ℕ) (t : Bool) → is_at (nat_cmp b.first) first ≡ t
      → cond t (Some (length bs)) (get nat_cmp places first) ≡ Some place
      → IsFirstAt (bs ++ b ∷ []) first place
  found_cases first place true is got =
      found_new first place (same_from_is_at b.first first is) (same_Some (length bs) place got)
  found_cases first place false is got = found_old first place is (indexed.found first place got)

  missed_old : (first : ℕ) → is_at (nat_cmp b.first) first ≡ false → HasNoFirst bs first
      → (j : ℕ) (c : Branch) → c.first ≡ first
      → (slice_get bs j ≡ Some c) ⊎ ((j ≡ length bs) × (c ≡ b)) → ⊥
  missed_old first other none j c named (inl old) = none.none j c old named
  missed_old first other none j c named (inr last) =
      true≢false (sym (is_at_from_same b.first first
      (ap (λ (x : Branch). x.first) (sym last.1) ∙ named)) ∙ other)

  missed_cases : (first : ℕ) (t : Bool) → is_at (nat_cmp b.first) first ≡ t
      → cond t (Some (length bs)) (get nat_cmp places first) ≡ None
      → HasNoFirst (bs ++ b ∷ []) first
  missed_cases first true is got = absurd (none-some (length bs) (sym got))
  missed_cases first false is got =
      record {
        none = λ j c there named. missed_old first is (indexed.missed first got) j c named
            (at_end bs b j c there);
      }

  apart_cases : (j k : ℕ) (c d : Branch) → c.first + 1 ≡ d.first
      → (slice_get bs j ≡ Some c) ⊎ ((j ≡ length bs) × (c ≡ b))
      → (slice_get bs k ≡ Some d) ⊎ ((k ≡ length bs) × (d ≡ b)) → ⊥
  apart_cases j k c d next (inl old) (inl other) = indexed.apart.each j k c d old other next
  apart_cases j k c d next (inl old) (inr last) =
      none_makes bs b.first new.first j c old
      (second_is_child c b.first (next ∙ ap (λ (x : Branch). x.first) last.1))
  apart_cases j k c d next (inr last) (inl old) =
      none_makes bs (b.first + 1) new.second k d old
      (first_is_child d (b.first + 1) (sym next ∙ ap (λ (x : Branch). x.first + 1) last.1))
  apart_cases j k c d next (inr last) (inr other) =
      no_loop b.first (ap (λ (x : Branch). x.first + 1) (sym last.1) ∙ next
      ∙ ap (λ (x : Branch). x.first) other.1)

  pub index_more : IsIndexed (bs ++ b ∷ []) more
  index_more = record {
    found = λ first place got.
        found_cases first place (is_at (nat_cmp b.first) first) refl (sym (updates first) ∙ got);
    missed = λ first got. missed_cases first (is_at (nat_cmp b.first) first) refl
        (sym (updates first) ∙ got);
    apart = record {
      each = λ j k c d here there next.
          apart_cases j k c d next (at_end bs b j c here) (at_end bs b k d there);
    };
  }

-- the index after a branching is added with its place
pub index_after : (bs old longer : List Branch) (b : Branch) (places more : BTreeMap ℕ ℕ)
    (first place : ℕ) → old ≡ bs → longer ≡ bs ++ b ∷ [] → first ≡ b.first → place ≡ length bs
    → IsIndexed bs places → IsNewBranch old b
    → ((q : ℕ) → get nat_cmp more q ≡ cond (is_at (nat_cmp first) q) (Some place)
    (get nat_cmp places q)) → IsIndexed longer more
index_after bs old longer b places more first place same pushed named here indexed new updates =
    subst (λ (cs : List Branch). IsIndexed cs more) (sym pushed)
    (index_more bs b places more indexed (subst (λ (cs : List Branch). IsNewBranch cs b) same new)
    (subst (λ (n : ℕ). (q : ℕ)
    → get nat_cmp more q ≡ cond (is_at (nat_cmp b.first) q) (Some n) (get nat_cmp places q)) here
    (subst (λ (f : ℕ). (q : ℕ)
    → get nat_cmp more q ≡ cond (is_at (nat_cmp f) q) (Some place) (get nat_cmp places q)) named
    updates)))

-- no branching yet
pub index_none : (places : BTreeMap ℕ ℕ) → ((q : ℕ) → get nat_cmp places q ≡ None)
    → IsIndexed [] places
index_none places empty = record {
  found = λ first place got. absurd (none-some place (sym (empty first) ∙ got));
  missed = λ first got. record { none = λ j b here named. none-some b here };
  apart = record { each = λ j k b c here there next. none-some b here };
}

-- the index of an empty map
pub index_at_first : (bs : List Branch) (places : BTreeMap ℕ ℕ) → bs ≡ [] → places.entries ≡ []
    → IsIndexed bs places
index_at_first bs places none empty =
    subst (λ (xs : List Branch). IsIndexed xs places) (sym none)
    (index_none places (λ q. ap (λ (es : List (ℕ × ℕ)). lookup (is_at (nat_cmp q)) es) empty))
