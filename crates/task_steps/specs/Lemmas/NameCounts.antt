-- How often a name stands in a list of names, and in one of open nodes.
use Rattle.std.proofs.Common.{◌≡◌, ℕ, ◌+◌, ◌≤◌, Bool, true, false, cond, ◌||◌, nat_eq, List, [], ◌∷◌, ◌++◌, map, Some, refl, ap, arith}
use Rattle.std.specs.List.{list_any}
use Rattle.std.proofs.lemmas.Bool.{false≢true}
use Rattle.std.proofs.lemmas.Bool.Decides.{nat_tests}
use Rattle.std.proofs.lemmas.Option.{none-some}
use Rattle.node_pool.specs.Nodes.{first_named, insert_open, is_before, without_name, without_node}
use Rattle.node_pool.specs.declared.node.OpenNode.{OpenNode}
use Rattle.task_steps.specs.Claims.{count_name, count_open, one_if}

pub eq_from_test : (a b : ℕ) → nat_eq a b ≡ true → a ≡ b
eq_from_test a b h = grind (arith, nat_tests)

pub ne_from_test : (a b : ℕ) → nat_eq a b ≡ false → a ≡ b → ⊥
ne_from_test a b h same = grind (arith, nat_tests)

pub test_itself : (a : ℕ) → nat_eq a a ≡ true
test_itself a = grind (arith, nat_tests)

pub one_true : (b : Bool) → b ≡ true → one_if b ≡ 1
one_true b is = rw is refl

pub one_false : (b : Bool) → b ≡ false → one_if b ≡ 0
one_false b is = rw is refl

pub one_at_most : (b : Bool) → one_if b ≤ 1
one_at_most true = omega arith
one_at_most false = omega arith

-- a name is among others where it counts

abbrev pub is_among : ℕ → List ℕ → Bool
is_among name names = list_any (λ held. nat_eq held name) names

among_cases : (name : ℕ) (xs : List ℕ) (b : Bool) → (b || is_among name xs) ≡ true
    → (is_among name xs ≡ true → 1 ≤ count_name name xs) → 1 ≤ one_if b + count_name name xs
among_cases name xs true h later = omega arith
among_cases name xs false h later = let some = later h in omega arith

pub among_counts : (name : ℕ) (xs : List ℕ) → is_among name xs ≡ true → 1 ≤ count_name name xs
among_counts name [] h = absurd (false≢true h)
among_counts name (x ∷ xs) h = among_cases name xs (nat_eq x name) h (among_counts name xs)

counts_cases : (name : ℕ) (xs : List ℕ) (b : Bool) → 1 ≤ one_if b + count_name name xs
    → (1 ≤ count_name name xs → is_among name xs ≡ true) → (b || is_among name xs) ≡ true
counts_cases name xs true some later = refl
counts_cases name xs false some later = later (omega arith)

pub counts_among : (name : ℕ) (xs : List ℕ) → 1 ≤ count_name name xs → is_among name xs ≡ true
counts_among name [] some = absurd (omega arith)
counts_among name (x ∷ xs) some = counts_cases name xs (nat_eq x name) some (counts_among name xs)

-- lists of names

pub count_last : (name n : ℕ) (xs : List ℕ)
    → count_name name (xs ++ n ∷ []) ≡ count_name name xs + one_if (nat_eq n name)
count_last name n [] = omega arith
count_last name n (x ∷ xs) = let more = count_last name n xs in omega arith

pub count_append : (name : ℕ) (xs ys : List ℕ)
    → count_name name (xs ++ ys) ≡ count_name name xs + count_name name ys
count_append name [] ys = omega arith
count_append name (x ∷ xs) ys = let more = count_append name xs ys in omega arith

pub count_names : (name : ℕ) (nodes : List OpenNode)
    → count_name name (map (λ (node : OpenNode). node.name) nodes) ≡ count_open name nodes
count_names name [] = refl
count_names name (x ∷ xs) = let more = count_names name xs in omega arith

name_cases : (name n x : ℕ) (xs : List ℕ) (b : Bool) → nat_eq x n ≡ b
    → (is_among n xs ≡ true
    → count_name name xs ≡ one_if (nat_eq n name) + count_name name (without_name n xs))
    → (b || is_among n xs) ≡ true
    → count_name name (x ∷ xs)
    ≡ one_if (nat_eq n name) + count_name name (cond b xs (x ∷ without_name n xs))
name_cases name n x xs true is later h =
    ap (λ (k : ℕ). one_if (nat_eq k name) + count_name name xs) (eq_from_test x n is)
name_cases name n x xs false is later h = let more = later h in omega arith

-- the first of a name is taken out
pub name_taken : (name n : ℕ) (xs : List ℕ) → is_among n xs ≡ true
    → count_name name xs ≡ one_if (nat_eq n name) + count_name name (without_name n xs)
name_taken name n [] h = absurd (false≢true h)
name_taken name n (x ∷ xs) h = name_cases name n x xs (nat_eq x n) refl (name_taken name n xs) h

-- lists of open nodes

insert_cases : (name : ℕ) (node x : OpenNode) (xs more : List OpenNode) (b : Bool)
    → count_open name more ≡ one_if (nat_eq node.name name) + count_open name xs
    → count_open name (cond b (node ∷ x ∷ xs) (x ∷ more))
    ≡ one_if (nat_eq node.name name) + count_open name (x ∷ xs)
insert_cases name node x xs more true longer = refl
insert_cases name node x xs more false longer = omega arith

pub count_inserted : (name : ℕ) (node : OpenNode) (xs : List OpenNode)
    → count_open name (insert_open node xs)
    ≡ one_if (nat_eq node.name name) + count_open name xs
count_inserted name node [] = refl
count_inserted name node (x ∷ xs) =
    insert_cases name node x xs (insert_open node xs) (is_before node x)
    (count_inserted name node xs)

open_cases : (name n : ℕ) (x node : OpenNode) (xs : List OpenNode) (b : Bool)
    → nat_eq x.name n ≡ b
    → (first_named n xs ≡ Some node
    → count_open name xs ≡ one_if (nat_eq n name) + count_open name (without_node n xs))
    → cond b (Some x) (first_named n xs) ≡ Some node
    → count_open name (x ∷ xs)
    ≡ one_if (nat_eq n name) + count_open name (cond b xs (x ∷ without_node n xs))
open_cases name n x node xs true is later h =
    ap (λ (k : ℕ). one_if (nat_eq k name) + count_open name xs) (eq_from_test x.name n is)
open_cases name n x node xs false is later h = let more = later h in omega arith

pub open_taken : (name n : ℕ) (node : OpenNode) (xs : List OpenNode)
    → first_named n xs ≡ Some node
    → count_open name xs ≡ one_if (nat_eq n name) + count_open name (without_node n xs)
open_taken name n node [] h = absurd (none-some node h)
open_taken name n node (x ∷ xs) h =
    open_cases name n x node xs (nat_eq x.name n) refl (open_taken name n node xs) h
