use Rattle.std.proofs.Common.{◌≡◌, ◌∙◌, ◌<◌, ◌+◌, ◌==◌, ℕ, suc, Bool, true, false, not, ◌||◌, ◌&&◌, cond, List, [], ◌∷◌, ◌++◌, length, map, slice_index_or, Some, None, refl, sym, ap, arith, if◌then◌else◌}
use Rattle.std.specs.Str.{bytes_eq}
use Rattle.std.proofs.lemmas.Bool.{false≢true}
use Rattle.std.proofs.lemmas.Bool.Decides.{nat_tests}
use Rattle.std.proofs.lemmas.List.Folds.{list_any-append}
use Rattle.mps_read.specs.Names.{is_among, place_among, with_name}
use Rattle.mps_read.specs.Numerals.{decimal_of}
use Rattle.mps_lines.specs.Forms.{Pair}
use Rattle.mps_read.specs.Sets.{is_named, number_of}
use Rattle.mps_lines.proofs.Truths.{by_case, or_false}
use Rattle.mps_read.proofs.Marks.{same_eq}
use Rattle.mps_read.proofs.Naming.{list_any_images}
use Rattle.mps_read.proofs.PrintNames.{place_by, differ, same_bytes}
use Rattle.mps_read.proofs.ModelLists.{Misses, AreApart, apart_push, misses_names}
use Rattle.mps_read.proofs.Lookups.{or_second, IsSingle, eq_of}

-- names and the pairs that name rows

pub or_same : (b : Bool) → (b || false) ≡ b
or_same true = refl
or_same false = refl

pub and_none : (b : Bool) → (b && false) ≡ false
and_none true = refl
and_none false = refl

-- one more name

pub among_push : (x : List ℕ) (names : List (List ℕ)) (n : List ℕ) → is_among x (names ++ n ∷ []) ≡ (is_among x names || bytes_eq x n)
among_push x names n = list_any-append (bytes_eq x) names (n ∷ []) ∙ ap (λ b. is_among x names || b) (or_same (bytes_eq x n))

pub among_other : (x : List ℕ) (names : List (List ℕ)) (n : List ℕ) → bytes_eq x n ≡ false → is_among x (names ++ n ∷ []) ≡ is_among x names
among_other x names n h = among_push x names n ∙ ap (λ b. is_among x names || b) h ∙ or_same (is_among x names)

pub among_known : (x : List ℕ) (names : List (List ℕ)) (n : List ℕ) → is_among x names ≡ true → is_among x (names ++ n ∷ []) ≡ true
among_known x names n h = among_push x names n ∙ ap (λ b. b || bytes_eq x n) h

pub place_known : (x : List ℕ) (names : List (List ℕ)) (n : List ℕ) → is_among x names ≡ true → place_among x (names ++ n ∷ []) ≡ place_among x names
place_known x [] n h = absurd (false≢true h)
place_known x (y ∷ ys) n h =
    by_case (bytes_eq x y) _
    (λ here. rw here refl)
    (λ past. ap (λ k. cond (not (bytes_eq x y)) (1 + k) 0) (place_known x ys n (or_second (bytes_eq x y) (is_among x ys) past h)))

pub place_less : (x : List ℕ) (names : List (List ℕ)) → is_among x names ≡ true → place_among x names < length names
place_less x [] h = absurd (false≢true h)
place_less x (y ∷ ys) h =
    by_case (bytes_eq x y) _
    (λ here. rw here (omega arith))
    (λ past.
    let less = place_less x ys (or_second (bytes_eq x y) (is_among x ys) past h) in
    let place : place_among x (y ∷ ys) ≡ suc (place_among x ys) = place_by (bytes_eq x y) (place_among x ys) (place_among x ys) past refl in
    omega (arith, less, place))

name_at : (x : List ℕ) (names : List (List ℕ)) → is_among x names ≡ true → slice_index_or names (place_among x names) [] ≡ x
name_at x [] h = absurd (false≢true h)
name_at x (y ∷ ys) h =
    by_case (bytes_eq x y) _
    (λ here.
    let place : place_among x (y ∷ ys) ≡ 0 = rw here refl in
    rw place (sym (eq_of x y here)))
    (λ past.
    let place : place_among x (y ∷ ys) ≡ suc (place_among x ys) = place_by (bytes_eq x y) (place_among x ys) (place_among x ys) past refl in
    rw place (name_at x ys (or_second (bytes_eq x y) (is_among x ys) past h)))

same_place : (n m : ℕ) → (n == m) ≡ true → n ≡ m
same_place n m h = grind (arith, nat_tests)

-- names are told apart by their places
pub places_eq : (x y : List ℕ) (names : List (List ℕ)) → is_among x names ≡ true → is_among y names ≡ true → (place_among x names == place_among y names) ≡ bytes_eq x y
places_eq x y names hx hy =
    by_case (bytes_eq x y) _
    (λ same. ap (λ z. place_among x names == place_among z names) (sym (eq_of x y same)) ∙ same_eq (place_among x names) ∙ sym same)
    (λ other.
    by_case (place_among x names == place_among y names) _
    (λ at.
    let place : place_among x names ≡ place_among y names = same_place (place_among x names) (place_among y names) at in
    let e : x ≡ y = sym (name_at x names hx) ∙ ap (λ k. slice_index_or names k []) place ∙ name_at y names hy in
    absurd (false≢true (sym other ∙ ap (λ z. bytes_eq z y) e ∙ same_bytes y)))
    (λ apart. apart ∙ sym other))

-- names that differ

pub not_among : (x : List ℕ) (names : List (List ℕ)) → Misses x names → is_among x names ≡ false
not_among x [] all = refl
not_among x (y ∷ ys) (here, all) = rw (differ x y here) (not_among x ys all)

pub single_names : (x : List ℕ) (names : List (List ℕ)) → AreApart names → IsSingle (bytes_eq x) names
single_names x [] all = tt
single_names x (y ∷ ys) (here, all) = ((λ at. ap (λ n. is_among n ys) (eq_of x y at) ∙ not_among y ys here), single_names x ys all)

pub apart_with : (n : List ℕ) (names : List (List ℕ)) → AreApart names → AreApart (with_name n names)
apart_with n names all =
    by_case (is_among n names) _
    (λ known. rw known all)
    (λ new. rw new (apart_push names n all (misses_names n names new)))

pub single_images : {A B : Type 0} (f : A → B) (p : B → Bool) (xs : List A) → IsSingle p (map f xs) → IsSingle (λ x. p (f x)) xs
single_images f p [] all = tt
single_images f p (x ∷ xs) (here, all) = ((λ at. sym (list_any_images f p xs) ∙ here at), single_images f p xs all)

-- pairs

-- pairs whose rows are known
abbrev pub AreKnown : List (List ℕ) → List Pair → Type 0
AreKnown names [] = Unit {0}
AreKnown names (pair ∷ pairs) = (is_among pair.row names ≡ true) × AreKnown names pairs

pub known_more : (names : List (List ℕ)) (n : List ℕ) (pairs : List Pair) → AreKnown names pairs → AreKnown (names ++ n ∷ []) pairs
known_more names n [] all = tt
known_more names n (pair ∷ pairs) (here, all) = (among_known pair.row names n here, known_more names n pairs all)

pub known_push : (names : List (List ℕ)) (pairs : List Pair) (q : Pair) → AreKnown names pairs → is_among q.row names ≡ true → AreKnown names (pairs ++ q ∷ [])
known_push names [] q all h = (h, tt)
known_push names (pair ∷ pairs) q (here, all) h = (here, known_push names pairs q all h)

pub not_named : (names : List (List ℕ)) (row : List ℕ) (pairs : List Pair) → AreKnown names pairs → is_among row names ≡ false → is_named row pairs ≡ false
not_named names row [] all new = refl
not_named names row (pair ∷ pairs) (here, all) new =
    by_case (bytes_eq row pair.row) _
    (λ at. absurd (false≢true (sym new ∙ ap (λ n. is_among n names) (eq_of row pair.row at) ∙ here)))
    (λ other. rw other (not_named names row pairs all new))

pub named_push : (row : List ℕ) (pairs : List Pair) (q : Pair) → is_named row (pairs ++ q ∷ []) ≡ (is_named row pairs || bytes_eq row q.row)
named_push row pairs q = list_any-append (λ pair. bytes_eq row pair.row) pairs (q ∷ []) ∙ ap (λ b. is_named row pairs || b) (or_same (bytes_eq row q.row))

pub named_other : (row : List ℕ) (pairs : List Pair) (q : Pair) → bytes_eq row q.row ≡ false → is_named row (pairs ++ q ∷ []) ≡ is_named row pairs
named_other row pairs q h = named_push row pairs q ∙ ap (λ b. is_named row pairs || b) h ∙ or_same (is_named row pairs)

or_true : (b : Bool) → (b || true) ≡ true
or_true true = refl
or_true false = refl

pub named_here : (row : List ℕ) (pairs : List Pair) (q : Pair) → bytes_eq row q.row ≡ true → is_named row (pairs ++ q ∷ []) ≡ true
named_here row pairs q h = named_push row pairs q ∙ ap (λ b. is_named row pairs || b) h ∙ or_true (is_named row pairs)

pub number_none : (row : List ℕ) (pairs : List Pair) → is_named row pairs ≡ false → number_of row pairs ≡ None
number_none row [] h = refl
number_none row (pair ∷ pairs) h =
    let e = or_false (bytes_eq row pair.row) (is_named row pairs) h in rw e.0 (number_none row pairs e.1)

pub number_other : (row : List ℕ) (pairs : List Pair) (q : Pair) → bytes_eq row q.row ≡ false → number_of row (pairs ++ q ∷ []) ≡ number_of row pairs
number_other row [] q h = rw h refl
number_other row (pair ∷ pairs) q h = ap (λ r. if bytes_eq row pair.row then Some (decimal_of pair.numeral) else r) (number_other row pairs q h)

pub number_here : (row : List ℕ) (pairs : List Pair) (q : Pair) → is_named row pairs ≡ false → bytes_eq row q.row ≡ true → number_of row (pairs ++ q ∷ []) ≡ Some (decimal_of q.numeral)
number_here row [] q none h = rw h refl
number_here row (pair ∷ pairs) q none h =
    let e = or_false (bytes_eq row pair.row) (is_named row pairs) none in rw e.0 (number_here row pairs q e.1 h)
