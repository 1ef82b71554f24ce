-- Which terms are taken for a cover.
use Rattle.std.proofs.Common.{◌≡◌, ◌≢◌, ◌∙◌, ℕ, zero, suc, ◌+◌, ◌<◌, ◌==◌, ◌≤◌, ◌^◌, ◌⊎◌, inl, inr, Bool, true, false, cond, ◌&&◌, ◌||◌, nat_le, nat_lt, List, [], ◌∷◌, ◌++◌, length, get_or, take, drop, map, ℤ, pos, negsuc, ◌≤ℤ◌, ◌<ℤ◌, int_lt, int_le, unsigned_abs, sum_by, All, Err, refl, sym, ap, ap₂, subst, arith, le_trans}
use Rattle.std.specs.List.{filter}
use Rattle.std.proofs.lemmas.Int.{ints}
use Rattle.std.proofs.lemmas.Bool.{and_parts, and_from, leb-true, le-leb, lt-ltb, cases_lt, cases_eq, cond-true, cond-false}
use Rattle.std.proofs.lemmas.Bool.Decides.{nat_tests}
use Rattle.std.proofs.lemmas.List.{map-append, take_all, take_more}
use Rattle.std.proofs.lemmas.List.Elements.{All-nil, All-cons, All-head, All-tail, filter_more}
use Rattle.std.proofs.lemmas.List.Sums.{sum_by-cons, sum_by-take-drop, sum_by-take-le, sum_by-append, sum_by-le-sum_by}
use Rattle.ip_core.specs.declared.row.Term.{Term}
use Rattle.ip_core.specs.declared.model.ModelParts.{ModelParts}
use Rattle.ip_core.specs.declared.row.Row.{Row}
use Rattle.ip_core.specs.declared.row_ref.RowRef.{RowRef}
use Rattle.ip_core.specs.declared.derivation.Derivation.TheVariants.{Cover}
use Rattle.leaf_truth.specs.Steps.{has_row}
use Rattle.cut_separate.specs.Separation.{with_answer, kept_after}
use Rattle.cut_separate.specs.declared.new_cut.NewCut.{NewCut}
use Rattle.cut_derive.specs.declared.refusal.Refusal.TheVariants.{UnknownRow, BadNumbers}
use Rattle.leaf_truth.proofs.TestResults.{int_lt-from}
use Rattle.cut_derive.specs.Covers.{rise_from}
use Rattle.cut_separate.specs.Candidates.{goes_before, weight_before, taken_terms, cover_of}
use Rattle.cut_derive.specs.Chosen.{weight_of}
use Rattle.cut_separate.specs.Thresholds.{size_from, weight_from, size_at, weight_at, is_taken_at}
use Rattle.cut_derive.proofs.Fronts.{cols_of, rises_from_zero}
use Rattle.cut_derive.proofs.Summing.{light_terms}
use Rattle.ip_core.specs.Sides.{Sides}
use Rattle.ip_core.specs.Rows.{IsRow}
use Rattle.cut_derive.proofs.Walking.{rise_lower}

-- what a term adds to the weight before another
abbrev size_before : Term → Term → ℕ
size_before t u = cond (goes_before u t) (unsigned_abs u.coef) 0

-- columns that rise from a number on are at least that number
all_from : (low : ℕ) (terms : List Term) → rise_from low (cols_of terms) ≡ true → All (λ (u : Term). low ≤ u.col) terms
all_from low [] test = All-nil (λ (u : Term). low ≤ u.col)
all_from low (t ∷ terms) test =
    let parts = and_parts (nat_le low t.col) (rise_from (t.col + 1) (cols_of terms)) test in
    let first : low ≤ t.col = leb-true low t.col parts.0 in
    All-cons (λ (u : Term). low ≤ u.col) t terms first (all_from low terms (rise_lower low (t.col + 1) (cols_of terms) (omega (arith, first)) parts.1))

-- the terms before one have lesser columns
front_cols : (low : ℕ) (terms : List Term) (i : ℕ) (d : Term) → rise_from low (cols_of terms) ≡ true → i < length terms → All (λ (u : Term). u.col < (get_or terms i d).col) (take i terms)
front_cols low [] i d test known = absurd (omega (arith, known))
front_cols low (t ∷ terms) zero d test known = All-nil (λ (u : Term). u.col < t.col)
front_cols low (t ∷ terms) (suc i) d test known =
    let parts = and_parts (nat_le low t.col) (rise_from (t.col + 1) (cols_of terms)) test in
    let there : t.col + 1 ≤ (get_or terms i d).col = all_from (t.col + 1) terms parts.1 i d (omega (arith, known)) in
    All-cons (λ (u : Term). u.col < (get_or terms i d).col) t (take i terms) (omega (arith, there)) (front_cols (t.col + 1) terms i d parts.1 (omega (arith, known)))

-- and those from it on don't
back_cols : (low : ℕ) (terms : List Term) (i : ℕ) (d : Term) → rise_from low (cols_of terms) ≡ true → i < length terms → All (λ (u : Term). (get_or terms i d).col ≤ u.col) (drop i terms)
back_cols low [] i d test known = absurd (omega (arith, known))
back_cols low (t ∷ terms) zero d test known =
    let parts = and_parts (nat_le low t.col) (rise_from (t.col + 1) (cols_of terms)) test in
    All-cons (λ (u : Term). t.col ≤ u.col) t terms (omega arith) (all_from t.col terms (rise_lower t.col (t.col + 1) (cols_of terms) (omega arith) parts.1))
back_cols low (t ∷ terms) (suc i) d test known =
    back_cols (t.col + 1) terms i d (and_parts (nat_le low t.col) (rise_from (t.col + 1) (cols_of terms)) test).1 (omega (arith, known))

sums_same : (f g : Term → ℕ) (terms : List Term) → All (λ (u : Term). f u ≡ g u) terms → sum_by f terms ≡ sum_by g terms
sums_same f g [] same = refl
sums_same f g (t ∷ terms) same = rw (sum_by-cons, sum_by-cons) (ap₂ (λ (x y : ℕ). x + y) (All-head (λ (u : Term). f u ≡ g u) t terms same) (sums_same f g terms (All-tail (λ (u : Term). f u ≡ g u) t terms same)))

sums_both : (f g : Term → ℕ) (terms : List Term) → sum_by (λ u. f u + g u) terms ≡ sum_by f terms + sum_by g terms
sums_both f g [] = refl
sums_both f g (t ∷ terms) = rw (sum_by-cons, sum_by-cons, sum_by-cons) (omega (arith, sums_both f g terms))

size_front : (a low u t : ℕ) → u < t → cond (nat_lt low a || (a == low && nat_lt u t)) a 0 ≡ cond (nat_le (low + 1) a) a 0 + cond (a == low) a 0
size_front a low u t before = grind (arith, nat_tests)

size_back : (a low u t : ℕ) → t ≤ u → cond (nat_lt low a || (a == low && nat_lt u t)) a 0 ≡ cond (nat_le (low + 1) a) a 0
size_back a low u t behind = grind (arith, nat_tests)

size_above : (a low size u t : ℕ) → low < size → cond (nat_lt size a || (a == size && nat_lt u t)) a 0 ≤ cond (nat_le (low + 1) a) a 0
size_above a low size u t above = grind (arith, nat_tests)

size_below : (a low size u t : ℕ) → size < low → cond (nat_le low a) a 0 ≤ cond (nat_lt size a || (a == size && nat_lt u t)) a 0
size_below a low size u t below = grind (arith, nat_tests)

-- whether a term is taken
abbrev pub takes : ℤ → List Term → Term → Bool
takes left terms t = int_le (pos (weight_before terms t)) left

before_above : (terms some : List Term) (t : Term) (low : ℕ) → low < unsigned_abs t.coef → sum_by (size_before t) some ≤ weight_from (low + 1) some
before_above terms some t low above = sum_by-le-sum_by (size_before t) (size_from (low + 1)) some (λ u. size_above (unsigned_abs u.coef) low (unsigned_abs t.coef) u.col t.col above)

before_below : (terms some : List Term) (t : Term) (low : ℕ) → unsigned_abs t.coef < low → weight_from low some ≤ sum_by (size_before t) some
before_below terms some t low below = sum_by-le-sum_by (size_from low) (size_before t) some (λ u. size_below (unsigned_abs u.coef) low (unsigned_abs t.coef) u.col t.col below)

-- before a term at the threshold stand those above it, and those at it with lesser columns
before_at : (terms : List Term) (i low : ℕ) (d : Term) → rise_from 0 (cols_of terms) ≡ true → i < length terms → unsigned_abs (get_or terms i d).coef ≡ low → weight_before terms (get_or terms i d) ≡ weight_from (low + 1) terms + weight_at low (take i terms)
before_at terms i low d rising known at =
    let t = get_or terms i d in
    let f = size_before t in
    let g = size_from (low + 1) in
    let h = size_at low in
    let front : sum_by f (take i terms) ≡ sum_by g (take i terms) + sum_by h (take i terms) =
    sums_same f (λ u. g u + h u) (take i terms) (λ k e within. rw at (size_front (unsigned_abs (get_or (take i terms) k e).coef) low (get_or (take i terms) k e).col t.col (front_cols 0 terms i d rising known k e within)))
    ∙ sums_both g h (take i terms)
    in
    let back : sum_by f (drop i terms) ≡ sum_by g (drop i terms) =
    sums_same f g (drop i terms) (λ k e within. rw at (size_back (unsigned_abs (get_or (drop i terms) k e).coef) low (get_or (drop i terms) k e).col t.col (back_cols 0 terms i d rising known k e within)))
    in
    omega (arith, front, back, sum_by-take-drop f terms i, sum_by-take-drop g terms i)

int_le-nat : (a b : ℕ) → int_le (pos a) (pos b) ≡ nat_le a b
int_le-nat a b = refl

taken_cases : (w low size sum left : ℕ) → (low < size → w ≤ left) → (size < low → left < w) → (size ≡ low → w ≡ sum) → (low < size) ⊎ (size ≤ low) → (size ≡ low) ⊎ (size ≢ low) → nat_le w left ≡ is_taken_at size low sum left
taken_cases w low size sum left above below at (inl more) either = le-leb w left (above more) ∙ sym (ap (λ (b : Bool). b || (size == low && nat_le sum left)) (lt-ltb low size more))
taken_cases w low size sum left above below at (inr less) (inl same) = let e : w ≡ sum = at same in grind (arith, nat_tests, less, same, e)
taken_cases w low size sum left above below at (inr less) (inr other) = let far : left < w = below (omega (arith, less, other)) in grind (arith, nat_tests, less, other, far)

taken_test : (w low size sum left : ℕ) → (low < size → w ≤ left) → (size < low → left < w) → (size ≡ low → w ≡ sum) → int_le (pos w) (pos left) ≡ is_taken_at size low sum left
taken_test w low size sum left above below at = taken_cases w low size sum left above below at (cases_lt low size) (cases_eq size low)

one_col : (b : Bool) (t : Term) → map (λ (u : Term). u.col) (cond b (t ∷ []) []) ≡ cond b (t.col ∷ []) []
one_col true t = refl
one_col false t = refl

-- one more term, taken or not
pub taken_more : (left : ℕ) (bad : List Term) (i low sum : ℕ) (d : Term) (cols next : List ℕ) → rise_from 0 (cols_of bad) ≡ true → left < weight_from low bad → weight_from (low + 1) bad ≤ left → i < length bad → cols ≡ map (λ (t : Term). t.col) (filter (takes (pos left) bad) (take i bad)) → sum ≡ weight_from (low + 1) bad + weight_at low (take i bad) → next ≡ cols ++ cond (is_taken_at (unsigned_abs (get_or bad i d).coef) low sum left) ((get_or bad i d).col ∷ []) [] → next ≡ map (λ (t : Term). t.col) (filter (takes (pos left) bad) (take (i + 1) bad))
taken_more left bad i low sum d cols next rising more less known so_far summed pushed =
    let t = get_or bad i d in
    let size = unsigned_abs t.coef in
    let test : takes (pos left) bad t ≡ is_taken_at size low sum left =
    taken_test (weight_before bad t) low size sum left (λ above. le_trans (before_above bad bad t low above) less) (λ below. omega (arith, more, before_below bad bad t low below)) (λ at. before_at bad i low d rising known at ∙ sym summed)
    in
    pushed
    ∙ ap₂ (λ (cs : List ℕ) (b : Bool). cs ++ cond b (t.col ∷ []) []) so_far (sym test)
    ∙ ap (λ (cs : List ℕ). map (λ (u : Term). u.col) (filter (takes (pos left) bad) (take i bad)) ++ cs) (sym (one_col (takes (pos left) bad t) t))
    ∙ sym (ap (map (λ (u : Term). u.col)) (filter_more (takes (pos left) bad) bad i d known) ∙ map-append (λ (u : Term). u.col) (filter (takes (pos left) bad) (take i bad)) (cond (takes (pos left) bad t) (t ∷ []) []))

-- all terms
pub taken_whole : (left : ℕ) (bad : List Term) (i : ℕ) (cols : List ℕ) → length bad ≤ i → cols ≡ map (λ (t : Term). t.col) (filter (takes (pos left) bad) (take i bad)) → cols ≡ map (λ (t : Term). t.col) (taken_terms (pos left) bad)
taken_whole left bad i cols whole so_far = so_far ∙ ap (λ (ts : List Term). map (λ (t : Term). t.col) (filter (takes (pos left) bad) ts)) (take_all i bad whole)

one_or_nothing : (b : Bool) (n : ℕ) → cond b n 0 ≤ n
one_or_nothing true n = omega arith
one_or_nothing false n = omega arith

from_le : (low : ℕ) (t : Term) → size_from low t ≤ unsigned_abs t.coef
from_le low t = one_or_nothing (nat_le low (unsigned_abs t.coef)) (unsigned_abs t.coef)

-- the first of the weights are no more than all
pub from_front : (low : ℕ) (terms : List Term) (i : ℕ) → weight_from low (take i terms) ≤ weight_of terms
from_front low terms i = le_trans (sum_by-take-le (size_from low) terms i) (sum_by-le-sum_by (size_from low) (λ (t : Term). unsigned_abs t.coef) terms (from_le low))

one_sum : (f : Term → ℕ) (t : Term) → sum_by f (t ∷ []) ≡ f t
one_sum f t = rw sum_by-cons (omega arith)

-- the sum over one more term
pub sum_more : (f : Term → ℕ) (terms : List Term) (i : ℕ) (d : Term) → i < length terms → sum_by f (take (i + 1) terms) ≡ sum_by f (take i terms) + f (get_or terms i d)
sum_more f terms i d known =
    ap (sum_by f) (take_more terms i d known) ∙ sum_by-append f (take i terms) (get_or terms i d ∷ []) ∙ ap (λ (n : ℕ). sum_by f (take i terms) + n) (one_sum f (get_or terms i d))

pub from_more : (low : ℕ) (terms : List Term) (i : ℕ) (d : Term) → i < length terms → weight_from low (take i terms) + size_from low (get_or terms i d) ≤ weight_of terms
from_more low terms i d known =
    let next = from_front low terms (i + 1) in
    let parted = sum_more (size_from low) terms i d known in
    omega (arith, next, parted)

none_beyond : (a n : ℕ) → a ≤ n → cond (nat_le (n + 1) a) a 0 ≡ 0
none_beyond a n few = grind (arith, nat_tests, few)

-- beyond all of them together nothing is left
pub from_beyond : (n : ℕ) (terms : List Term) → weight_of terms ≤ n → weight_from (n + 1) terms ≡ 0
from_beyond n [] few = refl
from_beyond n (t ∷ terms) few =
    let parts : unsigned_abs t.coef + weight_of terms ≤ n = rw sum_by-cons at few in
    rw sum_by-cons (omega (arith, none_beyond (unsigned_abs t.coef) n (omega (arith, parts)), from_beyond n terms (omega (arith, parts))))

nothing_less : (a : ℕ) → cond (nat_le 0 a) a 0 ≡ a
nothing_less a = grind (arith, nat_tests)

all_from_nothing : (terms : List Term) → weight_from 0 terms ≡ weight_of terms
all_from_nothing terms = sums_same (size_from 0) (λ (t : Term). unsigned_abs t.coef) terms (λ k d h. nothing_less (unsigned_abs (get_or terms k d).coef))

kept_rises : (b : Bool) (low : ℕ) (t : Term) (rest : List Term) → nat_le low t.col ≡ true → rise_from (t.col + 1) (cols_of rest) ≡ true → rise_from low (cols_of rest) ≡ true → rise_from low (cols_of (cond b (t ∷ rest) rest)) ≡ true
kept_rises true low t rest first more less = and_from (nat_le low t.col) (rise_from (t.col + 1) (cols_of rest)) first more
kept_rises false low t rest first more less = less

-- terms that are left of rising ones rise
pub filter_rises : (p : Term → Bool) (low : ℕ) (terms : List Term) → rise_from low (cols_of terms) ≡ true → rise_from low (cols_of (filter p terms)) ≡ true
filter_rises p low [] test = refl
filter_rises p low (t ∷ terms) test =
    let parts = and_parts (nat_le low t.col) (rise_from (t.col + 1) (cols_of terms)) test in
    let first : low ≤ t.col = leb-true low t.col parts.0 in
    kept_rises (p t) low t (filter p terms) parts.0 (filter_rises p (t.col + 1) terms parts.1) (filter_rises p low terms (rise_lower low (t.col + 1) (cols_of terms) (omega (arith, first)) parts.1))

kept_light : (b : Bool) (t : Term) (rest : List Term) (n : ℕ) → weight_of rest ≤ n → weight_of (cond b (t ∷ rest) rest) ≤ unsigned_abs t.coef + n
kept_light true t rest n few = rw sum_by-cons (omega (arith, few))
kept_light false t rest n few = omega (arith, few)

-- and are no heavier
pub filter_light : (p : Term → Bool) (terms : List Term) → weight_of (filter p terms) ≤ weight_of terms
filter_light p [] = omega arith
filter_light p (t ∷ terms) = rw sum_by-cons (kept_light (p t) t (filter p terms) (weight_of terms) (filter_light p terms))

int_lt-not : (a b : ℤ) → b ≤ℤ a → int_lt a b ≡ false
int_lt-not a b le = first_of (grind (arith, ints, le), grind (arith, ints, nat_tests, le))

-- a cover is tried where the terms are more than the row leaves
pub cover_tried : (left : ℕ) (z : ℤ) (name : RowRef) (bad : List Term) → z ≡ pos left → left < weight_from 0 bad → cover_of z name bad ≡ Cover name (map (λ (t : Term). t.col) (taken_terms (pos left) bad)) ∷ []
cover_tried left z name bad same more =
    let heavy : left < weight_of bad = subst (λ (n : ℕ). left < n) (all_from_nothing bad) more in
    let test : int_lt (pos left) (pos (weight_of bad)) ≡ true = int_lt-from (pos left) (pos (weight_of bad)) (omega (arith, ints, heavy)) in
    rw same (cond-true (int_lt (pos left) (pos (weight_of bad))) _ [] test)

-- and none where they aren't
pub cover_untried : (left : ℕ) (z : ℤ) (name : RowRef) (bad : List Term) → z ≡ pos left → weight_from 0 bad ≤ left → cover_of z name bad ≡ []
cover_untried left z name bad same less =
    let light : weight_of bad ≤ left = subst (λ (n : ℕ). n ≤ left) (all_from_nothing bad) less in
    let test : int_lt (pos left) (pos (weight_of bad)) ≡ false = int_lt-not (pos left) (pos (weight_of bad)) (omega (arith, ints, light)) in
    rw same (cond-false (int_lt (pos left) (pos (weight_of bad))) _ [] test)

below_nothing : (n : ℕ) (z : ℤ) → z <ℤ pos 0 → int_le (pos n) z ≡ false
below_nothing n (pos k) below = absurd (omega (arith, ints, below))
below_nothing n (negsuc k) below = refl

none_taken : (terms some : List Term) (z : ℤ) → z <ℤ pos 0 → filter (takes z terms) some ≡ []
none_taken terms [] z below = refl
none_taken terms (t ∷ some) z below = cond-false (takes z terms t) _ _ (below_nothing (weight_before terms t) z below) ∙ none_taken terms some z below

empty_refused : (m : ModelParts) (cuts : List Row) (x : List ℤ) (kept : List NewCut) (name : RowRef) (b : Bool) → with_answer m cuts x kept (Cover name []) (cond b (Err BadNumbers) (Err UnknownRow)) ≡ kept
empty_refused m cuts x kept name true = refl
empty_refused m cuts x kept name false = refl

negative_cases : (m : ModelParts) (cuts : List Row) (x : List ℤ) (kept : List NewCut) (name : RowRef) (cols : List ℕ) (b : Bool) → cols ≡ [] → kept_after m cuts x kept (cond b (Cover name cols ∷ []) []) ≡ kept
negative_cases m cuts x kept name cols true none = rw none (empty_refused m cuts x kept name (has_row m.rows cuts name))
negative_cases m cuts x kept name cols false none = refl

-- where a row leaves less than nothing, no column is taken, and the cover of no column is refused
pub cover_negative : (m : ModelParts) (cuts : List Row) (x : List ℤ) (kept : List NewCut) (z : ℤ) (name : RowRef) (bad : List Term) → z <ℤ pos 0 → kept_after m cuts x kept (cover_of z name bad) ≡ kept
cover_negative m cuts x kept z name bad below =
    negative_cases m cuts x kept name (map (λ (t : Term). t.col) (taken_terms z bad)) (int_lt z (pos (weight_of bad))) (ap (map (λ (t : Term). t.col)) (none_taken bad bad z below))

at_le : (size : ℕ) (t : Term) → size_at size t ≤ unsigned_abs t.coef
at_le size t = one_or_nothing (unsigned_abs t.coef == size) (unsigned_abs t.coef)

pub at_more : (size : ℕ) (terms : List Term) (i : ℕ) (d : Term) → i < length terms → weight_at size (take i terms) + size_at size (get_or terms i d) ≤ weight_of terms
at_more size terms i d known =
    let front = le_trans (sum_by-take-le (size_at size) terms (i + 1)) (sum_by-le-sum_by (size_at size) (λ (t : Term). unsigned_abs t.coef) terms (at_le size)) in
    omega (arith, front, sum_more (size_at size) terms i d known)

-- a number of at least 0 is its absolute value
pub of_natural : (z : ℤ) (n : ℕ) → n ≡ unsigned_abs z → pos 0 ≤ℤ z → z ≡ pos n
of_natural (pos k) n same above = ap pos (sym same)
of_natural (negsuc k) n same above = absurd (omega (arith, ints, above))

-- the terms of a row at their bad end rise and are light
pub bad_rises : (p : Term → Bool) (n : ℕ) (s : Sides) (row : Row) → IsRow n s row → rise_from 0 (cols_of (filter p row.terms)) ≡ true
bad_rises p n s row valid = filter_rises p 0 row.terms (rises_from_zero (cols_of row.terms) valid.rising)

pub bad_light : (p : Term → Bool) (n : ℕ) (s : Sides) (row : Row) → IsRow n s row → weight_of (filter p row.terms) ≤ 2 ^ 50
bad_light p n s row valid = let light : weight_of row.terms ≤ 2 ^ 50 = (light_terms n s row valid).narrow in omega (arith, filter_light p row.terms, light)

size_narrower : (a m k : ℕ) → m ≤ k → cond (nat_le (k + 1) a) a 0 ≤ cond (nat_le (m + 1) a) a 0
size_narrower a m k le = grind (arith, nat_tests, le)

-- one more term that is no greater than a number
pub none_more : (terms : List Term) (i m k : ℕ) (d : Term) → i < length terms → weight_from (m + 1) (take i terms) ≡ 0 → m ≤ k → unsigned_abs (get_or terms i d).coef ≤ k → weight_from (k + 1) (take (i + 1) terms) ≡ 0
none_more terms i m k d known none le few =
    let front : weight_from (k + 1) (take i terms) ≤ weight_from (m + 1) (take i terms) = sum_by-le-sum_by (size_from (k + 1)) (size_from (m + 1)) (take i terms) (λ u. size_narrower (unsigned_abs u.coef) m k le) in
    omega (arith, sum_more (size_from (k + 1)) terms i d known, front, none, none_beyond (unsigned_abs (get_or terms i d).coef) k few)

-- one term is no heavier than all
pub one_of_all : (terms : List Term) (i : ℕ) (d : Term) → i < length terms → unsigned_abs (get_or terms i d).coef ≤ weight_of terms
one_of_all terms i d known = omega (arith, from_more 0 terms i d known, nothing_less (unsigned_abs (get_or terms i d).coef))
