use Rattle.std.proofs.Common.{◌≡◌, ◌∙◌, ℕ, zero, suc, ◌+◌, ◌≤◌, ◌<◌, ◌==◌, Bool, true, false, ◌&&◌, ◌||◌, List, [], ◌∷◌, ◌++◌, length, refl, ap, sym, arith, subst, slice_set}
use Rattle.std.proofs.lemmas.List.Folds.{list_any-append}
use Rattle.std.proofs.lemmas.Bool.Decides.{nat_tests}
use Rattle.mps_read.specs.DraftKinds.{has_mark}
use Rattle.mps_read.specs.Drafts.{latest_at}
use Rattle.mps_read.specs.declared.draft.Mark.{Mark}
use Rattle.mps_lines.proofs.Truths.{by_case}

or_same : (b : Bool) → (b || false) ≡ b
or_same true = refl
or_same false = refl

-- one more mark
pub has_mark-push : (row col r c : ℕ) (marks : List Mark) → has_mark r c (marks ++ record { row = row; col = col } ∷ []) ≡ (has_mark r c marks || (row == r && col == c))
has_mark-push row col r c marks =
    list_any-append (λ m. m.row == r && m.col == c) marks (record { row = row; col = col } ∷ []) ∙ ap (λ b. has_mark r c marks || b) (or_same (row == r && col == c))

latest-same : (latest : List ℕ) (row count : ℕ) → row < length latest → latest_at (slice_set latest row count) row ≡ count
latest-same [] row count h = absurd (omega arith)
latest-same (n ∷ latest) zero count h = refl
latest-same (n ∷ latest) (suc row) count h = latest-same latest row count (omega arith)

latest-other : (latest : List ℕ) (row r count : ℕ) → (row == r) ≡ false → latest_at (slice_set latest row count) r ≡ latest_at latest r
latest-other [] row r count h = refl
latest-other (n ∷ latest) zero zero count h = cc
latest-other (n ∷ latest) zero (suc r) count h = refl
latest-other (n ∷ latest) (suc row) zero count h = refl
latest-other (n ∷ latest) (suc row) (suc r) count h = latest-other latest row r count (grind (arith, nat_tests))

eq_of : (n m : ℕ) → (n == m) ≡ true → n ≡ m
eq_of n m h = grind (arith, nat_tests)

pub same_eq : (n : ℕ) → (n == n) ≡ true
same_eq n = grind (arith, nat_tests)

eq_suc : (n m : ℕ) → (n + 1 == m + 1) ≡ (n == m)
eq_suc n m = grind (arith, nat_tests)

pub not_eq : (n m : ℕ) → n < m → (n == m) ≡ false
not_eq n m h = grind (arith, nat_tests)

or_true : (b : Bool) → (b || true) ≡ true
or_true true = refl
or_true false = refl

-- marks after one more entry in the last column
pub marked-more : (latest : List ℕ) (marks : List Mark) (row col names : ℕ) → row < length latest → col + 1 ≡ names
    → ((r c : ℕ) → names ≤ c + 1 → has_mark r c marks ≡ (latest_at latest r == c + 1)) → ((r : ℕ) → latest_at latest r ≤ names)
    → (r c : ℕ) → names ≤ c + 1 → has_mark r c (marks ++ record { row = row; col = col } ∷ []) ≡ (latest_at (slice_set latest row (col + 1)) r == c + 1)
marked-more latest marks row col names within last marked before r c large =
    let has : Bool = has_mark r c marks in
    let pushed : has_mark r c (marks ++ record { row = row; col = col } ∷ []) ≡ (has || (row == r && col == c)) = has_mark-push row col r c marks in
    by_case (row == r) _
    (λ same.
    let here : latest_at (slice_set latest row (col + 1)) r ≡ col + 1 =
    subst (λ (x : ℕ). latest_at (slice_set latest row (col + 1)) x ≡ col + 1) (eq_of row r same) (latest-same latest row (col + 1) within) in
    by_case (col == c) _
    (λ at.
    pushed ∙ ap (λ b. has || (b && col == c)) same ∙ ap (λ b. has || (true && b)) at ∙ or_true has
    ∙ sym (ap (λ n. n == c + 1) here ∙ eq_suc col c ∙ at))
    (λ past.
    let later : latest_at latest r < c + 1 = grind (arith, nat_tests, before r, last, large, past) in
    pushed ∙ ap (λ b. has || (b && col == c)) same ∙ ap (λ b. has || (true && b)) past ∙ or_same has
    ∙ marked r c large ∙ not_eq (latest_at latest r) (c + 1) later
    ∙ sym (ap (λ n. n == c + 1) here ∙ eq_suc col c ∙ past)))
    (λ other.
    pushed ∙ ap (λ b. has || (b && col == c)) other ∙ or_same has ∙ marked r c large
    ∙ sym (ap (λ n. n == c + 1) (latest-other latest row r (col + 1) other)))

pub latest-below : (latest : List ℕ) (row count names r : ℕ) → count ≤ names → ((r : ℕ) → latest_at latest r ≤ names) → latest_at (slice_set latest row count) r ≤ names
latest-below [] row count names r le before = before r
latest-below (n ∷ latest) zero count names zero le before = le
latest-below (n ∷ latest) zero count names (suc r) le before = before (suc r)
latest-below (n ∷ latest) (suc row) count names zero le before = before zero
latest-below (n ∷ latest) (suc row) count names (suc r) le before = latest-below latest row count names r le (λ q. before (suc q))
