-- What a row that is given has.
use Rattle.std.proofs.Common.{◌≡◌, ◌≢◌, ◌∙◌, ℕ, ◌≤◌, Bool, true, false, cond, nat_le, List, [], ◌∷◌, length, map, pos, negsuc, int_lt, All, Option, Some, None, Result, Ok, Err, refl, ap, subst, arith}
use Rattle.std.proofs.lemmas.Int.{ints}
use Rattle.std.proofs.lemmas.Bool.{leb-true}
use Rattle.std.proofs.lemmas.List.Elements.{All-nil, All-cons, All-head, All-tail}
use Rattle.ip_core.specs.Sides.{Sides}
use Rattle.ip_core.specs.Rows.{IsTerm, AreTerms, IsRow, coefficient, row_width}
use Rattle.ip_core.specs.declared.limits.TheConstants.{MAX_WIDTH}
use Rattle.ip_core.specs.declared.row.Row.{Row}
use Rattle.cut_derive.specs.Covers.{cover_term, cover_row, rise_from, first_unfit, is_cover}
use Rattle.cut_derive.specs.Derivations.{unless_large, cover_unless}
use Rattle.cut_derive.specs.declared.limits.TheConstants.{MAX_CUT_TERMS}
use Rattle.cut_derive.specs.declared.refusal.Refusal.{Refusal}
use Rattle.cut_derive.specs.declared.refusal.Refusal.TheVariants.{TooWide, TooLong, NotBinary, NotCover}
use Rattle.cut_derive.proofs.Fronts.{cols_of, IsFront, rising_from_test}
use Rattle.cut_derive.proofs.Covering.{IsChosen, all_chosen}

-- a row as an answer
abbrev answer : Row → Result Row Refusal
answer row = Ok row

err_ok : (e : Refusal) (x : Row) → Err e ≡ answer x → ⊥
err_ok e x same = cc

ok_same : (x y : Row) → answer x ≡ answer y → x ≡ y
ok_same x y same = cc

-- a test before a row, of which one side is a refusal
pub if_ok : (b : Bool) (first : Result Row Refusal) (why : Refusal) (row : Row) → cond b first (Err why) ≡ Ok row → (b ≡ true) × (first ≡ Ok row)
if_ok true first why row same = (refl, same)
if_ok false first why row same = absurd (err_ok why row same)

-- a row that isn't too large is given as it is
pub record IsGiven (s : Sides) (made row : Row) : Type 0 where
  pub same : made ≡ row
  pub narrow : row_width s row ≤ MAX_WIDTH
  pub short : length row.terms ≤ MAX_CUT_TERMS

pub given_of : (s : Sides) (made row : Row) → unless_large s made ≡ Ok row → IsGiven s made row
given_of s made row same =
    let first = if_ok (nat_le (row_width s made) MAX_WIDTH) (cond (nat_le (length made.terms) MAX_CUT_TERMS) (Ok made) (Err TooLong)) TooWide row same in
    let second = if_ok (nat_le (length made.terms) MAX_CUT_TERMS) (Ok made) TooLong row first.1 in
    let is : made ≡ row = ok_same made row second.1 in
    record {
      same = is;
      narrow = subst (λ (r : Row). row_width s r ≤ MAX_WIDTH) is (leb-true (row_width s made) MAX_WIDTH first.0);
      short = subst (λ (r : Row). length r.terms ≤ MAX_CUT_TERMS) is (leb-true (length made.terms) MAX_CUT_TERMS second.0);
    }

-- what a cover that is given has
pub record IsGivenCover (s : Sides) (row : Row) (cols : List ℕ) (made : Row) : Type 0 where
  pub fit : first_unfit s row cols ≡ None
  pub cover : is_cover s row cols ≡ true
  pub given : IsGiven s (cover_row row cols) made

cover_of : (s : Sides) (row : Row) (cols : List ℕ) (made : Row) (unfit : Option ℕ) → first_unfit s row cols ≡ unfit → cover_unless s row cols unfit ≡ Ok made → IsGivenCover s row cols made
cover_of s row cols made (Some col) is same = absurd (err_ok (NotBinary col) made same)
cover_of s row cols made None is same =
    let parts = if_ok (is_cover s row cols) (unless_large s (cover_row row cols)) NotCover made same in
    record { fit = is; cover = parts.0; given = given_of s (cover_row row cols) made parts.1 }

pub given_cover : (s : Sides) (row : Row) (cols : List ℕ) (made : Row) → cover_unless s row cols (first_unfit s row cols) ≡ Ok made → IsGivenCover s row cols made
given_cover s row cols made same = cover_of s row cols made (first_unfit s row cols) refl same

-- a front of narrow terms is a row
pub front_row : (n : ℕ) (s : Sides) (row : Row) → IsFront n row.terms → row_width s row ≤ MAX_WIDTH → IsRow n s row
front_row n s row front narrow = record {
  terms = record { each = front.known };
  rising = rising_from_test 0 (cols_of row.terms) front.rising;
  narrow = narrow;
}

cols_again : (row : Row) (cols : List ℕ) → cols_of (map (cover_term row) cols) ≡ cols
cols_again row [] = refl
cols_again row (c ∷ cols) = ap (λ (cs : List ℕ). c ∷ cs) (cols_again row cols)

sign_nonzero : (b : Bool) → cond b (pos 1) (negsuc 0) ≢ pos 0
sign_nonzero true = λ e. absurd (omega (arith, ints, e))
sign_nonzero false = λ e. absurd (omega (arith, ints, e))

cover_terms : (n : ℕ) (s : Sides) (row : Row) (cols : List ℕ) → All (IsChosen n s row) cols → All (IsTerm n) (map (cover_term row) cols)
cover_terms n s row [] chosen = All-nil (IsTerm n)
cover_terms n s row (c ∷ cols) chosen =
    All-cons (IsTerm n) (cover_term row c) (map (cover_term row) cols) (record { known = (All-head (IsChosen n s row) c cols chosen).known; nonzero = sign_nonzero (int_lt (pos 0) (coefficient c row.terms)) })
    (cover_terms n s row cols (All-tail (IsChosen n s row) c cols chosen))

-- the terms of a cover
pub cover_front : (n : ℕ) (s : Sides) (row : Row) (cols : List ℕ) → AreTerms n row.terms → rise_from 0 cols ≡ true → first_unfit s row cols ≡ None → IsFront n (cover_row row cols).terms
cover_front n s row cols terms rise none = record {
  known = cover_terms n s row cols (all_chosen n s row cols terms none);
  rising = ap (rise_from 0) (cols_again row cols) ∙ rise;
}
