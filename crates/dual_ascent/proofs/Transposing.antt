use Rattle.std.proofs.Common.{◌≡◌, ◌≢◌, ◌∙◌, ℕ, zero, suc, ◌+◌, ◌*◌, ◌^◌, ◌<◌, ◌≤◌, ◌⊎◌, inl, inr, List, [], ◌∷◌, ◌++◌, length, take, get_or, set, ℤ, pos, ◌+ℤ◌, unsigned_abs, sum_by, All, refl, sym, ap, subst, arith, mul-add, mul-one}
use Rattle.std.proofs.lemmas.Int.{ints}
use Rattle.std.proofs.lemmas.Bool.{cases_eq, cases_lt}
use Rattle.std.proofs.lemmas.List.{length-set, length-append, get_or-set_same, get_or-set_other, get_or_past, take_more}
use Rattle.std.proofs.lemmas.List.Elements.{All-append, All-nil}
use Rattle.std.proofs.lemmas.List.Sums.{sum_by-append, sum_by-cons}
use Rattle.ip_core.specs.Rows.{own_coefficient, coefficient}
use Rattle.ip_core.specs.declared.model.ModelParts.{ModelParts}
use Rattle.ip_core.specs.declared.row.Row.{Row}
use Rattle.ip_core.specs.declared.row.Term.{Term}
use Rattle.ip_core.proofs.IntSums.{int_sum_by-append}
use Rattle.safe_bound.specs.Bounds.{all_rows, row_of}
use Rattle.safe_bound.proofs.Weighted.{own_here, own_elsewhere}
use Rattle.dual_ascent.specs.Kept.{sizes, AreOfRows, IsColumn, AreColumns, HasRowAdded}

-- the term of row k with the coefficient of a term
abbrev pub entry : ℕ → Term → Term
entry k t = record { col = k; coef = t.coef }

-- lists to whose list of column `col` one term was added
abbrev pub with_entry : List (List Term) → ℕ → Term → List (List Term)
with_entry lists col e = set lists col (get_or lists col [] ++ e ∷ [])

pushed_coefficient : (i : ℕ) (terms : List Term) (e : Term) → coefficient i (terms ++ e ∷ []) ≡ coefficient i terms +ℤ own_coefficient i e
pushed_coefficient i terms e =
    let whole = int_sum_by-append (own_coefficient i) terms (e ∷ []) in
    omega (arith, ints, whole)

pushed_sizes : (terms : List Term) (e : Term) → sizes (terms ++ e ∷ []) ≡ sizes terms + unsigned_abs e.coef
pushed_sizes terms e =
    let whole = sum_by-append (λ (t : Term). unsigned_abs t.coef) terms (e ∷ []) in
    omega (arith, whole, sum_by-cons (λ (t : Term). unsigned_abs t.coef) e [])

one_of_rows : (n : ℕ) (e : Term) → e.col < n → (k : ℕ) (d : Term) → k < 1 → (get_or (e ∷ []) k d).col < n
one_of_rows n e known zero d h = known
one_of_rows n e known (suc k) d h = absurd (omega arith)

pushed_rows : (n : ℕ) (terms : List Term) (e : Term) → e.col < n → AreOfRows n terms → AreOfRows n (terms ++ e ∷ [])
pushed_rows n terms e known before = record {
  each = All-append (λ (t : Term). t.col < n) terms (e ∷ []) before.each (λ k d h. one_of_rows n e known k d h);
}

-- what holds of the list of each column after one term was added
entry_holds : (P : List Term → Type 0) (lists : List (List Term)) (col j : ℕ) (e : Term) → col < length lists → (j ≡ col → P (get_or lists col [] ++ e ∷ [])) → ((j ≡ col → ⊥) → P (get_or lists j [])) → (j ≡ col) ⊎ (j ≡ col → ⊥) → P (get_or (with_entry lists col e) j [])
entry_holds P lists col j e known here there (inl same) =
    rw (same, get_or-set_same lists col (get_or lists col [] ++ e ∷ []) [] known) (here same)
entry_holds P lists col j e known here there (inr other) =
    rw (get_or-set_other lists col j (get_or lists col [] ++ e ∷ []) [] other) (there other)

-- nothing was added
pub row_none : (k : ℕ) (lists : List (List Term)) → HasRowAdded k [] lists lists
row_none k lists = record {
  long = refl;
  own = λ j h. omega (arith, ints);
  others = λ j i other. refl;
  light = λ j. omega arith;
  known = λ n j h before. before;
}

own_added : (a b c : ℤ) (x y : ℤ) → a ≡ b +ℤ c → x ≡ y → a +ℤ x ≡ b +ℤ (c +ℤ y)
own_added a b c x y first second = omega (arith, ints)

own_left : (a b c : ℤ) (y : ℤ) → a ≡ b +ℤ c → y ≡ pos 0 → a ≡ b +ℤ (c +ℤ y)
own_left a b c y first nothing = omega (arith, ints)

nothing_more : (a b x : ℤ) → a ≡ b → x ≡ pos 0 → a +ℤ x ≡ b
nothing_more a b x same nothing = omega (arith, ints)

module _ (k : ℕ) (front : List Term) (t : Term) (old now : List (List Term)) (within : t.col < length now) (before : HasRowAdded k front old now) where
  more_own : (j : ℕ) → j < length old → coefficient k (get_or (with_entry now t.col (entry k t)) j []) ≡ coefficient k (get_or old j []) +ℤ coefficient j (front ++ t ∷ [])
  more_own j h =
      let so_far = before.own j h in
      rw (pushed_coefficient j front t) (entry_holds (λ list. coefficient k list ≡ coefficient k (get_or old j []) +ℤ (coefficient j front +ℤ own_coefficient j t)) now t.col j (entry k t) within
      (λ here. rw (pushed_coefficient k (get_or now t.col []) (entry k t)) (own_added (coefficient k (get_or now t.col [])) (coefficient k (get_or old j [])) (coefficient j front) (own_coefficient k (entry k t)) (own_coefficient j t) (subst (λ i. coefficient k (get_or now i []) ≡ coefficient k (get_or old j []) +ℤ coefficient j front) here so_far) (own_here k (entry k t) refl ∙ sym (own_here j t (sym here)))))
      (λ there. own_left (coefficient k (get_or now j [])) (coefficient k (get_or old j [])) (coefficient j front) (own_coefficient j t) so_far (own_elsewhere j t (λ e. there (sym e))))
      (cases_eq j t.col))

  more_others : (j i : ℕ) → i ≢ k → coefficient i (get_or (with_entry now t.col (entry k t)) j []) ≡ coefficient i (get_or old j [])
  more_others j i other =
      entry_holds (λ list. coefficient i list ≡ coefficient i (get_or old j [])) now t.col j (entry k t) within
      (λ here. rw (pushed_coefficient i (get_or now t.col []) (entry k t)) (nothing_more (coefficient i (get_or now t.col [])) (coefficient i (get_or old j [])) (own_coefficient i (entry k t)) (subst (λ c. coefficient i (get_or now c []) ≡ coefficient i (get_or old j [])) here (before.others j i other)) (own_elsewhere i (entry k t) (λ e. other (sym e)))))
      (λ there. before.others j i other)
      (cases_eq j t.col)

  more_light : (j : ℕ) → sizes (get_or (with_entry now t.col (entry k t)) j []) ≤ sizes (get_or old j []) + sizes (front ++ t ∷ [])
  more_light j =
      rw (pushed_sizes front t) (entry_holds (λ list. sizes list ≤ sizes (get_or old j []) + (sizes front + unsigned_abs t.coef)) now t.col j (entry k t) within
      (λ here. let so_far : sizes (get_or now t.col []) ≤ sizes (get_or old j []) + sizes front = subst (λ c. sizes (get_or now c []) ≤ sizes (get_or old j []) + sizes front) here (before.light j) in rw (pushed_sizes (get_or now t.col []) (entry k t)) (omega arith))
      (λ there. omega (arith, before.light j))
      (cases_eq j t.col))

  more_known : (n j : ℕ) → k < n → AreOfRows n (get_or old j []) → AreOfRows n (get_or (with_entry now t.col (entry k t)) j [])
  more_known n j few of_rows =
      entry_holds (AreOfRows n) now t.col j (entry k t) within
      (λ here. pushed_rows n (get_or now t.col []) (entry k t) few (subst (λ c. AreOfRows n (get_or now c [])) here (before.known n j few of_rows)))
      (λ there. before.known n j few of_rows)
      (cases_eq j t.col)

  -- one more term was added
  row_pushed : HasRowAdded k (front ++ t ∷ []) old (with_entry now t.col (entry k t))
  row_pushed = record {
    long = length-set now t.col (get_or now t.col [] ++ entry k t ∷ []) ∙ before.long;
    own = more_own;
    others = more_others;
    light = more_light;
    known = more_known;
  }

-- one more term of a row was added
pub row_more : (k i : ℕ) (terms : List Term) (d : Term) (old now new : List (List Term)) → i < length terms → (get_or terms i d).col < length now → new ≡ with_entry now (get_or terms i d).col (entry k (get_or terms i d)) → HasRowAdded k (take i terms) old now → HasRowAdded k (take (i + 1) terms) old new
row_more k i terms d old now new within known same before =
    rw (take_more terms i d within, same) (row_pushed k (take i terms) (get_or terms i d) old now known before)

-- the terms of the first k rows by columns
pub record AreColumnsUpTo (m : ModelParts) (cuts : List Row) (k : ℕ) (lists : List (List Term)) : Type 0 where
  pub long : length lists ≡ length m.cols
  pub known : (j : ℕ) → AreOfRows (length (all_rows m cuts)) (get_or lists j [])
  pub light : (j : ℕ) → sizes (get_or lists j []) ≤ 2 ^ 50 * k
  pub same : (j i : ℕ) → j < length m.cols → i < k → coefficient i (get_or lists j []) ≡ coefficient j (row_of m cuts i).terms
  pub later : (j i : ℕ) → k ≤ i → coefficient i (get_or lists j []) ≡ pos 0

-- empty lists
pub columns_none : (m : ModelParts) (cuts : List Row) (lists : List (List Term)) → length lists ≡ length m.cols → ((j : ℕ) → get_or lists j [] ≡ []) → AreColumnsUpTo m cuts 0 lists
columns_none m cuts lists long empty = record {
  long = long;
  known = λ j. rw (empty j) (record { each = All-nil (λ (t : Term). t.col < length (all_rows m cuts)) });
  light = λ j. rw (empty j) (omega arith);
  same = λ j i h k. absurd (omega arith);
  later = λ j i h. rw (empty j) refl;
}

same_cases : (m : ModelParts) (cuts : List Row) (k : ℕ) (now new : List (List Term)) → AreColumnsUpTo m cuts k now → HasRowAdded k (row_of m cuts k).terms now new → (j i : ℕ) → j < length m.cols → (i < k) ⊎ (k ≤ i) → i < k + 1 → coefficient i (get_or new j []) ≡ coefficient j (row_of m cuts i).terms
same_cases m cuts k now new before added j i col (inl earlier) within = added.others j i (λ e. omega arith) ∙ before.same j i col earlier
same_cases m cuts k now new before added j i col (inr here) within =
    let same : i ≡ k = omega arith in
    let own = added.own j (omega (arith, before.long)) in
    let none = before.later j k (omega arith) in
    rw same (omega (arith, ints, own, none))

-- the terms of one more row
pub columns_more : (m : ModelParts) (cuts : List Row) (k : ℕ) (now new : List (List Term)) → k < length (all_rows m cuts) → sizes (row_of m cuts k).terms ≤ 2 ^ 50 → AreColumnsUpTo m cuts k now → HasRowAdded k (row_of m cuts k).terms now new → AreColumnsUpTo m cuts (k + 1) new
columns_more m cuts k now new within small before added = record {
  long = added.long ∙ before.long;
  known = λ j. added.known (length (all_rows m cuts)) j within (before.known j);
  light = λ j. rw (mul-add, mul-one) (omega (arith, added.light j, before.light j));
  same = λ j i col h. same_cases m cuts k now new before added j i col (cases_lt i k) h;
  later = λ j i h. added.others j i (λ e. omega arith) ∙ before.later j i (omega arith);
}

all_cases : (m : ModelParts) (cuts : List Row) (lists : List (List Term)) → AreColumnsUpTo m cuts (length (all_rows m cuts)) lists → (j i : ℕ) → j < length m.cols → (i < length (all_rows m cuts)) ⊎ (length (all_rows m cuts) ≤ i) → coefficient i (get_or lists j []) ≡ coefficient j (row_of m cuts i).terms
all_cases m cuts lists whole j i col (inl known) = whole.same j i col known
all_cases m cuts lists whole j i col (inr past) =
    let none : row_of m cuts i ≡ record { terms = []; least = pos 0 } = get_or_past (all_rows m cuts) i (record { terms = []; least = pos 0 }) past in
    whole.later j i past ∙ ap (λ (row : Row). coefficient j row.terms) (sym none)

-- the terms of all rows
pub columns_all : (m : ModelParts) (cuts : List Row) (lists : List (List Term)) → length (all_rows m cuts) ≤ 2 ^ 31 → AreColumnsUpTo m cuts (length (all_rows m cuts)) lists → AreColumns m cuts lists
columns_all m cuts lists few whole = record {
  long = whole.long;
  each = λ j h. record {
    known = whole.known j;
    light = omega (arith, whole.light j);
    same = λ i. all_cases m cuts lists whole j i h (cases_lt i (length (all_rows m cuts)));
  };
}

-- one more empty list
pub push_empty : (lists : List (List Term)) → ((j : ℕ) → get_or lists j [] ≡ []) → (j : ℕ) → get_or (lists ++ [] ∷ []) j [] ≡ []
push_empty [] empty zero = refl
push_empty [] empty (suc j) = refl
push_empty (x ∷ lists) empty zero = empty 0
push_empty (x ∷ lists) empty (suc j) = push_empty lists (λ k. empty (suc k)) j
