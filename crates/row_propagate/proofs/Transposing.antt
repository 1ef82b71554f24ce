use Rattle.std.proofs.Common.{◌≡◌, ◌≢◌, ◌∙◌, ℕ, zero, suc, ◌+◌, ◌<◌, ◌==◌, Bool, true, false, cond, List, [], ◌∷◌, ◌++◌, length, get_or, map, take, set, ℤ, All, eq-eqb, ne_eqb, refl, sym, ap, subst, arith, append_assoc, length-append, length-set}
use Rattle.std.proofs.lemmas.List.{append-nil, length-take-le, map-append, take_more, get_or-set_same, get_or-set_other}
use Rattle.std.proofs.lemmas.List.Elements.{All-append, All-map}
use Rattle.ip_core.specs.declared.row.Row.{Row}
use Rattle.ip_core.specs.declared.row.Term.{Term}
use Rattle.row_propagate.specs.Kept.{coefs_at, entry, entries, AreColumns, HasRowAdded}
use Rattle.row_propagate.specs.Moves.{AreEntries}
use Rattle.row_propagate.proofs.Stepping.{at_or_apart}

cond_append : (b : Bool) (c : ℤ) (xs xs' ys : List ℤ) → xs' ≡ xs ++ ys → cond b (c ∷ xs') xs' ≡ cond b (c ∷ xs) xs ++ ys
cond_append true c xs xs' ys same = ap (λ zs. c ∷ zs) same
cond_append false c xs xs' ys same = same

-- the coefficients in two lists of terms, one after the other
pub coefs_at-append : (j : ℕ) (xs ys : List Term) → coefs_at j (xs ++ ys) ≡ coefs_at j xs ++ coefs_at j ys
coefs_at-append j [] ys = refl
coefs_at-append j (t ∷ xs) ys = cond_append (t.col == j) t.coef (coefs_at j xs) (coefs_at j (xs ++ ys)) (coefs_at j ys) (coefs_at-append j xs ys)

-- one more term
pub coefs_at-more : (j : ℕ) (xs : List Term) (i : ℕ) (d : Term) → i < length xs → coefs_at j (take (i + 1) xs) ≡ coefs_at j (take i xs) ++ coefs_at j (get_or xs i d ∷ [])
coefs_at-more j xs i d within = ap (coefs_at j) (take_more xs i d within) ∙ coefs_at-append j (take i xs) (get_or xs i d ∷ [])

one_at_cases : (b : Bool) (c : ℤ) → b ≡ true → cond b (c ∷ []) [] ≡ c ∷ []
one_at_cases true c same = refl
one_at_cases false c same = cc

none_at_cases : (b : Bool) (c : ℤ) → b ≡ false → cond b (c ∷ []) [] ≡ []
none_at_cases true c same = cc
none_at_cases false c same = refl

-- a term at the column, and one at another
pub one_at : (j : ℕ) (t : Term) → t.col ≡ j → coefs_at j (t ∷ []) ≡ t.coef ∷ []
one_at j t same = one_at_cases (t.col == j) t.coef (eq-eqb t.col j same)

pub none_at : (j : ℕ) (t : Term) → t.col ≢ j → coefs_at j (t ∷ []) ≡ []
none_at j t apart = none_at_cases (t.col == j) t.coef (ne_eqb t.col j apart)

all_at_cases : (b : Bool) (c : ℤ) (xs ys : List ℤ) → b ≡ true → xs ≡ ys → cond b (c ∷ xs) xs ≡ c ∷ ys
all_at_cases true c xs ys same rest = ap (λ zs. c ∷ zs) rest
all_at_cases false c xs ys same rest = cc

no_more_cases : (b : Bool) (c : ℤ) (xs : List ℤ) → b ≡ false → xs ≡ [] → cond b (c ∷ xs) xs ≡ []
no_more_cases true c xs same rest = cc
no_more_cases false c xs same rest = rest

-- entries of a row are at that row, and at no other
entries_same : (k i : ℕ) (cs : List ℤ) → i ≡ k → coefs_at k (map (entry i) cs) ≡ cs
entries_same k i [] same = refl
entries_same k i (c ∷ cs) same = all_at_cases (i == k) c (coefs_at k (map (entry i) cs)) cs (eq-eqb i k same) (entries_same k i cs same)

entries_apart : (k i : ℕ) (cs : List ℤ) → i ≢ k → coefs_at k (map (entry i) cs) ≡ []
entries_apart k i [] apart = refl
entries_apart k i (c ∷ cs) apart = no_more_cases (i == k) c (coefs_at k (map (entry i) cs)) (ne_eqb i k apart) (entries_apart k i cs apart)

append_none : (xs ys : List ℤ) → xs ≡ [] → ys ≡ [] → xs ++ ys ≡ []
append_none [] ys none rest = rest
append_none (x ∷ xs) ys none rest = cc

append_first : (xs ys zs : List ℤ) → xs ≡ [] → ys ≡ zs → xs ++ ys ≡ zs
append_first [] ys zs none rest = rest
append_first (x ∷ xs) ys zs none rest = cc

append_last : (xs ys zs : List ℤ) → xs ≡ zs → ys ≡ [] → xs ++ ys ≡ zs
append_last xs [] zs first none = append-nil xs ∙ first
append_last xs (y ∷ ys) zs first none = cc

-- rows that come later have no entry here
entries_before : (j m i : ℕ) (rows : List Row) → m < i → coefs_at m (entries j i rows) ≡ []
entries_before j m i [] before = refl
entries_before j m i (row ∷ rows) before =
    coefs_at-append m (map (entry i) (coefs_at j row.terms)) (entries j (i + 1) rows)
    ∙ append_none _ _ (entries_apart m i (coefs_at j row.terms) (λ same. omega (arith, before, same))) (entries_before j m (i + 1) rows (omega (arith, before)))

entries_of_row : (j m i : ℕ) (rows : List Row) (k : ℕ) (d : Row) → m ≡ i + k → k < length rows → coefs_at m (entries j i rows) ≡ coefs_at j (get_or rows k d).terms
entries_of_row j m i [] k d at known = absurd (omega (arith, known))
entries_of_row j m i (row ∷ rows) zero d at known =
    coefs_at-append m (map (entry i) (coefs_at j row.terms)) (entries j (i + 1) rows)
    ∙ append_last _ _ _ (entries_same m i (coefs_at j row.terms) (omega (arith, at))) (entries_before j m (i + 1) rows (omega (arith, at)))
entries_of_row j m i (row ∷ rows) (suc k) d at known =
    coefs_at-append m (map (entry i) (coefs_at j row.terms)) (entries j (i + 1) rows)
    ∙ append_first _ _ _ (entries_apart m i (coefs_at j row.terms) (λ same. omega (arith, at, same))) (entries_of_row j m (i + 1) rows k d (omega (arith, at)) (omega (arith, known)))

-- a column's coefficients in a row are the row's coefficients at the column
pub coefs_of_column : (j : ℕ) (rows : List Row) (k : ℕ) (d : Row) → k < length rows → coefs_at k (entries j 0 rows) ≡ coefs_at j (get_or rows k d).terms
coefs_of_column j rows k d known = entries_of_row j k 0 rows k d (omega arith) known

entries_rows : (n j i : ℕ) (rows : List Row) → i + length rows ≡ n → AreEntries n (entries j i rows)
entries_rows n j i [] long = record { each = λ k d within. absurd (omega (arith, within)) }
entries_rows n j i (row ∷ rows) long =
    let next : i + 1 + length rows ≡ n = omega (arith, long) in
    record { each = All-append (λ (t : Term). t.col < n) (map (entry i) (coefs_at j row.terms)) (entries j (i + 1) rows) (All-map (λ (t : Term). t.col < n) (entry i) (coefs_at j row.terms) (λ k d within. omega (arith, long))) (entries_rows n j (i + 1) rows next).each }

-- and each entry stands in one of the rows
pub entries_known : (j : ℕ) (rows : List Row) → AreEntries (length rows) (entries j 0 rows)
entries_known j rows = entries_rows (length rows) j 0 rows (omega arith)

entries_more : (j i m : ℕ) (rows : List Row) (row : Row) → i + length rows ≡ m → entries j i (rows ++ row ∷ []) ≡ entries j i rows ++ map (entry m) (coefs_at j row.terms)
entries_more j i m [] row at = append-nil (map (entry i) (coefs_at j row.terms)) ∙ ap (λ n. map (entry n) (coefs_at j row.terms)) (omega (arith, at))
entries_more j i m (first ∷ rows) row at =
    ap (λ es. map (entry i) (coefs_at j first.terms) ++ es) (entries_more j (i + 1) m rows row (omega (arith, at))) ∙ sym (append_assoc (map (entry i) (coefs_at j first.terms)) (entries j (i + 1) rows) (map (entry m) (coefs_at j row.terms)))

-- the columns' entries in one more row
pub columns_more : (n m : ℕ) (rows : List Row) (row : Row) (old new : List (List Term)) → length rows ≡ m → length new ≡ length old → AreColumns n rows old → HasRowAdded m row.terms old new → AreColumns n (rows ++ row ∷ []) new
columns_more n m rows row old new many long columns added = record {
  one_each = long ∙ columns.one_each;
  each = λ j known. added.each j ∙ ap (λ es. es ++ map (entry m) (coefs_at j row.terms)) (columns.each j known) ∙ sym (entries_more j 0 m rows row (omega (arith, many)));
}

added_cases : (i : ℕ) (t : Term) (old cur : List (List Term)) (j : ℕ) (cs : List ℤ) → t.col < length cur → get_or cur j [] ≡ get_or old j [] ++ map (entry i) cs → get_or (set cur t.col (get_or cur t.col [] ++ entry i t.coef ∷ [])) j [] ≡ get_or old j [] ++ map (entry i) (cs ++ coefs_at j (t ∷ []))
added_cases i t old cur j cs known before =
    let value = get_or cur t.col [] ++ entry i t.coef ∷ [] in
    at_or_apart j t.col
    (λ same.
    let here : get_or (set cur t.col value) j [] ≡ value = ap (λ k. get_or (set cur t.col value) k []) same ∙ get_or-set_same cur t.col value [] known in
    let there : get_or cur t.col [] ≡ get_or old j [] ++ map (entry i) cs = ap (λ k. get_or cur k []) (sym same) ∙ before in
    here ∙ ap (λ es. es ++ entry i t.coef ∷ []) there ∙ append_assoc (get_or old j []) (map (entry i) cs) (entry i t.coef ∷ [])
    ∙ ap (λ es. get_or old j [] ++ es) (sym (map-append (entry i) cs (t.coef ∷ [])) ∙ ap (λ ds. map (entry i) (cs ++ ds)) (sym (one_at j t (sym same)))))
    (λ apart.
    get_or-set_other cur t.col j value [] apart ∙ before ∙ ap (λ ds. get_or old j [] ++ map (entry i) ds) (sym (append-nil cs) ∙ ap (λ ds. cs ++ ds) (sym (none_at j t (λ same. apart (sym same))))))

-- one more term of a row
pub added_more : (i : ℕ) (terms : List Term) (p : ℕ) (d : Term) (old cur new : List (List Term)) → p < length terms → (get_or terms p d).col < length cur → new ≡ set cur (get_or terms p d).col (get_or cur (get_or terms p d).col [] ++ entry i (get_or terms p d).coef ∷ []) → HasRowAdded i (take p terms) old cur → HasRowAdded i (take (p + 1) terms) old new
added_more i terms p d old cur new within known same before = record {
  each = λ j.
      ap (λ (cs : List (List Term)). get_or cs j []) same ∙ added_cases i (get_or terms p d) old cur j (coefs_at j (take p terms)) known (before.each j) ∙ ap (λ cs. get_or old j [] ++ map (entry i) cs) (sym (coefs_at-more j terms p d within));
}

-- a list of empty lists, and one more
pub push_empty : (cs : List (List Term)) → ((j : ℕ) → get_or cs j [] ≡ []) → (j : ℕ) → get_or (cs ++ [] ∷ []) j [] ≡ []
push_empty [] none zero = refl
push_empty [] none (suc j) = refl
push_empty (c ∷ cs) none zero = none 0
push_empty (c ∷ cs) none (suc j) = push_empty cs (λ k. none (suc k)) j

-- columns without entries are those of no row
pub columns_none : (n : ℕ) (cs : List (List Term)) → length cs ≡ n → ((j : ℕ) → get_or cs j [] ≡ []) → AreColumns n [] cs
columns_none n cs long none = record { one_each = long; each = λ j known. none j }

-- before the first term
pub added_none : (i : ℕ) (old : List (List Term)) (terms : List Term) → HasRowAdded i (take 0 terms) old old
added_none i old terms = record { each = λ j. sym (append-nil (get_or old j [])) }

-- the columns' entries in one more of some rows that follow others
pub rows_more : (n first i : ℕ) (before rows : List Row) (row : Row) (old new : List (List Term)) → length before ≡ first → i < length rows → row ≡ get_or rows i row → length new ≡ length old → AreColumns n (before ++ take i rows) old → HasRowAdded (first + i) row.terms old new → AreColumns n (before ++ take (i + 1) rows) new
rows_more n first i before rows row old new many within read long columns added =
    let count : length (before ++ take i rows) ≡ first + i = length-append before (take i rows) ∙ omega (arith, many, length-take-le i rows (omega (arith, within))) in
    let whole : (before ++ take i rows) ++ row ∷ [] ≡ before ++ take (i + 1) rows = append_assoc before (take i rows) (row ∷ []) ∙ ap (λ rs. before ++ rs) (ap (λ r. take i rows ++ r ∷ []) read ∙ sym (take_more rows i row within)) in
    subst (λ rs. AreColumns n rs new) whole (columns_more n (first + i) (before ++ take i rows) row old new count long columns added)

-- the columns' entries in rows and then in cuts
pub columns_both : (count : ℕ) (rows cuts : List Row) (none first all : List (List Term)) (n : ℕ) → AreColumns count [] none → ((before : List Row) → length before ≡ 0 → AreColumns (length none) before none → AreColumns (length none) (before ++ rows) first) → length first ≡ length none → n ≡ length rows → ((before : List Row) → length before ≡ n → AreColumns (length first) before first → AreColumns (length first) (before ++ cuts) all) → AreColumns count (rows ++ cuts) all
columns_both count rows cuts none first all n empty of_rows long many of_cuts =
    let start : AreColumns (length none) [] none = subst (λ k. AreColumns k [] none) (sym empty.one_each) empty in
    let middle : AreColumns (length first) rows first = subst (λ k. AreColumns k rows first) (sym long) (of_rows [] refl start) in
    subst (λ k. AreColumns k (rows ++ cuts) all) (long ∙ empty.one_each) (of_cuts rows (sym many) middle)
