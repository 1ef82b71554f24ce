-- Derivations that are tried one after the other.
use Rattle.std.proofs.Common.{◌≡◌, ◌∙◌, ℕ, ◌+◌, ◌<◌, true, false, cond, List, [], ◌++◌, length, get_or, drop, map, ℤ, unsigned_abs, sym, ap, subst}
use Rattle.std.proofs.lemmas.Bool.{cond-true, cond-false}
use Rattle.std.proofs.lemmas.List.{drop_more}
use Rattle.ip_core.specs.declared.leaf.Pair.{Pair}
use Rattle.leaf_truth.specs.Multipliers.{pairs_of}
use Rattle.cut_derive.specs.Gomory.{is_count}
use Rattle.ip_core.specs.declared.model.ModelParts.{ModelParts}
use Rattle.ip_core.specs.declared.row.Row.{Row}
use Rattle.ip_core.specs.declared.row.Term.{Term}
use Rattle.ip_core.specs.declared.row_ref.RowRef.{RowRef}
use Rattle.ip_core.specs.declared.derivation.Derivation.{Derivation}
use Rattle.ip_core.specs.declared.derivation.Derivation.TheVariants.{Gomory}
use Rattle.cut_separate.specs.Candidates.{by_rows, name_of, single_part, with_divisor, divisors_after, own_candidates, combined_candidates, cover_candidates, scales}
use Rattle.cut_separate.specs.Separation.{has_room, with_candidate, kept_after, separated_cuts}
use Rattle.cut_separate.specs.declared.new_cut.NewCut.{NewCut}
use Rattle.cut_separate.specs.declared.source.RowSource.{RowSource}
use Rattle.cut_separate.specs.declared.source.RowSource.TheVariants.{ModelRows, CutRows}
use Rattle.cut_separate.proofs.Keeping.{full_stays, kept_append}

pub divisors_more : (found : List ℕ) (terms : List Term) (i : ℕ) (d : Term) → i < length terms → divisors_after found (drop i terms) ≡ divisors_after (with_divisor found (unsigned_abs (get_or terms i d).coef)) (drop (i + 1) terms)
divisors_more found terms i d known = ap (divisors_after found) (drop_more terms i d known)

-- without room nothing more is kept
pub full_rest : (m : ModelParts) (cuts : List Row) (x : List ℤ) (kept whole : List NewCut) (ds : List Derivation) → has_room cuts kept ≡ false → kept_after m cuts x kept ds ≡ whole → kept ≡ whole
full_rest m cuts x kept whole ds full same = sym (full_stays m cuts x kept ds full) ∙ same

-- the derivations of one more row
pub rows_more : (m : ModelParts) (cuts : List Row) (x : List ℤ) (kept next whole : List NewCut) (f : RowRef → Row → List Derivation) (source : RowSource) (rows : List Row) (i : ℕ) (row : Row) → i < length rows → row ≡ get_or rows i row → kept_after m cuts x kept (by_rows f source i (drop i rows)) ≡ whole → next ≡ kept_after m cuts x kept (f (name_of source i) row) → kept_after m cuts x next (by_rows f source (i + 1) (drop (i + 1) rows)) ≡ whole
rows_more m cuts x kept next whole f source rows i row known is before same =
    let rest = by_rows f source (i + 1) (drop (i + 1) rows) in
    let first = f (name_of source i) (get_or rows i row) in
    ap (λ (ks : List NewCut). kept_after m cuts x ks rest) (same ∙ ap (λ (r : Row). kept_after m cuts x kept (f (name_of source i) r)) is)
    ∙ sym (kept_append m cuts x kept first rest)
    ∙ sym (ap (λ (rs : List Row). kept_after m cuts x kept (by_rows f source i rs)) (drop_more rows i row known))
    ∙ before

-- the rows of multipliers are combined where they are few enough, and not where they aren't
pub combined_some : (m : ModelParts) (ys : List ℕ) (parts : List Pair) → parts ≡ pairs_of (length m.rows) ys → is_count (length parts) ≡ true → combined_candidates m ys ≡ map (λ divisor. Gomory parts divisor) scales
combined_some m ys parts same few =
    subst (λ (ps : List Pair). cond (is_count (length ps)) (map (λ (divisor : ℕ). Gomory ps divisor) scales) [] ≡ map (λ (divisor : ℕ). Gomory parts divisor) scales) same (cond-true (is_count (length parts)) _ [] few)

pub combined_none : (m : ModelParts) (ys : List ℕ) (parts : List Pair) → parts ≡ pairs_of (length m.rows) ys → is_count (length parts) ≡ false → combined_candidates m ys ≡ []
combined_none m ys parts same few =
    subst (λ (ps : List Pair). cond (is_count (length ps)) (map (λ (divisor : ℕ). Gomory ps divisor) scales) [] ≡ []) same (cond-false (is_count (length parts)) _ [] few)

-- one more divisor
pub own_more : (m : ModelParts) (cuts : List Row) (x : List ℤ) (kept : List NewCut) (parts : RowRef) (divisors : List ℕ) (i d : ℕ) → i < length divisors → kept_after m cuts x kept (map (λ divisor. Gomory (single_part parts) divisor) (drop i divisors)) ≡ kept_after m cuts x (with_candidate m cuts x kept (Gomory (single_part parts) (get_or divisors i d))) (map (λ divisor. Gomory (single_part parts) divisor) (drop (i + 1) divisors))
own_more m cuts x kept parts divisors i d known = ap (λ (ds : List ℕ). kept_after m cuts x kept (map (λ (divisor : ℕ). Gomory (single_part parts) divisor) ds)) (drop_more divisors i d known)

-- the derivations in their five parts
pub separated_parts : (m : ModelParts) (cuts : List Row) (x : List ℤ) (ys : List ℕ) (first second third fourth last : List NewCut) → first ≡ kept_after m cuts x [] (by_rows own_candidates ModelRows 0 m.rows) → second ≡ kept_after m cuts x first (by_rows own_candidates CutRows 0 cuts) → third ≡ kept_after m cuts x second (combined_candidates m ys) → fourth ≡ kept_after m cuts x third (by_rows (cover_candidates m.root x) ModelRows 0 m.rows) → last ≡ kept_after m cuts x fourth (by_rows (cover_candidates m.root x) CutRows 0 cuts) → last ≡ separated_cuts m cuts x ys
separated_parts m cuts x ys first second third fourth last e1 e2 e3 e4 e5 =
    let a = by_rows own_candidates ModelRows 0 m.rows in
    let b = by_rows own_candidates CutRows 0 cuts in
    let c = combined_candidates m ys in
    let d = by_rows (cover_candidates m.root x) ModelRows 0 m.rows in
    let e = by_rows (cover_candidates m.root x) CutRows 0 cuts in
    let K : List NewCut → List Derivation → List NewCut = kept_after m cuts x in
    e5
    ∙ ap (λ (ks : List NewCut). K ks e) (e4 ∙ ap (λ (ks : List NewCut). K ks d) (e3 ∙ ap (λ (ks : List NewCut). K ks c) (e2 ∙ ap (λ (ks : List NewCut). K ks b) e1)))
    ∙ ap (λ (ks : List NewCut). K (K (K ks c) d) e) (sym (kept_append m cuts x [] a b))
    ∙ ap (λ (ks : List NewCut). K (K ks d) e) (sym (kept_append m cuts x [] (a ++ b) c))
    ∙ sym (kept_append m cuts x (K [] ((a ++ b) ++ c)) d e)
    ∙ sym (kept_append m cuts x [] ((a ++ b) ++ c) (d ++ e))

-- a sum of rows at the five scales
pub scales_chain : (m : ModelParts) (cuts : List Row) (x : List ℤ) (pairs : List Pair) (k k1 k2 k3 k4 k5 : List NewCut) → k1 ≡ with_candidate m cuts x k (Gomory pairs 1024) → k2 ≡ with_candidate m cuts x k1 (Gomory pairs 2048) → k3 ≡ with_candidate m cuts x k2 (Gomory pairs 4096) → k4 ≡ with_candidate m cuts x k3 (Gomory pairs 8192) → k5 ≡ with_candidate m cuts x k4 (Gomory pairs 16384) → k5 ≡ kept_after m cuts x k (map (λ divisor. Gomory pairs divisor) scales)
scales_chain m cuts x pairs k k1 k2 k3 k4 k5 e1 e2 e3 e4 e5 =
    let W : List NewCut → ℕ → List NewCut = λ ks divisor. with_candidate m cuts x ks (Gomory pairs divisor) in
    e5 ∙ ap (λ (ks : List NewCut). W ks 16384) (e4 ∙ ap (λ (ks : List NewCut). W ks 8192) (e3 ∙ ap (λ (ks : List NewCut). W ks 4096) (e2 ∙ ap (λ (ks : List NewCut). W ks 2048) e1)))
