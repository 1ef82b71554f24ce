-- Whether a row is kept.
use Rattle.std.proofs.Common.{◌≡◌, ◌≢◌, ◌∙◌, ℕ, ◌+◌, ◌<◌, ◌==◌, Bool, true, false, cond, ◌&&◌, ◌||◌, List, [], ◌∷◌, ◌++◌, length, get_or, drop, ℤ, Result, Ok, Err, refl, ap, ap₂, arith}
use Rattle.std.specs.Ordering.{int_eq}
use Rattle.std.proofs.lemmas.List.{drop_more}
use Rattle.ip_core.specs.declared.model.ModelParts.{ModelParts}
use Rattle.ip_core.specs.declared.row.Row.{Row}
use Rattle.ip_core.specs.declared.row.Term.{Term}
use Rattle.ip_core.specs.declared.derivation.Derivation.{Derivation}
use Rattle.cut_derive.specs.Derivations.{derived_row}
use Rattle.cut_separate.specs.Separation.{is_violated, are_same_terms, is_same_row, is_among_rows, is_among_cuts, is_new, has_room, with_answer, with_candidate, kept_after}
use Rattle.cut_separate.specs.declared.new_cut.NewCut.{NewCut}
use Rattle.cut_derive.specs.declared.refusal.Refusal.{Refusal}

pub rows_first : (rows : List Row) (row : Row) (i : ℕ) (d : Row) → i < length rows → is_among_rows (drop i rows) row ≡ (is_same_row (get_or rows i d) row || is_among_rows (drop (i + 1) rows) row)
rows_first rows row i d known = ap (λ (rs : List Row). is_among_rows rs row) (drop_more rows i d known)

pub cuts_first : (kept : List NewCut) (row : Row) (i : ℕ) (d : NewCut) → i < length kept → is_among_cuts (drop i kept) row ≡ (is_same_row (get_or kept i d).row row || is_among_cuts (drop (i + 1) kept) row)
cuts_first kept row i d known = ap (λ (cs : List NewCut). is_among_cuts cs row) (drop_more kept i d known)

pub terms_first : (a b : List Term) (i : ℕ) (d e : Term) → i < length a → i < length b → are_same_terms (drop i a) (drop i b) ≡ ((get_or a i d).col == (get_or b i e).col && int_eq (get_or a i d).coef (get_or b i e).coef && are_same_terms (drop (i + 1) a) (drop (i + 1) b))
terms_first a b i d e first second = ap₂ are_same_terms (drop_more a i d first) (drop_more b i e second)

and_false : (b : Bool) (c : Bool) → c ≡ false → (b && c) ≡ false
and_false true c nothing = nothing
and_false false c nothing = refl

pub lengths_differ : (a b : List Term) → length a ≢ length b → are_same_terms a b ≡ false
lengths_differ [] [] differ = absurd (differ refl)
lengths_differ [] (u ∷ us) differ = refl
lengths_differ (t ∷ ts) [] differ = refl
lengths_differ (t ∷ ts) (u ∷ us) differ = and_false (t.col == u.col && int_eq t.coef u.coef) (are_same_terms ts us) (lengths_differ ts us (λ e. differ (omega (arith, e))))

-- without room the cuts stay as they are
full_answer : (m : ModelParts) (cuts : List Row) (x : List ℤ) (kept : List NewCut) (d : Derivation) (answer : Result Row Refusal) → has_room cuts kept ≡ false → with_answer m cuts x kept d answer ≡ kept
full_answer m cuts x kept d (Err why) full = refl
full_answer m cuts x kept d (Ok row) full = ap (λ (b : Bool). cond (b && is_violated x row && is_new m cuts kept row) (kept ++ record { derivation = d; row = row } ∷ []) kept) full

pub full_same : (m : ModelParts) (cuts : List Row) (x : List ℤ) (kept : List NewCut) (d : Derivation) → has_room cuts kept ≡ false → with_candidate m cuts x kept d ≡ kept
full_same m cuts x kept d full = full_answer m cuts x kept d (derived_row m cuts d) full

-- so they do through all further derivations
pub full_stays : (m : ModelParts) (cuts : List Row) (x : List ℤ) (kept : List NewCut) (ds : List Derivation) → has_room cuts kept ≡ false → kept_after m cuts x kept ds ≡ kept
full_stays m cuts x kept [] full = refl
full_stays m cuts x kept (d ∷ ds) full =
    ap (λ (ks : List NewCut). kept_after m cuts x ks ds) (full_same m cuts x kept d full) ∙ full_stays m cuts x kept ds full

-- derivations in two parts
pub kept_append : (m : ModelParts) (cuts : List Row) (x : List ℤ) (kept : List NewCut) (ds es : List Derivation) → kept_after m cuts x kept (ds ++ es) ≡ kept_after m cuts x (kept_after m cuts x kept ds) es
kept_append m cuts x kept [] es = refl
kept_append m cuts x kept (d ∷ ds) es = kept_append m cuts x (with_candidate m cuts x kept d) ds es
