-- Which rows that derivations give are kept as cuts.
use Rattle.std.specs.Prelude.{ℕ, ◌+◌, ◌==◌, Bool, true, false, not, ◌&&◌, if◌then◌else◌, List, [], ◌∷◌, ◌++◌, length, nat_lt, ℤ, int_lt, Result, Ok, Err}
use Rattle.std.specs.Ordering.{int_eq}
use Rattle.std.specs.List.{list_any}
use Rattle.ip_core.specs.Rows.{activity}
use Rattle.ip_core.specs.declared.model.ModelParts.{ModelParts}
use Rattle.ip_core.specs.declared.row.Row.{Row}
use Rattle.ip_core.specs.declared.row.Term.{Term}
use Rattle.ip_core.specs.declared.derivation.Derivation.{Derivation}
use Rattle.cut_separate.specs.Candidates.{candidates}
use Rattle.cut_derive.specs.Derivations.{derived_row}
use Rattle.cut_derive.specs.declared.limits.TheConstants.{MAX_CUTS}
use Rattle.cut_separate.specs.declared.limits.TheConstants.{MAX_NEW_CUTS}
use Rattle.cut_separate.specs.declared.new_cut.NewCut.{NewCut}
use Rattle.cut_derive.specs.declared.refusal.Refusal.{Refusal}

-- whether the point doesn't meet a row
abbrev pub is_violated : List ℤ → Row → Bool
is_violated x row = int_lt (activity x row.terms) row.least

-- whether terms are the same, one by one
abbrev pub are_same_terms : List Term → List Term → Bool
are_same_terms [] [] = true
are_same_terms [] (u ∷ us) = false
are_same_terms (t ∷ ts) [] = false
are_same_terms (t ∷ ts) (u ∷ us) = t.col == u.col && int_eq t.coef u.coef && are_same_terms ts us

-- whether rows are the same as they stand
abbrev pub is_same_row : Row → Row → Bool
is_same_row a b = int_eq a.least b.least && are_same_terms a.terms b.terms

-- whether a row is among rows
abbrev pub is_among_rows : List Row → Row → Bool
is_among_rows rows row = list_any (λ other. is_same_row other row) rows

-- whether a row is among the rows of new cuts
abbrev pub is_among_cuts : List NewCut → Row → Bool
is_among_cuts kept row = list_any (λ cut. is_same_row cut.row row) kept

-- whether a row differs from each row of the model, each cut and each row kept before
abbrev pub is_new : ModelParts → List Row → List NewCut → Row → Bool
is_new m cuts kept row =
    not (is_among_rows m.rows row) && not (is_among_rows cuts row) && not (is_among_cuts kept row)

-- whether one more may be kept: there are fewer than 16 kept rows, and fewer than 512 cuts with
-- them
abbrev pub has_room : List Row → List NewCut → Bool
has_room cuts kept =
    nat_lt (length kept) MAX_NEW_CUTS && nat_lt (length cuts + length kept) MAX_CUTS

-- new cuts with one more, where a derivation gives a row that the point doesn't meet, it is new,
-- and one more may be kept
abbrev pub with_answer : ModelParts → List Row → List ℤ → List NewCut → Derivation
    → Result Row Refusal → List NewCut
with_answer m cuts x kept d (Err why) = kept
with_answer m cuts x kept d (Ok row) =
    if has_room cuts kept && is_violated x row && is_new m cuts kept row
    then kept ++ record { derivation = d; row = row } ∷ [] else kept

abbrev pub with_candidate : ModelParts → List Row → List ℤ → List NewCut → Derivation
    → List NewCut
with_candidate m cuts x kept d = with_answer m cuts x kept d (derived_row m cuts d)

-- new cuts with those of more derivations, in their order
abbrev pub kept_after : ModelParts → List Row → List ℤ → List NewCut → List Derivation
    → List NewCut
kept_after m cuts x kept [] = kept
kept_after m cuts x kept (d ∷ ds) = kept_after m cuts x (with_candidate m cuts x kept d) ds

-- the cuts that a point doesn't meet, from rows of the model and cuts and one multiplier for each
abbrev pub separated_cuts : ModelParts → List Row → List ℤ → List ℕ → List NewCut
separated_cuts m cuts x ys = kept_after m cuts x [] (candidates m cuts x ys)
