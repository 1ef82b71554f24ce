-- The laws of separated cuts.
use Rattle.std.proofs.Common.{◌≡◌, ◌∙◌, ◌+◌, ◌<◌, Bool, true, false, cond, ◌&&◌, nat_lt, List, [], ◌∷◌, ◌++◌, length, ℤ, All, Result, Ok, Err, refl, sym, ap, subst, arith, append_assoc}
use Rattle.std.proofs.lemmas.Bool.{and_parts, ltb-true}
use Rattle.std.proofs.lemmas.List.{append-nil, length-append}
use Rattle.std.proofs.lemmas.List.Elements.{All-nil, All-cons, All-head, All-tail, All-append}
use Rattle.ip_core.specs.declared.model.ModelParts.{ModelParts}
use Rattle.ip_core.specs.declared.row.Row.{Row}
use Rattle.ip_core.specs.declared.derivation.Derivation.{Derivation}
use Rattle.cut_derive.specs.declared.limits.TheConstants.{MAX_CUTS}
use Rattle.cut_separate.specs.declared.limits.TheConstants.{MAX_NEW_CUTS}
use Rattle.cut_separate.specs.declared.new_cut.NewCut.{NewCut}
use Rattle.cut_derive.specs.declared.refusal.Refusal.{Refusal}
use Rattle.cut_derive.specs.Derivations.{derived_row}
use Rattle.cut_separate.specs.Candidates.{candidates}
use Rattle.cut_separate.specs.Separation.{has_room, is_violated, is_new, with_answer, with_candidate, kept_after}
use Rattle.cut_derive.specs.Laws.{AreDerived, OneMore}
use Rattle.cut_separate.specs.Laws.{AreNewCuts, rows_of_cuts, SeparatedAreNew, NewCutsAreDerived}
use Rattle.cut_derive.proofs.Following.{derived_over_more}

one_kept : (m : ModelParts) (cuts : List Row) (kept : List NewCut) (d : Derivation) (row : Row) → AreNewCuts m cuts kept → has_room cuts kept ≡ true → derived_row m cuts d ≡ Ok row → AreNewCuts m cuts (kept ++ record { derivation = d; row = row } ∷ [])
one_kept m cuts kept d row new room same =
    let P : NewCut → Type 0 = λ (c : NewCut). derived_row m cuts c.derivation ≡ Ok c.row in
    let tests = and_parts (nat_lt (length kept) MAX_NEW_CUTS) (nat_lt (length cuts + length kept) MAX_CUTS) room in
    let first : length kept < MAX_NEW_CUTS = ltb-true (length kept) MAX_NEW_CUTS tests.0 in
    let second : length cuts + length kept < MAX_CUTS = ltb-true (length cuts + length kept) MAX_CUTS tests.1 in
    let one : NewCut = record { derivation = d; row = row } in
    record {
      each = All-append P kept (one ∷ []) new.each (All-cons P one [] same (All-nil P));
      few = rw length-append (omega (arith, first));
      together = λ h. rw length-append (omega (arith, second));
    }

kept_cases : (m : ModelParts) (cuts : List Row) (kept : List NewCut) (d : Derivation) (row : Row) (room violated new : Bool) → AreNewCuts m cuts kept → (room ≡ true → AreNewCuts m cuts (kept ++ record { derivation = d; row = row } ∷ [])) → AreNewCuts m cuts (cond (room && violated && new) (kept ++ record { derivation = d; row = row } ∷ []) kept)
kept_cases m cuts kept d row true true true before after = after refl
kept_cases m cuts kept d row true true false before after = before
kept_cases m cuts kept d row true false new before after = before
kept_cases m cuts kept d row false violated new before after = before

answer_new : (m : ModelParts) (cuts : List Row) (x : List ℤ) (kept : List NewCut) (d : Derivation) (answer : Result Row Refusal) → derived_row m cuts d ≡ answer → AreNewCuts m cuts kept → AreNewCuts m cuts (with_answer m cuts x kept d answer)
answer_new m cuts x kept d (Err why) same new = new
answer_new m cuts x kept d (Ok row) same new =
    kept_cases m cuts kept d row (has_room cuts kept) (is_violated x row) (is_new m cuts kept row) new (λ room. one_kept m cuts kept d row new room same)

kept_new : (m : ModelParts) (cuts : List Row) (x : List ℤ) (kept : List NewCut) (ds : List Derivation) → AreNewCuts m cuts kept → AreNewCuts m cuts (kept_after m cuts x kept ds)
kept_new m cuts x kept [] new = new
kept_new m cuts x kept (d ∷ ds) new = kept_new m cuts x (with_candidate m cuts x kept d) ds (answer_new m cuts x kept d (derived_row m cuts d) refl new)

none_new : (m : ModelParts) (cuts : List Row) → AreNewCuts m cuts []
none_new m cuts = record { each = All-nil (λ (c : NewCut). derived_row m cuts c.derivation ≡ Ok c.row); few = omega arith; together = λ h. omega (arith, h) }

pub separated_are_new : SeparatedAreNew
separated_are_new m cuts x ys = kept_new m cuts x [] (candidates m cuts x ys) (none_new m cuts)

more_derived : (m : ModelParts) (cuts front : List Row) (new : List NewCut) → AreDerived m (cuts ++ front) → All (λ (c : NewCut). derived_row m cuts c.derivation ≡ Ok c.row) new → AreDerived m ((cuts ++ front) ++ rows_of_cuts new)
more_derived m cuts front [] derived each = subst (AreDerived m) (sym (append-nil (cuts ++ front))) derived
more_derived m cuts front (c ∷ new) derived each =
    let P : NewCut → Type 0 = λ (e : NewCut). derived_row m cuts e.derivation ≡ Ok e.row in
    let here = derived_over_more m cuts front c.derivation c.row (All-head P c new each) in
    let next : AreDerived m (cuts ++ (front ++ c.row ∷ [])) = subst (AreDerived m) (append_assoc cuts front (c.row ∷ [])) (OneMore (cuts ++ front) c.derivation c.row derived here) in
    let whole = more_derived m cuts (front ++ c.row ∷ []) new next (All-tail P c new each) in
    subst (AreDerived m) (ap (λ (rs : List Row). rs ++ rows_of_cuts new) (sym (append_assoc cuts front (c.row ∷ []))) ∙ append_assoc (cuts ++ front) (c.row ∷ []) (rows_of_cuts new)) whole

pub new_cuts_are_derived : NewCutsAreDerived
new_cuts_are_derived m cuts new derived are_new =
    subst (λ (rs : List Row). AreDerived m (rs ++ rows_of_cuts new)) (append-nil cuts) (more_derived m cuts [] new (subst (AreDerived m) (sym (append-nil cuts)) derived) are_new.each)
