use Rattle.std.proofs.Common.{◌≡◌, ◌∙◌, ℕ, ◌+◌, Bool, true, false, List, [], ◌∷◌, Option, Some, None, refl, ap, subst}
use Rattle.std.proofs.lemmas.Bool.{false≢true}
use Rattle.mps_lines.specs.Lines.{lines_of}
use Rattle.mps_lines.specs.Forms.{Form, form_of, is_end}
use Rattle.mps_read.specs.DraftKinds.{draft_kind}
use Rattle.mps_read.specs.Drafts.{IsDraft, first_draft}
use Rattle.mps_read.specs.Steps.{after, run, draft_model}
use Rattle.mps_read.specs.Readings.{Reading, Read, RefusedAt, outcome, reading}
use Rattle.mps_model.specs.MpsModels.{IsMpsModel}
use Rattle.mps_read.specs.declared.error.MpsKind.{MpsKind}
use Rattle.mps_model.specs.declared.model.MpsModel.{MpsModel}
use Rattle.mps_read.specs.declared.draft.Draft.{Draft}
use Rattle.mps_read.proofs.Bridge.{begins}
use Rattle.mps_read.proofs.DraftSteps.{after_kept, first_kept}
use Rattle.mps_read.proofs.ModelDrafts.{IsReadable}
use Rattle.mps_read.proofs.ModelFields.{form_words}
use Rattle.mps_read.proofs.ModelSteps.{after_readable}
use Rattle.mps_read.proofs.ModelEnds.{first_readable, end_objective, model_is}

-- what is read of a text is a model that a file can have

abbrev pub is_model : Reading → Bool
is_model (Read m) = true
is_model (RefusedAt line kind) = false

abbrev model_or : MpsModel → Reading → MpsModel
model_or m (Read n) = n
model_or m (RefusedAt line kind) = m

pub by_outcome : (P : Type 0) (k : Option MpsKind) (e : Bool) (n : ℕ) (x m : MpsModel) (next : Reading) → outcome k e n (Read x) next ≡ Read m
    → (k ≡ None → e ≡ true → x ≡ m → P) → (k ≡ None → e ≡ false → next ≡ Read m → P) → P
by_outcome P (Some kind) e n x m next h ends goes = absurd (false≢true (ap is_model h))
by_outcome P None true n x m next h ends goes = ends refl refl (ap (model_or x) h)
by_outcome P None false n x m next h ends goes = goes refl refl h

run_is : (lines : List (List ℕ)) (d : Draft) (number : ℕ) (m : MpsModel) → IsDraft d → IsReadable d → run d number lines ≡ Read m → IsMpsModel m
run_is [] d number m draft is h = absurd (false≢true (ap is_model h))
run_is (line ∷ rest) d number m draft is h =
    let form : Form = form_of d.section d.has_sense_line line in
    by_outcome (IsMpsModel m) (draft_kind d form) (is_end form) number (draft_model d) m (run (after d form) (number + 1) rest) h
    (λ none ends same. subst IsMpsModel same (model_is d draft is (end_objective d form is none ends)))
    (λ none going next.
    run_is rest (after d form) (number + 1) m (after_kept d form draft none)
    (after_readable d form draft is (form_words d.section d.has_sense_line line) none) next)

pub read_is : (bytes : List ℕ) (m : MpsModel) → reading bytes ≡ Read m → IsMpsModel m
read_is bytes m h = run_is (lines_of bytes) first_draft 1 m (first_kept first_draft refl) first_readable (begins first_draft bytes refl ∙ h)
