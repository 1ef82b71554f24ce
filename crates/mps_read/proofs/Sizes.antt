use Rattle.std.proofs.Common.{◌≡◌, ◌∙◌, ℕ, ◌+◌, ◌≤◌, Bool, true, false, List, [], ◌∷◌, length, if◌then◌else◌, ◌==◌, refl, ap, subst, arith}
use Rattle.std.proofs.lemmas.Bool.{false≢true}
use Rattle.mps_model.specs.declared.model.MpsModel.{MpsModel}
use Rattle.mps_lines.specs.Lines.{lines_of, with_byte}
use Rattle.mps_lines.specs.Forms.{Form, form_of, is_end}
use Rattle.mps_read.specs.Readings.{Read, reading}
use Rattle.mps_read.specs.DraftKinds.{draft_kind}
use Rattle.mps_read.specs.Drafts.{IsDraft, first_draft}
use Rattle.mps_read.specs.Steps.{after, draft_model, run}
use Rattle.mps_read.specs.declared.draft.Draft.{Draft}
use Rattle.mps_read.proofs.Bridge.{begins}
use Rattle.mps_read.proofs.DraftSteps.{after_kept, after_few, first_kept}
use Rattle.mps_read.proofs.ModelReads.{is_model, by_outcome}

-- a model has at most as many rows, and at most as many columns, as its file has bytes

with_byte_few : (b : ℕ) (lines : List (List ℕ)) → length (with_byte b lines) ≤ length lines + 1
with_byte_few b [] = omega arith
with_byte_few b (line ∷ more) = omega arith

by_test : (b : Bool) (xs ys : List (List ℕ)) (n : ℕ) → length xs ≤ n → length ys ≤ n → length (if b then xs else ys) ≤ n
by_test true xs ys n x y = x
by_test false xs ys n x y = y

-- a text has at most as many lines as bytes
lines_few : (bytes : List ℕ) → length (lines_of bytes) ≤ length bytes
lines_few [] = omega arith
lines_few (b ∷ bs) =
    by_test (b == 10) ([] ∷ lines_of bs) (with_byte b (lines_of bs)) (length (b ∷ bs))
    (omega (arith, lines_few bs))
    (omega (arith, lines_few bs, with_byte_few b (lines_of bs)))

-- a model has at most so many rows, and at most so many columns
record IsFew (r c : ℕ) (m : MpsModel) : Type 0 where
  rows : length m.rows ≤ r
  cols : length m.cols ≤ c

more_few : (r s c d : ℕ) (m : MpsModel) → r ≤ s → c ≤ d → IsFew r c m → IsFew s d m
more_few r s c d m rs cd few = record { rows = omega (arith, few.rows); cols = omega (arith, few.cols) }

draft_few : (d : Draft) (n : ℕ) → IsDraft d → IsFew (d.kept + n) (length d.column_names + n) (draft_model d)
draft_few d n draft = record { rows = omega (arith, draft.rows); cols = omega (arith, draft.cols) }

-- each line adds at most one of either
run_few : (lines : List (List ℕ)) (d : Draft) (number : ℕ) (m : MpsModel) → IsDraft d → run d number lines ≡ Read m → IsFew (d.kept + length lines) (length d.column_names + length lines) m
run_few [] d number m draft h = absurd (false≢true (ap is_model h))
run_few (line ∷ rest) d number m draft h =
    let form : Form = form_of d.section d.has_sense_line line in
    let few = after_few d form in
    by_outcome (IsFew (d.kept + length (line ∷ rest)) (length d.column_names + length (line ∷ rest)) m)
    (draft_kind d form) (is_end form) number (draft_model d) m (run (after d form) (number + 1) rest) h
    (λ none ends same. subst (IsFew _ _) same (draft_few d (length (line ∷ rest)) draft))
    (λ none going next.
    more_few _ _ _ _ m (omega (arith, few.0)) (omega (arith, few.1))
    (run_few rest (after d form) (number + 1) m (after_kept d form draft none) next))

of_file : (bytes : List ℕ) (m : MpsModel) → reading bytes ≡ Read m → IsFew (0 + length (lines_of bytes)) (0 + length (lines_of bytes)) m
of_file bytes m h = run_few (lines_of bytes) first_draft 1 m (first_kept first_draft refl) (begins first_draft bytes refl ∙ h)

pub few_rows : (bytes : List ℕ) (m : MpsModel) → reading bytes ≡ Read m → length m.rows ≤ length bytes
few_rows bytes m h = omega (arith, (of_file bytes m h).rows, lines_few bytes)

pub few_columns : (bytes : List ℕ) (m : MpsModel) → reading bytes ≡ Read m → length m.cols ≤ length bytes
few_columns bytes m h = omega (arith, (of_file bytes m h).cols, lines_few bytes)
