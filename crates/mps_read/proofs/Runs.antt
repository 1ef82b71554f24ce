use Rattle.std.proofs.Common.{◌≡◌, ℕ, ◌+◌, false, List, ◌∷◌, None, refl}
use Rattle.mps_lines.specs.Lines.{lines_of}
use Rattle.mps_lines.specs.Forms.{form_of, is_end}
use Rattle.mps_read.specs.DraftKinds.{draft_kind}
use Rattle.mps_read.specs.Steps.{after, run}
use Rattle.mps_read.specs.declared.draft.Draft.{Draft}

-- a line that is taken leads to the run from the next draft
pub run_taken : (d e : Draft) (n : ℕ) (rest line after_line : List ℕ) → lines_of rest ≡ line ∷ lines_of after_line → (draft_kind d (form_of d.section d.has_sense_line line) ≡ None) × (is_end (form_of d.section d.has_sense_line line) ≡ false) × (e ≡ after d (form_of d.section d.has_sense_line line)) → run e (n + 1) (lines_of after_line) ≡ run d n (lines_of rest)
run_taken d e n rest line after_line lines (allowed, going, is) = rw (lines, allowed, going, is) refl
