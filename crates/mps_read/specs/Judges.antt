use Rattle.std.specs.Prelude.{◌≡◌, true, false, Some, None}
use Rattle.mps_lines.specs.Forms.{Form, is_end}
use Rattle.mps_read.specs.DraftKinds.{draft_kind}
use Rattle.mps_read.specs.Steps.{after}
use Rattle.mps_read.specs.declared.draft.Draft.{Draft}
use Rattle.mps_read.specs.declared.draft.Judgement.{Judgement}
use Rattle.mps_read.specs.declared.draft.Judgement.TheVariants.{Refused, Taken, Ended}

-- the answer on a line: the kind that refuses it, or none does and the draft is the next, or it
-- ends the file
abbrev pub Judges : Judgement → Draft → Form → Draft → Type 0
Judges (Refused kind) old form new = draft_kind old form ≡ Some kind
Judges Taken old form new = (draft_kind old form ≡ None) × (is_end form ≡ false)
    × (new ≡ after old form)
Judges Ended old form new = (draft_kind old form ≡ None) × (is_end form ≡ true) × (new ≡ old)
