-- The lines of refusals, and those of the checker.
use Rattle.std.specs.Prelude.{ℕ, List, ◌++◌, codes}
use Rattle.std.specs.Fmt.{decimal}
use Rattle.cert_check.specs.Reasons.{reason_number}
use Rattle.cert_check.specs.declared.verdict.Verdict.{Verdict}
use Rattle.cert_check.specs.declared.verdict.Verdict.TheVariants.{Accepted, Rejected}

-- the words ask nothing
abbrev pub words_refusal : List ℕ
words_refusal = codes "refused words\n"

-- a file is too long
abbrev pub length_refusal : List ℕ
length_refusal = codes "refused length\n"

-- a line of a model file isn't allowed, by the number of the line and of the kind
abbrev pub mps_refusal : ℕ → ℕ → List ℕ
mps_refusal line kind = codes "refused mps line " ++ decimal line ++ codes " kind " ++ decimal kind
    ++ codes "\n"

-- a line of a certificate isn't allowed, by the number of the line and of the kind
abbrev pub certificate_refusal : ℕ → ℕ → List ℕ
certificate_refusal line kind = codes "refused certificate line " ++ decimal line ++ codes " kind "
    ++ decimal kind ++ codes "\n"

-- a model isn't admitted, by the number of the kind and of the column or row
abbrev pub model_refusal : ℕ → ℕ → List ℕ
model_refusal kind index = codes "refused model kind " ++ decimal kind ++ codes " index " ++ decimal
    index ++ codes "\n"

-- what the checker says of a certificate: that it is accepted, or the number of the first line with
-- a reason and that of the least of its reasons
abbrev pub verdict_text : Verdict → List ℕ
verdict_text Accepted = codes "accepted\n"
verdict_text (Rejected line why) = codes "rejected line " ++ decimal line ++ codes " reason "
    ++ decimal (reason_number why) ++ codes "\n"
