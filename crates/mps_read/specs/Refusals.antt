-- What an error tells of the reason why a text has no model.
use Rattle.std.specs.Prelude.{ℕ, List, Option, Some, None, IfSome}
use Rattle.mps_read.specs.Readings.{IsRefused}
use Rattle.mps_read.specs.declared.error.MpsError.{MpsError}
use Rattle.mps_read.specs.declared.error.MpsError.TheVariants.{Refused, Memory}
use Rattle.mps_read.specs.declared.error.MpsRefusal.{MpsRefusal}

-- the refusal that an error tells of, or None for want of memory
abbrev pub refusal_of : MpsError → Option MpsRefusal
refusal_of (Refused line kind) = Some (record { line = line; kind = kind })
refusal_of Memory = None

-- what an error tells of the reason is true; want of memory tells of none and has no clause
abbrev pub IsCause : List ℕ → MpsError → Type 0
IsCause bytes error = IfSome (refusal_of error) (λ r. IsRefused bytes r.line r.kind)
