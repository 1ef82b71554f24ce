-- What an error tells of the reason why a model isn't admitted.
use Rattle.std.specs.Prelude.{Option, Some, None}
use Rattle.width_admit.specs.declared.refusal.Refusal.{Refusal}
use Rattle.width_admit.specs.declared.refusal.Refusal.TheVariants as reason
use Rattle.width_admit.specs.declared.error.AdmitError.{AdmitError}
use Rattle.width_admit.specs.declared.error.AdmitError.TheVariants.{Continuous, NegativeUpper, Unbounded, BoundTooLarge, TooManyColumns, TooManyRows, TooManyTerms, RowTooFine, RowTooWide, ObjectiveTooWide, Memory}

-- the reason, or None for want of memory
abbrev pub refusal_of : AdmitError → Option Refusal
refusal_of (Continuous col) = Some (reason.Continuous col)
refusal_of (NegativeUpper col) = Some (reason.NegativeUpper col)
refusal_of (Unbounded col) = Some (reason.Unbounded col)
refusal_of (BoundTooLarge col) = Some (reason.BoundTooLarge col)
refusal_of TooManyColumns = Some reason.TooManyColumns
refusal_of TooManyRows = Some reason.TooManyRows
refusal_of TooManyTerms = Some reason.TooManyTerms
refusal_of (RowTooFine row) = Some (reason.RowTooFine row)
refusal_of (RowTooWide row) = Some (reason.RowTooWide row)
refusal_of ObjectiveTooWide = Some reason.ObjectiveTooWide
refusal_of Memory = None
