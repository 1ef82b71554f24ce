-- What an error tells of the reason that refuses a derivation.
use Rattle.std.specs.Prelude.{◌≡◌, Option, Some, None, Result, Ok, Err}
use Rattle.ip_core.specs.declared.row.Row.{Row}
use Rattle.cut_derive.specs.declared.refusal.Refusal.{Refusal}
use Rattle.cut_derive.specs.declared.refusal.Refusal.TheVariants as reason
use Rattle.cut_derive.specs.declared.error.CutError.{CutError}
use Rattle.cut_derive.specs.declared.error.CutError.TheVariants.{UnknownRow, BadNumbers, NotBinary, NotCover, TooWide, TooLong, Memory}

-- the reason, or None for want of memory
abbrev pub refusal_of : CutError → Option Refusal
refusal_of UnknownRow = Some reason.UnknownRow
refusal_of BadNumbers = Some reason.BadNumbers
refusal_of (NotBinary col) = Some (reason.NotBinary col)
refusal_of NotCover = Some reason.NotCover
refusal_of TooWide = Some reason.TooWide
refusal_of TooLong = Some reason.TooLong
refusal_of Memory = None

-- a refusal is that of the definition, or want of memory
abbrev pub IsRefusalOf : Option Refusal → Result Row Refusal → Type 0
IsRefusalOf None definition = Unit {0}
IsRefusalOf (Some why) definition = definition ≡ Err why

-- an answer is that of the definition, or want of memory
abbrev pub IsAnswerOf : Result Row CutError → Result Row Refusal → Type 0
IsAnswerOf (Ok row) definition = definition ≡ Ok row
IsAnswerOf (Err e) definition = IsRefusalOf (refusal_of e) definition
