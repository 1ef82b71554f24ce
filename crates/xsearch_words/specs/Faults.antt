-- Counts of faults, the answers that tell of one, and the fault that a shelf keeps.
use Rattle.std.specs.Prelude.{ℕ, ◌≡◌, ◌≢◌, ◌<◌, ◌+◌, ◌-◌, ◌^◌, min, Bool, true, false, List, Option, Some, None, Result, Ok, Err}
use Rattle.xsearch_words.specs.declared.fault.LastFault.{LastFault}
use Rattle.xsearch_words.specs.declared.fault.FaultLog.{FaultLog}
use Rattle.xsearch_words.specs.declared.error.ShelfError.{ShelfError}
use Rattle.xsearch_words.specs.declared.error.ShelfError.TheVariants as shelf
use Rattle.xsearch_words.specs.declared.error.WriteError.{WriteError}
use Rattle.xsearch_words.specs.declared.error.WriteError.TheVariants as write

-- one more, but a count stands still at 2^64 - 1
abbrev pub next_count : ℕ → ℕ
next_count n = min (n + 1) (2 ^ 64 - 1)

-- A count has risen. One that stands at 2^64 - 1, where it can't rise, counts as risen.
pub record HasRisen (old new : ℕ) : Type 0 where
  pub higher : old ≢ 2 ^ 64 - 1 → old < new

-- A call failed with this fault: the count of faults has risen, and the fault is the last one.
pub record HasFailed (old new : ℕ) (last : Option LastFault) (fault : LastFault) : Type 0 where
  pub counted : HasRisen old new
  pub kept : last ≡ Some fault

-- the fault of a read of this name
abbrev pub failed_read : List ℕ → LastFault
failed_read name = record { write = false; name = name }

-- the fault of a write of this name
abbrev pub failed_write : List ℕ → LastFault
failed_write name = record { write = true; name = name }

-- whether the answer of a read is that it failed
abbrev pub read_failed : {A : Type 0} → Result A ShelfError → Bool
read_failed (Ok _) = false
read_failed (Err shelf.Failed) = true
read_failed (Err shelf.TooLong) = false
read_failed (Err shelf.Memory) = false

-- the same of a write of a file, or a put
abbrev pub write_failed : {A : Type 0} → Result A WriteError → Bool
write_failed (Ok _) = false
write_failed (Err write.Failed) = true
write_failed (Err write.Memory) = false

-- a log without faults
abbrev pub no_faults : FaultLog
no_faults = record { count = 0; last = None }

-- the log after one more fault
abbrev pub log_with : FaultLog → LastFault → FaultLog
log_with log fault = record { count = next_count log.count; last = Some fault }

-- the log shows that a call failed with this fault
abbrev pub ShowsFailure : FaultLog → FaultLog → LastFault → Type 0
ShowsFailure old new fault = HasFailed old.count new.count new.last fault
