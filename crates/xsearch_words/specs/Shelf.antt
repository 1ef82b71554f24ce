-- What a shelf and its answers tell.
use Rattle.std.specs.Prelude.{ℕ, ◌≡◌, if◌then◌else◌, List, Option, Result}
use Rattle.xsearch_words.specs.Faults.{failed_read, failed_write, log_with, read_failed, write_failed}
use Rattle.xsearch_words.specs.Files.{Files}
use Rattle.xsearch_words.specs.declared.fault.LastFault.{LastFault}
use Rattle.xsearch_words.specs.declared.fault.FaultLog.{FaultLog}
use Rattle.xsearch_words.specs.declared.error.ShelfError.{ShelfError}
use Rattle.xsearch_words.specs.declared.error.WriteError.{WriteError}

-- what a shelf tells: its files, where it tells them, counts of faults and calls, the last fault
pub record ShelfState : Type 0 where
  pub files : Option Files
  pub faults : ℕ
  pub last : Option LastFault
  pub calls : ℕ

-- no call failed between two states of a shelf
pub record HasNoFault (old new : ShelfState) : Type 0 where
  pub faults : new.faults ≡ old.faults
  pub last : new.last ≡ old.last

-- the log after a read of this name, which keeps nothing but a failure
abbrev pub log_after_read : {A : Type 0} → FaultLog → List ℕ → Result A ShelfError → FaultLog
log_after_read log name result = if read_failed result then log_with log (failed_read name) else log

-- the same of a write
abbrev pub log_after_write : {A : Type 0} → FaultLog → List ℕ → Result A WriteError → FaultLog
log_after_write log name result =
    if write_failed result then log_with log (failed_write name) else log
