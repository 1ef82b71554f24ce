-- The files that a run writes, in their order, and what it leaves of them.
use Rattle.std.specs.Prelude.{ℕ, zero, suc, ◌≡◌, ◌<◌, ◌+◌, List, length, take, fold, Option, Some, Result, Ok, Err}
use Rattle.std.specs.List.{slice_get}
use Rattle.std.specs.Option.{option_map}
use Rattle.xsearch_words.specs.Faults.{HasFailed, failed_write, next_count}
use Rattle.xsearch_words.specs.Files.{Files, MaySetFront, with_file}
use Rattle.xsearch_words.specs.Shelf.{HasNoFault, ShelfState}
use Rattle.xsearch_words.specs.declared.error.OutputError.{OutputError}
use Rattle.xsearch_words.specs.declared.error.OutputError.TheVariants.{Failed, Memory}
use Rattle.xsearch_words.specs.declared.output.OutputFile.{OutputFile}

-- the files, but with each of these whole, one after the other
abbrev pub with_files : List OutputFile → Files → Files
with_files outputs files =
    fold (λ so_far output. with_file output.name output.text so_far) files outputs

-- the same where files are told; where they aren't, nothing is told
abbrev pub with_told_files : List OutputFile → Option Files → Option Files
with_told_files outputs files = option_map (with_files outputs) files

-- a count after so many more
abbrev pub count_after : ℕ → ℕ → ℕ
count_after zero count = count
count_after (suc more) count = next_count (count_after more count)

-- all of these files are whole, and each other file is as before
pub record AreWritten (outputs : List OutputFile) (old new : ShelfState) : Type 0 where
  pub files : new.files ≡ with_told_files outputs old.files
  pub quiet : HasNoFault old new
  pub calls : new.calls ≡ count_after (length outputs) old.calls

-- The write of the file at this place failed: those before it are whole, it may hold a front of its
-- text, and each other file is as before.
pub record IsFailedWrite (place : ℕ) (outputs : List OutputFile)
    (old new : ShelfState) : Type 0 where
  pub output : OutputFile
  pub here : slice_get outputs place ≡ Some output
  pub files : MaySetFront (with_told_files (take place outputs) old.files) new.files
      output.name output.text
  pub failed : HasFailed old.faults new.faults new.last (failed_write output.name)
  pub calls : new.calls ≡ count_after (place + 1) old.calls

-- Memory could not be had for the write of some file: those before it are whole, and each other
-- file is as before.
pub record AreWrittenInPart (outputs : List OutputFile) (old new : ShelfState) : Type 0 where
  pub place : ℕ
  pub within : place < length outputs
  pub files : new.files ≡ with_told_files (take place outputs) old.files
  pub quiet : HasNoFault old new
  pub calls : new.calls ≡ count_after (place + 1) old.calls

-- What writing these files in their order leaves, by how it ended: all are whole; or some first
-- ones are, and the next is in part or not at all.
abbrev pub AreLeftBy : {A : Type 0} → Result A OutputError → List OutputFile → ShelfState →
    ShelfState → Type 0
AreLeftBy (Ok _) outputs old new = AreWritten outputs old new
AreLeftBy (Err (Failed place)) outputs old new = IsFailedWrite place outputs old new
AreLeftBy (Err Memory) outputs old new = AreWrittenInPart outputs old new
