-- The files that a run writes, and what becomes of them.
use Rattle.std.specs.Prelude.{ℕ, ◌≡◌, List, [], ◌∷◌, ◌++◌, Option, Some, None, Result, Ok, Err}
use Rattle.cert_text.specs.Certificates.{certificate_text}
use Rattle.ip_core.specs.declared.model.ModelParts.{ModelParts}
use Rattle.log_text.specs.Logs.{log_text}
use Rattle.stamp_machine.specs.declared.history.History.{History}
use Rattle.task_steps.specs.declared.answer.Answer.{Answer}
use Rattle.task_steps.specs.declared.answer.Status.{Status}
use Rattle.tree_build.specs.Certificates.{proof_of}
use Rattle.tree_cert.specs.declared.certificate.Certificate.{Certificate}
use Rattle.xsearch_words.specs.Outputs.{AreWritten, AreWrittenInPart, IsFailedWrite}
use Rattle.xsearch_words.specs.Shelf.{ShelfState}
use Rattle.xsearch_words.specs.declared.job.SolveJob.{SolveJob}
use Rattle.xsearch_words.specs.declared.error.OutputError.{OutputError}
use Rattle.xsearch_words.specs.declared.error.OutputError.TheVariants.{Failed}
use Rattle.xsearch_words.specs.declared.error.OutputError.TheVariants as unwritten
use Rattle.xsearch_words.specs.declared.output.OutputFile.{OutputFile}
use Rattle.xsearch.specs.Answer.{status_word}
use Rattle.xsearch.specs.Searches.{limits_of, settings_of}
use Rattle.xsearch.specs.declared.output.Output.{Output}
use Rattle.xsearch.specs.declared.output.Failure.{Failure}
use Rattle.xsearch.specs.declared.output.Failure.TheVariants.{WriteFailed, Memory}

-- the file of this text, where it is given a name
abbrev pub named_file : Option (List ℕ) → List ℕ → List OutputFile
named_file None text = []
named_file (Some name) text = record { name = name; text = text } ∷ []

-- the file of a certificate, where there is one and it is given a name
abbrev pub certificate_file : Option (List ℕ) → Option Certificate → List OutputFile
certificate_file name None = []
certificate_file name (Some certificate) = named_file name (certificate_text certificate)

-- the file of a log of a history, where it is given a name
abbrev pub log_file : SolveJob → History → Status → List OutputFile
log_file asked history status = named_file asked.log
    (log_text (limits_of asked.tune) (settings_of asked.tune) history (status_word status))

-- the files that solving writes, in their order and where they are asked for: the certificate of a
-- finished search, and the log of the history
abbrev pub solve_files : ModelParts → SolveJob → History → Answer → List OutputFile
solve_files m asked history answer =
    certificate_file asked.cert (proof_of m history answer)
    ++ log_file asked history answer.status

-- the files of what was found
abbrev pub files_of : Result Output Failure → List OutputFile
files_of (Ok output) = output.files
files_of (Err failure) = []

-- what writes come to that ended with this error
abbrev pub write_failure : OutputError → Failure
write_failure (Failed place) = WriteFailed place
write_failure unwritten.Memory = Memory

-- What a run comes to by the writes of the files of what was found: to that, where all are whole;
-- to a failure that names a file's place, where its write failed and those before it are whole; or
-- to no memory for the write of one, where those before it are whole.
pub data IsWritten (found : Result Output Failure) (old new : ShelfState)
    (ended : Result Output Failure) : Type 0 where
  AllWritten : ended ≡ found → AreWritten (files_of found) old new → IsWritten found old new ended
  OneFailed : (place : ℕ) → ended ≡ Err (WriteFailed place)
      → IsFailedWrite place (files_of found) old new → IsWritten found old new ended
  OneUnwritten : ended ≡ Err Memory → AreWrittenInPart (files_of found) old new
      → IsWritten found old new ended
