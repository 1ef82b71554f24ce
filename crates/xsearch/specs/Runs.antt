use Rattle.std.specs.Prelude.{ℕ, ◌≡◌, Result}
use Rattle.xsearch_words.specs.Sink.{SinkState}
use Rattle.xsearch.specs.Endings.{EndsAs, code_of}
use Rattle.xsearch.specs.declared.output.Output.{Output}
use Rattle.xsearch.specs.declared.output.Failure.{Failure}
use Rattle.xsearch.specs.declared.status.ExitStatus.{ExitStatus}

-- a run ends: what it came to has its cause, and says how the run ends
pub record Ends (caused : Result Output Failure → Type 0) (old new : SinkState)
    (code : ℕ) : Type 0 where
  pub ended : Result Output Failure
  pub status : ExitStatus
  pub cause : caused ended
  pub ending : EndsAs ended old new status
  pub exit : code ≡ code_of status
