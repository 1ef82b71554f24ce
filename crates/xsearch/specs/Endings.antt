use Rattle.std.specs.Prelude.{ℕ, ◌≡◌, List, Result, Ok, Err}
use Rattle.cert_text.specs.Refusals.{kind_number as certificate_kind_number}
use Rattle.mps_read.specs.KindNumbers.{kind_number}
use Rattle.width_admit.specs.KindNumbers.{kind_of, index_of}
use Rattle.xsearch_words.specs.Faults.{HasRisen, next_count}
use Rattle.xsearch_words.specs.Sink.{GrowsBy, GrowsByFront, SinkState}
use Rattle.xsearch.specs.Refusals.{words_refusal, length_refusal, mps_refusal, model_refusal, certificate_refusal}
use Rattle.task_steps.specs.declared.answer.Status.{Status}
use Rattle.task_steps.specs.declared.answer.Status.TheVariants as search
use Rattle.xsearch.specs.declared.output.Output.{Output}
use Rattle.xsearch.specs.declared.output.Failure.{Failure}
use Rattle.xsearch.specs.declared.output.Failure.TheVariants.{Words, Length, Mps, Model, Cert, ReadFailed, WriteFailed, Memory}
use Rattle.xsearch.specs.declared.status.ExitStatus.{ExitStatus}
use Rattle.xsearch.specs.declared.status.ExitStatus.TheVariants.{Done, WorkLimit, StoreLimit, RefusedWords, RefusedInput, ShelfFailed, SinkFailed, NoMemory, Rejected}

-- the number of a status
abbrev pub code_of : ExitStatus → ℕ
code_of Done = 0
code_of RefusedWords = 2
code_of WorkLimit = 3
code_of StoreLimit = 4
code_of RefusedInput = 5
code_of ShelfFailed = 6
code_of SinkFailed = 7
code_of NoMemory = 8
code_of Rejected = 9

-- one put, by which the text went out whole
pub record IsWhole (old new : SinkState) (text : List ℕ) (meant status : ExitStatus) : Type 0 where
  pub exit : status ≡ meant
  pub grows : GrowsBy old.out new.out text
  pub faults : new.faults ≡ old.faults
  pub calls : new.calls ≡ next_count old.calls

-- one put, which failed, and a front of the text went out
pub record IsBroken (old new : SinkState) (text : List ℕ) (status : ExitStatus) : Type 0 where
  pub exit : status ≡ SinkFailed
  pub risen : HasRisen old.faults new.faults
  pub front : GrowsByFront old.out new.out text
  pub calls : new.calls ≡ next_count old.calls

-- there was no memory for the text or its put, and nothing went out
pub record IsUnput (old new : SinkState) (status : ExitStatus) : Type 0 where
  pub exit : status ≡ NoMemory
  pub nothing : new.out ≡ old.out
  pub faults : new.faults ≡ old.faults

-- One put of a text, which ends a run with `meant` where it succeeds: the text went out whole; or
-- the put failed and a front of it went out; or there was no memory and nothing went out.
pub data IsPut (old new : SinkState) (text : List ℕ) (meant status : ExitStatus) : Type 0 where
  Whole : IsWhole old new text meant status → IsPut old new text meant status
  Broken : IsBroken old new text status → IsPut old new text meant status
  Unput : IsUnput old new status → IsPut old new text meant status

-- no put was made, and the run ended so
pub record IsSilent (old new : SinkState) (meant status : ExitStatus) : Type 0 where
  pub exit : status ≡ meant
  pub unused : new ≡ old

-- an answer ends a run with status 0, or with 3 or 4 where the limit on work or store was met
abbrev pub exit_of : Status → ExitStatus
exit_of search.Optimal = Done
exit_of search.Infeasible = Done
exit_of search.StoreLimit = StoreLimit
exit_of search.WorkLimit = WorkLimit

-- how a run ends that fails so: by one refusal line, or with nothing put
abbrev pub FailsAs : Failure → SinkState → SinkState → ExitStatus → Type 0
FailsAs Words old new status = IsPut old new words_refusal RefusedWords status
FailsAs Length old new status = IsPut old new length_refusal RefusedInput status
FailsAs (Mps line kind) old new status =
    IsPut old new (mps_refusal line (kind_number kind)) RefusedInput status
FailsAs (Model reason) old new status =
    IsPut old new (model_refusal (kind_of reason) (index_of reason)) RefusedInput status
FailsAs (Cert line kind) old new status =
    IsPut old new (certificate_refusal line (certificate_kind_number kind)) RefusedInput status
FailsAs ReadFailed old new status = IsSilent old new ShelfFailed status
FailsAs (WriteFailed place) old new status = IsSilent old new ShelfFailed status
FailsAs Memory old new status = IsSilent old new NoMemory status

-- how a run ends, by what it came to
abbrev pub EndsAs : Result Output Failure → SinkState → SinkState → ExitStatus → Type 0
EndsAs (Ok output) old new status = IsPut old new output.text output.exit status
EndsAs (Err failure) old new status = FailsAs failure old new status
