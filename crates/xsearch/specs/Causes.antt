-- The cause of what a command finds, and of what it comes to.
use Rattle.std.specs.Prelude.{ℕ, ◌≡◌, List, [], Some, None, Result, Ok, Err}
use Rattle.ip_core.specs.declared.model.ModelParts.{ModelParts}
use Rattle.mps_model.specs.Prints.{canonical_text}
use Rattle.mps_model.specs.declared.model.MpsModel.{MpsModel}
use Rattle.task_steps.specs.declared.answer.Answer.{Answer}
use Rattle.width_admit.specs.Admission.{Admits}
use Rattle.sample_model.specs.Samples.{generated_model}
use Rattle.xsearch_words.specs.Jobs.{job}
use Rattle.xsearch_words.specs.Shelf.{ShelfState}
use Rattle.xsearch_words.specs.declared.job.Job.{Job}
use Rattle.xsearch_words.specs.declared.job.Job.TheVariants.{Solve, Alone, Check, Show, Gen, Sample}
use Rattle.xsearch_words.specs.declared.job.SolveJob.{SolveJob}
use Rattle.xsearch.specs.Answer.{answer_text}
use Rattle.xsearch.specs.Checks.{IsCheckedFile}
use Rattle.xsearch.specs.Endings.{exit_of}
use Rattle.xsearch.specs.FileJobs.{IsFileJob, IsJobWithoutFiles}
use Rattle.xsearch.specs.FileAnswers.{IsTrueOfFile}
use Rattle.xsearch.specs.ModelFiles.{IsModelFailure, IsModelFile, IsRefusal}
use Rattle.xsearch.specs.SampleAnswers.{IsSampled}
use Rattle.xsearch.specs.Searches.{IsSearchAnswer, machine_history}
use Rattle.xsearch.specs.Writes.{IsWritten, solve_files}
use Rattle.xsearch.specs.declared.output.Output.{Output}
use Rattle.xsearch.specs.declared.output.Failure.{Failure}
use Rattle.xsearch.specs.declared.output.Failure.TheVariants.{Words, Memory}
use Rattle.xsearch.specs.declared.status.ExitStatus.TheVariants.{Done}

-- an answer of a model's search, and what solving the model finds
pub record IsAnswer (m : ModelParts) (asked : SolveJob) (answer : Answer)
    (output : Output) : Type 0 where
  pub searched : IsSearchAnswer m asked.tune answer
  pub exit : output.exit ≡ exit_of answer.status
  pub text : output.text ≡ answer_text m answer.status answer.best
  pub files : output.files ≡ solve_files m asked (machine_history m asked.tune) answer

-- the answer of the model that a file's model is admitted as, which is true of the file's own model
pub record IsFileAnswer (asked : SolveJob) (mps : MpsModel)
    (found : Result Output Failure) : Type 0 where
  pub m : ModelParts
  pub answer : Answer
  pub output : Output
  pub is : found ≡ Ok output
  pub admits : Admits mps asked.default_upper m
  pub of_model : IsAnswer m asked answer output
  pub of_file : IsTrueOfFile mps asked.default_upper m answer

-- what solving a file's model finds: its answer, why it isn't admitted, or no memory, which is free
pub data IsSolved (asked : SolveJob) (mps : MpsModel)
    (found : Result Output Failure) : Type 0 where
  Solved : IsFileAnswer asked mps found → IsSolved asked mps found
  NotAdmitted : IsRefusal asked.default_upper mps found → IsSolved asked mps found
  Unsolved : found ≡ Err Memory → IsSolved asked mps found

-- a text that is put with status 0, and no file is written
abbrev pub printed : List ℕ → Output
printed text = record { files = []; text = text; exit = Done }

-- what printing a model finds: its canonical text, or no memory
pub data IsPrinted (mps : MpsModel) (found : Result Output Failure) : Type 0 where
  Canonical : found ≡ Ok (printed (canonical_text mps)) → IsPrinted mps found
  Unprinted : found ≡ Err Memory → IsPrinted mps found

-- what solving comes to: it is found by one read of the file, and its files are written
pub record IsSolvedFile (asked : SolveJob) (old new : ShelfState)
    (ended : Result Output Failure) : Type 0 where
  pub between : ShelfState
  pub found : Result Output Failure
  pub solved : IsFileJob IsModelFile IsModelFailure (IsSolved asked) old between asked.model found
  pub written : IsWritten found between new ended

-- what a job comes to has its cause in the job and the shelf
abbrev pub IsCausedBy : Job → ShelfState → ShelfState → Result Output Failure → Type 0
IsCausedBy (Solve asked) old new ended = IsSolvedFile asked old new ended
IsCausedBy (Alone asked) old new ended = IsSolvedFile asked old new ended
IsCausedBy (Check asked) old new ended = IsCheckedFile asked old new ended
IsCausedBy (Show model) old new ended =
    IsFileJob IsModelFile IsModelFailure IsPrinted old new model ended
IsCausedBy (Gen number) old new ended =
    IsJobWithoutFiles (IsPrinted (generated_model number)) old new ended
IsCausedBy (Sample asked) old new ended =
    IsJobWithoutFiles (IsSampled asked (generated_model asked.number)) old new ended

-- words ask for a job, and what it comes to has its cause
pub record IsAsked (words : List (List ℕ)) (old new : ShelfState)
    (ended : Result Output Failure) : Type 0 where
  pub asked : Job
  pub is : job words ≡ Some asked
  pub cause : IsCausedBy asked old new ended

-- words ask nothing, and are refused without a call of the shelf
pub record IsUnasked (words : List (List ℕ)) (old new : ShelfState)
    (ended : Result Output Failure) : Type 0 where
  pub none : job words ≡ None
  pub is : ended ≡ Err Words
  pub unused : new ≡ old

-- the words could not be read for want of memory, without a call of the shelf
pub record HasNoMemory (old new : ShelfState) (ended : Result Output Failure) : Type 0 where
  pub is : ended ≡ Err Memory
  pub unused : new ≡ old

-- What words come to has its cause in the job that they ask for. Words that ask nothing are
-- refused. Want of memory is free.
pub data IsCaused (words : List (List ℕ)) (old new : ShelfState)
    (ended : Result Output Failure) : Type 0 where
  Asked : IsAsked words old new ended → IsCaused words old new ended
  Unasked : IsUnasked words old new ended → IsCaused words old new ended
  NoMemory : HasNoMemory old new ended → IsCaused words old new ended
