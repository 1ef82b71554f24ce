-- What the words of the command line ask.
use Rattle.std.specs.Prelude.{ℕ, ◌≡◌, ◌≤◌, ◌-◌, ◌^◌, ⊤, List, [], ◌∷◌, Option, Some, None, option_map, if◌then◌else◌, IfSome, IsTrue}
use Rattle.xsearch_words.specs.Commands.{command_of}
use Rattle.xsearch_words.specs.Forms.{IsOtherName, has_form, is_name, name_at, names_differ, other_name, value}
use Rattle.xsearch_words.specs.Numbers.{number_between, number_or, optional_number}
use Rattle.xsearch_words.specs.Options.{when_some}
use Rattle.xsearch_words.specs.Tunes.{IsTune, tune_in}
use Rattle.xsearch_words.specs.declared.command.Command.{Command}
use Rattle.xsearch_words.specs.declared.command.Command.TheVariants as command
use Rattle.xsearch_words.specs.declared.command.Key.TheVariants.{Threads, DefaultUpper, Cert, Log}
use Rattle.xsearch_words.specs.declared.error.JobError.{JobError}
use Rattle.xsearch_words.specs.declared.error.JobError.TheVariants.{Words}
use Rattle.xsearch_words.specs.declared.job.Job.{Job}
use Rattle.xsearch_words.specs.declared.job.Job.TheVariants.{Solve, Alone, Check, Show, Gen, Sample}
use Rattle.xsearch_words.specs.declared.job.SolveJob.{SolveJob}
use Rattle.xsearch_words.specs.declared.job.CheckJob.{CheckJob}
use Rattle.xsearch_words.specs.declared.job.SampleJob.{SampleJob}

-- `[--threads=N]`: how many threads search. It is no part of how a search is run, on which what the
-- search finds may depend.
abbrev pub threads_in : List (List ℕ) → Option ℕ
threads_in words = number_or 4 1 64 (value Threads words)

-- `MODEL [--tasks=N] [--threads=N] [--work=N] [--store=N] [--cuts=yes|no] [--heuristics=yes|no]
-- [--default-upper=N] [--cert=NAME] [--log=NAME]` after `solve` or `alone`, with names that differ
abbrev pub solve_job : List (List ℕ) → Option SolveJob
solve_job words =
    when_some (name_at 0 words) (λ model.
    when_some (other_name model (value Cert words)) (λ cert.
    when_some (other_name model (value Log words)) (λ log.
    when_some (tune_in words) (λ tune.
    when_some (threads_in words) (λ threads.
    when_some (optional_number 0 (2 ^ 31) (value DefaultUpper words)) (λ default_upper.
    if names_differ cert log
    then Some (record {
      model = model;
      cert = cert;
      log = log;
      tune = tune;
      threads = threads;
      default_upper = default_upper;
    }) else None))))))

-- `MODEL CERT [--default-upper=N]` after `check`
abbrev pub check_job : List (List ℕ) → Option CheckJob
check_job words =
    when_some (name_at 0 words) (λ model.
    when_some (name_at 1 words) (λ cert.
    when_some (optional_number 0 (2 ^ 31) (value DefaultUpper words)) (λ default_upper.
    Some (record { model = model; cert = cert; default_upper = default_upper }))))

-- `NUMBER` after `gen` or `sample`
abbrev pub model_number : List (List ℕ) → Option ℕ
model_number words = when_some (name_at 0 words) (number_between 0 (2 ^ 64 - 1))

-- `NUMBER [--tasks=N] [--threads=N] [--work=N] [--store=N] [--cuts=yes|no] [--heuristics=yes|no]`
-- after `sample`
abbrev pub sample_job : List (List ℕ) → Option SampleJob
sample_job words =
    when_some (model_number words) (λ number.
    when_some (tune_in words) (λ tune.
    when_some (threads_in words) (λ threads.
    Some (record { number = number; tune = tune; threads = threads }))))

-- what words of the command's form ask
abbrev pub command_job : Command → List (List ℕ) → Option Job
command_job command.Solve words = option_map Solve (solve_job words)
command_job command.Alone words = option_map Alone (solve_job words)
command_job command.Check words = option_map Check (check_job words)
command_job command.Show words = option_map Show (name_at 0 words)
command_job command.Gen words = option_map Gen (model_number words)
command_job command.Sample words = option_map Sample (sample_job words)

-- what the words ask: the first is the command, and the others have its form
abbrev pub job : List (List ℕ) → Option Job
job [] = None
job (first ∷ words) = when_some (command_of first)
    (λ command. if has_form command words then command_job command words else None)

-- the words ask this
abbrev pub IsJobOf : List (List ℕ) → Job → Type 0
IsJobOf words asked = job words ≡ Some asked

-- the words are refused only where they ask nothing
abbrev pub IsJobCause : List (List ℕ) → JobError → Type 0
IsJobCause words error = error ≡ Words → job words ≡ None

-- the limits of the number of threads
pub record IsThreadCount (threads : ℕ) : Type 0 where
  pub some : 1 ≤ threads
  pub few : threads ≤ 64

-- the limits of what `solve` or `alone` is asked
pub record IsSolveJob (asked : SolveJob) : Type 0 where
  pub model : IsTrue (is_name asked.model)
  pub cert : IfSome asked.cert (IsOtherName asked.model)
  pub log : IfSome asked.log (IsOtherName asked.model)
  pub apart : IsTrue (names_differ asked.cert asked.log)
  pub tune : IsTune asked.tune
  pub threads : IsThreadCount asked.threads
  pub default_upper : IfSome asked.default_upper (λ upper. upper ≤ 2 ^ 31)

-- the limits of what `check` is asked
pub record IsCheckJob (asked : CheckJob) : Type 0 where
  pub model : IsTrue (is_name asked.model)
  pub cert : IsTrue (is_name asked.cert)
  pub default_upper : IfSome asked.default_upper (λ upper. upper ≤ 2 ^ 31)

-- the limits of what `sample` is asked
pub record IsSampleJob (asked : SampleJob) : Type 0 where
  pub tune : IsTune asked.tune
  pub threads : IsThreadCount asked.threads

-- the limits of what words can ask
abbrev pub IsJob : Job → Type 0
IsJob (Solve asked) = IsSolveJob asked
IsJob (Alone asked) = IsSolveJob asked
IsJob (Check asked) = IsCheckJob asked
IsJob (Show model) = IsTrue (is_name model)
IsJob (Gen number) = ⊤
IsJob (Sample asked) = IsSampleJob asked
