-- What searching a sample model finds.
use Rattle.std.specs.Prelude.{◌≡◌, [], length, None, Result, Ok, Err}
use Rattle.ip_core.specs.declared.model.ModelParts.{ModelParts}
use Rattle.mps_model.specs.declared.model.MpsModel.{MpsModel}
use Rattle.task_steps.specs.declared.answer.Answer.{Answer}
use Rattle.width_admit.specs.Admission.{Admits}
use Rattle.xsearch_words.specs.declared.job.SampleJob.{SampleJob}
use Rattle.xsearch.specs.Endings.{exit_of}
use Rattle.xsearch.specs.FileAnswers.{IsTrueOfFile}
use Rattle.xsearch.specs.Searches.{IsSearchAnswer, machine_history}
use Rattle.xsearch.specs.Summaries.{summary_text}
use Rattle.xsearch.specs.declared.output.Output.{Output}
use Rattle.xsearch.specs.declared.output.Failure.{Failure}
use Rattle.xsearch.specs.declared.output.Failure.TheVariants.{Memory}

-- an answer of a model's search, summed up with the number of all entries of the history; no file is
-- written
pub record IsSummary (asked : SampleJob) (m : ModelParts) (answer : Answer)
    (output : Output) : Type 0 where
  pub searched : IsSearchAnswer m asked.tune answer
  pub exit : output.exit ≡ exit_of answer.status
  pub text : output.text ≡ summary_text asked.number m answer
      (length (machine_history m asked.tune).entries)
  pub files : output.files ≡ []

-- the answer of the model that the sample model is admitted as, which is true of the sample model
pub record IsSampleAnswer (asked : SampleJob) (mps : MpsModel)
    (found : Result Output Failure) : Type 0 where
  pub m : ModelParts
  pub answer : Answer
  pub output : Output
  pub is : found ≡ Ok output
  pub admits : Admits mps None m
  pub of_model : IsSummary asked m answer output
  pub of_sample : IsTrueOfFile mps None m answer

-- what searching a sample model finds: its answer, or no memory, which is free
pub data IsSampled (asked : SampleJob) (mps : MpsModel)
    (found : Result Output Failure) : Type 0 where
  Sampled : IsSampleAnswer asked mps found → IsSampled asked mps found
  Unsampled : found ≡ Err Memory → IsSampled asked mps found
