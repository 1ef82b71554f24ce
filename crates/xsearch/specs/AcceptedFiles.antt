-- What the certificate file of a finished search holds, and what checking such a file comes to.
use Rattle.std.specs.Prelude.{ℕ, ◌≡◌, ◌<◌, ◌^◌, ⊤, List, length, IfSome, Some, Result, Ok, Err}
use Rattle.cert_check.specs.Verdicts.{IsAccepted}
use Rattle.cert_check.specs.declared.verdict.Verdict.TheVariants.{Accepted}
use Rattle.cert_text.specs.Readings.{Reads}
use Rattle.ip_core.specs.declared.model.ModelParts.{ModelParts}
use Rattle.mps_model.specs.declared.model.MpsModel.{MpsModel}
use Rattle.mps_read.specs.Readings.{Reads as ReadsModel}
use Rattle.tree_cert.specs.declared.certificate.Certificate.{Certificate}
use Rattle.width_admit.specs.Admission.{Admits}
use Rattle.xsearch_words.specs.Files.{Files, contents}
use Rattle.xsearch_words.specs.Jobs.{job}
use Rattle.xsearch_words.specs.Shelf.{ShelfState}
use Rattle.xsearch_words.specs.declared.job.CheckJob.{CheckJob}
use Rattle.xsearch_words.specs.declared.job.Job.{Job}
use Rattle.xsearch_words.specs.declared.job.Job.TheVariants.{Solve, Alone, Check, Show, Gen, Sample}
use Rattle.xsearch_words.specs.declared.job.SolveJob.{SolveJob}
use Rattle.xsearch.specs.Checks.{IsCheckedFile, told}
use Rattle.xsearch.specs.ModelFiles.{IsModelFile}
use Rattle.xsearch.specs.declared.output.Output.{Output}
use Rattle.xsearch.specs.declared.output.Failure.{Failure}
use Rattle.xsearch.specs.declared.output.Failure.TheVariants.{Length, Memory, ReadFailed}

-- The bytes of the file of this name are read as a certificate, and the checker accepts it for the
-- model that the model file is admitted as. Where the shelf doesn't tell its files, some bytes are.
pub record IsAcceptedFile (asked : SolveJob) (name : List ℕ) (old new : ShelfState) : Type 0 where
  pub mps : MpsModel
  pub m : ModelParts
  pub model : IsModelFile old asked.model mps
  pub admits : Admits mps asked.default_upper m
  pub certificate : Certificate
  pub reads : IfSome new.files (λ files. Reads (contents files name) certificate)
  pub accepted : IsAccepted m certificate

-- the certificate file that is named is such a one where the run ends with status 0
pub record IsAcceptedIfNamed (asked : SolveJob) (old new : ShelfState) (code : ℕ) : Type 0 where
  pub each : (name : List ℕ) → asked.cert ≡ Some name → code ≡ 0
      → IsAcceptedFile asked name old new

-- the same of a job, which may be to solve a model
abbrev pub IsAcceptedIfSolved : Job → ShelfState → ShelfState → ℕ → Type 0
IsAcceptedIfSolved (Solve asked) old new code = IsAcceptedIfNamed asked old new code
IsAcceptedIfSolved (Alone asked) old new code = IsAcceptedIfNamed asked old new code
IsAcceptedIfSolved (Check asked) old new code = ⊤
IsAcceptedIfSolved (Show model) old new code = ⊤
IsAcceptedIfSolved (Gen number) old new code = ⊤
IsAcceptedIfSolved (Sample asked) old new code = ⊤

-- the same of the job that words ask for
pub record IsAcceptedIfAsked (words : List (List ℕ)) (old new : ShelfState) (code : ℕ) : Type 0
  where
    pub each : (asked : Job) → job words ≡ Some asked → IsAcceptedIfSolved asked old new code

-- files with a model that is admitted, and with a certificate that the checker accepts for it
pub record AreAcceptedFiles (asked : CheckJob) (files : Files) : Type 0 where
  pub mps : MpsModel
  pub m : ModelParts
  pub model : ReadsModel (contents files asked.model) mps
  pub admits : Admits mps asked.default_upper m
  pub certificate : Certificate
  pub reads : Reads (contents files asked.cert) certificate
  pub accepted : IsAccepted m certificate

-- What checking such files comes to: that the certificate is accepted, or nothing is told of it,
-- since a file is longer than its kind may be, a read failed, or there was no memory, which is free.
pub data IsAcceptance (asked : CheckJob) (files : Files) (ended : Result Output Failure) : Type 0
  where
    Accepts : ended ≡ Ok (told Accepted) → IsAcceptance asked files ended
    LongModel : ended ≡ Err Length → 2 ^ 24 < length (contents files asked.model)
        → IsAcceptance asked files ended
    LongCertificate : ended ≡ Err Length → 2 ^ 28 < length (contents files asked.cert)
        → IsAcceptance asked files ended
    Unread : ended ≡ Err ReadFailed → IsAcceptance asked files ended
    NoMemory : ended ≡ Err Memory → IsAcceptance asked files ended

-- checking files with a certificate that the checker accepts says so
abbrev pub AcceptedFilesAreTold : Type 0
AcceptedFilesAreTold = (asked : CheckJob) (old new : ShelfState) (files : Files)
    (ended : Result Output Failure) → old.files ≡ Some files → AreAcceptedFiles asked files
    → IsCheckedFile asked old new ended → IsAcceptance asked files ended
