-- What checking a certificate of a file's model comes to.
use Rattle.std.specs.Prelude.{ℕ, ◌≡◌, [], Option, Result, Ok, Err}
use Rattle.cert_check.specs.Verdicts.{IsAccepted, IsTrueCertificate, fault_of, verdict_of}
use Rattle.cert_check.specs.declared.verdict.Verdict.{Verdict}
use Rattle.cert_check.specs.declared.verdict.Verdict.TheVariants as verdict
use Rattle.ip_core.specs.declared.model.ModelParts.{ModelParts}
use Rattle.mps_model.specs.declared.model.MpsModel.{MpsModel}
use Rattle.tree_cert.specs.declared.certificate.Certificate.{Certificate}
use Rattle.width_admit.specs.Admission.{Admits}
use Rattle.xsearch_words.specs.Shelf.{HasNoFault, ShelfState}
use Rattle.xsearch_words.specs.declared.job.CheckJob.{CheckJob}
use Rattle.xsearch.specs.CertificateFiles.{IsCertificateFailure, IsCertificateFile}
use Rattle.xsearch.specs.FileAnswers.{IsTruePointOfFile}
use Rattle.xsearch.specs.FileJobs.{IsFileJob}
use Rattle.xsearch.specs.ModelFiles.{IsModelFailure, IsModelFile, IsRefusal}
use Rattle.xsearch.specs.Refusals.{verdict_text}
use Rattle.xsearch.specs.Shelves.{IsOneRead}
use Rattle.xsearch.specs.declared.output.Output.{Output}
use Rattle.xsearch.specs.declared.output.Failure.{Failure}
use Rattle.xsearch.specs.declared.output.Failure.TheVariants.{Memory}
use Rattle.xsearch.specs.declared.status.ExitStatus.{ExitStatus}
use Rattle.xsearch.specs.declared.status.ExitStatus.TheVariants.{Done, Rejected}

-- why a model isn't checked by a certificate, before the certificate is read: it isn't admitted, or
-- there is no memory, which is free
pub data IsUnchecked (upper : Option ℕ) (mps : MpsModel)
    (ended : Result Output Failure) : Type 0 where
  Refused : IsRefusal upper mps ended → IsUnchecked upper mps ended
  Unread : ended ≡ Err Memory → IsUnchecked upper mps ended

-- status 0 for a certificate that is accepted, and 9 for one that is rejected
abbrev pub verdict_exit : Verdict → ExitStatus
verdict_exit verdict.Accepted = Done
verdict_exit (verdict.Rejected line why) = Rejected

-- a verdict as it is put, and no file is written
abbrev pub told : Verdict → Output
told verdict = record {
  files = [];
  text = verdict_text verdict;
  exit = verdict_exit verdict;
}

-- What is told of a certificate of a model. One that is accepted says the truth: its point is best,
-- or no point is feasible.
pub record IsVerdict (m : ModelParts) (certificate : Certificate)
    (ended : Result Output Failure) : Type 0 where
  pub is : ended ≡ Ok (told (verdict_of (fault_of m certificate)))
  pub truth : IsAccepted m certificate → IsTrueCertificate m certificate

-- what checking a certificate finds: a verdict, or no memory, which is free
pub data IsChecked (m : ModelParts) (certificate : Certificate)
    (ended : Result Output Failure) : Type 0 where
  Told : IsVerdict m certificate ended → IsChecked m certificate ended
  Untold : ended ≡ Err Memory → IsChecked m certificate ended

-- The model of the file that is asked for is admitted, and by one more read the certificate of the
-- other file is checked. What says the truth of the admitted model says it of the file's own model.
pub record IsJudged (asked : CheckJob) (old new : ShelfState)
    (ended : Result Output Failure) : Type 0 where
  pub between : ShelfState
  pub mps : MpsModel
  pub m : ModelParts
  pub model : IsModelFile old asked.model mps
  pub read : IsOneRead old between
  pub quiet : HasNoFault old between
  pub admits : Admits mps asked.default_upper m
  pub checked : IsFileJob IsCertificateFile IsCertificateFailure (IsChecked m) between new
      asked.cert ended
  pub of_file : (certificate : Certificate) → IsTrueCertificate m certificate
      → IsTruePointOfFile mps asked.default_upper certificate.point

-- What checking comes to: there is no admitted model of the file that is asked for, and the
-- certificate isn't read; or the certificate is checked.
pub data IsCheckedFile (asked : CheckJob) (old new : ShelfState)
    (ended : Result Output Failure) : Type 0 where
  Unjudged : IsFileJob IsModelFile IsModelFailure (IsUnchecked asked.default_upper) old new
      asked.model ended
      → IsCheckedFile asked old new ended
  Judged : IsJudged asked old new ended → IsCheckedFile asked old new ended
