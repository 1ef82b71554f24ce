-- Checking files with a certificate that the checker accepts says so.
use Rattle.std.proofs.Common.{◌≡◌, ◌∙◌, ◌<◌, ◌^◌, ℕ, IfSome, List, length, Option, Some, None, Result, Ok, Err, sym, ap, subst}
use Rattle.std.proofs.lemmas.Option.{none-some}
use Rattle.cert_check.specs.Verdicts.{fault_of, verdict_of}
use Rattle.cert_check.specs.Nodes.{Fault}
use Rattle.cert_text.specs.Certificates.{certificate_text}
use Rattle.cert_text.specs.Readings.{IsRefused, Reads}
use Rattle.cert_text.specs.declared.error.CertKind.{CertKind}
use Rattle.cert_text.proofs.RoundTrips.{print_gives}
use Rattle.ip_core.specs.declared.model.ModelParts.{ModelParts}
use Rattle.mps_model.specs.declared.model.MpsModel.{MpsModel}
use Rattle.mps_read.specs.Readings.{Read as ModelRead, RefusedAt as ModelRefusedAt, reading as model_reading}
use Rattle.mps_read.specs.declared.error.MpsKind.{MpsKind}
use Rattle.tree_cert.specs.declared.certificate.Certificate.{Certificate}
use Rattle.width_admit.specs.Admission.{admitted_model, refusal}
use Rattle.xsearch_words.specs.Files.{Files, contents}
use Rattle.xsearch_words.specs.Shelf.{ShelfState}
use Rattle.xsearch_words.specs.declared.job.CheckJob.{CheckJob}
use Rattle.xsearch.specs.AcceptedFiles.{Accepts, AcceptedFilesAreTold, AreAcceptedFiles, IsAcceptance, LongCertificate, LongModel, NoMemory, Unread}
use Rattle.xsearch.specs.CertificateFiles.{IsCertificateFailure, IsCertificateFile}
use Rattle.xsearch.specs.Checks.{IsChecked, IsCheckedFile, IsJudged, IsUnchecked, Judged, Refused, Told, Unjudged, Unread as Unreadable, Untold, told}
use Rattle.xsearch.specs.FileJobs.{IsOfFile, NoContent, OfContent}
use Rattle.xsearch.specs.ModelFiles.{IsModelFailure, IsModelFile}
use Rattle.xsearch.specs.declared.output.Output.{Output}
use Rattle.xsearch.specs.declared.output.Failure.{Failure}
use Rattle.xsearch.specs.declared.output.Failure.TheVariants.{Words, Length, Mps, Model, Cert, ReadFailed, WriteFailed, Memory}

same_model : (a b : MpsModel) → ModelRead a ≡ ModelRead b → a ≡ b
same_model a b same = cc

model_is_not_refused : (a : MpsModel) (line : ℕ) (kind : MpsKind)
    → ModelRead a ≡ ModelRefusedAt line kind → ⊥
model_is_not_refused a line kind same = cc

certificate_is_not_refused : (bytes : List ℕ) (a : Certificate) (line : ℕ) (kind : CertKind)
    → Reads bytes a → IsRefused bytes line kind → ⊥
certificate_is_not_refused bytes a line kind reads refused =
    let same = sym reads.is ∙ refused.is in cc

-- what is told where the first fault is this
abbrev answered : Option Fault → Result Output Failure
answered fault = Ok (told (verdict_of fault))

module _ (asked : CheckJob) (files : Files) (has : AreAcceptedFiles asked files) where
  -- what a shelf with these files holds under a name
  contents_of : (shelf : ShelfState) (name bytes : List ℕ) → shelf.files ≡ Some files
      → IfSome shelf.files (λ fs. bytes ≡ contents fs name) → bytes ≡ contents files name
  contents_of shelf name bytes told is =
      subst (λ (o : Option Files). IfSome o (λ fs. bytes ≡ contents fs name)) told is

  model_of : (old : ShelfState) (mps : MpsModel) → old.files ≡ Some files
      → IsModelFile old asked.model mps → mps ≡ has.mps
  model_of old mps told file =
      let same = contents_of old asked.model file.bytes told file.file.told in
      same_model mps has.mps (sym file.reads.is ∙ ap model_reading same ∙ has.model.is)

  -- ---- the model file gives nothing

  model_failure : (old new : ShelfState) (failure : Failure) (ended : Result Output Failure)
      → old.files ≡ Some files → ended ≡ Err failure
      → IsModelFailure old new asked.model failure → IsAcceptance asked files ended
  model_failure old new Words ended told is cause = absurd cause
  model_failure old new Length ended told is cause =
      LongModel is (subst (λ (o : Option Files). IfSome o
      (λ fs. 2 ^ 24 < length (contents fs asked.model))) told cause.told)
  model_failure old new (Mps line kind) ended told is cause =
      let same = contents_of old asked.model cause.bytes told cause.file.told in
      absurd (model_is_not_refused has.mps line kind
      (sym has.model.is ∙ ap model_reading (sym same) ∙ cause.refused.is))
  model_failure old new (Model reason) ended told is cause = absurd cause
  model_failure old new (Cert line kind) ended told is cause = absurd cause
  model_failure old new ReadFailed ended told is cause = Unread is
  model_failure old new (WriteFailed place) ended told is cause = absurd cause
  model_failure old new Memory ended told is cause = NoMemory is

  unchecked : (mps : MpsModel) (ended : Result Output Failure) → mps ≡ has.mps
      → IsUnchecked asked.default_upper mps ended → IsAcceptance asked files ended
  unchecked mps ended same (Refused refused) =
      absurd (none-some refused.reason (sym has.admits.unrefused
      ∙ ap (λ (p : MpsModel). refusal p asked.default_upper) (sym same) ∙ refused.refused))
  unchecked mps ended same (Unreadable memory) = NoMemory memory

  unjudged : (old new : ShelfState) (ended : Result Output Failure) → old.files ≡ Some files
      → IsOfFile IsModelFile IsModelFailure (IsUnchecked asked.default_upper) old new asked.model
      ended → IsAcceptance asked files ended
  unjudged old new ended told (OfContent content) =
      unchecked content.content ended (model_of old content.content told content.file)
      content.comes
  unjudged old new ended told (NoContent none) =
      model_failure old new none.failure ended told none.is none.cause

  -- ---- the certificate file gives nothing

  certificate_failure : (old new : ShelfState) (failure : Failure)
      (ended : Result Output Failure) → old.files ≡ Some files → ended ≡ Err failure
      → IsCertificateFailure old new asked.cert failure → IsAcceptance asked files ended
  certificate_failure old new Words ended told is cause = absurd cause
  certificate_failure old new Length ended told is cause =
      LongCertificate is (subst (λ (o : Option Files). IfSome o
      (λ fs. 2 ^ 28 < length (contents fs asked.cert))) told cause.told)
  certificate_failure old new (Mps line kind) ended told is cause = absurd cause
  certificate_failure old new (Model reason) ended told is cause = absurd cause
  certificate_failure old new (Cert line kind) ended told is cause =
      let same = contents_of old asked.cert cause.bytes told cause.file.told in
      absurd (certificate_is_not_refused (contents files asked.cert) has.certificate line kind
      has.reads (subst (λ (bytes : List ℕ). IsRefused bytes line kind) same cause.refused))
  certificate_failure old new ReadFailed ended told is cause = Unread is
  certificate_failure old new (WriteFailed place) ended told is cause = absurd cause
  certificate_failure old new Memory ended told is cause = NoMemory is

  -- ---- the certificate is judged

  certificate_of : (old : ShelfState) (certificate : Certificate) → old.files ≡ Some files
      → IsCertificateFile old asked.cert certificate → has.certificate ≡ certificate
  certificate_of old certificate told file =
      print_gives (contents files asked.cert) certificate has.certificate has.reads.is file.kept
      (sym (contents_of old asked.cert (certificate_text certificate) told file.file.told))

  accepted_is_told : (m : ModelParts) (certificate : Certificate)
      (ended : Result Output Failure) → m ≡ has.m → has.certificate ≡ certificate
      → IsChecked m certificate ended → IsAcceptance asked files ended
  accepted_is_told m certificate ended model same (Told verdict) =
      let none : fault_of m certificate ≡ None =
      ap (λ (p : ModelParts). fault_of p certificate) model
      ∙ ap (fault_of has.m) (sym same) ∙ has.accepted.none in
      Accepts (verdict.is ∙ ap answered none)
  accepted_is_told m certificate ended model same (Untold memory) = NoMemory memory

  checked_is_told : (m : ModelParts) (old new : ShelfState) (ended : Result Output Failure)
      → m ≡ has.m → old.files ≡ Some files
      → IsOfFile IsCertificateFile IsCertificateFailure (IsChecked m) old new asked.cert ended
      → IsAcceptance asked files ended
  checked_is_told m old new ended model told (OfContent content) =
      accepted_is_told m content.content ended model
      (certificate_of old content.content told content.file) content.comes
  checked_is_told m old new ended model told (NoContent none) =
      certificate_failure old new none.failure ended told none.is none.cause

  judged_is_told : (old new : ShelfState) (ended : Result Output Failure)
      → old.files ≡ Some files → IsJudged asked old new ended → IsAcceptance asked files ended
  judged_is_told old new ended told judged =
      let same = model_of old judged.mps told judged.model in
      checked_is_told judged.m judged.between new ended
      (judged.admits.whole ∙ ap (λ (p : MpsModel). admitted_model p asked.default_upper) same
      ∙ sym has.admits.whole)
      (judged.read.files ∙ told) judged.checked.of_file

  is_told : (old new : ShelfState) (ended : Result Output Failure) → old.files ≡ Some files
      → IsCheckedFile asked old new ended → IsAcceptance asked files ended
  is_told old new ended told (Unjudged job) = unjudged old new ended told job.of_file
  is_told old new ended told (Judged judged) = judged_is_told old new ended told judged

pub accepted_files_are_told : AcceptedFilesAreTold
accepted_files_are_told asked old new files ended told has checked =
    is_told asked files has old new ended told checked
