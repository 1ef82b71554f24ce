-- How what was found becomes the end of a run.
use Rattle.std.proofs.Common.{◌≡◌, ◌^◌, ℕ, List, Result, Ok, Err, refl, sym, ap, subst}
use Rattle.mps_model.specs.declared.model.MpsModel.{MpsModel}
use Rattle.tree_cert.specs.declared.certificate.Certificate.{Certificate}
use Rattle.xsearch.specs.CertificateFiles.{IsCertificateFailure, IsCertificateFile}
use Rattle.xsearch.specs.FileJobs.{IsFileJob, NoContent, OfContent}
use Rattle.xsearch.specs.ModelFiles.{IsModelFailure, IsModelFile}
use Rattle.xsearch.specs.Runs.{Ends}
use Rattle.xsearch.specs.Shelves.{IsBytesFailure, IsOneRead}
use Rattle.xsearch.specs.Writes.{IsWritten, AllWritten, OneFailed, OneUnwritten, write_failure}
use Rattle.xsearch_words.proofs.OutputWrites.{none_written}
use Rattle.xsearch_words.specs.Outputs.{AreLeftBy}
use Rattle.xsearch_words.specs.Shelf.{HasNoFault, ShelfState}
use Rattle.xsearch_words.specs.Sink.{SinkState}
use Rattle.xsearch_words.specs.declared.error.OutputError.{OutputError}
use Rattle.xsearch_words.specs.declared.error.OutputError.TheVariants.{Failed}
use Rattle.xsearch_words.specs.declared.error.OutputError.TheVariants as unwritten
use Rattle.xsearch_words.specs.declared.output.OutputFile.{OutputFile}
use Rattle.xsearch.specs.declared.output.Output.{Output}
use Rattle.xsearch.specs.declared.output.Failure.{Failure}
use Rattle.xsearch.specs.declared.output.Failure.TheVariants.{Words, Length, Mps, Model, Cert, ReadFailed, WriteFailed, Memory}

abbrev failed : (A : Type 0) → Failure → Result A Failure
failed A failure = Err failure

abbrev found : {A : Type 0} → A → Result A Failure
found a = Ok a

-- what was found is no failed read
pub found_is_read : {A : Type 0} (a : A) → found a ≡ failed A ReadFailed → ⊥
found_is_read a e = cc

same_failure : (A : Type 0) (f g : Failure) → failed A f ≡ failed A g → f ≡ g
same_failure A f g e = cc

-- a failure that is no failed read is none whatever was looked for
other_failure : (A B : Type 0) (f : Failure) → (failed A f ≡ failed A ReadFailed → ⊥) → failed B f ≡ failed B ReadFailed → ⊥
other_failure A B f other e = other (ap (failed A) (same_failure B f ReadFailed e))

module _ {C : Type 0} (IsReadAs : ShelfState → List ℕ → C → Type 0)
    (IsFailure : ShelfState → ShelfState → List ℕ → Failure → Type 0) where
  -- what is found of what a file is read as
  pub of_content : (next : C → Result Output Failure → Type 0) (old new : ShelfState) (name : List ℕ) (content : C)
      (result : Result Output Failure) → IsReadAs old name content → IsOneRead old new
      → ((found content ≡ failed C ReadFailed → ⊥) → HasNoFault old new) → next content result
      → IsFileJob IsReadAs IsFailure next old new name result
  of_content next old new name content result file read quiet comes = record {
    read = read;
    of_file = OfContent (record { content = content; file = file; comes = comes });
    quiet = λ other. quiet (found_is_read content);
  }

  -- what is found where a file gives nothing
  pub of_no_content : (next : C → Result Output Failure → Type 0) (old new : ShelfState) (name : List ℕ) (failure : Failure)
      → IsFailure old new name failure → IsOneRead old new
      → ((failed C failure ≡ failed C ReadFailed → ⊥) → HasNoFault old new)
      → IsFileJob IsReadAs IsFailure next old new name (Err failure)
  of_no_content next old new name failure cause read quiet = record {
    read = read;
    of_file = NoContent (record { failure = failure; is = refl; cause = cause });
    quiet = λ other. quiet (other_failure Output C failure other);
  }

-- what is found of a model that a file reads as
pub of_model : (next : MpsModel → Result Output Failure → Type 0) (old new : ShelfState) (name : List ℕ) (content : MpsModel)
    (result : Result Output Failure) → IsModelFile old name content → IsOneRead old new
    → ((found content ≡ failed MpsModel ReadFailed → ⊥) → HasNoFault old new) → next content result → IsFileJob IsModelFile IsModelFailure next old new name result
of_model = of_content IsModelFile IsModelFailure

-- and where there is none
pub of_no_model : (next : MpsModel → Result Output Failure → Type 0) (old new : ShelfState) (name : List ℕ) (failure : Failure)
    → IsModelFailure old new name failure → IsOneRead old new
    → ((failed MpsModel failure ≡ failed MpsModel ReadFailed → ⊥) → HasNoFault old new) → IsFileJob IsModelFile IsModelFailure next old new name (Err failure)
of_no_model = of_no_content IsModelFile IsModelFailure

-- what is found of a certificate that a file reads as
pub of_certificate : (next : Certificate → Result Output Failure → Type 0) (old new : ShelfState) (name : List ℕ) (content : Certificate)
    (result : Result Output Failure) → IsCertificateFile old name content → IsOneRead old new
    → ((found content ≡ failed Certificate ReadFailed → ⊥) → HasNoFault old new) → next content result → IsFileJob IsCertificateFile IsCertificateFailure next old new name result
of_certificate = of_content IsCertificateFile IsCertificateFailure

-- and where there is none
pub of_no_certificate : (next : Certificate → Result Output Failure → Type 0) (old new : ShelfState) (name : List ℕ) (failure : Failure)
    → IsCertificateFailure old new name failure → IsOneRead old new
    → ((failed Certificate failure ≡ failed Certificate ReadFailed → ⊥) → HasNoFault old new) → IsFileJob IsCertificateFile IsCertificateFailure next old new name (Err failure)
of_no_certificate = of_no_content IsCertificateFile IsCertificateFailure

-- a file without bytes gives no model
pub no_bytes_no_model : (old new : ShelfState) (name : List ℕ) (failure : Failure)
    → IsBytesFailure (2 ^ 24) old new name failure → IsModelFailure old new name failure
no_bytes_no_model old new name Words cause = cause
no_bytes_no_model old new name Length cause = cause
no_bytes_no_model old new name (Mps line kind) cause = absurd cause
no_bytes_no_model old new name (Model reason) cause = cause
no_bytes_no_model old new name (Cert line kind) cause = cause
no_bytes_no_model old new name ReadFailed cause = cause
no_bytes_no_model old new name (WriteFailed place) cause = cause
no_bytes_no_model old new name Memory cause = cause

-- and no certificate
pub no_bytes_no_certificate : (old new : ShelfState) (name : List ℕ) (failure : Failure)
    → IsBytesFailure (2 ^ 28) old new name failure → IsCertificateFailure old new name failure
no_bytes_no_certificate old new name Words cause = cause
no_bytes_no_certificate old new name Length cause = cause
no_bytes_no_certificate old new name (Mps line kind) cause = cause
no_bytes_no_certificate old new name (Model reason) cause = cause
no_bytes_no_certificate old new name (Cert line kind) cause = absurd cause
no_bytes_no_certificate old new name ReadFailed cause = cause
no_bytes_no_certificate old new name (WriteFailed place) cause = cause
no_bytes_no_certificate old new name Memory cause = cause

-- a failure has no files
pub nothing_to_write : (failure : Failure) (state : ShelfState) → IsWritten (Err failure) state state (Err failure)
nothing_to_write failure state = AllWritten refl (none_written state)

abbrev error_of : (A : Type 0) → OutputError → Result A OutputError
error_of A error = Err error

by_error : (A : Type 0) (output : Output) (error : OutputError) (old new : ShelfState)
    → AreLeftBy (error_of A error) output.files old new
    → IsWritten (Ok output) old new (Err (write_failure error))
by_error A output (Failed place) old new left = OneFailed place refl left
by_error A output unwritten.Memory old new left = OneUnwritten refl left

-- writes that ended with an error end what was to be put
pub not_written : {A : Type 0} (output : Output) (files : List OutputFile) (left : Result A OutputError)
    (error : OutputError) (failure : Failure) (old new : ShelfState) → AreLeftBy left files old new
    → files ≡ output.files → left ≡ Err error → failure ≡ write_failure error
    → IsWritten (Ok output) old new (Err failure)
not_written {A} output files left error failure old new by same is fails =
    let ended : AreLeftBy (error_of A error) output.files old new =
    subst (λ (fs : List OutputFile). AreLeftBy (error_of A error) fs old new) same
    (subst (λ (l : Result A OutputError). AreLeftBy l files old new) is by) in
    subst (λ (f : Failure). IsWritten (Ok output) old new (Err f)) (sym fails)
    (by_error A output error old new ended)

-- a run that ends with what it came to has its cause
pub with_cause : (P : Result Output Failure → Type 0) (ended : Result Output Failure) (old new : SinkState) (code : ℕ) → P ended → Ends (λ e. e ≡ ended) old new code → Ends P old new code
with_cause P ended old new code cause ends = record {
  ended = ends.ended;
  status = ends.status;
  cause = subst P (sym ends.cause) cause;
  ending = ends.ending;
  exit = ends.exit;
}

-- what has a cause has each cause that follows from it
pub weaker : (P Q : Result Output Failure → Type 0) (old new : SinkState) (code : ℕ) → ((ended : Result Output Failure) → P ended → Q ended) → Ends P old new code → Ends Q old new code
weaker P Q old new code follows ends = record {
  ended = ends.ended;
  status = ends.status;
  cause = follows ends.ended ends.cause;
  ending = ends.ending;
  exit = ends.exit;
}
