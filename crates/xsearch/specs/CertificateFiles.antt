-- What becomes of the certificate file of a name.
use Rattle.std.specs.Prelude.{ℕ, ◌^◌, List}
use Rattle.cert_text.specs.Certificates.{certificate_text, IsCertificate}
use Rattle.cert_text.specs.Readings.{IsRefused}
use Rattle.cert_text.specs.declared.error.CertKind.{CertKind}
use Rattle.tree_cert.specs.declared.certificate.Certificate.{Certificate}
use Rattle.xsearch_words.specs.Shelf.{ShelfState}
use Rattle.xsearch.specs.Shelves.{IsBytesFailure, IsFile}
use Rattle.xsearch.specs.declared.output.Failure.{Failure}
use Rattle.xsearch.specs.declared.output.Failure.TheVariants.{Words, Length, Mps, Model, Cert, ReadFailed, WriteFailed, Memory}

-- the file of this name has the text of this certificate
pub record IsCertificateFile (shelf : ShelfState) (name : List ℕ)
    (certificate : Certificate) : Type 0 where
  pub file : IsFile (2 ^ 28) shelf name (certificate_text certificate)
  pub kept : IsCertificate certificate

-- the file of this name is refused at this line
pub record IsRefusedCertificate (shelf : ShelfState) (name : List ℕ) (line : ℕ)
    (kind : CertKind) : Type 0 where
  pub bytes : List ℕ
  pub file : IsFile (2 ^ 28) shelf name bytes
  pub refused : IsRefused bytes line kind

-- Why there is no certificate in the file of this name: the file is too long, the read failed, a
-- line is refused, or there was no memory, which is free. No other failure comes of it.
abbrev pub IsCertificateFailure : ShelfState → ShelfState → List ℕ → Failure → Type 0
IsCertificateFailure old new name (Cert line kind) = IsRefusedCertificate old name line kind
IsCertificateFailure old new name Words = ⊥
IsCertificateFailure old new name (Mps line kind) = ⊥
IsCertificateFailure old new name (Model reason) = ⊥
IsCertificateFailure old new name (WriteFailed place) = ⊥
IsCertificateFailure old new name Length = IsBytesFailure (2 ^ 28) old new name Length
IsCertificateFailure old new name ReadFailed = IsBytesFailure (2 ^ 28) old new name ReadFailed
IsCertificateFailure old new name Memory = IsBytesFailure (2 ^ 28) old new name Memory
