-- Printing and reading are inverse to each other.
use Rattle.std.specs.Prelude.{ℕ, ◌≡◌, List}
use Rattle.cert_text.specs.Certificates.{certificate_text, IsCertificate}
use Rattle.cert_text.specs.Readings.{Reads}
use Rattle.tree_cert.specs.declared.certificate.Certificate.{Certificate}

-- the text of a certificate is read as this certificate
abbrev pub TextIsRead : Type 0
TextIsRead = (c : Certificate) → IsCertificate c → Reads (certificate_text c) c

-- what a text is read as is a certificate whose text it is
abbrev pub ReadIsItsText : Type 0
ReadIsItsText = (bytes : List ℕ) (c : Certificate) → Reads bytes c
    → (bytes ≡ certificate_text c) × IsCertificate c
