-- What an error tells of the reason why a text has no certificate.
use Rattle.std.specs.Prelude.{ℕ, ◌≡◌, List, Result, Ok, Err, ⊤}
use Rattle.cert_text.specs.Readings.{IsRefused}
use Rattle.cert_text.specs.declared.error.CertError.{CertError}
use Rattle.cert_text.specs.declared.error.CertError.TheVariants.{Refused, Memory}
use Rattle.cert_text.specs.declared.error.CertKind.{CertKind}
use Rattle.cert_text.specs.declared.error.CertKind.TheVariants.{Form, Number, Order, Short, Trailing}
use Rattle.tree_cert.specs.declared.certificate.Certificate.{Certificate}

-- the number of a kind, by which refusals are printed
abbrev pub kind_number : CertKind → ℕ
kind_number Form = 1
kind_number Number = 2
kind_number Order = 3
kind_number Short = 4
kind_number Trailing = 5

-- what an error tells of the reason is true; want of memory tells of none and has no clause
abbrev pub IsCause : List ℕ → CertError → Type 0
IsCause bytes (Refused line kind) = IsRefused bytes line kind
IsCause bytes Memory = ⊤

-- the certificate is given, unless memory runs out
abbrev pub Gives : Result Certificate CertError → Certificate → Type 0
Gives (Ok found) c = found ≡ c
Gives (Err error) c = error ≡ Memory
