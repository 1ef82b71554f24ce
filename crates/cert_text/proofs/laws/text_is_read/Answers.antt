use Rattle.cert_text.proofs.RoundTrips.{print_is_read}
use Rattle.cert_text.proofs.laws.text_is_read.Goals as goal

pub returns : goal.returns
returns c other valid = record { is = print_is_read other valid }
