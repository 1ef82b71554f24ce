use Rattle.std.proofs.Common.{◌≡◌, ◌∙◌, sym}
use Rattle.cert_text.specs.Readings.{reading}
use Rattle.cert_text.specs.declared.reader.Reading.TheVariants.{Read, RefusedAt}
use Rattle.cert_text.proofs.RoundTrips.{read_is_text, read_few, print_gives, print_not_refused}
use Rattle.cert_text.proofs.reader.read.Goals as goal

pub returns-in-Read-clause-found : goal.returns-in-Read-clause-found
returns-in-Read-clause-found c =
    let read : reading c.args.bytes.now ≡ Read c.in-Read.certificate = sym c.in_ok-certificate.ensures
    ∙ c.in-Read.is in
    read_is_text c.args.bytes.now c.in-Read.certificate read

pub returns-in-Read-clause-only : goal.returns-in-Read-clause-only
returns-in-Read-clause-only c other is text =
    let read : reading c.args.bytes.now ≡ Read c.in-Read.certificate = sym c.in_ok-certificate.ensures
    ∙ c.in-Read.is in
    print_gives c.args.bytes.now other c.in-Read.certificate read is text

pub returns-in-Read-clause-few : goal.returns-in-Read-clause-few
returns-in-Read-clause-few c =
    let read : reading c.args.bytes.now ≡ Read c.in-Read.certificate = sym c.in_ok-certificate.ensures
    ∙ c.in-Read.is in
    read_few c.args.bytes.now c.in-Read.certificate c.requires (read_is_text c.args.bytes.now
    c.in-Read.certificate read).0

pub returns-in-RefusedAt-clause-only : goal.returns-in-RefusedAt-clause-only
returns-in-RefusedAt-clause-only c other is text =
    let refused : reading c.args.bytes.now ≡ RefusedAt c.in-RefusedAt.line c.in-RefusedAt.kind =
    sym c.in_ok-certificate.ensures ∙ c.in-RefusedAt.is in
    absurd (print_not_refused c.args.bytes.now other c.in-RefusedAt.line c.in-RefusedAt.kind refused
    is text)
