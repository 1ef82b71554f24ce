use Rattle.std.proofs.Common.{sym}
use Rattle.xsearch.proofs.report.put_certificate_refusal.Goals as goal

pub returns-in-Ok : goal.returns-in-Ok
returns-in-Ok g c = rw (sym c.in-Ok.ensures, sym c.as_slice.ensures) c.put.ensures
