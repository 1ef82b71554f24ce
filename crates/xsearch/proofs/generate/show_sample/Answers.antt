use Rattle.std.proofs.Common.{subst}
use Rattle.xsearch.specs.Causes.{IsPrinted}
use Rattle.xsearch.proofs.generate.show_sample.Goals as goal

pub returns-in-Ok : goal.returns-in-Ok
returns-in-Ok c = subst (λ m. IsPrinted m c.show_model.result) c.in-Ok.ensures.value c.show_model.ensures
