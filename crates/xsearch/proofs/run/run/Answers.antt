use Rattle.xsearch.specs.Causes.{Asked}
use Rattle.xsearch.proofs.AcceptedFiles.{accepted_if_asked}
use Rattle.xsearch.proofs.Running.{weaker}
use Rattle.xsearch.proofs.run.run.Goals as goal

pub returns-in-Ok-clause-cause : goal.returns-in-Ok-clause-cause
returns-in-Ok-clause-cause g c =
    weaker _ _ _ _ _ (λ ended cause. Asked (record { asked = c.in-Ok.job; is = c.in-Ok.ensures.answer; cause = cause })) c.run_job.ensures.cause

pub returns-in-Ok-clause-accepted : goal.returns-in-Ok-clause-accepted
returns-in-Ok-clause-accepted g c =
    accepted_if_asked _ c.in-Ok.job _ _ _ c.in-Ok.ensures.answer c.run_job.ensures.accepted
