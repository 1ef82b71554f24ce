use Rattle.std.proofs.Common.{refl, subst}
use Rattle.xsearch_words.specs.Jobs.{IsJob}
use Rattle.xsearch.proofs.AcceptedFiles.{accepted_if_named}
use Rattle.xsearch.proofs.Running.{weaker}
use Rattle.xsearch.proofs.run.run_job.Goals as goal

pub returns-in-Solve-clause-cause : goal.returns-in-Solve-clause-cause
returns-in-Solve-clause-cause g c = rw c.in-Solve.is c.solve_command.ensures

pub returns-in-Alone-clause-cause : goal.returns-in-Alone-clause-cause
returns-in-Alone-clause-cause g c = rw c.in-Alone.is c.solve_alone.ensures

pub returns-in-Gen-clause-cause : goal.returns-in-Gen-clause-cause
returns-in-Gen-clause-cause g c =
    rw c.in-Gen.is (weaker _ _ _ _ _ (λ ended comes. record { comes = comes; unused = refl }) c.gen_command.ensures)

pub returns-in-Sample-clause-cause : goal.returns-in-Sample-clause-cause
returns-in-Sample-clause-cause g c =
    rw c.in-Sample.is (weaker _ _ _ _ _ (λ ended comes. record { comes = comes; unused = refl }) c.sample_command.ensures)

pub returns-in-Solve-clause-accepted : goal.returns-in-Solve-clause-accepted
returns-in-Solve-clause-accepted g c =
    rw c.in-Solve.is (accepted_if_named _ _ _ _ _ _ (subst IsJob c.in-Solve.is c.requires).apart c.solve_command.ensures)

pub returns-in-Alone-clause-accepted : goal.returns-in-Alone-clause-accepted
returns-in-Alone-clause-accepted g c =
    rw c.in-Alone.is (accepted_if_named _ _ _ _ _ _ (subst IsJob c.in-Alone.is c.requires).apart c.solve_alone.ensures)
