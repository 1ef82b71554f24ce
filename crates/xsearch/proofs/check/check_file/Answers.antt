use Rattle.xsearch.specs.Checks.{Judged}
use Rattle.xsearch.proofs.Running.{found_is_read}
use Rattle.xsearch.proofs.TrueAnswers.{point_of_file}
use Rattle.xsearch.proofs.check.check_file.Goals as goal

pub returns-in-Ok-admit : goal.returns-in-Ok-admit
returns-in-Ok-admit g c = Judged (record {
  between = _;
  mps = c.in-Ok.mps;
  m = c.in-Ok-admit.model;
  model = c.in-Ok.ensures.cause;
  read = c.in-Ok.ensures.read;
  quiet = c.in-Ok.ensures.quiet (found_is_read c.in-Ok.mps);
  admits = c.in-Ok-admit.ensures;
  checked = c.check_certificate.ensures;
  of_file =
      λ certificate truth. point_of_file _ c.args.job.now.default_upper c.in-Ok-admit.model c.in-Ok.ensures.kept c.in-Ok-admit.ensures certificate.value certificate.point truth.shown;
})
