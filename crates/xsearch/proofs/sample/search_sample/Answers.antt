use Rattle.std.proofs.Common.{None, refl}
use Rattle.xsearch.specs.SampleAnswers.{Sampled}
use Rattle.xsearch.proofs.TrueAnswers.{true_of_file}
use Rattle.xsearch.proofs.sample.search_sample.Goals as goal

pub returns-in-Ok-summary : goal.returns-in-Ok-summary
returns-in-Ok-summary g c = Sampled (record {
  m = c.in-Ok.model;
  answer = _;
  output = c.in-Ok-summary.output;
  is = refl;
  admits = c.in-Ok.ensures;
  of_model = c.in-Ok-summary.ensures;
  of_sample = true_of_file c.args.mps.now None c.in-Ok.model c.requires.kept c.in-Ok.ensures _ c.in-Ok-summary.ensures.searched.truth;
})
