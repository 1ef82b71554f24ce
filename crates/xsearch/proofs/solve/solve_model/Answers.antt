use Rattle.std.proofs.Common.{refl}
use Rattle.xsearch.specs.Causes.{Solved}
use Rattle.xsearch.proofs.TrueAnswers.{true_of_file}
use Rattle.xsearch.proofs.solve.solve_model.Goals as goal

pub returns-in-Ok-answer : goal.returns-in-Ok-answer
returns-in-Ok-answer g c = Solved (record {
  m = c.in-Ok.model;
  answer = _;
  output = c.in-Ok-answer.output;
  is = refl;
  admits = c.in-Ok.ensures;
  of_model = c.in-Ok-answer.ensures;
  of_file = true_of_file c.args.mps.now c.args.job.now.default_upper c.in-Ok.model c.requires.kept c.in-Ok.ensures _ c.in-Ok-answer.ensures.searched.truth;
})
