use Rattle.sample_model.proofs.AdmittedSamples.{samples_are_admitted as every_sample_is_admitted}
use Rattle.sample_model.proofs.laws.samples_are_admitted.Goals as goal

pub returns : goal.returns
returns c = every_sample_is_admitted
