use Rattle.std.proofs.Common.{◌≡◌, None, subst, sym}
use Rattle.mps_model.specs.declared.model.MpsModel.{MpsModel}
use Rattle.width_admit.specs.Admission.{refusal}
use Rattle.xsearch.specs.SampleAnswers.{IsSampled}
use Rattle.xsearch.proofs.sample.sample.Goals as goal

pub returns-in-Ok : goal.returns-in-Ok
returns-in-Ok g c =
    subst (λ m. IsSampled c.args.job.now m c.search_sample.result) c.in-Ok.ensures.value c.search_sample.ensures

pub search_sample-requires-clause-admitted : goal.search_sample-requires-clause-admitted
search_sample-requires-clause-admitted g c =
    subst (λ (m : MpsModel). refusal m None ≡ None) (sym c.in-Ok.ensures.value) (c.samples_are_admitted.ensures c.args.job.now.number).1.unrefused
