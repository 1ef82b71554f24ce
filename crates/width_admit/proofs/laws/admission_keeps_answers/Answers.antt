use Rattle.width_admit.proofs.FileAnswers.{admission_keeps_answers}
use Rattle.width_admit.proofs.laws.admission_keeps_answers.Goals as goal

pub returns : goal.returns
returns c = admission_keeps_answers
