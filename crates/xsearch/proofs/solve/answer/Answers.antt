use Rattle.std.proofs.Common.{◌∙◌, ap}
use Rattle.ip_core.specs.declared.model.ModelParts.{ModelParts}
use Rattle.stamp_machine.specs.declared.history.History.{History}
use Rattle.task_steps.specs.declared.answer.Answer.{Answer}
use Rattle.xsearch.specs.Answer.{answer_text}
use Rattle.xsearch.specs.Endings.{exit_of}
use Rattle.xsearch.specs.Searches.{machine_history}
use Rattle.xsearch.specs.Writes.{solve_files}
use Rattle.xsearch.proofs.solve.answer.Goals as goal

pub returns : goal.returns
returns g c =
    let ended = c.in_ok-ended.ensures in
    let first = c.model.ensures ∙ ended.model in
    let second = c.model-2.ensures ∙ ended.model in
    let asked = c.args.job.now in
    record {
      searched = ended.true_answer;
      exit = c.exit_status.ensures ∙ ap (λ (a : Answer). exit_of a.status) ended.answer;
      text = c.in_ok-text.ensures
          ∙ ap (λ (m : ModelParts). answer_text m c.in_ok-ended.ended.answer.status c.in_ok-ended.ended.answer.best) first
          ∙ ap (λ (a : Answer). answer_text c.args.model a.status a.best) ended.answer;
      files = c.in_ok-files.ensures
          ∙ ap (λ (m : ModelParts). solve_files m asked c.in_ok-ended.ended.history c.in_ok-ended.ended.answer) second
          ∙ ap (λ (h : History). solve_files c.args.model asked h c.in_ok-ended.ended.answer) ended.history
          ∙ ap (λ (a : Answer). solve_files c.args.model asked (machine_history c.args.model asked.tune) a) ended.answer;
    }
