-- The line that sums up the search of a sample model.
use Rattle.std.specs.Prelude.{ℕ, List, ◌++◌, codes, Option, Some, None}
use Rattle.std.specs.Fmt.{decimal}
use Rattle.ip_core.specs.declared.model.ModelParts.{ModelParts}
use Rattle.task_steps.specs.declared.answer.Answer.{Answer}
use Rattle.task_steps.specs.declared.answer.Best.{Best}
use Rattle.xsearch.specs.Answer.{objective_text, status_word}

-- the objective of a point, or that there is none
abbrev pub best_text : ModelParts → Option Best → List ℕ
best_text m None = codes "none"
best_text m (Some best) = objective_text m best.value

-- the line of the sample model of a number, by the model that it is admitted as, the answer and the
-- number of entries of the history
abbrev pub summary_text : ℕ → ModelParts → Answer → ℕ → List ℕ
summary_text number m answer entries = codes "sample " ++ decimal number ++ codes " status "
    ++ status_word answer.status ++ codes " objective " ++ best_text m answer.best
    ++ codes " entries " ++ decimal entries ++ codes "\n"
