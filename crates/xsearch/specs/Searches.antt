-- The search that words set: the machine's, with so many slots. Who asks only whether an answer is
-- true needn't read it.
use Rattle.std.specs.Prelude.{◌≡◌, Result, IfOk}
use Rattle.ip_core.specs.declared.model.ModelParts.{ModelParts}
use Rattle.node_pool.specs.declared.settings.SearchSettings.{SearchSettings}
use Rattle.task_steps.specs.Answers.{answer_of}
use Rattle.task_steps.specs.LimitCauses.{IsLimitCause}
use Rattle.task_steps.specs.Truth.{IsTrueAnswer}
use Rattle.tree_build.specs.Certificates.{proof_of}
use Rattle.tree_build.specs.Laws.{IsProofIfMade}
use Rattle.task_steps.specs.Rules.{rules}
use Rattle.task_steps.specs.declared.answer.Answer.{Answer}
use Rattle.task_steps.specs.declared.search.Search.{Search}
use Rattle.stamp_machine.specs.Limits.{AreLimits}
use Rattle.stamp_machine.specs.Machine.{history}
use Rattle.stamp_machine.specs.declared.history.History.{History}
use Rattle.stamp_machine.specs.declared.limits.Limits.{Limits}
use Rattle.xsearch_words.specs.declared.tune.Tune.{Tune}

-- a slot for each task, each with the limit on work and the store that are set
abbrev pub limits_of : Tune → Limits
limits_of tune = record { slots = tune.tasks; work = tune.work; store = tune.store }

-- the switches that are set
abbrev pub settings_of : Tune → SearchSettings
settings_of tune = record { cuts = tune.cuts; heuristics = tune.heuristics }

-- the machine's history of the search
abbrev pub machine_history : ModelParts → Tune → History
machine_history m tune = history (rules m (settings_of tune)) (limits_of tune)

-- its answer: how it ended, and the first found point of least value
abbrev pub machine_answer : ModelParts → Tune → Answer
machine_answer m tune = answer_of m (machine_history m tune).entries

-- An answer of a model is that of the machine's search. The rest is said of it whatever found it: it
-- is true, its certificate has a text and is accepted, and a limit that ended the search was met.
pub record IsSearchAnswer (m : ModelParts) (tune : Tune) (answer : Answer) : Type 0 where
  pub machine : answer ≡ machine_answer m tune
  pub truth : IsTrueAnswer m answer
  pub proof : IsProofIfMade m (proof_of m (machine_history m tune) answer)
  pub limit : IsLimitCause m (settings_of tune) (limits_of tune) answer.status

-- A call that plays the slots of a search may be made within all limits.
pub record CanPlay (pre : Search → Limits → Type 0) : Type 0 where
  pub each : (search : Search) (limits : Limits) → AreLimits limits → pre search limits

-- the search was given back with the machine's history
pub record IsPlayed (search : Search) (limits : Limits) (played : Search × History) : Type 0 where
  pub same : played.0 ≡ search
  pub machine : played.1 ≡ history (rules search.model search.settings) limits

-- It gives the search back with the machine's history, whatever plays the slots.
pub record PlaysMachine {E : Type 0}
    (post : Search → Limits → Result (Search × History) E → Type 0) : Type 0 where
  pub each :
      (search : Search) (limits : Limits) (found : Result (Search × History) E)
      → post search limits found → IfOk found (IsPlayed search limits)
