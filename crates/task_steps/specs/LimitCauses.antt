-- Why a limit ended a search.
use Rattle.ip_core.specs.declared.model.ModelParts.{ModelParts}
use Rattle.stamp_machine.specs.Endings.{HasFullSlot, IsAllSpent}
use Rattle.stamp_machine.specs.Machine.{history}
use Rattle.stamp_machine.specs.declared.limits.Limits.{Limits}
use Rattle.node_pool.specs.declared.settings.SearchSettings.{SearchSettings}
use Rattle.task_steps.specs.Answers.{status_of}
use Rattle.task_steps.specs.Rules.{rules}
use Rattle.task_steps.specs.declared.answer.Status.{Status}
use Rattle.task_steps.specs.declared.answer.Status.TheVariants.{Optimal, Infeasible, StoreLimit, WorkLimit}

-- A status of a limit has its cause in the slots: at StoreLimit a Halt stands and the store of its
-- slot was full, at WorkLimit every slot's clock came to the limit on work.
abbrev pub IsLimitCause : ModelParts → SearchSettings → Limits → Status → Type 0
IsLimitCause m settings limits Optimal = Unit {0}
IsLimitCause m settings limits Infeasible = Unit {0}
IsLimitCause m settings limits StoreLimit = HasFullSlot (rules m settings) limits
IsLimitCause m settings limits WorkLimit = IsAllSpent (rules m settings) limits

-- the status of the machine's history has its cause
pub record HasLimitCause (m : ModelParts) (settings : SearchSettings) (limits : Limits) : Type 0
  where
    pub cause : IsLimitCause m settings limits
        (status_of m (history (rules m settings) limits).entries)
