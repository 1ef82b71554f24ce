-- Histories of searches.
use Rattle.std.specs.Prelude.{List}
use Rattle.ip_core.specs.declared.model.ModelParts.{ModelParts}
use Rattle.work_stamp.specs.declared.stamped.KeyedEntry.{KeyedEntry}
use Rattle.task_steps.specs.Truth.{IsHistory}

-- the entries are a history of some model's search
pub record IsSearchHistory (entries : List KeyedEntry) : Type 0 where
  pub model : ModelParts
  pub read : IsHistory model entries
