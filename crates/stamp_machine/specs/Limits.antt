use Rattle.std.specs.Prelude.{◌*◌, ◌≤◌, ◌^◌}
use Rattle.stamp_machine.specs.declared.limits.Limits.{Limits}

-- the ranges of the limits
pub record AreLimits (limits : Limits) : Type 0 where
  pub some_slots : 1 ≤ limits.slots
  pub few_slots : limits.slots ≤ 64
  pub little_work : limits.work ≤ 10 ^ 12
  pub some_store : 64 ≤ limits.store
  pub small_store : limits.slots * limits.store ≤ 2 ^ 22
