-- What entries a chunk of a dive gives: it finds at most one point, and then ends or goes on.
use Rattle.std.proofs.Common.{Bool, true, false, cond, List, [], ◌∷◌, ◌++◌, ℤ, int_lt, Option, Some, None}
use Rattle.ip_core.specs.Truth.{value_at}
use Rattle.ip_core.specs.declared.model.ModelParts.{ModelParts}
use Rattle.ip_core.specs.declared.row.Row.{Row}
use Rattle.row_propagate.specs.Passes.{Propagation, propagation_of}
use Rattle.row_propagate.specs.declared.outcome.Outcome.{Outcome as Ended}
use Rattle.row_propagate.specs.declared.outcome.Outcome.TheVariants as ended
use Rattle.round_dive.specs.Dives.{Dive as Step, dive_of}
use Rattle.round_dive.specs.Rounds.{feasible_point}
use Rattle.round_dive.specs.declared.dive.DiveEnd.{DiveEnd}
use Rattle.round_dive.specs.declared.dive.DiveEnd.TheVariants as step
use Rattle.work_stamp.specs.declared.entry.Entry.{Entry}
use Rattle.work_stamp.specs.declared.entry.Entry.TheVariants.{Found, Done}
use Rattle.task_steps.specs.DiveTasks.{dive_after_passes, dive_after_step, dive_chunk, dive_chunk_by, point_trial}
use Rattle.task_steps.specs.Tasks.{ascent_of}
use Rattle.task_steps.specs.declared.dive_chunk.PointTrial.{PointTrial}
use Rattle.task_steps.specs.declared.local.DiveTask.{DiveTask}

-- at most one point is found
pub data IsTrial : List Entry → Type 0 where
  NoPoint : IsTrial []
  OnePoint : (value : ℤ) (x : List ℤ) → IsTrial (Found value x ∷ [])

-- the dive goes on after that, or has ended
pub data AreOfDive : List Entry → Type 0 where
  GoesOn : (found : List Entry) → IsTrial found → AreOfDive found
  Ends : (found : List Entry) → IsTrial found → AreOfDive (found ++ Done ∷ [])

below_cases : (m : ModelParts) (cutoff : ℤ) (x : List ℤ) (below : Bool)
    → IsTrial (cond {A = PointTrial} below
    (record { entries = Found (value_at m x) x ∷ []; cutoff = value_at m x })
    (record { entries = []; cutoff = cutoff })).entries
below_cases m cutoff x true = OnePoint (value_at m x) x
below_cases m cutoff x false = NoPoint

is_trial : (m : ModelParts) (cutoff : ℤ) (o : Option (List ℤ))
    → IsTrial (point_trial m cutoff o).entries
is_trial m cutoff None = NoPoint
is_trial m cutoff (Some x) = below_cases m cutoff x (int_lt (value_at m x) cutoff)

passes_give : (m : ModelParts) (cuts : List Row) (task : DiveTask) (p : Propagation) (o : Ended)
    → AreOfDive (dive_after_passes m cuts task p o).entries
passes_give m cuts task p ended.Open =
    let found = feasible_point m (ascent_of m cuts p.sides).point in
    GoesOn (point_trial m task.cutoff found).entries (is_trial m task.cutoff found)
passes_give m cuts task p (ended.Conflict row) = Ends [] NoPoint
passes_give m cuts task p (ended.Empty col) = Ends [] NoPoint

step_gives : (m : ModelParts) (cutoff : ℤ) (x : List ℤ) (dive : Step) (end : DiveEnd)
    → AreOfDive (dive_after_step m cutoff x dive end).entries
step_gives m cutoff x dive step.On = GoesOn [] NoPoint
step_gives m cutoff x dive (step.Found y) =
    Ends (point_trial m cutoff (Some y)).entries (is_trial m cutoff (Some y))
step_gives m cutoff x dive step.Stuck = Ends [] NoPoint

chunk_gives : (m : ModelParts) (cuts : List Row) (task : DiveTask) (o : Option (List ℤ))
    → AreOfDive (dive_chunk_by m cuts task o).entries
chunk_gives m cuts task None =
    let p = propagation_of m.rows cuts task.bounds in passes_give m cuts task p p.run.outcome
chunk_gives m cuts task (Some x) =
    let dive = dive_of m cuts task.bounds x in step_gives m task.cutoff x dive dive.run.end

pub dive_gives : (m : ModelParts) (cuts : List Row) (task : DiveTask)
    → AreOfDive (dive_chunk m cuts task).entries
dive_gives m cuts task = chunk_gives m cuts task task.point
