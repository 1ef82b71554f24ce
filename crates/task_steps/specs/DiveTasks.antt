-- What a chunk of a dive does.
use Rattle.std.specs.Prelude.{ℕ, ◌+◌, if◌then◌else◌, List, [], ◌∷◌, ◌++◌, Option, Some, None, ℤ, int_lt}
use Rattle.ip_core.specs.Truth.{value_at}
use Rattle.ip_core.specs.declared.model.ModelParts.{ModelParts}
use Rattle.ip_core.specs.declared.row.Row.{Row}
use Rattle.row_propagate.specs.Passes.{propagation_of, Propagation}
use Rattle.row_propagate.specs.declared.outcome.Outcome.{Outcome as Ended}
use Rattle.row_propagate.specs.declared.outcome.Outcome.TheVariants as ended
use Rattle.dual_ascent.specs.declared.ascent.Ascent.{Ascent}
use Rattle.round_dive.specs.Dives.{Dive as Step, dive_of}
use Rattle.round_dive.specs.Rounds.{feasible_point}
use Rattle.round_dive.specs.declared.dive.DiveEnd.{DiveEnd}
use Rattle.round_dive.specs.declared.dive.DiveEnd.TheVariants as step
use Rattle.work_stamp.specs.declared.entry.Entry.{Entry}
use Rattle.work_stamp.specs.declared.entry.Entry.TheVariants.{Found, Done}
use Rattle.task_steps.specs.Tasks.{ascent_of}
use Rattle.task_steps.specs.declared.dive_chunk.DiveChunk.{DiveChunk}
use Rattle.task_steps.specs.declared.dive_chunk.PointTrial.{PointTrial}
use Rattle.task_steps.specs.declared.local.DiveTask.{DiveTask}
use Rattle.task_steps.specs.declared.local.Task.{Task}
use Rattle.task_steps.specs.declared.local.Task.TheVariants.{Dive}

-- a feasible point, if there is one, is found where its value is below the cutoff, and lowers it
abbrev pub point_trial : ModelParts → ℤ → Option (List ℤ) → PointTrial
point_trial m cutoff None = record { entries = []; cutoff = cutoff }
point_trial m cutoff (Some x) =
    if int_lt (value_at m x) cutoff
    then record { entries = Found (value_at m x) x ∷ []; cutoff = value_at m x }
    else record { entries = []; cutoff = cutoff }

-- the last chunk of a dive, with the entries of what it found
abbrev pub last_dive_chunk : List Entry → ℕ → DiveChunk
last_dive_chunk found work = record { entries = found ++ Done ∷ []; work = work; task = None }

-- the first chunk after its ascent: the dive goes on towards the ascent's point, in the box that
-- the passes left
abbrev pub dive_after_ascent : ModelParts → DiveTask → Propagation → Ascent → DiveChunk
dive_after_ascent m task p a =
    let trial = point_trial m task.cutoff (feasible_point m a.point) in
    record {
      entries = trial.entries;
      work = 1 + p.run.work + a.work;
      task = Some (record { bounds = p.sides; cutoff = trial.cutoff; point = Some a.point });
    }

-- the first chunk after its passes: where they closed the box, the dive ends without an ascent
abbrev pub dive_after_passes : ModelParts → List Row → DiveTask → Propagation → Ended → DiveChunk
dive_after_passes m cuts task p ended.Open =
    dive_after_ascent m task p (ascent_of m cuts p.sides)
dive_after_passes m cuts task p (ended.Conflict row) = last_dive_chunk [] (1 + p.run.work)
dive_after_passes m cuts task p (ended.Empty col) = last_dive_chunk [] (1 + p.run.work)

abbrev pub first_dive_chunk : ModelParts → List Row → DiveTask → DiveChunk
first_dive_chunk m cuts task =
    let p = propagation_of m.rows cuts task.bounds in
    dive_after_passes m cuts task p p.run.outcome

-- a later chunk by the end of its step towards a point: the dive ends where the step is stuck or
-- finds the point of its box
abbrev pub dive_after_step : ModelParts → ℤ → List ℤ → Step → DiveEnd → DiveChunk
dive_after_step m cutoff x dive step.On =
    record {
      entries = [];
      work = 1 + dive.run.work;
      task = Some (record { bounds = dive.sides; cutoff = cutoff; point = Some x });
    }
dive_after_step m cutoff x dive (step.Found y) =
    last_dive_chunk (point_trial m cutoff (Some y)).entries (1 + dive.run.work)
dive_after_step m cutoff x dive step.Stuck = last_dive_chunk [] (1 + dive.run.work)

-- a later chunk is one step towards the point
abbrev pub next_dive_chunk : ModelParts → List Row → DiveTask → List ℤ → DiveChunk
next_dive_chunk m cuts task x =
    let dive = dive_of m cuts task.bounds x in
    dive_after_step m task.cutoff x dive dive.run.end

-- the first chunk of a dive has no point yet
abbrev pub dive_chunk_by : ModelParts → List Row → DiveTask → Option (List ℤ) → DiveChunk
dive_chunk_by m cuts task None = first_dive_chunk m cuts task
dive_chunk_by m cuts task (Some x) = next_dive_chunk m cuts task x

-- one chunk of a dive, over the model's rows and cuts
abbrev pub dive_chunk : ModelParts → List Row → DiveTask → DiveChunk
dive_chunk m cuts task = dive_chunk_by m cuts task task.point

-- how a dive goes on, as a task of a slot
abbrev pub dive_task : Option DiveTask → Option Task
dive_task None = None
dive_task (Some task) = Some (Dive task)
