-- What a chunk of a task that looks for cuts does.
use Rattle.std.specs.Prelude.{ℕ, ◌+◌, ◌*◌, ◌==◌, if◌then◌else◌, List, [], ◌∷◌, ◌++◌, map, Option, Some, None}
use Rattle.ip_core.specs.Models.{term_count}
use Rattle.ip_core.specs.declared.model.ModelParts.{ModelParts}
use Rattle.ip_core.specs.declared.row.Row.{Row}
use Rattle.cut_separate.specs.Laws.{rows_of_cuts}
use Rattle.cut_separate.specs.Separation.{separated_cuts}
use Rattle.cut_separate.specs.declared.new_cut.NewCut.{NewCut}
use Rattle.work_stamp.specs.declared.entry.Entry.{Entry}
use Rattle.work_stamp.specs.declared.entry.Entry.TheVariants.{Cut, Done}
use Rattle.task_steps.specs.Tasks.{ascent_of}
use Rattle.task_steps.specs.declared.cut_chunk.CutChunk.{CutChunk}
use Rattle.task_steps.specs.declared.local.CutTask.{CutTask}
use Rattle.task_steps.specs.declared.local.Task.{Task}
use Rattle.task_steps.specs.declared.local.Task.TheVariants.{Cuts}

-- new cuts as entries
abbrev pub entries_of_cuts : List NewCut → List Entry
entries_of_cuts new = map (λ (cut : NewCut). Cut cut.derivation) new

-- the task goes on where a cut was kept, and ends with its eighth chunk
abbrev pub cuts_after : ℕ → List NewCut → Option CutTask
cuts_after chunks [] = None
cuts_after chunks (cut ∷ more) = if chunks == 8 then None else Some (record { chunks = chunks + 1 })

-- the same as a task of a slot
abbrev pub cut_task : Option CutTask → Option Task
cut_task None = None
cut_task (Some task) = Some (Cuts task)

-- a task that doesn't go on has ended
abbrev pub end_of_cuts : Option CutTask → List Entry
end_of_cuts None = Done ∷ []
end_of_cuts (Some task) = []

-- a chunk that has found these cuts, with the work of its ascent
abbrev pub cutting_chunk : ModelParts → List Row → ℕ → ℕ → List NewCut → CutChunk
cutting_chunk m cuts chunks work new = record {
  entries = entries_of_cuts new ++ end_of_cuts (cuts_after chunks new);
  cuts = rows_of_cuts new;
  work = 1 + work + 16 * (term_count m.rows + term_count cuts);
  task = cuts_after chunks new;
}

-- the cuts that the point and the multipliers of an ascent over the root box give
abbrev pub new_cuts : ModelParts → List Row → List NewCut
new_cuts m cuts =
    separated_cuts m cuts (ascent_of m cuts m.root).point (ascent_of m cuts m.root).mults

-- one chunk of a task that looks for cuts: an ascent over the root box, and then the cuts that its
-- point and its multipliers give
abbrev pub cut_chunk : ModelParts → List Row → ℕ → CutChunk
cut_chunk m cuts chunks =
    cutting_chunk m cuts chunks (ascent_of m cuts m.root).work (new_cuts m cuts)
