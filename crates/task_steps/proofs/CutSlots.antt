-- What a slot that looks for cuts leaves after a chunk.
use Rattle.std.proofs.Common.{◌≡◌, ◌∙◌, List, [], ◌++◌, Option, Some, sym, ap, ap₂, subst}
use Rattle.ip_core.specs.declared.model.ModelParts.{ModelParts}
use Rattle.ip_core.specs.declared.row.Row.{Row}
use Rattle.work_stamp.specs.declared.task.Chunk.{Chunk}
use Rattle.task_steps.specs.CutTasks.{cut_chunk, cut_task}
use Rattle.task_steps.specs.Rules.{chunk_of}
use Rattle.task_steps.specs.declared.cut_chunk.CutChunk.{CutChunk}
use Rattle.task_steps.specs.declared.local.CutTask.{CutTask}
use Rattle.task_steps.specs.declared.local.Local.{Local}
use Rattle.task_steps.specs.declared.local.Task.{Task}
use Rattle.task_steps.specs.declared.local.Task.TheVariants.{Cuts}

module _ (m : ModelParts) (l : Local) (task : Task) (own : CutTask) (cuts : List Row)
    (chunk : CutChunk) (works : l.task ≡ Some task) (kind : task ≡ Cuts own) (seen : cuts ≡ l.cuts)
    (value : chunk ≡ cut_chunk m cuts own.chunks) where
  on_cuts : Some (Cuts own) ≡ l.task
  on_cuts = sym (works ∙ ap (λ (t : Task). Some t) kind)

  same : chunk ≡ cut_chunk m l.cuts own.chunks
  same = value ∙ ap (λ (cs : List Row). cut_chunk m cs own.chunks) seen

  pub gives_is : (gives : Chunk)
      → gives ≡ record { entries = chunk.entries; records = []; work = chunk.work }
      → gives ≡ (chunk_of m l l.task).gives
  gives_is gives is =
      subst (λ (o : Option Task). gives ≡ (chunk_of m l o).gives) on_cuts
      (is ∙ ap (λ (ch : CutChunk). record { entries = ch.entries; records = []; work = ch.work }) same)

  pub local_is : (rows : List Row) (next : Option Task) (after : Local)
      → rows ≡ l.cuts ++ chunk.cuts → next ≡ cut_task chunk.task
      → after ≡ record l { cuts = rows; task = next } → after ≡ (chunk_of m l l.task).local
  local_is rows next after more goes is =
      subst (λ (o : Option Task). after ≡ (chunk_of m l o).local) on_cuts
      (is ∙ ap₂ (λ (cs : List Row) (o : Option Task). record l { cuts = cs; task = o }) more goes
      ∙ ap (λ (ch : CutChunk). record l {
        cuts = l.cuts ++ ch.cuts;
        task = cut_task ch.task;
      }) same)
