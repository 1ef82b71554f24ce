-- What the calls of the search leave, apart from the history.
use Rattle.std.proofs.Common.{◌≡◌, ℕ, ◌<◌, ◌≤◌, ◌^◌, false, Option, is_none, Some, None, arith}
use Rattle.ip_core.specs.Sides.{IsPaired}
use Rattle.ip_core.specs.Models.{IsModel}
use Rattle.ip_core.specs.declared.model.ModelParts.{ModelParts}
use Rattle.work_stamp.specs.Taskers.{HaveWords}
use Rattle.task_steps.specs.Fits.{FitsLocal, FitsTask}
use Rattle.task_steps.specs.Rules.{chunk_of, fresh_local}
use Rattle.task_steps.specs.declared.local.Local.{Local}
use Rattle.task_steps.specs.declared.local.Task.{Task}
use Rattle.task_steps.specs.Lemmas.ChunkWork.{chunk_counts}
use Rattle.task_steps.specs.Lemmas.TaskChunks.{worker_of}
use Rattle.task_steps.specs.Lemmas.Working.{chunk_good}
use Rattle.task_steps.specs.Lemmas.TaskCuts.{none_derived}
use Rattle.task_steps.specs.declared.local.Task.TheVariants.{Nodes, Cuts, Dive}
use Rattle.task_steps.specs.Lemmas.CutChunks.{cut_chunk_good}
use Rattle.task_steps.specs.Lemmas.DiveChunks.{dive_chunk_good}

-- a fresh local fits
pub fresh_local_fits : (m : ModelParts) (slot : ℕ) → slot < 64 → FitsLocal m (fresh_local slot)
fresh_local_fits m slot few =
    record { slot = few; few = omega arith; cuts = none_derived m; task = tt }

-- what a chunk of a begun task leaves and gives
pub record IsLawfulChunk (m : ModelParts) (l : Local) (o : Option Task) : Type 0 where
  pub fits : FitsLocal m (chunk_of m l o).local
  pub words : HaveWords (chunk_of m l o).gives.entries
  pub some_work : 1 ≤ (chunk_of m l o).gives.work
  pub little_work : (chunk_of m l o).gives.work ≤ 2 ^ 40

pub chunk_lawful : (m : ModelParts) (l : Local) (o : Option Task) → IsModel m → IsPaired m.root
    → FitsLocal m l → FitsTask m o → is_none o ≡ false → IsLawfulChunk m l o
chunk_lawful m l None valid paired fits task_fits start_is = absurd (cc)
chunk_lawful m l (Some (Nodes task)) valid paired fits task_fits start_is =
    let good = chunk_good m l task valid paired fits task_fits in
    let counts = chunk_counts m l.cuts (worker_of l) task valid fits.cuts in
    record { fits = good.fits; words = good.words; some_work = counts.0; little_work = counts.1 }
chunk_lawful m l (Some (Cuts task)) valid paired fits task_fits start_is =
    let good = cut_chunk_good m l task.chunks valid fits task_fits.few in
    record {
      fits = good.fits;
      words = good.words;
      some_work = good.some_work;
      little_work = good.little_work;
    }
chunk_lawful m l (Some (Dive task)) valid paired fits task_fits start_is =
    let good = dive_chunk_good m l task valid paired fits task_fits in
    record {
      fits = good.fits;
      words = good.words;
      some_work = good.some_work;
      little_work = good.little_work;
    }
