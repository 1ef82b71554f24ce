use Rattle.std.proofs.Common.{refl}
use Rattle.task_steps.proofs.CutSlots.{gives_is, local_is}
use Rattle.task_steps.proofs.slot.chunk.Goals as goal

pub returns-in_ok-append_rows-in-Cuts-clause-gives :
    goal.returns-in_ok-append_rows-in-Cuts-clause-gives
returns-in_ok-append_rows-in-Cuts-clause-gives g c =
    gives_is c.args.model.now c.args.local.now c.in-Some.task c.in-Cuts.task
    c.as_slice-in-Cuts.result.now c.in_ok-chunk-in-Cuts.chunk c.in-Some.is c.in-Cuts.is
    c.as_slice-in-Cuts.ensures c.in_ok-chunk-in-Cuts.ensures.value
    c.chunk_without_records-in-Cuts.result c.chunk_without_records-in-Cuts.ensures

pub returns-in_ok-append_rows-in-Cuts-clause-local :
    goal.returns-in_ok-append_rows-in-Cuts-clause-local
returns-in_ok-append_rows-in-Cuts-clause-local g c =
    local_is c.args.model.now c.args.local.now c.in-Some.task c.in-Cuts.task
    c.as_slice-in-Cuts.result.now c.in_ok-chunk-in-Cuts.chunk c.in-Some.is c.in-Cuts.is
    c.as_slice-in-Cuts.ensures c.in_ok-chunk-in-Cuts.ensures.value c.append_rows.new.rows
    c.cut_task.result _ c.in_ok-append_rows-in-Cuts.ensures c.cut_task.ensures refl
