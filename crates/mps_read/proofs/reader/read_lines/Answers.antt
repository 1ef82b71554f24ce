use Rattle.std.proofs.Common.{◌∙◌, sym, subst, arith}
use Rattle.mps_lines.specs.Forms.{form_of}
use Rattle.mps_read.specs.Drafts.{IsDraft}
use Rattle.mps_read.proofs.Bridge.{begins}
use Rattle.mps_read.proofs.DraftSteps.{after_kept, after_few, first_kept}
use Rattle.mps_read.proofs.Runs.{run_taken}
use Rattle.mps_read.proofs.reader.read_lines.Goals as goal

pub loop-line-init : goal.loop-line-init
loop-line-init c = record {
  draft = first_kept c.new-draft.result c.new-draft.ensures;
  few_rows = rw c.new-draft.ensures (omega arith);
  few_columns = rw c.new-draft.ensures (omega arith);
  rest = begins c.new-draft.result c.args.bytes.now c.new-draft.ensures;
  few = omega arith;
}

pub loop-line-preserved : goal.loop-line-preserved
loop-line-preserved c =
    let d = c.loop-line.draft in
    let form = form_of d.section d.has_sense_line c.in-Some.line.now in
    let judged = rw c.in-Taken.is at c.in_ok-kind.ensures in
    record {
      draft = subst IsDraft (sym judged.2) (after_kept d form c.loop-line.invariant.draft judged.0);
      few_rows = rw judged.2 (omega (arith, (after_few d form).0, c.loop-line.invariant.few_rows));
      few_columns = rw judged.2 (omega (arith, (after_few d form).1, c.loop-line.invariant.few_columns));
      rest =
          run_taken d c.take_line.new.draft c.loop-line.number c.loop-line.rest.now c.in-Some.line.now c.in-Some.after.now c.in-Some.ensures.0 judged
          ∙ c.loop-line.invariant.rest;
      few = omega (arith, c.in-Some.ensures.1, c.loop-line.invariant.few);
    }
