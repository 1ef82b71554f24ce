use Rattle.std.proofs.Common.{◌≡◌, ◌≤◌, ◌<◌, ◌+◌, length}
use Rattle.mps_lines.specs.Lines.{lines_of}
use Rattle.mps_read.specs.Readings.{reading}
use Rattle.mps_read.specs.Steps.{run}
use Rattle.mps_read.specs.Drafts.{IsDraft}
use Rattle.mps_read.proofs.reader.read_lines.Given as goal

abbrev pub invariant-loop-line : goal.invariant-loop-line
invariant-loop-line l = record {
  draft : IsDraft l.draft;
  few_rows : l.draft.kept < l.number;
  few_columns : length l.draft.column_names < l.number;
  rest : run l.draft l.number (lines_of l.rest) ≡ reading l.bytes;
  few : l.number + length l.rest ≤ length l.bytes + 1;
}

abbrev pub decreases-loop-line : goal.decreases-loop-line
decreases-loop-line l = length l.rest
