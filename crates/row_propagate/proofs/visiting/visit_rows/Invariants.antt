use Rattle.std.proofs.Common.{◌≡◌, drop}
use Rattle.ip_core.specs.Boxes.{IsWithin}
use Rattle.row_propagate.specs.Lawful.{IsReplayed}
use Rattle.row_propagate.specs.Passes.{after_rows, name_of, open_run}
use Rattle.row_propagate.specs.Quiet.{IsPassing}
use Rattle.row_propagate.proofs.visiting.visit_rows.Given as goal

abbrev pub invariant-loop-index : goal.invariant-loop-index
invariant-loop-index l = record {
  whole : after_rows (name_of l.kind) l.index (drop l.index l.rows) (open_run l.bounds l.steps) ≡ after_rows (name_of l.kind) 0 l.rows (open_run l.initial.bounds l.initial.steps);
  within : IsWithin l.initial.bounds l.bounds;
  passing : IsPassing l.model l.cuts l.bounds l.visits;
  replays : IsReplayed l.model.rows l.cuts l.initial.bounds l.initial.steps l.bounds l.steps;
}
