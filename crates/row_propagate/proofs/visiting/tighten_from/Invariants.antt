use Rattle.std.proofs.Common.{◌≡◌, ◌≤◌, ◌-◌, drop, length}
use Rattle.ip_core.specs.Boxes.{IsWithin}
use Rattle.row_propagate.specs.Lawful.{IsReplayed}
use Rattle.row_propagate.specs.Passes.{after_columns, open_run}
use Rattle.row_propagate.specs.Quiet.{IsPassing}
use Rattle.row_propagate.proofs.visiting.tighten_from.Given as goal

abbrev pub invariant-loop-at : goal.invariant-loop-at
invariant-loop-at l = record {
  whole : after_columns l.name l.row (drop l.at l.row.terms) (open_run l.bounds l.steps) ≡ after_columns l.name l.row (drop l.first l.row.terms) (open_run l.initial.bounds l.initial.steps);
  within : IsWithin l.initial.bounds l.bounds;
  passing : IsPassing l.model l.cuts l.bounds l.visits;
  replays : IsReplayed l.model.rows l.cuts l.initial.bounds l.initial.steps l.bounds l.steps;
  to : l.at ≤ length l.row.terms;
}

abbrev pub decreases-loop-at : goal.decreases-loop-at
decreases-loop-at l = length l.row.terms - l.at
