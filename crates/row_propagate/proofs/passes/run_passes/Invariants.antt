use Rattle.std.proofs.Common.{◌≡◌, ◌-◌}
use Rattle.ip_core.specs.Boxes.{IsWithin}
use Rattle.row_propagate.specs.Quiet.{IsPassing}
use Rattle.row_propagate.specs.Passes.{after_passes, open_run}
use Rattle.row_propagate.specs.Lawful.{IsReplayed}
use Rattle.row_propagate.proofs.passes.run_passes.Given as goal

abbrev pub invariant-loop-passes : goal.invariant-loop-passes
invariant-loop-passes l = record {
  whole : after_passes (10 - l.passes) l.model.rows l.cuts (open_run l.bounds l.steps) l.passes ≡ after_passes 10 l.model.rows l.cuts (open_run l.initial.bounds l.initial.steps) 0;
  within : IsWithin l.initial.bounds l.bounds;
  passing : IsPassing l.model l.cuts l.bounds l.visits;
  replays : IsReplayed l.model.rows l.cuts l.initial.bounds l.initial.steps l.bounds l.steps;
}
