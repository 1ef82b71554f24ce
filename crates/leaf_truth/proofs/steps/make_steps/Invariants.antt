use Rattle.std.proofs.Common.{◌≡◌, drop}
use Rattle.ip_core.specs.Boxes.{IsWithin}
use Rattle.leaf_truth.specs.Steps.{are_lawful_steps, box_after, has_no_empty}
use Rattle.leaf_truth.proofs.steps.make_steps.Given as goal

abbrev pub invariant-loop-step : goal.invariant-loop-step
invariant-loop-step l = record {
  steps : are_lawful_steps l.model.rows l.cuts l.bounds (drop l.step-index l.steps) ≡ are_lawful_steps l.model.rows l.cuts l.fn.bounds l.steps;
  sides : box_after l.model.rows l.cuts l.bounds (drop l.step-index l.steps) ≡ box_after l.model.rows l.cuts l.fn.bounds l.steps;
  solid : l.no_empty ≡ has_no_empty l.bounds;
  within : IsWithin l.model.root l.bounds;
}
