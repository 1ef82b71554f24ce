use Rattle.std.proofs.Common.{◌≡◌, ◌++◌, drop}
use Rattle.cert_line.specs.Lines.{step_fields}
use Rattle.cert_line.proofs.print.append_steps.Given as goal

abbrev pub invariant-loop-step : goal.invariant-loop-step
invariant-loop-step l = l.text ++ step_fields (drop l.step-index l.steps) ≡ l.fn.text ++ step_fields l.steps
