use Rattle.std.proofs.Common.{◌≡◌, ◌≤◌, ◌+◌}
use Rattle.cert_line.specs.Words.{left_words, left_size}
use Rattle.cert_line.specs.Items.{steps_of}
use Rattle.cert_line.proofs.ItemRuns.{after_some}
use Rattle.cert_line.proofs.items.steps_of.Given as goal

abbrev pub invariant-loop-step : goal.invariant-loop-step
invariant-loop-step l = record {
  found : after_some l.values l.count (steps_of (left_words l.rest)) ≡ steps_of (left_words l.fn.words);
  few : l.count + left_size l.rest ≤ left_size l.fn.words;
}

abbrev pub decreases-loop-step : goal.decreases-loop-step
decreases-loop-step l = left_size l.rest
