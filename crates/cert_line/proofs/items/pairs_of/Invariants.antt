use Rattle.std.proofs.Common.{◌≡◌, ◌≤◌, ◌+◌}
use Rattle.cert_line.specs.Words.{left_words, left_size}
use Rattle.cert_line.specs.Items.{pairs_of}
use Rattle.cert_line.proofs.ItemRuns.{after_some}
use Rattle.cert_line.proofs.items.pairs_of.Given as goal

abbrev pub invariant-loop-pair : goal.invariant-loop-pair
invariant-loop-pair l = record {
  found : after_some l.values l.count (pairs_of (left_words l.rest)) ≡ pairs_of (left_words l.fn.words);
  few : l.count + left_size l.rest ≤ left_size l.fn.words;
}

abbrev pub decreases-loop-pair : goal.decreases-loop-pair
decreases-loop-pair l = left_size l.rest
