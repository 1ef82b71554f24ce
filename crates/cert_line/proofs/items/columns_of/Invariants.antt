use Rattle.std.proofs.Common.{◌≡◌, ◌≤◌, ◌+◌}
use Rattle.cert_line.specs.Words.{left_words, left_size}
use Rattle.cert_line.specs.Numerals.{count_of}
use Rattle.cert_line.specs.Items.{items_by}
use Rattle.cert_line.proofs.ItemRuns.{after_some}
use Rattle.cert_line.proofs.items.columns_of.Given as goal

abbrev pub invariant-loop-word : goal.invariant-loop-word
invariant-loop-word l = record {
  found : after_some l.values l.count (items_by count_of (left_words l.rest)) ≡ items_by count_of (left_words l.fn.words);
  few : l.count + left_size l.rest ≤ left_size l.fn.words;
}

abbrev pub decreases-loop-word : goal.decreases-loop-word
decreases-loop-word l = left_size l.rest
