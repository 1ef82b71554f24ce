use Rattle.std.proofs.Common.{◌≡◌}
use Rattle.std.specs.List.{list_any}
use Rattle.cert_line.specs.Words.{left_words, left_size}
use Rattle.cert_line.specs.Readings.{is_empty_word}
use Rattle.cert_line.proofs.words.has_empty_word.Given as goal

abbrev pub invariant-loop-word : goal.invariant-loop-word
invariant-loop-word l = list_any is_empty_word (left_words l.left) ≡ list_any is_empty_word (left_words l.fn.words)

abbrev pub decreases-loop-word : goal.decreases-loop-word
decreases-loop-word l = left_size l.left
