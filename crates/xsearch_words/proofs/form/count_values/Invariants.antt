use Rattle.std.proofs.Common.{◌≡◌, ◌≤◌, ◌+◌, map, drop, length}
use Rattle.std.specs.String.{string_bytes}
use Rattle.xsearch_words.specs.Forms.{words_of}
use Rattle.xsearch_words.proofs.form.count_values.Given as goal

abbrev pub invariant-loop-word : goal.invariant-loop-word
invariant-loop-word l = record {
  rest : l.count + length (words_of l.key (map string_bytes (drop l.word-index l.words))) ≡ length (words_of l.key (map string_bytes l.words));
  few : l.count ≤ l.word-index;
}
