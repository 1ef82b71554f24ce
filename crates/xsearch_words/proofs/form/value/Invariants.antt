use Rattle.std.proofs.Common.{◌≡◌, map, drop}
use Rattle.std.specs.String.{string_bytes}
use Rattle.xsearch_words.specs.Forms.{value}
use Rattle.xsearch_words.proofs.form.value.Given as goal

abbrev pub invariant-loop-word : goal.invariant-loop-word
invariant-loop-word l = value l.key (map string_bytes (drop l.word-index l.words)) ≡ value l.key (map string_bytes l.words)
