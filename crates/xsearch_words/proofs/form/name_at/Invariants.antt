use Rattle.std.proofs.Common.{◌≡◌, map, drop}
use Rattle.std.specs.List.{slice_get}
use Rattle.std.specs.String.{string_bytes}
use Rattle.xsearch_words.specs.Forms.{names}
use Rattle.xsearch_words.proofs.form.name_at.Given as goal

abbrev pub invariant-loop-word : goal.invariant-loop-word
invariant-loop-word l = slice_get (names (map string_bytes (drop l.word-index l.words))) l.left ≡ slice_get (names (map string_bytes l.words)) l.place
