use Rattle.std.proofs.Common.{◌∙◌}
use Rattle.clock_words.proofs.Handing.{kept_at_start}
use Rattle.clock_words.proofs.board.Board.new.Goals as goal

pub of_words-requires : goal.of_words-requires
of_words-requires g c = kept_at_start _ _ _ _ (c.as_slice.ensures.value ∙ c.in_ok-words.ensures)
