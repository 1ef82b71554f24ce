use Rattle.clock_words.proofs.Asked.{call_asked}
use Rattle.clock_words.proofs.steps.raise_stop.Goals as goal

pub fetch_max-requires : goal.fetch_max-requires
fetch_max-requires g c = call_asked _ _ _ _ c.requires.seat c.requires.within
