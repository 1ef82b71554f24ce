use Rattle.clock_words.proofs.Asked.{ask_asked}
use Rattle.clock_words.proofs.steps.load_stop.Goals as goal

pub load-requires : goal.load-requires
load-requires g c = ask_asked _ _ _ _ c.requires.seat
