use Rattle.clock_words.proofs.Asked.{raise_asked}
use Rattle.clock_words.proofs.steps.raise_clock.Goals as goal

pub fetch_max-requires : goal.fetch_max-requires
fetch_max-requires g c =
    raise_asked _ _ _ _ c.args.slot _ _ c.requires.seat c.requires.within c.requires.slot.0
    c.requires.slot.1 c.requires.word c.clock_place.ensures
