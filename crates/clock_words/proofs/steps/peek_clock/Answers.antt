use Rattle.std.proofs.Common.{arith}
use Rattle.clock_words.proofs.Apart.{clock_within}
use Rattle.clock_words.proofs.steps.peek_clock.Goals as goal

pub peek-requires : goal.peek-requires
peek-requires g c =
    let within = clock_within c.args.words.now.key.shape _ c.requires.slot in
    omega (arith, within, c.clock_place.ensures, c.requires.size)
