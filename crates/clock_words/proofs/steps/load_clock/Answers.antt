use Rattle.std.proofs.Common.{◌<◌, sym, subst}
use Rattle.clock_words.specs.declared.view.Shape.{Shape}
use Rattle.clock_words.proofs.Asked.{look_asked}
use Rattle.clock_words.proofs.steps.load_clock.Goals as goal

pub load-requires : goal.load-requires
load-requires g c = look_asked _ _ _ _ c.args.slot _ c.requires.seat c.requires.slot
    c.clock_place.ensures

pub returns-clause-found : goal.returns-clause-found
returns-clause-found g c = let P : Shape → Type 0 = λ z. c.args.slot < z.slots in
    c.load.ensures.2 c.args.slot (subst P
    (sym c.requires.seat.owning.told.sizes) c.requires.slot) c.clock_place.ensures
