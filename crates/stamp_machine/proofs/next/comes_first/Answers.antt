use Rattle.std.proofs.Common.{arith}
use Rattle.stamp_machine.proofs.NextSlot.{live_within}
use Rattle.stamp_machine.proofs.next.comes_first.Goals as goal

pub bounds-slots-later-then-is_some : goal.bounds-slots-later-then-is_some
bounds-slots-later-then-is_some g c = live_within c.args.slots.now c.in-Some.later (c.requires.there c.in-Some.later c.in-Some.is)

pub offset_bounds-slots-later : goal.offset_bounds-slots-later
offset_bounds-slots-later g c = let h = live_within c.args.slots.now c.in-Some.later (c.requires.there c.in-Some.later c.in-Some.is) in omega arith

pub bounds-slots-later : goal.bounds-slots-later
bounds-slots-later g c = live_within c.args.slots.now c.in-Some.later (c.requires.there c.in-Some.later c.in-Some.is)
