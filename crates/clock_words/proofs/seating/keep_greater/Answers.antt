use Rattle.std.proofs.Common.{◌≡◌, slice_index, refl, sym, ◌∙◌, arith}
use Rattle.std.proofs.Math.ListN.{length-set}
use Rattle.std.proofs.lemmas.List.{get_or_read}
use Rattle.clock_words.proofs.Greater.{greater_all, greater_at}
use Rattle.clock_words.proofs.Seen.{below_more}
use Rattle.clock_words.proofs.seating.keep_greater.Goals as goal

pub loop-slot-init : goal.loop-slot-init
loop-slot-init c =
    record { size = sym c.requires; same = refl; below = λ k lt. absurd (omega arith) }

pub loop-slot-preserved : goal.loop-slot-preserved
loop-slot-preserved c =
    let read : c.index.result.now ≡ slice_index c.loop-slot.seen.items c.loop-slot.slot =
    get_or_read c.loop-slot.seen.items c.loop-slot.slot c.index.result.now (omega arith)
    c.index.ensures 0 in record {
      size = length-set c.loop-slot.seen.items _ _ ∙ c.loop-slot.invariant.size;
      same = greater_at c.loop-slot.seen.items c.args.other.now c.loop-slot.slot
          c.max.result c.loop-slot.invariant.size (omega arith) ∙ c.loop-slot.invariant.same;
      below = below_more c.loop-slot.seen.items c.args.other.now c.loop-slot.slot c.max.result
          (omega arith) (omega arith)
          c.loop-slot.invariant.below;
    }

pub returns : goal.returns
returns c =
    sym (greater_all c.loop-slot.seen.items c.args.other.now c.loop-slot.invariant.size
    (λ i lt. c.loop-slot.invariant.below i (omega arith))) ∙ c.loop-slot.invariant.same
