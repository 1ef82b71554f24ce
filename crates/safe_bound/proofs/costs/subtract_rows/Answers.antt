use Rattle.std.proofs.Common.{◌<◌, ◌^◌, length, arith}
use Rattle.ip_core.specs.Numbers.{int_at}
use Rattle.safe_bound.proofs.Lowering.{row_taken, rows_room}
use Rattle.safe_bound.proofs.costs.subtract_rows.Goals as goal

pub subtract_terms-requires-clause-room : goal.subtract_terms-requires-clause-room
subtract_terms-requires-clause-room c = record {
  each = λ j h. omega (arith, rows_room (int_at c.args.costs.now j) (int_at c.loop-i.costs j) (2 ^ 124) j c.args.columns c.args.rows.now c.args.mults.now c.loop-i.i (c.requires.room.each j h) c.requires.rows c.requires.small c.requires.few (c.loop-i.invariant j h));
}

pub loop-i-preserved : goal.loop-i-preserved
loop-i-preserved c = λ j h.
    let many : c.loop-i.i < length c.args.mults.now = omega arith in
    row_taken (int_at c.args.costs.now j) (int_at c.loop-i.costs j) (int_at c.subtract_terms.new.costs j) c.args.rows.now c.args.mults.now c.loop-i.i j c.index-rows-i.result c.loop-i-test.true many (c.loop-i.invariant j h) (rw c.as_slice.ensures at (c.subtract_terms.ensures j h))
