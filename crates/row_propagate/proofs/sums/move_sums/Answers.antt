use Rattle.std.proofs.Common.{◌≡◌, ◌∙◌, ◌+◌, ◌<◌, length, get_or, set, pos, ◌+ℤ◌, FitsSigned, w64, ap, arith, length-set}
use Rattle.std.proofs.lemmas.Int.{to_z-of_z}
use Rattle.ip_core.specs.Numbers.{int_at}
use Rattle.ip_core.specs.declared.row.Term.{Term}
use Rattle.row_propagate.proofs.Summing.{next_sum, sums_step}
use Rattle.row_propagate.proofs.sums.move_sums.Goals as goal

pub add_change-requires-clause-small : goal.add_change-requires-clause-small
add_change-requires-clause-small c =
    let d : Term = record { col = 0; coef = pos 0 } in
    let column = c.args.column.now in
    let i = c.loop-entry.entry-index in
    let row = (get_or column i d).col in
    let known : row < length c.args.sums.now = c.requires.known.each i d c.loop-entry-test.true in
    let fits : FitsSigned w64 c.change_of-change.result = record { sfits = c.change_of-change.type_inv } in
    rw (to_z-of_z w64 c.change_of-change.result fits, next_sum c.args.old.0 c.args.old.1 c.args.new.0 c.args.new.1 column i d (int_at c.args.sums.now row) (int_at c.loop-entry.sums row) c.change_of-change.result c.loop-entry-test.true (c.loop-entry.invariant.each row known) c.change_of-change.ensures) (c.requires.small.each (i + 1) row known)

pub loop-entry-preserved : goal.loop-entry-preserved
loop-entry-preserved c =
    let d : Term = record { col = 0; coef = pos 0 } in
    let known : (get_or c.args.column.now c.loop-entry.entry-index d).col < length c.loop-entry.sums = omega (arith, c.loop-entry.invariant.len, c.requires.known.each c.loop-entry.entry-index d c.loop-entry-test.true) in
    let fits : FitsSigned w64 c.change_of-change.result = record { sfits = c.change_of-change.type_inv } in
    let row = (get_or c.args.column.now c.loop-entry.entry-index d).col in
    record {
      len = ap length c.add_change.ensures ∙ length-set c.loop-entry.sums _ _ ∙ c.loop-entry.invariant.len;
      each = sums_step c.args.old.0 c.args.old.1 c.args.new.0 c.args.new.1 c.args.column.now c.loop-entry.entry-index d c.args.sums.now c.loop-entry.sums c.add_change.new.sums c.change_of-change.result c.loop-entry-test.true known c.loop-entry.invariant.len c.loop-entry.invariant.each c.change_of-change.ensures (c.add_change.ensures ∙ ap (λ z. set c.loop-entry.sums row (int_at c.loop-entry.sums row +ℤ z)) (to_z-of_z w64 c.change_of-change.result fits));
    }
