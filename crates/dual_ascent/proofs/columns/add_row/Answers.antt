use Rattle.std.proofs.Common.{◌<◌, length, get_or, pos, FitsSigned, w64, rules, arith}
use Rattle.std.proofs.lemmas.Int.{to_z-of_z}
use Rattle.ip_core.specs.declared.row.Term.{Term}
use Rattle.dual_ascent.proofs.Transposing.{row_none, row_more}
use Rattle.dual_ascent.proofs.columns.add_row.Goals as goal

pub loop-term-init : goal.loop-term-init
loop-term-init c = row_none c.args.row c.args.lists.now.items

pub add_entry-requires : goal.add_entry-requires
add_entry-requires c =
    let known : (get_or c.args.terms.now c.loop-term.term-index (record { col = 0; coef = pos 0 })).col < length c.args.lists.now.items = (c.requires.each c.loop-term.term-index (record { col = 0; coef = pos 0 }) c.loop-term-test.true).known in
    omega (arith, c.loop-term.invariant.long, known)

pub loop-term-preserved : goal.loop-term-preserved
loop-term-preserved c =
    let d : Term = record { col = 0; coef = pos 0 } in
    let t : Term = get_or c.args.terms.now c.loop-term.term-index d in
    let fits : FitsSigned w64 t.coef = search rules in
    let known : t.col < length c.args.lists.now.items = (c.requires.each c.loop-term.term-index d c.loop-term-test.true).known in
    row_more c.args.row c.loop-term.term-index c.args.terms.now d c.args.lists.now.items c.loop-term.lists.items c.add_entry.new.lists.items c.loop-term-test.true (omega (arith, c.loop-term.invariant.long, known)) (rw (to_z-of_z w64 t.coef fits) at c.in_ok-add_entry.ensures) c.loop-term.invariant
