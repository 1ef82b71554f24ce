use Rattle.std.proofs.Common.{◌≤◌, ◌<◌, ◌^◌, length, get_or, pos, FitsSigned, w64, rules, arith}
use Rattle.std.proofs.lemmas.Int.{to_z-of_z}
use Rattle.ip_core.specs.Numbers.{int_at}
use Rattle.ip_core.specs.declared.row.Term.{Term}
use Rattle.safe_bound.proofs.Lowering.{lowered_more, terms_room}
use Rattle.safe_bound.proofs.costs.subtract_terms.Goals as goal

pub subtract-requires-clause-room : goal.subtract-requires-clause-room
subtract-requires-clause-room c =
    let terms = c.args.terms.now in
    let t : Term = get_or terms c.loop-term.term-index (record { col = 0; coef = pos 0 }) in
    let known : t.col < c.args.columns = (c.requires.terms.known.each c.loop-term.term-index (record { col = 0; coef = pos 0 }) c.loop-term-test.true).known in
    let small : c.args.mult ≤ 2 ^ 40 = omega arith in
    terms_room (int_at c.args.costs.now t.col) (int_at c.loop-term.costs t.col) c.args.mult t.col terms c.loop-term.term-index (c.requires.room.each t.col known) small c.requires.terms.narrow (c.loop-term.invariant t.col known)

pub loop-term-preserved : goal.loop-term-preserved
loop-term-preserved c = λ j h.
    let terms = c.args.terms.now in
    let t : Term = get_or terms c.loop-term.term-index (record { col = 0; coef = pos 0 }) in
    let known : t.col < c.args.columns = (c.requires.terms.known.each c.loop-term.term-index (record { col = 0; coef = pos 0 }) c.loop-term-test.true).known in
    let within : t.col < length c.loop-term.costs = omega arith in
    let fits : FitsSigned w64 t.coef = search rules in
    rw (c.subtract.ensures, to_z-of_z w64 t.coef fits) (lowered_more c.loop-term.costs (int_at c.args.costs.now j) (pos c.args.mult) terms c.loop-term.term-index j (record { col = 0; coef = pos 0 }) c.loop-term-test.true within (c.loop-term.invariant j h))
