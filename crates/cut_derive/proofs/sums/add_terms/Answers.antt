use Rattle.std.proofs.Common.{◌≤◌, ◌<◌, ◌^◌, length, get_or, pos, FitsSigned, w64, rules, arith}
use Rattle.std.proofs.lemmas.Int.{to_z-of_z}
use Rattle.ip_core.specs.Numbers.{int_at}
use Rattle.ip_core.specs.declared.row.Term.{Term}
use Rattle.cut_derive.proofs.Adding.{added_more, terms_room}
use Rattle.cut_derive.proofs.sums.add_terms.Goals as goal

pub add-requires-clause-room : goal.add-requires-clause-room
add-requires-clause-room c =
    let terms = c.args.terms.now in
    let t : Term = get_or terms c.loop-term.term-index (record { col = 0; coef = pos 0 }) in
    let known : t.col < length c.args.coefs.now = (c.requires.terms.known.each c.loop-term.term-index (record { col = 0; coef = pos 0 }) c.loop-term-test.true).known in
    let small : c.args.weight ≤ 2 ^ 40 = omega arith in
    terms_room (int_at c.args.coefs.now t.col) (int_at c.loop-term.coefs t.col) c.args.weight t.col terms c.loop-term.term-index (c.requires.room.each t.col known) small c.requires.terms.narrow (c.loop-term.invariant t.col known)

pub loop-term-preserved : goal.loop-term-preserved
loop-term-preserved c = λ j h.
    let terms = c.args.terms.now in
    let t : Term = get_or terms c.loop-term.term-index (record { col = 0; coef = pos 0 }) in
    let known : t.col < length c.args.coefs.now = (c.requires.terms.known.each c.loop-term.term-index (record { col = 0; coef = pos 0 }) c.loop-term-test.true).known in
    let within : t.col < length c.loop-term.coefs = omega arith in
    let fits : FitsSigned w64 t.coef = search rules in
    rw (c.add.ensures, to_z-of_z w64 t.coef fits) (added_more c.loop-term.coefs (int_at c.args.coefs.now j) (pos c.args.weight) terms c.loop-term.term-index j (record { col = 0; coef = pos 0 }) c.loop-term-test.true within (c.loop-term.invariant j h))
