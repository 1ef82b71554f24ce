use Rattle.std.proofs.Common.{◌≡◌, ◌∙◌, ◌<◌, [], ◌∷◌, ◌++◌, length, get_or, set, pos, refl, ap, arith, length-set}
use Rattle.ip_core.specs.declared.row.Term.{Term}
use Rattle.row_propagate.proofs.Transposing.{added_more, added_none}
use Rattle.row_propagate.proofs.columns.add_row.Goals as goal

pub add_entry-requires : goal.add_entry-requires
add_entry-requires c = omega (arith, c.loop-term.invariant.len, (c.requires.each c.loop-term.term-index (record { col = 0; coef = pos 0 }) c.loop-term-test.true).known)

pub loop-term-init : goal.loop-term-init
loop-term-init c = record { len = refl; added = added_none c.args.number c.args.columns.now [] }

pub loop-term-preserved : goal.loop-term-preserved
loop-term-preserved c =
    let d : Term = record { col = 0; coef = pos 0 } in
    let known : (get_or c.args.terms.now c.loop-term.term-index d).col < length c.loop-term.columns = omega (arith, c.loop-term.invariant.len, (c.requires.each c.loop-term.term-index d c.loop-term-test.true).known) in
    record {
      len = ap length c.in_ok-add_entry.ensures ∙ length-set c.loop-term.columns _ _ ∙ c.loop-term.invariant.len;
      added = added_more c.args.number c.args.terms.now c.loop-term.term-index d c.args.columns.now c.loop-term.columns c.add_entry.new.columns c.loop-term-test.true known (c.in_ok-add_entry.ensures ∙ ap (λ t. set c.loop-term.columns (get_or c.args.terms.now c.loop-term.term-index d).col (get_or c.loop-term.columns (get_or c.args.terms.now c.loop-term.term-index d).col [] ++ t ∷ [])) c.entry_of.ensures) c.loop-term.invariant.added;
    }
