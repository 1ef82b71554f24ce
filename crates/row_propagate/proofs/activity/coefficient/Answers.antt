use Rattle.std.proofs.Common.{ℕ, ◌≤◌, pos, unsigned_abs, arith, le_trans}
use Rattle.ip_core.specs.declared.row.Term.{Term}
use Rattle.ip_core.specs.Rows.{own_coefficient}
use Rattle.ip_core.proofs.NarrowSums.{narrow_sum_fits, narrow_sum_is, front_small}
use Rattle.row_propagate.proofs.activity.coefficient.Goals as goal

own_small : (col : ℕ) (t : Term) → unsigned_abs (own_coefficient col t) ≤ unsigned_abs t.coef
own_small col t = grind arith

pub overflow_add-sum : goal.overflow_add-sum
overflow_add-sum c =
    narrow_sum_fits (own_coefficient c.args.col) (λ (t : Term). unsigned_abs t.coef) c.args.terms.now c.loop-term.term-index (record { col = 0; coef = pos 0 }) _ _ (own_small c.args.col) c.requires.narrow (record { sfits = c.own_coefficient-sum.type_inv }) c.loop-term-test.true c.loop-term.invariant c.own_coefficient-sum.ensures

pub loop-term-preserved : goal.loop-term-preserved
loop-term-preserved c =
    narrow_sum_is (own_coefficient c.args.col) (λ (t : Term). unsigned_abs t.coef) c.args.terms.now c.loop-term.term-index (record { col = 0; coef = pos 0 }) _ _ (own_small c.args.col) c.requires.narrow (record { sfits = c.own_coefficient-sum.type_inv }) c.loop-term-test.true c.loop-term.invariant c.own_coefficient-sum.ensures

pub returns-clause-small : goal.returns-clause-small
returns-clause-small c =
    rw c.loop-term.invariant (le_trans (front_small (own_coefficient c.args.col) (λ (t : Term). unsigned_abs t.coef) c.args.terms.now c.loop-term.term-index (own_small c.args.col)) c.requires.narrow)
