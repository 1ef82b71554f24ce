use Rattle.std.proofs.Common.{◌≡◌, ℕ, ◌-◌, ◌<◌, List, length, map, get_or, pos, arith, IsTrue, false}
use Rattle.std.proofs.lemmas.Bool.{false≢true}
use Rattle.std.proofs.lemmas.List.{get_or-map, length-map}
use Rattle.ip_core.specs.declared.row.Term.{Term}
use Rattle.ip_core.proofs.ListReads.{rising_more, rising_fails}
use Rattle.ip_core.proofs.width.is_rising.Goals as goal

col_read : (terms : List Term) (i : ℕ) → i < length terms → get_or (map (λ (t : Term). t.col) terms) i 0 ≡ (get_or terms i (record { col = 0; coef = pos 0 })).col
col_read terms i within = get_or-map (λ (t : Term). t.col) terms i (record { col = 0; coef = pos 0 }) 0 within

pub returns-then-terms-i : goal.returns-then-terms-i
returns-then-terms-i c =
    let terms = c.args.terms.now in
    let i = c.loop-i.i in
    let within : i < length (map (λ (t : Term). t.col) terms) = rw length-map c.loop-i-test.true in (
      λ (never : IsTrue false). absurd (false≢true never),
      λ rising. absurd (rising_fails _ i (i - 1) (omega arith) within (rw (col_read terms i (omega arith), col_read terms (i - 1) (omega arith)) c.if-terms-i.true) rising),
    )

pub loop-i-preserved : goal.loop-i-preserved
loop-i-preserved c =
    let terms = c.args.terms.now in
    let i = c.loop-i.i in
    rising_more _ i (i - 1) c.loop-i.invariant (omega arith) (rw (col_read terms (i - 1) (omega arith), col_read terms i (omega arith)) c.if-terms-i.false)
