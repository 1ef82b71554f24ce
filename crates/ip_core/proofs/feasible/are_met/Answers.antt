use Rattle.std.proofs.Common.{refl, sym, subst, rules, FitsSigned, w64}
use Rattle.std.proofs.lemmas.List.{take_all}
use Rattle.std.proofs.lemmas.List.Elements.{All-more, All-same}
use Rattle.ip_core.specs.Rows.{IsMet}
use Rattle.ip_core.proofs.IntSums.{not_below}
use Rattle.ip_core.proofs.feasible.are_met.Goals as goal

pub loop-row-preserved : goal.loop-row-preserved
loop-row-preserved c =
    let x = c.args.values.now in
    let row = c.row-item.result in
    let fits : FitsSigned w64 row.least = search rules in
    let reached = not_below c.activity.result row.least (record { sfits = c.activity.type_inv }) fits c.if-activity-row.false in
    let met : IsMet x row = record { reached = rw c.activity.ensures at reached } in
    All-more (IsMet x) c.args.rows.now c.loop-row.row-index row c.loop-row-test.true c.loop-row.invariant (subst (IsMet x) c.row-item.is met)

pub returns : goal.returns
returns c = (
  λ _. record { each = All-same (IsMet c.args.values.now) c.args.rows.now _ (sym (take_all c.loop-row.row-index c.args.rows.now c.loop-row-test.false)) c.loop-row.invariant },
  λ _. refl,
)
