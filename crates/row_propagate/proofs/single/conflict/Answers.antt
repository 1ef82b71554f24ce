use Rattle.std.proofs.Common.{length, FitsSigned, w64, rules}
use Rattle.ip_core.specs.Boxes.{IsConflict}
use Rattle.ip_core.proofs.Activities.{conflict_meets_none}
use Rattle.row_propagate.proofs.Changes.{below_holds}
use Rattle.row_propagate.proofs.single.conflict.Goals as goal

pub returns-clause-none : goal.returns-clause-none
returns-clause-none c =
    let s = c.args.bounds.now in
    let row = c.args.row.now in
    λ holds. record {
      none = λ x long inside met.
          let fits : FitsSigned w64 row.least = search rules in
          let below = below_holds c.greatest_activity.result row.least (record { sfits = c.greatest_activity.type_inv }) fits holds in
          let conflict : IsConflict s row = record { below = rw c.greatest_activity.ensures.value at below } in
          conflict_meets_none (length s.lows) s row x c.requires.terms long inside conflict met;
    }
