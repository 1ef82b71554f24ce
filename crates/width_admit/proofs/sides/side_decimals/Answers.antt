use Rattle.width_admit.specs.Exact.{units}
use Rattle.width_admit.proofs.SideNumbers.{finest_sides}
use Rattle.width_admit.proofs.sides.side_decimals.Goals as goal

pub returns-in-Some : goal.returns-in-Some
returns-in-Some c =
    let row = c.args.row.now in
    rw (c.in-Some.is, c.max.ensures) (finest_sides row.kind (units row.rhs) (units c.in-Some.range) c.decimals-side.result c.decimals.result c.decimals-side.ensures c.decimals.ensures)
