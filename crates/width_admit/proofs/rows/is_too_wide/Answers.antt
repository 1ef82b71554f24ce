use Rattle.std.proofs.Common.{◌∙◌}
use Rattle.width_admit.specs.Gathered.{exact}
use Rattle.width_admit.proofs.HeldRows.{wide_is}
use Rattle.width_admit.proofs.rows.is_too_wide.Goals as goal

pub returns : goal.returns
returns c =
    c.has_wide_side.ensures
    ∙ rw (c.terms_width-width.ensures.value, c.scaled_sides.ensures.value) (wide_is c.args.root.now c.row_exponent-exponent.result (exact c.args.terms.now) c.args.row.now c.row_exponent-exponent.ensures.value c.row_exponent-exponent.ensures.sides)
