use Rattle.std.proofs.Common.{◌∙◌, ◌++◌, max, sym, ap, option_to_list}
use Rattle.width_admit.specs.Sides.{exact_sides}
use Rattle.width_admit.specs.Exact.{exponent_of}
use Rattle.width_admit.specs.Gathered.{exact}
use Rattle.width_admit.proofs.Decimals.{exponent_is, finest_both}
use Rattle.width_admit.proofs.SideNumbers.{listed}
use Rattle.width_admit.proofs.Coefficients.{numbers}
use Rattle.width_admit.proofs.Gathering.{grouped}
use Rattle.width_admit.proofs.rows.row_exponent.Goals as goal

pub returns-clause-value : goal.returns-clause-value
returns-clause-value c =
    let terms = numbers (exact c.args.terms.now) in
    let sides = exact_sides c.args.row.now in
    let both = finest_both terms (listed sides) c.term_decimals.result c.side_decimals.result c.term_decimals.ensures c.side_decimals.ensures in
    c.max.ensures ∙ sym (ap exponent_of (grouped terms (option_to_list sides.lower) (option_to_list sides.upper)) ∙ exponent_is (terms ++ listed sides) (max c.term_decimals.result c.side_decimals.result) both)
