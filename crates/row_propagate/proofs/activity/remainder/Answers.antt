use Rattle.std.proofs.Common.{◌≡◌, ◌-ℤ◌, FitsSigned, w64, to_z, of_z, rules, le_trans}
use Rattle.std.proofs.lemmas.Int.{to_z-of_z}
use Rattle.ip_core.proofs.Widths.{narrow_fits}
use Rattle.row_propagate.specs.Rounding.{remainder}
use Rattle.row_propagate.proofs.Parts.{remainder_small}
use Rattle.row_propagate.proofs.activity.remainder.Goals as goal

exact : (c : goal.After-others_activity) → to_z w64 (of_z w64 c.args.row.now.least) -ℤ to_z w64 (of_z w64 c.others_activity.result) ≡ remainder c.args.bounds.now c.args.row.now c.args.col
exact c =
    let fits : FitsSigned w64 c.args.row.now.least = search rules in
    rw (to_z-of_z w64 c.args.row.now.least fits, to_z-of_z w64 c.others_activity.result (record { sfits = c.others_activity.type_inv }), c.others_activity.ensures, c.as_slice.ensures)

fits : (c : goal.After-others_activity) → FitsSigned w64 (remainder c.args.bounds.now c.args.row.now c.args.col)
fits c = narrow_fits _ _ (remainder_small c.args.bounds.now c.args.row.now c.args.col) c.requires.narrow

pub overflow_sub-result : goal.overflow_sub-result
overflow_sub-result c = rw (exact c) (fits c)

pub returns-clause-value : goal.returns-clause-value
returns-clause-value c = rw (exact c) (to_z-of_z w64 _ (fits c))

pub returns-clause-small : goal.returns-clause-small
returns-clause-small c = rw (exact c, to_z-of_z w64 _ (fits c)) (le_trans (remainder_small c.args.bounds.now c.args.row.now c.args.col) c.requires.narrow)
