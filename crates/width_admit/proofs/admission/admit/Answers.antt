use Rattle.std.proofs.Common.{◌∙◌, sym, ap, subst}
use Rattle.width_admit.specs.Columns.{root}
use Rattle.ip_core.specs.Sides.{HasLimits}
use Rattle.ip_core.specs.Models.{IsModel}
use Rattle.width_admit.proofs.Boxes.{root_limits}
use Rattle.width_admit.proofs.Models.{usable_as, large_none, all_none, admitted_is_model}
use Rattle.width_admit.proofs.admission.admit.Goals as goal

pub width_refusal-requires-clause-usable : goal.width_refusal-requires-clause-usable
width_refusal-requires-clause-usable c =
    usable_as c.args.mps.now c.args.default_upper c.len.result c.as_slice.result.now c.in_ok-lists.lists.items c.as_slice-4.result.now c.in_ok-root.root c.requires.columns c.requires.cols c.len.ensures c.as_slice.ensures c.in_ok-lists.ensures c.as_slice-4.ensures.value (c.in_ok-root.ensures ∙ ap (root c.args.default_upper) c.as_slice-3.ensures)

pub width_refusal-requires-clause-limits : goal.width_refusal-requires-clause-limits
width_refusal-requires-clause-limits c =
    let m = c.args.mps.now in
    subst HasLimits (sym (c.in_ok-root.ensures ∙ ap (root c.args.default_upper) c.as_slice-3.ensures)) (root_limits c.args.default_upper m.cols (large_none m c.args.default_upper (sym c.column_refusal.ensures ∙ c.in_default.is)))

pub unreachable-requires : goal.unreachable-requires
unreachable-requires c =
    let m = c.args.mps.now in
    let none = all_none m c.args.default_upper (sym c.column_refusal.ensures ∙ c.in_default.is) (sym c.count_refusal.ensures ∙ c.in_default-count_refusal.is) (sym c.width_refusal.ensures ∙ c.in_default-width_refusal.is) in
    c.in-None.ensures (subst IsModel (sym c.in_ok-parts.ensures) (admitted_is_model m c.args.default_upper c.requires.columns none))
