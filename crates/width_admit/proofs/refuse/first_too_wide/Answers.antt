use Rattle.std.proofs.Common.{◌≡◌, ◌∙◌, ◌<◌, length, get_or, true, Some, sym, ap, subst, arith}
use Rattle.ip_core.specs.Sides.{Sides}
use Rattle.ip_core.specs.Rows.{AreTerms}
use Rattle.width_admit.specs.ExactRows.{exact_row, is_too_wide}
use Rattle.width_admit.specs.Admission.{first_from}
use Rattle.width_admit.specs.Gathered.{exact}
use Rattle.width_admit.proofs.Firsts.{first_found}
use Rattle.width_admit.proofs.Refusals.{row_test, read_list}
use Rattle.width_admit.proofs.refuse.first_too_wide.Goals as goal

pub is_too_wide-requires-clause-known : goal.is_too_wide-requires-clause-known
is_too_wide-requires-clause-known c =
    let within : c.loop-at.at < length c.args.lists.now = omega (arith, c.loop-at-test.true, c.requires.gathered.as_many, ap length c.as_slice-rows.ensures) in
    subst (λ ts. AreTerms (length c.args.root.now.lows) (exact ts)) (sym (read_list c.args.lists.now c.loop-at.at c.index-lists-at.result c.as_slice.result.now (omega (arith, c.loop-at-test.true, c.requires.gathered.as_many, ap length c.as_slice-rows.ensures)) c.as_slice.ensures c.index-lists-at.is)) (c.requires.usable.known c.loop-at.at within)

pub returns-then-is_too_wide : goal.returns-then-is_too_wide
returns-then-is_too_wide c =
    let m = c.args.mps.now in
    let at = c.loop-at.at in
    let rows = c.as_slice-rows.result.now in
    let within : at < length m.rows = omega (arith, c.loop-at-test.true, ap length c.as_slice-rows.ensures) in
    let row = c.index-rows-at.result in
    let passes : is_too_wide c.args.root.now (exact_row m.cols at (get_or rows at row)) ≡ true =
    subst (λ r. is_too_wide c.args.root.now (exact_row m.cols at r) ≡ true) c.index-rows-at.is (row_test (is_too_wide c.args.root.now) (length m.rows) m.cols c.args.lists.now at c.as_slice.result.now row true c.requires.gathered within (read_list c.args.lists.now c.loop-at.at c.index-lists-at.result c.as_slice.result.now (omega (arith, c.loop-at-test.true, c.requires.gathered.as_many, ap length c.as_slice-rows.ensures)) c.as_slice.ensures c.index-lists-at.is) (sym c.is_too_wide.ensures ∙ c.if-is_too_wide.true))
    in
    let found = first_found (λ i r. is_too_wide c.args.root.now (exact_row m.cols i r)) rows at c.index-rows-at.result c.loop-at-test.true passes in
    sym (subst (λ (s : Sides). first_from (λ i r. is_too_wide s (exact_row m.cols i r)) 0 m.rows ≡ Some at) c.requires.root (sym c.loop-at.invariant ∙ found))
