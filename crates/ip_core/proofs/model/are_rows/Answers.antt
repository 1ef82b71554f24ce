use Rattle.std.proofs.Common.{length, refl, sym, subst}
use Rattle.std.proofs.lemmas.List.{take_all}
use Rattle.std.proofs.lemmas.List.Elements.{All-more, All-same}
use Rattle.ip_core.specs.Rows.{IsRow}
use Rattle.ip_core.proofs.model.are_rows.Goals as goal

pub loop-row-preserved : goal.loop-row-preserved
loop-row-preserved c =
    let parts = c.args.parts.now in
    let row = c.row-item.result in
    let valid : IsRow (length parts.cols) parts.root row = rw (← c.requires.bounds.box) (c.is_row.ensures.0 c.if-not-is_row.false) in
    rw (← c.as_slice-row-items.ensures) (All-more (IsRow (length parts.cols) parts.root) c.as_slice-row-items.result.now c.loop-row.row-index row c.loop-row-test.true (rw c.as_slice-row-items.ensures c.loop-row.invariant) (subst (IsRow (length parts.cols) parts.root) c.row-item.is valid))

pub returns : goal.returns
returns c =
    let parts = c.args.parts.now in
    let whole = take_all c.loop-row.row-index c.as_slice-row-items.result.now c.loop-row-test.false in (
      λ _. record { each = All-same (IsRow (length parts.cols) parts.root) parts.rows _ (sym (rw c.as_slice-row-items.ensures at whole)) c.loop-row.invariant },
      λ _. refl,
    )
