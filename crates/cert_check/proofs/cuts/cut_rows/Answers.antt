use Rattle.std.proofs.Common.{◌≡◌, ◌∙◌, ◌<◌, ◌^◌, ◌∷◌, ◌++◌, [], length, List, Ok, sym, ap, arith}
use Rattle.std.proofs.lemmas.List.{length-append}
use Rattle.ip_core.specs.declared.row.Row.{Row}
use Rattle.cut_derive.specs.Derivations.{derived_row}
use Rattle.cert_check.proofs.CutRows.{cut_passes, cuts_with}
use Rattle.cert_check.proofs.cuts.cut_rows.Goals as goal

pub loop-cut-preserved : goal.loop-cut-preserved
loop-cut-preserved c =
    let m = c.args.model.now in
    let cuts = c.args.cuts.now in
    let rows = c.loop-cut.rows in
    let row = c.in-Ok.row in
    let more : List Row = rows ++ row ∷ [] in
    let pushed : c.push.new.self ≡ more = c.in_ok-push-in-Ok.ensures.ok in
    let derived : derived_row m rows c.cut-item.result ≡ Ok row =
    ap (λ (rs : List Row). derived_row m rs c.cut-item.result) (sym c.as_slice.ensures) ∙ sym c.in_ok-row.ensures ∙ c.in-Ok.is in
    let rest = cut_passes m c.loop-cut.line rows cuts c.loop-cut.cut-index c.cut-item.result c.loop-cut-test.true c.cut-item.is _ row c.loop-cut.invariant.rest derived in
    let few : length rows < 2 ^ 30 = omega (arith, c.loop-cut.invariant.count, c.loop-cut-test.true, c.requires.few) in
    rw pushed (record {
      line = omega (arith, c.loop-cut.invariant.line);
      count = omega (arith, length-append rows (row ∷ []), c.loop-cut.invariant.count);
      rest = rest;
      rows = cuts_with m rows c.cut-item.result row c.parts-limits.ensures.limits c.loop-cut.invariant.rows few derived;
    })
