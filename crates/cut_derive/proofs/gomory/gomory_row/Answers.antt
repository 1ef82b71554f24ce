use Rattle.std.proofs.Common.{◌≡◌, true, rules}
use Rattle.std.specs.Int.{w128}
use Rattle.std.proofs.lemmas.Int.{to_z-of_z}
use Rattle.cut_derive.specs.Gomory.{are_known, are_weights}
use Rattle.cut_derive.proofs.Gomorying.{gomory_given, gomory_narrow}
use Rattle.cut_derive.proofs.gomory.gomory_row.Goals as goal

pub rounded_row-requires-clause-narrow : goal.rounded_row-requires-clause-narrow
rounded_row-requires-clause-narrow c =
    let m = c.args.model.now in
    let cuts = c.args.cuts.now in
    let parts = c.args.parts.now in
    let known : are_known m.rows cuts parts ≡ true = search rules in
    let weights : are_weights parts c.args.divisor ≡ true = search rules in
    rw (c.deref.ensures.value, to_z-of_z w128 c.combined_least-least.result (record { sfits = c.combined_least-least.type_inv }))
    (gomory_narrow m cuts parts c.args.divisor c.root.result.now c.in_ok-coefs.coefs.items c.combined_least-least.result c.parts-limits.ensures.limits c.requires known weights c.in_ok-coefs.ensures c.combined_least-least.ensures c.root.ensures)

pub returns : goal.returns
returns c =
    let m = c.args.model.now in
    let cuts = c.args.cuts.now in
    let parts = c.args.parts.now in
    let known : are_known m.rows cuts parts ≡ true = search rules in
    let weights : are_weights parts c.args.divisor ≡ true = search rules in
    let same = gomory_given m cuts parts c.args.divisor c.root.result.now c.in_ok-coefs.coefs.items c.combined_least-least.result known weights c.in_ok-coefs.ensures c.combined_least-least.ensures c.root.ensures c.parts-limits.ensures.limits.bounds.box in
    rw (← same) (rw (c.deref.ensures.value, to_z-of_z w128 c.combined_least-least.result (record { sfits = c.combined_least-least.type_inv })) at c.rounded_row.ensures)
