use Rattle.std.proofs.Common.{◌≡◌, ◌≤ℤ◌, ◌<ℤ◌, ◌-ℤ◌, pos, arith, length, true, false, int_lt, w64}
use Rattle.std.proofs.lemmas.Int.{ints, to_z-of_z}
use Rattle.cut_derive.specs.Chosen.{weight_of, chosen_terms, unfit_column, signs_of, negatives_of}
use Rattle.cut_derive.specs.Covers.{slack}
use Rattle.cut_derive.proofs.Fronts.{cols_of, rises_from_zero}
use Rattle.cut_derive.proofs.Choosing.{chosen_narrow, cover_unfit, cover_light, cover_made}
use Rattle.cut_derive.proofs.cover.covered_row.Goals as goal

pub chosen_terms-requires-clause-terms : goal.chosen_terms-requires-clause-terms
chosen_terms-requires-clause-terms c = rw c.as_slice.ensures (rises_from_zero (cols_of c.args.row.now.terms) c.requires.row.rising)

pub returns-in-Some : goal.returns-in-Some
returns-in-Some c =
    let same : c.in_ok-chosen.chosen ≡ chosen_terms c.args.row.now.terms c.args.cols.now = rw c.as_slice.ensures at c.in_ok-chosen.ensures in
    let found : c.unfit_column.result ≡ unfit_column c.args.root.now c.in_ok-chosen.chosen = rw c.as_slice-2.ensures at c.unfit_column.ensures in
    cover_unfit c.args.root.now c.args.row.now c.args.cols.now c.in_ok-chosen.chosen c.unfit_column.result c.in-Some.col same found c.in-Some.is

pub weight-requires-clause-narrow : goal.weight-requires-clause-narrow
weight-requires-clause-narrow c =
    let same : c.in_ok-chosen.chosen ≡ chosen_terms c.args.row.now.terms c.args.cols.now = rw c.as_slice.ensures at c.in_ok-chosen.ensures in
    rw c.as_slice-3.ensures (chosen_narrow (length c.args.root.now.lows) c.args.root.now c.args.row.now c.args.cols.now c.in_ok-chosen.chosen c.requires.row same)

pub returns-then-not-is_more : goal.returns-then-not-is_more
returns-then-not-is_more c =
    let same : c.in_ok-chosen.chosen ≡ chosen_terms c.args.row.now.terms c.args.cols.now = rw c.as_slice.ensures at c.in_ok-chosen.ensures in
    let found : c.unfit_column.result ≡ unfit_column c.args.root.now c.in_ok-chosen.chosen = rw c.as_slice-2.ensures at c.unfit_column.ensures in
    let weighs : c.weight.result ≡ weight_of c.in_ok-chosen.chosen = rw c.as_slice-3.ensures at c.weight.ensures in
    let light : pos c.weight.result ≤ℤ slack c.args.root.now c.args.row.now = (let test : false ≡ int_lt (slack c.args.root.now c.args.row.now) (pos c.weight.result) = rw (to_z-of_z w64 c.slack.result (record { sfits = c.slack.type_inv }), c.slack.ensures) at c.if-not-is_more.ensures in omega (arith, ints, test)) in
    cover_light c.args.root.now c.args.row.now c.args.cols.now c.in_ok-chosen.chosen c.unfit_column.result c.weight.result same found c.in_default.is weighs light

pub returns : goal.returns
returns c =
    let same : c.in_ok-chosen.chosen ≡ chosen_terms c.args.row.now.terms c.args.cols.now = rw c.as_slice.ensures at c.in_ok-chosen.ensures in
    let found : c.unfit_column.result ≡ unfit_column c.args.root.now c.in_ok-chosen.chosen = rw c.as_slice-2.ensures at c.unfit_column.ensures in
    let weighs : c.weight.result ≡ weight_of c.in_ok-chosen.chosen = rw c.as_slice-3.ensures at c.weight.ensures in
    let heavy : slack c.args.root.now c.args.row.now <ℤ pos c.weight.result = (let test : true ≡ int_lt (slack c.args.root.now c.args.row.now) (pos c.weight.result) = rw (to_z-of_z w64 c.slack.result (record { sfits = c.slack.type_inv }), c.slack.ensures) at c.if-not-is_more.ensures in omega (arith, ints, test)) in
    let signs : c.in_ok-terms.terms ≡ signs_of c.in_ok-chosen.chosen = rw c.as_slice-4.ensures at c.in_ok-terms.ensures in
    let asks : c.least-least.result ≡ pos 1 -ℤ pos (negatives_of c.in_ok-chosen.chosen) = rw c.as_slice-5.ensures at c.least-least.ensures in
    rw (to_z-of_z w64 c.least-least.result (record { sfits = c.least-least.type_inv }))
    (cover_made (length c.args.root.now.lows) c.args.root.now c.args.row.now c.args.cols.now c.in_ok-chosen.chosen c.in_ok-terms.terms c.unfit_column.result c.weight.result c.least-least.result c.requires.row c.requires.columns same found c.in_default.is weighs heavy signs asks)
