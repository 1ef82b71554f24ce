use Rattle.std.proofs.Common.{◌≡◌, ◌∙◌, length, true, sym, ap, map}
use Rattle.std.specs.Int.{w128}
use Rattle.std.proofs.lemmas.Int.{to_z-of_z}
use Rattle.ip_core.specs.declared.derivation.Derivation.TheVariants.{Gomory}
use Rattle.leaf_truth.specs.Multipliers.{pairs_of}
use Rattle.cut_derive.specs.Gomory.{is_count}
use Rattle.cut_derive.specs.Premises.{AreParts}
use Rattle.cut_separate.specs.Candidates.{scales}
use Rattle.cut_separate.specs.Separation.{kept_after}
use Rattle.cut_derive.proofs.Summing.{narrow_sum}
use Rattle.cut_separate.proofs.Trying.{combined_some}
use Rattle.cut_separate.proofs.Violating.{parts_of_pairs}
use Rattle.cut_separate.proofs.combined_cuts.keep_combined.Goals as goal

pub combined_coefficients-requires-clause-parts : goal.combined_coefficients-requires-clause-parts
combined_coefficients-requires-clause-parts c =
    let m = c.args.model.now in
    let same : c.in_ok-parts.parts ≡ pairs_of (length m.rows) c.args.mults.now = rw c.rows.ensures at c.in_ok-parts.ensures in
    let few : is_count (length c.in_ok-parts.parts) ≡ true = sym (rw c.len.ensures at c.if-not-is_count.ensures) in
    rw c.as_slice-pairs.ensures (parts_of_pairs m c.args.cuts.now c.args.mults.now c.in_ok-parts.parts c.requires.multipliers same few)

pub keep_scales-requires-clause-narrow : goal.keep_scales-requires-clause-narrow
keep_scales-requires-clause-narrow c =
    let m = c.args.model.now in
    let same : c.in_ok-parts.parts ≡ pairs_of (length m.rows) c.args.mults.now = rw c.rows.ensures at c.in_ok-parts.ensures in
    let few : is_count (length c.in_ok-parts.parts) ≡ true = sym (rw c.len.ensures at c.if-not-is_count.ensures) in
    let parts : AreParts m c.args.cuts.now c.as_slice-pairs.result.now = rw c.as_slice-pairs.ensures (parts_of_pairs m c.args.cuts.now c.args.mults.now c.in_ok-parts.parts c.requires.multipliers same few) in
    rw (to_z-of_z w128 c.combined_least-least.result (record { sfits = c.combined_least-least.type_inv }), c.deref.ensures.value, c.combined_least-least.ensures)
    (narrow_sum m c.args.cuts.now c.as_slice-pairs.result.now c.in_ok-coefs.coefs.items c.parts-limits.ensures.limits c.requires.cuts parts c.in_ok-coefs.ensures)

pub returns : goal.returns
returns c =
    let m = c.args.model.now in
    let same : c.in_ok-parts.parts ≡ pairs_of (length m.rows) c.args.mults.now = rw c.rows.ensures at c.in_ok-parts.ensures in
    let few : is_count (length c.in_ok-parts.parts) ≡ true = sym (rw c.len.ensures at c.if-not-is_count.ensures) in
    let kept : c.keep_scales.new.kept ≡ kept_after m c.args.cuts.now c.args.point.now c.args.kept.now (map (λ divisor. Gomory c.in_ok-parts.parts divisor) scales) = rw c.as_slice-pairs.ensures at c.in_ok-keep_scales.ensures in
    kept ∙ ap (kept_after m c.args.cuts.now c.args.point.now c.args.kept.now) (sym (combined_some m c.args.mults.now c.in_ok-parts.parts same few))

pub combined_least-least-requires-clause-parts : goal.combined_least-least-requires-clause-parts
combined_least-least-requires-clause-parts c =
    let m = c.args.model.now in
    let same : c.in_ok-parts.parts ≡ pairs_of (length m.rows) c.args.mults.now = rw c.rows.ensures at c.in_ok-parts.ensures in
    let few : is_count (length c.in_ok-parts.parts) ≡ true = sym (rw c.len.ensures at c.if-not-is_count.ensures) in
    rw c.as_slice-pairs.ensures (parts_of_pairs m c.args.cuts.now c.args.mults.now c.in_ok-parts.parts c.requires.multipliers same few)
