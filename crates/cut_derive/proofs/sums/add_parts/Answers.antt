use Rattle.std.proofs.Common.{◌∙◌, length, ap, arith}
use Rattle.ip_core.specs.declared.row.Row.{Row}
use Rattle.ip_core.specs.declared.row_ref.RowRef.TheVariants.{Model}
use Rattle.ip_core.specs.declared.leaf.Pair.{Pair}
use Rattle.cut_derive.proofs.Summing.{light_terms, sums_room, sums_more}
use Rattle.cut_derive.proofs.sums.add_parts.Goals as goal

abbrev none : Pair
none = record { row = Model 0; weight = 0 }

pub add_terms-requires-clause-terms : goal.add_terms-requires-clause-terms
add_terms-requires-clause-terms c = rw (c.as_slice.ensures, c.loop-part.invariant.columns) (light_terms (length c.args.model.now.cols) c.args.model.now.root c.known_row-row.result.now c.known_row-row.ensures.row)

pub add_terms-requires-clause-room : goal.add_terms-requires-clause-room
add_terms-requires-clause-room c = sums_room c.args.model.now c.args.cuts.now c.args.parts.now c.loop-part.part-index c.loop-part.coefs c.parts-limits.ensures.limits c.requires.cuts c.requires.parts c.loop-part.invariant

pub loop-part-preserved : goal.loop-part-preserved
loop-part-preserved c =
    sums_more c.args.model.now c.args.cuts.now c.args.parts.now c.loop-part.part-index none c.as_slice.result.now c.loop-part.coefs c.add_terms.new.coefs c.loop-part-test.true
    (c.as_slice.ensures ∙ ap (λ (row : Row). row.terms) c.known_row-row.ensures.value) c.loop-part.invariant (omega arith) c.add_terms.ensures
