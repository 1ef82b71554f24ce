use Rattle.std.proofs.Common.{◌≡◌, ◌∙◌, ◌+◌, ◌<◌, ◌≤◌, ◌^◌, length, take, drop, ap, arith}
use Rattle.ip_core.specs.Numbers.{int_at}
use Rattle.ip_core.specs.Models.{IsModel}
use Rattle.safe_bound.specs.Premises.{AreSmall, AreWithin}
use Rattle.safe_bound.proofs.Smallness.{rows_light}
use Rattle.safe_bound.proofs.Reducing.{front_small, scaled_small, roomier, taken_room, reduced_is}
use Rattle.safe_bound.proofs.costs.reduce.Goals as goal

pub subtract_rows-requires-clause-rows : goal.subtract_rows-requires-clause-rows
subtract_rows-requires-clause-rows c =
    let m = c.args.model.now in
    let valid : IsModel m = c.parts-parts.ensures.limits in
    let columns : c.len.result ≡ length m.cols = c.len.ensures ∙ ap (λ p. length p.costs) c.parts-parts.ensures.value ∙ valid.bounds.costs in
    let rows : c.as_slice-rows.result.now ≡ m.rows = c.as_slice-rows.ensures ∙ ap (λ p. p.rows) c.parts-parts.ensures.value in
    rw (columns, rows) (rows_light (length m.cols) m.root m.rows valid.rows)

pub subtract_rows-requires-clause-room : goal.subtract_rows-requires-clause-room
subtract_rows-requires-clause-room c =
    let m = c.args.model.now in
    let valid : IsModel m = c.parts-parts.ensures.limits in
    let columns : c.len.result ≡ length m.cols = c.len.ensures ∙ ap (λ p. length p.costs) c.parts-parts.ensures.value ∙ valid.bounds.costs in
    let costs : c.as_slice.result.now ≡ m.costs = c.as_slice.ensures ∙ ap (λ p. p.costs) c.parts-parts.ensures.value in
    rw columns (roomier (length m.cols) (2 ^ 60) (2 ^ 124) c.scale.new.scaled (omega arith) (scaled_small m c.scale.new.scaled c.as_slice.result.now valid costs c.scale.ensures))

pub subtract_rows-requires-2-clause-rows : goal.subtract_rows-requires-2-clause-rows
subtract_rows-requires-2-clause-rows c =
    let m = c.args.model.now in
    let valid : IsModel m = c.parts-parts.ensures.limits in
    let columns : c.len-2.result ≡ length m.cols = c.len-2.ensures ∙ ap (λ p. length p.costs) c.parts-parts.ensures.value ∙ valid.bounds.costs in
    rw columns (rows_light (length m.cols) m.root c.args.cuts.now c.requires.cuts.rows)

pub subtract_rows-requires-2-clause-room : goal.subtract_rows-requires-2-clause-room
subtract_rows-requires-2-clause-room c =
    let m = c.args.model.now in
    let n = length m.cols in
    let valid : IsModel m = c.parts-parts.ensures.limits in
    let columns : c.len.result ≡ n = c.len.ensures ∙ ap (λ p. length p.costs) c.parts-parts.ensures.value ∙ valid.bounds.costs in
    let columns2 : c.len-2.result ≡ n = c.len-2.ensures ∙ ap (λ p. length p.costs) c.parts-parts.ensures.value ∙ valid.bounds.costs in
    let costs : c.as_slice.result.now ≡ m.costs = c.as_slice.ensures ∙ ap (λ p. p.costs) c.parts-parts.ensures.value in
    let rows : c.as_slice-rows.result.now ≡ m.rows = c.as_slice-rows.ensures ∙ ap (λ p. p.rows) c.parts-parts.ensures.value in
    let scaled : AreWithin n (2 ^ 60) c.scale.new.scaled = scaled_small m c.scale.new.scaled c.as_slice.result.now valid costs c.scale.ensures in
    let small : AreSmall c.split_at.result.0.now = front_small _ c.args.mults.now c.split_at.result.0.now c.split_at.ensures.front c.requires.multipliers.small in
    let light = rows_light n m.root m.rows valid.rows in
    let few : length m.rows ≤ 2 ^ 31 = omega (arith, valid.few.row_limit) in
    rw columns2 (roomier n (2 ^ 60 + 2 ^ 121) (2 ^ 124) c.subtract_rows.new.costs (omega arith) (taken_room n (2 ^ 60) c.scale.new.scaled c.subtract_rows.new.costs c.as_slice-rows.result.now c.split_at.result.0.now scaled (rw rows light) small (rw rows few) (λ j h. c.subtract_rows.ensures j (rw columns h))))

pub returns : goal.returns
returns c = λ j h.
    let m = c.args.model.now in
    let valid : IsModel m = c.parts-parts.ensures.limits in
    let columns : c.len.result ≡ length m.cols = c.len.ensures ∙ ap (λ p. length p.costs) c.parts-parts.ensures.value ∙ valid.bounds.costs in
    let columns2 : c.len-2.result ≡ length m.cols = c.len-2.ensures ∙ ap (λ p. length p.costs) c.parts-parts.ensures.value ∙ valid.bounds.costs in
    let costs : c.as_slice.result.now ≡ m.costs = c.as_slice.ensures ∙ ap (λ p. p.costs) c.parts-parts.ensures.value in
    let rows : c.as_slice-rows.result.now ≡ m.rows = c.as_slice-rows.ensures ∙ ap (λ p. p.rows) c.parts-parts.ensures.value in
    let known : j < length c.as_slice.result.now = rw costs (omega (arith, valid.bounds.costs)) in
    let front : c.split_at.result.0.now ≡ take (length m.rows) c.args.mults.now = rw rows at c.split_at.ensures.front in
    let back : c.split_at.result.1.now ≡ drop (length m.rows) c.args.mults.now = rw rows at c.split_at.ensures.back in
    reduced_is m c.args.cuts.now c.args.mults.now j (int_at c.scale.new.scaled j) (int_at c.subtract_rows.new.costs j) (int_at c.subtract_rows-2.new.costs j) (rw costs at (c.scale.ensures j known)) (rw (rows, front) at (c.subtract_rows.ensures j (rw columns h))) (rw back at (c.subtract_rows-2.ensures j (rw columns2 h)))
