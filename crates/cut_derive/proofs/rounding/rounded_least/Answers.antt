use Rattle.std.proofs.Common.{◌≡◌, ◌∙◌, ◌≤◌, ◌^◌, pos, ◌+◌, ◌+ℤ◌, ◌-ℤ◌, length, unsigned_abs, ap, ap₂, arith}
use Rattle.std.specs.Int.{w128}
use Rattle.std.proofs.lemmas.Int.{to_z-of_z}
use Rattle.ip_core.specs.Numbers.{int_at}
use Rattle.ip_core.specs.Quotients.{ceiling_quotient}
use Rattle.ip_core.proofs.IntSums.{unsigned_abs-add_le}
use Rattle.ip_core.proofs.RunningSums.{both_are}
use Rattle.safe_bound.proofs.Sizes.{small_fits}
use Rattle.cut_derive.specs.Gomory.{rounded_least, low_sum}
use Rattle.cut_derive.proofs.rounding.rounded_least.Goals as goal

pub returns-clause-value : goal.returns-clause-value
returns-clause-value c =
    let s = c.args.root.now in
    let coefs = c.args.coefs.now in
    let d = c.args.divisor in
    let less : c.above_lows-asked.result ≡ c.args.least -ℤ low_sum (length s.lows) s (int_at coefs) = rw (to_z-of_z w128 c.args.least c.ranges.least) at c.above_lows-asked.ensures.value in
    let rounded : c.round_up-rounded.result ≡ ceiling_quotient (c.args.least -ℤ low_sum (length s.lows) s (int_at coefs)) (pos d) =
    (rw (to_z-of_z w128 c.above_lows-asked.result (record { sfits = c.above_lows-asked.type_inv })) at c.round_up-rounded.ensures.value) ∙ ap (λ z. ceiling_quotient z (pos d)) less
    in
    let next : c.round_up-rounded.result +ℤ c.rounded_low_sum-lows.result ≡ rounded_least (length s.lows) s (int_at coefs) c.args.least d = ap₂ (λ y z. y +ℤ z) rounded c.rounded_low_sum-lows.ensures.value in
    let no_larger : unsigned_abs c.round_up-rounded.result ≤ unsigned_abs c.above_lows-asked.result = rw (to_z-of_z w128 c.above_lows-asked.result (record { sfits = c.above_lows-asked.type_inv })) at c.round_up-rounded.ensures.small in
    let first : unsigned_abs c.round_up-rounded.result ≤ 2 ^ 99 = omega (arith, no_larger, c.above_lows-asked.ensures.small) in
    let small : unsigned_abs (c.round_up-rounded.result +ℤ c.rounded_low_sum-lows.result) ≤ 2 ^ 99 + 2 ^ 98 = unsigned_abs-add_le c.round_up-rounded.result c.rounded_low_sum-lows.result (2 ^ 99) (2 ^ 98) first c.rounded_low_sum-lows.ensures.small in
    both_are w128 c.round_up-rounded.result c.rounded_low_sum-lows.result _ (record { sfits = c.round_up-rounded.type_inv }) (record { sfits = c.rounded_low_sum-lows.type_inv }) next (rw (← next) (small_fits (c.round_up-rounded.result +ℤ c.rounded_low_sum-lows.result) (2 ^ 99 + 2 ^ 98) small (omega arith)))
