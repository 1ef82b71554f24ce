use Rattle.std.proofs.Common.{◌≡◌, ◌^◌, ◌+◌, length, arith, unsigned_abs, FitsSigned, w64}
use Rattle.std.specs.Int.{w128}
use Rattle.std.proofs.lemmas.Int.{to_z-of_z}
use Rattle.ip_core.specs.Numbers.{int_at, sum_below}
use Rattle.ip_core.specs.Rows.{part_width}
use Rattle.ip_core.proofs.Widths.{narrow_fits}
use Rattle.cut_derive.specs.Gomory.{rounded_coefficient, rounded_least}
use Rattle.cut_derive.proofs.Sizes.{coefficient_within}
use Rattle.cut_derive.proofs.Gomorying.{held_of, held_wide, held_long, held_given, held_narrow, held_least}
use Rattle.cut_derive.proofs.gomory.rounded_row.Goals as goal

pub rounded_terms-requires-clause-small : goal.rounded_terms-requires-clause-small
rounded_terms-requires-clause-small c = λ j h.
    omega (arith, c.requires.narrow.narrow, coefficient_within c.args.root.now c.args.coefs.now j (omega (arith, h, c.requires.narrow.columns)))

pub rounded_terms-requires-clause-narrow : goal.rounded_terms-requires-clause-narrow
rounded_terms-requires-clause-narrow c =
    let s = c.args.root.now in
    let b = c.rounded_least-asked.result in
    let value : b ≡ rounded_least (length s.lows) s (int_at c.args.coefs.now) c.args.least c.args.divisor = rw (to_z-of_z w128 c.args.least c.ranges.least) at c.rounded_least-asked.ensures.value in
    let width : c.rounded_width.result ≡ unsigned_abs b + sum_below (length s.lows) (λ j. part_width s (rounded_coefficient (int_at c.args.coefs.now) c.args.divisor j) j) = rw (to_z-of_z w128 b (record { sfits = c.rounded_least-asked.type_inv })) at c.rounded_width.ensures in
    held_narrow s c.args.coefs.now c.args.least c.args.divisor b c.rounded_width.result (held_of s c.args.coefs.now c.args.least c.args.divisor b c.rounded_width.result c.requires.narrow.columns value width) c.if-rounded_width-gt-MAX_WIDTH.false

pub returns-then-rounded_width-gt-MAX_WIDTH : goal.returns-then-rounded_width-gt-MAX_WIDTH
returns-then-rounded_width-gt-MAX_WIDTH c =
    let s = c.args.root.now in
    let b = c.rounded_least-asked.result in
    let value : b ≡ rounded_least (length s.lows) s (int_at c.args.coefs.now) c.args.least c.args.divisor = rw (to_z-of_z w128 c.args.least c.ranges.least) at c.rounded_least-asked.ensures.value in
    let width : c.rounded_width.result ≡ unsigned_abs b + sum_below (length s.lows) (λ j. part_width s (rounded_coefficient (int_at c.args.coefs.now) c.args.divisor j) j) = rw (to_z-of_z w128 b (record { sfits = c.rounded_least-asked.type_inv })) at c.rounded_width.ensures in
    held_wide s c.args.coefs.now c.args.least c.args.divisor b c.rounded_width.result (held_of s c.args.coefs.now c.args.least c.args.divisor b c.rounded_width.result c.requires.narrow.columns value width) c.if-rounded_width-gt-MAX_WIDTH.true

pub returns-then-len-gt-MAX_CUT_TERMS : goal.returns-then-len-gt-MAX_CUT_TERMS
returns-then-len-gt-MAX_CUT_TERMS c =
    let s = c.args.root.now in
    let b = c.rounded_least-asked.result in
    let value : b ≡ rounded_least (length s.lows) s (int_at c.args.coefs.now) c.args.least c.args.divisor = rw (to_z-of_z w128 c.args.least c.ranges.least) at c.rounded_least-asked.ensures.value in
    let width : c.rounded_width.result ≡ unsigned_abs b + sum_below (length s.lows) (λ j. part_width s (rounded_coefficient (int_at c.args.coefs.now) c.args.divisor j) j) = rw (to_z-of_z w128 b (record { sfits = c.rounded_least-asked.type_inv })) at c.rounded_width.ensures in
    held_long s c.args.coefs.now c.args.least c.args.divisor b c.rounded_width.result c.in_ok-terms.terms (held_of s c.args.coefs.now c.args.least c.args.divisor b c.rounded_width.result c.requires.narrow.columns value width) c.if-rounded_width-gt-MAX_WIDTH.false c.in_ok-terms.ensures (rw c.len.ensures at c.if-len-gt-MAX_CUT_TERMS.true)

pub returns : goal.returns
returns c =
    let s = c.args.root.now in
    let b = c.rounded_least-asked.result in
    let value : b ≡ rounded_least (length s.lows) s (int_at c.args.coefs.now) c.args.least c.args.divisor = rw (to_z-of_z w128 c.args.least c.ranges.least) at c.rounded_least-asked.ensures.value in
    let width : c.rounded_width.result ≡ unsigned_abs b + sum_below (length s.lows) (λ j. part_width s (rounded_coefficient (int_at c.args.coefs.now) c.args.divisor j) j) = rw (to_z-of_z w128 b (record { sfits = c.rounded_least-asked.type_inv })) at c.rounded_width.ensures in
    let held = held_of s c.args.coefs.now c.args.least c.args.divisor b c.rounded_width.result c.requires.narrow.columns value width in
    let fits : FitsSigned w64 b = narrow_fits b (2 ^ 50) (held_least s c.args.coefs.now c.args.least c.args.divisor b c.rounded_width.result held c.if-rounded_width-gt-MAX_WIDTH.false) (omega arith) in
    held_given s c.args.coefs.now c.args.least c.args.divisor b _ c.rounded_width.result c.in_ok-terms.terms held c.if-rounded_width-gt-MAX_WIDTH.false c.in_ok-terms.ensures (rw c.len.ensures at c.if-len-gt-MAX_CUT_TERMS.false)
    (rw (to_z-of_z w128 b (record { sfits = c.rounded_least-asked.type_inv })) (to_z-of_z w64 b fits))
