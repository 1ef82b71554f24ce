use Rattle.std.proofs.Common.{rules, ◌≡◌, ◌∙◌, ◌+◌, ◌-◌, ◌*◌, min, [], drop, get_or, add-one, sym, ap, arith, refl}
use Rattle.std.proofs.Math.Seq.{drop-cons}
use Rattle.std.proofs.Math.ListN.{drop_of_length-le}
use Rattle.std.proofs.Math.Nat.{min-eq_left}
use Rattle.ip_core.specs.Decimals.{decimal}
use Rattle.ip_core.specs.declared.decimal.TheConstants.{EXPONENT_CAP}
use Rattle.ip_core.proofs.DecimalDigits.{capped_before}
use Rattle.ip_core.proofs.decimal.capped_number.Goals as goal

pub loop-digit-init : goal.loop-digit-init
loop-digit-init c = record { rest = refl; small = omega arith }

pub overflow_mul-number : goal.overflow_mul-number
overflow_mul-number c = search (rules, c.loop-digit.invariant.small)

pub overflow_add-number : goal.overflow_add-number
overflow_add-number c = search (rules, c.loop-digit.invariant.small, c.from.ensures, c.type_inv.digits c.loop-digit.digit-index)

pub loop-digit-preserved : goal.loop-digit-preserved
loop-digit-preserved c =
    let number = c.loop-digit.number in
    let digits = c.args.digits.now in
    let index = c.loop-digit.digit-index in
    let cut = drop-cons digits index 0 c.loop-digit-test.true in
    let after = number * 10 + (get_or digits index 0 - 48) in
    let capped : c.min-number.result ≡ min after EXPONENT_CAP = c.min-number.ensures ∙ ap (λ d. min (number * 10 + d) EXPONENT_CAP) c.from.ensures in
    record {
      rest = ap (λ n. min (decimal n (drop (index + 1) digits)) EXPONENT_CAP) capped
          ∙ capped_before after EXPONENT_CAP (drop (index + 1) digits)
          ∙ ap (λ k. min (decimal after (drop k digits)) EXPONENT_CAP) (add-one index)
          ∙ sym (ap (λ ds. min (decimal number ds) EXPONENT_CAP) cut)
          ∙ c.loop-digit.invariant.rest;
      small = omega (arith, c.min-number.ensures);
    }

pub returns : goal.returns
returns c =
    let after = c.loop-digit-test.false in
    let none : drop c.loop-digit.digit-index c.args.digits.now ≡ [] = drop_of_length-le c.args.digits.now (omega arith) in
    record {
      value = sym (min-eq_left c.loop-digit.invariant.small)
          ∙ ap (λ ds. min (decimal c.loop-digit.number ds) EXPONENT_CAP) (sym none)
          ∙ c.loop-digit.invariant.rest;
    }
