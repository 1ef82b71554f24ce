use Rattle.std.proofs.Common.{rules, ◌≡◌, ◌∙◌, ◌<◌, ◌+◌, ◌-◌, ◌*◌, ◌^◌, ◌++◌, [], drop, take, get_or, suc, add-one, sym, ap, subst, arith, refl}
use Rattle.std.proofs.lemmas.List.{get_or-take, length-take-le}
use Rattle.std.proofs.Math.Seq.{drop-cons}
use Rattle.std.proofs.Math.ListN.{drop_of_length-le}
use Rattle.ip_core.specs.Decimals.{decimal}
use Rattle.ip_core.proofs.DecimalDigits.{digit_below_ten, one_more, few_digits, zero_below}
use Rattle.ip_core.proofs.decimal.number_between.Goals as goal

pub loop-place-init : goal.loop-place-init
loop-place-init c = record { rest = refl; small = zero_below (c.args.from - c.args.from) }

pub overflow_mul-number : goal.overflow_mul-number
overflow_mul-number c =
    let before = c.loop-place-test.true in
    let short = c.requires.short in
    let small = few_digits c.loop-place.number (c.loop-place.place - c.args.from) 17 c.loop-place.invariant.small (omega arith) in
    search (rules, small)

pub overflow_add-number : goal.overflow_add-number
overflow_add-number c =
    let before = c.loop-place-test.true in
    let short = c.requires.short in
    let small = few_digits c.loop-place.number (c.loop-place.place - c.args.from) 17 c.loop-place.invariant.small (omega arith) in
    search (rules, small, c.from.ensures, c.digit_at.type_inv)

pub loop-place-preserved : goal.loop-place-preserved
loop-place-preserved c =
    let all = c.args.whole.now ++ c.args.fraction.now in
    let taken = take c.args.to all in
    let number = c.loop-place.number in
    let place = c.loop-place.place in
    let before = c.loop-place-test.true in
    let long = length-take-le c.args.to all c.requires.known in
    let cut = drop-cons taken place 0 (omega arith) in
    let at = get_or-take c.args.to all place 0 before in
    let digit = c.from.ensures ∙ ap (λ d. d - 48) (c.digit_at.ensures ∙ sym at) in
    let known = c.requires.known in
    let small_digit : c.from.result < 10 = subst (λ d. d < 10) (sym (c.from.ensures ∙ ap (λ d. d - 48) c.digit_at.ensures)) (digit_below_ten all place c.requires.digits (omega arith)) in
    let power : suc (place - c.args.from) ≡ place + 1 - c.args.from = omega (arith, c.loop-place.auto.place) in
    record {
      rest = ap (λ d. decimal (number * 10 + d) (drop (place + 1) taken)) digit
          ∙ ap (λ k. decimal (number * 10 + (get_or taken place 0 - 48)) (drop k taken)) (add-one place)
          ∙ sym (ap (decimal number) cut)
          ∙ c.loop-place.invariant.rest;
      small = subst (λ k. number * 10 + c.from.result < 10 ^ k) power (one_more number c.from.result (place - c.args.from) c.loop-place.invariant.small small_digit);
    }

pub returns-clause-value : goal.returns-clause-value
returns-clause-value c =
    let all = c.args.whole.now ++ c.args.fraction.now in
    let taken = take c.args.to all in
    let after = c.loop-place-test.false in
    let long = length-take-le c.args.to all c.requires.known in
    let none : drop c.loop-place.place taken ≡ [] = drop_of_length-le taken (omega arith) in
    ap (decimal c.loop-place.number) (sym none) ∙ c.loop-place.invariant.rest

pub returns-clause-small : goal.returns-clause-small
returns-clause-small c =
    let short = c.requires.short in
    few_digits c.loop-place.number (c.loop-place.place - c.args.from) 18 c.loop-place.invariant.small (omega (arith, c.loop-place.auto.place-end c.requires.order))
