use Rattle.std.proofs.Common.{◌≡◌, ◌∙◌, ◌+◌, ◌-◌, ◌*◌, ◌<◌, true, drop, get_or, sym, ap, arith}
use Rattle.std.proofs.lemmas.List.{drop_more}
use Rattle.ip_core.specs.Decimals.{decimal}
use Rattle.cert_line.specs.Numerals.{is_canonical}
use Rattle.cert_line.proofs.Numbers.{too_great_before}
use Rattle.cert_line.proofs.numeral.natural_of.Goals as goal

pub returns-then-number-from-clause-value : goal.returns-then-number-from-clause-value
returns-then-number-from-clause-value c =
    let word = c.args.word.now in
    let index = c.loop-digit.digit-index in
    let after = c.loop-digit.number * 10 + (get_or word index 0 - 48) in
    let canonical : is_canonical word ≡ true = sym c.is_canonical.ensures ∙ c.if-not-is_canonical.false in
    let same : decimal after (drop (index + 1) word) ≡ decimal 0 word =
    sym (ap (decimal c.loop-digit.number) (drop_more word index 0 c.loop-digit-test.true)) ∙ c.loop-digit.invariant.rest in
    let great : c.args.most < after = omega (arith, c.from.ensures, c.from-in-loop-digit.ensures, c.if-number-from.true) in
    sym (too_great_before c.args.most after word (drop (index + 1) word) canonical same great)
