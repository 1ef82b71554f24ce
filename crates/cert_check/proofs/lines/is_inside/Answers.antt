use Rattle.std.proofs.Common.{◌∙◌, sym}
use Rattle.cert_check.proofs.Faultless.{all_below-false}
use Rattle.cert_check.proofs.lines.is_inside.Goals as goal

pub returns-then-not-is_between : goal.returns-then-not-is_between
returns-then-not-is_between c = sym (all_below-false _ _ c.loop-j.j c.loop-j-test.true (sym c.is_between.ensures ∙ c.if-not-is_between.true))
