use Rattle.std.proofs.Common.{◌≡◌, ◌∙◌, sym, ap, subst}
use Rattle.row_propagate.specs.Points.{HasRowPoints}
use Rattle.row_propagate.specs.Rounding.{narrower_box_by, tight_box}
use Rattle.row_propagate.proofs.Keeping.{tight_box_keeps}
use Rattle.row_propagate.proofs.Stepping.{narrower_box_within}
use Rattle.row_propagate.proofs.single.tighten.Goals as goal

applied : (c : goal.After-tightening) → c.apply.new.bounds ≡ tight_box c.args.row.now c.args.bounds.now c.args.col
applied c = c.apply.ensures ∙ ap (narrower_box_by c.args.bounds.now c.args.col) (sym c.in_ok-bound.was ∙ c.narrower_bound.ensures.value)

pub returns-clause-keeps : goal.returns-clause-keeps
returns-clause-keeps c = subst (HasRowPoints c.args.row.now c.args.bounds.now) (sym (applied c)) (tight_box_keeps c.args.row.now c.args.bounds.now c.args.col c.requires.ready.terms)

pub returns-clause-within : goal.returns-clause-within
returns-clause-within c = rw c.apply.ensures (narrower_box_within c.args.bounds.now c.args.col c.in_ok-bound.bound)
