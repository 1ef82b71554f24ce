use Rattle.std.proofs.Common.{◌∙◌, List, ℕ, ap, arith}
use Rattle.cut_separate.specs.Separation.{separated_cuts}
use Rattle.task_steps.specs.Lemmas.Counts.{climb_little}
use Rattle.task_steps.specs.Lemmas.TaskCuts.{are_cuts}
use Rattle.task_steps.proofs.RootPoints.{chunk_is, point_long_of, point_near_of}
use Rattle.task_steps.proofs.cut_chunk.cut_chunk.Goals as goal

pub ascend-requires-clause-cuts : goal.ascend-requires-clause-cuts
ascend-requires-clause-cuts g c =
    are_cuts c.args.model.now c.args.cuts.now c.parts-limits.ensures.limits c.requires.cuts

pub separate-requires-clause-cuts : goal.separate-requires-clause-cuts
separate-requires-clause-cuts g c =
    are_cuts c.args.model.now c.args.cuts.now c.parts-limits.ensures.limits c.requires.cuts

pub separate-requires-clause-one_each : goal.separate-requires-clause-one_each
separate-requires-clause-one_each g c =
    point_long_of c.args.model.now c.args.cuts.now c.root.result.now c.in_ok-ascent.ascent.mults
    c.in_ok-ascent.ascent.point c.parts-limits.ensures.limits c.in_ok-ascent.ensures.point

pub separate-requires-clause-near : goal.separate-requires-clause-near
separate-requires-clause-near g c =
    point_near_of c.args.model.now c.args.cuts.now c.root.result.now c.in_ok-ascent.ascent.mults
    c.in_ok-ascent.ascent.point c.parts-limits.ensures.limits c.root.ensures
    c.in_ok-ascent.ensures.point

pub cutting_chunk-requires-clause-work : goal.cutting_chunk-requires-clause-work
cutting_chunk-requires-clause-work g c = omega (
  arith,
  c.in_ok-ascent.ensures.work,
  climb_little c.args.model.now c.args.cuts.now c.root.result.now c.parts-limits.ensures.limits
      c.requires.cuts,
)

pub returns-clause-value : goal.returns-clause-value
returns-clause-value g c =
    chunk_is c.args.model.now c.args.cuts.now c.args.chunks c.root.result.now
    c.in_ok-ascent.ascent c.in_ok-new.new c.cutting_chunk.result c.root.ensures
    c.in_ok-ascent.ensures.mults c.in_ok-ascent.ensures.point c.in_ok-ascent.ensures.work
    (c.in_ok-new.ensures
    ∙ ap (λ (ys : List ℕ). separated_cuts c.args.model.now c.args.cuts.now
    c.in_ok-ascent.ascent.point ys) c.as_slice.ensures) c.cutting_chunk.ensures
