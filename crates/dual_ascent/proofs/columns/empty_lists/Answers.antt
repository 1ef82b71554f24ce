use Rattle.std.proofs.Common.{◌≡◌, ◌++◌, ◌∷◌, [], ◌∙◌, length, arith, ap}
use Rattle.std.proofs.lemmas.List.{length_push}
use Rattle.dual_ascent.proofs.Transposing.{push_empty}
use Rattle.dual_ascent.proofs.columns.empty_lists.Goals as goal

pub loop-column-preserved : goal.loop-column-preserved
loop-column-preserved c =
    let pushed : c.push.new.self.items ≡ c.loop-column.lists.items ++ [] ∷ [] = c.in_ok-push.ensures.items ∙ ap (λ x. c.loop-column.lists.items ++ x ∷ []) c.new.ensures in
    record {
      long = rw (pushed, length_push) (omega (arith, c.loop-column.invariant.long));
      empty = λ j. rw pushed (push_empty c.loop-column.lists.items c.loop-column.invariant.empty j);
    }
