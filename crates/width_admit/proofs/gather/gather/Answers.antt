use Rattle.std.proofs.Common.{◌≡◌, ◌∙◌, ◌+◌, ◌<◌, [], ◌∷◌, ◌++◌, take, get_or, slice_index_or, sym, ap, subst, refl, rules, arith}
use Rattle.std.proofs.lemmas.List.{take_all, take_more}
use Rattle.width_admit.specs.Gathered.{AreGatheredUpTo}
use Rattle.width_admit.specs.declared.gather.Coefficient.{Coefficient}
use Rattle.std.proofs.lemmas.List.{get_or_default}
use Rattle.width_admit.proofs.Gathering.{column_gathered, entry_gathered}
use Rattle.width_admit.proofs.gather.gather.Goals as goal

pub loop-entry-preserved : goal.loop-entry-preserved
loop-entry-preserved c =
    let e = c.entry-item.result in
    let items = c.as_slice-entry-items.result.now in
    let more : take (c.loop-entry.entry-index + 1) items ≡ take c.loop-entry.entry-index items ++ e ∷ [] =
    take_more items c.loop-entry.entry-index e c.loop-entry-test.true ∙ ap (λ x. take c.loop-entry.entry-index items ++ x ∷ []) (sym c.entry-item.is)
    in
    let lists = c.loop-entry.lists.items in
    let made : Coefficient = record { col = c.loop-at.at; value = e.value } in
    let known : e.row < c.args.rows = search (rules, c.requires.columns.each) in
    let read : c.index_mut.result.now ≡ slice_index_or lists e.row [] = c.index_mut.ensures.value ∙ get_or_default lists e.row c.index_mut.result.now [] (omega (arith, known, c.loop-entry.invariant.as_many)) in
    let pushed : c.push.new.self ≡ slice_index_or lists e.row [] ++ made ∷ [] = c.in_ok-push.ensures.ok ∙ ap (λ xs. xs ++ made ∷ []) read in
    rw (more, pushed) (entry_gathered c.args.rows c.loop-at.at (take c.loop-at.at c.args.cols.now) (take c.loop-entry.entry-index items) e made lists c.loop-entry.invariant known refl)

pub loop-at-preserved : goal.loop-at-preserved
loop-at-preserved c =
    let items = c.as_slice-entry-items.result.now in
    let cols = c.args.cols.now in
    let whole : take c.loop-entry.entry-index items ≡ (get_or cols c.loop-at.at c.index-cols-at.result).entries = take_all c.loop-entry.entry-index items c.loop-entry-test.false ∙ c.as_slice-entry-items.ensures in
    column_gathered c.args.rows c.loop-at.at cols c.index-cols-at.result c.loop-entry.lists.items c.loop-at-test.true
    (subst (λ es. AreGatheredUpTo c.args.rows (take c.loop-at.at cols) c.loop-at.at es c.loop-entry.lists.items) whole c.loop-entry.invariant)
