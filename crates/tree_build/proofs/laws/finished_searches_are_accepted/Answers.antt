use Rattle.tree_build.proofs.Searches.{answer_is_proved}
use Rattle.tree_build.proofs.laws.finished_searches_are_accepted.Goals as goal

pub returns : goal.returns
returns c =
    answer_is_proved c.args.search.now.model c.args.search.now.settings c.args.limits.now
    c.histories_are_read.ensures c.answers_are_true.ensures c.records_hold.ensures
    c.args.search.now.valid c.requires c.entries_fit_stores.ensures
