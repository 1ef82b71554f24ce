use Rattle.std.proofs.Common.{Some}
use Rattle.xsearch_words.proofs.Keys.{changed}
use Rattle.xsearch_words.proofs.files.FileMap.set.Goals as goal

pub returns-clause-ok : goal.returns-clause-ok
returns-clause-ok c =
    rw (← c.into_vec.ensures) (changed c.args.self.now.files c.insert.new.self (Some c.args.bytes) c.into_vec.result.items c.in_ok-insert.ensures.updates)
