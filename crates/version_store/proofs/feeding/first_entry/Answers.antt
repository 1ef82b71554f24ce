use Rattle.version_store.proofs.Feeds.{only_memory, read_same}
use Rattle.version_store.proofs.feeding.first_entry.Goals as goal

pub returns-in-Ok : goal.returns-in-Ok
returns-in-Ok c = λ item begins. read_same item c.args.words.now c.in-Ok.read begins c.in-Ok.ensures

pub want_of_memory-requires : goal.want_of_memory-requires
want_of_memory-requires c = only_memory c.requires.begins.0 c.args.words.now c.in-Err.error c.requires.begins.1 c.in-Err.ensures
