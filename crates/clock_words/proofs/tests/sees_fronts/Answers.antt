use Rattle.std.proofs.Common.{ℕ, sym, arith}
use Rattle.std.proofs.lemmas.List.{length-take-le}
use Rattle.clock_words.proofs.SampleRows.{most_seen}
use Rattle.clock_words.proofs.tests.sees_fronts.Goals as goal

pub slice_bounds-words-end : goal.slice_bounds-words-end
slice_bounds-words-end c =
    let most = most_seen c.args.board.now _ c.look-clock.ensures.seat c.requires.story in
    let due = c.due-due.ensures in
    let long = c.due-due.array_long in omega arith

pub slice_bounds-front-end : goal.slice_bounds-front-end
slice_bounds-front-end c =
    let most = most_seen c.args.board.now _ c.look-clock.ensures.seat c.requires.story in
    let due = c.due-due.ensures in
    let long = c.due-due.array_long in
    sym (length-take-le c.due-due.result c.loop.words (omega arith))
