use Rattle.std.proofs.Common.{ℕ, ◌≡◌, ◌-◌, ◌<◌, List, length, take, drop, sym, ap, ◌∙◌, subst, arith}
use Rattle.std.specs.Prelude.{slice_index_or}
use Rattle.clock_words.specs.Stories.{Lists, due, list_of, words_of}
use Rattle.stamp_machine.specs.Machine.{final}
use Rattle.stamp_machine.specs.Runs.{of_slot}
use Rattle.version_store.specs.Carriers.{heard_of}
use Rattle.version_store.specs.Stories.{entry_list}
use Rattle.version_store.specs.Hearing.{HasHeardMore}
use Rattle.version_store.specs.declared.heard.Heard.{Heard}
use Rattle.version_store.proofs.EntryWords.{list_of_slot}
use Rattle.version_store.proofs.Hears.{count_rises, due_found, heard_more, run_history, take_short, words_found, words_short}
use Rattle.version_store.proofs.hearing.hear.Goals as goal

pub overflow_sub-count : goal.overflow_sub-count
overflow_sub-count g c =
    let t = g.T.Tasker in
    let a = c.args.tasker.now in
    let H = (final (t.rules a) c.args.limits.now).entries in
    let known = run_history g.row.T-View.Denot g.row.T-Local.Denot (t.rules a) (t.fits_view a) (t.fits_local a) (t.may_follow a) (t.agrees a) (g.met.T.Tasker.lawful a) c.args.limits.now c.requires.ranges in
    let here : c.args.slot < c.args.board.now.shape.slots = omega (arith, c.requires.slots, c.requires.slot) in
    let story = ap (λ (l : Lists). list_of l c.args.slot) c.requires.story ∙ list_of_slot H c.args.limits.now.slots c.args.slot c.requires.slot in
    let found = c.due-count.ensures ∙ due_found c.args.board.now c.args.slot c.look-clock.result c.args.seat.now c.look-clock.new.seat _ c.requires.seat here c.look-clock.ensures.view story in
    let rise = count_rises H known c.args.limits.now.slots c.args.slot c.requires.slot c.args.seat.now c.args.merge.now c.args.heard.now c.requires.can c.look-clock.result c.look-clock.ensures.later in
    let from = ap (λ (l : List Heard). (heard_of l c.args.slot).count) c.as_slice.ensures in
    omega (arith, found, rise, from)

pub fetched_words-requires-clause-are_due : goal.fetched_words-requires-clause-are_due
fetched_words-requires-clause-are_due g c =
    let t = g.T.Tasker in
    let a = c.args.tasker.now in
    let H = (final (t.rules a) c.args.limits.now).entries in
    let known = run_history g.row.T-View.Denot g.row.T-Local.Denot (t.rules a) (t.fits_view a) (t.fits_local a) (t.may_follow a) (t.agrees a) (g.met.T.Tasker.lawful a) c.args.limits.now c.requires.ranges in
    let here : c.args.slot < c.args.board.now.shape.slots = omega (arith, c.requires.slots, c.requires.slot) in
    let story = ap (λ (l : Lists). list_of l c.args.slot) c.requires.story ∙ list_of_slot H c.args.limits.now.slots c.args.slot c.requires.slot in
    let found = c.due-count.ensures ∙ due_found c.args.board.now c.args.slot c.look-clock.result c.args.seat.now c.look-clock.new.seat _ c.requires.seat here c.look-clock.ensures.view story in
    let rise = count_rises H known c.args.limits.now.slots c.args.slot c.requires.slot c.args.seat.now c.args.merge.now c.args.heard.now c.requires.can c.look-clock.result c.look-clock.ensures.later in
    let from = ap (λ (l : List Heard). (heard_of l c.args.slot).count) c.as_slice.ensures in
    omega (arith, found, c.due-count.ensures, rise, from)

pub feed_words-requires-clause-can : goal.feed_words-requires-clause-can
feed_words-requires-clause-can g c =
    let t = g.T.Tasker in
    let a = c.args.tasker.now in
    let H = (final (t.rules a) c.args.limits.now).entries in
    let known = run_history g.row.T-View.Denot g.row.T-Local.Denot (t.rules a) (t.fits_view a) (t.fits_local a) (t.may_follow a) (t.agrees a) (g.met.T.Tasker.lawful a) c.args.limits.now c.requires.ranges in
    let here : c.args.slot < c.args.board.now.shape.slots = omega (arith, c.requires.slots, c.requires.slot) in
    let story = ap (λ (l : Lists). list_of l c.args.slot) c.requires.story ∙ list_of_slot H c.args.limits.now.slots c.args.slot c.requires.slot in
    let found = c.due-count.ensures ∙ due_found c.args.board.now c.args.slot c.look-clock.result c.args.seat.now c.look-clock.new.seat _ c.requires.seat here c.look-clock.ensures.view story in
    let rise = count_rises H known c.args.limits.now.slots c.args.slot c.requires.slot c.args.seat.now c.args.merge.now c.args.heard.now c.requires.can c.look-clock.result c.look-clock.ensures.later in
    let from = ap (λ (l : List Heard). (heard_of l c.args.slot).count) c.as_slice.ensures in
    let size : c.due-count.result - (slice_index_or c.as_slice.result.now c.args.slot (record { clock = 0; count = 0 })).count ≡ due (entry_list (of_slot c.args.slot H)) c.look-clock.result - (heard_of c.args.heard.now c.args.slot).count = omega (arith, found, from) in (
      _,
      words_found H known c.args.limits.now.slots c.args.slot c.requires.slot c.args.seat.now c.args.merge.now c.args.heard.now c.requires.can c.look-clock.result c.look-clock.ensures.later _ c.args.board.now.story c.as_slice-2.result.now size story
          (c.as_slice-2.ensures.value ∙ (c.in_ok-words.ensures.words ∙ ap (λ (n : ℕ). take (c.due-count.result - (slice_index_or c.as_slice.result.now c.args.slot (record { clock = 0; count = 0 })).count) (drop n (words_of (list_of c.args.board.now.story c.args.slot)))) from)),
    )

pub feed_words-requires-clause-short : goal.feed_words-requires-clause-short
feed_words-requires-clause-short g c =
    let t = g.T.Tasker in
    let a = c.args.tasker.now in
    let H = (final (t.rules a) c.args.limits.now).entries in
    let known = run_history g.row.T-View.Denot g.row.T-Local.Denot (t.rules a) (t.fits_view a) (t.fits_local a) (t.may_follow a) (t.agrees a) (g.met.T.Tasker.lawful a) c.args.limits.now c.requires.ranges in
    let here : c.args.slot < c.args.board.now.shape.slots = omega (arith, c.requires.slots, c.requires.slot) in
    let story = ap (λ (l : Lists). list_of l c.args.slot) c.requires.story ∙ list_of_slot H c.args.limits.now.slots c.args.slot c.requires.slot in
    let found = c.due-count.ensures ∙ due_found c.args.board.now c.args.slot c.look-clock.result c.args.seat.now c.look-clock.new.seat _ c.requires.seat here c.look-clock.ensures.view story in
    let rise = count_rises H known c.args.limits.now.slots c.args.slot c.requires.slot c.args.seat.now c.args.merge.now c.args.heard.now c.requires.can c.look-clock.result c.look-clock.ensures.later in
    let from = ap (λ (l : List Heard). (heard_of l c.args.slot).count) c.as_slice.ensures in
    let size = ap length (c.as_slice-2.ensures.value ∙ c.in_ok-words.ensures.words) in
    let most = take_short (c.due-count.result - (slice_index_or c.as_slice.result.now c.args.slot (record { clock = 0; count = 0 })).count) (drop (slice_index_or c.as_slice.result.now c.args.slot (record { clock = 0; count = 0 })).count (words_of (list_of c.args.board.now.story c.args.slot))) in
    words_short H known c.args.limits.now.slots c.args.slot c.requires.slot c.args.seat.now c.args.merge.now c.args.heard.now c.requires.can c.look-clock.result c.look-clock.ensures.later c.due-count.result c.as_slice-2.result.now (omega (arith, found)) (omega (arith, size, most))

pub returns-clause-more : goal.returns-clause-more
returns-clause-more g c =
    let t = g.T.Tasker in
    let a = c.args.tasker.now in
    let H = (final (t.rules a) c.args.limits.now).entries in
    let known = run_history g.row.T-View.Denot g.row.T-Local.Denot (t.rules a) (t.fits_view a) (t.fits_local a) (t.may_follow a) (t.agrees a) (g.met.T.Tasker.lawful a) c.args.limits.now c.requires.ranges in
    let here : c.args.slot < c.args.board.now.shape.slots = omega (arith, c.requires.slots, c.requires.slot) in
    let story = ap (λ (l : Lists). list_of l c.args.slot) c.requires.story ∙ list_of_slot H c.args.limits.now.slots c.args.slot c.requires.slot in
    let found = c.due-count.ensures ∙ due_found c.args.board.now c.args.slot c.look-clock.result c.args.seat.now c.look-clock.new.seat _ c.requires.seat here c.look-clock.ensures.view story in
    let rise = count_rises H known c.args.limits.now.slots c.args.slot c.requires.slot c.args.seat.now c.args.merge.now c.args.heard.now c.requires.can c.look-clock.result c.look-clock.ensures.later in
    let from = ap (λ (l : List Heard). (heard_of l c.args.slot).count) c.as_slice.ensures in
    let size : c.due-count.result - (slice_index_or c.as_slice.result.now c.args.slot (record { clock = 0; count = 0 })).count ≡ due (entry_list (of_slot c.args.slot H)) c.look-clock.result - (heard_of c.args.heard.now c.args.slot).count = omega (arith, found, from) in
    let can = words_found H known c.args.limits.now.slots c.args.slot c.requires.slot c.args.seat.now c.args.merge.now c.args.heard.now c.requires.can c.look-clock.result c.look-clock.ensures.later _ c.args.board.now.story c.as_slice-2.result.now size story
    (c.as_slice-2.ensures.value ∙ (c.in_ok-words.ensures.words ∙ ap (λ (n : ℕ). take (c.due-count.result - (slice_index_or c.as_slice.result.now c.args.slot (record { clock = 0; count = 0 })).count) (drop n (words_of (list_of c.args.board.now.story c.args.slot)))) from)) in
    subst (λ (l : List Heard). HasHeardMore H c.args.slot c.args.seat.now c.fetched_words.new.seat c.args.merge.now c.feed_words.new.merge c.args.heard.now l c.look-clock.result) (sym c.set.ensures)
    (heard_more H known c.args.limits.now.slots c.args.slot c.requires.slot c.args.board.now c.args.seat.now c.look-clock.new.seat c.fetched_words.new.seat c.args.merge.now c.feed_words.new.merge c.args.heard.now c.requires.can c.look-clock.result c.look-clock.ensures.later c.requires.seat here _ c.due-count.result
    c.look-clock.ensures.view c.in_ok-words.ensures.seat.1 size found (c.in_ok-feed_words.ensures _ can))
