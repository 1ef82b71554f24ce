use Rattle.std.proofs.Common.{List, [], ◌∷◌, ◌++◌, Option, sym, subst, arith}
use Rattle.commit_order.specs.Merges.{IsLeastBelow}
use Rattle.commit_order.specs.Queues.{Queue}
use Rattle.work_stamp.specs.declared.key.Key.{Key}
use Rattle.work_stamp.specs.declared.stamped.KeyedEntry.{KeyedEntry}
use Rattle.version_store.specs.Gathers.{IsTaking}
use Rattle.version_store.proofs.TakenEntries.{all_taken, one_taken}
use Rattle.version_store.proofs.gathering.take_all.Goals as goal

pub loop-entry-preserved : goal.loop-entry-preserved
loop-entry-preserved c =
    subst (λ (es : List KeyedEntry). IsTaking c.args.merge c.take_below.new.self es)
    (sym c.in_ok-push.ensures.ok)
    (subst (λ (qs : List Queue). IsTaking c.args.merge qs (c.loop-entry.entries ++ c.in-Some.entry ∷ []))
    (sym c.in-Some.ensures.left)
    (one_taken c.args.merge c.loop-entry.merge c.loop-entry.entries _ c.in-Some.entry
    c.loop-entry.invariant c.in-Some.ensures.least))

pub returns : goal.returns
returns c =
    let end : Key = record { stamp = 18446744073709551615; slot = 4294967295 } in
    all_taken c.args.merge c.loop-entry.merge c.loop-entry.entries end (omega arith)
    c.loop-entry.invariant
    (subst (λ (o : Option KeyedEntry). IsLeastBelow c.loop-entry.merge end o) c.in_default.is
    c.take_below.ensures.least)
