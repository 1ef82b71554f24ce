use Rattle.std.proofs.Common.{◌≡◌, replicate}
use Rattle.version_store.proofs.fresh.none_heard.Given as goal

abbrev pub invariant-loop : goal.invariant-loop
invariant-loop l = l.heard ≡ replicate l.counter (record { clock = 0; count = 0 })
