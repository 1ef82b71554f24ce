-- What an advance leaves of a carrier's state, by its answer.
use Rattle.std.proofs.Common.{◌≡◌, true, not, Result, sym, ap, ◌∙◌, subst, IfOk}
use Rattle.ip_core.specs.declared.memory.OutOfMemory.{OutOfMemory}
use Rattle.work_stamp.specs.Taskers.{Rules}
use Rattle.version_store.specs.Advances.{HasAdvanced, Moves, Ends, Waits, Breaks, IsSameRun, lives, lives_while_whole, ended_while_whole, has_live}
use Rattle.version_store.specs.Carriers.{CarrierView}
use Rattle.version_store.specs.declared.advance.Advance.{Advance}
use Rattle.task_crew.specs.Crews.{IsAfterMove, run_of}

module _ {T V L : Type 0} where
  pub after : (r : Rules V L) (old new : CarrierView T V L) (result : Result Advance OutOfMemory) →
      HasAdvanced r old new result → lives old ≡ true → IfOk result (λ does. IsAfterMove does new)
  after r old new result (Moves p q is was now move live rises spares) live_old =
      subst (λ x. IfOk x (λ does. IsAfterMove does new)) (sym is) (ap lives_while_whole now ∙ live)
  after r old new result (Ends p q is was now move over spares) live_old =
      subst (λ x. IfOk x (λ does. IsAfterMove does new)) (sym is) (ap ended_while_whole now ∙ ap not over)
  after r old new result (Waits p q slot clock is was now waits spares) live_old =
      subst (λ x. IfOk x (λ does. IsAfterMove does new)) (sym is) (ap lives_while_whole now
      ∙ (ap (λ s. has_live s.live) waits.slot_stays ∙ (sym (ap lives_while_whole was) ∙ live_old)))
  after r old new result (Breaks e is none) live_old = subst (λ x. IfOk x (λ does. IsAfterMove does new)) (sym is) tt

  pub same_run : (old new : CarrierView T V L) → IsSameRun old new → run_of new ≡ run_of old
  same_run old new same = λ i. record { tasker = same.tasker i; limits = same.limits i; board = same.board i }
