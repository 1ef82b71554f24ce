-- The certificate of the machine's history, if its search is finished, is a proof and has a text.
use Rattle.std.proofs.Common.{◌≡◌, ◌≤◌, ◌<◌, ◌*◌, ◌^◌, Bool, true, false, if◌then◌else◌, length, Option, Some, None, refl, sym, subst, arith}
use Rattle.std.proofs.lemmas.Option.{none-some, same_Some}
use Rattle.ip_core.specs.Models.{IsModel}
use Rattle.ip_core.specs.declared.model.ModelParts.{ModelParts}
use Rattle.stamp_machine.specs.Limits.{AreLimits}
use Rattle.stamp_machine.specs.Machine.{history}
use Rattle.stamp_machine.specs.Ranges.{FitStores}
use Rattle.stamp_machine.specs.declared.history.History.{History}
use Rattle.stamp_machine.specs.declared.limits.Limits.{Limits}
use Rattle.node_pool.specs.Views.{is_finished}
use Rattle.node_pool.specs.declared.settings.SearchSettings.{SearchSettings}
use Rattle.task_steps.specs.Answers.{answer_of, best_found, finished_status}
use Rattle.task_steps.specs.Records.{RecordsHold}
use Rattle.task_steps.specs.Rules.{rules}
use Rattle.task_steps.specs.Sound.{IsFound}
use Rattle.task_steps.specs.Truth.{IsHistory, IsTrueAnswer, IsTrueStatus}
use Rattle.task_steps.specs.declared.answer.Best.{Best}
use Rattle.task_steps.specs.declared.answer.Status.TheVariants.{StoreLimit, WorkLimit}
use Rattle.tree_cert.specs.declared.certificate.Certificate.{Certificate}
use Rattle.cert_text.specs.Certificates.{IsCertificate}
use Rattle.tree_build.specs.Certificates.{certificate_of, if_finished, proof_of}
use Rattle.tree_build.specs.Laws.{IsFinished, IsProof, IsProvedAnswer, IsSmallHistory, last_view}
use Rattle.tree_build.proofs.CertificateRanges.{finished_has_text}
use Rattle.tree_build.proofs.Finished.{finished_is_proof}

-- the best point of a finished search
found_of : (m : ModelParts) (best : Option Best) → IsTrueStatus m (finished_status best) best
    → IsFound m best
found_of m None told = tt
found_of m (Some best) told = (told.0.feasible, told.1)

finished_cases : (m : ModelParts) (best : Option Best) (made : Certificate) (c : Certificate)
    → if_finished (finished_status best) made ≡ Some c → made ≡ c
finished_cases m None made c is = same_Some made c is
finished_cases m (Some best) made c is = same_Some made c is

limit_cases : (halted : Bool) (made c : Certificate)
    → if_finished (if halted then StoreLimit else WorkLimit) made ≡ Some c → ⊥
limit_cases true made c is = none-some c is
limit_cases false made c is = none-some c is

-- what holds of the certificate of a search that is finished holds of one that was made
status_cases : (P : Certificate → Type 0) (m : ModelParts) (made c : Certificate)
    (best : Option Best) (halted t : Bool) → (t ≡ true → IsFound m best → P made)
    → IsTrueStatus m
    (if t then finished_status best else (if halted then StoreLimit else WorkLimit)) best
    → if_finished (if t then finished_status best else (if halted then StoreLimit else WorkLimit))
    made ≡ Some c
    → P c
status_cases P m made c best halted true holds told is =
    subst P (finished_cases m best made c is) (holds refl (found_of m best told))
status_cases P m made c best halted false holds told is =
    absurd (limit_cases halted made c is)

module _ (m : ModelParts) (settings : SearchSettings) (limits : Limits)
    (read : IsHistory m (history (rules m settings) limits).entries)
    (told : IsTrueAnswer m (answer_of m (history (rules m settings) limits).entries))
    (records : RecordsHold m settings limits) where
  abbrev h : History
  h = history (rules m settings) limits

  finished : (best : Option Best) → best ≡ best_found h.entries → is_finished (last_view m h) ≡ true
      → IsFound m best → IsFinished m h best
  finished best is over found =
      subst (IsFinished m h) (sym is)
      (record {
        read = read;
        over = over;
        true_records = λ slot place item there.
            record { leaf = (records.true_records slot place item there).leaf };
        closed_nodes = λ place name key there.
            record { slot = key.slot; record_there = records.closed_nodes place name key there };
        cutoff = records.cutoff;
        found = subst (IsFound m) is found;
      })

  -- what holds of the certificate of each finished search holds of that which was made
  made_holds : (P : Certificate → Type 0)
      → (IsFinished m h (best_found h.entries) → P (certificate_of m h (best_found h.entries)))
      → (c : Certificate) → proof_of m h (answer_of m h.entries) ≡ Some c → P c
  made_holds P holds c is =
      let best = best_found h.entries in
      status_cases P m (certificate_of m h best) c best (last_view m h).has_halt
      (is_finished (last_view m h)) (λ over found. holds (finished best refl over found)) told.told
      is

  -- the stores leave room for few entries, and each record's leaf has few steps
  small_history : AreLimits limits → FitStores (rules m settings) limits → IsSmallHistory h
  small_history ranges stores = record {
    entries = omega (arith, stores.few, stores.all, ranges.small_store);
    steps = λ slot place item there. (records.true_records slot place item there).few;
  }

  pub answer_is_proved : IsModel m → AreLimits limits → FitStores (rules m settings) limits
      → IsProvedAnswer m settings limits
  answer_is_proved valid ranges stores = record {
    each = made_holds (IsProof m) (finished_is_proof m h (best_found h.entries));
    text = made_holds IsCertificate (λ over.
        finished_has_text m h (best_found h.entries) valid over (small_history ranges stores));
  }
