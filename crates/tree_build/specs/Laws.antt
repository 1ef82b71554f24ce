-- What a finished search shows by its certificate.
use Rattle.std.specs.Prelude.{ℕ, ◌≡◌, ◌≤◌, ◌<◌, ◌^◌, true, List, length, Option, Some}
use Rattle.ip_core.specs.Models.{IsModel}
use Rattle.ip_core.specs.declared.leaf.Record.{Record}
use Rattle.ip_core.specs.declared.model.ModelParts.{ModelParts}
use Rattle.search_truth.specs.Search.{cutoff_of}
use Rattle.leaf_truth.specs.Leaves.{IsValidLeaf}
use Rattle.work_stamp.specs.Histories.{keyed_entry}
use Rattle.work_stamp.specs.declared.entry.Entry.TheVariants.{Closed}
use Rattle.work_stamp.specs.declared.key.Key.{Key}
use Rattle.work_stamp.specs.declared.stamped.KeyedEntry.{KeyedEntry}
use Rattle.stamp_machine.specs.Machine.{history}
use Rattle.stamp_machine.specs.Records.{records_of}
use Rattle.stamp_machine.specs.Slots.{at}
use Rattle.stamp_machine.specs.declared.history.History.{History}
use Rattle.stamp_machine.specs.declared.limits.Limits.{Limits}
use Rattle.node_pool.specs.Branchings.{box_of}
use Rattle.node_pool.specs.Views.{View, is_finished, view_of}
use Rattle.node_pool.specs.declared.settings.SearchSettings.{SearchSettings}
use Rattle.task_steps.specs.Answers.{answer_of, splits_alone}
use Rattle.task_steps.specs.Records.{HasRecord}
use Rattle.task_steps.specs.Rules.{rules}
use Rattle.task_steps.specs.Sound.{IsFound, best_point}
use Rattle.task_steps.specs.Truth.{IsHistory}
use Rattle.task_steps.specs.declared.answer.Best.{Best}
use Rattle.tree_cert.specs.Trees.{IsTree}
use Rattle.tree_cert.specs.declared.certificate.Certificate.{Certificate}
use Rattle.cert_check.specs.Verdicts.{IsAccepted}
use Rattle.cert_text.specs.Certificates.{IsCertificate}
use Rattle.tree_build.specs.Certificates.{certificate_of, proof_of}
use Rattle.tree_build.specs.ProofTrees.{proof_tree}

-- the view of a whole history
abbrev pub last_view : ModelParts → History → View
last_view m history = view_of m splits_alone history.entries

-- the leaf holds on the box of the node of a name, at the last cutoff over the last cuts
pub record HoldsAtEnd (m : ModelParts) (history : History) (item : Record) : Type 0 where
  pub leaf : IsValidLeaf m (last_view m history).cuts (last_view m history).cutoff
      (box_of m.root (last_view m history).branches item.node) item.leaf

-- one of the slots has a record of this name
pub record HasSomeRecord (history : History) (name : ℕ) : Type 0 where
  pub slot : ℕ
  pub record_there : HasRecord (records_of history slot) name

-- A finished search: each entry may follow those before it, and at the end no node is open or held.
-- Each record's leaf holds at the end, and each node that was closed has a record. The last cutoff
-- is the value of the best point, which is feasible; or with no point one more than any value.
pub record IsFinished (m : ModelParts) (history : History) (best : Option Best) : Type 0 where
  pub read : IsHistory m history.entries
  pub over : is_finished (last_view m history) ≡ true
  pub true_records : (slot place : ℕ) (item : Record)
      → at (records_of history slot) place ≡ Some item → HoldsAtEnd m history item
  pub closed_nodes : (place name : ℕ) (key : Key)
      → at history.entries place ≡ Some (keyed_entry key (Closed name)) → HasSomeRecord history name
  pub cutoff : (last_view m history).cutoff ≡ cutoff_of m (best_point best)
  pub found : IsFound m best

-- few entries, and few steps in the leaf of each record
pub record IsSmallHistory (history : History) : Type 0 where
  pub entries : length history.entries < 2 ^ 31
  pub steps : (slot place : ℕ) (item : Record)
      → at (records_of history slot) place ≡ Some item → length item.leaf.steps ≤ 2 ^ 21

-- the nodes are one tree, and the checker accepts the certificate
pub record IsProof (m : ModelParts) (c : Certificate) : Type 0 where
  pub tree : IsTree c.nodes
  pub accepted : IsAccepted m c

-- whatever the history and the records, they make one tree
abbrev pub TreesAreWhole : Type 0
TreesAreWhole = (lists : List (List Record)) (entries : List KeyedEntry)
    → IsTree (proof_tree lists entries)

-- the certificate of a finished search is a proof
abbrev pub FinishedIsProof : Type 0
FinishedIsProof = (m : ModelParts) (history : History) (best : Option Best)
    → IsFinished m history best → IsProof m (certificate_of m history best)

-- the certificate of a finished search of few entries and steps has a text that is read as it
abbrev pub FinishedHasText : Type 0
FinishedHasText = (m : ModelParts) (history : History) (best : Option Best) → IsModel m
    → IsFinished m history best → IsSmallHistory history
    → IsCertificate (certificate_of m history best)

-- a certificate that was made is a proof, and has a text that is read as it
pub record IsProofIfMade (m : ModelParts) (made : Option Certificate) : Type 0 where
  pub each : (c : Certificate) → made ≡ Some c → IsProof m c
  pub text : (c : Certificate) → made ≡ Some c → IsCertificate c

-- the certificate of the machine's history, which is made if its search is finished, is a proof,
-- and has a text that is read as it
abbrev pub IsProvedAnswer : ModelParts → SearchSettings → Limits → Type 0
IsProvedAnswer m settings limits = IsProofIfMade m (proof_of m (history (rules m settings) limits)
    (answer_of m (history (rules m settings) limits).entries))
