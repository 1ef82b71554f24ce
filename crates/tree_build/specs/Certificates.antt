-- The certificate of a finished search.
use Rattle.std.specs.Prelude.{List, [], ◌∷◌, length, ℤ, pos, ◌+ℤ◌, Option, Some, None}
use Rattle.ip_core.specs.Boxes.{greatest_value}
use Rattle.ip_core.specs.declared.derivation.Derivation.{Derivation}
use Rattle.ip_core.specs.declared.model.ModelParts.{ModelParts}
use Rattle.work_stamp.specs.declared.entry.Entry.{Entry}
use Rattle.work_stamp.specs.declared.entry.Entry.TheVariants.{Start, CutStart, HeurStart, Done, Found, Cut, Split, Closed, Halt}
use Rattle.work_stamp.specs.declared.stamped.KeyedEntry.{KeyedEntry}
use Rattle.stamp_machine.specs.declared.history.History.{History}
use Rattle.task_steps.specs.Sound.{best_point}
use Rattle.task_steps.specs.declared.answer.Answer.{Answer}
use Rattle.task_steps.specs.declared.answer.Best.{Best}
use Rattle.task_steps.specs.declared.answer.Status.{Status}
use Rattle.task_steps.specs.declared.answer.Status.TheVariants.{Optimal, Infeasible, StoreLimit, WorkLimit}
use Rattle.tree_cert.specs.declared.certificate.Certificate.{Certificate}
use Rattle.tree_build.specs.ProofTrees.{proof_tree}

-- how the cut of an entry follows, if it is a cut
abbrev pub derivation_of : Entry → Option Derivation
derivation_of (Start node) = None
derivation_of CutStart = None
derivation_of (HeurStart node) = None
derivation_of Done = None
derivation_of (Found value point) = None
derivation_of (Cut derivation) = Some derivation
derivation_of (Split node col at first keep bound) = None
derivation_of (Closed node) = None
derivation_of Halt = None

abbrev pub with_derivation : Option Derivation → List Derivation → List Derivation
with_derivation None cuts = cuts
with_derivation (Some derivation) cuts = derivation ∷ cuts

-- how each cut of a history follows, in order
abbrev pub derivations_of : List KeyedEntry → List Derivation
derivations_of [] = []
derivations_of (e ∷ es) = with_derivation (derivation_of e.entry) (derivations_of es)

-- the value of the best point, and with no point one more than the greatest value on the root box
abbrev pub shown_value : ModelParts → Option Best → ℤ
shown_value m None = greatest_value m m.root +ℤ pos 1
shown_value m (Some best) = best.value

-- the certificate of a history with its best point
abbrev pub certificate_of : ModelParts → History → Option Best → Certificate
certificate_of m history best = record {
  cols = length m.cols;
  rows = length m.rows;
  value = shown_value m best;
  point = best_point best;
  cuts = derivations_of history.entries;
  nodes = proof_tree history.records history.entries;
}

-- a certificate is made where the search is finished
abbrev pub if_finished : Status → Certificate → Option Certificate
if_finished Optimal certificate = Some certificate
if_finished Infeasible certificate = Some certificate
if_finished StoreLimit certificate = None
if_finished WorkLimit certificate = None

-- the certificate that a history with this answer makes, if it is finished
abbrev pub proof_of : ModelParts → History → Answer → Option Certificate
proof_of m history answer = if_finished answer.status (certificate_of m history answer.best)
