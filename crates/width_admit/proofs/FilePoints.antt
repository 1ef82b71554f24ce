use Rattle.std.proofs.Common.{◌∙◌, ◌↔◌, ℕ, List, length, ℤ, Option, sym, subst}
use Rattle.std.proofs.lemmas.List.{length-map}
use Rattle.ip_core.specs.Rows.{AreMet}
use Rattle.ip_core.specs.Truth.{IsFeasible}
use Rattle.ip_core.specs.declared.model.ModelParts.{ModelParts}
use Rattle.mps_model.specs.declared.model.MpsCol.{MpsCol}
use Rattle.mps_model.specs.declared.model.MpsModel.{MpsModel}
use Rattle.mps_model.specs.MpsModels.{IsMpsModel}
use Rattle.width_admit.specs.Admission.{Admits, admitted_model}
use Rattle.width_admit.specs.FilePoints.{AreFileRowsMet, IsSolution}
use Rattle.width_admit.specs.Laws.{AdmissionKeepsRows, AdmissionKeepsPoints}
use Rattle.width_admit.proofs.Models.{unbounded_none}
use Rattle.width_admit.proofs.FileRows.{file_rows}
use Rattle.width_admit.proofs.FileBounds.{column_values}

-- what a point is to the file it is to the admitted model

pub admission_keeps_rows : AdmissionKeepsRows
admission_keeps_rows m upper parts admits x =
    subst (λ (p : ModelParts). AreFileRowsMet m.cols x 0 m.rows ↔ AreMet x p.rows) (sym admits.whole) (file_rows m.cols x 0 m.rows)

of_admitted : (m : MpsModel) (upper : Option ℕ) (x : List ℤ) → IsMpsModel m → Admits m upper (admitted_model m upper) → IsSolution m upper x ↔ IsFeasible (admitted_model m upper) x
of_admitted m upper x valid admits =
    let names = length-map m.cols (λ (c : MpsCol). c.name) in
    let bounded = unbounded_none m upper admits.unrefused in
    let rows = file_rows m.cols x 0 m.rows in (
      λ h. record {
        one_each = h.one_each ∙ sym names;
        inside = (column_values (length m.rows) upper x m.cols valid.cols bounded h.one_each).0 h.inside;
        rows_met = rows.0 h.rows_met;
      },
      λ h. record {
        one_each = h.one_each ∙ names;
        inside = (column_values (length m.rows) upper x m.cols valid.cols bounded (h.one_each ∙ names)).1 h.inside;
        rows_met = rows.1 h.rows_met;
      },
    )

pub admission_keeps_points : AdmissionKeepsPoints
admission_keeps_points m upper parts valid admits x =
    let whole : Admits m upper (admitted_model m upper) = subst (Admits m upper) admits.whole admits in
    subst (λ (p : ModelParts). IsSolution m upper x ↔ IsFeasible p x) (sym admits.whole) (of_admitted m upper x valid whole)
