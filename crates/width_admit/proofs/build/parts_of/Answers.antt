use Rattle.std.proofs.Common.{◌≡◌, ◌∙◌, map, ap, refl, FitsSigned, w64, to_z, of_z}
use Rattle.std.proofs.lemmas.Int.{to_z-of_z}
use Rattle.std.proofs.lemmas.Bool.{or_parts}
use Rattle.mps_model.specs.declared.model.MpsCol.{MpsCol}
use Rattle.width_admit.specs.Columns.{root}
use Rattle.width_admit.specs.ExactRows.{rows_from}
use Rattle.width_admit.specs.Admission.{minimised_number, objective_exponent, whole_costs, whole_constant}
use Rattle.width_admit.specs.Held.{held_whole}
use Rattle.width_admit.proofs.Models.{unrefused}
use Rattle.width_admit.proofs.ObjectiveWidths.{same_objective}
use Rattle.width_admit.proofs.RowModels.{held_rows_are}
use Rattle.width_admit.proofs.build.parts_of.Goals as goal

pub returns : goal.returns
returns c =
    let m = c.args.mps.now in
    let box = root c.args.upper m.cols in
    let all = unrefused m c.args.upper c.requires.unrefused in
    let k_is = c.objective_exponent-exponent.ensures.value in
    let same = same_objective box m.maximise (objective_exponent m) m.cols m.constant (or_parts _ _ all.objective).1 in
    let fits : FitsSigned w64 c.constant_of.result = record { sfits = c.constant_of.type_inv } in
    let costs : c.in_ok-costs_of.field-0 ≡ whole_costs m =
    c.in_ok-costs_of.ensures ∙ ap (λ cols. map (λ (x : MpsCol). minimised_number m.maximise (held_whole c.objective_exponent-exponent.result x.cost)) cols) c.as_slice-cols.ensures
    ∙ ap (λ k. map (λ (x : MpsCol). minimised_number m.maximise (held_whole k x.cost)) m.cols) k_is ∙ same.0
    in
    let constant : to_z w64 (of_z w64 c.constant_of.result) ≡ whole_constant m =
    to_z-of_z w64 c.constant_of.result fits ∙ c.constant_of.ensures ∙ ap (λ k. minimised_number m.maximise (held_whole k m.constant)) k_is ∙ ap (minimised_number m.maximise) same.1
    in
    let rows : c.in_ok-rows_of.field-0 ≡ rows_from m.cols 0 m.rows = c.in_ok-rows_of.ensures ∙ held_rows_are 0 box m.cols m.rows all.wide in
    let names : c.in_ok-names_of.field-0 ≡ map (λ (x : MpsCol). x.name) m.cols = c.in_ok-names_of.ensures ∙ ap (map (λ (x : MpsCol). x.name)) c.as_slice-cols.ensures in
    rw (c.in_ok-copy_of.ensures, names, costs, constant, k_is, c.root.view_is, c.requires.root, rows) refl
