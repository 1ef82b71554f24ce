use Rattle.std.proofs.Common.{◌≡◌, ◌∙◌, pos, ◌+ℤ◌, ◌-ℤ◌, ap, ap₂, w64, FitsSigned, rules}
use Rattle.std.proofs.lemmas.Int.{to_z-of_z}
use Rattle.ip_core.specs.Rows.{activity}
use Rattle.ip_core.specs.Quotients.{ceiling_quotient}
use Rattle.cut_separate.specs.Violations.{rounded_activity, rounded_row_least}
use Rattle.cut_separate.proofs.violation.rounded_row_least.Goals as goal

pub returns : goal.returns
returns c =
    let s = c.args.root.now in
    let row = c.args.row.now in
    let d = c.args.divisor in
    let fits : FitsSigned w64 row.least = search rules in
    let low : c.activity.result ≡ activity s.lows row.terms = rw c.lows-lows.ensures.value at c.activity.ensures.value in
    let asked : c.difference-asked.result ≡ row.least -ℤ activity s.lows row.terms =
    (rw (to_z-of_z w64 row.least fits, to_z-of_z w64 c.activity.result (record { sfits = c.activity.type_inv })) at c.difference-asked.ensures.value) ∙ ap (λ z. row.least -ℤ z) low
    in
    let quotient : c.round_up.result ≡ ceiling_quotient (row.least -ℤ activity s.lows row.terms) (pos d) =
    (rw (to_z-of_z w64 c.difference-asked.result (record { sfits = c.difference-asked.type_inv })) at c.round_up.ensures.value) ∙ ap (λ z. ceiling_quotient z (pos d)) asked
    in
    let rounded : c.rounded_activity.result ≡ rounded_activity d s.lows row.terms = rw c.lows-lows.ensures.value at c.rounded_activity.ensures.value in
    let total : c.sum.result ≡ rounded_row_least s row d =
    (rw (to_z-of_z w64 c.round_up.result (record { sfits = c.round_up.type_inv }), to_z-of_z w64 c.rounded_activity.result (record { sfits = c.rounded_activity.type_inv })) at c.sum.ensures) ∙ ap₂ (λ y z. y +ℤ z) quotient rounded
    in
    rw (to_z-of_z w64 c.sum.result (record { sfits = c.sum.type_inv })) total
