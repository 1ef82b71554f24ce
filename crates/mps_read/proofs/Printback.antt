use Rattle.std.proofs.Common.{◌≡◌, ◌∙◌, ℕ, List, [], ◌∷◌, ◌++◌, false, codes, refl, sym, subst}
use Rattle.std.proofs.lemmas.List.{append_assoc}
use Rattle.mps_read.specs.Readings.{Read, reading}
use Rattle.mps_read.specs.Drafts.{first_draft}
use Rattle.mps_model.specs.MpsModels.{IsMpsModel}
use Rattle.mps_model.specs.Prints.{data_line, name_line, sense_lines, row_lines, columns_lines, section_lines, sides_lines, range_lines, bound_lines, canonical_text}
use Rattle.mps_model.specs.declared.model.MpsModel.{MpsModel}
use Rattle.mps_read.proofs.Bridge.{begins}
use Rattle.mps_read.proofs.PrintLines.{Gives}
use Rattle.mps_read.proofs.PrintedRows.{name_back, sense_back, rows_section_back}
use Rattle.mps_read.proofs.PrintedColumns.{columns_section_back}
use Rattle.mps_read.proofs.PrintedValues.{sides_section_back, ranges_section_back}
use Rattle.mps_read.proofs.PrintedBounds.{bounds_section_back, end_back}

append-to_right : (a b c d e f g h i j k : List ℕ) → a ++ b ++ c ++ d ++ e ++ f ++ g ++ h ++ i ++ j ++ k ≡ a ++ (b ++ (c ++ (d ++ (e ++ (f ++ (g ++ (h ++ (i ++ (j ++ k)))))))))
append-to_right a b c d e f g h i j k =
    append_assoc (a ++ b ++ c ++ d ++ e ++ f ++ g ++ h ++ i) j k
    ∙ append_assoc (a ++ b ++ c ++ d ++ e ++ f ++ g ++ h) i (j ++ k)
    ∙ append_assoc (a ++ b ++ c ++ d ++ e ++ f ++ g) h (i ++ (j ++ k))
    ∙ append_assoc (a ++ b ++ c ++ d ++ e ++ f) g (h ++ (i ++ (j ++ k)))
    ∙ append_assoc (a ++ b ++ c ++ d ++ e) f (g ++ (h ++ (i ++ (j ++ k))))
    ∙ append_assoc (a ++ b ++ c ++ d) e (f ++ (g ++ (h ++ (i ++ (j ++ k)))))
    ∙ append_assoc (a ++ b ++ c) d (e ++ (f ++ (g ++ (h ++ (i ++ (j ++ k))))))
    ∙ append_assoc (a ++ b) c (d ++ (e ++ (f ++ (g ++ (h ++ (i ++ (j ++ k)))))))
    ∙ append_assoc a b (c ++ (d ++ (e ++ (f ++ (g ++ (h ++ (i ++ (j ++ k))))))))

-- a printed text gives its model, from the draft before the first line on
text_back : (m : MpsModel) → IsMpsModel m → Gives first_draft (canonical_text m) (Read m)
text_back m valid =
    let sides : List ℕ = section_lines (codes "RHS") (sides_lines m) in
    let ranges : List ℕ = section_lines (codes "RANGES") (range_lines m.rows) in
    let bounds : List ℕ = section_lines (codes "BOUNDS") (bound_lines m.cols) in
    let columns : List ℕ = columns_lines m.objective m.rows false m.cols in
    let from_ranges : List ℕ = ranges ++ (bounds ++ codes "ENDATA\n") in
    let from_sides : List ℕ = sides ++ from_ranges in
    let from_columns : List ℕ = codes "COLUMNS\n" ++ (columns ++ from_sides) in
    let from_rows : List ℕ = codes "ROWS\n" ++ (data_line (codes "N" ∷ m.objective ∷ []) ++ (row_lines m.rows ++ from_columns)) in
    let text : canonical_text m ≡ name_line m.name ++ (sense_lines m.maximise ++ from_rows) =
    append-to_right (name_line m.name) (sense_lines m.maximise) (codes "ROWS\n") (data_line (codes "N" ∷ m.objective ∷ [])) (row_lines m.rows) (codes "COLUMNS\n") columns sides ranges bounds (codes "ENDATA\n")
    in
    subst (λ (t : List ℕ). Gives first_draft t (Read m)) (sym text)
    (name_back m.name (sense_lines m.maximise ++ from_rows) (Read m) valid.name
    (λ section early before plain. sense_back section m.name from_rows m.maximise (Read m) early before plain
    (λ s has_sense_line sense ranked given same. rows_section_back m valid from_columns (Read m) s has_sense_line sense ranked given same
    (λ d rows. columns_section_back m valid from_sides (Read m)
    (λ e whole. sides_section_back m valid from_ranges (Read m)
    (λ f valued. ranges_section_back m valid (bounds ++ codes "ENDATA\n") (Read m)
    (λ g ranged. bounds_section_back m valid (codes "ENDATA\n") (Read m) (end_back m) g ranged)
    f valued)
    e whole)
    d rows))))

-- reading a printed text gives its model again
pub reading_canonical_text : (m : MpsModel) → IsMpsModel m → reading (canonical_text m) ≡ Read m
reading_canonical_text m valid = sym (begins first_draft (canonical_text m) refl) ∙ (text_back m valid).each 1
