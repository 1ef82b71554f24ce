use Rattle.std.proofs.Common.{◌≡◌, ◌∙◌, ◌+◌, ℕ, length, sym}
use Rattle.sample_model.specs.Draws.{after, draw_below, next}
use Rattle.sample_model.specs.Knapsacks.{knapsack, past_place, row_coefficients}
use Rattle.sample_model.specs.Samples.{sample}
use Rattle.sample_model.proofs.SampleLaws.{rows_length, cols_length}
use Rattle.sample_model.proofs.Series.{series_length}

-- a sample model has as many rows and columns as it is drawn with

pub sample_rows : (rows cols z : ℕ) → length (sample rows cols z).rows ≡ rows
sample_rows rows cols z =
    let k = knapsack rows cols z in
    rows_length k.uppers 0 k.coefficients ∙ series_length (row_coefficients cols) (after past_place cols) rows (after next cols (after next cols z))

pub sample_columns : (rows cols z : ℕ) → length (sample rows cols z).cols ≡ cols
sample_columns rows cols z =
    let k = knapsack rows cols z in
    let uppers : length k.uppers ≡ cols = series_length (λ y. 1 + draw_below 3 y) next cols z in
    let costs : length k.costs ≡ cols = series_length (λ y. 1 + draw_below 100 y) next cols (after next cols z) in
    cols_length k.coefficients 0 k.uppers k.costs (costs ∙ sym uppers) ∙ uppers

-- both counts
pub ruleset sample_sizes = (sample_rows, sample_columns)
