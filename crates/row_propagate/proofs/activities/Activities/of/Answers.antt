use Rattle.std.proofs.Common.{◌≡◌, ◌∙◌, ◌++◌, length, sym, ap, subst}
use Rattle.ip_core.specs.declared.model.ModelParts.{ModelParts}
use Rattle.row_propagate.specs.Kept.{AreColumns, AreSums}
use Rattle.row_propagate.specs.Moves.{HaveTerms}
use Rattle.ip_core.specs.Rows.{AreReady}
use Rattle.ip_core.proofs.Reaching.{rows_ready}
use Rattle.row_propagate.proofs.Movable.{rows_terms}
use Rattle.row_propagate.proofs.activities.Activities.of.Goals as goal

pub sums_of-requires-clause-rows : goal.sums_of-requires-clause-rows
sums_of-requires-clause-rows c =
    let m = c.args.model.now in
    let same = c.as_slice-rows.ensures ∙ ap (λ (p : ModelParts). p.rows) c.parts-parts.ensures.value in
    subst (AreReady c.args.bounds.now) (sym same) (rows_ready (length m.cols) m.root c.args.bounds.now m.rows c.parts-parts.ensures.limits.bounds.box c.requires.reach c.parts-parts.ensures.limits.rows)

pub sums_of-requires-clause-cuts : goal.sums_of-requires-clause-cuts
sums_of-requires-clause-cuts c =
    let m = c.args.model.now in
    rows_ready (length m.cols) m.root c.args.bounds.now c.args.cuts.now c.parts-parts.ensures.limits.bounds.box c.requires.reach c.requires.cuts

pub columns_of-requires-clause-rows : goal.columns_of-requires-clause-rows
columns_of-requires-clause-rows c =
    let m = c.args.model.now in
    let same = c.as_slice-rows.ensures ∙ ap (λ (p : ModelParts). p.rows) c.parts-parts.ensures.value in
    let count : length c.lows.result.now ≡ length m.cols = ap length c.lows.ensures.value ∙ c.requires.reach.columns ∙ c.parts-parts.ensures.limits.bounds.box in
    subst (λ n. HaveTerms n c.as_slice-rows.result.now) (sym count) (subst (HaveTerms (length m.cols)) (sym same) (rows_terms (length m.cols) m.root m.rows c.parts-parts.ensures.limits.rows))

pub columns_of-requires-clause-cuts : goal.columns_of-requires-clause-cuts
columns_of-requires-clause-cuts c =
    let m = c.args.model.now in
    let count : length c.lows.result.now ≡ length m.cols = ap length c.lows.ensures.value ∙ c.requires.reach.columns ∙ c.parts-parts.ensures.limits.bounds.box in
    subst (λ n. HaveTerms n c.args.cuts.now) (sym count) (rows_terms (length m.cols) m.root c.args.cuts.now c.requires.cuts)

pub returns : goal.returns
returns c =
    let m = c.args.model.now in
    let cuts = c.args.cuts.now in
    let same = c.as_slice-rows.ensures ∙ ap (λ (p : ModelParts). p.rows) c.parts-parts.ensures.value in
    let count : length c.lows.result.now ≡ length m.cols = ap length c.lows.ensures.value ∙ c.requires.reach.columns ∙ c.parts-parts.ensures.limits.bounds.box in
    record {
      fit = record { of_rows = c.parts-parts.ensures.limits.rows; of_cuts = c.requires.cuts; box = c.parts-parts.ensures.limits.bounds.box; paired = c.lows.ensures.paired.same_length; reach = c.requires.reach };
      sums = subst (λ rs. AreSums (rs ++ cuts) c.args.bounds.now c.in_ok-sums.sums) same c.in_ok-sums.ensures;
      columns = subst (λ n. AreColumns n (m.rows ++ cuts) c.in_ok-columns.columns) count (subst (λ rs. AreColumns (length c.lows.result.now) (rs ++ cuts) c.in_ok-columns.columns) same c.in_ok-columns.ensures);
    }
