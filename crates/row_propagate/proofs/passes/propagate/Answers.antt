use Rattle.std.proofs.Common.{◌≡◌, ◌∙◌, ℕ, ◌+◌, ◌*◌, ◌++◌, length, replicate, false, refl, sym, ap, ap₂, subst}
use Rattle.ip_core.specs.Models.{term_count}
use Rattle.ip_core.specs.declared.model.ModelParts.{ModelParts}
use Rattle.row_propagate.specs.Passes.{Propagation, after_passes, counted_run, open_run, run_of}
use Rattle.ip_core.specs.Rows.{AreReady, AreShort}
use Rattle.row_propagate.specs.Lawful.{AreLawfulSteps}
use Rattle.ip_core.proofs.RisingColumns.{rows_short}
use Rattle.ip_core.proofs.Reaching.{model_within_reach, rows_ready}
use Rattle.row_propagate.specs.Kept.{AreSums}
use Rattle.row_propagate.proofs.VisitLaws.{passing_start}
use Rattle.row_propagate.proofs.Propagating.{propagation_empty, propagation_solid, empty_caused, replay_all, box_keeps, none_met, run_caused}
use Rattle.row_propagate.proofs.passes.propagate.Goals as goal

pub returns-in-Some-clause-sides : goal.returns-in-Some-clause-sides
returns-in-Some-clause-sides c = sym (ap (λ (p : Propagation). p.sides) (propagation_empty c.args.model.now.rows c.args.cuts.now c.args.bounds.now c.in-Some.col c.in-Some.ensures))

pub returns-in-Some-clause-steps : goal.returns-in-Some-clause-steps
returns-in-Some-clause-steps c = c.requires.unlisted ∙ sym (ap (λ (p : Propagation). p.steps) (propagation_empty c.args.model.now.rows c.args.cuts.now c.args.bounds.now c.in-Some.col c.in-Some.ensures))

pub returns-in-Some-clause-run : goal.returns-in-Some-clause-run
returns-in-Some-clause-run c = sym (ap (λ (p : Propagation). p.run) (propagation_empty c.args.model.now.rows c.args.cuts.now c.args.bounds.now c.in-Some.col c.in-Some.ensures))

pub of-requires-clause-rows : goal.of-requires-clause-rows
of-requires-clause-rows c =
    let m = c.args.model.now in
    let same = c.as_slice-rows.ensures ∙ ap (λ (p : ModelParts). p.rows) c.parts-parts.ensures.value in
    subst (AreReady c.args.bounds.now) (sym same) (rows_ready (length m.cols) m.root c.args.bounds.now m.rows c.parts-parts.ensures.limits.bounds.box (model_within_reach m c.args.bounds.now c.parts-parts.ensures.limits (c.requires.within c.in_default.ensures) c.in_default.ensures) c.parts-parts.ensures.limits.rows)

pub of-requires-clause-cuts : goal.of-requires-clause-cuts
of-requires-clause-cuts c =
    let m = c.args.model.now in
    rows_ready (length m.cols) m.root c.args.bounds.now c.args.cuts.now c.parts-parts.ensures.limits.bounds.box (model_within_reach m c.args.bounds.now c.parts-parts.ensures.limits (c.requires.within c.in_default.ensures) c.in_default.ensures) c.requires.cuts

pub run_passes-requires-clause-passing : goal.run_passes-requires-clause-passing
run_passes-requires-clause-passing c =
    let m = c.args.model.now in
    let cuts = c.args.cuts.now in
    let same = c.as_slice-rows.ensures ∙ ap (λ (p : ModelParts). p.rows) c.parts-parts.ensures.value in
    passing_start m cuts c.args.bounds.now c.in_ok-visits.visits c.parts-parts.ensures.limits c.requires.cuts (c.requires.within c.in_default.ensures) c.in_default.ensures
    (subst (λ rs. AreSums (rs ++ cuts) c.args.bounds.now c.in_ok-visits.visits.activities.sums) same c.in_ok-visits.ensures.sums)
    c.in_ok-visits.ensures.columns
    (subst (λ rs. c.in_ok-visits.visits.quiet ≡ replicate (length (rs ++ cuts)) false) same c.in_ok-visits.ensures.quiet)

pub returns-in_err-visits-clause-lawful : goal.returns-in_err-visits-clause-lawful
returns-in_err-visits-clause-lawful c = subst (AreLawfulSteps c.args.model.now.rows c.args.cuts.now c.args.bounds.now) (sym c.requires.unlisted) tt

pub term_count-requires-clause-short : goal.term_count-requires-clause-short
term_count-requires-clause-short c =
    let m = c.args.model.now in
    let same = c.as_slice-rows.ensures ∙ ap (λ (p : ModelParts). p.rows) c.parts-parts.ensures.value in
    subst AreShort (sym same) (rows_short (length m.cols) m.root m.rows c.parts-parts.ensures.limits.bounds.columns c.parts-parts.ensures.limits.rows)

pub term_count-requires-2-clause-short : goal.term_count-requires-2-clause-short
term_count-requires-2-clause-short c =
    let m = c.args.model.now in
    rows_short (length m.cols) m.root c.args.cuts.now c.parts-parts.ensures.limits.bounds.columns c.requires.cuts

pub returns-in_err-outcome-clause-replays : goal.returns-in_err-outcome-clause-replays
returns-in_err-outcome-clause-replays c =
    let same = c.as_slice-rows.ensures ∙ ap (λ (p : ModelParts). p.rows) c.parts-parts.ensures.value in
    (replay_all c.args.model.now.rows c.args.model.now.rows c.args.cuts.now c.args.bounds.now c.run_passes.new.bounds c.args.steps.now c.run_passes.new.steps refl c.requires.unlisted c.run_passes.ensures.replays).replays

pub returns-clause-replays : goal.returns-clause-replays
returns-clause-replays c =
    let same = c.as_slice-rows.ensures ∙ ap (λ (p : ModelParts). p.rows) c.parts-parts.ensures.value in
    (replay_all c.args.model.now.rows c.args.model.now.rows c.args.cuts.now c.args.bounds.now c.run_passes.new.bounds c.args.steps.now c.run_passes.new.steps refl c.requires.unlisted c.run_passes.ensures.replays).replays

pub returns-in_err-outcome-clause-keeps : goal.returns-in_err-outcome-clause-keeps
returns-in_err-outcome-clause-keeps c =
    let m = c.args.model.now in
    let cuts = c.args.cuts.now in
    let s = c.args.bounds.now in
    let same = c.as_slice-rows.ensures ∙ ap (λ (p : ModelParts). p.rows) c.parts-parts.ensures.value in
    let columns = (c.requires.within c.in_default.ensures).as_many_lows ∙ c.parts-parts.ensures.limits.bounds.box in
    box_keeps (length m.cols) m.root m.rows cuts s c.run_passes.new.bounds c.run_passes.new.steps c.parts-parts.ensures.limits.rows c.requires.cuts columns (replay_all m.rows m.rows cuts s c.run_passes.new.bounds c.args.steps.now c.run_passes.new.steps refl c.requires.unlisted c.run_passes.ensures.replays).replays

pub returns-clause-keeps : goal.returns-clause-keeps
returns-clause-keeps c =
    let m = c.args.model.now in
    let cuts = c.args.cuts.now in
    let s = c.args.bounds.now in
    let same = c.as_slice-rows.ensures ∙ ap (λ (p : ModelParts). p.rows) c.parts-parts.ensures.value in
    let columns = (c.requires.within c.in_default.ensures).as_many_lows ∙ c.parts-parts.ensures.limits.bounds.box in
    box_keeps (length m.cols) m.root m.rows cuts s c.run_passes.new.bounds c.run_passes.new.steps c.parts-parts.ensures.limits.rows c.requires.cuts columns (replay_all m.rows m.rows cuts s c.run_passes.new.bounds c.args.steps.now c.run_passes.new.steps refl c.requires.unlisted c.run_passes.ensures.replays).replays

pub returns-clause-sides : goal.returns-clause-sides
returns-clause-sides c =
    let m = c.args.model.now in
    let cuts = c.args.cuts.now in
    let s = c.args.bounds.now in
    let same = c.as_slice-rows.ensures ∙ ap (λ (p : ModelParts). p.rows) c.parts-parts.ensures.value in
    let run = run_of c.run_passes.new.bounds c.run_passes.new.steps c.in_ok-outcome.outcome in
    let whole : counted_run run c.in_ok-outcome.passes ≡ after_passes 10 m.rows cuts (open_run s c.args.steps.now) 0 = c.in_ok-outcome.ensures.whole in
    ap (λ (p : Propagation). p.sides) (propagation_solid m.rows cuts s c.args.steps.now (counted_run run c.in_ok-outcome.passes) c.in_default.ensures c.requires.unlisted whole)

pub returns-clause-steps : goal.returns-clause-steps
returns-clause-steps c =
    let m = c.args.model.now in
    let cuts = c.args.cuts.now in
    let s = c.args.bounds.now in
    let same = c.as_slice-rows.ensures ∙ ap (λ (p : ModelParts). p.rows) c.parts-parts.ensures.value in
    let run = run_of c.run_passes.new.bounds c.run_passes.new.steps c.in_ok-outcome.outcome in
    let whole : counted_run run c.in_ok-outcome.passes ≡ after_passes 10 m.rows cuts (open_run s c.args.steps.now) 0 = c.in_ok-outcome.ensures.whole in
    ap (λ (p : Propagation). p.steps) (propagation_solid m.rows cuts s c.args.steps.now (counted_run run c.in_ok-outcome.passes) c.in_default.ensures c.requires.unlisted whole)

pub returns-clause-run : goal.returns-clause-run
returns-clause-run c =
    let m = c.args.model.now in
    let cuts = c.args.cuts.now in
    let s = c.args.bounds.now in
    let same = c.as_slice-rows.ensures ∙ ap (λ (p : ModelParts). p.rows) c.parts-parts.ensures.value in
    let run = run_of c.run_passes.new.bounds c.run_passes.new.steps c.in_ok-outcome.outcome in
    let whole : counted_run run c.in_ok-outcome.passes ≡ after_passes 10 m.rows cuts (open_run s c.args.steps.now) 0 = c.in_ok-outcome.ensures.whole in
    let terms = ap₂ (λ a b. a + b + 1) (c.term_count.ensures.value ∙ ap term_count same) c.term_count-2.ensures.value in
    ap₂ (λ (a b : ℕ). record { outcome = c.in_ok-outcome.outcome; passes = c.in_ok-outcome.passes; work = a * b }) c.from.ensures terms ∙ ap (λ (p : Propagation). p.run) (propagation_solid m.rows cuts s c.args.steps.now (counted_run run c.in_ok-outcome.passes) c.in_default.ensures c.requires.unlisted whole)

pub returns-clause-none : goal.returns-clause-none
returns-clause-none c =
    let m = c.args.model.now in
    let cuts = c.args.cuts.now in
    let s = c.args.bounds.now in
    let same = c.as_slice-rows.ensures ∙ ap (λ (p : ModelParts). p.rows) c.parts-parts.ensures.value in
    let columns = (c.requires.within c.in_default.ensures).as_many_lows ∙ c.parts-parts.ensures.limits.bounds.box in
    let run = run_of c.run_passes.new.bounds c.run_passes.new.steps c.in_ok-outcome.outcome in
    let whole : counted_run run c.in_ok-outcome.passes ≡ after_passes 10 m.rows cuts (open_run s c.args.steps.now) 0 = c.in_ok-outcome.ensures.whole in
    none_met (length m.cols) m.root m.rows cuts s c.args.steps.now run c.in_ok-outcome.passes c.parts-parts.ensures.limits.rows c.requires.cuts columns c.in_default.ensures whole (box_keeps (length m.cols) m.root m.rows cuts s c.run_passes.new.bounds c.run_passes.new.steps c.parts-parts.ensures.limits.rows c.requires.cuts columns (replay_all m.rows m.rows cuts s c.run_passes.new.bounds c.args.steps.now c.run_passes.new.steps refl c.requires.unlisted c.run_passes.ensures.replays).replays)

pub returns-in_err-outcome-clause-lawful : goal.returns-in_err-outcome-clause-lawful
returns-in_err-outcome-clause-lawful c =
    let same = c.as_slice-rows.ensures ∙ ap (λ (p : ModelParts). p.rows) c.parts-parts.ensures.value in
    (replay_all c.args.model.now.rows c.args.model.now.rows c.args.cuts.now c.args.bounds.now c.run_passes.new.bounds c.args.steps.now c.run_passes.new.steps refl c.requires.unlisted c.run_passes.ensures.replays).lawful

pub returns-clause-lawful : goal.returns-clause-lawful
returns-clause-lawful c =
    let same = c.as_slice-rows.ensures ∙ ap (λ (p : ModelParts). p.rows) c.parts-parts.ensures.value in
    (replay_all c.args.model.now.rows c.args.model.now.rows c.args.cuts.now c.args.bounds.now c.run_passes.new.bounds c.args.steps.now c.run_passes.new.steps refl c.requires.unlisted c.run_passes.ensures.replays).lawful

pub returns-in-Some-clause-lawful : goal.returns-in-Some-clause-lawful
returns-in-Some-clause-lawful c = subst (AreLawfulSteps c.args.model.now.rows c.args.cuts.now c.args.bounds.now) (sym c.requires.unlisted) tt

pub returns-in-Some-clause-cause : goal.returns-in-Some-clause-cause
returns-in-Some-clause-cause c = empty_caused c.args.model.now.rows c.args.cuts.now c.args.bounds.now c.in-Some.col c.in-Some.ensures

pub returns-clause-cause : goal.returns-clause-cause
returns-clause-cause c =
    let m = c.args.model.now in
    let cuts = c.args.cuts.now in
    let s = c.args.bounds.now in
    let same = c.as_slice-rows.ensures ∙ ap (λ (p : ModelParts). p.rows) c.parts-parts.ensures.value in
    let columns = (c.requires.within c.in_default.ensures).as_many_lows ∙ c.parts-parts.ensures.limits.bounds.box in
    let run = run_of c.run_passes.new.bounds c.run_passes.new.steps c.in_ok-outcome.outcome in
    let whole : counted_run run c.in_ok-outcome.passes ≡ after_passes 10 m.rows cuts (open_run s c.args.steps.now) 0 = c.in_ok-outcome.ensures.whole in
    (run_caused (length m.cols) m.root m.rows cuts s c.args.steps.now run c.in_ok-outcome.passes c.parts-parts.ensures.limits.rows c.requires.cuts columns c.in_default.ensures whole).cause
