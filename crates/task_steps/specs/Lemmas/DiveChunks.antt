-- What a chunk of a dive gives: a box and a point to go on with, entries that have words, and each
-- of them due in its turn.
use Rattle.std.proofs.Common.{◌≡◌, ◌≢◌, ◌∙◌, ℕ, ◌+◌, ◌^◌, ◌≤◌, Bool, true, false, cond, List, [], ◌∷◌, ◌++◌, length, ℤ, int_lt, Option, Some, None, refl, sym, ap, subst, arith}
use Rattle.std.proofs.lemmas.List.{append-nil, length-map}
use Rattle.std.proofs.lemmas.List.FromFn.{length-range_with_len}
use Rattle.ip_core.specs.Boxes.{IsWithin}
use Rattle.ip_core.specs.Models.{IsModel}
use Rattle.ip_core.specs.Sides.{Sides, IsPaired}
use Rattle.ip_core.specs.Truth.{IsFeasible, value_at}
use Rattle.ip_core.specs.declared.model.ModelParts.{ModelParts}
use Rattle.ip_core.specs.declared.row.Row.{Row}
use Rattle.ip_core.proofs.NarrowerBoxes.{within_both}
use Rattle.search_truth.proofs.Within.{within_columns}
use Rattle.row_propagate.specs.Passes.{Propagation, propagation_of}
use Rattle.row_propagate.specs.declared.outcome.Outcome.{Outcome as Ended}
use Rattle.row_propagate.specs.declared.outcome.Outcome.TheVariants as ended
use Rattle.dual_ascent.specs.declared.ascent.Ascent.{Ascent}
use Rattle.round_dive.specs.Dives.{Dive as Step, dive_of, next_box}
use Rattle.round_dive.specs.Feasible.{is_feasible_at}
use Rattle.round_dive.specs.Laws.{IsSoundDive}
use Rattle.round_dive.specs.Rounds.{feasible_point}
use Rattle.round_dive.specs.declared.dive.DiveEnd.{DiveEnd}
use Rattle.round_dive.specs.declared.dive.DiveRun.{DiveRun}
use Rattle.round_dive.specs.declared.dive.DiveEnd.TheVariants as step
use Rattle.round_dive.proofs.FeasiblePoints.{feasible_decides}
use Rattle.round_dive.proofs.SoundDives.{step_is_sound}
use Rattle.node_pool.specs.Follows.{IsValued}
use Rattle.work_stamp.specs.Taskers.{HaveWords}
use Rattle.work_stamp.specs.Writable.{HasWords}
use Rattle.work_stamp.specs.declared.entry.Entry.{Entry}
use Rattle.work_stamp.specs.declared.entry.Entry.TheVariants.{Found, Done}
use Rattle.task_steps.specs.Claims.{Claim, IsReady}
use Rattle.task_steps.specs.DiveTasks.{dive_after_ascent, dive_after_passes, dive_after_step, dive_chunk, dive_chunk_by, last_dive_chunk, point_trial}
use Rattle.task_steps.specs.Fits.{AreFewDerived, FitsLocal, FitsPoint, IsDive, IsTowards}
use Rattle.task_steps.specs.Rules.{after_dive_chunk}
use Rattle.task_steps.specs.Tasks.{ascent_of}
use Rattle.task_steps.specs.declared.dive_chunk.DiveChunk.{DiveChunk}
use Rattle.task_steps.specs.declared.dive_chunk.PointTrial.{PointTrial}
use Rattle.task_steps.specs.declared.local.DiveTask.{DiveTask}
use Rattle.task_steps.specs.declared.local.Local.{Local}
use Rattle.task_steps.specs.Lemmas.Counts.{climb_little, passes_work}
use Rattle.task_steps.specs.Lemmas.Reasons.{passed_solid, passed_within, passes_passed}
use Rattle.task_steps.specs.Lemmas.TaskChunks.{done_words, no_words, words_more}
use Rattle.task_steps.specs.Lemmas.TaskCuts.{cut_rows}
use Rattle.task_steps.specs.Lemmas.Working.{found_words}

-- what a point that was tried gives

-- no entry, or that of a feasible point with its value
pub data IsFind (m : ModelParts) : List Entry → Type 0 where
  NoPoint : IsFind m []
  OnePoint : (value : ℤ) (x : List ℤ) → IsValued m value x → HasWords (Found value x)
      → IsFind m (Found value x ∷ [])

trial_cases : (m : ModelParts) (cutoff : ℤ) (x : List ℤ) (below : Bool) → IsModel m
    → IsPaired m.root → IsFeasible m x
    → IsFind m (cond {A = PointTrial} below
    (record { entries = Found (value_at m x) x ∷ []; cutoff = value_at m x })
    (record { entries = []; cutoff = cutoff })).entries
trial_cases m cutoff x true valid paired feasible =
    OnePoint (value_at m x) x (record { feasible = feasible; told = refl })
    (found_words m x valid paired feasible)
trial_cases m cutoff x false valid paired feasible = NoPoint

point_find : (m : ModelParts) (cutoff : ℤ) (x : List ℤ) → IsModel m → IsPaired m.root
    → IsFeasible m x → IsFind m (point_trial m cutoff (Some x)).entries
point_find m cutoff x valid paired feasible =
    trial_cases m cutoff x (int_lt (value_at m x) cutoff) valid paired feasible

rounded_cases : (m : ModelParts) (cutoff : ℤ) (x : List ℤ) (feasible : Bool)
    → is_feasible_at m x ≡ feasible → IsModel m → IsPaired m.root
    → IsFind m (point_trial m cutoff (cond feasible (Some x) None)).entries
rounded_cases m cutoff x true is valid paired =
    point_find m cutoff x valid paired ((feasible_decides m x).0 is)
rounded_cases m cutoff x false is valid paired = NoPoint

rounded_find : (m : ModelParts) (cutoff : ℤ) (x : List ℤ) → IsModel m → IsPaired m.root
    → IsFind m (point_trial m cutoff (feasible_point m x)).entries
rounded_find m cutoff x valid paired =
    rounded_cases m cutoff x (is_feasible_at m x) refl valid paired

find_words : (m : ModelParts) (found tail : List Entry) → IsFind m found → HaveWords tail
    → HaveWords (found ++ tail)
find_words m _ tail NoPoint rest = rest
find_words m _ tail (OnePoint value x valued words) rest =
    words_more (Found value x) tail words rest

-- the entries are due at each claim that holds nothing
abbrev IsDueFree : ModelParts → ℕ → Local → List Entry → Type 0
IsDueFree m slot l entries = (c : Claim) → l.splits ≡ c.splits → l.cuts ≡ c.cuts → c.hold ≡ None
    → IsReady m slot c entries l

find_due : (m : ModelParts) (slot : ℕ) (l : Local) (found tail : List Entry) → IsFind m found
    → IsDueFree m slot l tail → IsDueFree m slot l (found ++ tail)
find_due m slot l _ tail NoPoint rest = rest
find_due m slot l _ tail (OnePoint value x valued words) rest =
    λ c same seen free. (valued, rest (record c { cutoff = value }) same seen free)

-- a chunk of a dive on a slot
pub record IsGoodDive (m : ModelParts) (l : Local) (chunk : DiveChunk) : Type 0 where
  pub fits : FitsLocal m (after_dive_chunk l chunk).local
  pub words : HaveWords chunk.entries
  pub ready : (slot : ℕ) (c : Claim) → l.slot ≡ slot → l.splits ≡ c.splits → l.cuts ≡ c.cuts
      → c.hold ≡ None → IsReady m slot c chunk.entries (after_dive_chunk l chunk).local
  pub some_work : 1 ≤ chunk.work
  pub little_work : chunk.work ≤ 2 ^ 40

-- the dive has ended
last_good : (m : ModelParts) (l : Local) (found : List Entry) (work : ℕ) → FitsLocal m l
    → IsFind m found → 1 ≤ work → work ≤ 2 ^ 40 → IsGoodDive m l (last_dive_chunk found work)
last_good m l found work fits find some little =
    let after : FitsLocal m (record l { task = None }) =
    record { slot = fits.slot; few = fits.few; cuts = fits.cuts; task = tt } in
    record {
      fits = after;
      words = find_words m found (Done ∷ []) find done_words;
      ready = λ slot c own same seen free.
          find_due m slot (record l { task = None }) found (Done ∷ []) find
          (λ d same_now seen_now free_now. (
            tt,
            record {
              fits = after;
              own = own;
              splits = same_now;
              cuts = seen_now;
              task = free_now;
            },
          )) c same seen free;
      some_work = some;
      little_work = little;
    }

-- the dive goes on
abbrev going_chunk : List Entry → ℕ → DiveTask → DiveChunk
going_chunk found work next = record { entries = found; work = work; task = Some next }

going_good : (m : ModelParts) (l : Local) (found : List Entry) (work : ℕ) (next : DiveTask)
    → FitsLocal m l → IsFind m found → IsDive m next → 1 ≤ work → work ≤ 2 ^ 40
    → IsGoodDive m l (going_chunk found work next)
going_good m l found work next fits find on some little =
    let w = (after_dive_chunk l (going_chunk found work next)).local in
    let after : FitsLocal m w =
    record { slot = fits.slot; few = fits.few; cuts = fits.cuts; task = on } in
    record {
      fits = after;
      words = subst HaveWords (append-nil found) (find_words m found [] find no_words);
      ready = λ slot c own same seen free.
          subst (λ (es : List Entry). IsReady m slot c es w) (append-nil found)
          (find_due m slot w found [] find
          (λ d same_now seen_now free_now. record {
            fits = after;
            own = own;
            splits = same_now;
            cuts = seen_now;
            task = free_now;
          }) c same seen free);
      some_work = some;
      little_work = little;
    }

-- a box within a box of lists of one length
paired_within : (s t : Sides) → IsWithin s t → IsPaired s → IsPaired t
paired_within s t within paired = record {
  same_length = within.as_many_highs ∙ paired.same_length ∙ sym within.as_many_lows;
  short = rw within.as_many_lows paired.short;
}

on_goes : step.On ≢ step.Stuck
on_goes same = cc

few_counted : (a b : ℕ) → a ≤ 2 ^ 26 → b ≤ 2 ^ 36 → 1 + a + b ≤ 2 ^ 40
few_counted a b first second = omega (arith, first, second)

module _ (m : ModelParts) (l : Local) (task : DiveTask) (valid : IsModel m)
    (paired : IsPaired m.root)
    (fits : FitsLocal m l) (task_fits : IsDive m task) where
  abbrev passes : Propagation
  passes = propagation_of m.rows l.cuts task.bounds

  abbrev climb : Ascent
  climb = ascent_of m l.cuts passes.sides

  columns : length task.bounds.lows ≡ length m.cols
  columns = within_columns m task.bounds valid task_fits.within

  -- the first chunk

  open_good : passes.run.outcome ≡ ended.Open
      → IsGoodDive m l (dive_after_ascent m task passes climb)
  open_good goes =
      let passed = passes_passed m l.cuts task.bounds valid (cut_rows m l.cuts valid fits.cuts)
      columns in
      let within = passed_within m l.cuts task.bounds passes passed in
      let trial = point_trial m task.cutoff (feasible_point m climb.point) in
      going_good m l trial.entries (1 + passes.run.work + climb.work)
      (record { bounds = passes.sides; cutoff = trial.cutoff; point = Some climb.point }) fits
      (rounded_find m task.cutoff climb.point valid paired)
      (record {
        within = within_both m.root task.bounds passes.sides task_fits.within within;
        paired = paired_within task.bounds passes.sides within task_fits.paired;
        point = record {
          solid = passed_solid m l.cuts task.bounds passes passed goes;
          one_each = length-map _ _ ∙ length-range_with_len 0 (length m.costs)
              ∙ valid.bounds.costs;
        };
      }) (omega arith)
      (few_counted passes.run.work climb.work (passes_work m l.cuts task.bounds valid fits.cuts)
      (climb_little m l.cuts passes.sides valid fits.cuts))

  closed_good : IsGoodDive m l (last_dive_chunk [] (1 + passes.run.work))
  closed_good =
      last_good m l [] (1 + passes.run.work) fits NoPoint (omega arith)
      (omega (arith, passes_work m l.cuts task.bounds valid fits.cuts))

  first_good : (o : Ended) → passes.run.outcome ≡ o
      → IsGoodDive m l (dive_after_passes m l.cuts task passes o)
  first_good ended.Open is = open_good is
  first_good (ended.Conflict row) is = closed_good
  first_good (ended.Empty col) is = closed_good

  -- a later chunk

  step_good : (x : List ℤ) → IsTowards m task.bounds x → (end : DiveEnd)
      → (dive_of m l.cuts task.bounds x).run.end ≡ end
      → IsGoodDive m l
      (dive_after_step m task.cutoff x (dive_of m l.cuts task.bounds x) end)
  step_good x towards end is = by_end end is where
    dive : Step
    dive = dive_of m l.cuts task.bounds x

    sound : IsSoundDive m l.cuts task.bounds dive
    sound = step_is_sound m l.cuts task.bounds x task_fits.paired towards.solid

    little : 1 + dive.run.work ≤ 2 ^ 40
    little = omega (arith, passes_work m l.cuts (next_box task.bounds x) valid fits.cuts)

    by_end : (end : DiveEnd) → dive.run.end ≡ end
        → IsGoodDive m l (dive_after_step m task.cutoff x dive end)
    by_end step.On is =
        going_good m l [] (1 + dive.run.work)
        (record { bounds = dive.sides; cutoff = task.cutoff; point = Some x }) fits NoPoint
        (record {
          within = within_both m.root task.bounds dive.sides task_fits.within sound.within;
          paired = paired_within task.bounds dive.sides sound.within task_fits.paired;
          point = record {
            solid = sound.solid (λ stuck. on_goes (sym is ∙ stuck));
            one_each = towards.one_each;
          };
        }) (omega arith) little
    by_end (step.Found y) is =
        last_good m l (point_trial m task.cutoff (Some y)).entries (1 + dive.run.work) fits
        (point_find m task.cutoff y valid paired (sound.feasible.found y is)) (omega arith) little
    by_end step.Stuck is = last_good m l [] (1 + dive.run.work) fits NoPoint (omega arith) little

  chunk_cases : (o : Option (List ℤ)) → FitsPoint m task.bounds o
      → IsGoodDive m l (dive_chunk_by m l.cuts task o)
  chunk_cases None point = first_good passes.run.outcome refl
  chunk_cases (Some x) point =
      step_good x point (dive_of m l.cuts task.bounds x).run.end refl

  -- a chunk of a dive
  pub dive_chunk_good : IsGoodDive m l (dive_chunk m l.cuts task)
  dive_chunk_good = chunk_cases task.point task_fits.point

-- what a step counts
pub step_work : (m : ModelParts) (cuts : List Row) (s : Sides) (x : List ℤ) (run : DiveRun)
    → IsModel m → AreFewDerived m cuts → run ≡ (dive_of m cuts s x).run → run.work ≤ 2 ^ 26
step_work m cuts s x run valid own is =
    let same : run.work ≡ (dive_of m cuts s x).run.work = ap (λ (r : DiveRun). r.work) is in
    omega (arith, same, passes_work m cuts (next_box s x) valid own)
