-- What the records of a chunk say.
use Rattle.std.proofs.Common.{◌≡◌, ℕ, zero, suc, ◌⊎◌, inl, inr, Bool, true, false, List, [], ◌∷◌, ◌++◌, length, ℤ, ◌≤ℤ◌, int_le, Some, refl, ap, subst}
use Rattle.ip_core.specs.Models.{IsModel}
use Rattle.ip_core.specs.Numbers.{int_at}
use Rattle.ip_core.specs.Truth.{value_at}
use Rattle.ip_core.specs.declared.leaf.Closing.{Closing}
use Rattle.ip_core.specs.declared.leaf.Closing.TheVariants.{Bound, Conflict, Empty}
use Rattle.ip_core.specs.declared.leaf.Record.{Record}
use Rattle.ip_core.specs.Rows.{AreRows}
use Rattle.ip_core.specs.declared.model.ModelParts.{ModelParts}
use Rattle.ip_core.specs.declared.row.Row.{Row}
use Rattle.search_truth.proofs.Within.{within_columns}
use Rattle.row_propagate.specs.Passes.{Propagation, propagation_of}
use Rattle.row_propagate.specs.declared.outcome.Outcome.{Outcome as Ended}
use Rattle.row_propagate.specs.declared.outcome.Outcome.TheVariants as ended
use Rattle.dual_ascent.specs.declared.ascent.Ascent.{Ascent}
use Rattle.dual_ascent.proofs.Multipliers.{ascent_has_multipliers}
use Rattle.leaf_truth.specs.Laws.{closing_of, leaf_of}
use Rattle.leaf_truth.specs.Leaves.{IsValidLeaf}
use Rattle.leaf_truth.specs.Multipliers.{pairs_of}
use Rattle.work_stamp.specs.declared.entry.Entry.{Entry}
use Rattle.work_stamp.specs.declared.entry.Entry.TheVariants.{Found, Split, Closed, Done}
use Rattle.stamp_machine.specs.Slots.{at}
use Rattle.stamp_machine.proofs.Choices.{by_test}
use Rattle.stamp_machine.proofs.Places.{at-append, at-behind, at-front, none_is_no_some, same_some}
use Rattle.task_steps.specs.Columns.{middle, widest}
use Rattle.task_steps.specs.Fits.{IsTask}
use Rattle.task_steps.specs.Keeps.{number_of}
use Rattle.task_steps.specs.Records.{HasRecord}
use Rattle.task_steps.specs.Tasks.{after_passes, after_point, ascent_of, child_name, closing_chunk, end_entries, is_found, kept_child, next_ordinal, node_chunk, on_point, progress_of, splitting_chunk}
use Rattle.task_steps.specs.declared.keep.Keep.{Keep}
use Rattle.task_steps.specs.declared.keep.Keep.TheVariants.{Low, High, Neither}
use Rattle.task_steps.specs.declared.local.NodeTask.{NodeTask}
use Rattle.task_steps.specs.declared.task_chunk.Progress.{Progress}
use Rattle.task_steps.specs.declared.task_chunk.TaskChunk.{TaskChunk}
use Rattle.task_steps.specs.declared.task_chunk.Worker.{Worker}
use Rattle.leaf_truth.proofs.TestResults.{int_le-true}
use Rattle.task_steps.specs.Lemmas.Reasons.{bound_leaf, outcome_leaf}
use Rattle.task_steps.proofs.LaterViews.{up_to}

-- a value that is at most that of each point which some entries find
pub record IsNotAbove (z : ℤ) (entries : List Entry) : Type 0 where
  pub each : (place : ℕ) (value : ℤ) (point : List ℤ)
      → at entries place ≡ Some (Found value point) → z ≤ℤ value

-- a record of the task's node, which these entries close: on the task's box the leaf holds at every
-- value up to the task's cutoff and the values that are found
pub record IsOfTask (m : ModelParts) (cuts : List Row) (task : NodeTask) (entries : List Entry) (item : Record) : Type 0
  where
    pub named : item.node ≡ task.node
    pub leaf : (z : ℤ) → z ≤ℤ task.cutoff → IsNotAbove z entries
        → IsValidLeaf m cuts z task.bounds item.leaf
    pub place : ℕ
    pub closed : at entries place ≡ Some (Closed item.node)

-- each record of a chunk is one of the task's node, and a node that the chunk closes has one
pub record AreOfTask (m : ModelParts) (cuts : List Row) (task : NodeTask) (chunk : TaskChunk) : Type 0 where
  pub each : (place : ℕ) (item : Record) → at chunk.records place ≡ Some item
      → IsOfTask m cuts task chunk.entries item
  pub closed : (place name : ℕ) → at chunk.entries place ≡ Some (Closed name)
      → HasRecord chunk.records name

-- ---- entries that close no node

abbrev pub CloseNone : List Entry → Type 0
CloseNone entries = (place name : ℕ) → at entries place ≡ Some (Closed name) → ⊥

pub both_close_none : (xs ys : List Entry) → CloseNone xs → CloseNone ys → CloseNone (xs ++ ys)
both_close_none xs ys first second place name there =
    by_part (at-append xs ys place (Closed name) there) where
      by_part : (at xs place ≡ Some (Closed name))
          ⊎ ((later : ℕ) × (at ys later ≡ Some (Closed name))) → ⊥
      by_part (inl here) = first place name here
      by_part (inr (later, here)) = second later name here

pub none_close_none : CloseNone []
none_close_none place name there = none_is_no_some (Closed name) there

found_is_not_closed : (value : ℤ) (point : List ℤ) (name : ℕ)
    → Some (Found value point) ≡ Some (Closed name) → ⊥
found_is_not_closed value point name same = cc

pub found_closes_none : (value : ℤ) (point : List ℤ) → CloseNone (Found value point ∷ [])
found_closes_none value point zero name there = found_is_not_closed value point name there
found_closes_none value point (suc place) name there = none_is_no_some (Closed name) there

done_is_not_closed : (name : ℕ) → Some Done ≡ Some (Closed name) → ⊥
done_is_not_closed name same = cc

pub done_closes_none : CloseNone (Done ∷ [])
done_closes_none zero name there = done_is_not_closed name there
done_closes_none (suc place) name there = none_is_no_some (Closed name) there

end_closes_none : (keep : Keep) → CloseNone (end_entries keep)
end_closes_none Low = none_close_none
end_closes_none High = none_close_none
end_closes_none Neither = done_closes_none

split_is_not_closed : (node col : ℕ) (mid : ℤ) (first keep : ℕ) (bound : ℤ) (name : ℕ)
    → Some (Split node col mid first keep bound) ≡ Some (Closed name) → ⊥
split_is_not_closed node col mid first keep bound name same = cc

split_closes_none : (node col : ℕ) (mid : ℤ) (first keep : ℕ) (bound : ℤ)
    → CloseNone (Split node col mid first keep bound ∷ [])
split_closes_none node col mid first keep bound zero name there =
    split_is_not_closed node col mid first keep bound name there
split_closes_none node col mid first keep bound (suc place) name there =
    none_is_no_some (Closed name) there

-- ---- a chunk that splits its node

splitting_records : (m : ModelParts) (cuts : List Row) (task : NodeTask) (worker : Worker) (found : List Entry)
    (cutoff : ℤ) (work col : ℕ) (mid : ℤ) (keep : Keep) (bound : ℤ) → CloseNone found
    → AreOfTask m cuts task (splitting_chunk task worker found cutoff work col mid keep bound)
splitting_records m cuts task worker found cutoff work col mid keep bound none =
    let first = child_name worker.slot (next_ordinal worker.splits) in
    let split : Entry = Split task.node col mid first (number_of keep) bound in
    record {
      each = λ place item there. absurd (none_is_no_some item there);
      closed = λ place name there.
          absurd (both_close_none (found ++ split ∷ []) (end_entries keep)
          (both_close_none found (split ∷ []) none
          (split_closes_none task.node col mid first (number_of keep) bound))
          (end_closes_none keep) place name there);
    }

-- ---- a chunk that closes it

same_name : (a b : ℕ) → Some (Closed a) ≡ Some (Closed b) → a ≡ b
same_name a b same = cc

-- the one node that is closed
only_closed : (node place name : ℕ) → at (Closed node ∷ []) place ≡ Some (Closed name)
    → node ≡ name
only_closed node zero name there = same_name node name there
only_closed node (suc place) name there = absurd (none_is_no_some (Closed name) there)

-- the entries of a chunk that closes its node
abbrev closing_entries : List Entry → ℕ → List Entry
closing_entries found node = found ++ Closed node ∷ [] ++ Done ∷ []

closed_after : (found : List Entry) (node place name : ℕ) → CloseNone found
    → (at found place ≡ Some (Closed name))
    ⊎ ((later : ℕ) × (at (Closed node ∷ []) later ≡ Some (Closed name))) → node ≡ name
closed_after found node place name none (inl here) = absurd (none place name here)
closed_after found node place name none (inr (later, here)) = only_closed node later name here

closed_before : (found : List Entry) (node place name : ℕ) → CloseNone found
    → (at (found ++ Closed node ∷ []) place ≡ Some (Closed name))
    ⊎ ((later : ℕ) × (at (Done ∷ []) later ≡ Some (Closed name))) → node ≡ name
closed_before found node place name none (inl here) =
    closed_after found node place name none
    (at-append found (Closed node ∷ []) place (Closed name) here)
closed_before found node place name none (inr (later, here)) =
    absurd (done_closes_none later name here)

one_closed : (found : List Entry) (node place name : ℕ) → CloseNone found
    → at (closing_entries found node) place ≡ Some (Closed name) → node ≡ name
one_closed found node place name none there =
    closed_before found node place name none
    (at-append (found ++ Closed node ∷ []) (Done ∷ []) place (Closed name) there)

-- what isn't above the values of a chunk isn't above those that are found first
found_first : (found : List Entry) (node : ℕ) (z : ℤ)
    → IsNotAbove z (closing_entries found node) → IsNotAbove z found
found_first found node z below = record {
  each = λ place value point there.
      below.each place value point (at-front (found ++ Closed node ∷ []) (Done ∷ []) place
      (Found value point) (at-front found (Closed node ∷ []) place (Found value point) there));
}

closing_records : (m : ModelParts) (cuts : List Row) (task : NodeTask) (splits : ℕ) (found : List Entry) (p : Progress)
    (why : Closing) → CloseNone found
    → ((z : ℤ) → z ≤ℤ task.cutoff → IsNotAbove z found
    → IsValidLeaf m cuts z task.bounds (leaf_of p.steps why))
    → AreOfTask m cuts task (closing_chunk task.node splits found p why)
closing_records m cuts task splits found p why none holds = record {
  each = each;
  closed = λ place name there. record {
    place = 0;
    item = item;
    there = refl;
    named = one_closed found task.node place name none there;
  };
} where
  item : Record
  item = record { node = task.node; leaf = leaf_of p.steps why }

  closing : (place : ℕ) × (at (closing_entries found task.node) place ≡ Some (Closed task.node))
  closing =
      let here = at-behind found (Closed task.node ∷ []) 0 (Closed task.node) refl in (
        here.0,
        at-front (found ++ Closed task.node ∷ []) (Done ∷ []) here.0 (Closed task.node) here.1,
      )

  of_task : IsOfTask m cuts task (closing_entries found task.node) item
  of_task = record {
    named = refl;
    leaf = λ z low below. holds z low (found_first found task.node z below);
    place = closing.0;
    closed = closing.1;
  }

  each : (place : ℕ) (other : Record) → at (item ∷ []) place ≡ Some other
      → IsOfTask m cuts task (closing_entries found task.node) other
  each zero other there =
      subst (IsOfTask m cuts task (closing_entries found task.node)) (same_some item other there) of_task
  each (suc place) other there = absurd (none_is_no_some other there)

-- ---- a chunk after its ascent

point_records : (m : ModelParts) (cuts : List Row) (task : NodeTask) (worker : Worker) (p : Progress) (a : Ascent)
    (cutoff : ℤ) (found : List Entry) → CloseNone found
    → (cutoff ≤ℤ a.bound → (z : ℤ) → z ≤ℤ task.cutoff → IsNotAbove z found
    → IsValidLeaf m cuts z task.bounds (leaf_of p.steps (Bound (pairs_of (length m.rows) a.mults))))
    → AreOfTask m cuts task (after_point m task worker p a cutoff found)
point_records m cuts task worker p a cutoff found none holds =
    let col = widest p.bounds in
    let mid = middle p.bounds col in
    by_test (AreOfTask m cuts task) (int_le cutoff a.bound) _ _
    (λ t. closing_records m cuts task worker.splits found p
    (Bound (pairs_of (length m.rows) a.mults)) none (holds (int_le-true cutoff a.bound t)))
    (λ t. splitting_records m cuts task worker found cutoff p.work col mid
    (kept_child task.nodes (int_at a.point col) mid) a.bound none)

-- ---- one chunk of a task

module _ (m : ModelParts) (cuts : List Row) (worker : Worker) (task : NodeTask) (valid : IsModel m)
    (of_cuts : AreRows (length m.cols) m.root cuts) (fits : IsTask m task) where
  abbrev passes : Propagation
  passes = propagation_of m.rows cuts task.bounds

  abbrev climb : Ascent
  climb = ascent_of m cuts passes.sides

  columns : length task.bounds.lows ≡ length m.cols
  columns = within_columns m task.bounds valid fits.within

  -- the multipliers make a leaf that holds at every value up to their bound
  leaf_below : passes.run.outcome ≡ ended.Open → (z : ℤ) → z ≤ℤ climb.bound
      → IsValidLeaf m cuts z task.bounds
      (leaf_of passes.steps (Bound (pairs_of (length m.rows) climb.mults)))
  leaf_below goes z high =
      bound_leaf m cuts task.bounds z climb.mults valid of_cuts columns goes
      (ascent_has_multipliers m cuts passes.sides) high

  found_records : (found : Bool) → passes.run.outcome ≡ ended.Open
      → AreOfTask m cuts task (on_point m task worker (progress_of passes climb.work) climb found)
  found_records true goes =
      let value = value_at m climb.point in
      point_records m cuts task worker (progress_of passes climb.work) climb value
      (Found value climb.point ∷ []) (found_closes_none value climb.point)
      (λ high z low below. leaf_below goes z
      (up_to z value climb.bound (below.each 0 value climb.point refl) high))
  found_records false goes =
      point_records m cuts task worker (progress_of passes climb.work) climb task.cutoff []
      none_close_none
      (λ high z low below. leaf_below goes z (up_to z task.cutoff climb.bound low high))

  closed_records : (why : Closing) → closing_of passes.run.outcome ≡ Some why
      → AreOfTask m cuts task (closing_chunk task.node worker.splits [] (progress_of passes 0) why)
  closed_records why closes =
      closing_records m cuts task worker.splits [] (progress_of passes 0) why none_close_none
      (λ z low below. outcome_leaf m cuts task.bounds z why valid of_cuts columns closes)

  outcome_records : (o : Ended) → passes.run.outcome ≡ o
      → AreOfTask m cuts task (after_passes m cuts task worker passes o)
  outcome_records ended.Open is = found_records (is_found m task.cutoff climb) is
  outcome_records (ended.Conflict row) is = closed_records (Conflict row) (ap closing_of is)
  outcome_records (ended.Empty col) is = closed_records (Empty col) (ap closing_of is)

  -- what the records of a chunk say is so
  pub chunk_records : AreOfTask m cuts task (node_chunk m cuts worker task)
  chunk_records = outcome_records passes.run.outcome refl
