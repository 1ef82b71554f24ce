-- What the records of the machine's history say is so.
use Rattle.std.proofs.Common.{◌≡◌, ◌∙◌, ℕ, zero, suc, true, false, List, [], ◌∷◌, ◌++◌, get_or, ℤ, ◌≤ℤ◌, Option, Some, None, is_none, refl, sym, ap, subst}
use Rattle.std.proofs.lemmas.Bool.{true≢false}
use Rattle.ip_core.specs.Models.{IsModel}
use Rattle.ip_core.specs.Sides.{Sides, IsPaired}
use Rattle.ip_core.specs.declared.leaf.Record.{Record}
use Rattle.ip_core.specs.declared.model.ModelParts.{ModelParts}
use Rattle.ip_core.specs.declared.row.Row.{Row}
use Rattle.leaf_truth.specs.Leaves.{IsValidLeaf}
use Rattle.leaf_truth.proofs.OverMore.{leaf_holds_over_more}
use Rattle.work_stamp.specs.Histories.{FollowInTurn, keyed_entry, under}
use Rattle.work_stamp.specs.Taskers.{AfterBegin, Standing, standing, view_of as rules_view}
use Rattle.work_stamp.specs.declared.entry.Entry.{Entry}
use Rattle.work_stamp.specs.declared.entry.Entry.TheVariants.{Start, CutStart, HeurStart, Cut, Done, Found, Closed, Halt}
use Rattle.work_stamp.specs.declared.key.Key.{Key}
use Rattle.work_stamp.specs.declared.stamped.KeyedEntry.{KeyedEntry}
use Rattle.stamp_machine.specs.Limits.{AreLimits}
use Rattle.stamp_machine.specs.Machine.{history, last}
use Rattle.stamp_machine.specs.Records.{HasOrigin, IsJoinedChunk, IsPart, OfHalt, OfTake, OfChunk, records_of}
use Rattle.stamp_machine.specs.Slots.{at}
use Rattle.stamp_machine.specs.declared.limits.Limits.{Limits}
use Rattle.stamp_machine.proofs.Follows.{follow-right}
use Rattle.stamp_machine.proofs.Places.{none_is_no_some}
use Rattle.stamp_machine.proofs.Records.{at-under, entry_stands, origins_told, part_at, record_stands, records_told}
use Rattle.node_pool.specs.Branchings.{box_of}
use Rattle.node_pool.specs.Follows.{IsHeld}
use Rattle.node_pool.specs.Laws.{AreKnown, HasCutsOf}
use Rattle.node_pool.specs.Lemmas.Cuts.{more_cuts}
use Rattle.node_pool.specs.Views.{View, fresh_view, is_known, view_after, view_of}
use Rattle.node_pool.specs.declared.settings.SearchSettings.{SearchSettings}
use Rattle.task_steps.specs.Agrees.{Agrees, MayFollowIn, Stands}
use Rattle.task_steps.specs.Answers.{splits_alone}
use Rattle.task_steps.specs.Claims.{Claim, HasHeld, HasHold, IsAt, IsAtTask, IsOn}
use Rattle.task_steps.specs.Fits.{FitsLocal, FitsTask, FitsView}
use Rattle.task_steps.specs.Lawful.{search_law}
use Rattle.task_steps.specs.Records.{HasRecord, IsTrueRecord, RecordsHold}
use Rattle.task_steps.specs.Rules.{begin_of, chunk_of, rules}
use Rattle.task_steps.specs.CutTasks.{cuts_after, end_of_cuts, entries_of_cuts, new_cuts}
use Rattle.task_steps.specs.DiveTasks.{dive_chunk}
use Rattle.task_steps.specs.Tasks.{node_chunk}
use Rattle.task_steps.specs.declared.local.CutTask.{CutTask}
use Rattle.cut_separate.specs.declared.new_cut.NewCut.{NewCut}
use Rattle.ip_core.specs.declared.derivation.Derivation.{Derivation}
use Rattle.task_steps.specs.declared.local.Local.{Local}
use Rattle.task_steps.specs.declared.local.NodeTask.{NodeTask}
use Rattle.task_steps.specs.declared.local.Task.{Task}
use Rattle.task_steps.specs.declared.task_chunk.TaskChunk.{TaskChunk}
use Rattle.task_steps.specs.Lemmas.Beginning.{IsTaken, OfCuts, OfDive, OfNode, taken_is}
use Rattle.task_steps.specs.Lemmas.Fitting.{held_known}
use Rattle.task_steps.specs.Lemmas.Histories.{view_with, with_settings}
use Rattle.task_steps.specs.Lemmas.TaskChunks.{worker_of}
use Rattle.task_steps.specs.Lemmas.TaskCuts.{cut_rows}
use Rattle.task_steps.proofs.ChunkRecords.{AreOfTask, CloseNone, IsNotAbove, IsOfTask, both_close_none, chunk_records, done_closes_none, found_closes_none, none_close_none}
use Rattle.task_steps.proofs.DiveEntries.{AreOfDive, Ends, GoesOn, IsTrial, NoPoint, OnePoint, dive_gives}
use Rattle.task_steps.proofs.RecordSteps.{record_steps}
use Rattle.task_steps.proofs.LaterViews.{IsLater, later_view, up_to, view_append}
use Rattle.task_steps.proofs.Truths.{history_is_read, law}
use Rattle.task_steps.specs.declared.local.Task.TheVariants.{Nodes, Cuts, Dive}

-- ---- what the history holds for a task

-- a view that holds the task's node with the task's box, whose cutoff is at most the task's, and whose
-- first cuts are these
record IsHolding (m : ModelParts) (v : View) (cuts : List Row) (task : NodeTask) : Type 0 where
  held : IsHeld v task.node
  known : is_known v task.node ≡ true
  box : box_of m.root v.branches task.node ≡ task.bounds
  cutoff : v.cutoff ≤ℤ task.cutoff
  front : HasCutsOf cuts v.cuts

-- the settings of a view don't tell what it holds
held_with : (v : View) (s : SearchSettings) (name : ℕ) → IsHeld (with_settings v s) name
    → IsHeld v name
held_with v s name held = record { among = held.among }

known_with : (v : View) (s : SearchSettings) → AreKnown (with_settings v s) → AreKnown v
known_with v s known = record { opened = known.opened; held = known.held }

-- so does a view that holds for a claim, where a task stands at the claim
claim_holding : (m : ModelParts) (settings : SearchSettings) (v w : View) (c : Claim) (task : NodeTask)
    → w ≡ with_settings v settings → IsOn c task → AreKnown w → HasHold m w c.hold
    → w.cutoff ≤ℤ c.cutoff → HasCutsOf c.cuts w.cuts → IsHolding m v c.cuts task
claim_holding m settings v w c task same on known hold low front =
    let has : HasHeld m (with_settings v settings) on.node =
    subst (λ (u : View). HasHeld m u on.node) same (subst (HasHold m w) on.is hold) in
    let held : IsHeld v task.node =
    subst (IsHeld v) on.named (held_with v settings on.node.name has.held) in
    record {
      held = held;
      known = held_known v task.node (known_with v settings (subst AreKnown same known)) held;
      box = subst (λ (n : ℕ). box_of m.root v.branches n ≡ on.node.bounds) on.named has.boxed
          ∙ on.boxed;
      cutoff = subst (λ (z : ℤ). v.cutoff ≤ℤ z) on.cutoff
          (subst (λ (u : View). u.cutoff ≤ℤ c.cutoff) same low);
      front = subst (λ (u : View). HasCutsOf c.cuts u.cuts) same front;
    }

-- and so does the view of a history, where slots agree with it
slot_holding : (m : ModelParts) (settings : SearchSettings) (history : List KeyedEntry)
    (slots : List (Option (Standing Local))) (slot : ℕ) (l : Local) (task : NodeTask)
    → Agrees m settings history slots → get_or slots slot None ≡ standing l []
    → l.task ≡ Some (Nodes task) → IsHolding m (view_of m splits_alone history) l.cuts task
slot_holding m settings history slots slot l task agrees there works =
    let c = agrees.claims slot in
    let stands : IsAt m slot c l = subst (Stands m slot c) there (agrees.ready slot) in
    let owed = agrees.meets.owed slot in
    subst (λ (cuts : List Row). IsHolding m (view_of m splits_alone history) cuts task)
    (sym stands.cuts)
    (claim_holding m settings (view_of m splits_alone history) (view_of m settings history) c task
    (view_with m settings splits_alone history) (subst (IsAtTask c) works stands.task)
    agrees.meets.fits.known owed.held owed.cutoff owed.cuts)

some_task : (o : Option Task) → is_none o ≡ false → (task : Task) × (o ≡ Some task)
some_task None busy = absurd (true≢false busy)
some_task (Some task) busy = (task, refl)

-- ---- a task's first entries close no node

start_is_not_closed : (node name : ℕ) → Some (Start node) ≡ Some (Closed name) → ⊥
start_is_not_closed node name same = cc

halt_is_not_closed : (name : ℕ) → Closed name ≡ Halt → ⊥
halt_is_not_closed name same = cc

start_closes_none : (node place name : ℕ) → at (Start node ∷ []) place ≡ Some (Closed name) → ⊥
start_closes_none node zero name there = start_is_not_closed node name there
start_closes_none node (suc place) name there = none_is_no_some (Closed name) there

dive_is_not_closed : (node name : ℕ) → Some (HeurStart node) ≡ Some (Closed name) → ⊥
dive_is_not_closed node name same = cc

cuts_are_not_closed : (name : ℕ) → Some CutStart ≡ Some (Closed name) → ⊥
cuts_are_not_closed name same = cc

cut_is_not_closed : (derivation : Derivation) (name : ℕ)
    → Some (Cut derivation) ≡ Some (Closed name) → ⊥
cut_is_not_closed derivation name same = cc

done_is_not_closed : (name : ℕ) → Some Done ≡ Some (Closed name) → ⊥
done_is_not_closed name same = cc

cuts_close_none : (new : List NewCut) (tail : List Entry) (place name : ℕ)
    → ((later : ℕ) → at tail later ≡ Some (Closed name) → ⊥)
    → at (entries_of_cuts new ++ tail) place ≡ Some (Closed name) → ⊥
cuts_close_none [] tail place name none there = none place there
cuts_close_none (cut ∷ new) tail zero name none there =
    cut_is_not_closed cut.derivation name there
cuts_close_none (cut ∷ new) tail (suc place) name none there =
    cuts_close_none new tail place name none there

end_closes_none : (o : Option CutTask) (place name : ℕ)
    → at (end_of_cuts o) place ≡ Some (Closed name) → ⊥
end_closes_none None zero name there = done_is_not_closed name there
end_closes_none None (suc place) name there = none_is_no_some (Closed name) there
end_closes_none (Some task) place name there = none_is_no_some (Closed name) there

-- a chunk of a dive closes none

trial_closes_none : (found : List Entry) → IsTrial found → CloseNone found
trial_closes_none _ NoPoint = none_close_none
trial_closes_none _ (OnePoint value x) = found_closes_none value x

dive_closes_none : (es : List Entry) → AreOfDive es → CloseNone es
dive_closes_none _ (GoesOn found trial) = trial_closes_none found trial
dive_closes_none _ (Ends found trial) =
    both_close_none found (Done ∷ []) (trial_closes_none found trial) done_closes_none

taken_closes_none : (m : ModelParts) (v : View) (l : Local) (es : List Entry)
    (after : AfterBegin Local) (place name : ℕ) → IsTaken m v l es after
    → at es place ≡ Some (Closed name) → ⊥
taken_closes_none m v l _ _ place name (OfNode node is) there =
    start_closes_none node place name there
taken_closes_none m v l _ _ zero name (OfDive node is) there =
    dive_is_not_closed node name there
taken_closes_none m v l _ _ (suc place) name (OfDive node is) there =
    none_is_no_some (Closed name) there
taken_closes_none m v l _ _ zero name (OfCuts is) there = cuts_are_not_closed name there
taken_closes_none m v l _ _ (suc place) name (OfCuts is) there =
    none_is_no_some (Closed name) there

module _ (m : ModelParts) (settings : SearchSettings) (valid : IsModel m) (paired : IsPaired m.root)
    (limits : Limits) (ranges : AreLimits limits) where
  abbrev entries : List KeyedEntry
  entries = (history (rules m settings) limits).entries

  abbrev records : ℕ → List Record
  records slot = records_of (history (rules m settings) limits) slot

  -- the view of the whole history
  abbrev last_view : View
  last_view = view_of m splits_alone entries

  -- the chunk of a slot on its task
  abbrev chunk : Local → NodeTask → TaskChunk
  chunk l task = node_chunk m l.cuts (worker_of l) task

  -- where such a chunk joined
  abbrev IsJoined : List Record → Key → Local → Type 0
  IsJoined items key l = IsJoinedChunk (rules m settings) (FitsLocal m) (Agrees m settings) entries
      items key l

  -- what its records say
  chunk_says : (items : List Record) (key : Key) (l : Local) (task : NodeTask) → IsJoined items key l
      → l.task ≡ Some (Nodes task) → AreOfTask m l.cuts task (chunk l task)
  chunk_says items key l task joined works =
      chunk_records m l.cuts (worker_of l) task valid
      (cut_rows m l.cuts valid joined.stood.fits.cuts) (subst (FitsTask m) works joined.stood.fits.task)

  -- the whole history against a front of it
  later_than : (front rest : List KeyedEntry) → entries ≡ front ++ rest
      → IsLater m (view_of m splits_alone front) last_view rest
  later_than front rest whole =
      let follow : FollowInTurn (MayFollowIn m splits_alone) front rest =
      follow-right (MayFollowIn m splits_alone) [] front rest
      (subst (λ (es : List KeyedEntry). FollowInTurn (MayFollowIn m splits_alone) [] es) whole
      (history_is_read m settings valid paired limits ranges).follow) in
      let same : view_after m (view_of m splits_alone front) rest ≡ last_view =
      sym (ap (λ (es : List KeyedEntry). view_of m splits_alone es) whole
      ∙ view_append m (fresh_view m splits_alone) front rest) in
      subst (λ (w : View). IsLater m (view_of m splits_alone front) w rest) same
      (later_view m splits_alone front rest follow)

  -- the last cutoff isn't above a value that entries which joined find
  not_above : (v : View) (key : Key) (es : List Entry) (rest : List KeyedEntry)
      → IsPart (under key es) rest → IsLater m v last_view rest → IsNotAbove last_view.cutoff es
  not_above v key es rest part after = record {
    each = λ place value point there.
        let stands = part_at (under key es) rest place (keyed_entry key (Found value point)) part
        (at-under key es place (Found value point) there) in
        after.below stands.0 key value point stands.1;
  }

  -- ---- each record is true

  task_record : (slot : ℕ) (item : Record) (key : Key) (l : Local) (task : NodeTask) (place : ℕ)
      → key.slot ≡ slot → IsJoined (records slot) key l → l.task ≡ Some (Nodes task)
      → at (chunk_of m l l.task).gives.records place ≡ Some item → IsTrueRecord m entries slot item
  task_record slot item key l task place own joined works there =
      let stood = joined.stood in
      let v = view_of m splits_alone stood.front in
      let said = chunk_says (records slot) key l task joined works in
      let of_task : IsOfTask m l.cuts task (chunk l task).entries item = said.each place item
      (subst (λ (o : Option Task). at (chunk_of m l o).gives.records place ≡ Some item) works there)
      in
      let holding = slot_holding m settings stood.front stood.slots key.slot l task stood.agrees
      stood.there works in
      let after = later_than stood.front stood.later stood.whole in
      let part : IsPart (under key (chunk l task).entries) stood.later =
      subst (λ (o : Option Task). IsPart (under key (chunk_of m l o).gives.entries) stood.later)
      works joined.entry_part in
      let same : box_of m.root last_view.branches item.node ≡ box_of m.root v.branches item.node =
      subst (λ (n : ℕ). box_of m.root last_view.branches n ≡ box_of m.root v.branches n)
      (sym of_task.named) (after.boxes task.node holding.known) in
      let box : box_of m.root last_view.branches item.node ≡ task.bounds =
      same ∙ ap (λ (n : ℕ). box_of m.root v.branches n) of_task.named ∙ holding.box in
      let leaf : IsValidLeaf m l.cuts last_view.cutoff task.bounds item.leaf =
      of_task.leaf last_view.cutoff
      (up_to last_view.cutoff v.cutoff task.cutoff after.falls holding.cutoff)
      (not_above v key (chunk l task).entries stood.later part after) in
      let front = more_cuts l.cuts v.cuts last_view.cuts holding.front after.cuts in
      let closed = entry_stands View Local (rules m settings) (FitsLocal m) (Agrees m settings)
      entries (records slot) key l joined of_task.place (Closed item.node)
      (subst (λ (o : Option Task). at (chunk_of m l o).gives.entries of_task.place
      ≡ Some (Closed item.node)) (sym works) of_task.closed) in
      record {
        node = record {
          front = stood.front;
          later = stood.later;
          whole = stood.whole;
          held = subst (IsHeld v) (sym of_task.named) holding.held;
          same_box = same;
        };
        leaf = subst (λ (s : Sides). IsValidLeaf m last_view.cuts last_view.cutoff s item.leaf)
            (sym box) (subst (λ (cuts : List Row).
            IsValidLeaf m cuts last_view.cutoff task.bounds item.leaf) (sym front.whole)
            (leaf_holds_over_more m l.cuts front.more last_view.cutoff task.bounds item.leaf leaf));
        few = record_steps m l.cuts (worker_of l) task place item valid stood.fits.cuts
            (subst (λ (o : Option Task). at (chunk_of m l o).gives.records place ≡ Some item) works
            there);
        closed = record { place = closed.0; key = key; own = own; there = closed.1 };
      }

  -- a task that looks for cuts and a dive have no records
  kind_record : (slot : ℕ) (item : Record) (key : Key) (l : Local) (task : Task) (place : ℕ)
      → key.slot ≡ slot → IsJoined (records slot) key l → l.task ≡ Some task
      → at (chunk_of m l l.task).gives.records place ≡ Some item → IsTrueRecord m entries slot item
  kind_record slot item key l (Nodes task) place own joined works there =
      task_record slot item key l task place own joined works there
  kind_record slot item key l (Cuts task) place own joined works there =
      absurd (none_is_no_some item
      (subst (λ (o : Option Task). at (chunk_of m l o).gives.records place ≡ Some item) works
      there))
  kind_record slot item key l (Dive task) place own joined works there =
      absurd (none_is_no_some item
      (subst (λ (o : Option Task). at (chunk_of m l o).gives.records place ≡ Some item) works
      there))

  true_record : (slot place : ℕ) (item : Record) → at (records slot) place ≡ Some item
      → IsTrueRecord m entries slot item
  true_record slot place item there =
      let source = records_told View Local (rules m settings) (FitsView m) (FitsLocal m)
      (MayFollowIn m settings) (Agrees m settings) (search_law m settings valid paired) limits
      ranges slot place item there in
      let task = some_task source.local.task source.chunk.busy in
      kind_record slot item source.key source.local task.0 source.place source.own source.chunk
      task.1 source.there

  -- ---- each node that is closed has a record

  closed_in_chunk : (key : Key) (name : ℕ) (l : Local) (task : NodeTask) (place : ℕ)
      → IsJoined (records key.slot) key l → l.task ≡ Some (Nodes task)
      → at (chunk_of m l l.task).gives.entries place ≡ Some (Closed name)
      → HasRecord (records key.slot) name
  closed_in_chunk key name l task place joined works there =
      let said = chunk_says (records key.slot) key l task joined works in
      let has : HasRecord (chunk l task).records name = said.closed place name
      (subst (λ (o : Option Task). at (chunk_of m l o).gives.entries place ≡ Some (Closed name))
      works there) in
      let stands = record_stands View Local (rules m settings) (FitsLocal m) (Agrees m settings)
      entries (records key.slot) key l joined has.place has.item
      (subst (λ (o : Option Task). at (chunk_of m l o).gives.records has.place ≡ Some has.item)
      (sym works) has.there) in
      record { place = stands.0; item = has.item; there = stands.1; named = has.named }

  -- and close no node
  closed_by_kind : (key : Key) (name : ℕ) (l : Local) (task : Task) (place : ℕ)
      → IsJoined (records key.slot) key l → l.task ≡ Some task
      → at (chunk_of m l l.task).gives.entries place ≡ Some (Closed name)
      → HasRecord (records key.slot) name
  closed_by_kind key name l (Nodes task) place joined works there =
      closed_in_chunk key name l task place joined works there
  closed_by_kind key name l (Cuts task) place joined works there =
      let new = new_cuts m l.cuts in
      let o = cuts_after task.chunks new in
      absurd (cuts_close_none new (end_of_cuts o) place name
      (λ later here. end_closes_none o later name here)
      (subst (λ (o : Option Task). at (chunk_of m l o).gives.entries place ≡ Some (Closed name))
      works there))
  closed_by_kind key name l (Dive task) place joined works there =
      absurd (dive_closes_none (dive_chunk m l.cuts task).entries (dive_gives m l.cuts task) place
      name
      (subst (λ (o : Option Task). at (chunk_of m l o).gives.entries place ≡ Some (Closed name))
      works there))

  by_origin : (key : Key) (name : ℕ) → HasOrigin (rules m settings) (FitsLocal m)
      (Agrees m settings) entries (records key.slot) (keyed_entry key (Closed name))
      → HasRecord (records key.slot) name
  by_origin key name (OfHalt same) = absurd (halt_is_not_closed name same)
  by_origin key name (OfTake take) =
      let v = rules_view (rules m settings) take.stood.front in
      absurd (taken_closes_none m v take.local take.takes (begin_of m v take.local) take.place name
      (taken_is m v take.local take.takes take.does) take.there)
  by_origin key name (OfChunk of_chunk) =
      let task = some_task of_chunk.local.task of_chunk.chunk.busy in
      closed_by_kind key name of_chunk.local task.0 of_chunk.place of_chunk.chunk task.1
      of_chunk.there

  closed_node : (place name : ℕ) (key : Key)
      → at entries place ≡ Some (keyed_entry key (Closed name)) → HasRecord (records key.slot) name
  closed_node place name key there =
      by_origin key name (origins_told View Local (rules m settings) (FitsView m) (FitsLocal m)
      (MayFollowIn m settings) (Agrees m settings) (search_law m settings valid paired) limits
      ranges place (keyed_entry key (Closed name)) there)

  pub records_hold : RecordsHold m settings limits
  records_hold =
      let stands = (law m settings valid paired limits ranges (last limits)).stands in
      record {
        true_records = true_record;
        closed_nodes = closed_node;
        cutoff = sym (ap (λ (v : View). v.cutoff) (view_with m settings splits_alone entries))
            ∙ stands.agrees.meets.sound.cutoff;
      }
