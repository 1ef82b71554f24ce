-- A limit ends a search only where it is met.
use Rattle.std.proofs.Common.{◌≡◌, ◌∙◌, ℕ, zero, suc, ◌+◌, ◌≤◌, ◌⊎◌, inl, inr, Bool, true, false, ◌&&◌, ◌||◌, nat_eq, if◌then◌else◌, List, [], ◌∷◌, ◌++◌, length, map, Option, Some, None, ℤ, refl, sym, ap, subst, arith}
use Rattle.std.specs.List.{list_any}
use Rattle.std.specs.Prelude.{int_le}
use Rattle.std.proofs.lemmas.Bool.{and_parts, false≢true}
use Rattle.std.proofs.lemmas.Option.{none-some, same_Some}
use Rattle.ip_core.specs.Sides.{IsPaired}
use Rattle.ip_core.specs.Models.{IsModel}
use Rattle.ip_core.specs.Numbers.{int_at}
use Rattle.ip_core.specs.Truth.{value_at}
use Rattle.ip_core.specs.declared.leaf.Closing.{Closing}
use Rattle.ip_core.specs.declared.leaf.Closing.TheVariants.{Bound, Conflict, Empty}
use Rattle.ip_core.specs.declared.model.ModelParts.{ModelParts}
use Rattle.ip_core.specs.declared.row.Row.{Row}
use Rattle.row_propagate.specs.Passes.{Propagation, propagation_of}
use Rattle.row_propagate.specs.declared.outcome.Outcome.{Outcome as Ended}
use Rattle.row_propagate.specs.declared.outcome.Outcome.TheVariants as ended
use Rattle.dual_ascent.specs.declared.ascent.Ascent.{Ascent}
use Rattle.leaf_truth.specs.Multipliers.{pairs_of}
use Rattle.work_stamp.specs.Histories.{keyed_entry, FollowInTurn}
use Rattle.work_stamp.specs.Taskers.{view_after}
use Rattle.work_stamp.specs.declared.entry.Entry.{Entry}
use Rattle.work_stamp.specs.declared.entry.Entry.TheVariants.{Start, CutStart, HeurStart, Done, Found, Cut, Split, Closed, Halt}
use Rattle.work_stamp.specs.declared.key.Key.{Key}
use Rattle.work_stamp.specs.declared.stamped.KeyedEntry.{KeyedEntry}
use Rattle.work_stamp.specs.declared.task.Begin.TheVariants.{Take, Idle, End}
use Rattle.stamp_machine.specs.Endings.{is_halt, has_halt, entries_of, HasNoOwnHalt, HasHalt, HasFullSlot, IsAllSpent, IsEndCause, Spent, Full, NothingLeft}
use Rattle.stamp_machine.specs.Limits.{AreLimits}
use Rattle.stamp_machine.specs.Machine.{final, history, last}
use Rattle.stamp_machine.specs.Slots.{at}
use Rattle.stamp_machine.specs.declared.limits.Limits.{Limits}
use Rattle.stamp_machine.specs.declared.slot.Slot.{Slot}
use Rattle.stamp_machine.proofs.Choices.{by_test}
use Rattle.stamp_machine.proofs.Endings.{no_halt-append, halt_is, halts_explained, ends_explained}
use Rattle.stamp_machine.proofs.Follows.{follow-right, view_after-append}
use Rattle.stamp_machine.proofs.Stops.{stops}
use Rattle.node_pool.specs.Follows.{MayFollow, MayJoin}
use Rattle.node_pool.specs.Nodes.{first_named}
use Rattle.node_pool.specs.Picks.{node_pick, pick_of, wants_cuts, wants_heuristic, best_open}
use Rattle.node_pool.specs.Views.{View, after_entry, fresh_view, is_finished, open_node, with_children}
use Rattle.node_pool.specs.declared.node.OpenNode.{OpenNode}
use Rattle.node_pool.specs.declared.pick.Pick.{Pick}
use Rattle.node_pool.specs.declared.pick.Pick.TheVariants.{CutLoop, Heuristic, Node, Nothing, Over}
use Rattle.node_pool.specs.declared.settings.SearchSettings.{SearchSettings}
use Rattle.task_steps.proofs.DiveEntries.{AreOfDive, Ends, GoesOn, IsTrial, NoPoint, OnePoint, dive_gives}
use Rattle.task_steps.specs.Agrees.{Agrees, MayFollowIn}
use Rattle.task_steps.specs.Answers.{best_found, finished_status, status_of, view_status}
use Rattle.cut_separate.specs.declared.new_cut.NewCut.{NewCut}
use Rattle.task_steps.specs.Columns.{middle, widest}
use Rattle.task_steps.specs.DiveTasks.{dive_chunk}
use Rattle.task_steps.specs.CutTasks.{cuts_after, end_of_cuts, entries_of_cuts, new_cuts}
use Rattle.task_steps.specs.declared.local.CutTask.{CutTask}
use Rattle.task_steps.specs.Fits.{FitsLocal, FitsView}
use Rattle.task_steps.specs.Keeps.{number_of}
use Rattle.task_steps.specs.Lawful.{search_law}
use Rattle.task_steps.specs.LimitCauses.{HasLimitCause, IsLimitCause}
use Rattle.task_steps.specs.Rules.{begin_by, begin_of, chunk_of, rules, search_view}
use Rattle.task_steps.specs.Tasks.{after_passes, after_point, ascent_of, child_name, closing_chunk, end_entries, is_found, kept_child, next_ordinal, on_point, progress_of, splitting_chunk}
use Rattle.task_steps.specs.declared.answer.Best.{Best}
use Rattle.task_steps.specs.declared.answer.Status.{Status}
use Rattle.task_steps.specs.declared.answer.Status.TheVariants.{StoreLimit, WorkLimit}
use Rattle.task_steps.specs.declared.keep.Keep.{Keep}
use Rattle.task_steps.specs.declared.keep.Keep.TheVariants.{Low, High, Neither}
use Rattle.task_steps.specs.declared.local.Local.{Local}
use Rattle.task_steps.specs.declared.local.NodeTask.{NodeTask}
use Rattle.task_steps.specs.declared.local.Task.{Task}
use Rattle.task_steps.specs.declared.task_chunk.TaskChunk.{TaskChunk}
use Rattle.task_steps.specs.declared.task_chunk.Progress.{Progress}
use Rattle.task_steps.specs.declared.task_chunk.Worker.{Worker}
use Rattle.task_steps.specs.Lemmas.Entries.{base_of}
use Rattle.task_steps.specs.Lemmas.Histories.{same_view}
use Rattle.task_steps.specs.Lemmas.NameCounts.{eq_from_test}
use Rattle.task_steps.proofs.Truths.{law, same_status}
use Rattle.task_steps.specs.declared.local.Task.TheVariants.{Nodes, Cuts, Dive}

-- ---- whether a Halt stands, entry by entry

children_halt : (v : View) (low high : OpenNode) (keep : ℕ)
    → (with_children v low high keep).has_halt ≡ v.has_halt
children_halt v low high zero = refl
children_halt v low high (suc zero) = refl
children_halt v low high (suc (suc more)) = refl

-- an entry that is no Halt leaves it as it was whether one stands
entry_halt : (m : ModelParts) (v : View) (e : Entry) → is_halt e ≡ false
    → (after_entry m v e).has_halt ≡ v.has_halt
entry_halt m v (Start node) none = refl
entry_halt m v CutStart none = refl
entry_halt m v (HeurStart node) none = refl
entry_halt m v Done none = refl
entry_halt m v (Found value point) none = refl
entry_halt m v (Cut derivation) none = refl
entry_halt m v (Split node col at first keep bound) none =
    children_halt (base_of v node col at first bound) (open_node first bound)
    (open_node (first + 1) bound) keep
entry_halt m v (Closed node) none = refl
entry_halt m v Halt none = absurd (false≢true (sym none))

halt_stays : (m : ModelParts) (v : View) (e : Entry) (b : Bool) → is_halt e ≡ b → v.has_halt ≡ true
    → (after_entry m v e).has_halt ≡ true
halt_stays m v e true is h = ap (λ (x : Entry). (after_entry m v x).has_halt) (halt_is e is)
halt_stays m v e false is h = entry_halt m v e is ∙ h

module _ (m : ModelParts) (settings : SearchSettings) where
  halt_on : (v : View) (es : List KeyedEntry) → v.has_halt ≡ true
      → (view_after (rules m settings) v es).has_halt ≡ true
  halt_on v [] h = h
  halt_on v (e ∷ es) h =
      halt_on (after_entry m v e.entry) es (halt_stays m v e.entry (is_halt e.entry) refl h)

  -- a Halt of a history stands in its view
  halt_is_seen : (v : View) (es : List KeyedEntry) (k : Key) (place : ℕ)
      → at es place ≡ Some (keyed_entry k Halt)
      → (view_after (rules m settings) v es).has_halt ≡ true
  halt_is_seen v [] k place there = absurd (none-some (keyed_entry k Halt) there)
  halt_is_seen v (e ∷ es) k zero there =
      halt_on (after_entry m v e.entry) es
      (ap (λ (x : KeyedEntry). (after_entry m v x.entry).has_halt)
      (same_Some e (keyed_entry k Halt) there))
  halt_is_seen v (e ∷ es) k (suc place) there =
      halt_is_seen (after_entry m v e.entry) es k place there

  -- and one that stands in the view stands in the history
  halt_here : (v : View) (e : KeyedEntry) (es : List KeyedEntry) (b : Bool) → is_halt e.entry ≡ b
      → (after_entry m v e.entry).has_halt ≡ true
      → (v.has_halt ≡ true) ⊎ ((k : Key) × HasHalt (e ∷ es) k)
  halt_here v e es true is h =
      inr (
        e.key,
        record {
          place = 0;
          there = ap (λ (x : Entry). Some (keyed_entry e.key x)) (halt_is e.entry is);
        },
      )
  halt_here v e es false is h = inl (sym (entry_halt m v e.entry is) ∙ h)

  halt_cases : (v : View) (e : KeyedEntry) (es : List KeyedEntry)
      → ((after_entry m v e.entry).has_halt ≡ true) ⊎ ((k : Key) × HasHalt es k)
      → (v.has_halt ≡ true) ⊎ ((k : Key) × HasHalt (e ∷ es) k)
  halt_cases v e es (inl h) = halt_here v e es (is_halt e.entry) refl h
  halt_cases v e es (inr (k, x)) = inr (k, record { place = suc x.place; there = x.there })

  halt_stands : (v : View) (es : List KeyedEntry)
      → (view_after (rules m settings) v es).has_halt ≡ true
      → (v.has_halt ≡ true) ⊎ ((k : Key) × HasHalt es k)
  halt_stands v [] h = inl h
  halt_stands v (e ∷ es) h = halt_cases v e es (halt_stands (after_entry m v e.entry) es h)

-- ---- no task gives a Halt

abbrev IsQuiet : TaskChunk → Type 0
IsQuiet o = has_halt o.entries ≡ false

closing_quiet : (node splits : ℕ) (found : List Entry) (p : Progress) (why : Closing)
    → has_halt found ≡ false → IsQuiet (closing_chunk node splits found p why)
closing_quiet node splits found p why h =
    no_halt-append (found ++ Closed node ∷ []) (Done ∷ [])
    (no_halt-append found (Closed node ∷ []) h refl) refl

end_quiet : (keep : Keep) → has_halt (end_entries keep) ≡ false
end_quiet Low = refl
end_quiet High = refl
end_quiet Neither = refl

splitting_quiet : (task : NodeTask) (worker : Worker) (found : List Entry) (cutoff : ℤ)
    (work col : ℕ)
    (at : ℤ) (keep : Keep) (bound : ℤ) → has_halt found ≡ false
    → IsQuiet (splitting_chunk task worker found cutoff work col at keep bound)
splitting_quiet task worker found cutoff work col at keep bound h =
    let split : Entry = Split task.node col at
    (child_name worker.slot (next_ordinal worker.splits)) (number_of keep) bound in
    no_halt-append (found ++ split ∷ []) (end_entries keep)
    (no_halt-append found (split ∷ []) h refl)
    (end_quiet keep)

after_point_quiet : (m : ModelParts) (task : NodeTask) (worker : Worker) (p : Progress) (a : Ascent)
    (cutoff : ℤ) (found : List Entry) → has_halt found ≡ false
    → IsQuiet (after_point m task worker p a cutoff found)
after_point_quiet m task worker p a cutoff found h =
    let col = widest p.bounds in
    let mid = middle p.bounds col in
    by_test IsQuiet (int_le cutoff a.bound) _ _
    (λ t. closing_quiet task.node worker.splits found p
    (Bound (pairs_of (length m.rows) a.mults)) h)
    (λ t. splitting_quiet task worker found cutoff p.work col mid
    (kept_child task.nodes (int_at a.point col) mid) a.bound h)

on_point_quiet : (m : ModelParts) (task : NodeTask) (worker : Worker) (p : Progress) (a : Ascent)
    (found : Bool) → IsQuiet (on_point m task worker p a found)
on_point_quiet m task worker p a true =
    after_point_quiet m task worker p a (value_at m a.point)
    (Found (value_at m a.point) a.point ∷ []) refl
on_point_quiet m task worker p a false = after_point_quiet m task worker p a task.cutoff [] refl

passes_quiet : (m : ModelParts) (cuts : List Row) (task : NodeTask) (worker : Worker)
    (p : Propagation) (o : Ended)
    → IsQuiet (after_passes m cuts task worker p o)
passes_quiet m cuts task worker p ended.Open =
    let a = ascent_of m cuts p.sides in
    on_point_quiet m task worker (progress_of p a.work) a (is_found m task.cutoff a)
passes_quiet m cuts task worker p (ended.Conflict row) =
    closing_quiet task.node worker.splits [] (progress_of p 0) (Conflict row) refl
passes_quiet m cuts task worker p (ended.Empty col) =
    closing_quiet task.node worker.splits [] (progress_of p 0) (Empty col) refl

cuts_quiet : (new : List NewCut) (tail : List Entry) → has_halt tail ≡ false
    → has_halt (entries_of_cuts new ++ tail) ≡ false
cuts_quiet [] tail none = none
cuts_quiet (cut ∷ new) tail none = cuts_quiet new tail none

cuts_end_quiet : (o : Option CutTask) → has_halt (end_of_cuts o) ≡ false
cuts_end_quiet None = refl
cuts_end_quiet (Some task) = refl

trial_quiet : (found tail : List Entry) → IsTrial found → has_halt tail ≡ false
    → has_halt (found ++ tail) ≡ false
trial_quiet _ tail NoPoint none = none
trial_quiet _ tail (OnePoint value x) none = none

dive_quiet : (es : List Entry) → AreOfDive es → has_halt es ≡ false
dive_quiet _ (GoesOn _ NoPoint) = refl
dive_quiet _ (GoesOn _ (OnePoint value x)) = refl
dive_quiet _ (Ends found trial) = trial_quiet found (Done ∷ []) trial refl

local_quiet : (m : ModelParts) (l : Local) (o : Option Task)
    → has_halt (chunk_of m l o).gives.entries ≡ false
local_quiet m l None = refl
local_quiet m l (Some (Nodes task)) =
    let p = propagation_of m.rows l.cuts task.bounds in
    passes_quiet m l.cuts task (record { slot = l.slot; splits = l.splits }) p p.run.outcome
local_quiet m l (Some (Cuts task)) =
    let new = new_cuts m l.cuts in
    cuts_quiet new (end_of_cuts (cuts_after task.chunks new))
    (cuts_end_quiet (cuts_after task.chunks new))
local_quiet m l (Some (Dive task)) =
    dive_quiet (dive_chunk m l.cuts task).entries (dive_gives m l.cuts task)

take_quiet : (m : ModelParts) (v : View) (l : Local) (pick : Pick)
    → has_halt (entries_of (begin_by m v l pick).does) ≡ false
take_quiet m v l Over = refl
take_quiet m v l (Node node) = refl
take_quiet m v l Nothing = refl
take_quiet m v l CutLoop = refl
take_quiet m v l (Heuristic node) = refl

no_own_halt : (m : ModelParts) (settings : SearchSettings) → HasNoOwnHalt (rules m settings)
no_own_halt m settings = record {
  begin = λ v l. take_quiet m v l (pick_of v);
  chunk = λ l. local_quiet m l l.task;
}

-- ---- a search that is over stays over

abbrev is_over : View → Bool
is_over v = v.has_halt || is_finished v

or_left : (a b : Bool) → a ≡ true → (a || b) ≡ true
or_left true b h = refl
or_left false b h = absurd (false≢true h)

halt_over : (v : View) → v.has_halt ≡ true → is_over v ≡ true
halt_over v h = or_left v.has_halt (is_finished v) h

-- where a node is open or held, a search that is over has a Halt

some_in : {A : Type 0} (x : A) (xs : List A) → nat_eq (length (x ∷ xs)) 0 ≡ true → ⊥
some_in x xs h = let none = eq_from_test (length (x ∷ xs)) 0 h in omega (arith, none)

open_cases : (halted : Bool) (opened : List OpenNode) (held : List ℕ) (name : ℕ) (node : OpenNode)
    → first_named name opened ≡ Some node
    → (halted || (nat_eq (length opened) 0 && nat_eq (length held) 0)) ≡ true → halted ≡ true
open_cases halted [] held name node first over = absurd (none-some node first)
open_cases true (x ∷ xs) held name node first over = refl
open_cases false (x ∷ xs) held name node first over =
    absurd (some_in x xs
    (and_parts (nat_eq (length (x ∷ xs)) 0) (nat_eq (length held) 0) over).0)

held_cases : (halted : Bool) (opened : List OpenNode) (held : List ℕ) (name : ℕ)
    → list_any (λ other. nat_eq other name) held ≡ true
    → (halted || (nat_eq (length opened) 0 && nat_eq (length held) 0)) ≡ true → halted ≡ true
held_cases halted opened [] name among over = absurd (false≢true among)
held_cases true opened (x ∷ xs) name among over = refl
held_cases false opened (x ∷ xs) name among over =
    absurd (some_in x xs
    (and_parts (nat_eq (length opened) 0) (nat_eq (length (x ∷ xs)) 0) over).1)

over_stays : (m : ModelParts) (v : View) (e : Entry) → MayJoin m v e → is_over v ≡ true
    → is_over (after_entry m v e) ≡ true
over_stays m v (Start node) may over =
    halt_over (after_entry m v (Start node))
    (open_cases v.has_halt v.open_nodes v.held_nodes node may.node may.first over)
over_stays m v CutStart may over = over
over_stays m v (HeurStart node) may over = over
over_stays m v Done may over = over
over_stays m v (Found value point) may over = over
over_stays m v (Cut derivation) may over = over
over_stays m v (Split node col at first keep bound) may over =
    halt_over (after_entry m v (Split node col at first keep bound))
    (children_halt (base_of v node col at first bound) (open_node first bound)
    (open_node (first + 1) bound) keep
    ∙ held_cases v.has_halt v.open_nodes v.held_nodes node may.held.among over)
over_stays m v (Closed node) may over =
    halt_over (after_entry m v (Closed node))
    (held_cases v.has_halt v.open_nodes v.held_nodes node may.among over)
over_stays m v Halt may over = refl

-- a slot between tasks ends only where the search is over

idle_no_end : Idle ≡ End → ⊥
idle_no_end e = cc

take_no_end : (es : List Entry) → Take es ≡ End → ⊥
take_no_end es e = cc

node_not_over : (heuristic : Bool) (o : Option ℕ) → node_pick heuristic o ≡ Over → ⊥
node_not_over true None same = cc
node_not_over false None same = cc
node_not_over true (Some node) same = cc
node_not_over false (Some node) same = cc

pick_over : (over cuts heuristic : Bool) (o : Option ℕ)
    → (if over then Over else if cuts then CutLoop else node_pick heuristic o) ≡ Over
    → over ≡ true
pick_over true cuts heuristic o same = refl
pick_over false true heuristic o same = absurd (cc)
pick_over false false heuristic o same = absurd (node_not_over heuristic o same)

end_picked : (m : ModelParts) (v : View) (l : Local) (pick : Pick) → pick_of v ≡ pick
    → (begin_by m v l pick).does ≡ End → pick_of v ≡ Over
end_picked m v l Over is does = is
end_picked m v l (Node node) is does = absurd (take_no_end (Start node ∷ []) does)
end_picked m v l Nothing is does = absurd (idle_no_end does)
end_picked m v l CutLoop is does = absurd (take_no_end (CutStart ∷ []) does)
end_picked m v l (Heuristic node) is does = absurd (take_no_end (HeurStart node ∷ []) does)

end_over : (m : ModelParts) (v : View) (l : Local) → (begin_of m v l).does ≡ End
    → is_over v ≡ true
end_over m v l does =
    pick_over (is_over v) (wants_cuts v) (wants_heuristic v) (best_open v)
    (end_picked m v l (pick_of v) refl does)

-- ---- all moves

none_no_clock : (clock : ℕ) → None ≡ Some clock → ⊥
none_no_clock clock e = cc

same_clock : (a b : ℕ) → Some a ≡ Some b → a ≡ b
same_clock a b e = cc

clock_of : (slots : List (Slot Local)) (number clock : ℕ)
    → at (map (λ slot. slot.clock) slots) number ≡ Some clock
    → (slot : Slot Local) × ((at slots number ≡ Some slot) × (slot.clock ≡ clock))
clock_of [] number clock there = absurd (none_no_clock clock there)
clock_of (slot ∷ slots) zero clock there = (slot, (refl, same_clock slot.clock clock there))
clock_of (slot ∷ slots) (suc number) clock there = clock_of slots number clock there

module _ (m : ModelParts) (settings : SearchSettings) (valid : IsModel m) (paired : IsPaired m.root)
    (limits : Limits) (ranges : AreLimits limits) where
  abbrev entries : List KeyedEntry
  entries = (history (rules m settings) limits).entries

  abbrev last_view : View
  last_view = search_view m settings entries

  over_after : (front es : List KeyedEntry) → FollowInTurn (MayFollowIn m settings) front es
      → is_over (search_view m settings front) ≡ true
      → is_over (view_after (rules m settings) (search_view m settings front) es) ≡ true
  over_after front [] follow over = over
  over_after front (e ∷ es) follow over =
      let v = search_view m settings front in
      let next : search_view m settings (front ++ e ∷ []) ≡ after_entry m v e.entry =
      view_after-append (rules m settings) (fresh_view m settings) front (e ∷ []) in
      let may : MayFollow m v e.entry = subst (λ (w : View). MayFollow m w e.entry)
      (sym (same_view m settings front)) follow.0 in
      subst (λ (w : View). is_over (view_after (rules m settings) w es) ≡ true) next
      (over_after (front ++ e ∷ []) es follow.1 (subst (λ (w : View). is_over w ≡ true) (sym next)
      (over_stays m v e.entry may.joins over)))

  finished_cause : (best : Option Best) → IsLimitCause m settings limits (finished_status best)
  finished_cause None = tt
  finished_cause (Some best) = tt

  full_slot : ((fresh_view m settings).has_halt ≡ true) ⊎ ((k : Key) × HasHalt entries k)
      → HasFullSlot (rules m settings) limits
  full_slot (inl h) = absurd (false≢true h)
  full_slot (inr (k, stands)) = record {
    key = k;
    stands = stands;
    full = halts_explained View Local (rules m settings) limits (no_own_halt m settings) k stands;
  }

  -- a search that is over on a front of its history is over in the end
  over_in_the_end : (front rest : List KeyedEntry) → entries ≡ front ++ rest
      → is_over (search_view m settings front) ≡ true → is_over last_view ≡ true
  over_in_the_end front rest whole over =
      let follow : FollowInTurn (MayFollowIn m settings) front rest =
      follow-right (MayFollowIn m settings) [] front rest
      (subst (λ (es : List KeyedEntry). FollowInTurn (MayFollowIn m settings) [] es) whole
      (law m settings valid paired limits ranges (last limits)).follow) in
      subst (λ (u : View). is_over u ≡ true) (sym (ap (search_view m settings) whole
      ∙ view_after-append (rules m settings) (fresh_view m settings) front rest))
      (over_after front rest follow over)

  spent_end : is_over last_view ≡ false → ((k : Key) → HasHalt entries k → ⊥)
      → (number : ℕ) (slot : Slot Local)
      → IsEndCause (rules m settings) limits entries number slot → limits.work ≤ slot.clock
  spent_end going none number slot (Spent late) = late
  spent_end going none number slot (Full h) = absurd (none _ h)
  spent_end going none number slot (NothingLeft over) =
      absurd (false≢true (sym going ∙ over_in_the_end over.front over.rest over.whole
      (end_over m (search_view m settings over.front) over.local over.over)))

  all_spent : is_finished last_view ≡ false → last_view.has_halt ≡ false
      → IsAllSpent (rules m settings) limits
  all_spent going free =
      let none : (k : Key) → HasHalt entries k → ⊥ = λ k h. false≢true (sym free
      ∙ halt_is_seen m settings (fresh_view m settings) entries k h.place h.there) in
      let unfinished : is_over last_view ≡ false =
      ap (λ (b : Bool). b || is_finished last_view) free ∙ going in
      record {
        no_halt = none;
        ends = λ number clock there.
            let s = clock_of (final (rules m settings) limits).slots number clock there in
            let stopped = stops View Local (rules m settings) (FitsView m) (FitsLocal m)
            (MayFollowIn m settings) (Agrees m settings) (search_law m settings valid paired)
            limits ranges in
            let cause = ends_explained View Local (rules m settings) limits
            (no_own_halt m settings) stopped number s.0 s.1.0 in
            subst (λ (c : ℕ). limits.work ≤ c) s.1.1
            (spent_end unfinished none number s.0 cause);
      }

  status_cause : (finished halted : Bool) → is_finished last_view ≡ finished
      → last_view.has_halt ≡ halted
      → IsLimitCause m settings limits (if finished then finished_status (best_found entries)
      else (if halted then StoreLimit else WorkLimit))
  status_cause true halted going is = finished_cause (best_found entries)
  status_cause false true going is =
      full_slot (halt_stands m settings (fresh_view m settings) entries is)
  status_cause false false going is = all_spent going is

  pub limit_has_cause : HasLimitCause m settings limits
  limit_has_cause =
      let here = status_cause (is_finished last_view) last_view.has_halt refl refl in
      let seen : view_status last_view (best_found entries) ≡ status_of m entries =
      ap (λ (v : View). view_status v (best_found entries)) (same_view m settings entries)
      ∙ same_status m settings entries in
      record { cause = subst (λ (s : Status). IsLimitCause m settings limits s) seen here }
