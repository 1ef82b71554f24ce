-- What a slot between tasks does.
use Rattle.std.proofs.Common.{◌≡◌, ℕ, Bool, true, false, ◌||◌, cond, nat_eq, List, [], ◌∷◌, Option, is_none, Some, None, All, refl, sym, subst, arith, ◌&&◌}
use Rattle.std.proofs.lemmas.Bool.{and_parts}
use Rattle.std.proofs.lemmas.List.Elements.{All-cons, All-head, All-nil}
use Rattle.std.proofs.lemmas.Option.{none-some, same_Some}
use Rattle.ip_core.specs.declared.model.ModelParts.{ModelParts}
use Rattle.work_stamp.specs.Taskers.{AfterBegin, HaveWords}
use Rattle.work_stamp.specs.Writable.{HasWords}
use Rattle.work_stamp.specs.declared.entry.Entry.{Entry}
use Rattle.work_stamp.specs.declared.entry.Entry.TheVariants.{CutStart, HeurStart, Start}
use Rattle.work_stamp.specs.declared.task.Begin.TheVariants.{Take, Idle, End}
use Rattle.node_pool.specs.Follows.{IsOpen}
use Rattle.node_pool.specs.Nodes.{first_named}
use Rattle.node_pool.specs.Picks.{best_open, first_name, node_pick, pick_of, wants_cuts, wants_heuristic}
use Rattle.node_pool.specs.Views.{View, is_finished, is_known}
use Rattle.node_pool.specs.declared.node.OpenNode.{OpenNode}
use Rattle.node_pool.specs.declared.pick.Pick.{Pick}
use Rattle.node_pool.specs.declared.pick.Pick.TheVariants.{CutLoop, Heuristic, Node, Nothing, Over}
use Rattle.task_steps.specs.Fits.{FitsLocal, FitsView, IsBoxed}
use Rattle.task_steps.specs.Rules.{begin_by, begin_of, first_cuts, local_diving, local_on, local_with}
use Rattle.task_steps.specs.declared.local.Local.{Local}
use Rattle.task_steps.specs.Lemmas.NameCounts.{eq_from_test, ne_from_test}

node_named : (heuristic : Bool) (o : Option ℕ) (name : ℕ) → node_pick heuristic o ≡ Node name
    → o ≡ Some name
node_named true None name same = absurd (cc)
node_named false None name same = absurd (cc)
node_named true (Some node) name same = absurd (cc)
node_named false (Some node) name same = cc

pick_named : (over cuts heuristic : Bool) (o : Option ℕ) (name : ℕ)
    → cond over Over (cond cuts CutLoop (node_pick heuristic o)) ≡ Node name → o ≡ Some name
pick_named true cuts heuristic o name same = absurd (cc)
pick_named false true heuristic o name same = absurd (cc)
pick_named false false heuristic o name same = node_named heuristic o name same

-- a node that is picked is the best open one
pub pick_best : (v : View) (name : ℕ) → pick_of v ≡ Node name → best_open v ≡ Some name
pick_best v name same = pick_named (v.has_halt || is_finished v) (wants_cuts v) (wants_heuristic v)
    (best_open v) name same

node_dived : (heuristic : Bool) (o : Option ℕ) (name : ℕ) → node_pick heuristic o ≡ Heuristic name
    → (heuristic ≡ true) × (o ≡ Some name)
node_dived true None name same = absurd (cc)
node_dived false None name same = absurd (cc)
node_dived true (Some node) name same = (refl, cc)
node_dived false (Some node) name same = absurd (cc)

pick_dived : (over cuts heuristic : Bool) (o : Option ℕ) (name : ℕ)
    → cond over Over (cond cuts CutLoop (node_pick heuristic o)) ≡ Heuristic name
    → (heuristic ≡ true) × (o ≡ Some name)
pick_dived true cuts heuristic o name same = absurd (cc)
pick_dived false true heuristic o name same = absurd (cc)
pick_dived false false heuristic o name same = node_dived heuristic o name same

-- a node is dived from where a dive is due, and is the best open one
pub pick_dive : (v : View) (name : ℕ) → pick_of v ≡ Heuristic name
    → (wants_heuristic v ≡ true) × (best_open v ≡ Some name)
pick_dive v name same = pick_dived (v.has_halt || is_finished v) (wants_cuts v) (wants_heuristic v)
    (best_open v) name same

cuts_wanted : (heuristic : Bool) (o : Option ℕ) → node_pick heuristic o ≡ CutLoop → ⊥
cuts_wanted true None same = cc
cuts_wanted false None same = cc
cuts_wanted true (Some node) same = cc
cuts_wanted false (Some node) same = cc

cuts_picked : (over cuts heuristic : Bool) (o : Option ℕ)
    → cond over Over (cond cuts CutLoop (node_pick heuristic o)) ≡ CutLoop → cuts ≡ true
cuts_picked true cuts heuristic o same = absurd (cc)
cuts_picked false true heuristic o same = refl
cuts_picked false false heuristic o same = absurd (cuts_wanted heuristic o same)

-- cuts are picked where they are to be looked for
pub pick_cuts : (v : View) → pick_of v ≡ CutLoop → wants_cuts v ≡ true
pick_cuts v same = cuts_picked (v.has_halt || is_finished v) (wants_cuts v) (wants_heuristic v)
    (best_open v) same

none_test : (n : ℕ) → nat_eq n 0 ≡ true → n ≡ 0
none_test n test = eq_from_test n 0 test

-- and then none has looked for them
pub no_cut_starts : (v : View) → pick_of v ≡ CutLoop → v.cut_starts ≡ 0
no_cut_starts v same =
    none_test v.cut_starts
    (and_parts (v.settings.cuts && v.has_rows) (nat_eq v.cut_starts 0) (pick_cuts v same)).1

-- the first open node is open

open_cases : (name : ℕ) (x : OpenNode) (others : Option OpenNode) (b : Bool)
    → nat_eq x.name name ≡ b
    → x.name ≡ name → cond b (Some x) others ≡ Some x
open_cases name x others true is named = refl
open_cases name x others false is named = absurd (ne_from_test x.name name is named)

first_open : (nodes : List OpenNode) (name : ℕ) → first_name nodes ≡ Some name
    → (node : OpenNode) × (first_named name nodes ≡ Some node)
first_open [] name same = absurd (none-some name same)
first_open (x ∷ xs) name same = (
  x,
  open_cases name x (first_named name xs) (nat_eq x.name name) refl
      (same_Some x.name name same),
)

-- the best open node is open
pub best_is_open : (v : View) (name : ℕ) → best_open v ≡ Some name → IsOpen v name
best_is_open v name same =
    let found = first_open v.open_nodes name same in
    record { node = found.0; first = found.1 }

first_known : (v : View) (nodes : List OpenNode) (name : ℕ) → first_name nodes ≡ Some name
    → All (λ node. is_known v node.name ≡ true) nodes → is_known v name ≡ true
first_known v [] name same all = absurd (none-some name same)
first_known v (x ∷ xs) name same all =
    subst (λ (n : ℕ). is_known v n ≡ true) (same_Some x.name name same)
    (All-head (λ (node : OpenNode). is_known v node.name ≡ true) x xs all)

-- and has a box in the root box
pub best_boxed : (m : ModelParts) (v : View) (name : ℕ) → FitsView m v → best_open v ≡ Some name
    → IsBoxed m v name
best_boxed m v name fits same =
    fits.boxed name (first_known v v.open_nodes name same fits.known.opened)

-- the local of a slot that takes a node fits
pub task_fits : (m : ModelParts) (v : View) (l : Local) (node : ℕ) → FitsView m v → FitsLocal m l
    → IsBoxed m v node → FitsLocal m (local_on m v l node)
task_fits m v l node view fits boxed = record {
  slot = fits.slot;
  few = fits.few;
  cuts = view.cuts;
  task = record {
    word = boxed.word;
    within = boxed.within;
    paired = boxed.paired;
    begun = omega arith;
    nodes = omega arith;
    cutoff = view.cutoff;
  };
}

-- and so does that of a slot that dives from one
pub dive_fits : (m : ModelParts) (v : View) (l : Local) (node : ℕ) → FitsView m v → FitsLocal m l
    → IsBoxed m v node → FitsLocal m (local_diving m v l node)
dive_fits m v l node view fits boxed = record {
  slot = fits.slot;
  few = fits.few;
  cuts = view.cuts;
  task = record { within = boxed.within; paired = boxed.paired; point = tt };
}

begin_cases : (m : ModelParts) (v : View) (l : Local) (pick : Pick) → pick_of v ≡ pick
    → FitsView m v → FitsLocal m l → FitsLocal m (begin_by m v l pick).local
begin_cases m v l Over same view fits = fits
begin_cases m v l Nothing same view fits = fits
begin_cases m v l CutLoop same view fits =
    record {
      slot = fits.slot;
      few = fits.few;
      cuts = view.cuts;
      task = record { few = omega arith };
    }
begin_cases m v l (Heuristic node) same view fits =
    dive_fits m v l node view fits (best_boxed m v node view (pick_dive v node same).1)
begin_cases m v l (Node node) same view fits =
    task_fits m v l node view fits (best_boxed m v node view (pick_best v node same))

-- a slot that begins leaves a local that fits
pub begin_fits : (m : ModelParts) (v : View) (l : Local) → FitsView m v → FitsLocal m l
    → FitsLocal m (begin_of m v l).local
begin_fits m v l view fits = begin_cases m v l (pick_of v) refl view fits

-- what a slot takes is an open node, a dive from one, or to look for cuts
pub data IsTaken (m : ModelParts) (v : View) (l : Local) : List Entry → AfterBegin Local → Type 0
  where
    OfNode : (node : ℕ) → pick_of v ≡ Node node → IsTaken m v l (Start node ∷ [])
        (record { does = Take (Start node ∷ []); local = local_on m v l node })
    OfDive : (node : ℕ) → pick_of v ≡ Heuristic node → IsTaken m v l (HeurStart node ∷ [])
        (record { does = Take (HeurStart node ∷ []); local = local_diving m v l node })
    OfCuts : pick_of v ≡ CutLoop → IsTaken m v l (CutStart ∷ [])
        (record { does = Take (CutStart ∷ []); local = local_with v l first_cuts })

end_takes_none : (es : List Entry) → End ≡ Take es → ⊥
end_takes_none es same = cc

idle_takes_none : (es : List Entry) → Idle ≡ Take es → ⊥
idle_takes_none es same = cc

same_taken : (xs ys : List Entry) → Take xs ≡ Take ys → ys ≡ xs
same_taken xs ys same = cc

taken_cases : (m : ModelParts) (v : View) (l : Local) (es : List Entry) (pick : Pick)
    → pick_of v ≡ pick → (begin_by m v l pick).does ≡ Take es
    → IsTaken m v l es (begin_by m v l pick)
taken_cases m v l es Over is same = absurd (end_takes_none es same)
taken_cases m v l es Nothing is same = absurd (idle_takes_none es same)
taken_cases m v l es (Heuristic node) is same =
    subst (λ (xs : List Entry). IsTaken m v l xs (begin_by m v l (Heuristic node)))
    (sym (same_taken (HeurStart node ∷ []) es same)) (OfDive node is)
taken_cases m v l es CutLoop is same =
    subst (λ (xs : List Entry). IsTaken m v l xs (begin_by m v l CutLoop))
    (sym (same_taken (CutStart ∷ []) es same)) (OfCuts is)
taken_cases m v l es (Node node) is same =
    subst (λ (xs : List Entry). IsTaken m v l xs (begin_by m v l (Node node)))
    (sym (same_taken (Start node ∷ []) es same)) (OfNode node is)

pub taken_is : (m : ModelParts) (v : View) (l : Local) (es : List Entry)
    → (begin_of m v l).does ≡ Take es → IsTaken m v l es (begin_of m v l)
taken_is m v l es same = taken_cases m v l es (pick_of v) refl same

taken_begun : (m : ModelParts) (v : View) (l : Local) (es : List Entry) (after : AfterBegin Local)
    → IsTaken m v l es after → is_none after.local.task ≡ false
taken_begun m v l _ _ (OfNode node is) = refl
taken_begun m v l _ _ (OfDive node is) = refl
taken_begun m v l _ _ (OfCuts is) = refl

-- a task that is taken has begun
pub take_begins : (m : ModelParts) (v : View) (l : Local) (es : List Entry)
    → (begin_of m v l).does ≡ Take es → is_none (begin_of m v l).local.task ≡ false
take_begins m v l es same = taken_begun m v l es (begin_of m v l) (taken_is m v l es same)

taken_words : (m : ModelParts) (v : View) (l : Local) (es : List Entry) (after : AfterBegin Local)
    → FitsView m v → IsTaken m v l es after → HaveWords es
taken_words m v l _ _ fits (OfNode node is) = record {
  each = All-cons HasWords (Start node) []
      (record { writable = tt; in_range = (best_boxed m v node fits (pick_best v node is)).word })
      (All-nil HasWords);
}
taken_words m v l _ _ fits (OfDive node is) = record {
  each = All-cons HasWords (HeurStart node) []
      (record { writable = tt; in_range = (best_boxed m v node fits (pick_dive v node is).1).word })
      (All-nil HasWords);
}
taken_words m v l _ _ fits (OfCuts is) = record {
  each = All-cons HasWords CutStart [] (record { writable = tt; in_range = tt })
      (All-nil HasWords);
}

-- its entry has words
pub begin_words : (m : ModelParts) (v : View) (l : Local) (es : List Entry) → FitsView m v
    → (begin_of m v l).does ≡ Take es → HaveWords es
begin_words m v l es fits same =
    taken_words m v l es (begin_of m v l) fits (taken_is m v l es same)

idle_cases : (m : ModelParts) (v : View) (l : Local) (pick : Pick)
    → (begin_by m v l pick).does ≡ Idle → (begin_by m v l pick).local ≡ l
idle_cases m v l Over same = absurd (cc)
idle_cases m v l Nothing same = refl
idle_cases m v l CutLoop same = absurd (cc)
idle_cases m v l (Heuristic node) same = absurd (cc)
idle_cases m v l (Node node) same = absurd (cc)

-- a slot that waits is left as it was
pub idle_stays : (m : ModelParts) (v : View) (l : Local) → (begin_of m v l).does ≡ Idle
    → (begin_of m v l).local ≡ l
idle_stays m v l same = idle_cases m v l (pick_of v) same

end_cases : (m : ModelParts) (v : View) (l : Local) (pick : Pick) → (begin_by m v l pick).does ≡ End
    → (begin_by m v l pick).local ≡ l
end_cases m v l Over same = refl
end_cases m v l Nothing same = refl
end_cases m v l CutLoop same = absurd (cc)
end_cases m v l (Heuristic node) same = absurd (cc)
end_cases m v l (Node node) same = absurd (cc)

-- and so is one that is over
pub end_stays : (m : ModelParts) (v : View) (l : Local) → (begin_of m v l).does ≡ End
    → (begin_of m v l).local ≡ l
end_stays m v l same = end_cases m v l (pick_of v) same
