-- What stays and what falls as a history grows.
use Rattle.std.proofs.Common.{◌≡◌, ◌∙◌, ℕ, zero, suc, Bool, true, false, ◌||◌, List, [], ◌∷◌, ◌++◌, ℤ, ◌≤ℤ◌, Some, refl, sym, subst, arith}
use Rattle.std.specs.Int.{int_min}
use Rattle.std.specs.Int.Signed.{≤ℤ_refl}
use Rattle.std.proofs.lemmas.Bool.{false≢true}
use Rattle.std.proofs.lemmas.Int.{ints, clamps}
use Rattle.ip_core.specs.declared.model.ModelParts.{ModelParts}
use Rattle.work_stamp.specs.Histories.{FollowInTurn, keyed_entry}
use Rattle.work_stamp.specs.declared.entry.Entry.TheVariants.{Found}
use Rattle.work_stamp.specs.declared.key.Key.{Key}
use Rattle.work_stamp.specs.declared.stamped.KeyedEntry.{KeyedEntry}
use Rattle.stamp_machine.specs.Slots.{at}
use Rattle.stamp_machine.proofs.Places.{none_is_no_some, same_some}
use Rattle.node_pool.specs.Branchings.{box_of}
use Rattle.node_pool.specs.Laws.{HasCutsOf}
use Rattle.node_pool.specs.Lemmas.Cuts.{more_cuts, same_cuts}
use Rattle.node_pool.specs.Lemmas.Joining.{view_next}
use Rattle.node_pool.specs.Views.{View, after_entry, fresh_view, is_known, view_after, view_of}
use Rattle.node_pool.specs.declared.settings.SearchSettings.{SearchSettings}
use Rattle.task_steps.specs.Agrees.{MayFollowIn}
use Rattle.task_steps.specs.Lemmas.Entries.{IsNext, makes, next_of}

-- The view `w` after further entries. Known names have kept their boxes, cuts stay, and the cutoff
-- is at most what it was, and at most each value that these entries find.
pub record IsLater (m : ModelParts) (v w : View) (entries : List KeyedEntry) : Type 0 where
  pub boxes : (name : ℕ) → is_known v name ≡ true
      → box_of m.root w.branches name ≡ box_of m.root v.branches name
  pub cuts : HasCutsOf v.cuts w.cuts
  pub falls : w.cutoff ≤ℤ v.cutoff
  pub below : (place : ℕ) (key : Key) (value : ℤ) (point : List ℤ)
      → at entries place ≡ Some (keyed_entry key (Found value point)) → w.cutoff ≤ℤ value

pub view_append : (m : ModelParts) (v : View) (xs ys : List KeyedEntry)
    → view_after m v (xs ++ ys) ≡ view_after m (view_after m v xs) ys
view_append m v [] ys = refl
view_append m v (x ∷ xs) ys = view_append m (after_entry m v x.entry) xs ys

pub up_to : (a b c : ℤ) → a ≤ℤ b → b ≤ℤ c → a ≤ℤ c
up_to a b c first second = omega (arith, ints)

or_left : (a b : Bool) → a ≡ true → (a || b) ≡ true
or_left true b h = refl
or_left false b h = absurd (false≢true h)

least_below : (a b : ℤ) → int_min a b ≤ℤ b
least_below a b = omega (arith, ints, clamps)

found_below : (m : ModelParts) (v : View) (value : ℤ) (point : List ℤ)
    → (after_entry m v (Found value point)).cutoff ≤ℤ value
found_below m v value point = least_below v.cutoff value

-- the first entry's own value
first_below : (m : ModelParts) (v : View) (e : KeyedEntry) (key : Key) (value : ℤ) (point : List ℤ)
    → Some e ≡ Some (keyed_entry key (Found value point))
    → (after_entry m v e.entry).cutoff ≤ℤ value
first_below m v e key value point same =
    subst (λ (x : KeyedEntry). (after_entry m v x.entry).cutoff ≤ℤ value)
    (sym (same_some e (keyed_entry key (Found value point)) same)) (found_below m v value point)

-- one entry and then the others
next_later : (m : ModelParts) (v w : View) (e : KeyedEntry) (es : List KeyedEntry)
    → IsNext m v (after_entry m v e.entry) e.entry → IsLater m (after_entry m v e.entry) w es
    → IsLater m v w (e ∷ es)
next_later m v w e es next later = record {
  boxes = λ name known.
      later.boxes name (next.names name ∙ or_left (is_known v name) (makes e.entry name) known)
      ∙ next.boxes name known;
  cuts = more_cuts v.cuts (after_entry m v e.entry).cuts w.cuts next.cuts later.cuts;
  falls = up_to w.cutoff (after_entry m v e.entry).cutoff v.cutoff later.falls next.falls;
  below = below;
} where
  below : (place : ℕ) (key : Key) (value : ℤ) (point : List ℤ)
      → at (e ∷ es) place ≡ Some (keyed_entry key (Found value point)) → w.cutoff ≤ℤ value
  below zero key value point there =
      up_to w.cutoff (after_entry m v e.entry).cutoff value later.falls
      (first_below m v e key value point there)
  below (suc place) key value point there = later.below place key value point there

module _ (m : ModelParts) (settings : SearchSettings) where
  -- entries that may follow a history one after the other
  pub later_view : (front es : List KeyedEntry) → FollowInTurn (MayFollowIn m settings) front es
      → IsLater m (view_of m settings front) (view_after m (view_of m settings front) es) es
  later_view front [] follow =
      let v = view_of m settings front in
      record {
        boxes = λ name known. refl;
        cuts = same_cuts v.cuts;
        falls = ≤ℤ_refl v.cutoff;
        below = λ place key value point there.
            absurd (none_is_no_some (keyed_entry key (Found value point)) there);
      }
  later_view front (e ∷ es) follow =
      let v = view_of m settings front in
      let w = after_entry m v e.entry in
      next_later m v (view_after m w es) e es (next_of m v e.entry follow.0)
      (subst (λ (u : View). IsLater m u (view_after m u es) es)
      (view_next m (fresh_view m settings) front e) (later_view (front ++ e ∷ []) es follow.1))
