-- Passes over a box of which all columns are fixed.
use Rattle.std.proofs.Common.{◌≡◌, ◌≢◌, ◌∙◌, ℕ, zero, suc, ◌+◌, ◌<◌, true, false, not, ◌&&◌, List, [], ◌∷◌, length, All, ℤ, pos, ◌*ℤ◌, ◌≤ℤ◌, int_lt, Option, Some, None, refl, sym, ap, ap₂, subst, arith}
use Rattle.std.specs.Int.{int_max}
use Rattle.std.specs.Ordering.{int_eq}
use Rattle.std.specs.List.{zip}
use Rattle.std.specs.Cmp.Rules.{signed_items}
use Rattle.std.proofs.lemmas.Bool.{false≢true}
use Rattle.std.proofs.lemmas.Bool.Decides.{Decides-int_eq}
use Rattle.std.proofs.lemmas.Int.{ints, clamps}
use Rattle.std.proofs.lemmas.List.{get_or_default, same_lists}
use Rattle.std.proofs.lemmas.List.Elements.{All-nil, All-cons}
use Rattle.std.proofs.lemmas.List.Quantifiers.{position-Some}
use Rattle.std.proofs.lemmas.Slice.Zip.{get_or-zip, length-zip}
use Rattle.ip_core.specs.Numbers.{int_at}
use Rattle.ip_core.specs.Sides.{Sides, HasNoEmpty}
use Rattle.ip_core.specs.Boxes.{IsWithin, greatest_activity}
use Rattle.ip_core.specs.Rows.{IsMet, activity}
use Rattle.ip_core.specs.Models.{IsModel}
use Rattle.ip_core.specs.Truth.{IsFeasible}
use Rattle.ip_core.specs.declared.model.ModelParts.{ModelParts}
use Rattle.ip_core.specs.declared.row.Row.{Row}
use Rattle.ip_core.specs.declared.row.Term.{Term}
use Rattle.ip_core.specs.declared.row_ref.RowRef.{RowRef}
use Rattle.ip_core.specs.declared.row_ref.RowRef.TheVariants.{Model, Cut}
use Rattle.row_propagate.specs.declared.outcome.Outcome.{Outcome}
use Rattle.row_propagate.specs.declared.outcome.Outcome.TheVariants.{Open, Conflict, Empty}
use Rattle.row_propagate.specs.Passes.{Run, CountedRun, after_bound, after_column, after_columns, after_row, after_rows, after_pass, after_passes, counted_run, go_on, is_due, is_open, open_run, outcome_of_column, propagation_from, propagation_of, with_work, Propagation}
use Rattle.row_propagate.proofs.Keeping.{either}
use Rattle.round_dive.specs.declared.dive.DiveEnd.TheVariants.{Found, Stuck}
use Rattle.round_dive.specs.Feasible.{is_feasible_at}
use Rattle.round_dive.specs.Dives.{dive_after, dive_end, first_difference, first_free, is_fixed, next_box, with_fixed}
use Rattle.round_dive.specs.Laws.{FixedBoxIsDecided, HasFoundLows}
use Rattle.ip_core.proofs.NarrowerBoxes.{within_itself}
use Rattle.round_dive.proofs.FeasiblePoints.{both_true, feasible_decides}
use Rattle.round_dive.proofs.NarrowerRuns.{columns_narrow, due_open, go_on_either, not_open, solid_start}

-- a box whose columns are all fixed has no empty one
pub fixed_has_no_empty : (s : Sides) → s.lows ≡ s.highs → HasNoEmpty s
fixed_has_no_empty s fixed = record {
  all = λ k h. record { ordered = omega (arith, ints, ap (λ xs. int_at xs k) fixed) };
}

least_and_greatest : (low a b high : ℤ) → low ≤ℤ a → a ≤ℤ b → b ≤ℤ high → low ≡ high
    → (a ≡ low) × (b ≡ high)
least_and_greatest low a b high above ordered below same =
    (omega (arith, ints, above, ordered, below, same), omega (arith, ints, above, ordered, below, same))

-- a box within it that has no empty column is the same box
pub fixed_stays : (s t : Sides) → s.lows ≡ s.highs → IsWithin s t → HasNoEmpty t → t ≡ s
fixed_stays s t fixed within solid =
    let ends : (k : ℕ) → k < length t.lows → (int_at t.lows k ≡ int_at s.lows k) × (int_at t.highs k ≡ int_at s.highs k) =
    λ k h. least_and_greatest (int_at s.lows k) (int_at t.lows k) (int_at t.highs k) (int_at s.highs k) (within.lows k h) (solid.all k h).ordered (within.highs k h) (ap (λ xs. int_at xs k) fixed) in
    let as_many : length t.highs ≡ length t.lows = within.as_many_highs ∙ sym (ap length fixed) ∙ sym within.as_many_lows in
    let lows : t.lows ≡ s.lows = same_lists t.lows s.lows within.as_many_lows (λ k d h.
    get_or_default t.lows k d (pos 0) h ∙ (ends k h).0 ∙ sym (get_or_default s.lows k d (pos 0) (omega (arith, h, within.as_many_lows)))) in
    let highs : t.highs ≡ s.highs = same_lists t.highs s.highs within.as_many_highs (λ k d h.
    get_or_default t.highs k d (pos 0) h ∙ (ends k (omega (arith, h, as_many))).1 ∙ sym (get_or_default s.highs k d (pos 0) (omega (arith, h, within.as_many_highs)))) in
    ap₂ (λ (a b : List ℤ). record { lows = a; highs = b }) lows highs

-- a run that is open still has the box
abbrev Stays : Sides → Run → Type 0
Stays s run = run.outcome ≡ Open → run.sides ≡ s

columns_stay : (s : Sides) (name : RowRef) (row : Row) (run : Run) → s.lows ≡ s.highs
    → run.sides ≡ s → Stays s (after_columns name row row.terms run)
columns_stay s name row run fixed same = λ o.
    let narrower = columns_narrow s name row row.terms run (rw same (within_itself s)) (rw same (fixed_has_no_empty s fixed)) in
    fixed_stays s (after_columns name row row.terms run).sides fixed narrower.within (narrower.solid o)

-- the most that a row can give on the box is what it gives at its lows
part_at_lows : (c low high : ℤ) → low ≡ high → int_max (c *ℤ low) (c *ℤ high) ≡ c *ℤ low
part_at_lows c low high same = rw (← same) (omega (arith, ints, clamps))

activity_at_lows : (s : Sides) (terms : List Term) → s.lows ≡ s.highs
    → greatest_activity s terms ≡ activity s.lows terms
activity_at_lows s [] fixed = refl
activity_at_lows s (t ∷ terms) fixed =
    omega (arith, ints, part_at_lows t.coef (int_at s.lows t.col) (int_at s.highs t.col) (ap (λ xs. int_at xs t.col) fixed), activity_at_lows s terms fixed)

not_below : (a b : ℤ) → int_lt a b ≡ false → b ≤ℤ a
not_below a b h = omega (arith, ints)

-- a run that is open still has the box, and something holds then
record StaysWith (s : Sides) (P : Type 0) (run : Run) : Type 0 where
  sides : Stays s run
  holds : run.outcome ≡ Open → P

stays_shut : (s : Sides) (P : Type 0) (run : Run) → run.outcome ≢ Open → StaysWith s P run
stays_shut s P run shut = record { sides = λ o. absurd (shut o); holds = λ o. absurd (shut o) }

-- where a row leaves a run open, the box's lows meet it
row_met : (s : Sides) (name : RowRef) (row : Row) (run : Run) → s.lows ≡ s.highs → run.sides ≡ s
    → StaysWith s (IsMet s.lows row) (after_row name row run)
row_met s name row run fixed same =
    either (StaysWith s (IsMet s.lows row)) (int_lt (greatest_activity run.sides row.terms) row.least)
    (record run { outcome = Conflict name }) (after_columns name row row.terms run)
    (λ e. stays_shut s _ _ (not_open (Conflict name) refl))
    (λ e. record {
      sides = columns_stay s name row run fixed same;
      holds = λ o. record {
        reached = subst (λ a. row.least ≤ℤ a)
            (ap (λ b. greatest_activity b row.terms) same ∙ activity_at_lows s row.terms fixed)
            (not_below _ _ e);
      };
    })

rows_met : (s : Sides) (name : ℕ → RowRef) (i : ℕ) (rows : List Row) (run : Run)
    → s.lows ≡ s.highs → run.sides ≡ s
    → StaysWith s (All (IsMet s.lows) rows) (after_rows name i rows run)
rows_met s name i [] run fixed same = record { sides = λ o. same; holds = λ o. All-nil (IsMet s.lows) }
rows_met s name i (row ∷ rows) run fixed same =
    let first = row_met s (name i) row run fixed same in
    go_on_either (StaysWith s (All (IsMet s.lows) (row ∷ rows))) (after_row (name i) row run)
    (after_rows name (i + 1) rows) (stays_shut s _ (after_row (name i) row run))
    (λ o.
    let rest = rows_met s name (i + 1) rows (after_row (name i) row run) fixed (first.sides o) in
    record {
      sides = rest.sides;
      holds = λ p. All-cons (IsMet s.lows) row rows (first.holds o) (rest.holds p);
    })

-- where a pass leaves a run open, they meet all rows
pass_met : (s : Sides) (rows cuts : List Row) (run : Run) → s.lows ≡ s.highs → run.sides ≡ s
    → StaysWith s (All (IsMet s.lows) rows) (after_pass rows cuts run)
pass_met s rows cuts run fixed same =
    let first = rows_met s Model 0 rows run fixed same in
    go_on_either (StaysWith s (All (IsMet s.lows) rows)) (after_rows Model 0 rows run)
    (after_rows Cut 0 cuts) (stays_shut s _ (after_rows Model 0 rows run))
    (λ o.
    let rest = rows_met s Cut 0 cuts (after_rows Model 0 rows run) fixed (first.sides o) in
    record { sides = rest.sides; holds = λ p. first.holds o })

-- and so where all passes do, of which there is at least one
passes_met : (n : ℕ) (s : Sides) (rows cuts : List Row) (run : Run) (passes : ℕ)
    → s.lows ≡ s.highs → run.sides ≡ s
    → StaysWith s (All (IsMet s.lows) rows) (after_passes (suc n) rows cuts run passes).run
unfolding Rattle.row_propagate.specs.Passes.after_passes
passes_met zero s rows cuts run passes fixed same =
    let pass = pass_met s rows cuts run fixed same in
    either (λ (c : CountedRun). StaysWith s (All (IsMet s.lows) rows) c.run) (is_due run (after_pass rows cuts run))
    (counted_run (after_pass rows cuts run) (passes + 1)) (counted_run (after_pass rows cuts run) (passes + 1))
    (λ e. pass) (λ e. pass)
passes_met (suc n) s rows cuts run passes fixed same =
    let pass = pass_met s rows cuts run fixed same in
    either (λ (c : CountedRun). StaysWith s (All (IsMet s.lows) rows) c.run) (is_due run (after_pass rows cuts run))
    (after_passes (suc n) rows cuts (after_pass rows cuts run) (passes + 1)) (counted_run (after_pass rows cuts run) (passes + 1))
    (λ e. passes_met n s rows cuts (after_pass rows cuts run) (passes + 1) fixed (pass.sides (due_open run (after_pass rows cuts run) e)))
    (λ e. pass)

-- passes that leave such a box open leave it as it is, and its lows meet all rows
record HasMetLows (rows : List Row) (s : Sides) (p : Propagation) : Type 0 where
  stays : p.run.outcome ≡ Open → p.sides ≡ s
  met : p.run.outcome ≡ Open → All (IsMet s.lows) rows

propagated : (rows cuts : List Row) (s : Sides) → s.lows ≡ s.highs
    → HasMetLows rows s (propagation_of rows cuts s)
propagated rows cuts s fixed =
    let passed = passes_met 9 s rows cuts (open_run s []) 0 fixed refl in
    subst (HasMetLows rows s) (sym (solid_start rows cuts s (fixed_has_no_empty s fixed))) (record { stays = passed.sides; met = passed.holds })

no_some : (o : Option ℕ) → ((j : ℕ) → o ≢ Some j) → o ≡ None
no_some None none = refl
no_some (Some j) none = absurd (none j refl)

-- no number is different from itself
no_difference : (xs : List ℤ) → first_difference xs xs ≡ None
no_difference xs = no_some (first_difference xs xs) (λ j some.
    let place = position-Some (λ (both : ℤ × ℤ). not (int_eq both.0 both.1)) (zip xs xs) j (pos 0, pos 0) some in
    let known : j < length xs = omega (arith, place.0, length-zip xs xs) in
    let read = get_or-zip xs xs j (pos 0, pos 0) known known in
    let differs : not (int_eq (int_at xs j) (int_at xs j)) ≡ true = rw read at place.1 in
    let same : int_eq (int_at xs j) (int_at xs j) ≡ true = (Decides-int_eq (int_at xs j) (int_at xs j)).1 refl in
    absurd (false≢true (sym (ap not same) ∙ differs)))

nothing_free : (s : Sides) → s.lows ≡ s.highs → first_free s ≡ None
nothing_free s fixed = subst (λ xs. first_difference s.lows xs ≡ None) fixed (no_difference s.lows)

-- so the next box is the box
pub next_of_fixed : (s : Sides) (x : List ℤ) → s.lows ≡ s.highs → next_box s x ≡ s
next_of_fixed s x fixed = ap (with_fixed s x) (nothing_free s fixed)

lows_feasible : (m : ModelParts) (s : Sides) → IsModel m → IsWithin m.root s → s.lows ≡ s.highs
    → All (IsMet s.lows) m.rows → IsFeasible m s.lows
lows_feasible m s valid within fixed met = record {
  one_each = within.as_many_lows ∙ valid.bounds.box;
  inside = record {
    above = λ j h. within.lows j h;
    below = λ j h. omega (arith, ints, within.highs j h, ap (λ xs. int_at xs j) fixed);
  };
  rows_met = record { each = met };
}

-- an end that isn't stuck comes of passes that left the box open
pub end_open : (m : ModelParts) (outcome : Outcome) (s : Sides) → dive_end m outcome s ≢ Stuck
    → outcome ≡ Open
end_open m Open s going = refl
end_open m (Conflict name) s going = absurd (going refl)
end_open m (Empty col) s going = absurd (going refl)

end_found : (m : ModelParts) (outcome : Outcome) (s : Sides) → outcome ≡ Open → s.lows ≡ s.highs
    → IsFeasible m s.lows → dive_end m outcome s ≡ Found s.lows
end_found m outcome s left fixed feasible =
    let tests : (is_fixed s && is_feasible_at m s.lows) ≡ true =
    both_true (is_fixed s) (is_feasible_at m s.lows) ((signed_items s.lows s.highs).1 fixed) ((feasible_decides m s.lows).1 feasible) in
    rw (left, tests) refl

decided : (m : ModelParts) (cuts : List Row) (s : Sides) → IsModel m → IsWithin m.root s
    → s.lows ≡ s.highs → (dive_after m (propagation_of m.rows cuts s)).run.end ≢ Stuck
    → HasFoundLows s (dive_after m (propagation_of m.rows cuts s))
decided m cuts s valid within fixed going =
    let p = propagation_of m.rows cuts s in
    let known = propagated m.rows cuts s fixed in
    let left : p.run.outcome ≡ Open = end_open m p.run.outcome p.sides going in
    let same : p.sides ≡ s = known.stays left in
    record {
      stays = same;
      found = ap (dive_end m p.run.outcome) same ∙ end_found m p.run.outcome s left fixed (lows_feasible m s valid within fixed (known.met left));
    }

pub fixed_box_is_decided : FixedBoxIsDecided
fixed_box_is_decided m cuts s x valid within fixed =
    subst (λ (t : Sides). (dive_after m (propagation_of m.rows cuts t)).run.end ≢ Stuck → HasFoundLows s (dive_after m (propagation_of m.rows cuts t)))
    (sym (next_of_fixed s x fixed)) (decided m cuts s valid within fixed)
