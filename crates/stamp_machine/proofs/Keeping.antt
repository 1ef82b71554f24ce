-- What a lawful system of tasks keeps through every move of the machine.
use Rattle.std.proofs.Common.{◌≡◌, ℕ, zero, suc, ◌<◌, ◌≤◌, false, List, [], Option, Some, None, refl, sym, subst, arith}
use Rattle.std.specs.Prelude.{nat_eq}
use Rattle.std.proofs.lemmas.Bool.{ne_eqb}
use Rattle.work_stamp.specs.Histories.{under, FollowInTurn}
use Rattle.work_stamp.specs.Taskers.{Rules, Standing, view_of, IsLawful}
use Rattle.work_stamp.specs.declared.entry.Entry.{Entry}
use Rattle.work_stamp.specs.declared.stamped.KeyedEntry.{KeyedEntry}
use Rattle.stamp_machine.specs.Limits.{AreLimits}
use Rattle.stamp_machine.specs.Slots.{key_of, next_slot}
use Rattle.stamp_machine.specs.Machine.{State, turn, after_turn, moves, move_next, move_of}
use Rattle.stamp_machine.specs.Laws.{IsLawfulAfter}
use Rattle.stamp_machine.specs.Orders.{Each}
use Rattle.stamp_machine.specs.Runs.{of_slot}
use Rattle.stamp_machine.specs.declared.limits.Limits.{Limits}
use Rattle.stamp_machine.proofs.Follows.{follow-append}
use Rattle.stamp_machine.proofs.Least.{next_is}
use Rattle.stamp_machine.proofs.Orders.{each_append, each_map, each_under, filter_none}
use Rattle.stamp_machine.proofs.Places.{at-length}
use Rattle.stamp_machine.proofs.Standings.{kept, short, moves_stand}

module _ (V L : Type 0) (r : Rules V L) (FitsView : V → Type 0) (FitsLocal : L → Type 0) (MayFollow : List KeyedEntry → Entry → Type 0) (Agrees : List KeyedEntry → List (Option (Standing L)) → Type 0)
    (law : IsLawful r FitsView FitsLocal MayFollow Agrees) (limits : Limits) (ranges : AreLimits limits) where
  record Follows (state : State L) : Type 0 where
    follow : FollowInTurn MayFollow [] state.entries
    slots : Each (λ e. e.key.slot < limits.slots) state.entries

  move_follows : (n : ℕ) (o : Option ℕ) → next_slot (moves r limits n).slots ≡ o → Follows (moves r limits n) → Follows (move_next r limits (moves r limits n) o)
  move_follows n None e f = f
  move_follows n (Some number) e f =
      let state = moves r limits n in
      let x = next_is state.slots number e in
      let s = moves_stand V L r FitsView FitsLocal MayFollow Agrees law limits ranges n in
      let k = kept V L r FitsView FitsLocal MayFollow Agrees law limits ranges state s number x.slot x.live x.there x.lives in
      let few : number < limits.slots = omega (arith, at-length state.slots number x.slot x.there, s.number) in
      let t = turn r limits number (view_of r state.entries) x.slot in
      let next : Follows (after_turn state number x.slot t) =
      record {
        follow = follow-append MayFollow [] state.entries (under (key_of number x.slot) t.entries) f.follow k.follow;
        slots = each_append _ state.entries (under (key_of number x.slot) t.entries) f.slots (each_under (λ y. y.slot < limits.slots) (key_of number x.slot) t.entries few);
      } in
      subst (λ o. Follows (move_of r limits state number o)) (sym x.there) next

  all_follow : (n : ℕ) → Follows (moves r limits n)
  unfolding moves
  all_follow zero = record { follow = tt; slots = tt }
  all_follow (suc n) = move_follows n (next_slot (moves r limits n).slots) refl (all_follow n)

  none_of : (number : ℕ) → limits.slots ≤ number → (es : List KeyedEntry) → Each (λ e. e.key.slot < limits.slots) es → of_slot number es ≡ []
  none_of number past es each = filter_none (λ e. nat_eq e.key.slot number) es (each_map (λ e. e.key.slot < limits.slots) (λ e. nat_eq e.key.slot number ≡ false) es (λ e h. ne_eqb e.key.slot number (λ same. omega arith)) each)

  pub keeps : (n : ℕ) → IsLawfulAfter r FitsView FitsLocal MayFollow Agrees limits n
  keeps n =
      let s = moves_stand V L r FitsView FitsLocal MayFollow Agrees law limits ranges n in
      let f = all_follow n in
      record {
        stands = s;
        follow = f.follow;
        short = omega (arith, short V L r FitsView FitsLocal MayFollow Agrees law limits ranges (moves r limits n) s);
        slots = λ number past. none_of number past (moves r limits n).entries f.slots;
        turn_keeps = λ number slot live there lives. kept V L r FitsView FitsLocal MayFollow Agrees law limits ranges (moves r limits n) s number slot live there lives;
      }
