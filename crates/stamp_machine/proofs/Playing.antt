-- A move of a run is a move of the machine.
use Rattle.std.proofs.Common.{◌≡◌, ℕ, zero, suc, ◌+◌, ◌<◌, ◌≤◌, List, [], ◌∷◌, ◌++◌, length, set, get_or, Option, Some, None, refl, sym, ap, ◌∙◌, subst, arith}
use Rattle.std.specs.Prelude.{insert, remove}
use Rattle.ip_core.specs.declared.leaf.Record.{Record}
use Rattle.work_stamp.specs.Histories.{under}
use Rattle.work_stamp.specs.Taskers.{Rules, Standing, view_of, IsLawful}
use Rattle.work_stamp.specs.declared.entry.Entry.{Entry}
use Rattle.work_stamp.specs.declared.stamped.KeyedEntry.{KeyedEntry}
use Rattle.stamp_machine.specs.Limits.{AreLimits}
use Rattle.stamp_machine.specs.Slots.{at, key_of, fresh_slot, fresh_slots, next_slot}
use Rattle.stamp_machine.specs.Machine.{turn, after_turn, move_next, move_of, moves, first, as_history, history}
use Rattle.stamp_machine.specs.Plays.{CanTurn, with_entries, after_move, play_of, PlaysMachine, history_of_play, moves_left_all}
use Rattle.stamp_machine.specs.declared.limits.Limits.{Limits}
use Rattle.stamp_machine.specs.declared.opening.Turn.{Turn}
use Rattle.stamp_machine.specs.declared.play.Play.{Play}
use Rattle.stamp_machine.specs.declared.play.AfterMove.{AfterMove}
use Rattle.stamp_machine.specs.declared.play.HistoryView.{HistoryView}
use Rattle.stamp_machine.specs.declared.slot.Slot.{Slot}
use Rattle.stamp_machine.proofs.Places.{at-length}
use Rattle.stamp_machine.proofs.Follows.{view_after-append}
use Rattle.stamp_machine.proofs.Least.{next_is}
use Rattle.stamp_machine.proofs.Standings.{kept, short, moves_stand, one_at_most}
use Rattle.stamp_machine.proofs.Stops.{fewer_left, whole}

pub fresh_more : {V L : Type 0} (r : Rules V L) (from n : ℕ) → fresh_slots r from n ++ fresh_slot r (from + n) ∷ [] ≡ fresh_slots r from (suc n)
fresh_more r from zero = let same : from + 0 ≡ from = omega arith in ap (λ (n : ℕ). fresh_slot r n ∷ []) same
fresh_more r from (suc n) =
    let same : from + suc n ≡ suc from + n = omega arith in
    ap (λ (k : ℕ). fresh_slot r from ∷ (fresh_slots r (suc from) n ++ fresh_slot r k ∷ [])) same ∙ ap (λ rest. fresh_slot r from ∷ rest) (fresh_more r (suc from) n)

-- an item that is taken out and put back changed
pub put_back : {A : Type 0} (xs : List A) (k : ℕ) (x : A) → k < length xs → insert (remove xs k) k x ≡ set xs k x
put_back [] k x h = absurd (omega arith)
put_back (y ∷ xs) zero x h = refl
put_back (y ∷ xs) (suc k) x h = ap (λ rest. y ∷ rest) (put_back xs k x (omega arith))

pub at_taken : {A : Type 0} (xs : List A) (k : ℕ) (d x : A) → at xs k ≡ Some x → get_or xs k d ≡ x
at_taken [] k d x e = cc
at_taken (y ∷ xs) zero d x e = cc
at_taken (y ∷ xs) (suc k) d x e = at_taken xs k d x e

pub at_read : {A : Type 0} (xs : List A) (k : ℕ) (x : A) → k < length xs → x ≡ get_or xs k x → at xs k ≡ Some x
at_read [] k x h e = absurd (omega arith)
at_read (y ∷ xs) zero x h e = ap Some (sym e)
at_read (y ∷ xs) (suc k) x h e = at_read xs k x (omega arith) e

pub next_within : {L : Type 0} (slots : List (Slot L)) (number : ℕ) → next_slot slots ≡ Some number → number < length slots
next_within slots number e = let x = next_is slots number e in at-length slots number x.slot x.there

module _ (V L : Type 0) (r : Rules V L) (FitsView : V → Type 0) (FitsLocal : L → Type 0) (MayFollow : List KeyedEntry → Entry → Type 0) (Agrees : List KeyedEntry → List (Option (Standing L)) → Type 0)
    (law : IsLawful r FitsView FitsLocal MayFollow Agrees) (limits : Limits) (ranges : AreLimits limits) where
  pub few_slots : (play : Play V L) → PlaysMachine r limits play → length play.slots ≤ 64
  few_slots play p =
      let s = moves_stand V L r FitsView FitsLocal MayFollow Agrees law limits ranges p.count in
      omega (arith, ap (λ (x : Play V L). length x.slots) p.is, s.number, ranges.few_slots)

  module _ (n number : ℕ) (slot : Slot L) (next : next_slot (moves r limits n).slots ≡ Some number) (there : at (moves r limits n).slots number ≡ Some slot) where
    abbrev its : Turn L
    its = turn r limits number (view_of r (moves r limits n).entries) slot

    it_is : (next_is (moves r limits n).slots number next).slot ≡ slot
    it_is = let x = next_is (moves r limits n).slots number next in cc (x.there, there)

    pub turns : CanTurn r FitsView FitsLocal MayFollow limits (play_of r (moves r limits n)).so_far number slot
    turns =
        let state = moves r limits n in
        let s = moves_stand V L r FitsView FitsLocal MayFollow Agrees law limits ranges n in
        let x = next_is state.slots number next in
        let lives : slot.live ≡ Some x.live = ap (λ (y : Slot L). y.live) (sym it_is) ∙ x.lives in
        let k = kept V L r FitsView FitsLocal MayFollow Agrees law limits ranges state s number slot x.live there lives in
        let most = one_at_most its.slot.live in
        record {
          grow = record { view = refl; fits = s.view; follow = k.follow; few = omega (arith, k.few, k.store, most, short V L r FitsView FitsLocal MayFollow Agrees law limits ranges state s) };
          fits = s.fits number slot there;
          store = s.store number slot there;
        }

    pub next_state : moves r limits (suc n) ≡ after_turn (moves r limits n) number slot its
    unfolding moves
    next_state = ap (move_next r limits (moves r limits n)) next ∙ ap (move_of r limits (moves r limits n) number) there

    fewer : moves_left_all limits (set (moves r limits n).slots number its.slot) < moves_left_all limits (moves r limits n).slots
    fewer =
        let x = next_is (moves r limits n).slots number next in
        let lives : slot.live ≡ Some x.live = ap (λ (y : Slot L). y.live) (sym it_is) ∙ x.lives in
        fewer_left V L r FitsView FitsLocal MayFollow Agrees law limits ranges (moves r limits n) (moves_stand V L r FitsView FitsLocal MayFollow Agrees law limits ranges n) number slot x.live there lives

  pub can_turn : (play : Play V L) (p : PlaysMachine r limits play) (number : ℕ) (slot : Slot L) → next_slot play.slots ≡ Some number → at play.slots number ≡ Some slot → CanTurn r FitsView FitsLocal MayFollow limits play.so_far number slot
  can_turn play p number slot next there =
      let slots = ap (λ (x : Play V L). x.slots) p.is in
      let so_far = ap (λ (x : Play V L). x.so_far) p.is in
      subst (λ s. CanTurn r FitsView FitsLocal MayFollow limits s number slot) (sym so_far)
      (turns p.count number slot (ap next_slot (sym slots) ∙ next) (ap (λ (s : List (Slot L)). at s number) (sym slots) ∙ there))

  pub has_moved : (play : Play V L) (p : PlaysMachine r limits play) (number : ℕ) (slot : Slot L) (m : AfterMove V L) (slots' : List (Slot L)) → next_slot play.slots ≡ Some number → at play.slots number ≡ Some slot →
      m ≡ after_move r play.so_far (key_of number slot) (turn r limits number play.so_far.view slot) → slots' ≡ set play.slots number m.slot → PlaysMachine r limits (record { so_far = m.so_far; slots = slots' })
  has_moved play p number slot m slots' next there is put =
      let slots = ap (λ (x : Play V L). x.slots) p.is in
      let so_far = ap (λ (x : Play V L). x.so_far) p.is in
      let state = moves r limits p.count in
      let t = turn r limits number (view_of r state.entries) slot in
      let then = next_state p.count number slot (ap next_slot (sym slots) ∙ next) (ap (λ (s : List (Slot L)). at s number) (sym slots) ∙ there) in
      let moved_is : m ≡ after_move r (play_of r state).so_far (key_of number slot) t = is ∙ ap (λ (s : HistoryView V). after_move r s (key_of number slot) (turn r limits number s.view slot)) so_far in
      let slots_are : slots' ≡ set state.slots number t.slot = put ∙ (ap (λ (s : List (Slot L)). set s number m.slot) slots ∙ ap (λ (x : AfterMove V L). set state.slots number x.slot) moved_is) in
      let view = sym (view_after-append r r.fresh_view state.entries (under (key_of number slot) t.entries)) in
      let whole : record { so_far = m.so_far; slots = slots' } ≡ play_of r (after_turn state number slot t) =
      ap (λ (x : AfterMove V L). record { so_far = x.so_far; slots = slots' }) moved_is
      ∙ (ap (λ (s : List (Slot L)). record { so_far = with_entries r (play_of r state).so_far (key_of number slot) t.entries; slots = s }) slots_are
      ∙ ap (λ (v : V). record { so_far = record { entries = state.entries ++ under (key_of number slot) t.entries; view = v }; slots = set state.slots number t.slot }) view) in
      record { count = suc p.count; is = whole ∙ ap (play_of r) (sym then) }

  pub has_fewer : (play : Play V L) (p : PlaysMachine r limits play) (number : ℕ) (slot : Slot L) (m : AfterMove V L) (slots' : List (Slot L)) → next_slot play.slots ≡ Some number → at play.slots number ≡ Some slot →
      m ≡ after_move r play.so_far (key_of number slot) (turn r limits number play.so_far.view slot) → slots' ≡ set play.slots number m.slot → moves_left_all limits slots' < moves_left_all limits play.slots
  has_fewer play p number slot m slots' next there is put =
      let slots = ap (λ (x : Play V L). x.slots) p.is in
      let so_far = ap (λ (x : Play V L). x.so_far) p.is in
      let state = moves r limits p.count in
      let t = turn r limits number (view_of r state.entries) slot in
      let moved_is : m ≡ after_move r (play_of r state).so_far (key_of number slot) t = is ∙ ap (λ (s : HistoryView V). after_move r s (key_of number slot) (turn r limits number s.view slot)) so_far in
      let slots_are : slots' ≡ set state.slots number t.slot = put ∙ (ap (λ (s : List (Slot L)). set s number m.slot) slots ∙ ap (λ (x : AfterMove V L). set state.slots number x.slot) moved_is) in
      let less = fewer p.count number slot (ap next_slot (sym slots) ∙ next) (ap (λ (s : List (Slot L)). at s number) (sym slots) ∙ there) in
      omega (arith, less, ap (moves_left_all limits) slots_are, ap (moves_left_all limits) slots)

  pub plays_first : (play : Play V L) → play ≡ play_of r (first r limits) → PlaysMachine r limits play
  unfolding moves
  plays_first play e = record { count = 0; is = e }

  pub plays_whole : (play : Play V L) → PlaysMachine r limits play → next_slot play.slots ≡ None → history_of_play play ≡ history r limits
  plays_whole play p none =
      let slots = ap (λ (x : Play V L). x.slots) p.is in
      let done = whole V L r FitsView FitsLocal MayFollow Agrees law limits ranges p.count (ap next_slot (sym slots) ∙ none) in
      ap history_of_play p.is ∙ ap as_history done

-- the slot that is taken out is the one of this number
pub taken_out : {L : Type 0} (slots items : List (Slot L)) (number : ℕ) (slot : Slot L) → next_slot slots ≡ Some number → items ≡ slots → slot ≡ get_or items number slot → at slots number ≡ Some slot
taken_out slots items number slot next same is = at_read slots number slot (next_within slots number next) (is ∙ ap (λ xs. get_or xs number slot) same)

-- and it is put back after its move
pub put_there : {L : Type 0} (slots items less more : List (Slot L)) (number : ℕ) (slot : Slot L) → next_slot slots ≡ Some number → items ≡ slots → less ≡ remove items number → more ≡ insert less number slot → more ≡ set slots number slot
put_there slots items less more number slot next same out in_again =
    in_again ∙ (ap (λ xs. insert xs number slot) (out ∙ ap (λ xs. remove xs number) same) ∙ put_back slots number slot (next_within slots number next))

-- one more fresh slot behind those before it
pub fresh_pushed : {V L : Type 0} (r : Rules V L) (n : ℕ) (old new : List (Slot L)) (local : L) (records leaves : List Record) (pending : List Entry) →
    old ≡ fresh_slots r 0 n → local ≡ r.fresh_local n → records ≡ [] → pending ≡ [] → leaves ≡ [] →
    new ≡ old ++ record { clock = 0; words = 0; records = records; live = Some (record { local = local; pending = pending; leaves = leaves }) } ∷ [] → new ≡ fresh_slots r 0 (n + 1)
fresh_pushed r n old new local records leaves pending so_far l a b c pushed =
    let same : 0 + n ≡ n = omega arith in
    let more : suc n ≡ n + 1 = omega arith in
    let slot : ◌≡◌ {A = Slot _} (record { clock = 0; words = 0; records = records; live = Some (record { local = local; pending = pending; leaves = leaves }) }) (fresh_slot r n) =
    ap (λ x. record { clock = 0; words = 0; records = records; live = Some (record { local = x; pending = pending; leaves = leaves }) }) l
    ∙ (ap (λ (x : List Record). record { clock = 0; words = 0; records = x; live = Some (record { local = r.fresh_local n; pending = pending; leaves = leaves }) }) a
    ∙ (ap (λ (x : List Entry). record { clock = 0; words = 0; records = []; live = Some (record { local = r.fresh_local n; pending = x; leaves = leaves }) }) b
    ∙ ap (λ (x : List Record). record { clock = 0; words = 0; records = []; live = Some (record { local = r.fresh_local n; pending = []; leaves = x }) }) c)) in
    pushed ∙ (ap (λ xs. xs ++ record { clock = 0; words = 0; records = records; live = Some (record { local = local; pending = pending; leaves = leaves }) } ∷ []) so_far
    ∙ (ap (λ x. fresh_slots r 0 n ++ x ∷ []) slot
    ∙ (ap (λ (k : ℕ). fresh_slots r 0 n ++ fresh_slot r k ∷ []) (sym same) ∙ (fresh_more r 0 n ∙ ap (fresh_slots r 0) more))))
