-- What a system of tasks names, and the laws that it keeps.
use Rattle.std.specs.Prelude.{ℕ, zero, suc, ◌≡◌, ◌≤◌, ◌<◌, ◌^◌, Bool, true, false, List, [], ◌∷◌, ◌++◌, length, get_or, set, All, Option, Some, None}
use Rattle.work_stamp.specs.declared.entry.Entry.{Entry}
use Rattle.work_stamp.specs.declared.entry.Entry.TheVariants.{Halt}
use Rattle.work_stamp.specs.declared.key.Key.{Key}
use Rattle.work_stamp.specs.declared.stamped.KeyedEntry.{KeyedEntry}
use Rattle.work_stamp.specs.declared.task.Begin.{Begin}
use Rattle.work_stamp.specs.declared.task.Begin.TheVariants.{Take, Idle, End}
use Rattle.work_stamp.specs.declared.task.Chunk.{Chunk}
use Rattle.work_stamp.specs.Histories.{keyed_entry, under, FollowInTurn}
use Rattle.work_stamp.specs.Writable.{HasWords}

-- what a slot between tasks does, and its local afterwards
pub record AfterBegin (L : Type 0) : Type 0 where
  pub does : Begin
  pub local : L

-- what a part of a task gives, and the local afterwards
pub record AfterChunk (L : Type 0) : Type 0 where
  pub gives : Chunk
  pub local : L

-- the definitions of a system of tasks, over its views of a history and its locals
pub record Rules (V L : Type 0) : Type 0 where
  pub fresh_view : V
  pub fresh_local : ℕ → L
  pub absorb : V → Key → Entry → V
  pub at_start : L → Bool
  pub begin : V → L → AfterBegin L
  pub chunk : L → AfterChunk L

-- the view after further entries
abbrev pub view_after : {V L : Type 0} → Rules V L → V → List KeyedEntry → V
view_after r v [] = v
view_after r v (e ∷ es) = view_after r (r.absorb v e.key e.entry) es

-- the view of a history
abbrev pub view_of : {V L : Type 0} → Rules V L → List KeyedEntry → V
view_of r history = view_after r r.fresh_view history

-- a slot that hasn't ended: its local, and the entries of its last chunk, which have not joined the history
pub record Standing (L : Type 0) : Type 0 where
  pub local : L
  pub pending : List Entry

-- a slot of this local with these entries pending
abbrev pub standing : {L : Type 0} → L → List Entry → Option (Standing L)
standing l es = Some (record { local = l; pending = es })

-- slots with fresh locals and nothing pending, from the first one on
abbrev pub fresh_standings : {V L : Type 0} → Rules V L → ℕ → ℕ → List (Option (Standing L))
fresh_standings r first zero = []
fresh_standings r first (suc more) = standing (r.fresh_local first) [] ∷ fresh_standings r
    (suc first) more

-- a view that an entry may join: there is a history whose view it is and which the entry may follow
pub record CanJoin {V L : Type 0} (r : Rules V L) (MayFollow : List KeyedEntry → Entry → Type 0)
    (view : V) (e : Entry) : Type 0 where
  pub history : List KeyedEntry
  pub few : length history < 2 ^ 31
  pub is_view : view ≡ view_of r history
  pub follows : MayFollow history e

-- each entry has words from which it is read again
pub record HaveWords (es : List Entry) : Type 0 where
  pub each : All HasWords es

-- The laws of a system of tasks. Those on `Agrees` are said of every slot, in whatever order the slots act.
pub record IsLawful {V L : Type 0} (r : Rules V L) (FitsView : V → Type 0) (FitsLocal : L → Type 0)
    (MayFollow : List KeyedEntry → Entry → Type 0)
    (Agrees : List KeyedEntry → List (Option (Standing L)) → Type 0) : Type 0 where
  -- the fresh view and the fresh locals fit, and each call keeps it
  pub fresh_view_fits : FitsView r.fresh_view
  pub fresh_local_fits : (slot : ℕ) → slot < 64 → FitsLocal (r.fresh_local slot)
  pub fresh_local_starts : (slot : ℕ) → slot < 64 → r.at_start (r.fresh_local slot) ≡ true
  pub absorb_fits : (view : V) (k : Key) (e : Entry) → FitsView view → CanJoin r MayFollow view e →
      FitsView (r.absorb view k e)
  pub begin_fits : (view : V) (l : L) → FitsView view → FitsLocal l → r.at_start l ≡ true →
      FitsLocal (r.begin view l).local
  pub chunk_fits : (l : L) → FitsLocal l → r.at_start l ≡ false → FitsLocal (r.chunk l).local
  -- a task that is taken has begun; a slot that waits or is over is left as it was
  pub take_begins : (view : V) (l : L) (es : List Entry) → FitsView view → FitsLocal l →
      r.at_start l ≡ true → (r.begin view l).does ≡ Take es →
      r.at_start (r.begin view l).local ≡ false
  pub idle_stays : (view : V) (l : L) → FitsView view → FitsLocal l → r.at_start l ≡ true →
      (r.begin view l).does ≡ Idle → (r.begin view l).local ≡ l
  pub end_stays : (view : V) (l : L) → FitsView view → FitsLocal l → r.at_start l ≡ true →
      (r.begin view l).does ≡ End → (r.begin view l).local ≡ l
  -- a part of a task counts some work, and not too much
  pub some_work : (l : L) → FitsLocal l → r.at_start l ≡ false → 1 ≤ (r.chunk l).gives.work
  pub little_work : (l : L) → FitsLocal l → r.at_start l ≡ false → (r.chunk l).gives.work ≤ 2 ^ 40
  -- every entry given has words
  pub begin_words : (view : V) (l : L) (es : List Entry) → FitsView view → FitsLocal l →
      r.at_start l ≡ true → (r.begin view l).does ≡ Take es → HaveWords es
  pub chunk_words : (l : L) → FitsLocal l → r.at_start l ≡ false →
      HaveWords (r.chunk l).gives.entries
  -- the empty history agrees with fresh locals and nothing pending
  pub agrees_at_first : (slots : ℕ) → slots ≤ 64 → Agrees [] (fresh_standings r 0 slots)
  -- a slot's first pending entry may follow, and joins
  pub pending_follows : (history : List KeyedEntry) (slots : List (Option (Standing L))) (slot : ℕ)
      (l : L) (e : Entry) (es : List Entry) →
      length history < 2 ^ 31 → Agrees history slots →
      get_or slots slot None ≡ standing l (e ∷ es) → MayFollow history e
  pub pending_joins : (history : List KeyedEntry) (slots : List (Option (Standing L))) (slot : ℕ)
      (k : Key) (l : L) (e : Entry) (es : List Entry) →
      length history < 2 ^ 31 → Agrees history slots →
      get_or slots slot None ≡ standing l (e ∷ es) →
      Agrees (history ++ keyed_entry k e ∷ []) (set slots slot (standing l es))
  -- a task is taken: its entries may follow one after the other, and join
  pub take_follows : (history : List KeyedEntry) (slots : List (Option (Standing L))) (slot : ℕ)
      (k : Key) (l : L) (es : List Entry) →
      length history < 2 ^ 31 → Agrees history slots → get_or slots slot None ≡ standing l [] →
      r.at_start l ≡ true → (r.begin (view_of r history) l).does ≡ Take es →
      FollowInTurn MayFollow history (under k es)
  pub take_joins : (history : List KeyedEntry) (slots : List (Option (Standing L))) (slot : ℕ)
      (k : Key) (l : L) (es : List Entry) →
      length history < 2 ^ 31 → Agrees history slots → get_or slots slot None ≡ standing l [] →
      r.at_start l ≡ true → (r.begin (view_of r history) l).does ≡ Take es →
      Agrees (history ++ under k es) (set slots slot
      (standing (r.begin (view_of r history) l).local []))
  -- a part of a task is done, and its entries wait
  pub chunk_agrees : (history : List KeyedEntry) (slots : List (Option (Standing L))) (slot : ℕ)
      (l : L) →
      length history < 2 ^ 31 → Agrees history slots → get_or slots slot None ≡ standing l [] →
      r.at_start l ≡ false →
      Agrees history (set slots slot (standing (r.chunk l).local (r.chunk l).gives.entries))
  -- a Halt may follow, and joins; a slot may be left out
  pub halt_follows : (history : List KeyedEntry) (slots : List (Option (Standing L))) →
      length history < 2 ^ 31 → Agrees history slots → MayFollow history Halt
  pub halt_joins : (history : List KeyedEntry) (slots : List (Option (Standing L))) (k : Key) →
      length history < 2 ^ 31 → Agrees history slots →
      Agrees (history ++ keyed_entry k Halt ∷ []) slots
  pub slot_leaves : (history : List KeyedEntry) (slots : List (Option (Standing L))) (slot : ℕ) →
      length history < 2 ^ 31 → Agrees history slots → Agrees history (set slots slot None)
