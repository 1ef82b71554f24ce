-- A small system of tasks for tests. Three tasks are taken in all, each by the slot that finds fewer than three begun. A
-- task has two chunks: one finds a point, the other ends the task. A slot that finds three tasks begun waits until all
-- three have ended.
use Rattle.std.specs.Prelude.{ℕ, zero, suc, ◌+◌, ◌≤◌, ◌<◌, nat_eq, nat_lt, if◌then◌else◌, pos, List, [], ◌∷◌, replicate, Option, Some, None}
use Rattle.ip_core.specs.declared.leaf.Closing.TheVariants.{Empty}
use Rattle.ip_core.specs.declared.leaf.Record.{Record}
use Rattle.work_stamp.specs.Taskers.{Rules, AfterBegin, AfterChunk, Standing}
use Rattle.work_stamp.specs.declared.entry.Entry.{Entry}
use Rattle.work_stamp.specs.declared.entry.Entry.TheVariants.{Start, Found, Done}
use Rattle.work_stamp.specs.declared.stamped.KeyedEntry.{KeyedEntry}
use Rattle.work_stamp.specs.declared.task.Begin.TheVariants.{Take, Idle, End}

-- one more, up to three
abbrev pub one_more : ℕ → ℕ
one_more n = if nat_lt n 3 then n + 1 else n

-- how many tasks have begun and how many have ended, each counted up to three
abbrev pub counts_after : ℕ × ℕ → Entry → ℕ × ℕ
counts_after counts (Start node) = (one_more counts.0, counts.1)
counts_after counts Done = (counts.0, one_more counts.1)
counts_after counts entry = counts

-- a point of twenty columns
abbrev pub found_entry : Entry
found_entry = Found (pos 0) (replicate 20 (pos 0))

-- the record of a task's end
abbrev pub leaf : Record
leaf = record { node = 7; leaf = record { steps = []; closing = Empty 0 } }

-- a local is the number of chunks that are left
abbrev pub begin_of : ℕ × ℕ → ℕ → AfterBegin ℕ
begin_of counts left =
    if nat_lt counts.0 3
    then record { does = Take (Start counts.0 ∷ []); local = 2 }
    else (if nat_lt counts.1 3
    then record { does = Idle; local = left }
    else record { does = End; local = left })

-- the first of two chunks finds a point, the second ends the task
abbrev pub chunk_of : ℕ → AfterChunk ℕ
chunk_of left =
    if nat_eq left 2
    then record {
      gives = record { entries = found_entry ∷ []; records = []; work = 400 };
      local =
          1;
    }
    else record {
      gives = record { entries = Done ∷ []; records = leaf ∷ []; work = 300 };
      local =
          0;
    }

-- the definitions of the relay
abbrev pub relay : Rules (ℕ × ℕ) ℕ
relay = record {
  fresh_view = (0, 0);
  fresh_local = λ slot. 0;
  absorb = λ counts key entry. counts_after counts entry;
  at_start = λ left. nat_eq left 0;
  begin = begin_of;
  chunk = chunk_of;
}

-- counts up to three
pub record AreCounts (counts : ℕ × ℕ) : Type 0 where
  pub few_starts : counts.0 ≤ 3
  pub few_ends : counts.1 ≤ 3

-- the starts of an entry: one or none
abbrev pub starts : Entry → ℕ
starts (Start node) = 1
starts entry = 0

-- the ends of an entry: one or none
abbrev pub ends : Entry → ℕ
ends Done = 1
ends entry = 0

-- how many tasks have begun in a history
abbrev pub start_count : List KeyedEntry → ℕ
start_count [] = 0
start_count (e ∷ es) = starts e.entry + start_count es

-- how many have ended
abbrev pub end_count : List KeyedEntry → ℕ
end_count [] = 0
end_count (e ∷ es) = ends e.entry + end_count es

-- a task may end where fewer have ended than begun, and every other entry may follow
abbrev pub MayFollow : List KeyedEntry → Entry → Type 0
MayFollow history Done = end_count history < start_count history
MayFollow history entry = Unit {0}

-- at most two chunks are left
abbrev pub IsLocal : ℕ → Type 0
IsLocal left = left ≤ 2

-- the end that a task still owes
abbrev pub owed_ends : ℕ → ℕ
owed_ends zero = 0
owed_ends (suc left) = 1

-- the ends among entries
abbrev pub ends_of : List Entry → ℕ
ends_of [] = 0
ends_of (e ∷ es) = ends e + ends_of es

-- the ends of a slot that haven't joined: those that are pending, and that of its task
abbrev pub due_ends : Option (Standing ℕ) → ℕ
due_ends None = 0
due_ends (Some slot) = owed_ends slot.local + ends_of slot.pending

-- the same of all slots
abbrev pub all_due_ends : List (Option (Standing ℕ)) → ℕ
all_due_ends [] = 0
all_due_ends (slot ∷ slots) = due_ends slot + all_due_ends slots

-- every end that has joined, or is yet to join, has its start in the history
pub record Agrees (history : List KeyedEntry) (slots : List (Option (Standing ℕ))) : Type 0 where
  pub enough : end_count history + all_due_ends slots ≤ start_count history
