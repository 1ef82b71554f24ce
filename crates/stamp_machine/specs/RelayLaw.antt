-- The relay is a lawful system of tasks.
use Rattle.std.proofs.Common.{◌≡◌, ℕ, zero, suc, ◌+◌, ◌<◌, ◌≤◌, ◌^◌, Bool, true, false, List, [], ◌∷◌, ◌++◌, get_or, set, Option, Some, None, pos, refl, sym, ap, subst, arith}
use Rattle.std.specs.Prelude.{nat_eq, nat_lt, if◌then◌else◌}
use Rattle.std.proofs.lemmas.Grind.{common_steps}
use Rattle.std.proofs.lemmas.List.Elements.{All-cons, All-nil}
use Rattle.work_stamp.specs.Histories.{keyed_entry, under, FollowInTurn}
use Rattle.work_stamp.specs.Taskers.{AfterBegin, AfterChunk, Standing, standing, fresh_standings, view_of, IsLawful, HaveWords}
use Rattle.work_stamp.specs.Writable.{HasWords, IsSigned}
use Rattle.work_stamp.specs.declared.entry.Entry.{Entry}
use Rattle.work_stamp.specs.declared.entry.Entry.TheVariants.{Start, CutStart, HeurStart, Done, Found, Cut, Split, Closed, Halt}
use Rattle.work_stamp.specs.declared.key.Key.{Key}
use Rattle.work_stamp.specs.declared.stamped.KeyedEntry.{KeyedEntry}
use Rattle.work_stamp.specs.declared.task.Begin.TheVariants.{Take, Idle, End}
use Rattle.stamp_machine.specs.Relay.{relay, counts_after, one_more, found_entry, begin_of, chunk_of, AreCounts, MayFollow, IsLocal, Agrees, ends, start_count, end_count, owed_ends, due_ends, all_due_ends}

by_test : {A : Type 0} (P : A → Type 0) (b : Bool) (x y : A) → (b ≡ true → P x) →
    (b ≡ false → P y) → P (if b then x else y)
by_test P true x y p q = p refl
by_test P false x y p q = q refl

few_more : (n : ℕ) → n ≤ 3 → one_more n ≤ 3
few_more n h = by_test (λ k. k ≤ 3) (nat_lt n 3) (n + 1) n (λ t. grind arith) (λ t. h)

seen_counts : (counts : ℕ × ℕ) (e : Entry) → AreCounts counts → AreCounts (counts_after counts e)
seen_counts counts (Start node) c = record
    { few_starts = few_more counts.0 c.few_starts; few_ends = c.few_ends }
seen_counts counts CutStart c = c
seen_counts counts (HeurStart node) c = c
seen_counts counts Done c = record {
  few_starts = c.few_starts;
  few_ends =
      few_more counts.1 c.few_ends;
}
seen_counts counts (Found value point) c = c
seen_counts counts (Cut derivation) c = c
seen_counts counts (Split node col at first keep bound) c = c
seen_counts counts (Closed node) c = c
seen_counts counts Halt c = c

one_word : (e : Entry) → HasWords e → HaveWords (e ∷ [])
one_word e h = record { each = All-cons HasWords e [] h (All-nil HasWords) }

zero_is_signed : IsSigned (pos 0)
zero_is_signed = record { sfits = omega arith }

found_words : HasWords found_entry
found_words = record {
  writable = omega arith;
  in_range = record {
    signed_value = zero_is_signed;
    each = λ k d h.
        grind (arith, common_steps, zero_is_signed);
  };
}

start_count-append : (xs ys : List KeyedEntry) →
    start_count (xs ++ ys) ≡ start_count xs + start_count ys
start_count-append [] ys = omega arith
start_count-append (x ∷ xs) ys = omega (arith, start_count-append xs ys)

end_count-append : (xs ys : List KeyedEntry) → end_count (xs ++ ys) ≡ end_count xs + end_count ys
end_count-append [] ys = omega arith
end_count-append (x ∷ xs) ys = omega (arith, end_count-append xs ys)

-- what is due after a slot has changed
due-set : (slots : List (Option (Standing ℕ))) (k : ℕ) (old : Standing ℕ)
    (new : Option (Standing ℕ)) → get_or slots k None ≡ Some old →
    all_due_ends (set slots k new) + due_ends (Some old) ≡ all_due_ends slots + due_ends new
due-set [] k old new e = cc
due-set (s ∷ slots) zero old new e = let q : s ≡ Some old = cc in omega (arith, ap due_ends q)
due-set (s ∷ slots) (suc k) old new e = omega (arith, due-set slots k old new e)

due-leave : (slots : List (Option (Standing ℕ))) (k : ℕ) →
    all_due_ends (set slots k None) ≤ all_due_ends slots
due-leave [] k = omega arith
due-leave (s ∷ slots) zero = omega arith
due-leave (s ∷ slots) (suc k) = omega (arith, due-leave slots k)

nothing_due : (from count : ℕ) → all_due_ends (fresh_standings relay from count) ≡ 0
nothing_due from zero = refl
nothing_due from (suc count) = omega (arith, nothing_due (suc from) count)

one_owed : (left : ℕ) → nat_eq left 0 ≡ false → owed_ends left ≡ 1
one_owed zero e = cc
one_owed (suc left) e = refl

-- an end may follow where one is due_ends
may_follow : (e : Entry) (history : List KeyedEntry) →
    end_count history + ends e ≤ start_count history → MayFollow history e
may_follow (Start node) history h = tt
may_follow CutStart history h = tt
may_follow (HeurStart node) history h = tt
may_follow Done history h = omega arith
may_follow (Found value point) history h = tt
may_follow (Cut derivation) history h = tt
may_follow (Split node col at first keep bound) history h = tt
may_follow (Closed node) history h = tt
may_follow Halt history h = tt

idle_no_take : (es : List Entry) → Idle ≡ Take es → ⊥
idle_no_take es e = cc

end_no_take : (es : List Entry) → End ≡ Take es → ⊥
end_no_take es e = cc

begun_local : (counts : ℕ × ℕ) (left : ℕ) → left ≤ 2 → (begin_of counts left).local ≤ 2
begun_local counts left h =
    by_test (λ (b : AfterBegin ℕ). b.local ≤ 2) (nat_lt counts.0 3) _ _ (λ t. omega arith)
    (λ t. by_test (λ (b : AfterBegin ℕ). b.local ≤ 2) (nat_lt counts.1 3) _ _ (λ u. h) (λ u. h))

worked_local : (left : ℕ) → (chunk_of left).local ≤ 2
worked_local left = by_test (λ (w : AfterChunk ℕ). w.local ≤ 2) (nat_eq left 2) _ _
    (λ t. omega arith) (λ t. omega arith)

-- after each chunk a task still owes one end
worked_due : (left : ℕ) → due_ends (standing (chunk_of left).local (chunk_of left).gives.entries) ≡
    1
worked_due left = by_test (λ (w : AfterChunk ℕ). due_ends (standing w.local w.gives.entries) ≡ 1)
    (nat_eq left 2) _ _ (λ t. refl) (λ t. refl)

pending_follows : (history : List KeyedEntry) (slots : List (Option (Standing ℕ))) (slot l : ℕ)
    (e : Entry) (es : List Entry) →
    Agrees history slots → get_or slots slot None ≡ standing l (e ∷ es) → MayFollow history e
pending_follows history slots slot l e es a there =
    may_follow e history (omega (
      arith,
      a.enough,
      due-set slots slot
          (record { local = l; pending = e ∷ es }) None there,
    ))

pending_joins : (history : List KeyedEntry) (slots : List (Option (Standing ℕ))) (slot : ℕ)
    (k : Key) (l : ℕ) (e : Entry) (es : List Entry) →
    Agrees history slots → get_or slots slot None ≡ standing l (e ∷ es) →
    Agrees (history ++ keyed_entry k e ∷ []) (set slots slot (standing l es))
pending_joins history slots slot k l e es a there = record {
  enough = omega (
    arith,
    a.enough,
    end_count-append history
        (keyed_entry k e ∷ []),
    start_count-append history (keyed_entry k e ∷ []),
    due-set slots slot
        (record { local = l; pending = e ∷ es }) (standing l es) there,
  );
}

start_joins : (history : List KeyedEntry) (slots : List (Option (Standing ℕ))) (slot : ℕ) (k : Key)
    (l n : ℕ) →
    Agrees history slots → get_or slots slot None ≡ standing l [] →
    Agrees (history ++ keyed_entry k (Start n) ∷ []) (set slots slot (standing 2 []))
start_joins history slots slot k l n a there = record {
  enough = omega (
    arith,
    a.enough,
    end_count-append history
        (keyed_entry k (Start n) ∷ []),
    start_count-append history
        (keyed_entry k (Start n) ∷ []),
    due-set slots slot (record { local = l; pending = [] })
        (standing 2 []) there,
  );
}

chunk_agrees : (history : List KeyedEntry) (slots : List (Option (Standing ℕ))) (slot l : ℕ) →
    Agrees history slots → get_or slots slot None ≡ standing l [] → nat_eq l 0 ≡ false →
    Agrees history (set slots slot (standing (chunk_of l).local (chunk_of l).gives.entries))
chunk_agrees history slots slot l a there start = record {
  enough = omega (
    arith,
    a.enough,
    one_owed l start,
    worked_due l,
    due-set slots slot
        (record { local = l; pending = [] })
        (standing (chunk_of l).local (chunk_of l).gives.entries) there,
  );
}

halt_joins : (history : List KeyedEntry) (slots : List (Option (Standing ℕ))) (k : Key) →
    Agrees history slots → Agrees (history ++ keyed_entry k Halt ∷ []) slots
halt_joins history slots k a = record {
  enough =
      omega (
        arith,
        a.enough,
        end_count-append history
            (keyed_entry k Halt ∷ []),
        start_count-append history (keyed_entry k Halt ∷ []),
      );
}

-- what a slot does follows from the counts
record Does (counts : ℕ × ℕ) (left : ℕ) (b : AfterBegin ℕ) : Type 0 where
  takes : (es : List Entry) → b.does ≡ Take es →
      (b.local ≡ 2) × ((counts.0 < 3) × (es ≡ Start counts.0 ∷ []))
  idles : b.does ≡ Idle → b.local ≡ left
  ends : b.does ≡ End → b.local ≡ left

does : (counts : ℕ × ℕ) (left : ℕ) → Does counts left (begin_of counts left)
does counts left =
    by_test (Does counts left) (nat_lt counts.0 3) _ _
    (λ t. let lt : counts.0 < 3 = grind arith
    in record { takes = λ es e. (refl, (lt, cc)); idles = λ e. cc; ends = λ e. cc })
    (λ t. by_test (Does counts left) (nat_lt counts.1 3) _ _
    (λ u. record {
      takes = λ es e. absurd (idle_no_take es e);
      idles = λ e. refl;
      ends = λ e.
          refl;
    })
    (λ u. record {
      takes = λ es e. absurd (end_no_take es e);
      idles = λ e. refl;
      ends = λ e.
          refl;
    }))

record Gives (w : AfterChunk ℕ) : Type 0 where
  some : 1 ≤ w.gives.work
  little : w.gives.work ≤ 2 ^ 40
  words : HaveWords w.gives.entries

gives : (left : ℕ) → Gives (chunk_of left)
gives left =
    by_test Gives (nat_eq left 2) _ _
    (λ t. record {
      some = omega arith;
      little = omega arith;
      words =
          one_word found_entry found_words;
    })
    (λ t. record {
      some = omega arith;
      little = omega arith;
      words =
          one_word Done (record { writable = tt; in_range = tt });
    })

start_words : (n : ℕ) → n < 3 → HaveWords (Start n ∷ [])
start_words n h = one_word (Start n) (record { writable = tt; in_range = omega arith })

pub relay_law : IsLawful relay AreCounts IsLocal MayFollow Agrees
relay_law = record {
  fresh_view_fits = record { few_starts = omega arith; few_ends = omega arith };
  fresh_local_fits = λ slot h. omega arith;
  fresh_local_starts = λ slot h. refl;
  absorb_fits = λ view k e f can. seen_counts view e f;
  begin_fits = λ view l f g h. begun_local view l g;
  chunk_fits = λ l f h. worked_local l;
  take_begins = λ view l es f g h d. ap (λ (n : ℕ). nat_eq n 0) ((does view l).takes es d).0;
  idle_stays = λ view l f g h d. (does view l).idles d;
  end_stays = λ view l f g h d. (does view l).ends d;
  some_work = λ l f h. (gives l).some;
  little_work = λ l f h. (gives l).little;
  begin_words = λ view l es f g h d. let t = (does view l).takes es d
      in subst HaveWords (sym t.1.1) (start_words view.0 t.1.0);
  chunk_words = λ l f h. (gives l).words;
  agrees_at_first = λ slots h. record { enough = omega (arith, nothing_due 0 slots) };
  pending_follows = λ history slots slot l e es h a there.
      pending_follows history slots slot l e es a there;
  pending_joins = λ history slots slot k l e es h a there.
      pending_joins history slots slot k l e es a there;
  take_follows = λ history slots slot k l es h a there start d.
      let t = (does (view_of relay history) l).takes es d in
      subst (λ x. FollowInTurn MayFollow history (under k x)) (sym t.1.1) (tt, tt);
  take_joins = λ history slots slot k l es h a there start d.
      let t = (does (view_of relay history) l).takes es d in
      let joins = start_joins history slots slot k l (view_of relay history).0 a there in
      subst (λ x. Agrees (history ++ under k es) (set slots slot (standing x []))) (sym t.0)
      (subst (λ x. Agrees (history ++ under k x) (set slots slot (standing 2 [])))
      (sym t.1.1) joins);
  chunk_agrees = λ history slots slot l h a there start.
      chunk_agrees history slots slot l a there start;
  halt_follows = λ history slots h a. tt;
  halt_joins = λ history slots k h a. halt_joins history slots k a;
  slot_leaves = λ history slots slot h a.
      record { enough = omega (arith, a.enough, due-leave slots slot) };
}
