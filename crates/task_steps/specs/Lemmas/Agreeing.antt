-- The laws on agreement.
use Rattle.std.proofs.Common.{◌≡◌, ℕ, ◌+◌, ◌<◌, ◌≤◌, ◌^◌, Bool, false, ◌||◌, nat_eq, List, [], ◌∷◌, ◌++◌, length, get_or, set, Option, is_none, Some, None, refl, sym, subst, arith, Ok}
use Rattle.std.proofs.lemmas.Bool.{false≢true, ne_eqb, true≢false}
use Rattle.std.proofs.lemmas.Int.{ints}
use Rattle.std.proofs.lemmas.Option.{none-some}
use Rattle.ip_core.specs.Models.{IsModel}
use Rattle.ip_core.specs.Sides.{IsPaired}
use Rattle.ip_core.specs.declared.model.ModelParts.{ModelParts}
use Rattle.ip_core.specs.declared.row.Row.{Row}
use Rattle.cut_derive.specs.Derivations.{derived_row}
use Rattle.cut_derive.specs.declared.limits.TheConstants.{MAX_CUTS}
use Rattle.search_truth.specs.Search.{Done as NoSteps}
use Rattle.work_stamp.specs.Histories.{FollowInTurn, keyed_entry, under}
use Rattle.work_stamp.specs.Taskers.{AfterBegin, Standing, fresh_standings, standing}
use Rattle.work_stamp.specs.declared.entry.Entry.{Entry}
use Rattle.work_stamp.specs.declared.entry.Entry.TheVariants.{Start, CutStart, HeurStart, Done, Found, Cut, Split, Closed, Halt}
use Rattle.work_stamp.specs.declared.key.Key.{Key}
use Rattle.work_stamp.specs.declared.stamped.KeyedEntry.{KeyedEntry}
use Rattle.work_stamp.specs.declared.task.Begin.TheVariants.{Take}
use Rattle.node_pool.specs.Branchings.{box_of}
use Rattle.node_pool.specs.Follows.{MayFollow, MayJoin}
use Rattle.node_pool.specs.Lemmas.Cuts.{same_cuts}
use Rattle.node_pool.specs.Lemmas.Joining.{entries_are_counted}
use Rattle.node_pool.specs.Picks.{pick_of}
use Rattle.node_pool.specs.declared.pick.Pick.TheVariants.{Heuristic, Node}
use Rattle.node_pool.specs.Views.{View, after_entry, fresh_view, is_known, view_of}
use Rattle.node_pool.specs.declared.settings.SearchSettings.{SearchSettings}
use Rattle.task_steps.specs.Agrees.{Agrees, MayFollowIn, Stands}
use Rattle.task_steps.specs.Answers.{best_after, best_found}
use Rattle.task_steps.specs.Claims.{Claim, IsAt, IsAtTask, IsDue, IsReady, Meets, claim_after, claims_with}
use Rattle.task_steps.specs.Fits.{FitsLocal, FitsTask}
use Rattle.task_steps.specs.Rules.{begin_of, chunk_of, first_cuts, local_diving, local_on, local_with, rules}
use Rattle.task_steps.specs.Tasks.{child_name, next_ordinal}
use Rattle.task_steps.specs.declared.answer.Best.{Best}
use Rattle.task_steps.specs.declared.local.Local.{Local}
use Rattle.task_steps.specs.declared.local.Task.{Task}
use Rattle.task_steps.specs.Lemmas.Beginning.{IsTaken, OfCuts, OfDive, OfNode, best_boxed, best_is_open, dive_fits, no_cut_starts, pick_best, pick_dive, taken_is, task_fits}
use Rattle.task_steps.specs.Lemmas.Fitting.{fresh_view_fits}
use Rattle.task_steps.specs.Lemmas.Histories.{best_next, seen_next}
use Rattle.task_steps.specs.Lemmas.Joining.{claim_for_cuts, claim_for_dive, claim_on, held_is, joined_closed, joined_cut, joined_cut_start, joined_dive, joined_done, joined_found, joined_halt, joined_split, joined_start}
use Rattle.task_steps.specs.Lemmas.NameCounts.{one_at_most}
use Rattle.task_steps.specs.Lemmas.Standings.{fresh_stand, place_within, stands_set, stands_with, stands_without}
use Rattle.task_steps.specs.Lemmas.Working.{chunk_good}
use Rattle.task_steps.specs.declared.local.Task.TheVariants.{Nodes, Cuts, Dive}
use Rattle.task_steps.specs.Lemmas.CutChunks.{cut_chunk_good}
use Rattle.task_steps.specs.Lemmas.DiveChunks.{dive_chunk_good}

-- an entry that is due may follow
due_follows : (m : ModelParts) (v : View) (best : Option Best) (slot : ℕ) (claims : ℕ → Claim)
    (e : Entry) → v.entries < 2 ^ 31 → Meets m v best claims → IsDue m slot (claims slot) e
    → MayJoin m v e
due_follows m v best slot claims (Start node) short meets due = absurd due
due_follows m v best slot claims CutStart short meets due = absurd due
due_follows m v best slot claims (HeurStart node) short meets due = absurd due
due_follows m v best slot claims Done short meets due = tt
due_follows m v best slot claims (Found value point) short meets due = due
due_follows m v best slot claims (Cut derivation) short meets due =
    let same = sym ((meets.owed slot).alone due.adds) in
    record {
      few = subst (λ (cuts : List Row). length cuts < MAX_CUTS) same due.few;
      row = due.row;
      derived = subst (λ (cuts : List Row). derived_row m cuts derivation ≡ Ok due.row) same
          due.derived;
    }
due_follows m v best slot claims (Split node col at first keep bound) short meets due =
    let c = claims slot in
    let owed = meets.owed slot in
    let few = owed.few in
    let ordinal = next_ordinal c.splits in
    let above : c.splits < ordinal = omega arith in
    let most : ordinal ≤ 2 ^ 37 = omega arith in
    let named = due.named in
    let few_slots = due.few_slots in
    record {
      held = held_is m v c node due.holds owed.held;
      cut = due.cut;
      room = omega arith;
      first_new = subst (λ (n : ℕ). is_known v n ≡ false) (sym named)
          (owed.first_new ordinal above most);
      second_new = subst (λ (n : ℕ). is_known v (n + 1) ≡ false) (sym named)
          (owed.second_new ordinal above most);
    }
due_follows m v best slot claims (Closed node) short meets due =
    held_is m v (claims slot) node due.holds (meets.owed slot).held
due_follows m v best slot claims Halt short meets due = absurd due

pub due_may_follow : (m : ModelParts) (v : View) (best : Option Best) (slot : ℕ)
    (claims : ℕ → Claim) (e : Entry) → v.entries < 2 ^ 31 → Meets m v best claims
    → IsDue m slot (claims slot) e → MayFollow m v e
due_may_follow m v best slot claims e short meets due = record {
  short = omega arith;
  joins = due_follows m v best slot claims e short meets due;
}

-- and joins
due_joins : (m : ModelParts) (v : View) (best : Option Best) (slot : ℕ) (claims : ℕ → Claim)
    (e : Entry) → IsModel m → v.entries < 2 ^ 31 → Meets m v best claims
    → IsDue m slot (claims slot) e → MayFollow m v e
    → Meets m (after_entry m v e) (best_after best e)
    (claims_with claims slot (claim_after m (claims slot) e))
due_joins m v best slot claims (Start node) valid short meets due follows = absurd due
due_joins m v best slot claims CutStart valid short meets due follows = absurd due
due_joins m v best slot claims (HeurStart node) valid short meets due follows = absurd due
due_joins m v best slot claims Done valid short meets due follows =
    joined_done m v best slot claims valid meets follows
due_joins m v best slot claims (Found value point) valid short meets due follows =
    joined_found m v best slot claims valid meets value point due follows
due_joins m v best slot claims (Cut derivation) valid short meets due follows =
    joined_cut m v best slot claims valid meets derivation due follows
due_joins m v best slot claims (Split node col at first keep bound) valid short meets due follows =
    joined_split m v best slot claims valid meets node col at first keep bound due short follows
due_joins m v best slot claims (Closed node) valid short meets due follows =
    joined_closed m v best slot claims valid meets node due follows
due_joins m v best slot claims Halt valid short meets due follows = absurd due

-- the claim of a slot that holds nothing
abbrev fresh_claim : ModelParts → SearchSettings → Claim
fresh_claim m settings =
    record {
      hold = None;
      cutoff = (fresh_view m settings).cutoff;
      splits = 0;
      cuts = [];
      adds = false;
    }

or_none : (b : Bool) → b ≡ false → (b || false) ≡ false
or_none b is = rw is refl

module _ (m : ModelParts) (settings : SearchSettings) where
  -- the history meets the claims
  abbrev MeetsAll : List KeyedEntry → (ℕ → Claim) → Type 0
  MeetsAll history claims = Meets m (view_of m settings history) (best_found history) claims

  in_view : (history : List KeyedEntry) (k : Key) (e : Entry) (claims : ℕ → Claim)
      → Meets m (after_entry m (view_of m settings history) e) (best_after (best_found history) e)
      claims → MeetsAll (history ++ keyed_entry k e ∷ []) claims
  in_view history k e claims meets =
      subst (λ (v : View). Meets m v (best_found (history ++ keyed_entry k e ∷ [])) claims)
      (sym (seen_next m settings history k e))
      (subst (λ (b : Option Best). Meets m (after_entry m (view_of m settings history) e) b claims)
      (sym (best_next history k e)) meets)

  few_entries : (history : List KeyedEntry) → length history < 2 ^ 31
      → (view_of m settings history).entries < 2 ^ 31
  few_entries history short = omega (arith, entries_are_counted m settings history, short)

  -- what is known of a slot
  at_place : (slots : List (Option (Standing Local))) (slot : ℕ) (c : Claim) (l : Local)
      (es : List Entry) → Stands m slot c (get_or slots slot None)
      → get_or slots slot None ≡ standing l es → IsReady m slot c es l
  at_place slots slot c l es stands there = subst (Stands m slot c) there stands

  pub pending_follows : (history : List KeyedEntry) (slots : List (Option (Standing Local)))
      (slot : ℕ) (l : Local) (e : Entry) (es : List Entry) → length history < 2 ^ 31
      → Agrees m settings history slots → get_or slots slot None ≡ standing l (e ∷ es)
      → MayFollowIn m settings history e
  pending_follows history slots slot l e es short agrees there =
      due_may_follow m (view_of m settings history) (best_found history) slot agrees.claims e
      (few_entries history short) agrees.meets
      (at_place slots slot (agrees.claims slot) l (e ∷ es) (agrees.ready slot) there).0

  pub pending_joins : (history : List KeyedEntry) (slots : List (Option (Standing Local)))
      (slot : ℕ) (k : Key) (l : Local) (e : Entry) (es : List Entry) → IsModel m
      → length history < 2 ^ 31 → Agrees m settings history slots
      → get_or slots slot None ≡ standing l (e ∷ es)
      → Agrees m settings (history ++ keyed_entry k e ∷ []) (set slots slot (standing l es))
  pending_joins history slots slot k l e es valid short agrees there =
      let claims = agrees.claims in
      let few = few_entries history short in
      let ready = at_place slots slot (claims slot) l (e ∷ es) (agrees.ready slot) there in
      record {
        claims = claims_with claims slot (claim_after m (claims slot) e);
        meets = in_view history k e (claims_with claims slot (claim_after m (claims slot) e))
            (due_joins m (view_of m settings history) (best_found history) slot claims e valid few
            agrees.meets ready.0 (due_may_follow m (view_of m settings history)
            (best_found history) slot claims e few agrees.meets ready.0));
        ready = stands_with m claims slots slot (claim_after m (claims slot) e) l es agrees.ready
            ready.1 (place_within slots slot _ there);
      }

  node_follows : (history : List KeyedEntry) (node : ℕ) → length history < 2 ^ 31
      → pick_of (view_of m settings history) ≡ Node node
      → MayFollowIn m settings history (Start node)
  node_follows history node short is =
      let v = view_of m settings history in
      record {
        short = omega (arith, few_entries history short);
        joins = best_is_open v node (pick_best v node is);
      }

  dive_follows : (history : List KeyedEntry) (node : ℕ) → length history < 2 ^ 31
      → pick_of (view_of m settings history) ≡ Heuristic node
      → MayFollowIn m settings history (HeurStart node)
  dive_follows history node short is =
      let v = view_of m settings history in
      record {
        short = omega (arith, few_entries history short);
        joins = best_is_open v node (pick_dive v node is).1;
      }

  cuts_follow : (history : List KeyedEntry) → length history < 2 ^ 31
      → MayFollowIn m settings history CutStart
  cuts_follow history short =
      record { short = omega (arith, few_entries history short); joins = tt }

  -- a task that is taken may begin
  taken_follows : (history : List KeyedEntry) (k : Key) (l : Local) (es : List Entry)
      (after : AfterBegin Local) → length history < 2 ^ 31
      → IsTaken m (view_of m settings history) l es after
      → FollowInTurn (MayFollowIn m settings) history (under k es)
  taken_follows history k l _ _ short (OfNode node is) =
      (node_follows history node short is, tt)
  taken_follows history k l _ _ short (OfDive node is) =
      (dive_follows history node short is, tt)
  taken_follows history k l _ _ short (OfCuts is) = (cuts_follow history short, tt)

  pub take_follows : (history : List KeyedEntry) (k : Key) (l : Local) (es : List Entry)
      → length history < 2 ^ 31 → (begin_of m (view_of m settings history) l).does ≡ Take es
      → FollowInTurn (MayFollowIn m settings) history (under k es)
  take_follows history k l es short does =
      taken_follows history k l es (begin_of m (view_of m settings history) l) short
      (taken_is m (view_of m settings history) l es does)

  -- a slot that takes a task stands at its claim
  taken_joins : (history : List KeyedEntry) (slots : List (Option (Standing Local))) (slot : ℕ)
      (k : Key) (l : Local) (es : List Entry) (after : AfterBegin Local) → IsModel m
      → length history < 2 ^ 31 → Agrees m settings history slots
      → get_or slots slot None ≡ standing l [] → IsTaken m (view_of m settings history) l es after
      → Agrees m settings (history ++ under k es) (set slots slot (standing after.local []))
  taken_joins history slots slot k l _ _ valid short agrees there (OfNode node is) =
      let v = view_of m settings history in
      let claims = agrees.claims in
      let at : IsAt m slot (claims slot) l =
      at_place slots slot (claims slot) l [] (agrees.ready slot) there in
      let d = claim_on m v (claims slot) node in
      let here : IsAt m slot d (local_on m v l node) = record {
        fits = task_fits m v l node agrees.meets.fits at.fits
            (best_boxed m v node agrees.meets.fits (pick_best v node is));
        own = at.own;
        splits = at.splits;
        cuts = refl;
        task = record {
          node = record { name = node; bounds = box_of m.root v.branches node };
          is = refl;
          named = refl;
          boxed = refl;
          cutoff = refl;
        };
      } in
      record {
        claims = claims_with claims slot d;
        meets = in_view history k (Start node) (claims_with claims slot d)
            (joined_start m v (best_found history) slot claims valid agrees.meets node
            (node_follows history node short is));
        ready = stands_with m claims slots slot d (local_on m v l node) [] agrees.ready here
            (place_within slots slot _ there);
      }
  taken_joins history slots slot k l _ _ valid short agrees there (OfDive node is) =
      let v = view_of m settings history in
      let claims = agrees.claims in
      let at : IsAt m slot (claims slot) l =
      at_place slots slot (claims slot) l [] (agrees.ready slot) there in
      let d = claim_for_dive v (claims slot) in
      let here : IsAt m slot d (local_diving m v l node) = record {
        fits = dive_fits m v l node agrees.meets.fits at.fits
            (best_boxed m v node agrees.meets.fits (pick_dive v node is).1);
        own = at.own;
        splits = at.splits;
        cuts = refl;
        task = refl;
      } in
      record {
        claims = claims_with claims slot d;
        meets = in_view history k (HeurStart node) (claims_with claims slot d)
            (joined_dive m v (best_found history) slot claims valid agrees.meets node
            (dive_follows history node short is));
        ready = stands_with m claims slots slot d (local_diving m v l node) [] agrees.ready here
            (place_within slots slot _ there);
      }
  taken_joins history slots slot k l _ _ valid short agrees there (OfCuts is) =
      let v = view_of m settings history in
      let claims = agrees.claims in
      let at : IsAt m slot (claims slot) l =
      at_place slots slot (claims slot) l [] (agrees.ready slot) there in
      let d = claim_for_cuts v (claims slot) in
      let here : IsAt m slot d (local_with v l first_cuts) = record {
        fits = record {
          slot = at.fits.slot;
          few = at.fits.few;
          cuts = agrees.meets.fits.cuts;
          task = record { few = omega arith };
        };
        own = at.own;
        splits = at.splits;
        cuts = refl;
        task = record { free = refl; adds = refl };
      } in
      record {
        claims = claims_with claims slot d;
        meets = in_view history k CutStart (claims_with claims slot d)
            (joined_cut_start m v (best_found history) slot claims valid agrees.meets
            (no_cut_starts v is) (cuts_follow history short));
        ready = stands_with m claims slots slot d (local_with v l first_cuts) [] agrees.ready here
            (place_within slots slot _ there);
      }

  pub take_joins : (history : List KeyedEntry) (slots : List (Option (Standing Local))) (slot : ℕ)
      (k : Key) (l : Local) (es : List Entry) → IsModel m → length history < 2 ^ 31
      → Agrees m settings history slots → get_or slots slot None ≡ standing l []
      → (begin_of m (view_of m settings history) l).does ≡ Take es
      → Agrees m settings (history ++ under k es)
      (set slots slot (standing (begin_of m (view_of m settings history) l).local []))
  take_joins history slots slot k l es valid short agrees there does =
      taken_joins history slots slot k l es (begin_of m (view_of m settings history) l) valid short
      agrees there (taken_is m (view_of m settings history) l es does)

  -- a chunk of a task whose slot stands at its claim
  chunk_ready : (slot : ℕ) (c : Claim) (l : Local) (o : Option Task) → IsModel m → IsPaired m.root
      → FitsLocal m l → FitsTask m o → l.slot ≡ slot → l.splits ≡ c.splits → l.cuts ≡ c.cuts
      → IsAtTask c o
      → is_none o ≡ false
      → IsReady m slot c (chunk_of m l o).gives.entries (chunk_of m l o).local
  chunk_ready slot c l None valid paired fits task_fits own same seen at has =
      absurd (true≢false has)
  chunk_ready slot c l (Some (Nodes task)) valid paired fits task_fits own same seen at has =
      (chunk_good m l task valid paired fits task_fits).ready slot c own same
      (record { node = at.node; is = at.is; named = at.named; boxed = at.boxed }) seen at.cutoff
  chunk_ready slot c l (Some (Cuts task)) valid paired fits task_fits own same seen at has =
      (cut_chunk_good m l task.chunks valid fits task_fits.few).ready slot c own same seen at.free
      at.adds
  chunk_ready slot c l (Some (Dive task)) valid paired fits task_fits own same seen at has =
      (dive_chunk_good m l task valid paired fits task_fits).ready slot c own same seen at

  pub chunk_agrees : (history : List KeyedEntry) (slots : List (Option (Standing Local)))
      (slot : ℕ) (l : Local) → IsModel m → IsPaired m.root → Agrees m settings history slots
      → get_or slots slot None ≡ standing l [] → is_none l.task ≡ false
      → Agrees m settings history
      (set slots slot (standing (chunk_of m l l.task).local (chunk_of m l l.task).gives.entries))
  chunk_agrees history slots slot l valid paired agrees there has =
      let claims = agrees.claims in
      let at : IsAt m slot (claims slot) l =
      at_place slots slot (claims slot) l [] (agrees.ready slot) there in
      record {
        claims = claims;
        meets = agrees.meets;
        ready = stands_set m claims claims slots slot
            (standing (chunk_of m l l.task).local (chunk_of m l l.task).gives.entries)
            (λ i apart. refl) agrees.ready
            (chunk_ready slot (claims slot) l l.task valid paired at.fits at.fits.task at.own
            at.splits at.cuts at.task has) (place_within slots slot _ there);
      }

  pub halt_follows : (history : List KeyedEntry) → length history < 2 ^ 31
      → MayFollowIn m settings history Halt
  halt_follows history short =
      record { short = omega (arith, few_entries history short); joins = tt }

  pub halt_joins : (history : List KeyedEntry) (slots : List (Option (Standing Local))) (k : Key)
      → IsModel m → length history < 2 ^ 31 → Agrees m settings history slots
      → Agrees m settings (history ++ keyed_entry k Halt ∷ []) slots
  halt_joins history slots k valid short agrees = record {
    claims = agrees.claims;
    meets = in_view history k Halt agrees.claims
        (joined_halt m (view_of m settings history) (best_found history) 0 agrees.claims valid
        agrees.meets (halt_follows history short));
    ready = agrees.ready;
  }

  pub slot_leaves : (history : List KeyedEntry) (slots : List (Option (Standing Local))) (slot : ℕ)
      → Agrees m settings history slots → Agrees m settings history (set slots slot None)
  slot_leaves history slots slot agrees = record {
    claims = agrees.claims;
    meets = agrees.meets;
    ready = stands_without m agrees.claims slots slot agrees.ready;
  }

  -- the empty history

  not_root : (name : ℕ) → 0 < name → is_known (fresh_view m settings) name ≡ false
  not_root name some = or_none (nat_eq 0 name) (ne_eqb 0 name (λ e. omega arith))

  pub agrees_at_first : (slots : ℕ) → IsModel m → IsPaired m.root → slots ≤ 64
      → Agrees m settings [] (fresh_standings (rules m settings) 0 slots)
  agrees_at_first slots valid paired few = record {
    claims = λ slot. fresh_claim m settings;
    meets = record {
      fits = fresh_view_fits m settings valid paired;
      sound = record { steps = NoSteps; cutoff = refl; found = tt };
      once = λ name. let one = one_at_most (nat_eq 0 name) in omega (arith, one);
      owed = λ slot. record {
        held = tt;
        cutoff = omega (arith, ints);
        few = omega arith;
        cuts = same_cuts [];
        alone = λ adds. absurd (false≢true adds);
        begun = λ adds. absurd (false≢true adds);
        first_new = λ k some most. not_root (child_name slot k) (omega arith);
        second_new = λ k some most. not_root (child_name slot k + 1) (omega arith);
      };
      apart = λ i j a b left right same. absurd (none-some a left);
      adding = λ i j left right. absurd (false≢true left);
    };
    ready = λ j. fresh_stand m settings slots j
        (fresh_claim m settings) few refl refl refl;
  }
