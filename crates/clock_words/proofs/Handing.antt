-- The board as it begins, a slot handed out, and a seat joined to another.
use Rattle.std.proofs.Common.{ℕ, zero, suc, ◌+◌, ◌*◌, ◌<◌, ◌≤◌, ◌≡◌, ◌≢◌, ◌⊎◌, Bool, true, false, cond, eqb, ◌||◌, List, [], ◌∷◌, ◌++◌, length, set, replicate, slice_index, inl, inr, ⊎_elim, refl, sym, ap, ◌∙◌, subst, eq-eqb, ne_eqb, arith}
use Rattle.std.proofs.lemmas.List.{length-replicate}
use mathlib.Core.Option.{some, some-injective, some-ne-none}
use mathlib.Core.Logic.{dite}
use native.Mathlib.Decide.{ℕ_discrete}
use lib.ListN.{get_elem?}
use Rattle.atomic_table.specs.Table.{Joins, Me, Splits, State, opening}
use Rattle.atomic_table.proofs.Lists.{at_longer, set_here, set_else}
use Rattle.clock_words.specs.Clocks.{due_count, stamp_of}
use Rattle.clock_words.specs.Places.{clock_in, word_count}
use Rattle.clock_words.specs.Rule.{HasMark, IsKept, IsMaker, IsOwning, IsSlot, IsTold, IsTrueView}
use Rattle.clock_words.specs.Stories.{Lists, due, list_of}
use Rattle.clock_words.specs.Views.{after_handing, after_join, greater_of, handed_view, maker, newcomer, spent, zeros}
use Rattle.clock_words.specs.declared.view.Role.TheVariants.{Maker, Owner, Spent}
use Rattle.clock_words.specs.declared.view.Shape.{Shape}
use Rattle.clock_words.specs.declared.view.View.{View}
use Rattle.clock_words.proofs.DueWords.{none_due_at_first}
use Rattle.clock_words.proofs.Kept.{after_change, is_there, kept_by_load, mark_stays, slot_stays, view_learns, view_stays}
use Rattle.clock_words.proofs.Seen.{zeros_at}

-- an item of a list with one more at its end is in the list, or is the last
at_end : (l : List View) (a b : View) (j : ℕ) → get_elem? (l ++ a ∷ []) j ≡ some b
    → (get_elem? l j ≡ some b) ⊎ ((j ≡ length l) × (a ≡ b))
at_end [] a b zero e = inr (refl, some-injective a b e)
at_end [] a b (suc j) e = absurd (some-ne-none b (sym e))
at_end (x ∷ xs) a b zero e = inl e
at_end (x ∷ xs) a b (suc j) e = ⊎_elim (λ t. inl t) (λ t. inr (ap suc t.0, t.1)) (at_end xs a b j e)

alone_at : (v u : View) (j : ℕ) → get_elem? (v ∷ []) j ≡ some u → (j ≡ 0) × (v ≡ u)
alone_at v u zero e = (refl, some-injective v u e)
alone_at v u (suc j) e = absurd (some-ne-none u (sym e))

module _ (story : Lists) (shape : Shape) where
  abbrev first_words : List ℕ
  first_words = replicate (word_count shape) 0

  slot_at_first : (slot : ℕ) → IsSlot story shape first_words 0 slot
  slot_at_first slot = let z : clock_in first_words slot ≡ 0 =
      zeros_at (word_count shape) (8 * slot + 8) in record {
        count = let P : ℕ → Type 0 = λ c. due_count c ≡ due (list_of story slot) (stamp_of c) in
            subst P (sym z) (sym (none_due_at_first (list_of story slot)));
        due_words = λ k lt. absurd (let c : due_count (clock_in first_words slot) ≡ 0 =
            ap due_count z in omega arith);
        fresh = λ _. z;
      }

  maker_at_first : IsTrueView story shape first_words (λ _. 0) 0 0 0 (maker story shape)
  maker_at_first = record {
    seen = λ slot lt. let a = zeros_at shape.slots slot in omega arith;
    stop = λ is. absurd (let e : false ≡ true = is in cc);
    as_maker = λ _. record {
      told = record { lists = refl; sizes = refl };
      alone = refl;
      count =
          refl;
    };
    as_owner = λ is. absurd (let e : Maker ≡ Owner = is in cc);
  }

  -- a new board keeps the rule
  pub kept_at_first : (S : Type 0) → IsKept {S = S} story shape
      (opening first_words [] (maker story shape))
  kept_at_first S = record {
    owner = λ _. 0;
    maker = 0;
    handed = 0;
    size = length-replicate (word_count shape) 0;
    most = omega arith;
    slots = λ slot _. slot_at_first slot;
    seats = λ j u e. let t = alone_at (maker story shape) u j e in
        let P : ℕ → View → Type 0 = λ i w. IsTrueView story shape first_words (λ _. 0) 0 0 i w in
        subst (λ (i : ℕ). P i u) (sym t.0) (subst (λ (w : View). P 0 w) t.1 maker_at_first);
    called = λ above. absurd (let z = zeros_at (word_count shape) 0 in omega arith);
  }

pub kept_at_start : (S : Type 0) (story : Lists) (shape : Shape) (words : List ℕ)
    → words ≡ replicate (word_count shape) 0
    → IsKept {S = S} story shape (opening words [] (maker story shape))
kept_at_start S story shape words e =
    subst (λ (l : List ℕ). IsKept {S = S} story shape (opening l [] (maker story shape))) (sym e)
    (kept_at_first story shape S)

module _ {S : Type 0} (story : Lists) (shape : Shape) where
  -- the maker hands out the next slot
  module _ (s : State S View) (k : IsKept story shape s) (seat : ℕ) (v : View)
      (role : v.role ≡ Maker) (told : IsTold story shape v)
      (some_left : v.handed < shape.slots) (at : get_elem? s.views seat ≡ some v) where
    as_maker : IsMaker story shape k.maker k.handed seat v
    as_maker = (k.seats seat v at).as_maker role

    abbrev number : ℕ
    number = length (set s.views seat (after_handing v))

    abbrev owner' : ℕ → ℕ
    owner' j = cond (eqb j k.handed) number (k.owner j)

    owner_here : owner' k.handed ≡ number
    owner_here = ap (λ (b : Bool). cond b number (k.owner k.handed)) (eq-eqb k.handed k.handed refl)

    owner_else : (j : ℕ) → j < k.handed → owner' j ≡ k.owner j
    owner_else j lt = ap (λ (b : Bool). cond b number (k.owner j))
        (ne_eqb j k.handed (λ e. omega arith))

    others_handing : (j : ℕ) (u : View) → j ≢ seat → get_elem? s.views j ≡ some u
        → IsTrueView story shape s.words owner' k.maker (k.handed + 1) j u
    others_handing j u ne there = view_stays story shape s.words s.words k.owner owner' k.maker
        k.handed (k.handed + 1) j u
        (omega arith) (λ i lt. omega arith) (λ above. above)
        (λ _ m. absurd (ne (sym m.alone ∙ as_maker.alone)))
        (λ is o. (owner_else u.slot o.slot, refl, λ l lt. refl)) (k.seats j u there)

    maker_handing : IsTrueView story shape s.words owner' k.maker (k.handed + 1) seat
        (after_handing v)
    maker_handing = let t = k.seats seat v at in record {
      seen = t.seen;
      stop = t.stop;
      as_maker = λ _. record {
        told = record { lists = told.lists; sizes = told.sizes };
        alone = as_maker.alone;
        count = let a = as_maker.count in omega arith;
      };
      as_owner = λ is. absurd (let e : Maker ≡ Owner = sym role ∙ is in cc);
    }

    new_owner : IsTrueView story shape s.words owner' k.maker (k.handed + 1) number (handed_view v)
    new_owner = let t = k.seats seat v at in record {
      seen = t.seen;
      stop = λ is. absurd (let e : false ≡ true = is in cc);
      as_maker = λ is. absurd (let e : Owner ≡ Maker = is in cc);
      as_owner = λ _. let same = as_maker.count in
          let clock : clock_in s.words v.handed ≡ 0 = (k.slots v.handed some_left).fresh
          (omega arith) in record {
            told = record { lists = told.lists; sizes = told.sizes };
            slot = omega arith;
            alone = ap owner' same ∙ owner_here;
            own = sym clock;
            least = omega arith;
            most = omega arith;
            put_words = λ l lt. absurd (omega arith);
            put_stamps = λ l lt. absurd (omega arith);
          };
    }

    pub kept_by_handing : IsKept story shape
        (record {
          words = s.words;
          homes = s.homes;
          views =
              set s.views seat (after_handing v) ++ handed_view v ∷ [];
        })
    kept_by_handing = let P : ℕ → View
        → Type 0 = λ j u. IsTrueView story shape s.words owner' k.maker (k.handed + 1) j u in
        record {
          owner = owner';
          maker = k.maker;
          handed = k.handed + 1;
          size = k.size;
          most = let a = as_maker.count in omega arith;
          slots = λ j lt. slot_stays story shape s.words s.words k.handed (k.handed + 1) j
              (omega arith) refl (λ l _. refl) (k.slots j lt);
          seats = λ j u e. ⊎_elim
              (λ t. after_change P s.views seat
              (after_handing v) maker_handing others_handing j u t)
              (λ t. subst (λ i. P i u) (sym t.0) (subst (λ w. P number w) t.1 new_owner))
              (at_end (set s.views seat (after_handing v)) (handed_view v) u j e);
          called = λ above. let m = mark_stays s.views seat v (after_handing v) at (λ is. is)
              (k.called above) in (
                m.0,
                m.1,
                at_longer (set s.views seat (after_handing v))
                    (handed_view v ∷ []) m.0 m.1 m.2,
                m.3,
              );
        }

  pub hands_out : (seat : ℕ) (v : View) → v.role ≡ Maker → IsTold story shape v
      → v.handed < shape.slots
      → Splits (IsKept {S = S} story shape) seat v (after_handing v) (handed_view v)
  hands_out seat v role told some_left s k at = kept_by_handing s k seat v role told some_left at

-- the maker of a new board, which has handed out some slots, hands out the next
pub hands_out_next : {S : Type 0} (story : Lists) (shape : Shape) (seat slot : ℕ) (v : View)
    → v ≡ record (maker story shape) { handed = slot } → slot < shape.slots
    → Splits (IsKept {S = S} story shape) seat v (after_handing v) (handed_view v)
hands_out_next {S} story shape seat slot v e lt =
    let w : View = record (maker story shape) { handed = slot } in
    let P : View → Type 0 = λ u. Splits (IsKept {S = S} story shape) seat u (after_handing u)
    (handed_view u) in
    subst P (sym e) (hands_out story shape seat w refl (record { lists = refl; sizes = refl }) lt)

-- the maker after it, and the seat that was handed out
pub maker_after : {S : Type 0} (story : Lists) (shape : Shape) (slot : ℕ) (m m' : Me S View)
    → m ≡ (record (maker story shape) { handed = slot }, []) → m' ≡ (after_handing m.0, m.1)
    → m' ≡ (record (maker story shape) { handed = slot + 1 }, [])
maker_after {S} story shape slot m m' before e =
    e ∙ ap (λ (n : Me S View). let k : Me S View = (after_handing n.0, n.1) in k) before

pub seat_after : {S : Type 0} (story : Lists) (shape : Shape) (slot : ℕ) (m m' : Me S View)
    → m ≡ (record (maker story shape) { handed = slot }, []) → m' ≡ (handed_view m.0, [])
    → m' ≡ (newcomer story shape slot (zeros shape), [])
seat_after {S} story shape slot m m' before e =
    e ∙ ap (λ (n : Me S View). let k : Me S View = (handed_view n.0, []) in k) before

-- of two numbers at a place the greater one is no more than what both are no more than
greater_below : (xs ys : List ℕ) (j n : ℕ) → slice_index xs j ≤ n → slice_index ys j ≤ n
    → slice_index (greater_of xs ys) j ≤ n
greater_below [] ys j n a b = b
greater_below (x ∷ xs) [] j n a b = a
greater_below (x ∷ xs) (y ∷ ys) zero n a b = omega arith
greater_below (x ∷ xs) (y ∷ ys) (suc j) n a b = greater_below xs ys j n a b

either_true : (a b : Bool) → (a || b) ≡ true → (a ≡ true) ⊎ (b ≡ true)
either_true true b e = inl refl
either_true false b e = inr e

or_left : (a b : Bool) → a ≡ true → (a || b) ≡ true
or_left true b e = refl
or_left false b e = absurd (cc)

or_right : (a b : Bool) → b ≡ true → (a || b) ≡ true
or_right true b e = refl
or_right false b e = e

module _ {S : Type 0} (story : Lists) (shape : Shape) (s : State S View) (k : IsKept story shape s)
    (seat : ℕ) (v : View)
    (own : IsOwning story shape v) (at : get_elem? s.views seat ≡ some v) (other : ℕ) (w : View)
    (apart : other ≢ seat)
    (at_other : get_elem? s.views other ≡ some w) where
  abbrev joined_view : View
  joined_view = after_join v w

  abbrev joined_state : State S View
  joined_state = record s { views = set s.views seat joined_view }

  kept_between : IsKept story shape joined_state
  kept_between = let t = k.seats seat v at in let u = k.seats other w at_other in
      kept_by_load story shape s seat v joined_view k at (or_left v.stop w.stop)
      (view_learns story shape s.words k.owner k.maker k.handed seat v joined_view.seen v.looks
      v.fetched
      joined_view.stop own.role
      (λ j lt. greater_below v.seen w.seen j (clock_in s.words j) (t.seen j lt) (u.seen j lt))
      (λ is. ⊎_elim t.stop u.stop (either_true v.stop w.stop is)) t)

  spent_view : IsTrueView story shape s.words kept_between.owner kept_between.maker
      kept_between.handed other spent
  spent_view = record {
    seen = λ j lt. omega arith;
    stop = λ is. absurd (let e : false ≡ true = is in cc);
    as_maker = λ is. absurd (let e : Spent ≡ Maker = is in cc);
    as_owner = λ is. absurd (let e : Spent ≡ Owner = is in cc);
  }

  mark_after_join : HasMark joined_state.views → HasMark (set joined_state.views other spent)
  mark_after_join mark = let j = mark.0 in let u = mark.1 in dite (ℕ_discrete j other)
      (λ e. let here : get_elem? s.views other ≡ some u =
      sym (set_else s.views seat other joined_view apart)
      ∙ subst (λ i. get_elem? joined_state.views i ≡ some u) e mark.2 in
      let same : w ≡ u = some-injective w u (sym at_other ∙ here) in (
        seat,
        joined_view,
        set_else joined_state.views other seat spent (λ i. apart (sym i))
            ∙ set_here s.views seat joined_view (is_there s.views seat v at),
        or_right v.stop w.stop (ap (λ (x : View). x.stop) same ∙ mark.3),
      ))
      (λ ne. (j, u, set_else joined_state.views other j spent ne ∙ mark.2, mark.3))

  pub kept_by_join : IsKept story shape
      (record {
        words = s.words;
        homes = s.homes;
        views =
            set (set s.views seat joined_view) other spent;
      })
  kept_by_join = let b = kept_between in record {
    owner = b.owner;
    maker = b.maker;
    handed = b.handed;
    size = b.size;
    most = b.most;
    slots = b.slots;
    seats = after_change (λ j u. IsTrueView story shape s.words b.owner b.maker b.handed j u)
        joined_state.views other spent spent_view
        (λ j u _ there. b.seats j u there);
    called = λ above. mark_after_join (b.called above);
  }

pub joins : {S : Type 0} (story : Lists) (shape : Shape) (seat : ℕ) (v : View) (other : ℕ)
    (w : View) → IsOwning story shape v
    → Joins (IsKept {S = S} story shape) seat v other w (after_join v w) spent
joins story shape seat v other w own s k at apart there =
    kept_by_join story shape s k seat v own at other w apart
    (sym (set_else s.views seat other (after_join v w) apart) ∙ there)
