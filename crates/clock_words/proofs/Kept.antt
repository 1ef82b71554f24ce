-- What stays true of slots and seats when some words, or one view, change.
use Rattle.std.proofs.Common.{ℕ, zero, suc, ◌<◌, ◌≤◌, ◌≡◌, ◌≢◌, Bool, true, List, [], ◌∷◌, length, set, slice_index, ⊎_elim, sym, ap, ◌∙◌, subst, arith}
use mathlib.Core.Option.{some, some-injective, some-ne-none}
use mathlib.Core.Logic.{dite}
use native.Mathlib.Decide.{ℕ_discrete}
use lib.ListN.{get_elem?}
use Rattle.atomic_table.specs.Table.{State}
use Rattle.atomic_table.proofs.Lists.{at_set, set_here, set_else}
use Rattle.clock_words.specs.Clocks.{due_count}
use Rattle.clock_words.specs.Places.{area_in, clock_in, stop_in}
use Rattle.clock_words.specs.Rule.{HasMark, IsKept, IsMaker, IsOwner, IsSlot, IsTrueView}
use Rattle.clock_words.specs.Stories.{Lists}
use Rattle.clock_words.specs.declared.view.Role.TheVariants.{Maker, Owner}
use Rattle.clock_words.specs.declared.view.Shape.{Shape}
use Rattle.clock_words.specs.declared.view.View.{View}

pub is_there : {A : Type 0} (l : List A) (i : ℕ) (a : A) → get_elem? l i ≡ some a → i < length l
is_there [] i a e = absurd (some-ne-none a (sym e))
is_there (x ∷ xs) zero a e = omega arith
is_there (x ∷ xs) (suc i) a e = let rest = is_there xs i a e in omega arith

along : (P : ℕ → View → Type 0) (i j : ℕ) (w u : View) → j ≡ i → w ≡ u → P i w → P j u
along P i j w u e f p = subst (λ k. P k u) (sym e) (subst (λ x. P i x) f p)

-- a fact of every seat, after one seat's view was changed
pub after_change : (P : ℕ → View → Type 0) (views : List View) (i : ℕ) (w : View) → P i w
    → ((j : ℕ) (u : View) → j ≢ i → get_elem? views j ≡ some u → P j u)
    → (j : ℕ) (u : View) → get_elem? (set views i w) j ≡ some u → P j u
after_change P views i w here others j u e =
    ⊎_elim (λ t. along P i j w u t.0 t.1 here) (λ t. others j u t.0 t.1) (at_set views i j w u e)

-- a stop mark stays where the seat that changes keeps its own
pub mark_stays : (views : List View) (i : ℕ) (v w : View) → get_elem? views i ≡ some v
    → (v.stop ≡ true → w.stop ≡ true) → HasMark views → HasMark (set views i w)
mark_stays views i v w at keeps mark = let j = mark.0 in let u = mark.1 in dite (ℕ_discrete j i)
    (λ e. let same : v ≡ u = some-injective v u (sym at
    ∙ subst (λ k. get_elem? views k ≡ some u) e mark.2) in (
      i,
      w,
      set_here views i w (is_there views i v at),
      keeps
          (ap (λ (x : View). x.stop) same ∙ mark.3),
    ))
    (λ ne. (j, u, set_else views i j w ne ∙ mark.2, mark.3))

module _ (story : Lists) (shape : Shape) (words words' : List ℕ) where
  -- a slot whose clock word and due words are as before
  pub slot_stays : (handed handed' slot : ℕ) → handed ≤ handed'
      → clock_in words' slot ≡ clock_in words slot
      → ((k : ℕ) → k < due_count (clock_in words slot) → area_in shape words' slot k
      ≡ area_in shape words slot k)
      → IsSlot story shape words handed slot → IsSlot story shape words' handed' slot
  slot_stays handed handed' slot more clock area ok = record {
    count = rw clock ok.count;
    due_words = λ k lt. let lt' : k < due_count (clock_in words slot) = rw clock at lt in
        area k lt' ∙ ok.due_words k lt';
    fresh = λ le. clock ∙ ok.fresh (omega arith);
  }

  -- a seat whose own clock word and own words are as before, where no clock falls
  pub view_stays : (owner owner' : ℕ → ℕ) (maker handed handed' seat : ℕ) (v : View)
      → handed ≤ handed'
      → ((slot : ℕ) → slot < shape.slots → clock_in words slot ≤ clock_in words' slot)
      → (0 < stop_in words → 0 < stop_in words')
      → (v.role ≡ Maker → IsMaker story shape maker handed seat v
      → IsMaker story shape maker handed' seat v)
      → (v.role ≡ Owner → IsOwner story shape words owner handed seat v
      → (owner' v.slot ≡ owner v.slot)
      × (clock_in words' v.slot ≡ clock_in words v.slot)
      × ((k : ℕ) → k < v.written → area_in shape words' v.slot k ≡ area_in shape words v.slot k))
      → IsTrueView story shape words owner maker handed seat v
      → IsTrueView story shape words' owner' maker handed' seat v
  view_stays owner owner' maker handed handed' seat v more clocks stop makes own ok = record {
    seen = λ slot lt. let a = ok.seen slot lt in let b = clocks slot lt in omega arith;
    stop = λ is. stop (ok.stop is);
    as_maker = λ is. makes is (ok.as_maker is);
    as_owner = λ is. let o = ok.as_owner is in let same = own is o in record {
      told = o.told;
      slot = let a = o.slot in omega arith;
      alone = same.0 ∙ o.alone;
      own = o.own ∙ sym same.1;
      least = o.least;
      most = o.most;
      put_words = λ k lt. same.2 k lt ∙ o.put_words k lt;
      put_stamps = o.put_stamps;
    };
  }

module _ (story : Lists) (shape : Shape) (words : List ℕ) (owner : ℕ → ℕ) (maker handed seat : ℕ)
    (v : View) where
  -- an owner that has seen, looked or fetched, or has another stop mark
  pub view_learns : (seen looks fetched : List ℕ) (stop : Bool) → v.role ≡ Owner
      → ((slot : ℕ) → slot < shape.slots → slice_index seen slot ≤ clock_in words slot)
      → (stop ≡ true → 0 < stop_in words)
      → IsTrueView story shape words owner maker handed seat v
      → IsTrueView story shape words owner maker handed seat
      (record v { seen = seen; looks = looks; fetched = fetched; stop = stop })
  view_learns seen looks fetched stop role sees stops ok = record {
    seen = sees;
    stop = stops;
    as_maker = λ is. absurd (let e : Owner ≡ Maker = sym role ∙ is in cc);
    as_owner = λ is. let o = ok.as_owner is in record {
      told = record { lists = o.told.lists; sizes = o.told.sizes };
      slot = o.slot;
      alone = o.alone;
      own = o.own;
      least = o.least;
      most = o.most;
      put_words = o.put_words;
      put_stamps = o.put_stamps;
    };
  }

module _ {S : Type 0} (story : Lists) (shape : Shape) (s : State S View) where
  -- the rule, after a step that changes one view and no word
  pub kept_by_load : (i : ℕ) (v w : View) (k : IsKept story shape s) → get_elem? s.views i ≡ some v
      → (v.stop ≡ true → w.stop ≡ true)
      → IsTrueView story shape s.words k.owner k.maker k.handed i w
      → IsKept story shape (record s { views = set s.views i w })
  kept_by_load i v w k at keeps new = record {
    owner = k.owner;
    maker = k.maker;
    handed = k.handed;
    size = k.size;
    most = k.most;
    slots = k.slots;
    seats = after_change (λ j u. IsTrueView story shape s.words k.owner k.maker k.handed j u)
        s.views i w new
        (λ j u ne. k.seats j u);
    called = λ above. mark_stays s.views i v w at keeps (k.called above);
  }
