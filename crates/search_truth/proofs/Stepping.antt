use Rattle.std.proofs.Common.{◌≡◌, ◌⊎◌, inl, inr, List, ◌∷◌, ◌++◌, Contains, ℤ, ℕ, zero, suc, ◌<◌, length, get_or, arith, sym, subst}
use Rattle.std.proofs.lemmas.List.Elements.{Contains-append_cases}
use Rattle.ip_core.specs.Sides.{Sides}
use Rattle.ip_core.specs.declared.model.ModelParts.{ModelParts}
use Rattle.search_truth.specs.Search.{Searched, Fate, Kept, Improves, Step, cutoff_of}

one_or_kept : (m : ModelParts) (cutoff : ℤ) (boxes : List Sides) (s b : Sides) → Fate m cutoff boxes s → (b ≡ s) ⊎ Contains boxes b → Fate m cutoff boxes b
one_or_kept m cutoff boxes s b fate (inl same) = subst (Fate m cutoff boxes) (sym same) fate
one_or_kept m cutoff boxes s b fate (inr kept) = Kept kept

-- a step that looks at one box and keeps all others
pub step_at : (m : ModelParts) (old new : Searched) (s : Sides) → ((b : Sides) → Contains old.boxes b → (b ≡ s) ⊎ Contains new.boxes b) → Fate m (cutoff_of m new.best) new.boxes s → Improves m old.best new.best → Step m old new
step_at m old new s others fate improves = record {
  fates = λ b among. one_or_kept m (cutoff_of m new.best) new.boxes s b fate (others b among);
  best = improves;
}

cons_cases : (s b : Sides) (back : List Sides) (k : ℕ) → k < length (s ∷ back) → get_or (s ∷ back) k b ≡ b → (s ≡ b) ⊎ Contains back b
cons_cases s b back zero known is = inl is
cons_cases s b back (suc k) known is = inr (k, omega arith, is)

back_cases : (back new : List Sides) (s b : Sides) → ((c : Sides) → Contains back c → Contains new c) → (s ≡ b) ⊎ Contains back b → (b ≡ s) ⊎ Contains new b
back_cases back new s b kept (inl same) = inl (sym same)
back_cases back new s b kept (inr among) = inr (kept b among)

amid_cases : (front back new : List Sides) (s b : Sides) → ((c : Sides) → Contains front c → Contains new c) → ((c : Sides) → Contains back c → Contains new c) → Contains front b ⊎ Contains (s ∷ back) b → (b ≡ s) ⊎ Contains new b
amid_cases front back new s b before after (inl among) = inr (before b among)
amid_cases front back new s b before after (inr among) = back_cases back new s b after (cons_cases s b back among.0 among.1 among.2)

-- the same where the box stands between two parts of a list, each of which is kept
pub step_amid : (m : ModelParts) (old new : Searched) (front back : List Sides) (s : Sides) → old.boxes ≡ front ++ s ∷ back → ((c : Sides) → Contains front c → Contains new.boxes c) → ((c : Sides) → Contains back c → Contains new.boxes c) → Fate m (cutoff_of m new.best) new.boxes s → Improves m old.best new.best → Step m old new
step_amid m old new front back s is before after fate improves =
    step_at m old new s (λ b among. amid_cases front back new.boxes s b before after (Contains-append_cases front (s ∷ back) b (subst (λ (boxes : List Sides). Contains boxes b) is among))) fate improves
