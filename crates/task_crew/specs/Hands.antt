-- The rule of the queue of carriers: over items with a slot and a run, and the views of all passes.
use Rattle.std.specs.Prelude.{ℕ, zero, suc, ◌≡◌, ◌+◌, ◌-◌, ◌<◌, ◌≤◌, nat_eq, nat_lt, if◌then◌else◌, List, [], ◌∷◌, ◌++◌, length, map, Option, Some, None, ⊤}
use mathlib.Core.Option.{some}
use lib.ListN.{get_elem?}
use Rattle.task_crew.specs.declared.hand.Hand.{Hand}

-- how often a slot stands in a list
abbrev pub times : ℕ → List ℕ → ℕ
times slot [] = 0
times slot (s ∷ ss) = (if nat_eq s slot then 1 else 0) + times slot ss

-- one for each slot below the count
abbrev pub once_below : ℕ → ℕ → ℕ
once_below count slot = if nat_lt slot count then 1 else 0

-- a list after a slot left it once
abbrev pub without : ℕ → List ℕ → List ℕ
without slot [] = []
without slot (s ∷ ss) = if nat_eq s slot then ss else s ∷ without slot ss

-- of each item a number, added up
abbrev pub total : {A : Type 0} → (A → ℕ) → List A → ℕ
total f [] = 0
total f (x ∷ xs) = f x + total f xs

abbrev pub hand : {R : Type 0} → ℕ → Option R → ℕ → List ℕ → Hand R
hand parts run count holds =
    record { parts = parts; run = run; count = count; holds = holds }

-- the view of the first pass: it has all parts, and there are no carriers yet
abbrev pub first_hand : {R : Type 0} → Hand R
first_hand = hand 1024 None 0 []

-- the run of so many carriers, none before the first one
abbrev pub run_of_first : {R : Type 0} → R → ℕ → Option R
run_of_first run zero = None
run_of_first run (suc count) = Some run

-- the view of the pass that has put in so many carriers of a run, and keeps none
abbrev pub filled : {R : Type 0} → R → ℕ → Hand R
filled run count = hand 1024 (run_of_first run count) count []

-- a pass keeps one part, and the new one has the others
abbrev pub kept_part : {R : Type 0} → Hand R → Hand R
kept_part v = hand 1 v.run v.count v.holds

abbrev pub other_parts : {R : Type 0} → Hand R → Hand R
other_parts v = hand (v.parts - 1) v.run v.count []

-- a pass takes in the parts and the slots of another one, which is spent
abbrev pub both : {R : Type 0} → Hand R → Hand R → Hand R
both v w = hand (v.parts + w.parts) v.run v.count (v.holds ++ w.holds)

abbrev pub spent : {R : Type 0} → Hand R
spent = hand 0 None 0 []

module _ {C R : Type 0} (slot_of : C → ℕ) (run_of : C → R) (Lives : C → Type 0) where
  -- a carrier of this run that lives
  pub record IsInRun (run : Option R) (c : C) : Type 0 where
    pub same : run ≡ Some (run_of c)
    pub lives : Lives c

  abbrev pub AreInRun : Option R → List C → Type 0
  AreInRun run [] = ⊤
  AreInRun run (c ∷ cs) = IsInRun run c × AreInRun run cs

  -- each slot below the count is once in the queue or kept by a worker. All passes with parts have
  -- the same run, which each carrier in the queue has, and each of these lives
  pub record AreOnce (items : List C) (views : List (Hand R)) : Type 0 where
    pub run : Option R
    pub count : ℕ
    pub parts : total (λ v. v.parts) views ≡ 1024
    pub know : (pass : ℕ) (v : Hand R) → get_elem? views pass ≡ some v → 0 < v.parts →
        (v.run ≡ run) × (v.count ≡ count)
    pub idle : (pass : ℕ) (v : Hand R) → get_elem? views pass ≡ some v → v.parts ≡ 0 →
        v.holds ≡ []
    pub once : (slot : ℕ) → times slot (map slot_of items) + total (λ v. times slot v.holds) views
        ≡ once_below count slot
    pub all : length items + total (λ v. length v.holds) views ≡ count
    pub in_run : AreInRun run items

  -- a carrier is put in, as the first one or one of the same run, under the next slot
  abbrev pub Enters : Hand R → C → Hand R → Type 0
  Enters v c w = w ≡ hand v.parts (Some (run_of c)) (v.count + 1) v.holds

  -- a carrier is taken out, and the pass holds no more than the run has
  abbrev pub Leaves : Hand R → C → Hand R → Type 0
  Leaves v c w = (w ≡ hand v.parts v.run v.count (slot_of c ∷ v.holds)) × IsInRun v.run c
      × (length v.holds < v.count)

  -- a carrier that was taken out is put back
  abbrev pub Returns : Hand R → C → Hand R → Type 0
  Returns v c w = w ≡ hand v.parts v.run v.count (without (slot_of c) v.holds)

  -- in the queue and with this pass there are no more carriers than the run has
  abbrev pub AreFew : Hand R → List C → Type 0
  AreFew v items = length items + length v.holds ≤ v.count

  -- to the pass with all parts: each slot is once in the queue or with this pass
  abbrev pub AreAll : Hand R → List C → Type 0
  AreAll v items = v.parts ≡ 1024 →
      ((slot : ℕ) →
      times slot (map slot_of items) + times slot v.holds ≡ once_below v.count slot)
      × (length items + length v.holds ≡ v.count)
