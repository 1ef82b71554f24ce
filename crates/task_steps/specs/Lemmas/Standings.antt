-- Slots that stand at their claims.
use Rattle.std.proofs.Common.{◌≡◌, ◌∙◌, ℕ, zero, suc, ◌+◌, ◌<◌, ◌≤◌, ◌⊎◌, inl, inr, Bool, true, false, cond, nat_eq, List, length, get_or, set, Option, Some, None, refl, sym, ap, subst, arith, []}
use Rattle.std.proofs.lemmas.Bool.{cases_lt, ne_eqb}
use Rattle.std.proofs.lemmas.List.{get_or-set_other, get_or-set_same, get_or_past, length-set}
use Rattle.std.proofs.lemmas.Option.{none-some}
use Rattle.ip_core.specs.declared.model.ModelParts.{ModelParts}
use Rattle.node_pool.specs.declared.settings.SearchSettings.{SearchSettings}
use Rattle.work_stamp.specs.Taskers.{Standing, fresh_standings, standing}
use Rattle.work_stamp.specs.declared.entry.Entry.{Entry}
use Rattle.task_steps.specs.Agrees.{Stands}
use Rattle.task_steps.specs.Claims.{Claim, IsReady, claims_with}
use Rattle.task_steps.specs.Rules.{rules}
use Rattle.task_steps.specs.declared.local.Local.{Local}
use Rattle.task_steps.specs.Lemmas.NameCounts.{eq_from_test, ne_from_test, test_itself}
use Rattle.task_steps.specs.Lemmas.TaskCuts.{none_derived}

within_cases : (slots : List (Option (Standing Local))) (slot : ℕ) (s : Standing Local)
    → get_or slots slot None ≡ Some s → (slot < length slots) ⊎ (length slots ≤ slot)
    → slot < length slots
within_cases slots slot s there (inl within) = within
within_cases slots slot s there (inr past) =
    absurd (none-some s (sym (get_or_past slots slot None past) ∙ there))

-- a slot that stands somewhere is one of the slots
pub place_within : (slots : List (Option (Standing Local))) (slot : ℕ) (s : Standing Local)
    → get_or slots slot None ≡ Some s → slot < length slots
place_within slots slot s there = within_cases slots slot s there (cases_lt slot (length slots))

stands_cases : (m : ModelParts) (old new : ℕ → Claim) (slots : List (Option (Standing Local)))
    (slot : ℕ) (s : Option (Standing Local)) (j : ℕ) (b : Bool) → nat_eq j slot ≡ b
    → ((i : ℕ) → (i ≡ slot → ⊥) → new i ≡ old i)
    → Stands m j (old j) (get_or slots j None) → Stands m slot (new slot) s → slot < length slots
    → Stands m j (new j) (get_or (set slots slot s) j None)
stands_cases m old new slots slot s j true is others before here within =
    let same : slot ≡ j = sym (eq_from_test j slot is) in
    subst (λ (i : ℕ). Stands m i (new i) (get_or (set slots slot s) i None)) same
    (subst (Stands m slot (new slot)) (sym (get_or-set_same slots slot s None within)) here)
stands_cases m old new slots slot s j false is others before here within =
    let apart = ne_from_test j slot is in
    subst (λ (c : Claim). Stands m j c (get_or (set slots slot s) j None)) (sym (others j apart))
    (subst (Stands m j (old j)) (sym (get_or-set_other slots slot j s None apart)) before)

-- all stand after one slot changed
pub stands_set : (m : ModelParts) (old new : ℕ → Claim) (slots : List (Option (Standing Local)))
    (slot : ℕ) (s : Option (Standing Local)) → ((i : ℕ) → (i ≡ slot → ⊥) → new i ≡ old i)
    → ((j : ℕ) → Stands m j (old j) (get_or slots j None)) → Stands m slot (new slot) s
    → slot < length slots → (j : ℕ) → Stands m j (new j) (get_or (set slots slot s) j None)
stands_set m old new slots slot s others before here within j =
    stands_cases m old new slots slot s j (nat_eq j slot) refl others (before j) here within

-- the claims with one replaced
pub claim_here : (claims : ℕ → Claim) (slot : ℕ) (d : Claim) → claims_with claims slot d slot ≡ d
claim_here claims slot d = ap (λ (b : Bool). cond b d (claims slot)) (test_itself slot)

pub claim_there : (claims : ℕ → Claim) (slot : ℕ) (d : Claim) (i : ℕ) → (i ≡ slot → ⊥)
    → claims_with claims slot d i ≡ claims i
claim_there claims slot d i apart = ap (λ (b : Bool). cond b d (claims i)) (ne_eqb i slot apart)

-- all stand after one slot changed with its claim
pub stands_with : (m : ModelParts) (claims : ℕ → Claim) (slots : List (Option (Standing Local)))
    (slot : ℕ) (d : Claim) (l : Local) (es : List Entry)
    → ((j : ℕ) → Stands m j (claims j) (get_or slots j None)) → IsReady m slot d es l
    → slot < length slots
    → (j : ℕ) → Stands m j (claims_with claims slot d j)
    (get_or (set slots slot (standing l es)) j None)
stands_with m claims slots slot d l es before here within =
    stands_set m claims (claims_with claims slot d) slots slot (standing l es)
    (claim_there claims slot d) before
    (subst (λ (c : Claim). IsReady m slot c es l) (sym (claim_here claims slot d)) here) within

none_cases : (slots : List (Option (Standing Local))) (slot : ℕ)
    → (slot < length slots) ⊎ (length slots ≤ slot) → get_or (set slots slot None) slot None ≡ None
none_cases slots slot (inl within) = get_or-set_same slots slot None None within
none_cases slots slot (inr past) = get_or_past (set slots slot None) slot None (rw length-set past)

left_cases : (m : ModelParts) (claims : ℕ → Claim) (slots : List (Option (Standing Local)))
    (slot j : ℕ) (b : Bool) → nat_eq j slot ≡ b → Stands m j (claims j) (get_or slots j None)
    → Stands m j (claims j) (get_or (set slots slot None) j None)
left_cases m claims slots slot j true is before =
    let same : slot ≡ j = sym (eq_from_test j slot is) in
    subst (λ (i : ℕ). Stands m i (claims i) (get_or (set slots slot None) i None)) same
    (subst (Stands m slot (claims slot))
    (sym (none_cases slots slot (cases_lt slot (length slots)))) tt)
left_cases m claims slots slot j false is before =
    subst (Stands m j (claims j))
    (sym (get_or-set_other slots slot j None None (ne_from_test j slot is))) before

-- all stand after one slot was left out
pub stands_without : (m : ModelParts) (claims : ℕ → Claim) (slots : List (Option (Standing Local)))
    (slot : ℕ) → ((j : ℕ) → Stands m j (claims j) (get_or slots j None)) → (j : ℕ)
    → Stands m j (claims j) (get_or (set slots slot None) j None)
stands_without m claims slots slot before j = left_cases m claims slots slot j (nat_eq j slot) refl
    (before j)

next_place : (first j : ℕ) → suc first + j ≡ first + suc j
next_place first j = omega arith

first_place : (first : ℕ) → first ≡ first + 0
first_place first = omega arith

-- fresh slots stand at a claim that holds nothing
fresh_from : (m : ModelParts) (settings : SearchSettings) (first more j : ℕ) (c : Claim)
    → first + more ≤ 64 → c.hold ≡ None → c.splits ≡ 0 → c.cuts ≡ []
    → Stands m (first + j) c (get_or (fresh_standings (rules m settings) first more) j None)
fresh_from m settings first zero j c few free none no_cuts = tt
fresh_from m settings first (suc more) zero c few free none no_cuts =
    record {
      fits = record {
        slot = omega arith;
        few = omega arith;
        cuts = none_derived m;
        task = tt;
      };
      own = first_place first;
      splits = sym none;
      cuts = sym no_cuts;
      task = free;
    }
fresh_from m settings first (suc more) (suc j) c few free none no_cuts =
    subst (λ (i : ℕ). Stands m i c
    (get_or (fresh_standings (rules m settings) (suc first) more) j None)) (next_place first j)
    (fresh_from m settings (suc first) more j c (omega arith) free none no_cuts)

zero_place : (j : ℕ) → 0 + j ≡ j
zero_place j = omega arith

pub fresh_stand : (m : ModelParts) (settings : SearchSettings) (slots j : ℕ) (c : Claim)
    → slots ≤ 64 → c.hold ≡ None → c.splits ≡ 0 → c.cuts ≡ []
    → Stands m j c (get_or (fresh_standings (rules m settings) 0 slots) j None)
fresh_stand m settings slots j c few free none no_cuts =
    subst (λ (i : ℕ). Stands m i c (get_or (fresh_standings (rules m settings) 0 slots) j None))
    (zero_place j) (fresh_from m settings 0 slots j c (omega arith) free none no_cuts)
