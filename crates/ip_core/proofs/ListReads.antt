use Rattle.std.proofs.Common.{◌≡◌, ◌∙◌, ℕ, ◌+◌, ◌<◌, ◌≤◌, ◌⊎◌, inl, inr, List, length, map, get_or, sym, ap, arith}
use Rattle.std.specs.List.Sorted.{IsStrictlyIncreasing}
use Rattle.std.proofs.lemmas.Bool.{cases_lt}
use Rattle.std.proofs.lemmas.List.{get_or-map}

-- what a mapped list holds at the place of an item that was read
pub get_or-map_read : {A B : Type 0} (f : A → B) (xs : List A) (i : ℕ) (x : A) (e : B) → i < length xs → x ≡ get_or xs i x → get_or (map f xs) i e ≡ f x
get_or-map_read f xs i x e within read = get_or-map f xs i x e within ∙ ap f (sym read)

rising_cases : (xs : List ℕ) (i k : ℕ) → (k + 1 < i → get_or xs k 0 < get_or xs (k + 1) 0) → (j : ℕ) → j + 1 ≡ i → get_or xs j 0 < get_or xs i 0 → k + 1 < i + 1 → (k + 1 < i) ⊎ (i ≤ k + 1) → get_or xs k 0 < get_or xs (k + 1) 0
rising_cases xs i k before j next here within (inl below) = before below
rising_cases xs i k before j next here within (inr last) =
    let at_end : k + 1 ≡ i = omega arith in
    let same : k ≡ j = omega arith in
    rw (at_end, same) here

-- numbers that rise up to place i - 1, and from there to place i
pub rising_more : (xs : List ℕ) (i j : ℕ) → ((k : ℕ) → k + 1 < i → get_or xs k 0 < get_or xs (k + 1) 0) → j + 1 ≡ i → get_or xs j 0 < get_or xs i 0 → (k : ℕ) → k + 1 < i + 1 → get_or xs k 0 < get_or xs (k + 1) 0
rising_more xs i j before next here k within = rising_cases xs i k (before k) j next here within (cases_lt (k + 1) i)

-- numbers that don't rise at place i
pub rising_fails : (xs : List ℕ) (i j : ℕ) → j + 1 ≡ i → i < length xs → get_or xs i 0 ≤ get_or xs j 0 → IsStrictlyIncreasing xs → ⊥
rising_fails xs i j next within falls rising =
    let at_next : get_or xs j 0 < get_or xs (j + 1) 0 = rising j (omega arith) in
    let at_i : get_or xs j 0 < get_or xs i 0 = rw next at at_next in
    omega arith
