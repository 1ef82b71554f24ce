use Rattle.std.proofs.Common.{◌≡◌, ◌∙◌, ℕ, suc, ◌+◌, ◌<◌, ◌≤◌, Bool, true, false, cond, is_some, List, ◌∷◌, length, get_or, drop, Option, Some, None, refl, sym, ap, add-one}
use Rattle.std.proofs.lemmas.Bool.{true≢false}
use Rattle.std.proofs.Math.Seq.{drop-cons}
use Rattle.std.proofs.Math.ListN.{drop_of_length-le}
use Rattle.width_admit.specs.Admission.{first_from}

-- the first item that passes, found by going through a list

at_front : {A : Type 0} (test : ℕ → A → Bool) (i : ℕ) (x : A) (xs : List A) (b : Bool) → test i x ≡ b → first_from test i (x ∷ xs) ≡ cond b (Some i) (first_from test (i + 1) xs)
at_front test i x xs b same = rw same refl

-- an item that fails is passed over
pub first_step : {A : Type 0} (test : ℕ → A → Bool) (xs : List A) (i : ℕ) (d : A) → i < length xs → test i (get_or xs i d) ≡ false → first_from test (i + 1) (drop (i + 1) xs) ≡ first_from test i (drop i xs)
first_step test xs i d within fails =
    sym (ap (first_from test i) (drop-cons xs i d within) ∙ at_front test i (get_or xs i d) (drop (suc i) xs) false fails ∙ ap (λ k. first_from test (i + 1) (drop k xs)) (sym (add-one i)))

-- an item that passes is the first
pub first_found : {A : Type 0} (test : ℕ → A → Bool) (xs : List A) (i : ℕ) (d : A) → i < length xs → test i (get_or xs i d) ≡ true → first_from test i (drop i xs) ≡ Some i
first_found test xs i d within passes =
    ap (first_from test i) (drop-cons xs i d within) ∙ at_front test i (get_or xs i d) (drop (suc i) xs) true passes

-- past the end there is none
pub first_none : {A : Type 0} (test : ℕ → A → Bool) (xs : List A) (i : ℕ) → length xs ≤ i → first_from test i (drop i xs) ≡ None
first_none test xs i past = ap (first_from test i) (drop_of_length-le xs past)

none_at : (b : Bool) (i : ℕ) (rest : Option ℕ) → cond b (Some i) rest ≡ None → (b ≡ false) × (rest ≡ None)
none_at true i rest h = absurd (true≢false (ap is_some h))
none_at false i rest h = (refl, h)

-- where there is none, the first item fails and there is none in the rest
pub none_cons : {A : Type 0} (test : ℕ → A → Bool) (i : ℕ) (x : A) (xs : List A) → first_from test i (x ∷ xs) ≡ None → (test i x ≡ false) × (first_from test (i + 1) xs ≡ None)
none_cons test i x xs h = none_at (test i x) i (first_from test (i + 1) xs) h
