-- Looking for an item of a list, place by place.
use Rattle.std.proofs.Common.{◌≡◌, ℕ, ◌+◌, ◌<◌, ◌≤◌, Bool, true, false, ◌||◌, List, length, take, get_or, sym, ap, ◌∙◌}
use Rattle.std.specs.List.{list_any}
use Rattle.std.proofs.lemmas.List.{take_all}
use Rattle.std.proofs.lemmas.List.Folds.{list_any_more}

both_false : (a b : Bool) → a ≡ false → b ≡ false → (a || b) ≡ false
both_false true b e f = absurd cc
both_false false b e f = f

-- none of the items up to this one passes the test
pub none_more : {A : Type 0} (test : A → Bool) (xs : List A) (place : ℕ) (x : A) →
    place < length xs → x ≡ get_or xs place x → test x ≡ false →
    list_any test (take place xs) ≡ false → list_any test (take (place + 1) xs) ≡ false
none_more test xs place x within is fails none = list_any_more test xs place x within
    ∙ both_false (list_any test (take place xs)) (test (get_or xs place x)) none
    (ap test (sym is) ∙ fails)

not_both : (b : Bool) → b ≡ true → b ≡ false → ⊥
not_both b e f = cc

-- an item that is there was found before the end
pub found_before : {A : Type 0} (test : A → Bool) (xs : List A) (place : ℕ) →
    length xs ≤ place → list_any test (take place xs) ≡ false → list_any test xs ≡ true → ⊥
found_before test xs place past none some = not_both (list_any test xs) some
    (ap (list_any test) (sym (take_all place xs past)) ∙ none)
