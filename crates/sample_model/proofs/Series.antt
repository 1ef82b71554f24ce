use Rattle.std.proofs.Common.{◌≡◌, ◌∙◌, ◌≤◌, ◌<◌, ◌+◌, ◌-◌, ℕ, zero, suc, List, [], ◌∷◌, ◌++◌, length, All, refl, sym, ap, arith}
use Rattle.std.proofs.lemmas.List.{append_assoc, append-nil}
use Rattle.std.proofs.lemmas.List.Elements.{All-nil, All-cons}
use Rattle.sample_model.specs.Draws.{series, after}

-- Series in loops: what was made so far, and what is left.

one_less : (count at : ℕ) → at < count → count - at ≡ suc (count - (at + 1))
one_less count at below = omega arith

none_left : (count at : ℕ) → count ≤ at → count - at ≡ 0
none_left count at done = omega arith

pub series_on : {A : Type 0} (item : ℕ → A) (past : ℕ → ℕ) (count at z : ℕ) (so_far whole : List A) → at < count → so_far ++ series item past (count - at) z ≡ whole
    → (so_far ++ item z ∷ []) ++ series item past (count - (at + 1)) (past z) ≡ whole
series_on item past count at z so_far whole below left =
    append_assoc so_far (item z ∷ []) (series item past (count - (at + 1)) (past z)) ∙ ap (λ k. so_far ++ series item past k z) (sym (one_less count at below)) ∙ left

pub series_done : {A : Type 0} (item : ℕ → A) (past : ℕ → ℕ) (count at z : ℕ) (so_far whole : List A) → count ≤ at → so_far ++ series item past (count - at) z ≡ whole → so_far ≡ whole
series_done item past count at z so_far whole done left = sym (append-nil so_far) ∙ ap (λ k. so_far ++ series item past k z) (sym (none_left count at done)) ∙ left

pub after_on : (past : ℕ → ℕ) (count at z last : ℕ) → at < count → after past (count - at) z ≡ last → after past (count - (at + 1)) (past z) ≡ last
after_on past count at z last below left = ap (λ k. after past k z) (sym (one_less count at below)) ∙ left

pub after_done : (past : ℕ → ℕ) (count at z last : ℕ) → count ≤ at → after past (count - at) z ≡ last → z ≡ last
after_done past count at z last done left = ap (λ k. after past k z) (sym (none_left count at done)) ∙ left

pub series_length : {A : Type 0} (item : ℕ → A) (past : ℕ → ℕ) (count z : ℕ) → length (series item past count z) ≡ count
series_length item past zero z = refl
series_length item past (suc count) z = ap suc (series_length item past count (past z))

-- what holds of the item of each state holds of all items
pub all_series : {A : Type 0} (P : A → Type 0) (item : ℕ → A) (past : ℕ → ℕ) (count z : ℕ) → ((y : ℕ) → P (item y)) → All P (series item past count z)
all_series P item past zero z each = All-nil P
all_series P item past (suc count) z each = All-cons P (item z) (series item past count (past z)) (each z) (all_series P item past count (past z) each)
