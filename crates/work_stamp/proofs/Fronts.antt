-- Words that were appended, wholly or in part.
use Rattle.std.proofs.Common.{◌≡◌, ℕ, List, [], ◌++◌, append_assoc, append-nil, refl, sym, ap, ◌∙◌}
use Rattle.work_stamp.specs.Appends.{IsFront}

pub front_same : (xs : List ℕ) → IsFront xs xs
front_same xs = record { rest = []; whole = sym (append-nil xs) }

pub front_more : (xs ys : List ℕ) → IsFront xs (xs ++ ys)
front_more xs ys = record { rest = ys; whole = refl }

-- a front of what follows a front
pub front_trans : (xs ys zs : List ℕ) → ys ≡ xs → IsFront xs zs → IsFront ys zs
front_trans xs ys zs e f = record { rest = f.rest; whole = f.whole ∙ ap (λ (x : List ℕ). x ++ f.rest) (sym e) }

pub front_after : (xs ys zs : List ℕ) → IsFront (xs ++ ys) zs → IsFront xs zs
front_after xs ys zs f = record { rest = ys ++ f.rest; whole = f.whole ∙ append_assoc xs ys f.rest }
