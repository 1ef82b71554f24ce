-- How a walk keeps the boxes that are due.
use Rattle.std.proofs.Common.{◌≡◌, ◌∙◌, ℕ, ◌+◌, List, [], ◌∷◌, ◌++◌, length, set, ℤ, refl, ap}
use Rattle.std.specs.Prelude.{reverse}
use Rattle.std.specs.Int.{int_min, int_max}
use Rattle.std.proofs.lemmas.List.{set-set, set-get_or, reverse-append, length-append}
use Rattle.ip_core.specs.Numbers.{int_at}
use Rattle.ip_core.specs.Sides.{Sides, with_high, with_low}
use Rattle.cert_check.specs.Walks.{Due, due_at, later_boxes}
use Rattle.cert_check.specs.declared.branch.Branch.{Branch}
use Rattle.cert_check.specs.declared.branch.Branch.TheVariants.{Low, High}

-- the last branch comes first in reverse
pub last_first : (path : List Branch) (b : Branch) → reverse (path ++ b ∷ []) ≡ b ∷ reverse path
last_first path b = reverse-append path (b ∷ [])

-- a number that was replaced is put back
put_back : (xs : List ℤ) (col : ℕ) (z : ℤ) → set (set xs col z) col (int_at xs col) ≡ xs
put_back xs col z = set-set xs col z (int_at xs col) ∙ set-get_or xs col _

abbrev due_of : Sides → List Sides → ℕ → Due
due_of s later depth = record { here = s; later = later; depth = depth }

-- in the low child of a split the high child is due next
pub low_child_later : (lows highs : List ℤ) (path : List Branch) (col : ℕ) (z next : ℤ) → later_boxes (record { lows = lows; highs = set highs col z }) (reverse (path ++ Low col (int_at highs col) next ∷ [])) ≡ with_low (record { lows = lows; highs = highs }) col next ∷ later_boxes (record { lows = lows; highs = highs }) (reverse path)
low_child_later lows highs path col z next =
    ap (later_boxes (record { lows = lows; highs = set highs col z })) (last_first path (Low col (int_at highs col) next))
    ∙ ap (λ (hs : List ℤ). with_low (record { lows = lows; highs = hs }) col next ∷ later_boxes (record { lows = lows; highs = hs }) (reverse path)) (put_back highs col z)

-- and in the high child what is due stays
pub high_child_later : (lows highs : List ℤ) (path : List Branch) (col : ℕ) (z : ℤ) → later_boxes (record { lows = set lows col z; highs = highs }) (reverse (path ++ High col (int_at lows col) ∷ [])) ≡ later_boxes (record { lows = lows; highs = highs }) (reverse path)
high_child_later lows highs path col z =
    ap (later_boxes (record { lows = set lows col z; highs = highs })) (last_first path (High col (int_at lows col)))
    ∙ ap (λ (ls : List ℤ). later_boxes (record { lows = ls; highs = highs }) (reverse path)) (put_back lows col z)

same_due : (s : Sides) (a b : List Sides) (i j : ℕ) → a ≡ b → i ≡ j → due_of s a i ≡ due_of s b j
same_due s a b i j one two = rw (one, two) refl

-- going on to the low child of a split
pub low_child : (s : Sides) (old : Due) (highs : List ℤ) (path after : List Branch) (col : ℕ) (at next : ℤ) → old ≡ due_at s path → after ≡ path ++ Low col (int_at s.highs col) next ∷ [] → highs ≡ set s.highs col (int_min (int_at s.highs col) at) → due_at (record { lows = s.lows; highs = highs }) after ≡ record { here = with_high old.here col at; later = with_low old.here col next ∷ old.later; depth = old.depth + 1 }
low_child s old highs path after col at next is pushed lowered =
    rw (is, pushed, lowered)
    (same_due (with_high s col at) (later_boxes (with_high s col at) (reverse (path ++ Low col (int_at s.highs col) next ∷ []))) (with_low s col next ∷ later_boxes s (reverse path)) (length (path ++ Low col (int_at s.highs col) next ∷ [])) (length path + 1) (low_child_later s.lows s.highs path col (int_min (int_at s.highs col) at) next) (length-append path (_ ∷ [])))

-- going on to the high one
pub high_child : (s : Sides) (old : Due) (lows : List ℤ) (path after : List Branch) (col : ℕ) (next : ℤ) → old ≡ due_at s path → after ≡ path ++ High col (int_at s.lows col) ∷ [] → lows ≡ set s.lows col (int_max (int_at s.lows col) next) → due_at (record { lows = lows; highs = s.highs }) after ≡ record { here = with_low old.here col next; later = old.later; depth = old.depth + 1 }
high_child s old lows path after col next is pushed raised =
    rw (is, pushed, raised)
    (same_due (with_low s col next) (later_boxes (with_low s col next) (reverse (path ++ High col (int_at s.lows col) ∷ []))) (later_boxes s (reverse path)) (length (path ++ High col (int_at s.lows col) ∷ [])) (length path + 1) (high_child_later s.lows s.highs path col (int_max (int_at s.lows col) next)) (length-append path (_ ∷ [])))
