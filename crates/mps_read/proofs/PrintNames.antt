use Rattle.std.proofs.Common.{◌≡◌, ◌≢◌, ◌∙◌, ◌<◌, ◌+◌, ℕ, zero, suc, Bool, true, false, not, cond, ◌||◌, List, [], ◌∷◌, ◌++◌, length, slice_index_or, if◌then◌else◌, refl, sym, ap, arith}
use Rattle.std.specs.Str.{bytes_eq}
use Rattle.std.proofs.lemmas.Bool.{false_from_ne_true}
use Rattle.std.proofs.lemmas.Slice.Eq.{bytes_eq-Decides}
use Rattle.std.proofs.lemmas.List.{length-append, get_or_at}
use Rattle.mps_read.specs.Names.{is_among, place_among, with_name}
use Rattle.mps_model.specs.MpsModels.{AreDistinct}

-- names that differ, and their places

pub same_bytes : (x : List ℕ) → bytes_eq x x ≡ true
same_bytes x = (bytes_eq-Decides x x).1 refl

pub differ : (x y : List ℕ) → x ≢ y → bytes_eq x y ≡ false
differ x y ne = false_from_ne_true (bytes_eq x y) (λ h. ne ((bytes_eq-Decides x y).0 h))

module _ {A : Type 0} (d : A) where
  pub tail_distinct : (x : A) (xs : List A) → AreDistinct (x ∷ xs) d → AreDistinct xs d
  tail_distinct x xs h = record { each = λ i j li lj same. let e = h.each (suc i) (suc j) (omega (arith, li)) (omega (arith, lj)) same in omega (arith, e) }

  pub front_apart : (x : A) (xs : List A) (j : ℕ) → AreDistinct (x ∷ xs) d → j < length xs → slice_index_or xs j d ≢ x
  front_apart x xs j h lj same = let e = h.each 0 (suc j) (omega arith) (omega (arith, lj)) (sym same) in omega (arith, e)

within : {A : Type 0} (front : List A) (x : A) (back : List A) → length front < length (front ++ x ∷ back)
within front x back = let e = length-append front (x ∷ back) in omega (arith, e)

-- a name isn't among those before it
pub fresh_at : (front : List (List ℕ)) (x : List ℕ) (back : List (List ℕ)) → AreDistinct (front ++ x ∷ back) [] → is_among x front ≡ false
fresh_at [] x back h = refl
fresh_at (y ∷ front) x back h =
    let other : bytes_eq x y ≡ false = differ x y (λ e. front_apart [] y (front ++ x ∷ back) (length front) h (within front x back) (get_or_at front x back [] (length front) refl ∙ e)) in
    ap (λ b. b || is_among x front) other ∙ fresh_at front x back (tail_distinct [] y (front ++ x ∷ back) h)

pub place_by : (b : Bool) (n m : ℕ) → b ≡ false → n ≡ m → cond (not b) (1 + n) 0 ≡ suc m
place_by b n m h is = rw (h, is) (omega arith)

-- the place of the name of a number is that number
pub place_at : (names : List (List ℕ)) (i : ℕ) → AreDistinct names [] → i < length names → place_among (slice_index_or names i []) names ≡ i
place_at [] i h l = absurd (omega (arith, l))
place_at (y ∷ ys) zero h l = rw (same_bytes y) refl
place_at (y ∷ ys) (suc i) h l =
    let other : bytes_eq (slice_index_or ys i []) y ≡ false = differ (slice_index_or ys i []) y (front_apart [] y ys i h (omega (arith, l))) in
    place_by (bytes_eq (slice_index_or ys i []) y) (place_among (slice_index_or ys i []) ys) i other (place_at ys i (tail_distinct [] y ys h) (omega (arith, l)))

or_true : (a b : Bool) → b ≡ true → (a || b) ≡ true
or_true true b h = refl
or_true false b h = h

pub among_at : (names : List (List ℕ)) (i : ℕ) → i < length names → is_among (slice_index_or names i []) names ≡ true
among_at [] i l = absurd (omega (arith, l))
among_at (y ∷ ys) zero l = ap (λ b. b || is_among y ys) (same_bytes y)
among_at (y ∷ ys) (suc i) l = or_true (bytes_eq (slice_index_or ys i []) y) (is_among (slice_index_or ys i []) ys) (among_at ys i (omega (arith, l)))

-- the same of a name between others
pub place_between : (front : List (List ℕ)) (x : List ℕ) (back : List (List ℕ)) → AreDistinct (front ++ x ∷ back) [] → place_among x (front ++ x ∷ back) ≡ length front
place_between front x back h =
    ap (λ n. place_among n (front ++ x ∷ back)) (sym (get_or_at front x back [] (length front) refl)) ∙ place_at (front ++ x ∷ back) (length front) h (within front x back)

pub among_between : (front : List (List ℕ)) (x : List ℕ) (back : List (List ℕ)) → is_among x (front ++ x ∷ back) ≡ true
among_between front x back =
    ap (λ n. is_among n (front ++ x ∷ back)) (sym (get_or_at front x back [] (length front) refl)) ∙ among_at (front ++ x ∷ back) (length front) (within front x back)

or_none : (b r : Bool) → (b || r) ≡ false → (b ≡ false) × (r ≡ false)
or_none true r h = cc
or_none false r h = (refl, h)

-- a name that isn't among some has their number as place
pub place_absent : (x : List ℕ) (names : List (List ℕ)) → is_among x names ≡ false → place_among x names ≡ length names
place_absent x [] h = refl
place_absent x (y ∷ ys) h =
    let p = or_none (bytes_eq x y) (is_among x ys) h in
    place_by (bytes_eq x y) (place_among x ys) (length ys) p.0 (place_absent x ys p.1)

-- the place of a name behind others that it isn't among
pub place_first : (front : List (List ℕ)) (x : List ℕ) (back : List (List ℕ)) → is_among x front ≡ false → place_among x (front ++ x ∷ back) ≡ length front
place_first [] x back h = ap (λ b. cond (not b) (1 + place_among x back) 0) (same_bytes x)
place_first (y ∷ front) x back h =
    let p = or_none (bytes_eq x y) (is_among x front) h in
    place_by (bytes_eq x y) (place_among x (front ++ x ∷ back)) (length front) p.0 (place_first front x back p.1)

-- names with a new one, and with a known one
pub with_new : (x : List ℕ) (names : List (List ℕ)) → is_among x names ≡ false → with_name x names ≡ names ++ x ∷ []
with_new x names h = ap (λ b. if b then names else names ++ x ∷ []) h

pub with_known : (x : List ℕ) (names : List (List ℕ)) → is_among x names ≡ true → with_name x names ≡ names
with_known x names h = ap (λ b. if b then names else names ++ x ∷ []) h
