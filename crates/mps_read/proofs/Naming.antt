use Rattle.std.proofs.Common.{◌≡◌, ◌∙◌, ℕ, ◌<◌, ◌≤◌, ◌+◌, Bool, true, false, not, cond, ◌||◌, List, [], ◌∷◌, ◌++◌, map, length, refl, sym, ap, arith, Option, Some, None, nat_lt, if◌then◌else◌, MatchOption}
use Rattle.std.specs.List.{list_any, position_or_len, position}
use Rattle.std.specs.Str.{bytes_eq}
use Rattle.std.proofs.lemmas.Bool.Decides.{nat_tests}
use Rattle.std.proofs.lemmas.List.{map-append, length-map}
use Rattle.mps_read.specs.Names.{is_among, place_among, with_name}

module _ {A B : Type 0} (f : A → B) (p : B → Bool) where
  -- a test of images
  pub list_any_images : (xs : List A) → list_any p (map f xs) ≡ list_any (λ x. p (f x)) xs
  list_any_images [] = refl
  list_any_images (x ∷ xs) = ap (λ b. p (f x) || b) (list_any_images xs)

  pub position_images : (xs : List A) → position_or_len p (map f xs) ≡ position_or_len (λ x. p (f x)) xs
  position_images [] = refl
  position_images (x ∷ xs) = ap (λ n. cond (not (p (f x))) (1 + n) 0) (position_images xs)

within_by : (b r : Bool) (n m : ℕ) → (n < m → r ≡ true) → cond (not b) (1 + n) 0 < 1 + m → (b || r) ≡ true
within_by true r n m more h = refl
within_by false r n m more h = more (omega arith)

outside_by : (b r : Bool) (n m : ℕ) → (m ≤ n → r ≡ false) → 1 + m ≤ cond (not b) (1 + n) 0 → (b || r) ≡ false
outside_by true r n m more h = absurd (omega arith)
outside_by false r n m more h = more (omega arith)

module _ {A : Type 0} (p : A → Bool) where
  -- an item has a place within the list exactly where it is among it
  pub place_within : (xs : List A) → position_or_len p xs < length xs → list_any p xs ≡ true
  place_within [] h = absurd (omega arith)
  place_within (x ∷ xs) h = within_by (p x) (list_any p xs) (position_or_len p xs) (length xs) (place_within xs) (omega arith)

  pub place_outside : (xs : List A) → length xs ≤ position_or_len p xs → list_any p xs ≡ false
  place_outside [] h = refl
  place_outside (x ∷ xs) h = outside_by (p x) (list_any p xs) (position_or_len p xs) (length xs) (place_outside xs) (omega arith)

match_place : (b : Bool) (n : ℕ) (P : Type 0) (Q : ℕ → Type 0) → (b ≡ false → P) → (b ≡ true → Q n) → MatchOption (cond b (Some n) None) P Q
match_place true n P Q fails ok = ok refl
match_place false n P Q fails ok = fails refl

outside_len : (n m : ℕ) → nat_lt n m ≡ false → m ≤ n
outside_len n m h = grind (arith, nat_tests)

within_len : (n m : ℕ) → nat_lt n m ≡ true → n < m
within_len n m h = grind (arith, nat_tests)

-- what a look-up among keys says of the names that they are
pub found_place : {A : Type 0} (f : A → List ℕ) (keys : List A) (name : List ℕ) (names : List (List ℕ)) (r : Option ℕ) → r ≡ position (λ k. bytes_eq name (f k)) keys → map f keys ≡ names → MatchOption r (is_among name names ≡ false) (λ k. (is_among name names ≡ true) × (k ≡ place_among name names) × (k < length names))
found_place {A} f keys name names r at view =
    let p : List ℕ → Bool = bytes_eq name in
    let q : A → Bool = λ k. bytes_eq name (f k) in
    let any : is_among name names ≡ list_any q keys = ap (list_any p) (sym view) ∙ list_any_images f p keys in
    let place : place_among name names ≡ position_or_len q keys = ap (position_or_len p) (sym view) ∙ position_images f p keys in
    let long : length names ≡ length keys = ap length (sym view) ∙ length-map keys f in
    rw at (match_place (nat_lt (position_or_len q keys) (length keys)) (position_or_len q keys)
    (is_among name names ≡ false)
    (λ k. (is_among name names ≡ true) × (k ≡ place_among name names) × (k < length names))
    (λ fails. any ∙ place_outside q keys (outside_len _ _ fails))
    (λ ok. (any ∙ place_within q keys (within_len _ _ ok), sym place, rw long (within_len _ _ ok))))

added_names-by : {A : Type 0} (f : A → List ℕ) (b : Bool) (keys : List A) (owned : A) → map f (if b then keys else keys ++ owned ∷ []) ≡ (if b then map f keys else map f keys ++ f owned ∷ [])
added_names-by f true keys owned = refl
added_names-by f false keys owned = map-append f keys (owned ∷ [])

-- the names after a key is inserted
pub added_names : {A : Type 0} (f : A → List ℕ) (keys after : List A) (owned : A) (name : List ℕ) (names : List (List ℕ)) → after ≡ (if list_any (λ k. bytes_eq (f owned) (f k)) keys then keys else keys ++ owned ∷ []) → f owned ≡ name → map f keys ≡ names → map f after ≡ with_name name names
added_names {A} f keys after owned name names is owned_is view =
    let any : is_among (f owned) (map f keys) ≡ list_any (λ k. bytes_eq (f owned) (f k)) keys = list_any_images f (bytes_eq (f owned)) keys in
    let here : map f after ≡ with_name (f owned) (map f keys) = rw (is, any) (added_names-by f (list_any (λ k. bytes_eq (f owned) (f k)) keys) keys owned) in
    here ∙ ap (λ n. with_name n (map f keys)) owned_is ∙ ap (with_name name) view
