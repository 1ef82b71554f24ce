use Rattle.std.proofs.Common.{◌≡◌, ℕ, ◌<◌, ◌≤◌, true, false, ◌==◌, List, [], ◌∷◌, ◌++◌, refl, length, arith, ap, sym, ◌∙◌, ◌+◌, ◌-◌, take, drop, get_or}
use Rattle.std.specs.List.{list_any}
use Rattle.std.proofs.lemmas.List.{length-append, take-append-drop, drop_more, length-drop, take_rest, take_all}
use Rattle.mps_lines.specs.Lines.{lines_of, with_byte, pieces, fields, is_separator}
use Rattle.std.proofs.lemmas.Bool.{true≢false}
use Rattle.mps_lines.proofs.Truths.{or_false}

-- a line up to a line feed stands before the lines of the rest
pub lines-cut : (x rest : List ℕ) → list_any (λ b. b == 10) x ≡ false → lines_of (x ++ 10 ∷ rest) ≡ x ∷ lines_of rest
lines-cut [] rest h = refl
lines-cut (b ∷ x) rest h =
    let p = or_false (b == 10) (list_any (λ c. c == 10) x) h in
    let e : (b == 10) ≡ false = p.0 in
    let more : lines_of (x ++ 10 ∷ rest) ≡ x ∷ lines_of rest = lines-cut x rest p.1 in
    rw (e, more)

-- bytes without a line feed are one line
pub lines-last : (b : ℕ) (x : List ℕ) → list_any (λ c. c == 10) (b ∷ x) ≡ false → lines_of (b ∷ x) ≡ (b ∷ x) ∷ []
lines-last b [] h =
    let p = or_false (b == 10) false h in
    let e : (b == 10) ≡ false = p.0 in
    rw e refl
lines-last b (c ∷ x) h =
    let p = or_false (b == 10) (list_any (λ d. d == 10) (c ∷ x)) h in
    let e : (b == 10) ≡ false = p.0 in
    let more : lines_of (c ∷ x) ≡ (c ∷ x) ∷ [] = lines-last c x p.1 in
    rw e (ap (with_byte b) more)

-- the same of the pieces between separators
pub pieces-cut : (x rest : List ℕ) (s : ℕ) → list_any is_separator x ≡ false → is_separator s ≡ true → pieces (x ++ s ∷ rest) ≡ x ∷ pieces rest
pieces-cut [] rest s h at = rw at refl
pieces-cut (b ∷ x) rest s h at =
    let p = or_false (is_separator b) (list_any is_separator x) h in
    let e : is_separator b ≡ false = p.0 in
    let more : pieces (x ++ s ∷ rest) ≡ x ∷ pieces rest = pieces-cut x rest s p.1 at in
    rw e (ap (with_byte b) more)

pub pieces-none : (x : List ℕ) → list_any is_separator x ≡ false → pieces x ≡ x ∷ []
pieces-none [] h = refl
pieces-none (b ∷ x) h =
    let p = or_false (is_separator b) (list_any is_separator x) h in
    let e : is_separator b ≡ false = p.0 in
    let more : pieces x ≡ x ∷ [] = pieces-none x p.1 in
    rw e (ap (with_byte b) more)

-- a piece that isn't empty is a field
pub fields-filled : (s x rest : List ℕ) → pieces s ≡ x ∷ pieces rest → (length x == 0) ≡ false → fields s ≡ x ∷ fields rest
fields-filled s x rest is filled = rw (is, filled) refl

-- and an empty one isn't
pub fields-empty : (s x rest : List ℕ) → pieces s ≡ x ∷ pieces rest → (length x == 0) ≡ true → fields s ≡ fields rest
fields-empty s x rest is empty = rw (is, empty) refl

-- the last piece
pub fields-last : (x : List ℕ) → pieces x ≡ x ∷ [] → (length x == 0) ≡ false → fields x ≡ x ∷ []
fields-last x is filled = rw (is, filled) refl

pub fields-none : (x : List ℕ) → pieces x ≡ x ∷ [] → (length x == 0) ≡ true → fields x ≡ []
fields-none x is empty = rw (is, empty) refl

-- what a line is, cut at the place of a separator
split_at : (line : List ℕ) (place : ℕ) → place < length line → line ≡ take place line ++ get_or line place 0 ∷ drop (place + 1) line
split_at line place within = sym (take-append-drop place line) ∙ ap (λ r. take place line ++ r) (drop_more line place 0 within)

-- the pieces of a line whose first separator is at a place
pub pieces-at : (line : List ℕ) (place : ℕ) → place < length line → list_any is_separator (take place line) ≡ false → is_separator (get_or line place 0) ≡ true → (pieces line ≡ take place line ∷ pieces (take (length line - (place + 1)) (drop (place + 1) line))) × (length (take (length line - (place + 1)) (drop (place + 1) line)) < length line)
pieces-at line place within before at =
    let long : length (drop (place + 1) line) ≡ length line - (place + 1) = length-drop (place + 1) line in
    let whole : take (length line - (place + 1)) (drop (place + 1) line) ≡ drop (place + 1) line = take_rest line (place + 1) in
    let cut : pieces line ≡ take place line ∷ pieces (drop (place + 1) line) =
    ap pieces (split_at line place within) ∙ pieces-cut (take place line) (drop (place + 1) line) (get_or line place 0) before at in
    rw whole (cut, omega (arith, long))

-- the line and the lines after it
pub lines-at : (bytes line rest : List ℕ) → (bytes ≡ line ++ 10 ∷ rest) × (list_any (λ b. b == 10) line ≡ false) → (lines_of bytes ≡ line ∷ lines_of rest) × (length rest < length bytes) × (length line ≤ length bytes)
lines-at bytes line rest (is, plain) =
    let long : length bytes ≡ length line + length (10 ∷ rest) = ap length is ∙ length-append line (10 ∷ rest) in
    (ap lines_of is ∙ lines-cut line rest plain, omega (arith, long), omega (arith, long))

pub lines-end : (bytes : List ℕ) → (length bytes == 0) ≡ false → list_any (λ b. b == 10) bytes ≡ false → (lines_of bytes ≡ bytes ∷ []) × (0 < length bytes) × (length bytes ≤ length bytes)
lines-end [] filled plain = absurd (true≢false filled)
lines-end (b ∷ bytes) filled plain = (lines-last b bytes plain, omega arith, omega arith)

-- a line whose test never came true
pub pieces-whole : (line : List ℕ) (place : ℕ) → length line ≤ place → list_any is_separator (take place line) ≡ false → pieces line ≡ line ∷ []
pieces-whole line place past before = pieces-none line (ap (list_any is_separator) (sym (take_all place line past)) ∙ before)
