-- Bytes and the words that blanks part in them.
use Rattle.std.proofs.Common.{◌≡◌, ◌∙◌, ℕ, ◌<◌, ◌≤◌, ◌+◌, ◌-◌, Bool, true, false, ◌||◌, ◌==◌, List, [], ◌∷◌, ◌++◌, refl, length, take, drop, get_or, arith, ap, sym}
use Rattle.std.specs.List.{list_any}
use Rattle.std.proofs.lemmas.List.{take-append-drop, drop_more, length-drop, take_rest, take_all}
use Rattle.cert_line.specs.Words.{pieces, with_byte}

-- both sides of an `||` that fails fail
or_false : (p q : Bool) → (p || q) ≡ false → (p ≡ false) × (q ≡ false)
or_false true q h = cc
or_false false q h = (refl, h)

-- a word up to a blank stands before the words of the rest
pub pieces-cut : (x rest : List ℕ) → list_any (λ b. b == 32) x ≡ false → pieces (x ++ 32 ∷ rest) ≡ x ∷ pieces rest
pieces-cut [] rest h = refl
pieces-cut (b ∷ x) rest h =
    let p = or_false (b == 32) (list_any (λ c. c == 32) x) h in
    let e : (b == 32) ≡ false = p.0 in
    let more : pieces (x ++ 32 ∷ rest) ≡ x ∷ pieces rest = pieces-cut x rest p.1 in
    rw e (ap (with_byte b) more)

-- bytes without a blank are one word
pub pieces-none : (x : List ℕ) → list_any (λ b. b == 32) x ≡ false → pieces x ≡ x ∷ []
pieces-none [] h = refl
pieces-none (b ∷ x) h =
    let p = or_false (b == 32) (list_any (λ c. c == 32) x) h in
    let e : (b == 32) ≡ false = p.0 in
    let more : pieces x ≡ x ∷ [] = pieces-none x p.1 in
    rw e (ap (with_byte b) more)

-- bytes, cut at a place
split_at : (bytes : List ℕ) (place : ℕ) → place < length bytes → bytes ≡ take place bytes ++ get_or bytes place 0 ∷ drop (place + 1) bytes
split_at bytes place within = sym (take-append-drop place bytes) ∙ ap (λ r. take place bytes ++ r) (drop_more bytes place 0 within)

-- the words of bytes whose first blank is at a place
pub pieces-at : (bytes : List ℕ) (place : ℕ) → place < length bytes → list_any (λ b. b == 32) (take place bytes) ≡ false → get_or bytes place 0 ≡ 32
    → (pieces bytes ≡ take place bytes ∷ pieces (take (length bytes - (place + 1)) (drop (place + 1) bytes))) × (length (take (length bytes - (place + 1)) (drop (place + 1) bytes)) < length bytes)
pieces-at bytes place within before at =
    let long : length (drop (place + 1) bytes) ≡ length bytes - (place + 1) = length-drop (place + 1) bytes in
    let whole : take (length bytes - (place + 1)) (drop (place + 1) bytes) ≡ drop (place + 1) bytes = take_rest bytes (place + 1) in
    let cut : pieces bytes ≡ take place bytes ∷ pieces (drop (place + 1) bytes) =
    ap pieces (split_at bytes place within ∙ ap (λ b. take place bytes ++ b ∷ drop (place + 1) bytes) at) ∙ pieces-cut (take place bytes) (drop (place + 1) bytes) before in
    rw whole (cut, omega (arith, long))

-- the words of bytes without a blank up to their end
pub pieces-whole : (bytes : List ℕ) (place : ℕ) → length bytes ≤ place → list_any (λ b. b == 32) (take place bytes) ≡ false → pieces bytes ≡ bytes ∷ []
pieces-whole bytes place past before = pieces-none bytes (ap (list_any (λ b. b == 32)) (sym (take_all place bytes past)) ∙ before)
