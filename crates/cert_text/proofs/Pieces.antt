use Rattle.std.proofs.Common.{◌≡◌, ℕ, ◌<◌, ◌≤◌, false, ◌==◌, List, [], ◌∷◌, ◌++◌, refl, length, arith, ap, sym, ◌∙◌, ◌+◌, ◌-◌, take, drop, get_or}
use Rattle.std.specs.List.{list_any}
use Rattle.std.proofs.lemmas.List.{take-append-drop, drop_more, length-drop, length-take-le, take_rest, take_all}
use Rattle.cert_text.specs.Readings.{pieces_of, with_byte, judge, or_refused, line_step, with_line}
use Rattle.cert_text.specs.declared.error.CertKind.{CertKind}
use Rattle.cert_text.specs.declared.reader.Reading.{Reading}
use Rattle.cert_text.specs.declared.reader.Reading.TheVariants.{RefusedAt}
use Rattle.cert_text.specs.declared.reader.Step.TheVariants.{Refuses, Leads}
use Rattle.cert_line.specs.declared.line.Line.{Line}
use Rattle.cert_text.specs.declared.place.Place.{Place}
use Rattle.tree_cert.specs.declared.certificate.Certificate.{Certificate}
use Rattle.cert_text.proofs.Truths.{or_false, by_case}

-- a line up to its line feed is the first piece, before the pieces of the rest
pub pieces-cut : (x rest : List ℕ) → list_any (λ b. b == 10) x ≡ false
    → pieces_of (x ++ 10 ∷ rest) ≡ x ∷ pieces_of rest
pieces-cut [] rest h = refl
pieces-cut (b ∷ x) rest h =
    let p = or_false (b == 10) (list_any (λ c. c == 10) x) h in
    let e : (b == 10) ≡ false = p.0 in
    let more : pieces_of (x ++ 10 ∷ rest) ≡ x ∷ pieces_of rest = pieces-cut x rest p.1 in
    rw e (ap (with_byte b) more)

-- bytes without a line feed are one piece
pieces-none : (x : List ℕ) → list_any (λ b. b == 10) x ≡ false → pieces_of x ≡ x ∷ []
pieces-none [] h = refl
pieces-none (b ∷ x) h =
    let p = or_false (b == 10) (list_any (λ c. c == 10) x) h in
    let e : (b == 10) ≡ false = p.0 in
    let more : pieces_of x ≡ x ∷ [] = pieces-none x p.1 in
    rw e (ap (with_byte b) more)

-- what bytes are, cut at the place of a line feed
split_at : (bytes : List ℕ) (place : ℕ) → place < length bytes → get_or bytes place 0 ≡ 10
    → bytes ≡ take place bytes ++ 10 ∷ drop (place + 1) bytes
split_at bytes place within at = sym (take-append-drop place bytes)
    ∙ ap (λ r. take place bytes ++ r) (drop_more bytes place 0 within ∙ ap (λ b. b ∷ drop (place + 1) bytes) at)

-- the pieces of bytes whose first line feed is at a place
pub pieces-at : (bytes : List ℕ) (place : ℕ) → place < length bytes
    → list_any (λ b. b == 10) (take place bytes) ≡ false → get_or bytes place 0 ≡ 10
    → (pieces_of bytes
    ≡ take place bytes ∷ pieces_of (take (length bytes - (place + 1)) (drop (place + 1) bytes))) × (length (take
    place bytes) + length (take (length bytes - (place + 1)) (drop (place + 1) bytes)) < length bytes)
pieces-at bytes place within before at =
    let long : length (drop (place + 1) bytes) ≡ length bytes - (place + 1) = length-drop (place + 1) bytes in
    let front : length (take place bytes) ≡ place = length-take-le place bytes (omega arith) in
    let whole : take (length bytes - (place + 1)) (drop (place + 1) bytes) ≡ drop (place + 1) bytes =
    take_rest bytes (place + 1) in
    let cut : pieces_of bytes ≡ take place bytes ∷ pieces_of (drop (place + 1) bytes) =
    ap pieces_of (split_at bytes place within at) ∙ pieces-cut (take place bytes) (drop (place + 1) bytes) before in
    rw whole (cut, omega (arith, long, front))

-- bytes whose test never came true
pub pieces-whole : (bytes : List ℕ) (place : ℕ) → length bytes ≤ place
    → list_any (λ b. b == 10) (take place bytes) ≡ false → pieces_of bytes ≡ bytes ∷ []
pieces-whole bytes place past before =
    pieces-none bytes (ap (list_any (λ b. b == 10)) (sym (take_all place bytes past)) ∙ before)

-- a text has a first piece
pub first_piece : (bytes : List ℕ) → (piece : List ℕ) × (pieces : List (List ℕ)) × (pieces_of bytes ≡ piece ∷ pieces)
first_piece [] = ([], [], refl)
first_piece (b ∷ bs) =
    let (piece, pieces, is) = first_piece bs in
    by_case (b == 10) _ (λ e. ([], pieces_of bs, rw e refl)) (λ e. (b ∷ piece, pieces, rw (e, is) refl))

-- a line before other pieces leads on, or is refused
pub judge_line : (n : ℕ) (p : Place) (c : Certificate) (line rest : List ℕ)
    → judge n p c (line ∷ pieces_of rest)
    ≡ or_refused n (line_step p line) (λ l next. judge (n + 1) next (with_line c l) (pieces_of rest))
judge_line n p c line rest =
    let (piece, pieces, is) = first_piece rest in
    rw is refl

-- a line that is refused ends the reading
pub line_refused : (n : ℕ) (p : Place) (c : Certificate) (line after bytes : List ℕ) (kind : CertKind) (r : Reading)
    → pieces_of bytes ≡ line ∷ pieces_of after → line_step p line ≡ Refuses kind
    → judge n p c (pieces_of bytes) ≡ r → RefusedAt n kind ≡ r
line_refused n p c line after bytes kind r cut is reads =
    sym (ap (λ s. or_refused n s (λ l next. judge (n + 1) next (with_line c l) (pieces_of after))) is)
    ∙ sym (judge_line n p c line after) ∙ sym (ap (judge n p c) cut) ∙ reads

-- a line that leads on leaves the reading to what follows
pub line_leads : (n : ℕ) (p next : Place) (c : Certificate) (line after bytes : List ℕ) (l : Line) (r : Reading)
    → pieces_of bytes ≡ line ∷ pieces_of after → line_step p line ≡ Leads l next
    → judge n p c (pieces_of bytes) ≡ r → judge (n + 1) next (with_line c l) (pieces_of after) ≡ r
line_leads n p next c line after bytes l r cut is reads =
    sym (ap (λ s. or_refused n s (λ k q. judge (n + 1) q (with_line c k) (pieces_of after))) is)
    ∙ sym (judge_line n p c line after) ∙ sym (ap (judge n p c) cut) ∙ reads
