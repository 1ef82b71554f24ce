-- What bytes are judged to be, and what lines give.
use Rattle.std.proofs.Common.{◌≡◌, ◌==◌, ℕ, ◌+◌, Bool, true, false, List, [], ◌∷◌, ◌++◌, Option, Some, None, if◌then◌else◌, refl, ap, sym, ◌∙◌}
use Rattle.std.proofs.lemmas.Bool.{eqb-true}
use Rattle.std.specs.List.{AllByRecursion}
use Rattle.cert_line.specs.Lines.{line_text, IsLine}
use Rattle.cert_line.specs.Readings.{reading_of}
use Rattle.cert_line.specs.declared.line.Line.{Line}
use Rattle.cert_line.specs.declared.line.LineReading.{LineReading}
use Rattle.cert_line.specs.declared.line.LineReading.TheVariants.{NoForm, BadNumber, Is}
use Rattle.cert_line.proofs.Exactly.{reading_is_exact, line_has_no_feed}
use Rattle.cert_text.specs.Certificates.{text_of}
use Rattle.cert_text.specs.Places.{is_over, next_place}
use Rattle.cert_text.specs.Readings.{pieces_of, with_byte, judge, or_refused, line_step, order_step, reading_step, with_line, end_reading}
use Rattle.cert_text.specs.declared.error.CertKind.TheVariants.{Short, Trailing}
use Rattle.cert_text.specs.declared.place.Place.{Place}
use Rattle.cert_text.specs.declared.place.Place.TheVariants.{Header, Size, Value, Point, Cuts, Cut, Node, End, Nothing}
use Rattle.cert_text.specs.declared.reader.Reading.TheVariants.{Read, RefusedAt}
use Rattle.cert_text.specs.declared.reader.Step.{Step}
use Rattle.cert_text.specs.declared.reader.Step.TheVariants.{Refuses, Leads}
use Rattle.tree_cert.specs.declared.certificate.Certificate.{Certificate}
use Rattle.cert_text.proofs.Truths.{by_case}
use Rattle.cert_text.proofs.Pieces.{pieces-cut, first_piece, judge_line}
use Rattle.cert_text.proofs.Runs.{run, run_on}

-- pieces with a line feed between each two
abbrev pub joined : List (List ℕ) → List ℕ
joined [] = []
joined (piece ∷ []) = piece
joined (line ∷ piece ∷ pieces) = line ++ (10 ∷ joined (piece ∷ pieces))

joined_byte : (b : ℕ) (piece : List ℕ) (pieces : List (List ℕ))
    → joined (with_byte b (piece ∷ pieces)) ≡ b ∷ joined (piece ∷ pieces)
joined_byte b piece [] = refl
joined_byte b piece (other ∷ pieces) = refl

-- the pieces of a text make it
pub joined_pieces : (bytes : List ℕ) → joined (pieces_of bytes) ≡ bytes
joined_pieces [] = refl
joined_pieces (b ∷ bs) =
    let (piece, pieces, is) = first_piece bs in
    let more : joined (pieces_of bs) ≡ bs = joined_pieces bs in
    by_case (b == 10) (joined (pieces_of (b ∷ bs)) ≡ b ∷ bs)
    (λ e. feed_first b bs piece pieces e is more)
    (λ e. byte_first b bs piece pieces e is more)
  where
    feed_first : (b : ℕ) (bs piece : List ℕ) (pieces : List (List ℕ)) → (b == 10) ≡ true
        → pieces_of bs ≡ piece ∷ pieces → joined (pieces_of bs) ≡ bs → joined (pieces_of (b ∷ bs)) ≡ b ∷ bs
    feed_first b bs piece pieces e is more =
        rw (e, is) (ap (λ x. 10 ∷ x) (sym (ap joined is) ∙ more) ∙ ap (λ x. x ∷ bs) (sym (eqb-true b 10 e)))

    byte_first : (b : ℕ) (bs piece : List ℕ) (pieces : List (List ℕ)) → (b == 10) ≡ false
        → pieces_of bs ≡ piece ∷ pieces → joined (pieces_of bs) ≡ bs → joined (pieces_of (b ∷ bs)) ≡ b ∷ bs
    byte_first b bs piece pieces e is more =
        rw (e, is) (joined_byte b piece pieces ∙ ap (λ x. b ∷ x) (sym (ap joined is) ∙ more))

-- where a line leads on, lines may come
not_over : (place next : Place) (line : Line) → next_place place line ≡ Some next → is_over place ≡ false
not_over Header next line h = refl
not_over Size next line h = refl
not_over Value next line h = refl
not_over Point next line h = refl
not_over Cuts next line h = refl
not_over (Cut left) next line h = refl
not_over (Node left due) next line h = refl
not_over End next line h = refl
not_over Nothing next line h = cc

-- the text of a line leads where the line leads
text_leads : (place next : Place) (line : Line) → reading_of (line_text line) ≡ Is line
    → next_place place line ≡ Some next → line_step place (line_text line) ≡ Leads line next
text_leads place next line is leads = rw (not_over place next line leads, is, leads) refl

-- the end of the text, where no line may come
end_judged : (over : Bool) (n : ℕ) (c d : Certificate) → (if over then Some c else None) ≡ Some d
    → (if over then end_reading n c [] else RefusedAt n Short) ≡ Read d
end_judged true n c d h = cc
end_judged false n c d h = cc

-- lines that give a certificate are read as it
pub lines_judged : (ls : List Line) (n : ℕ) (place : Place) (c d : Certificate) → AllByRecursion IsLine ls
    → run place c ls ≡ Some d → judge n place c (pieces_of (text_of ls)) ≡ Read d
lines_judged [] n place c d are h = end_judged (is_over place) n c d h
lines_judged (line ∷ ls) n place c d (is, are) h =
    led (next_place place line) refl (λ next. lines_judged ls (n + 1) next (with_line c line) d are)
  where
    led : (o : Option Place) → next_place place line ≡ o
        → ((next : Place) → run next (with_line c line) ls ≡ Some d
        → judge (n + 1) next (with_line c line) (pieces_of (text_of ls)) ≡ Read d)
        → judge n place c (pieces_of (text_of (line ∷ ls))) ≡ Read d
    led None e more = let x : None ≡ Some d =
        sym (ap (λ p. run_on p (λ next. run next (with_line c line) ls)) e) ∙ h in cc
    led (Some next) e more =
        let here : run next (with_line c line) ls ≡ Some d =
        sym (ap (λ p. run_on p (λ q. run q (with_line c line) ls)) e) ∙ h in
        let step : line_step place (line_text line) ≡ Leads line next =
        text_leads place next line ((reading_is_exact (line_text line) line).1 (refl, is)) e in
        ap (judge n place c) (pieces-cut (line_text line) (text_of ls) (line_has_no_feed line is))
        ∙ judge_line n place c (line_text line) (text_of ls)
        ∙ ap (λ s. or_refused n s (λ l q. judge (n + 1) q (with_line c l) (pieces_of (text_of ls)))) step
        ∙ more next here

-- the line and the next place that a step tells of
led_order : (line l : Line) (o : Option Place) (next : Place) → order_step line o ≡ Leads l next
    → (line ≡ l) × (o ≡ Some next)
led_order line l None next h = cc
led_order line l (Some q) next h = (cc, cc)

led_reading : (place next : Place) (l : Line) (r : LineReading) → reading_step place r ≡ Leads l next
    → (r ≡ Is l) × (next_place place l ≡ Some next)
led_reading place next l NoForm h = cc
led_reading place next l BadNumber h = cc
led_reading place next l (Is line) h =
    let (same, leads) = led_order line l (next_place place line) next h in
    (ap Is same, sym (ap (next_place place) same) ∙ leads)

led_over : (over : Bool) (s : Step) (l : Line) (next : Place)
    → (if over then Refuses Trailing else s) ≡ Leads l next → s ≡ Leads l next
led_over true s l next h = cc
led_over false s l next h = h

led_line : (place next : Place) (bytes : List ℕ) (l : Line)
    → line_step place bytes ≡ Leads l next
    → (bytes ≡ line_text l) × IsLine l × (next_place place l ≡ Some next)
led_line place next bytes l h =
    let (is, leads) = led_reading place next l (reading_of bytes) (led_over (is_over place) _ l next h) in
    let (text, ranges) = (reading_is_exact bytes l).0 is in
    (text, ranges, leads)

-- the end of a text that is read
end_read : (over : Bool) (n : ℕ) (c d : Certificate) (last : List ℕ)
    → (if over then end_reading n c last else RefusedAt n Short) ≡ Read d
    → (last ≡ []) × ((if over then Some c else None) ≡ Some d)
end_read true n c d [] h = (refl, cc)
end_read true n c d (b ∷ bs) h = cc
end_read false n c d last h = cc

-- what is read as a certificate is the text of lines that give it
abbrev pub AreGiven : Place → Certificate → List (List ℕ) → Certificate → Type 0
AreGiven place c pieces d = (ls : List Line) × AllByRecursion IsLine ls × (joined pieces ≡ text_of ls)
    × (run place c ls ≡ Some d)

step_read : (n : ℕ) (place : Place) (c d : Certificate) (bytes piece : List ℕ) (pieces : List (List ℕ)) (s : Step)
    → line_step place bytes ≡ s
    → or_refused n s (λ l next. judge (n + 1) next (with_line c l) (piece ∷ pieces)) ≡ Read d
    → ((next : Place) (l : Line) → judge (n + 1) next (with_line c l) (piece ∷ pieces) ≡ Read d
    → AreGiven next (with_line c l) (piece ∷ pieces) d)
    → AreGiven place c (bytes ∷ piece ∷ pieces) d
step_read n place c d bytes piece pieces (Refuses kind) e h more = cc
step_read n place c d bytes piece pieces (Leads l next) e h more =
    let (text, ranges, leads) = led_line place next bytes l e in
    let (ls, are, is, follows) = more next l h in
    (l ∷ ls, (ranges, are), rw (text, is) refl, ap (λ p. run_on p (λ q. run q (with_line c l) ls)) leads ∙ follows)

pub lines_read : (pieces : List (List ℕ)) (n : ℕ) (place : Place) (c d : Certificate)
    → judge n place c pieces ≡ Read d → AreGiven place c pieces d
lines_read [] n place c d h = cc
lines_read (last ∷ []) n place c d h =
    let (nothing, same) = end_read (is_over place) n c d last h in
    ([], tt, nothing, same)
lines_read (line ∷ piece ∷ pieces) n place c d h =
    step_read n place c d line piece pieces (line_step place line) refl h (λ next l. lines_read
    (piece ∷ pieces) (n + 1) next (with_line c l) d)
