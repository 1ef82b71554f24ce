-- Bytes that are written piece by piece.
use Rattle.std.proofs.Common.{◌≡◌, ◌∙◌, ℕ, List, [], ◌∷◌, ◌++◌, length, take, drop, Option, Some, None, length-append, length-drop, ◌-◌, refl, sym, ap, subst, arith, append_assoc, ◌+◌}
use Rattle.std.proofs.Math.Seq.{take-append_seam, take-length}
use Rattle.std.proofs.lemmas.List.{append-nil, take-append-drop}
use Rattle.std.specs.Io.KnownBytes.{Appends, Keeps}
use Rattle.xsearch_words.specs.Streams.{AppendsFront}

-- a front of the bytes was written, and the rest is left
pub record IsWritten (old new : Option (List ℕ)) (bytes rest : List ℕ) : Type 0 where
  pub front : List ℕ
  pub whole : bytes ≡ front ++ rest
  pub grows : Appends old new front

appends_none : (old : Option (List ℕ)) → Appends old old []
appends_none None = tt
appends_none (Some xs) = sym (append-nil xs)

appends_both : (a b c : Option (List ℕ)) (xs ys : List ℕ) → Appends a b xs → Appends b c ys → Appends a c (xs ++ ys)
appends_both None b c xs ys f g = tt
appends_both (Some a) None c xs ys f g = absurd f
appends_both (Some a) (Some b) None xs ys f g = absurd g
appends_both (Some a) (Some b) (Some c) xs ys f g = g ∙ (ap (λ (z : List ℕ). z ++ ys) f ∙ append_assoc a xs ys)

appends_kept : (a b c : Option (List ℕ)) (xs : List ℕ) → Appends a b xs → Keeps b c → Appends a c xs
appends_kept None b c xs f g = tt
appends_kept (Some a) None c xs f g = absurd f
appends_kept (Some a) (Some b) None xs f g = absurd g
appends_kept (Some a) (Some b) (Some c) xs f g = g ∙ f

-- nothing was written yet
pub first_written : (old : Option (List ℕ)) (bytes : List ℕ) → IsWritten old old bytes bytes
first_written old bytes = record { front = []; whole = refl; grows = appends_none old }

-- one more piece
pub next_written : (old mid new : Option (List ℕ)) (bytes rest : List ℕ) (n : ℕ) → IsWritten old mid bytes rest → Appends mid new (take n rest) → IsWritten old new bytes (drop n rest)
next_written old mid new bytes rest n w more = record {
  front = w.front ++ take n rest;
  whole = w.whole ∙ (ap (λ (z : List ℕ). w.front ++ z) (sym (take-append-drop n rest)) ∙ sym (append_assoc w.front (take n rest) (drop n rest)));
  grows = appends_both old mid new w.front (take n rest) w.grows more;
}

all_of_rest : (n : ℕ) (xs : List ℕ) → take (length xs - n) (drop n xs) ≡ drop n xs
all_of_rest n xs = ap (λ (k : ℕ). take k (drop n xs)) (sym (length-drop n xs)) ∙ take-length (drop n xs)

-- the same of a slice of what is left
pub next_piece : (old mid new : Option (List ℕ)) (bytes rest : List ℕ) (n : ℕ) → IsWritten old mid bytes rest → Appends mid new (take n rest) → IsWritten old new bytes (take (length rest - n) (drop n rest))
next_piece old mid new bytes rest n w more = subst (IsWritten old new bytes) (sym (all_of_rest n rest)) (next_written old mid new bytes rest n w more)

nothing : (xs : List ℕ) → length xs ≡ 0 → xs ≡ []
nothing [] h = refl
nothing (x ∷ xs) h = absurd (omega (arith, h))

-- where nothing is left, all is written
pub all_written : (old new : Option (List ℕ)) (bytes rest : List ℕ) → IsWritten old new bytes rest → length rest ≡ 0 → Appends old new bytes
all_written old new bytes rest w none =
    subst (λ (z : List ℕ). Appends old new z) (sym (w.whole ∙ (ap (λ (z : List ℕ). w.front ++ z) (nothing rest none) ∙ append-nil w.front))) w.grows

front_written : (old new : Option (List ℕ)) (bytes rest front : List ℕ) → bytes ≡ front ++ rest → Appends old new front → AppendsFront old new bytes
front_written old new bytes rest front whole grows = record {
  count = length front;
  within = let e : length bytes ≡ length front + length rest = ap length whole ∙ length-append front rest in omega (arith, e);
  grows = subst (λ (z : List ℕ). Appends old new z) (sym (ap (take (length front)) whole ∙ take-append_seam front rest)) grows;
}

-- after a write that failed
pub written_before_error : (old mid new : Option (List ℕ)) (bytes rest : List ℕ) → IsWritten old mid bytes rest → Keeps mid new → AppendsFront old new bytes
written_before_error old mid new bytes rest w same = front_written old new bytes rest w.front w.whole (appends_kept old mid new w.front w.grows same)

-- after a write that took no byte
pub written_before_none : (old mid new : Option (List ℕ)) (bytes rest : List ℕ) (n : ℕ) → IsWritten old mid bytes rest → Appends mid new (take n rest) → n ≡ 0 → AppendsFront old new bytes
written_before_none old mid new bytes rest n w some zero =
    let none : Appends mid new (take 0 rest) = subst (λ (i : ℕ). Appends mid new (take i rest)) zero some in
    front_written old new bytes rest w.front w.whole (subst (λ (z : List ℕ). Appends old new z) (append-nil w.front) (appends_both old mid new w.front [] w.grows none))
