-- The seats of a new board, one after the other, and the carriers that are put in for them.
use Rattle.std.proofs.Common.{◌≡◌, ℕ, zero, suc, ◌+◌, ◌<◌, List, [], ◌∷◌, ◌++◌, length, sym, refl, ap, ◌∙◌, subst, arith}
use Rattle.std.proofs.lemmas.List.{length-replicate}
use Rattle.clock_words.specs.Seats.{BoardView, IsSeat, SeatView, new_seat, new_seats}

abbrev pub SeatsFrom : BoardView → ℕ → ℕ → List SeatView → Type 0
SeatsFrom board slots first [] = first ≡ slots
SeatsFrom board slots first (s ∷ ss) = (s ≡ new_seat board first) × SeatsFrom board slots (first + 1) ss

-- the seats of a board's slots from one on
pub record AreSeatsFrom (board : BoardView) (slots first : ℕ) (seats : List SeatView) : Type 0 where
  pub from : SeatsFrom board slots first seats

one_more : (board : BoardView) (slots first : ℕ) (seats : List SeatView) → SeatsFrom board slots first seats →
    SeatsFrom board (slots + 1) first (seats ++ new_seat board slots ∷ [])
one_more board slots first [] from = (ap (new_seat board) (sym from), ap (λ n. n + 1) from)
one_more board slots first (s ∷ ss) from = (from.0, one_more board slots (first + 1) ss from.1)

all_from : (board : BoardView) (slots : ℕ) → SeatsFrom board slots 0 (new_seats board slots)
all_from board zero = refl
all_from board (suc slots) =
    let next : slots + 1 ≡ suc slots = omega arith in
    subst (λ n. SeatsFrom board n 0 (new_seats board (suc slots))) next
    (one_more board slots 0 (new_seats board slots) (all_from board slots))

pub new_from : (board : BoardView) (slots : ℕ) (seats : List SeatView) → seats ≡ new_seats board slots →
    AreSeatsFrom board slots 0 seats
new_from board slots seats are = record { from = subst (λ l. SeatsFrom board slots 0 l) (sym are) (all_from board slots) }

count_from : (board : BoardView) (slots first : ℕ) (seats : List SeatView) → SeatsFrom board slots first seats →
    first + length seats ≡ slots
count_from board slots first [] from = omega (arith, from)
count_from board slots first (s ∷ ss) from = omega (arith, count_from board slots (first + 1) ss from.1)

pub none_left : (board : BoardView) (slots first : ℕ) (seats : List SeatView) → AreSeatsFrom board slots first seats →
    seats ≡ [] → first ≡ slots
none_left board slots first seats are none = omega (arith, count_from board slots first seats are.from, ap length none)

pub new_is_seat : (board : BoardView) (slot : ℕ) → slot < board.shape.slots → IsSeat board (new_seat board slot)
new_is_seat board slot below = record {
  same = refl;
  own_slot = below;
  size = length-replicate board.shape.slots 0;
  looks_size = length-replicate board.shape.slots 0;
  fetched_size = length-replicate board.shape.slots 0;
}

-- a seat of a new board is one of the board's
pub seat_of_new : (board : BoardView) (seat : SeatView) → seat ≡ new_seat board seat.slot → seat.slot < board.shape.slots →
    IsSeat seat.board seat
seat_of_new board seat new below = subst (λ (s : SeatView). IsSeat s.board s) (sym new) (new_is_seat board seat.slot below)

at_first : (board : BoardView) (slots first : ℕ) (seats : List SeatView) (s : SeatView) (ss : List SeatView) →
    AreSeatsFrom board slots first seats → seats ≡ s ∷ ss → (s ≡ new_seat board first) × SeatsFrom board slots (first + 1) ss
at_first board slots first seats s ss are is = subst (λ l. SeatsFrom board slots first l) is are.from

-- the first one of seats from one on
pub first_slot : (board : BoardView) (slots first : ℕ) (seats : List SeatView) (s : SeatView) (ss : List SeatView) →
    AreSeatsFrom board slots first seats → seats ≡ s ∷ ss → s.slot ≡ first
first_slot board slots first seats s ss are is = ap (λ (x : SeatView). x.slot) (at_first board slots first seats s ss are is).0

pub first_new : (board : BoardView) (slots first : ℕ) (seats : List SeatView) (s : SeatView) (ss : List SeatView) →
    AreSeatsFrom board slots first seats → seats ≡ s ∷ ss → s ≡ new_seat board s.slot
first_new board slots first seats s ss are is = (at_first board slots first seats s ss are is).0
    ∙ ap (new_seat board) (sym (first_slot board slots first seats s ss are is))

pub first_within : (board : BoardView) (slots first : ℕ) (seats : List SeatView) (s : SeatView) (ss : List SeatView) →
    AreSeatsFrom board slots first seats → seats ≡ s ∷ ss → s.slot < slots
first_within board slots first seats s ss are is = omega (
  arith,
  first_slot board slots first seats s ss are is,
  count_from board slots first (s ∷ ss) (at_first board slots first seats s ss are is),
)

pub rest_from : (board : BoardView) (slots first : ℕ) (seats : List SeatView) (s : SeatView) (ss : List SeatView) →
    AreSeatsFrom board slots first seats → seats ≡ s ∷ ss → AreSeatsFrom board slots (first + 1) ss
rest_from board slots first seats s ss are is = record { from = (at_first board slots first seats s ss are is).1 }
