-- A pulse may raise the own clock of its seat by the work that it is told of.
use Rattle.std.proofs.Common.{ℕ, ◌≡◌, ◌≤◌, ◌+◌, ◌-◌, arith}
use Rattle.clock_words.specs.Seats.{SeatView, own_list}
use Rattle.clock_words.specs.Stories.{due}
use Rattle.clock_words.proofs.DueWords.{due_words_rise}

-- no word is left to put that is due below a clock which the allowance reaches
pub put_within_allowance : (seat : SeatView) (end clock work : ℕ) → seat.own ≡ clock →
    seat.own + (end - seat.own) ≡ end → work ≤ end - seat.own →
    due (own_list seat) end ≤ seat.written → due (own_list seat) (clock + work) ≤ seat.written
put_within_allowance seat end clock work own adds_up allowed put =
    let rise = due_words_rise (own_list seat) (clock + work) end (omega arith) in omega arith
