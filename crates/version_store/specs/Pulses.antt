-- The pulse of a carrier: it raises the own clock of a seat while a chunk runs.
use Rattle.std.specs.Prelude.{ℕ, ◌≡◌, ◌≤◌, ◌<◌, ◌+◌, ◌-◌, ◌^◌}
use Rattle.clock_words.specs.Seats.{BoardView, IsSeat, SeatView, own_list}
use Rattle.clock_words.specs.Stories.{due}
use Rattle.work_stamp.specs.Taskers.{Rules}

-- the clock after the move, and the seat
pub record PulseView : Type 0 where
  pub end : ℕ
  pub seat : SeatView

-- the pulse of a chunk that begins at this clock and this local, with a seat
abbrev pub pulse_view : {V L : Type 0} → Rules V L → ℕ → L → SeatView → PulseView
pulse_view r start local seat = record { end = start + (r.chunk local).gives.work; seat = seat }

-- all of a seat but its own clock
abbrev pub but_own : SeatView → SeatView
but_own seat = record seat { own = 0 }

-- how much work may still be told: what the own clock lacks of the clock after the move
abbrev pub allowance_of : PulseView → ℕ
allowance_of p = p.end - p.seat.own

-- what no call changes: the clock after the move, and all of the seat but its own clock, its board
-- among it
abbrev pub rest_of : PulseView → PulseView
rest_of p = record { end = p.end; seat = but_own p.seat }

-- A pulse that can hear of work: the own clock and the allowance add up to the clock after the move,
-- which a board can hold, and no word of the slot that is due below it is left to put.
pub record IsReadyPulse (p : PulseView) : Type 0 where
  pub adds_up : p.seat.own + allowance_of p ≡ p.end
  pub low : p.end < 2 ^ 41 - 1
  pub put : due (own_list p.seat) p.end ≤ p.seat.written

-- a seat of a board, whose own clock is this
pub record IsAtClock (board : BoardView) (clock : ℕ) (seat : SeatView) : Type 0 where
  pub ours : IsSeat board seat
  pub own : seat.own ≡ clock
