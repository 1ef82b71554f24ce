-- The carriers of a run in the order of their slots, and its board.
use Rattle.std.specs.Prelude.{ℕ, suc, ◌≡◌, List, [], ◌∷◌, length, ⊤}
use Rattle.clock_words.specs.Seats.{BoardView}
use Rattle.stamp_machine.specs.Limits.{AreLimits}
use Rattle.stamp_machine.specs.declared.limits.Limits.{Limits}
use Rattle.version_store.specs.Carriers.{CarrierView}
use Rattle.version_store.specs.Stories.{run_lists}
use Rattle.work_stamp.specs.Taskers.{Rules}

-- a board that shows the words of a run within limits
pub record IsRunBoard {V L : Type 0} (r : Rules V L) (limits : Limits) (board : BoardView) :
    Type 0 where
  pub ranges : AreLimits limits
  pub story : board.story ≡ run_lists r limits
  pub slots : board.shape.slots ≡ limits.slots

-- a carrier of a run on a board, which has this slot
pub record IsCarrierOf {T V L : Type 0} (board : BoardView) (tasker : T) (limits : Limits)
    (slot : ℕ) (c : CarrierView T V L) : Type 0 where
  pub tasker_is : c.tasker ≡ tasker
  pub limits_are : c.limits ≡ limits
  pub board_is : c.seat.board ≡ board
  pub slot_is : c.seat.slot ≡ slot

-- the same of carriers, whose slots are in their order from one on
abbrev pub AreFrom : {T V L : Type 0} → BoardView → T → Limits → ℕ → List (CarrierView T V L) →
    Type 0
AreFrom board tasker limits first [] = ⊤
AreFrom board tasker limits first (c ∷ cs) = IsCarrierOf board tasker limits first c
    × AreFrom board tasker limits (suc first) cs

-- the carriers of the first slots of a run, in the order of the slots
pub record AreFirst {T V L : Type 0} (board : BoardView) (tasker : T) (limits : Limits)
    (carriers : List (CarrierView T V L)) : Type 0 where
  pub each : AreFrom board tasker limits 0 carriers

-- the carriers of all slots
pub record AreCarriers {T V L : Type 0} (board : BoardView) (tasker : T) (limits : Limits)
    (carriers : List (CarrierView T V L)) : Type 0 where
  pub ranges : AreLimits limits
  pub first : AreFirst board tasker limits carriers
  pub number : length carriers ≡ limits.slots
