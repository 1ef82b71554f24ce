-- The queue's rule for the carriers of a run, and what a worker keeps.
use Rattle.std.specs.Prelude.{ℕ, ◌+◌, ◌-◌, ◌^◌, ◌≡◌, ◌<◌, ◌≤◌, if◌then◌else◌, min, nat_lt, Bool, true, false, List, [], ◌∷◌, ◌++◌, length, map, Some, ⊤}
use Rattle.clock_words.specs.Seats.{BoardView}
use Rattle.stamp_machine.specs.Limits.{AreLimits}
use Rattle.stamp_machine.specs.declared.limits.Limits.{Limits}
use Rattle.stamp_machine.specs.Orders.{Each}
use Rattle.version_store.specs.Advances.{has_ended, lives}
use Rattle.version_store.specs.Carriers.{CarrierView}
use Rattle.version_store.specs.declared.advance.Advance.{Advance}
use Rattle.version_store.specs.declared.advance.Advance.TheVariants.{Moved, Blocked, Ended}
use Rattle.version_store.specs.Gathers.{IsAtEnd}
use Rattle.version_store.specs.Stories.{run_lists}
use Rattle.work_stamp.specs.Taskers.{Rules}
use Rattle.task_crew.specs.Hands.{AreAll, AreFew, AreOnce, Enters, Leaves, Returns, once_below, times}
use Rattle.task_crew.specs.declared.hand.Hand.{Hand}
use Rattle.task_crew.specs.declared.worker.After.{After}
use Rattle.task_crew.specs.declared.worker.After.TheVariants.{Goes, Waits, Over, Halted, Broken}
use Rattle.task_crew.specs.declared.worker.End.{End}
use Rattle.task_crew.specs.declared.worker.End.TheVariants.{Empty, Stopped}
use Rattle.task_crew.specs.declared.worker.Next.{Next}
use Rattle.task_crew.specs.declared.worker.Next.TheVariants.{Served, Idle, Ends}

-- the run of a crew: the plain data of its tasker, its limits, and its board
pub record RunView (T : Type 0) : Type 0 where
  pub tasker : T
  pub limits : Limits
  pub board : BoardView

-- a board that shows the words of a run within limits, and a queue with room for all carriers
pub record IsCrew {V L : Type 0} (r : Rules V L) (limits : Limits) (board : BoardView)
    (capacity : ℕ) : Type 0 where
  pub ranges : AreLimits limits
  pub story : board.story ≡ run_lists r limits
  pub slots : board.shape.slots ≡ limits.slots
  pub room : capacity ≡ limits.slots

-- each slot of the run is once with the pass, where it has all parts
pub record HoldsAll {R : Type 0} (v : Hand R) : Type 0 where
  pub each : v.parts ≡ 1024 → (slot : ℕ) → times slot v.holds ≡ once_below v.count slot
  pub size : v.parts ≡ 1024 → length v.holds ≡ v.count

-- the clock that the next move of a slot at a clock waits for another slot to reach: a smaller slot
-- moves first at the same clock. It is at most the greatest number of 64 bits
abbrev pub clock_awaited : ℕ → ℕ → ℕ → ℕ
clock_awaited number clock slot = if nat_lt slot number then min (clock + 1) (2 ^ 64 - 1) else clock

-- what holds where the queue was found empty
abbrev pub WhenEmpty : End → Type 0 → Type 0
WhenEmpty Empty P = P
WhenEmpty Stopped P = ⊤

-- what holds where a worker returns that found the queue empty
abbrev pub WhenOver : Next → Type 0 → Type 0
WhenOver Served P = ⊤
WhenOver Idle P = ⊤
WhenOver (Ends end) P = WhenEmpty end P

-- what holds where a worker goes on
abbrev pub WhenGoesOn : Next → Type 0 → Type 0
WhenGoesOn Served P = P
WhenGoesOn Idle P = P
WhenGoesOn (Ends end) P = ⊤

-- why two workers return, whose carriers were kept together or not
abbrev pub end_of : Bool → End → End → End
end_of false one other = Stopped
end_of true Empty other = other
end_of true Stopped other = Stopped

module _ {T : Type 0} where
  -- the run of a tasker within limits on a board
  abbrev pub run_on : T → Limits → BoardView → RunView T
  run_on tasker limits board = record { tasker = tasker; limits = limits; board = board }

  -- a pass of a worker: it has a part of the right to know the whole, and knows the run
  pub record IsWorker (run : RunView T) (v : Hand (RunView T)) : Type 0 where
    pub part : 0 < v.parts
    pub same : v.run ≡ Some run
    pub count : v.count ≡ run.limits.slots

module _ {T V L : Type 0} where
  abbrev pub run_of : CarrierView T V L → RunView T
  run_of c = run_on c.tasker c.limits c.seat.board

  abbrev pub slot_of : CarrierView T V L → ℕ
  slot_of c = c.seat.slot

  -- what a move leaves of a carrier, by what it says
  abbrev pub IsAfterMove : Advance → CarrierView T V L → Type 0
  IsAfterMove Moved c = lives c ≡ true
  IsAfterMove (Blocked slot clock) c = lives c ≡ true
  IsAfterMove Ended c = has_ended c ≡ true

  -- what a turn leaves, by what it says
  abbrev pub IsAfterTurn : After → CarrierView T V L → Type 0
  IsAfterTurn Goes c = lives c ≡ true
  IsAfterTurn (Waits awaited) c = lives c ≡ true
  IsAfterTurn Over c = has_ended c ≡ true
  IsAfterTurn Halted c = (lives c ≡ true) × (c.seat.stop ≡ true)
  IsAfterTurn Broken c = c.seat.stop ≡ true

  -- the carrier has moves to make
  abbrev pub Lives : CarrierView T V L → Type 0
  Lives c = lives c ≡ true

  abbrev pub AreKept : List (CarrierView T V L) → List (Hand (RunView T)) → Type 0
  AreKept = AreOnce slot_of run_of Lives

  abbrev pub HasEntered : Hand (RunView T) → CarrierView T V L → Hand (RunView T) → Type 0
  HasEntered = Enters slot_of run_of Lives

  abbrev pub HasLeft : Hand (RunView T) → CarrierView T V L → Hand (RunView T) → Type 0
  HasLeft = Leaves slot_of run_of Lives

  abbrev pub HasReturned : Hand (RunView T) → CarrierView T V L → Hand (RunView T) → Type 0
  HasReturned = Returns slot_of run_of Lives

  abbrev pub HasRoom : Hand (RunView T) → List (CarrierView T V L) → Type 0
  HasRoom = AreFew slot_of run_of Lives

  abbrev pub HasAll : Hand (RunView T) → List (CarrierView T V L) → Type 0
  HasAll = AreAll slot_of run_of Lives

  -- these are the carriers of these slots, in some order
  pub record AreHeld (slots : List ℕ) (carriers : List (CarrierView T V L)) : Type 0 where
    pub each : (slot : ℕ) → times slot slots ≡ times slot (map slot_of carriers)
    pub size : length slots ≡ length carriers

  -- a carrier of the run that has moves to make
  pub record IsLiving (run : RunView T) (c : CarrierView T V L) : Type 0 where
    pub of_run : run_of c ≡ run
    pub lives : lives c ≡ true

  -- carriers of the run, each of which stands at its slot's end
  abbrev pub AreOver : RunView T → List (CarrierView T V L) → Type 0
  AreOver run kept = Each (IsAtEnd run.board run.tasker run.limits) kept

  -- what a worker keeps: the carriers of the slots that its pass holds, all of which are over
  pub record IsOverAll (run : RunView T) (v : Hand (RunView T)) (kept : List (CarrierView T V L)) :
      Type 0 where
    pub held : AreHeld v.holds kept
    pub over : AreOver run kept

  -- a worker holds the carriers of its pass: it keeps some, which are over, and others wait with it.
  -- Where one waits, it holds no more than the run has
  pub record IsAtWork (run : RunView T) (v : Hand (RunView T))
      (kept waiting : List (CarrierView T V L)) : Type 0 where
    pub worker : IsWorker run v
    pub held : AreHeld v.holds (kept ++ waiting)
    pub over : AreOver run kept
    pub living : Each (IsLiving run) waiting
    pub few : 0 < length waiting → length v.holds ≤ v.count

  -- the same of a worker that serves one more carrier
  pub record IsServing (run : RunView T) (v : Hand (RunView T))
      (kept waiting : List (CarrierView T V L)) (c : CarrierView T V L) : Type 0 where
    pub worker : IsWorker run v
    pub held : AreHeld v.holds (c ∷ (kept ++ waiting))
    pub over : AreOver run kept
    pub living : Each (IsLiving run) waiting
    pub served : IsLiving run c
    pub few : length v.holds ≤ v.count

  -- a crew and a pass of a worker that keeps nothing
  pub record CanWork (r : Rules V L) (run : RunView T) (capacity : ℕ) (v : Hand (RunView T)) :
      Type 0 where
    pub crew : IsCrew r run.limits run.board capacity
    pub worker : IsWorker run v
    pub none : v.holds ≡ []

  -- what a worker leaves whose pass had so many parts
  pub record HasWorked (run : RunView T) (count : ℕ) (v : Hand (RunView T))
      (kept : List (CarrierView T V L)) (end : End) : Type 0 where
    pub worker : IsWorker run v
    pub parts : v.parts ≡ count
    pub over : WhenEmpty end (IsOverAll run v kept)
