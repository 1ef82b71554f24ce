-- What a worker leaves may go to another thread, and several threads may see a crew.
use denote.RattleType.{RattleType}
use Rattle.std.proofs.Common.{[], ◌∷◌}
use denote.Exit.{no}
use denote.Param.{arg, param}
use denote.Param.Send.{IsSend, IsSync, arg_send, param_send, recorded_sync, sendable, struct_sync}
use denote.Ref.{NamedLft, ShrRef}
use denote.Struct.Tuple.{TupleAt}
use mir.Syntax.{Sym, Ty}
use denote.Struct.Declared.{shape}
use Rattle.atomic_table.proofs.shared.Seat.TheSendSync.{the_send as seat_send}
use Rattle.clock_words.proofs.board.Board.TheSendSync.{the_sync as board_sync}
use Rattle.crossbeam_queue.proofs.array_queue.Slotted.TheSendSync.{the_sync as queue_sync}
use Rattle.stamp_machine.proofs.limits.Limits.TheSendSync.{the_sync as limits_sync}
use Rattle.std.proofs.sync.atomic.AtomicU64.TheSendSync.{the_sync as number_sync}
use Rattle.std.proofs.alloc.Global.TheSendSync.{the_send as allocator_send, the_sync as global_sync}
use Rattle.std.specs.contracts.alloc.Global.{the_row as global_row}
use Rattle.std.below.std_heap.proofs.GlobalAllocator.TheSendSync.{the_frees as global_frees}
use Rattle.std.proofs.vec.Vec.TheSendSync.{the_send as vec_send}
use Rattle.atomic_table.specs.contracts.shared.Seat.{the_row as pass_row}
use Rattle.crossbeam_queue.specs.contracts.array_queue.Doing.{the_row as doing_row}
use Rattle.std.specs.contracts.option.Option.{the_row as option_row}
use Rattle.task_crew.specs.contracts.hand.Hand.{the_row as hand_row}
use Rattle.task_crew.specs.contracts.hand.Run.{the_row as run_row}
use Rattle.std.specs.contracts.snapshot.Snapshot.{the_row as snapshot_row}
use Rattle.version_store.proofs.playing.Parts.TheSendSync.{the_send as parts_send}
use Rattle.version_store.proofs.story.RunStory.TheSendSync.{the_sync as story_sync}
use Rattle.version_store.specs.contracts.carrier.Carrier.{the_row as carrier_row}
use Rattle.work_stamp.specs.declared.tasker.Tasker.{Ghosts}
use Rattle.task_crew.specs.contracts.item.QueueItem.{the_row as item_row}
use Rattle.task_crew.proofs.item.Awaited.TheSendSync.{the_send as awaited_send}
use Rattle.task_crew.specs.contracts.worker.Crew.{the_field as crew_field, the_row as crew_row, the_type as crew_type}
use Rattle.task_crew.specs.contracts.worker.End.{the_row as end_row}
use Rattle.task_crew.proofs.worker.End.TheSendSync.{the_send as end_send}
use Rattle.task_crew.specs.contracts.worker.Worker.{the_row as worker_row}

-- a snapshot has no bytes and owns nothing
snapshot_send : (T : RattleType) → IsSend (snapshot_row T)
snapshot_send T = record {
  owned = λ d vs. ((λ vss. (tt, ((λ uss. (tt, tt)), tt))), tt);
  leaving = λ k f vs. tt;
}

abbrev pub global_send : IsSend global_row
global_send = allocator_send

module _ (T V L : RattleType) (g : Ghosts T.Denot V.Denot L.Denot) where
  pub carrier_send : IsSend V → IsSend L → IsSend (carrier_row T V L g)
  carrier_send v l = search (sendable, snapshot_send, parts_send) depth 20

  item_send : IsSend V → IsSend L → IsSend (item_row T V L g)
  item_send v l = search (sendable, carrier_send, awaited_send) depth 30

  pub pass_send : IsSend V → IsSend L → IsSend (pass_row (option_row (item_row T V L g))
      (doing_row (item_row T V L g) (hand_row (run_row T))))
  pass_send v l = search (sendable, item_send, seat_send) depth 30

  pub worker_send : IsSend V → IsSend L → IsSend (worker_row T V L g)
  worker_send v l = search (sendable, carrier_send, item_send, pass_send, vec_send, global_send, global_frees) depth 30

  -- what a thread of a worker gives back
  abbrev pub given_row : Sym → RattleType
  given_row name = TupleAt name (worker_row T V L g ∷ end_row ∷ [])

  pub given_send : (name : Sym) (layout : Ty) → IsSend V → IsSend L →
      IsSend (param 3 (arg layout no (given_row name)))
  given_send name layout v l = param_send 3 (arg layout no (given_row name))
      (arg_send layout no (given_row name) (search (sendable, worker_send, end_send) depth 30))

pub crew_sync : (a t : NamedLft) (T G V L : RattleType) (g : Ghosts T.Denot V.Denot L.Denot) → IsSync T →
    IsSync G → IsSend V → IsSend L → IsSync (crew_row a t T G V L g)
crew_sync a t T G V L g tasker gate v l =
    recorded_sync (crew_field a t T G V L g).row _ _ (crew_type a t T G V L g).to_one
    (struct_sync (shape (crew_type a t T G V L g)) (
      search (sendable, board_sync, story_sync) depth 30,
      (
        search sendable depth 30,
        (
          search (sendable, limits_sync) depth 30,
          (
            search sendable depth 30,
            (
              search (sendable, queue_sync, item_send, global_send, global_sync, global_frees) depth 30,
              (search sendable depth 30, (search (sendable, number_sync) depth 30, tt)),
            ),
          ),
        ),
      ),
    ))

-- what a thread of a worker takes with it
module _ (T G R V L : RattleType) (g : Ghosts T.Denot V.Denot L.Denot) (a t k l : NamedLft) where
  abbrev pub taken_row : Sym → RattleType
  taken_row name = TupleAt name (ShrRef k.mir k.lft R ∷ global_row
      ∷ ShrRef l.mir l.lft (crew_row a t T G V L g) ∷ pass_row (option_row (item_row T V L g))
      (doing_row (item_row T V L g) (hand_row (run_row T))) ∷ [])

  pub taken_send : (name : Sym) (layout : Ty) → IsSync T → IsSync G → IsSync R → IsSend V → IsSend L →
      IsSend (param 1 (arg layout no (taken_row name)))
  taken_send name layout tasker gate runtime v w = param_send 1 (arg layout no (taken_row name))
      (arg_send layout no (taken_row name) (search (sendable, crew_sync, pass_send, global_send) depth 30))
