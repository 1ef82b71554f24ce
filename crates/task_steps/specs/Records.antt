-- What the records of a history are worth. The settings of a search change nothing in these views.
use Rattle.std.specs.Prelude.{ℕ, ◌≡◌, ◌≤◌, ◌^◌, List, ◌++◌, length, Some}
use Rattle.ip_core.specs.declared.leaf.Record.{Record}
use Rattle.ip_core.specs.declared.model.ModelParts.{ModelParts}
use Rattle.search_truth.specs.Search.{cutoff_of}
use Rattle.work_stamp.specs.Histories.{keyed_entry}
use Rattle.work_stamp.specs.declared.entry.Entry.TheVariants.{Closed}
use Rattle.work_stamp.specs.declared.key.Key.{Key}
use Rattle.work_stamp.specs.declared.stamped.KeyedEntry.{KeyedEntry}
use Rattle.stamp_machine.specs.Machine.{history}
use Rattle.stamp_machine.specs.Records.{records_of}
use Rattle.stamp_machine.specs.Slots.{at}
use Rattle.stamp_machine.specs.declared.limits.Limits.{Limits}
use Rattle.leaf_truth.specs.Leaves.{IsValidLeaf}
use Rattle.node_pool.specs.Branchings.{box_of}
use Rattle.node_pool.specs.Follows.{IsHeld}
use Rattle.node_pool.specs.Views.{view_of}
use Rattle.node_pool.specs.declared.settings.SearchSettings.{SearchSettings}
use Rattle.task_steps.specs.Answers.{best_found, splits_alone}
use Rattle.task_steps.specs.Rules.{rules}
use Rattle.task_steps.specs.Sound.{best_point}

-- A front of the history held the node of this name, and the box that the splits on the node's path
-- make of the root box is the same in that front as in the whole history.
pub record WasHeld (m : ModelParts) (entries : List KeyedEntry) (name : ℕ) : Type 0 where
  pub front : List KeyedEntry
  pub later : List KeyedEntry
  pub whole : entries ≡ front ++ later
  pub held : IsHeld (view_of m splits_alone front) name
  pub same_box : box_of m.root (view_of m splits_alone entries).branches name
      ≡ box_of m.root (view_of m splits_alone front).branches name

-- an entry of this slot closes the node of this name
pub record IsClosedBy (entries : List KeyedEntry) (slot name : ℕ) : Type 0 where
  pub place : ℕ
  pub key : Key
  pub own : key.slot ≡ slot
  pub there : at entries place ≡ Some (keyed_entry key (Closed name))

-- What a record of a slot says is so: its node was held, and on the node's box its leaf holds at
-- the last cutoff, over the last cuts. The leaf has at most 2^21 steps. The slot has closed the
-- node: what a slot dropped leaves no record.
pub record IsTrueRecord (m : ModelParts) (entries : List KeyedEntry) (slot : ℕ) (item : Record)
    : Type 0 where
  pub node : WasHeld m entries item.node
  pub leaf : IsValidLeaf m (view_of m splits_alone entries).cuts
      (view_of m splits_alone entries).cutoff
      (box_of m.root (view_of m splits_alone entries).branches item.node) item.leaf
  pub few : length item.leaf.steps ≤ 2 ^ 21
  pub closed : IsClosedBy entries slot item.node

-- one of the records has this name
pub record HasRecord (records : List Record) (name : ℕ) : Type 0 where
  pub place : ℕ
  pub item : Record
  pub there : at records place ≡ Some item
  pub named : item.node ≡ name

-- Each record of the machine's history is true, and each node that is closed has one, with the slot
-- that closed it. The last cutoff is the value of the best point, or one more than any value.
pub record RecordsHold (m : ModelParts) (settings : SearchSettings) (limits : Limits) : Type 0
  where
    pub true_records : (slot place : ℕ) (item : Record)
        → at (records_of (history (rules m settings) limits) slot) place ≡ Some item
        → IsTrueRecord m (history (rules m settings) limits).entries slot item
    pub closed_nodes : (place name : ℕ) (key : Key)
        → at (history (rules m settings) limits).entries place
        ≡ Some (keyed_entry key (Closed name))
        → HasRecord (records_of (history (rules m settings) limits) key.slot) name
    pub cutoff : (view_of m splits_alone (history (rules m settings) limits).entries).cutoff
        ≡ cutoff_of m (best_point (best_found (history (rules m settings) limits).entries))
