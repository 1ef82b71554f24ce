-- Worked searches with their certificates.
use Rattle.std.proofs.Common.{◌≡◌, ℕ, [], ◌∷◌, List, pos, negsuc, true, false, Some, None, refl}
use Rattle.ip_core.specs.declared.leaf.Closing.TheVariants.{Bound, Conflict}
use Rattle.ip_core.specs.declared.leaf.Leaf.{Leaf}
use Rattle.ip_core.specs.declared.leaf.Record.{Record}
use Rattle.ip_core.specs.declared.row_ref.RowRef.TheVariants.{Model}
use Rattle.ip_core.specs.declared.model.ModelParts.{ModelParts}
use Rattle.ip_core.specs.declared.row.Row.{Row}
use Rattle.ip_core.proofs.SmallModels.{box, double, least_x, single}
use Rattle.work_stamp.specs.declared.entry.Entry.{Entry}
use Rattle.work_stamp.specs.declared.entry.Entry.TheVariants.{Start, HeurStart, Done, Found, Split, Closed}
use Rattle.work_stamp.specs.declared.stamped.KeyedEntry.{KeyedEntry}
use Rattle.stamp_machine.specs.declared.history.History.{History}
use Rattle.node_pool.specs.Runs.{without_keys}
use Rattle.tree_cert.specs.declared.node.CertNode.TheVariants.{Split as Parts, Leaf as Ends}
use Rattle.tree_build.specs.Certificates.{certificate_of, proof_of}
use Rattle.tree_build.specs.ProofTrees.{empty_leaf, proof_tree}
use Rattle.task_steps.specs.declared.answer.Status.TheVariants.{WorkLimit}

-- ---- twice the sum of three columns in 0 to 1 is to be 3

-- row 0 raises the other columns, and row 1 conflicts
abbrev low_leaf : Leaf
low_leaf = record {
  steps = record { row = Model 0; col = 1; low = true }
      ∷ record { row = Model 0; col = 2; low = true } ∷ [];
  closing = Conflict (Model 1);
}

-- row 1 lowers the other columns, and row 0 conflicts
abbrev high_leaf : Leaf
high_leaf = record {
  steps = record { row = Model 1; col = 1; low = false }
      ∷ record { row = Model 1; col = 2; low = false } ∷ [];
  closing = Conflict (Model 0);
}

abbrev leaf_record : ℕ → Leaf → Record
leaf_record node leaf = record { node = node; leaf = leaf }

-- one slot splits the root, closes the low child, looks for a point from the high one, and closes it
abbrev odd_history : List KeyedEntry
odd_history = without_keys
    (Start 0 ∷ Split 0 0 (pos 0) 4 0 (pos 0) ∷ Closed 4 ∷ Done ∷ HeurStart 5 ∷ Done ∷ Start 5
    ∷ Closed 5 ∷ Done ∷ [])

-- the low child stands before the high one
odd_tree : proof_tree ((leaf_record 4 low_leaf ∷ leaf_record 5 high_leaf ∷ []) ∷ []) odd_history
    ≡ Parts 0 (pos 0) (pos 1) ∷ Ends low_leaf ∷ Ends high_leaf ∷ []
odd_tree = refl

-- the same where one slot after the other has a record, the high child's before the low one's
two_slots : proof_tree ((leaf_record 5 high_leaf ∷ []) ∷ (leaf_record 4 low_leaf ∷ []) ∷ [])
    odd_history
    ≡ Parts 0 (pos 0) (pos 1) ∷ Ends low_leaf ∷ Ends high_leaf ∷ []
two_slots = refl

-- the first record of a name gives its leaf
first_record_counts : proof_tree ((leaf_record 4 low_leaf ∷ leaf_record 4 high_leaf
    ∷ leaf_record 5 high_leaf ∷ []) ∷ (leaf_record 5 low_leaf ∷ []) ∷ []) odd_history
    ≡ Parts 0 (pos 0) (pos 1) ∷ Ends low_leaf ∷ Ends high_leaf ∷ []
first_record_counts = refl

-- ---- deeper trees

-- the tree of the low child stands before that of the high one, whichever is split first
deeper : proof_tree [] (without_keys (Split 0 2 (negsuc 0) 4 0 (pos 0) ∷ Split 5 1 (pos 3) 8 2 (pos 0)
    ∷ Split 4 0 (pos 7) 12 2 (pos 0) ∷ []))
    ≡ Parts 2 (negsuc 0) (pos 0) ∷ Parts 0 (pos 7) (pos 8) ∷ Ends empty_leaf ∷ Ends empty_leaf
    ∷ Parts 1 (pos 3) (pos 4) ∷ Ends empty_leaf ∷ Ends empty_leaf ∷ []
deeper = refl

-- ---- whole certificates

abbrev history : List Entry → List Record → History
history entries records =
    record { entries = without_keys entries; records = records ∷ []; ends = 0 ∷ [] }

-- -2x >= -3
abbrev at_most : Row
at_most = record { terms = record { col = 0; coef = negsuc 1 } ∷ []; least = negsuc 2 }

-- the least of x in 0 to 5 with 2x = 3
abbrev half : ModelParts
half = least_x (box (pos 0) (pos 5)) (double ∷ at_most ∷ [])

-- row 0 raises x, and row 1 conflicts
abbrev half_leaf : Leaf
half_leaf =
    record { steps = record { row = Model 0; col = 0; low = true } ∷ []; closing = Conflict (Model 1) }

-- without a point the value is one more than the greatest on the root box
half_certificate : certificate_of half
    (history (Start 0 ∷ Closed 0 ∷ Done ∷ []) (leaf_record 0 half_leaf ∷ [])) None
    ≡ record {
      cols = 1;
      rows = 2;
      value = pos 6;
      point = None;
      cuts = [];
      nodes = Ends half_leaf ∷ [];
    }
half_certificate = refl

-- the least of x in 0 to 5 with 2x >= 3, where row 0 has a multiplier
abbrev single_leaf : Leaf
single_leaf = record { steps = []; closing = Bound (record { row = Model 0; weight = 342 } ∷ []) }

-- with a point the value is its value
single_certificate : certificate_of single
    (history (Start 0 ∷ Found (pos 2) (pos 2 ∷ []) ∷ Closed 0 ∷ Done ∷ [])
    (leaf_record 0 single_leaf ∷ [])) (Some (record { value = pos 2; point = pos 2 ∷ [] }))
    ≡ record {
      cols = 1;
      rows = 1;
      value = pos 2;
      point = Some (pos 2 ∷ []);
      cuts = [];
      nodes = Ends single_leaf ∷ [];
    }
single_certificate = refl

-- at a limit there is no certificate
no_certificate : proof_of single (history (Start 0 ∷ []) [])
    (record { status = WorkLimit; best = None }) ≡ None
no_certificate = refl
