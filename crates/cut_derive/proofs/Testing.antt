-- Tests of each item of a list, one item at a time.
use Rattle.std.proofs.Common.{◌≡◌, ℕ, ◌+◌, ◌<◌, ◌&&◌, nat_le, List, length, get_or, drop, ap}
use Rattle.std.specs.List.{list_all}
use Rattle.std.proofs.lemmas.List.{drop_more}
use Rattle.ip_core.specs.RowRefs.{is_before}
use Rattle.ip_core.specs.declared.row.Row.{Row}
use Rattle.ip_core.specs.declared.row_ref.RowRef.{RowRef}
use Rattle.ip_core.specs.declared.leaf.Pair.{Pair}
use Rattle.leaf_truth.specs.Steps.{has_row}
use Rattle.leaf_truth.specs.Multipliers.{rise_after}
use Rattle.cut_derive.specs.Gomory.{are_known, has_weight}
use Rattle.cut_derive.specs.Covers.{rise_from}

pub known_first : (rows cuts : List Row) (parts : List Pair) (i : ℕ) (d : Pair) → i < length parts → are_known rows cuts (drop i parts) ≡ (has_row rows cuts (get_or parts i d).row && are_known rows cuts (drop (i + 1) parts))
known_first rows cuts parts i d known = ap (are_known rows cuts) (drop_more parts i d known)

pub weights_first : (parts : List Pair) (i : ℕ) (d : Pair) → i < length parts → list_all has_weight (drop i parts) ≡ (has_weight (get_or parts i d) && list_all has_weight (drop (i + 1) parts))
weights_first parts i d known = ap (list_all has_weight) (drop_more parts i d known)

pub rise_first : (name : RowRef) (parts : List Pair) (i : ℕ) (d : Pair) → i < length parts → rise_after name (drop i parts) ≡ (is_before name (get_or parts i d).row && rise_after (get_or parts i d).row (drop (i + 1) parts))
rise_first name parts i d known = ap (rise_after name) (drop_more parts i d known)

pub columns_first : (low : ℕ) (cols : List ℕ) (i : ℕ) (d : ℕ) → i < length cols → rise_from low (drop i cols) ≡ (nat_le low (get_or cols i d) && rise_from (get_or cols i d + 1) (drop (i + 1) cols))
columns_first low cols i d known = ap (rise_from low) (drop_more cols i d known)
