-- The order of keys, as facts on numbers, and lists in that order.
use Rattle.std.specs.Prelude.{◌≤◌, ◌<◌, List, [], ◌∷◌}
use Rattle.work_stamp.specs.declared.key.Key.{Key}
use Rattle.work_stamp.specs.declared.stamped.KeyedEntry.{KeyedEntry}

-- a key comes before another
pub record IsLess (a b : Key) : Type 0 where
  pub stamps : a.stamp ≤ b.stamp
  pub slots : b.stamp ≤ a.stamp → a.slot < b.slot

-- a key doesn't come before another
pub record IsNotLess (a b : Key) : Type 0 where
  pub stamps : b.stamp ≤ a.stamp
  pub slots : a.stamp ≤ b.stamp → b.slot ≤ a.slot

-- what holds of each item
abbrev pub Each : {A : Type 0} → (A → Type 0) → List A → Type 0
Each P [] = Unit {0}
Each P (x ∷ xs) = P x × Each P xs

-- no later entry has a lesser key
abbrev pub AreInOrder : List KeyedEntry → Type 0
AreInOrder [] = Unit {0}
AreInOrder (e ∷ es) = Each (λ later. IsNotLess later.key e.key) es × AreInOrder es

-- a history in the order of its keys
pub record IsSorted (history : List KeyedEntry) : Type 0 where
  pub in_order : AreInOrder history
