-- A heap of keys, of which the least comes out first.
use Rattle.std.specs.Prelude.{ℕ, ◌≡◌, ◌≤◌, true, false, List, [], ◌∷◌, All, map, Option, Some, None}
use Rattle.std.specs.List.Sorted.{IsPermutation}
use Rattle.std.specs.Ordering.{nat_cmp, ordering_then}
use Rattle.std.specs.declared.cmp.Ordering.{Ordering}
use Rattle.std.specs.declared.cmp.Reverse.{Reverse}
use Rattle.work_stamp.specs.Keys.{is_below}
use Rattle.work_stamp.specs.declared.key.Key.{Key}

-- the keys in no particular order, and the number of keys for which there is room
pub record Keys : Type 0 where
  pub keys : List Key
  pub room : ℕ

-- the keys in reverse order, so that the greatest is the least key
abbrev pub reverse_cmp : Reverse Key → Reverse Key → Ordering
reverse_cmp a b = ordering_then (nat_cmp b.0.stamp a.0.stamp) (nat_cmp b.0.slot a.0.slot)

-- the keys of a heap
abbrev pub keys_in : List (Reverse Key) → List Key
keys_in items = map (λ (item : Reverse Key). item.0) items

-- no key is there, and there is room for so many
pub record HasRoom (heap : Keys) (room : ℕ) : Type 0 where
  pub none : heap.keys ≡ []
  pub most : room ≤ heap.room

-- no key lies below this one
pub record HasNoneBelow (keys : List Key) (key : Key) : Type 0 where
  pub each : All (λ (other : Key). is_below other key ≡ false) keys

-- a key was put in
pub record HasPushed (before : List Key) (key : Key) (after : List Key) : Type 0 where
  pub same : IsPermutation (key ∷ before) after

-- the least key was taken out, which lies below a given one
pub record HasPopped (before : List Key) (key first : Key) (after : List Key) : Type 0 where
  pub below : is_below first key ≡ true
  pub least : HasNoneBelow before first
  pub same : IsPermutation before (first ∷ after)

-- nothing was taken out, since no key lies below a given one
pub record HasKept (before : List Key) (key : Key) (after : List Key) : Type 0 where
  pub none : HasNoneBelow before key
  pub same : after ≡ before

-- what comes of taking the least key that lies below a given one
abbrev pub IsPopBelow : List Key → Key → Option Key → List Key → Type 0
IsPopBelow before key None after = HasKept before key after
IsPopBelow before key (Some first) after = HasPopped before key first after
