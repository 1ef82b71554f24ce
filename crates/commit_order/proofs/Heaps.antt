-- What a heap of keys in reverse order gives.
use Rattle.std.proofs.Common.{◌≡◌, ℕ, ◌<◌, true, false, List, [], ◌∷◌, length, Option, Some, None, Result, Ok, Err, refl, sym, ◌∙◌, subst, arith}
use Rattle.std.specs.BinaryHeap.{IsUpperBound}
use Rattle.std.specs.List.Sorted.{IsPermutation}
use Rattle.std.specs.Option.{IfSome, IsSome}
use Rattle.std.specs.Ordering.{is_lt}
use Rattle.std.specs.Result.{OnOk}
use Rattle.std.specs.Prelude.{slice_index_or}
use Rattle.std.proofs.lemmas.Bool.{true≢false}
use Rattle.std.specs.declared.cmp.Reverse.{Reverse}
use Rattle.std.proofs.lemmas.List.Elements.{All-from_recursion, All-map, All-nil, All-weaker}
use Rattle.std.proofs.lemmas.List.Sorted.{IsPermutation-map}
use Rattle.work_stamp.specs.Keys.{is_below}
use Rattle.work_stamp.specs.declared.key.Key.{Key}
use Rattle.commit_order.specs.KeyHeaps.{HasKept, HasNoneBelow, HasPopped, HasPushed, Keys, keys_in, reverse_cmp}
use Rattle.commit_order.proofs.KeyOrder.{less_is_below, not_below_trans}

-- no key lies below that of the greatest item
none_below : (items : List (Reverse Key)) (top : Reverse Key) → IsUpperBound reverse_cmp top items
    → HasNoneBelow (keys_in items) top.0
none_below items top greatest = record {
  each = All-map (λ (k : Key). is_below k top.0 ≡ false) (λ (item : Reverse Key). item.0) items
      (All-weaker (λ (item : Reverse Key). is_lt (reverse_cmp top item) ≡ false)
      (λ (item : Reverse Key). is_below item.0 top.0 ≡ false)
      (λ item h. sym (less_is_below item.0 top.0) ∙ h) items
      (All-from_recursion (λ (item : Reverse Key). is_lt (reverse_cmp top item) ≡ false) items
      greatest));
}

kept_by : (items : List (Reverse Key)) (top : Reverse Key) (key : Key)
    → IsUpperBound reverse_cmp top items → is_below top.0 key ≡ false
    → HasKept (keys_in items) key (keys_in items)
kept_by items top key greatest above = record {
  none = record {
    each = All-weaker (λ (k : Key). is_below k top.0 ≡ false)
        (λ (k : Key). is_below k key ≡ false)
        (λ k h. not_below_trans k top.0 key h above) (keys_in items)
        (none_below items top greatest).each;
  };
  same = refl;
}

pub kept_is : (heap : Keys) (items : List (Reverse Key)) (room : ℕ) (top : Reverse Key) (key : Key)
    → record { keys = keys_in items; room = room } ≡ heap → IsUpperBound reverse_cmp top items
    → is_below top.0 key ≡ false → HasKept heap.keys key heap.keys
kept_is heap items room top key is greatest above =
    subst (λ (h : Keys). HasKept h.keys key h.keys) is (kept_by items top key greatest above)

-- nothing is kept
pub kept_nothing : (items : List (Reverse Key)) (key : Key) → length items ≡ 0
    → HasKept (keys_in items) key (keys_in items)
kept_nothing [] key none = record {
  none = record { each = All-nil (λ (k : Key). is_below k key ≡ false) };
  same = refl;
}
kept_nothing (x ∷ xs) key none = absurd (omega (arith, none))

same_tops : (items : List (Reverse Key)) (a b : Reverse Key) → 0 < length items
    → a ≡ slice_index_or items 0 a → b ≡ slice_index_or items 0 b → b ≡ a
same_tops [] a b some first second = absurd (omega arith)
same_tops (x ∷ xs) a b some first second = second ∙ sym first

popped_by : (items rest : List (Reverse Key)) (top : Reverse Key)
    (popped : Option (Reverse Key)) (key : Key) → 0 < length items → IsSome popped
    → top ≡ slice_index_or items 0 top → IfSome popped (λ x. x ≡ slice_index_or items 0 x)
    → IfSome popped (λ x. IsPermutation items (x ∷ rest)) → IsUpperBound reverse_cmp top items
    → is_below top.0 key ≡ true → HasPopped (keys_in items) key top.0 (keys_in rest)
popped_by items rest top None key some is_some first second same greatest below =
    absurd (true≢false (sym is_some))
popped_by items rest top (Some popped) key some is_some first second same greatest below = record {
  below = below;
  least = none_below items top greatest;
  same = IsPermutation-map (λ (item : Reverse Key). item.0) items (top ∷ rest)
      (subst (λ (x : Reverse Key). IsPermutation items (x ∷ rest))
      (same_tops items top popped some first second) same);
}

pub popped_is : (heap : Keys) (items rest : List (Reverse Key)) (room : ℕ) (top : Reverse Key)
    (popped : Option (Reverse Key)) (key : Key) → record { keys = keys_in items; room = room } ≡ heap
    → 0 < length items → IsSome popped → top ≡ slice_index_or items 0 top
    → IfSome popped (λ x. x ≡ slice_index_or items 0 x)
    → IfSome popped (λ x. IsPermutation items (x ∷ rest)) → IsUpperBound reverse_cmp top items
    → is_below top.0 key ≡ true → HasPopped heap.keys key top.0 (keys_in rest)
popped_is heap items rest room top popped key is some is_some first second same greatest below =
    subst (λ (h : Keys). HasPopped h.keys key top.0 (keys_in rest)) is
    (popped_by items rest top popped key some is_some first second same greatest below)

pushed_by : (heap : Keys) (items after : List (Reverse Key)) (room : ℕ) (item : Reverse Key)
    → record { keys = keys_in items; room = room } ≡ heap → IsPermutation (item ∷ items) after
    → HasPushed heap.keys item.0 (keys_in after)
pushed_by heap items after room item is same = record {
  same = subst (λ (h : Keys). IsPermutation (item.0 ∷ h.keys) (keys_in after)) is
      (IsPermutation-map (λ (item : Reverse Key). item.0) (item ∷ items) after same);
}

pub pushed_is : {A B : Type 0} (heap : Keys) (items after : List (Reverse Key)) (room : ℕ)
    (item : Reverse Key) (result : Result A B) (done : A)
    → record { keys = keys_in items; room = room } ≡ heap
    → OnOk result (IsPermutation (item ∷ items) after) → result ≡ Ok done
    → HasPushed heap.keys item.0 (keys_in after)
pushed_is heap items after room item (Ok ok) done is same e =
    pushed_by heap items after room item is same
pushed_is heap items after room item (Err err) done is same e = cc
