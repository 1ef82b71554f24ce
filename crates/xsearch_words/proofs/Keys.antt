-- Names as keys of a map.
use Rattle.std.proofs.Common.{◌≡◌, ◌≢◌, ℕ, List, true, false, Option, Vec, sym, subst, inl, inr, ◌∙◌}
use Rattle.std.specs.Prelude.{bytes_eq, if◌then◌else◌}
use Rattle.std.specs.declared.alloc.Global.{Global}
use Rattle.std.specs.Ordering.{is_eq, nat_cmp}
use Rattle.std.specs.Cmp.{Equal-is}
use Rattle.std.specs.Cmp.Lexicographic.{slice_cmp}
use Rattle.std.specs.Map.{KeepsOthers}
use Rattle.std.specs.BTreeMap.{BTreeMap, UpdatesBy, get_by}
use Rattle.std.proofs.Math.Path.{fun_ext}
use Rattle.std.proofs.lemmas.Bool.{cases_Bool, false_from_ne_true, false≢true}
use Rattle.std.proofs.lemmas.Cmp.{eq_by_cmp_equiv, nat_list_cmp_total}
use Rattle.std.proofs.lemmas.Map.Lookups.{exact_bytes}
use Rattle.std.proofs.lemmas.Slice.Eq.{bytes_eq-Decides}

-- names that compare as equal are the same
same_name : (a b : List ℕ) → is_eq (slice_cmp nat_cmp a b) ≡ true → a ≡ b
same_name a b equal = exact_bytes a b ((Equal-is (slice_cmp nat_cmp a b)).0 equal)

-- a key that equals a name doesn't equal another name
apart : (name other key : List ℕ) → other ≢ name → is_eq (slice_cmp nat_cmp name key) ≡ true → is_eq (slice_cmp nat_cmp other key) ≡ false
apart name other key ne equal = false_from_ne_true _ (λ both. ne (same_name other key both ∙ sym (same_name name key equal)))

-- a change at one name leaves what the map has at the others
others_stay : {X : Type 0} (old new : BTreeMap (Vec ℕ Global) X) (w : Option X) (name other : List ℕ)
    → UpdatesBy (λ x y. slice_cmp nat_cmp x.items y.items) (λ key. slice_cmp nat_cmp name key.items) old new w → other ≢ name
    → get_by (λ key. slice_cmp nat_cmp other key.items) new ≡ get_by (λ key. slice_cmp nat_cmp other key.items) old
unfolding KeepsOthers
others_stay old new w name other updates ne =
    updates.3 (λ key. is_eq (slice_cmp nat_cmp other key.items)) (λ x y. (eq_by_cmp_equiv nat_list_cmp_total).congr other x.items y.items) (λ key. apart name other key.items ne)

-- what a map has under each name
abbrev by_name : {X : Type 0} → BTreeMap (Vec ℕ Global) X → List ℕ → Option X
by_name map name = get_by (λ key. slice_cmp nat_cmp name key.items) map

-- after a change at one name the map has the new value there, and at each other name what it had
pub changed : {X : Type 0} (old new : BTreeMap (Vec ℕ Global) X) (w : Option X) (name : List ℕ)
    → UpdatesBy (λ x y. slice_cmp nat_cmp x.items y.items) (λ key. slice_cmp nat_cmp name key.items) old new w
    → by_name new ≡ (λ other. if bytes_eq name other then w else by_name old other)
changed old new w name updates = fun_ext (λ other. elim (cases_Bool (bytes_eq name other)) [
  | inl same ↦ rw same (subst (λ key. by_name new key ≡ w) ((bytes_eq-Decides name other).0 same) updates.1)
  | inr apart ↦ rw apart (others_stay old new w name other updates (λ e. false≢true (sym apart ∙ (bytes_eq-Decides name other).1 (sym e))))
])
