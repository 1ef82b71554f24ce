-- The cuts of a view were derived one after the other.
use Rattle.std.proofs.Common.{◌≡◌, ◌∙◌, ℕ, zero, suc, ◌+◌, ◌≤◌, ◌<◌, List, [], ◌∷◌, ◌++◌, length, Result, Ok, Err, refl, sym, ap, subst, arith}
use Rattle.std.proofs.lemmas.List.{append-nil, append_assoc, length-append}
use Rattle.ip_core.specs.declared.model.ModelParts.{ModelParts}
use Rattle.ip_core.specs.declared.row.Row.{Row}
use Rattle.ip_core.specs.declared.derivation.Derivation.{Derivation}
use Rattle.cut_derive.specs.Derivations.{derived_row}
use Rattle.cut_derive.specs.Laws.{AreDerived, NoCuts, OneMore}
use Rattle.cut_derive.specs.declared.limits.TheConstants.{MAX_CUTS}
use Rattle.cut_derive.specs.declared.refusal.Refusal.{Refusal}
use Rattle.work_stamp.specs.declared.entry.Entry.{Entry}
use Rattle.work_stamp.specs.declared.entry.Entry.TheVariants.{Start, CutStart, HeurStart, Done, Found, Cut, Split, Closed, Halt}
use Rattle.work_stamp.specs.declared.stamped.KeyedEntry.{KeyedEntry}
use Rattle.node_pool.specs.Follows.{MayJoin}
use Rattle.node_pool.specs.Laws.{CutsAreDerived, HasCutsOf}
use Rattle.node_pool.specs.Views.{View, fresh_view, without_held, open_node, after_entry, view_after, with_branch, with_children, with_row}
use Rattle.node_pool.specs.declared.node.OpenNode.{OpenNode}
use Rattle.node_pool.specs.declared.settings.SearchSettings.{SearchSettings}

-- children that come in leave the cuts
pub children_cuts : (v : View) (low high : OpenNode) (keep : ℕ)
    → (with_children v low high keep).cuts ≡ v.cuts
children_cuts v low high zero = refl
children_cuts v low high (suc zero) = refl
children_cuts v low high (suc (suc more)) = refl

-- an entry that is no cut leaves the cuts
abbrev cuts_with : ModelParts → List Row → Entry → List Row
cuts_with m cuts (Start node) = cuts
cuts_with m cuts CutStart = cuts
cuts_with m cuts (HeurStart node) = cuts
cuts_with m cuts Done = cuts
cuts_with m cuts (Found value point) = cuts
cuts_with m cuts (Cut derivation) = with_row cuts (derived_row m cuts derivation)
cuts_with m cuts (Split node col at first keep bound) = cuts
cuts_with m cuts (Closed node) = cuts
cuts_with m cuts Halt = cuts

cuts_after : (m : ModelParts) (v : View) (e : Entry)
    → (after_entry m v e).cuts ≡ cuts_with m v.cuts e
cuts_after m v (Start node) = refl
cuts_after m v CutStart = refl
cuts_after m v (HeurStart node) = refl
cuts_after m v Done = refl
cuts_after m v (Found value point) = refl
cuts_after m v (Cut derivation) = refl
cuts_after m v (Split node col at first keep bound) =
    children_cuts (with_branch (without_held v node)
    (record { node = node; col = col; at = at; first = first; bound = bound }))
    (open_node first bound) (open_node (first + 1) bound) keep
cuts_after m v (Closed node) = refl
cuts_after m v Halt = refl

-- each was derived

row_derived : (m : ModelParts) (cuts : List Row) (d : Derivation) (answer : Result Row Refusal)
    → derived_row m cuts d ≡ answer → AreDerived m cuts → AreDerived m (with_row cuts answer)
row_derived m cuts d (Err why) is derived = derived
row_derived m cuts d (Ok row) is derived = OneMore cuts d row derived is

entry_derived : (m : ModelParts) (cuts : List Row) (e : Entry) → AreDerived m cuts
    → AreDerived m (cuts_with m cuts e)
entry_derived m cuts (Start node) derived = derived
entry_derived m cuts CutStart derived = derived
entry_derived m cuts (HeurStart node) derived = derived
entry_derived m cuts Done derived = derived
entry_derived m cuts (Found value point) derived = derived
entry_derived m cuts (Cut derivation) derived =
    row_derived m cuts derivation (derived_row m cuts derivation) refl derived
entry_derived m cuts (Split node col at first keep bound) derived = derived
entry_derived m cuts (Closed node) derived = derived
entry_derived m cuts Halt derived = derived

derived_after : (m : ModelParts) (v : View) (e : Entry) → AreDerived m v.cuts
    → AreDerived m (after_entry m v e).cuts
derived_after m v e derived =
    subst (AreDerived m) (sym (cuts_after m v e)) (entry_derived m v.cuts e derived)

all_derived : (m : ModelParts) (v : View) (es : List KeyedEntry) → AreDerived m v.cuts
    → AreDerived m (view_after m v es).cuts
all_derived m v [] derived = derived
all_derived m v (e ∷ es) derived =
    all_derived m (after_entry m v e.entry) es (derived_after m v e.entry derived)

-- those that there are stay

pub same_cuts : (cuts : List Row) → HasCutsOf cuts cuts
same_cuts cuts = record { more = []; whole = sym (append-nil cuts) }

pub more_cuts : (xs ys zs : List Row) → HasCutsOf xs ys → HasCutsOf ys zs → HasCutsOf xs zs
more_cuts xs ys zs first second = record {
  more = first.more ++ second.more;
  whole = second.whole ∙ ap (λ (cuts : List Row). cuts ++ second.more) first.whole
      ∙ append_assoc xs first.more second.more;
}

row_stays : (cuts : List Row) (answer : Result Row Refusal) → HasCutsOf cuts (with_row cuts answer)
row_stays cuts (Err why) = same_cuts cuts
row_stays cuts (Ok row) = record { more = row ∷ []; whole = refl }

entry_stays : (m : ModelParts) (cuts : List Row) (e : Entry)
    → HasCutsOf cuts (cuts_with m cuts e)
entry_stays m cuts (Start node) = same_cuts cuts
entry_stays m cuts CutStart = same_cuts cuts
entry_stays m cuts (HeurStart node) = same_cuts cuts
entry_stays m cuts Done = same_cuts cuts
entry_stays m cuts (Found value point) = same_cuts cuts
entry_stays m cuts (Cut derivation) = row_stays cuts (derived_row m cuts derivation)
entry_stays m cuts (Split node col at first keep bound) = same_cuts cuts
entry_stays m cuts (Closed node) = same_cuts cuts
entry_stays m cuts Halt = same_cuts cuts

-- there are few

row_few : (cuts : List Row) (answer : Result Row Refusal) → length cuts < MAX_CUTS
    → length (with_row cuts answer) ≤ MAX_CUTS
row_few cuts (Err why) few = omega (arith, few)
row_few cuts (Ok row) few = omega (arith, few, length-append cuts (row ∷ []))

entry_few : (m : ModelParts) (v : View) (e : Entry) → MayJoin m v e → length v.cuts ≤ MAX_CUTS
    → length (cuts_with m v.cuts e) ≤ MAX_CUTS
entry_few m v (Start node) may few = few
entry_few m v CutStart may few = few
entry_few m v (HeurStart node) may few = few
entry_few m v Done may few = few
entry_few m v (Found value point) may few = few
entry_few m v (Cut derivation) may few = row_few v.cuts (derived_row m v.cuts derivation) may.few
entry_few m v (Split node col at first keep bound) may few = few
entry_few m v (Closed node) may few = few
entry_few m v Halt may few = few

pub cuts_are_derived : CutsAreDerived
cuts_are_derived = record {
  of_history = λ m settings history. all_derived m (fresh_view m settings) history NoCuts;
  after = derived_after;
  stay = λ m v e. subst (HasCutsOf v.cuts) (sym (cuts_after m v e)) (entry_stays m v.cuts e);
  few = λ m v e follows few.
      subst (λ (cuts : List Row). length cuts ≤ MAX_CUTS) (sym (cuts_after m v e))
      (entry_few m v e follows.joins few);
}
