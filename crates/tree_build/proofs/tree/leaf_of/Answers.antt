use Rattle.std.proofs.Common.{◌≡◌, ◌∙◌, ◌<◌, List, length, get_or, IfOk, sym, ap, subst, arith}
use Rattle.ip_core.specs.declared.leaf.Leaf.{Leaf}
use Rattle.ip_core.specs.declared.leaf.Record.{Record}
use Rattle.tree_build.specs.ProofTrees.{leaf_or_empty}
use Rattle.tree_build.proofs.RecordPlaces.{none_given, place_given}
use Rattle.tree_build.proofs.tree.leaf_of.Goals as goal

pub bounds-lists-place : goal.bounds-lists-place
bounds-lists-place c =
    (place_given c.args.lists.now c.args.places.now c.args.name c.in-Some.place.now c.requires
    c.in-Some.ensures.value).slot

pub offset_bounds-lists-place : goal.offset_bounds-lists-place
offset_bounds-lists-place c =
    let within = (place_given c.args.lists.now c.args.places.now c.args.name c.in-Some.place.now
    c.requires c.in-Some.ensures.value).slot in
    omega arith

pub bounds-as_slice-place : goal.bounds-as_slice-place
bounds-as_slice-place c =
    subst (λ (rs : List Record). c.in-Some.place.now.index < length rs)
    (sym (c.as_slice.ensures ∙ c.index-lists-place.is))
    ((place_given c.args.lists.now c.args.places.now c.args.name c.in-Some.place.now c.requires
    c.in-Some.ensures.value).index c.index-lists-place.result)

pub offset_bounds-as_slice-place : goal.offset_bounds-as_slice-place
offset_bounds-as_slice-place c =
    let within : c.in-Some.place.now.index < length c.as_slice.result.now =
    subst (λ (rs : List Record). c.in-Some.place.now.index < length rs)
    (sym (c.as_slice.ensures ∙ c.index-lists-place.is))
    ((place_given c.args.lists.now c.args.places.now c.args.name c.in-Some.place.now c.requires
    c.in-Some.ensures.value).index c.index-lists-place.result) in
    omega arith

pub returns-in-Some : goal.returns-in-Some
returns-in-Some c =
    let placed = place_given c.args.lists.now c.args.places.now c.args.name c.in-Some.place.now
    c.requires c.in-Some.ensures.value in
    subst (λ (wanted : Leaf). IfOk c.copy_leaf.result (λ leaf. leaf ≡ wanted))
    (ap (λ (rs : List Record).
    (get_or rs c.in-Some.place.now.index c.index-as_slice-place.result).leaf)
    (c.as_slice.ensures ∙ c.index-lists-place.is)
    ∙ placed.leaf c.index-lists-place.result c.index-as_slice-place.result) c.copy_leaf.ensures

pub returns-in-None : goal.returns-in-None
returns-in-None c =
    rw (c.new.ensures, c.new-in-None.ensures)
    (sym (ap leaf_or_empty (none_given c.args.lists.now c.args.places.now c.args.name c.requires
    c.in-None.ensures.value)))
