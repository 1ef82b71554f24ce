use Rattle.std.proofs.Common.{◌≡◌, ℕ, nat_eq, length, refl, sym, ◌∙◌, subst, false}
use Rattle.std.proofs.lemmas.Option.{slice_get_read}
use Rattle.version_store.proofs.GatheredSlots.{other_number}
use Rattle.version_store.proofs.Places.{found_before, none_more}
use Rattle.version_store.specs.Carriers.{CarrierView}
use Rattle.version_store.proofs.gathering.place_of.Goals as goal

pub returns-then-slot-number : goal.returns-then-slot-number
returns-then-slot-number g c = record {
  carrier = c.index-carriers-place.result;
  there = slice_get_read c.args.carriers.now (length c.args.carriers.now) c.loop-place.place c.index-carriers-place.result refl c.loop-place-test.true c.index-carriers-place.is;
  slot = sym c.slot.ensures ∙ c.if-slot-number.true;
}

pub loop-place-preserved : goal.loop-place-preserved
loop-place-preserved g c =
    none_more (λ (q : CarrierView g.row.T.Denot g.row.T-View.Denot g.row.T-Local.Denot). nat_eq q.seat.slot c.args.number)
    c.args.carriers.now c.loop-place.place c.index-carriers-place.result c.loop-place-test.true
    c.index-carriers-place.is
    (subst (λ (n : ℕ). nat_eq n c.args.number ≡ false) c.slot.ensures
    (other_number c.slot.result c.args.number c.if-slot-number.false))
    c.loop-place.invariant

pub returns : goal.returns
returns g c =
    absurd (found_before (λ (q : CarrierView g.row.T.Denot g.row.T-View.Denot g.row.T-Local.Denot). nat_eq q.seat.slot c.args.number)
    c.args.carriers.now c.loop-place.place c.loop-place-test.false c.loop-place.invariant
    c.requires.some)
