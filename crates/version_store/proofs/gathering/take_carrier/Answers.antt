use Rattle.std.proofs.Common.{length, ◌<◌, List, subst}
use Rattle.std.proofs.lemmas.Option.{slice_get_within}
use Rattle.version_store.specs.Carriers.{CarrierView}
use Rattle.version_store.proofs.gathering.take_carrier.Goals as goal

pub remove-requires : goal.remove-requires
remove-requires g c =
    subst (λ (l : List (CarrierView g.row.T.Denot g.row.T-View.Denot g.row.T-Local.Denot)). c.place_of-place.result < length l) c.as_slice.ensures
    (slice_get_within c.as_slice.result.now c.place_of-place.result c.place_of-place.ensures.carrier c.place_of-place.ensures.there)
