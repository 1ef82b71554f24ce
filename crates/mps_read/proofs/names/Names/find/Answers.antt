use Rattle.mps_read.proofs.Naming.{found_place}
use Rattle.mps_read.proofs.names.Names.find.Goals as goal

pub returns : goal.returns
returns c = found_place (λ k. k.items) _ _ _ _ c.get_index_of.ensures.index c.self.view_is
