use Rattle.mps_read.proofs.Naming.{added_names}
use Rattle.mps_read.proofs.names.Names.add.Goals as goal

pub returns : goal.returns
returns c = added_names (λ k. k.items) _ _ _ _ _ c.in_ok-insert.ensures.keys c.in_ok-owned.ensures.items c.self.view_is
