use Rattle.std.proofs.lemmas.Slice.Eq.{slice_eq-Decides}
use Rattle.std.proofs.lemmas.Bool.Decides.{Decides-int_eq}
use Rattle.ip_core.proofs.bounds.Bounds.is_fixed.Goals as goal

pub returns : goal.returns
returns c =
    let h = slice_eq-Decides Decides-int_eq c.as_slice.result.now c.as_slice-2.result.now c.eq.result c.eq.ensures in
    rw (← c.self.view_is, ← c.as_slice.ensures, ← c.as_slice-2.ensures) h
