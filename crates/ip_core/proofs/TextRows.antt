use Rattle.std.proofs.Common.{◌≡◌, pos, neg_ℤ, refl}
use Rattle.std.specs.Prelude.{codes}
use Rattle.std.specs.Fmt.{digits}
use Rattle.ip_core.specs.Texts.{decimal_text}

-- the worked texts
twentieth : decimal_text (neg_ℤ (pos 5)) 2 ≡ codes "-0.05"
unfolding digits
twentieth = refl

thirteen : decimal_text (neg_ℤ (pos 1305)) 2 ≡ codes "-13.05"
unfolding digits
thirteen = refl

seven : decimal_text (pos 7) 0 ≡ codes "7"
unfolding digits
seven = refl
