-- Boxes that tests cut.
use Rattle.std.proofs.Common.{◌≡◌, ℕ, ℤ, subst, sym}
use Rattle.ip_core.specs.Boxes.{IsWithin}
use Rattle.ip_core.specs.Sides.{Sides, with_low, with_high}
use Rattle.ip_core.proofs.NarrowerBoxes.{within_both, within_raised, within_lowered}

-- a box whose column is cut at both ends is within it
within_cut : (s : Sides) (col : ℕ) (low high : ℤ) → IsWithin s (with_high (with_low s col low) col high)
within_cut s col low high =
    within_both s (with_low s col low) (with_high (with_low s col low) col high) (within_raised s col low) (within_lowered (with_low s col low) col high)

-- the same of a copy of the box
pub within_cuts : (s a b d : Sides) (col : ℕ) (low high : ℤ) → a ≡ s → b ≡ with_low a col low → d ≡ with_high b col high → IsWithin s d
within_cuts s a b d col low high copy raised lowered =
    subst (λ (x : Sides). IsWithin s x) (sym lowered)
    (subst (λ (x : Sides). IsWithin s (with_high x col high)) (sym raised)
    (subst (λ (x : Sides). IsWithin s (with_high (with_low x col low) col high)) (sym copy) (within_cut s col low high)))
