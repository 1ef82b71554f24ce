use Rattle.std.proofs.Common.{◌≡◌, ◌∙◌, ℕ, List, ◌++◌, length, take, drop, refl, sym, ap}
use Rattle.ip_core.specs.Seq.{with_front}
use Rattle.ip_core.proofs.list.List.as_mut_slice.Goals as goal

overwritten : {A : Type 0} (n : ℕ) (xs ys w : List A) → n ≡ length xs → xs ≡ ys → take n (w ++ drop (length w) xs) ≡ with_front ys w
overwritten n xs ys w long same = rw (long, same) refl

pub returns : goal.returns
returns g c =
    let made = c.as_mut_slice.ensures in
    let long = sym made.len ∙ ap length made.value in (
      (refl, λ w. overwritten _ _ _ w long c.self.view_is),
      record { writes_back = tt; value = made.value ∙ c.self.view_is },
    )
