-- The ends at which the columns of a bound stand, also where a column's low is above its high.
use Rattle.std.specs.Prelude.{ℕ, suc, ◌*◌, List, ℤ, pos, negsuc, neg_ℤ, ◌-ℤ◌, ◌*ℤ◌, Bool, true, false, unsigned_abs, slice_index, sum_by}
use Rattle.std.specs.Int.{int_min, int_max}
use Rattle.ip_core.specs.Numbers.{int_at, int_sum_by}
use Rattle.ip_core.specs.Sides.{Sides}
use Rattle.ip_core.specs.declared.row.Term.{Term}

-- of two ends the one at which a cost costs least: the lesser where the cost is 0 or more, else the greater
abbrev pub least_end : ℤ → ℤ → ℤ → ℤ
least_end low high (pos c) = int_min low high
least_end low high (negsuc c) = int_max low high

-- that end of column j
abbrev pub end_at : Sides → ℤ → ℕ → ℤ
end_at s c j = least_end (int_at s.lows j) (int_at s.highs j) c

-- how far the two ends of column j are apart
abbrev pub spread : Sides → ℕ → ℕ
spread s j = unsigned_abs (int_at s.highs j -ℤ int_at s.lows j)

-- the activity of terms where each column stands at the end at which its cost costs least
abbrev pub end_activity : Sides → (ℕ → ℤ) → List Term → ℤ
end_activity s costs terms = int_sum_by (λ t. t.coef *ℤ end_at s (costs t.col) t.col) terms

-- whether one of two costs is below 0 and the other isn't
abbrev pub turns : ℤ → ℤ → Bool
turns (pos old) (pos new) = false
turns (pos old) (negsuc new) = true
turns (negsuc old) (pos new) = true
turns (negsuc old) (negsuc new) = false

-- how far a cost that turned is from 0, and 0 where it didn't turn
abbrev pub turned_size : ℤ → ℤ → ℕ
turned_size (pos old) (pos new) = 0
turned_size (pos old) (negsuc new) = suc new
turned_size (negsuc old) (pos new) = new
turned_size (negsuc old) (negsuc new) = 0

-- how far the end at which a column stands falls as its cost changes, where its ends are `width` apart
abbrev pub end_fall : ℤ → ℤ → ℕ → ℤ
end_fall (pos old) (pos new) width = pos 0
end_fall (pos old) (negsuc new) width = neg_ℤ (pos width)
end_fall (negsuc old) (pos new) width = pos width
end_fall (negsuc old) (negsuc new) width = pos 0

-- what a term loses as the cost of its column falls by `by` times its coefficient: the size of the cost if it turned,
-- times how far the column's ends are apart
abbrev pub term_loss : (ℕ → ℤ) → (ℕ → ℕ) → ℤ → Term → ℕ
term_loss costs widths by t =
    turned_size (costs t.col) (costs t.col -ℤ (by *ℤ t.coef)) * widths t.col

-- what all terms lose
abbrev pub loss : (ℕ → ℤ) → (ℕ → ℕ) → ℤ → List Term → ℕ
loss costs widths by terms = sum_by (term_loss costs widths by) terms
