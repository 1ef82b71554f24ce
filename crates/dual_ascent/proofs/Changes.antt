use Rattle.std.proofs.Common.{◌≡◌, ◌∙◌, ℕ, zero, suc, ◌+◌, ◌*◌, ◌<◌, ◌≤◌, List, [], ◌∷◌, length, get_or, set, map, ℤ, pos, negsuc, neg_ℤ, ◌+ℤ◌, ◌-ℤ◌, ◌*ℤ◌, ◌≤ℤ◌, unsigned_abs, sum_by, All, refl, sym, ap, subst, arith}
use Rattle.std.specs.List.Sorted.{IsStrictlyIncreasing}
use Rattle.std.proofs.lemmas.Int.{ints}
use Rattle.std.proofs.lemmas.List.{set-set, set-get_or, get_or-set_same, length-set}
use Rattle.std.proofs.lemmas.List.Elements.{All-head, All-tail}
use Rattle.std.proofs.lemmas.List.Sums.{sum_by-cons}
use Rattle.std.proofs.Math.IntN.{*ℤ_comm}
use Rattle.ip_core.specs.Numbers.{int_at, int_sum_below, sum_below}
use Rattle.ip_core.specs.Sides.{Sides}
use Rattle.ip_core.specs.Rows.{IsTerm, coefficient}
use Rattle.ip_core.specs.declared.model.ModelParts.{ModelParts}
use Rattle.ip_core.specs.declared.row.Row.{Row}
use Rattle.ip_core.specs.declared.row.Term.{Term}
use Rattle.ip_core.proofs.IntProducts.{sub_mul, natural_mul_assoc}
use Rattle.ip_core.proofs.ColumnSums.{int_sum_below-same, int_sum_below-sub, int_sum_below-scale, pos-sum_below}
use Rattle.safe_bound.specs.Weights.{weighted_coefficient, weighted_least}
use Rattle.safe_bound.specs.Bounds.{all_rows, row_of, reduced_cost, share, numerator}
use Rattle.safe_bound.proofs.Weighted.{weighted_sum-set, terms_by_columns}
use Rattle.dual_ascent.specs.Ends.{end_at, end_activity, loss, term_loss, spread, turned_size}
use Rattle.dual_ascent.proofs.EndMoves.{share_at_end, product_moved, turned_size-same}
use Rattle.dual_ascent.proofs.RisingSums.{rising_by_columns}

neg_mul : (a b : ℤ) → neg_ℤ a *ℤ b ≡ neg_ℤ (a *ℤ b)
neg_mul a b =
    let below : pos 0 -ℤ a ≡ neg_ℤ a = omega (arith, ints) in
    omega (arith, ints, sub_mul (pos 0) a b, ap (λ z. z *ℤ b) below)

neg_first : (n : ℕ) (a : ℤ) → negsuc n *ℤ a ≡ neg_ℤ (pos (suc n) *ℤ a)
neg_first n a = omega (arith, ints)

-- factors in another order
pub int_mul_assoc : (a b c : ℤ) → (a *ℤ b) *ℤ c ≡ a *ℤ (b *ℤ c)
int_mul_assoc (pos n) b c = natural_mul_assoc n b c
int_mul_assoc (negsuc n) b c =
    ap (λ z. z *ℤ c) (neg_first n b) ∙ neg_mul (pos (suc n) *ℤ b) c ∙ ap neg_ℤ (natural_mul_assoc (suc n) b c) ∙ sym (neg_first n (b *ℤ c))

-- a product with a difference
pub mul_sub : (c a b : ℤ) → c *ℤ (a -ℤ b) ≡ (c *ℤ a) -ℤ (c *ℤ b)
mul_sub c a b = omega (arith, ints, *ℤ_comm c (a -ℤ b), sub_mul a b c, *ℤ_comm a c, *ℤ_comm b c)

-- by how much multiplier i changes as it becomes y
abbrev pub change : List ℕ → ℕ → ℕ → ℤ
change ys i y = pos y -ℤ pos (get_or ys i 0)

less_part : (c w d a : ℤ) → c -ℤ (w +ℤ (d *ℤ a)) ≡ (c -ℤ w) -ℤ (d *ℤ a)
less_part c w d a = omega (arith, ints)

-- one multiplier changed moves a reduced cost by its change times the coefficient in its row
pub reduced_cost-set : (m : ModelParts) (cuts : List Row) (ys : List ℕ) (i y j : ℕ) → i < length (all_rows m cuts) → i < length ys → reduced_cost m cuts (set ys i y) j ≡ reduced_cost m cuts ys j -ℤ (change ys i y *ℤ coefficient j (row_of m cuts i).terms)
unfolding reduced_cost
reduced_cost-set m cuts ys i y j within many =
    ap (λ w. (pos 1024 *ℤ int_at m.costs j) -ℤ w) (weighted_sum-set (λ row. coefficient j row.terms) (all_rows m cuts) ys i y (record { terms = []; least = pos 0 }) within many)
    ∙ less_part (pos 1024 *ℤ int_at m.costs j) (weighted_coefficient j (all_rows m cuts) ys) (change ys i y) (coefficient j (row_of m cuts i).terms)

-- what column j loses as multiplier i becomes y
abbrev pub column_loss : ModelParts → List Row → Sides → List ℕ → ℕ → ℕ → ℕ → ℕ
column_loss m cuts s ys i y j = turned_size (reduced_cost m cuts ys j) (reduced_cost m cuts ys j -ℤ (change ys i y *ℤ coefficient j (row_of m cuts i).terms)) * spread s j

-- what row i gives in column j at the end where that stands
abbrev pub end_part : ModelParts → List Row → Sides → List ℕ → ℕ → ℕ → ℤ
end_part m cuts s ys i j = coefficient j (row_of m cuts i).terms *ℤ end_at s (reduced_cost m cuts ys j) j

-- what row i lacks at the ends of all columns
abbrev pub slope : ModelParts → List Row → Sides → List ℕ → ℕ → ℤ
slope m cuts s ys i = (row_of m cuts i).least -ℤ int_sum_below (length m.costs) (end_part m cuts s ys i)

end_change : (old d a e : ℤ) → ((old -ℤ (d *ℤ a)) -ℤ old) *ℤ e ≡ pos 0 -ℤ (d *ℤ (a *ℤ e))
end_change old d a e =
    let less : (old -ℤ (d *ℤ a)) -ℤ old ≡ pos 0 -ℤ (d *ℤ a) = omega (arith, ints) in
    rw less (omega (arith, ints, sub_mul (pos 0) (d *ℤ a) e, int_mul_assoc d a e))

share_joined : (new old moved d : ℤ) (l : ℕ) (first last : ℤ) → last ≡ new → new ≡ (old +ℤ moved) -ℤ pos l → moved ≡ pos 0 -ℤ d → first ≡ old → last ≡ (first -ℤ d) -ℤ pos l
share_joined new old moved d l first last a b c e = omega (arith, ints)

share_change : (m : ModelParts) (cuts : List Row) (s : Sides) (ys : List ℕ) (i y j : ℕ) → i < length (all_rows m cuts) → i < length ys → share s (reduced_cost m cuts (set ys i y) j) j ≡ (share s (reduced_cost m cuts ys j) j -ℤ (change ys i y *ℤ end_part m cuts s ys i j)) -ℤ pos (column_loss m cuts s ys i y j)
share_change m cuts s ys i y j within many =
    let low = int_at s.lows j in
    let high = int_at s.highs j in
    let old = reduced_cost m cuts ys j in
    let d = change ys i y in
    let a = coefficient j (row_of m cuts i).terms in
    let new = old -ℤ (d *ℤ a) in
    share_joined (new *ℤ end_at s new j) (old *ℤ end_at s old j) ((new -ℤ old) *ℤ end_at s old j) (d *ℤ end_part m cuts s ys i j) (column_loss m cuts s ys i y j) (share s old j) (share s (reduced_cost m cuts (set ys i y) j) j)
    (ap (λ c. share s c j) (reduced_cost-set m cuts ys i y j within many) ∙ share_at_end low high new)
    (product_moved low high old new)
    (end_change old d a (end_at s old j))
    (share_at_end low high old)

parts_joined : (w d b shares moved p : ℤ) (l : ℕ) (first last : ℤ) → first ≡ w +ℤ shares → last ≡ (w +ℤ (d *ℤ b)) +ℤ ((shares -ℤ moved) -ℤ pos l) → moved ≡ d *ℤ p → last ≡ (first +ℤ (d *ℤ (b -ℤ p))) -ℤ pos l
parts_joined w d b shares moved p l first last a c e = omega (arith, ints, mul_sub d b p)

both_same : (a b c d : ℤ) → a ≡ c → b ≡ d → a +ℤ b ≡ c +ℤ d
both_same a b c d first second = rw (first, second) refl

shares_change : (m : ModelParts) (cuts : List Row) (s : Sides) (ys : List ℕ) (i y : ℕ) → i < length (all_rows m cuts) → i < length ys → int_sum_below (length m.costs) (λ j. share s (reduced_cost m cuts (set ys i y) j) j) ≡ (int_sum_below (length m.costs) (λ j. share s (reduced_cost m cuts ys j) j) -ℤ int_sum_below (length m.costs) (λ j. change ys i y *ℤ end_part m cuts s ys i j)) -ℤ pos (sum_below (length m.costs) (column_loss m cuts s ys i y))
shares_change m cuts s ys i y within many =
    let n = length m.costs in
    let first : ℕ → ℤ = λ j. share s (reduced_cost m cuts ys j) j in
    let moved : ℕ → ℤ = λ j. change ys i y *ℤ end_part m cuts s ys i j in
    let lost : ℕ → ℤ = λ j. pos (column_loss m cuts s ys i y j) in
    int_sum_below-same n (λ j. share s (reduced_cost m cuts (set ys i y) j) j) (λ j. (first j -ℤ moved j) -ℤ lost j) (λ j h. share_change m cuts s ys i y j within many)
    ∙ int_sum_below-sub n (λ j. first j -ℤ moved j) lost
    ∙ ap (λ z. z -ℤ int_sum_below n lost) (int_sum_below-sub n first moved)
    ∙ ap (λ z. (int_sum_below n first -ℤ int_sum_below n moved) -ℤ z) (sym (pos-sum_below n (column_loss m cuts s ys i y)))

-- one multiplier changed: the numerator moves by its change times what its row lacks, less what the columns lose
pub numerator-set : (m : ModelParts) (cuts : List Row) (s : Sides) (ys : List ℕ) (i y : ℕ) → i < length (all_rows m cuts) → i < length ys → numerator m cuts s (set ys i y) ≡ (numerator m cuts s ys +ℤ (change ys i y *ℤ slope m cuts s ys i)) -ℤ pos (sum_below (length m.costs) (column_loss m cuts s ys i y))
unfolding numerator
numerator-set m cuts s ys i y within many =
    let n = length m.costs in
    let rows = all_rows m cuts in
    let whole = both_same _ _ _ _ (weighted_sum-set (λ row. row.least) rows ys i y (record { terms = []; least = pos 0 }) within many) (shares_change m cuts s ys i y within many) in
    parts_joined (weighted_least rows ys) (change ys i y) (row_of m cuts i).least (int_sum_below n (λ j. share s (reduced_cost m cuts ys j) j)) (int_sum_below n (λ j. change ys i y *ℤ end_part m cuts s ys i j)) (int_sum_below n (end_part m cuts s ys i)) (sum_below n (column_loss m cuts s ys i y))
    (weighted_least rows ys +ℤ int_sum_below n (λ j. share s (reduced_cost m cuts ys j) j))
    (weighted_least rows (set ys i y) +ℤ int_sum_below n (λ j. share s (reduced_cost m cuts (set ys i y) j) j))
    refl whole (int_sum_below-scale n (change ys i y) (end_part m cuts s ys i))

-- a function of a multiplier that lies nowhere above its tangents
pub record HasTangents (f : ℕ → ℤ) : Type 0 where
  pub slope_at : ℕ → ℤ
  pub below : (v u : ℕ) → f u ≤ℤ (f v +ℤ ((pos u -ℤ pos v) *ℤ slope_at v))

loses : (a b : ℤ) (l : ℕ) → a ≡ b -ℤ pos l → a ≤ℤ b
loses a b l same = omega (arith, ints)

-- a numerator lies nowhere above its tangents
pub below_tangent : (m : ModelParts) (cuts : List Row) (s : Sides) (ys : List ℕ) (i v u : ℕ) → i < length (all_rows m cuts) → i < length ys → numerator m cuts s (set ys i u) ≤ℤ (numerator m cuts s (set ys i v) +ℤ ((pos u -ℤ pos v) *ℤ slope m cuts s (set ys i v) i))
below_tangent m cuts s ys i v u within many =
    let zs = set ys i v in
    let long : i < length zs = rw length-set many in
    let own : get_or zs i 0 ≡ v = get_or-set_same ys i v 0 many in
    let twice : set zs i u ≡ set ys i u = set-set ys i v u in
    let whole = numerator-set m cuts s zs i u within long in
    let moved : numerator m cuts s (set ys i u) ≡ (numerator m cuts s zs +ℤ (change zs i u *ℤ slope m cuts s zs i)) -ℤ pos (sum_below (length m.costs) (column_loss m cuts s zs i u)) = ap (numerator m cuts s) (sym twice) ∙ whole in
    let le = loses (numerator m cuts s (set ys i u)) (numerator m cuts s zs +ℤ (change zs i u *ℤ slope m cuts s zs i)) (sum_below (length m.costs) (column_loss m cuts s zs i u)) moved in
    subst (λ k. numerator m cuts s (set ys i u) ≤ℤ (numerator m cuts s zs +ℤ ((pos u -ℤ pos k) *ℤ slope m cuts s zs i))) own le

-- the numerator is concave in each multiplier
abbrev pub numerator_has_tangents : (m : ModelParts) (cuts : List Row) (s : Sides) (ys : List ℕ) (i : ℕ) → i < length (all_rows m cuts) → i < length ys → HasTangents (λ y. numerator m cuts s (set ys i y))
numerator_has_tangents m cuts s ys i within many = record {
  slope_at = λ v. slope m cuts s (set ys i v) i;
  below = λ v u. below_tangent m cuts s ys i v u within many;
}

end_activity-same : (n : ℕ) (s : Sides) (first second : ℕ → ℤ) (terms : List Term) → All (IsTerm n) terms → ((j : ℕ) → j < n → first j ≡ second j) → end_activity s first terms ≡ end_activity s second terms
end_activity-same n s first second [] known same = refl
end_activity-same n s first second (t ∷ terms) known same =
    both_same _ _ _ _ (ap (λ c. t.coef *ℤ end_at s c t.col) (same t.col (All-head (IsTerm n) t terms known).known)) (end_activity-same n s first second terms (All-tail (IsTerm n) t terms known) same)

-- what a row lacks at the ends of kept costs
pub slope_is : (m : ModelParts) (cuts : List Row) (s : Sides) (ys : List ℕ) (i : ℕ) (costs : List ℤ) → All (IsTerm (length m.costs)) (row_of m cuts i).terms → ((j : ℕ) → j < length m.costs → int_at costs j ≡ reduced_cost m cuts ys j) → slope m cuts s ys i ≡ (row_of m cuts i).least -ℤ end_activity s (int_at costs) (row_of m cuts i).terms
slope_is m cuts s ys i costs known same =
    ap (λ z. (row_of m cuts i).least -ℤ z) (terms_by_columns (length m.costs) (λ j. end_at s (reduced_cost m cuts ys j) j) (row_of m cuts i).terms known ∙ sym (end_activity-same (length m.costs) s (int_at costs) (reduced_cost m cuts ys) (row_of m cuts i).terms known same))

sum_same : (a b c d : ℕ) → a ≡ c → b ≡ d → a + b ≡ c + d
sum_same a b c d first second = omega arith

loss-same : (n : ℕ) (first second : ℕ → ℤ) (widths spreads : ℕ → ℕ) (by : ℤ) (terms : List Term) → All (IsTerm n) terms → ((j : ℕ) → j < n → first j ≡ second j) → ((j : ℕ) → j < n → widths j ≡ spreads j) → loss first widths by terms ≡ loss second spreads by terms
loss-same n first second widths spreads by [] known same wide = refl
loss-same n first second widths spreads by (t ∷ terms) known same wide =
    let col : t.col < n = (All-head (IsTerm n) t terms known).known in
    let here : term_loss first widths by t ≡ term_loss second spreads by t = rw (same t.col col, wide t.col col) refl in
    sum_by-cons (term_loss first widths by) t terms
    ∙ sum_same _ _ _ _ here (loss-same n first second widths spreads by terms (All-tail (IsTerm n) t terms known) same wide)
    ∙ sym (sum_by-cons (term_loss second spreads by) t terms)

nothing_turns : (c d : ℤ) (w : ℕ) → turned_size c (c -ℤ (d *ℤ pos 0)) * w ≡ 0
nothing_turns c d w =
    let still : c -ℤ (d *ℤ pos 0) ≡ c = omega (arith, ints, *ℤ_comm d (pos 0)) in
    rw (still, turned_size-same c) (omega arith)

-- what the columns lose is what the terms of the row lose, at kept costs and spreads
pub losses_are : (m : ModelParts) (cuts : List Row) (s : Sides) (ys : List ℕ) (i y : ℕ) (costs : List ℤ) (widths : List ℕ) → All (IsTerm (length m.costs)) (row_of m cuts i).terms → IsStrictlyIncreasing (map (λ (t : Term). t.col) (row_of m cuts i).terms) → ((j : ℕ) → j < length m.costs → int_at costs j ≡ reduced_cost m cuts ys j) → ((j : ℕ) → j < length m.costs → get_or widths j 0 ≡ spread s j) → sum_below (length m.costs) (column_loss m cuts s ys i y) ≡ loss (int_at costs) (λ j. get_or widths j 0) (change ys i y) (row_of m cuts i).terms
losses_are m cuts s ys i y costs widths known rising same wide =
    let d = change ys i y in
    rising_by_columns (λ j a. turned_size (reduced_cost m cuts ys j) (reduced_cost m cuts ys j -ℤ (d *ℤ a)) * spread s j) (λ j. nothing_turns (reduced_cost m cuts ys j) d (spread s j)) (length m.costs) (row_of m cuts i).terms known rising
    ∙ sym (loss-same (length m.costs) (int_at costs) (reduced_cost m cuts ys) (λ j. get_or widths j 0) (spread s) d (row_of m cuts i).terms known same wide)
