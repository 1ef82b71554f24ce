use Rattle.std.proofs.Common.{◌≡◌, ◌∙◌, ℕ, max, Bool, true, false, ◌&&◌, List, [], ◌∷◌, ◌++◌, ℤ, pos, negsuc, neg_ℤ, ◌+ℤ◌, unsigned_abs, Some, refl, ap, sym, subst, arith, option_to_list}
use Rattle.std.proofs.lemmas.Int.{ints}
use Rattle.std.proofs.lemmas.Bool.{false≢true, and_parts}
use Rattle.mps_model.specs.declared.model.RowKind.{RowKind}
use Rattle.mps_model.specs.declared.model.RowKind.TheVariants.{Less, Greater, Equal}
use Rattle.width_admit.specs.Exact.{is_whole, are_whole}
use Rattle.width_admit.specs.Sides.{sides}
use Rattle.width_admit.specs.Held.{IsFinest}
use Rattle.width_admit.specs.declared.sides.RowSides.{RowSides}
use Rattle.width_admit.proofs.Quotients.{times_of_sum, times_of_negated}
use Rattle.width_admit.proofs.Decimals.{times_of_whole, whole_of_times, finest_both}

-- the sides of a row with a range are whole where the right-hand side and the range are

-- the sides as a list, the lower first
abbrev pub listed : RowSides → List ℤ
listed s = option_to_list s.lower ++ option_to_list s.upper

pub same_test : (a b : Bool) → (a ≡ true → b ≡ true) → (b ≡ true → a ≡ true) → a ≡ b
same_test true true f g = refl
same_test true false f g = absurd (false≢true (f refl))
same_test false true f g = absurd (false≢true (g refl))
same_test false false f g = refl

whole_sum : (k : ℕ) (b s : ℤ) → is_whole k b ≡ true → is_whole k (b +ℤ s) ≡ is_whole k s
whole_sum k b s known =
    let t = times_of_whole k b known in
    same_test (is_whole k (b +ℤ s)) (is_whole k s)
    (λ h.
    let back : (b +ℤ s) +ℤ neg_ℤ b ≡ s = omega (arith, ints) in
    subst (λ z. is_whole k z ≡ true) back (whole_of_times k ((b +ℤ s) +ℤ neg_ℤ b) (times_of_sum (b +ℤ s) (neg_ℤ b) _ (times_of_whole k (b +ℤ s) h) (times_of_negated b _ t))))
    (λ h. whole_of_times k (b +ℤ s) (times_of_sum b s _ t (times_of_whole k s h)))

sum_first : (x b s : Bool) → (b ≡ true → x ≡ s) → (x && (b && true)) ≡ (b && (s && true))
sum_first x true s same = ap (λ y. y && true) (same refl)
sum_first true false s same = refl
sum_first false false s same = refl

sum_second : (x b s : Bool) → (b ≡ true → x ≡ s) → (b && (x && true)) ≡ (b && (s && true))
sum_second x true s same = ap (λ y. y && true) (same refl)
sum_second x false s same = refl

same_size : (k : ℕ) (b s r : ℤ) → unsigned_abs s ≡ unsigned_abs r → is_whole k b ≡ true → is_whole k (b +ℤ s) ≡ is_whole k r
same_size k b s r size known = whole_sum k b s known ∙ rw size refl

-- the test of the two sides is that of the right-hand side and the range
pub whole_sides : (k : ℕ) (kind : RowKind) (b r : ℤ) → are_whole (listed (sides kind b (Some r))) k ≡ are_whole (b ∷ r ∷ []) k
whole_sides k Less b r = sum_first _ (is_whole k b) (is_whole k r) (same_size k b (neg_ℤ (pos (unsigned_abs r))) r (omega (arith, ints)))
whole_sides k Greater b r = sum_second _ (is_whole k b) (is_whole k r) (same_size k b (pos (unsigned_abs r)) r refl)
whole_sides k Equal b (pos r) = sum_second _ (is_whole k b) (is_whole k (pos r)) (same_size k b (pos r) (pos r) refl)
whole_sides k Equal b (negsuc r) = sum_first _ (is_whole k b) (is_whole k (negsuc r)) (same_size k b (negsuc r) (negsuc r) refl)

-- so they are whole from the greater of their exponents on
pub finest_sides : (kind : RowKind) (b r : ℤ) (m n : ℕ) → IsFinest (b ∷ []) m → IsFinest (r ∷ []) n → IsFinest (listed (sides kind b (Some r))) (max m n)
finest_sides kind b r m n first second =
    let both = finest_both (b ∷ []) (r ∷ []) m n first second in
    record { small = both.small; each = λ k small. whole_sides k kind b r ∙ both.each k small }

-- where the sides are whole, the right-hand side and the range are
pub range_is_whole : (k : ℕ) (kind : RowKind) (b r : ℤ) → are_whole (listed (sides kind b (Some r))) k ≡ true → is_whole k r ≡ true
range_is_whole k kind b r h =
    let both : (is_whole k b && (is_whole k r && true)) ≡ true = sym (whole_sides k kind b r) ∙ h in
    (and_parts (is_whole k r) true (and_parts (is_whole k b) _ both).1).0

pub side_is_whole : (k : ℕ) (kind : RowKind) (b r : ℤ) → are_whole (listed (sides kind b (Some r))) k ≡ true → is_whole k b ≡ true
side_is_whole k kind b r h = (and_parts (is_whole k b) (is_whole k r && true) (sym (whole_sides k kind b r) ∙ h)).0
