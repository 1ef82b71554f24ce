-- Writing the multipliers of pairs, and reading pairs from multipliers.
use Rattle.std.proofs.Common.{◌≡◌, ◌∙◌, ℕ, zero, suc, ◌+◌, ◌-◌, ◌<◌, ◌≤◌, ◌++◌, Bool, true, false, cond, ◌&&◌, nat_le, List, [], ◌∷◌, length, get_or, set, drop, replicate, refl, sym, ap, ap₂, subst, arith}
use Rattle.std.proofs.lemmas.Bool.{ltb-true, leb-true, cond-true, cond-false, and_parts}
use Rattle.std.proofs.lemmas.List.{length-append, drop_more, drop_all}
use Rattle.std.specs.List.{list_all}
use Rattle.ip_core.specs.RowRefs.{is_before}
use Rattle.ip_core.specs.declared.model.ModelParts.{ModelParts}
use Rattle.ip_core.specs.declared.row.Row.{Row}
use Rattle.ip_core.specs.declared.row_ref.RowRef.{RowRef}
use Rattle.ip_core.specs.declared.row_ref.RowRef.TheVariants.{Model, Cut}
use Rattle.ip_core.specs.declared.leaf.Pair.{Pair}
use Rattle.safe_bound.specs.declared.limits.TheConstants.{MAX_MULTIPLIER}
use Rattle.safe_bound.specs.Premises.{AreMultipliers}
use Rattle.leaf_truth.specs.Steps.{has_row}
use Rattle.leaf_truth.specs.Multipliers.{name_at, place_of, is_same_row, weight_of, weights_from, multipliers, with_pair, pairs_from, is_pair, rise_after}
use Rattle.leaf_truth.proofs.Pairs.{IsNaming, place_naming, name_of_row, name_of_cut, weights_same}

weights_none : (name : ℕ → RowRef) (place : ℕ) (rows : List Row) → weights_from name place rows [] ≡ replicate (length rows) 0
weights_none name place [] = refl
weights_none name place (row ∷ rows) = ap (λ (ws : List ℕ). 0 ∷ ws) (weights_none name (place + 1) rows)

-- without pairs each multiplier is 0
pub multipliers_none : (rows cuts : List Row) (n : ℕ) → n ≡ length rows + length cuts → replicate n 0 ≡ multipliers rows cuts []
multipliers_none rows cuts n many =
    ap (λ (k : ℕ). replicate k 0) (many ∙ sym (length-append rows cuts)) ∙ sym (weights_none (name_at (length rows)) 0 (rows ++ cuts))

same_name : (name : ℕ → RowRef) → IsNaming name → (p : Pair) (j : ℕ) → p.row ≡ name j → is_same_row p.row (name j) ≡ true
same_name name naming p j at = ap (λ (r : RowRef). is_same_row r (name j)) at ∙ naming.own j

other_name : (name : ℕ → RowRef) → IsNaming name → (p : Pair) (j k : ℕ) → p.row ≡ name j → (j ≡ k → ⊥) → is_same_row p.row (name k) ≡ false
other_name name naming p j k at differ = ap (λ (r : RowRef). is_same_row r (name k)) at ∙ naming.other j k differ

-- a pair before others sets the weight at its place
weights_set : (name : ℕ → RowRef) → IsNaming name → (rows : List Row) (i j d : ℕ) (p : Pair) (pairs : List Pair) → j ≡ i + d → d < length rows → p.row ≡ name j → weights_from name i rows (p ∷ pairs) ≡ set (weights_from name i rows pairs) d p.weight
weights_set name naming [] i j d p pairs place known at = absurd (omega (arith, known))
weights_set name naming (row ∷ rows) i j zero p pairs place known at =
    let own : is_same_row p.row (name i) ≡ true = ap (λ (k : ℕ). is_same_row p.row (name k)) (let e : i ≡ j = omega (arith, place) in e) ∙ same_name name naming p j at in
    ap₂ (λ (w : ℕ) (ws : List ℕ). w ∷ ws)
    (cond-true (is_same_row p.row (name i)) p.weight (weight_of pairs (name i)) own)
    (weights_same name rows (i + 1) (p ∷ pairs) pairs (λ k above. cond-false (is_same_row p.row (name k)) p.weight (weight_of pairs (name k)) (other_name name naming p j k at (λ e. omega (arith, e, above, place)))))
weights_set name naming (row ∷ rows) i j (suc d) p pairs place known at =
    ap₂ (λ (w : ℕ) (ws : List ℕ). w ∷ ws)
    (cond-false (is_same_row p.row (name i)) p.weight (weight_of pairs (name i)) (other_name name naming p j i at (λ e. omega (arith, e, place))))
    (weights_set name naming rows (i + 1) j d p pairs (omega (arith, place)) (omega (arith, known)) at)

name_again : (rows cuts : List Row) (name : RowRef) → has_row rows cuts name ≡ true → name ≡ name_at (length rows) (place_of (length rows) name)
name_again rows cuts (Model i) known = sym (name_of_row (length rows) i (ltb-true i (length rows) known))
name_again rows cuts (Cut i) known =
    sym (name_of_cut (length rows) (length rows + i) (omega arith) ∙ ap (λ (k : ℕ). Cut k) (let e : (length rows + i) - length rows ≡ i = omega arith in e))

-- the place of a row that exists is that of one of the multipliers
pub place_known : (rows cuts : List Row) (name : RowRef) → has_row rows cuts name ≡ true → place_of (length rows) name < length rows + length cuts
place_known rows cuts (Model i) known = omega (arith, ltb-true i (length rows) known)
place_known rows cuts (Cut i) known = omega (arith, ltb-true i (length cuts) known)

pub multipliers_set : (rows cuts : List Row) (p : Pair) (pairs : List Pair) → has_row rows cuts p.row ≡ true → multipliers rows cuts (p ∷ pairs) ≡ set (multipliers rows cuts pairs) (place_of (length rows) p.row) p.weight
multipliers_set rows cuts p pairs known =
    let place = place_of (length rows) p.row in
    weights_set (name_at (length rows)) (place_naming (length rows)) (rows ++ cuts) 0 place place p pairs (omega arith)
    (omega (arith, place_known rows cuts p.row known, length-append rows cuts)) (name_again rows cuts p.row known)

-- before any pair is written
pub none_written : (rows cuts : List Row) (pairs : List Pair) (mults : List ℕ) (n : ℕ) → mults ≡ replicate n 0 → n ≡ length rows + length cuts → mults ≡ multipliers rows cuts (drop (length pairs) pairs)
none_written rows cuts pairs mults n zeros many =
    zeros ∙ multipliers_none rows cuts n many ∙ ap (multipliers rows cuts) (sym (drop_all (length pairs) pairs (omega arith)))

-- the row of each known pair exists
pub pair_known : (rows cuts : List Row) (pairs : List Pair) (i : ℕ) (d : Pair) → list_all (is_pair rows cuts) pairs ≡ true → i < length pairs → has_row rows cuts (get_or pairs i d).row ≡ true
pair_known rows cuts [] i d test known = absurd (omega (arith, known))
pair_known rows cuts (p ∷ pairs) zero d test known =
    (and_parts (has_row rows cuts p.row) (nat_le p.weight MAX_MULTIPLIER) (and_parts (is_pair rows cuts p) (list_all (is_pair rows cuts) pairs) test).0).0
pair_known rows cuts (p ∷ pairs) (suc i) d test known =
    pair_known rows cuts pairs i d (and_parts (is_pair rows cuts p) (list_all (is_pair rows cuts) pairs) test).1 (omega (arith, known))

-- and when the one before those written is
pub one_written : (rows cuts : List Row) (pairs : List Pair) (mults : List ℕ) (at place : ℕ) (d : Pair) → 0 < at → at ≤ length pairs → list_all (is_pair rows cuts) pairs ≡ true → place ≡ place_of (length rows) (get_or pairs (at - 1) d).row → mults ≡ multipliers rows cuts (drop at pairs) → set mults place (get_or pairs (at - 1) d).weight ≡ multipliers rows cuts (drop (at - 1) pairs)
one_written rows cuts pairs mults at place d some within test there before =
    let p = get_or pairs (at - 1) d in
    let next : (at - 1) + 1 ≡ at = omega (arith, some) in
    let parted : drop (at - 1) pairs ≡ p ∷ drop at pairs = drop_more pairs (at - 1) d (omega (arith, some, within)) ∙ ap (λ (k : ℕ). p ∷ drop k pairs) next in
    ap₂ (λ (ms : List ℕ) (k : ℕ). set ms k p.weight) before there
    ∙ sym (ap (multipliers rows cuts) parted ∙ multipliers_set rows cuts p (drop at pairs) (pair_known rows cuts pairs (at - 1) d test (omega (arith, some, within))))

weights_long : (name : ℕ → RowRef) (place : ℕ) (rows : List Row) (pairs : List Pair) → length (weights_from name place rows pairs) ≡ length rows
weights_long name place [] pairs = refl
weights_long name place (row ∷ rows) pairs = omega (arith, weights_long name (place + 1) rows pairs)

either : (b : Bool) (y z : ℕ) → y ≤ MAX_MULTIPLIER → z ≤ MAX_MULTIPLIER → cond b y z ≤ MAX_MULTIPLIER
either true y z first second = first
either false y z first second = second

weight_small : (rows cuts : List Row) (pairs : List Pair) (name : RowRef) → list_all (is_pair rows cuts) pairs ≡ true → weight_of pairs name ≤ MAX_MULTIPLIER
weight_small rows cuts [] name test = omega arith
weight_small rows cuts (p ∷ pairs) name test =
    let parts = and_parts (is_pair rows cuts p) (list_all (is_pair rows cuts) pairs) test in
    let light : p.weight ≤ MAX_MULTIPLIER = leb-true p.weight MAX_MULTIPLIER (and_parts (has_row rows cuts p.row) (nat_le p.weight MAX_MULTIPLIER) parts.0).1 in
    either (is_same_row p.row name) p.weight (weight_of pairs name) light (weight_small rows cuts pairs name parts.1)

weights_small : (name : ℕ → RowRef) (pairs : List Pair) → ((k : ℕ) → weight_of pairs (name k) ≤ MAX_MULTIPLIER) → (place : ℕ) (rows : List Row) (k d : ℕ) → k < length (weights_from name place rows pairs) → get_or (weights_from name place rows pairs) k d ≤ MAX_MULTIPLIER
weights_small name pairs small place [] k d known = absurd (omega (arith, known))
weights_small name pairs small place (row ∷ rows) zero d known = small place
weights_small name pairs small place (row ∷ rows) (suc k) d known = weights_small name pairs small (place + 1) rows k d (omega (arith, known))

-- the multipliers of known pairs are one for each row and cut, and small
pub are_multipliers : (m : ModelParts) (cuts : List Row) (pairs : List Pair) (ys : List ℕ) → list_all (is_pair m.rows cuts) pairs ≡ true → ys ≡ multipliers m.rows cuts pairs → AreMultipliers m cuts ys
are_multipliers m cuts pairs ys test same =
    let name = name_at (length m.rows) in
    subst (AreMultipliers m cuts) (sym same) (record {
      one_each = weights_long name 0 (m.rows ++ cuts) pairs ∙ length-append m.rows cuts;
      small = record { each = weights_small name pairs (λ k. weight_small m.rows cuts pairs (name k) test) 0 (m.rows ++ cuts) };
    })

-- the pairs of multipliers from a place on
pub pairs_more : (name : ℕ → RowRef) (ys : List ℕ) (place : ℕ) → place < length ys → pairs_from name place (drop place ys) ≡ with_pair (name place) (get_or ys place 0) (pairs_from name (place + 1) (drop (place + 1) ys))
pairs_more name ys place known = ap (pairs_from name place) (drop_more ys place 0 known)

pub with_pair_some : (name : RowRef) (y : ℕ) (pairs : List Pair) → 0 < y → with_pair name y pairs ≡ record { row = name; weight = y } ∷ pairs
with_pair_some name zero pairs above = absurd (omega (arith, above))
with_pair_some name (suc y) pairs above = refl

-- pairs behind a name rise where the first does, and the others behind it
pub rise_first : (name : RowRef) (pairs : List Pair) (i : ℕ) (d : Pair) → i < length pairs → rise_after name (drop i pairs) ≡ (is_before name (get_or pairs i d).row && rise_after (get_or pairs i d).row (drop (i + 1) pairs))
rise_first name pairs i d known = ap (rise_after name) (drop_more pairs i d known)

-- so do all pass a test
pub all_first : (rows cuts : List Row) (pairs : List Pair) (i : ℕ) (d : Pair) → i < length pairs → list_all (is_pair rows cuts) (drop i pairs) ≡ (is_pair rows cuts (get_or pairs i d) && list_all (is_pair rows cuts) (drop (i + 1) pairs))
all_first rows cuts pairs i d known = ap (list_all (is_pair rows cuts)) (drop_more pairs i d known)
