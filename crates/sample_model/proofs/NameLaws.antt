use Rattle.std.proofs.Common.{◌≡◌, ◌≢◌, ◌∙◌, ◌≤◌, ◌<◌, ◌+◌, ◌^◌, ℕ, zero, suc, true, nat_le, List, [], ◌∷◌, length, slice_index_or, codes, drop, All, refl, sym, ap, arith}
use Rattle.std.specs.Fmt.{decimal}
use Rattle.std.specs.List.{list_all}
use Rattle.std.proofs.lemmas.Fmt.{length-decimal-le, decimal_injective}
use Rattle.std.proofs.lemmas.List.Elements.{All-nil, All-cons}
use Rattle.ip_core.specs.Decimals.{is_digit}
use Rattle.ip_core.specs.Names.{IsName, IsNameByte}
use Rattle.ip_core.proofs.DecimalDigits.{and_true, le_of_test}
use Rattle.ip_core.proofs.DecimalPrints.{written_digits}
use Rattle.mps_model.specs.MpsModels.{IsFieldName, IsRowName, AreDistinct}
use Rattle.sample_model.specs.Wholes.{numbered_name}

-- names of a letter and a number

pub different : (a b : ℕ) → a < b → a ≡ b → ⊥
different a b less same = omega (arith, less, same)

digit_visible : (d : ℕ) → is_digit d ≡ true → IsNameByte d
digit_visible d h =
    let k = and_true (nat_le 48 d) (nat_le d 57) h in
    let low = le_of_test 48 d k.0 in
    let high = le_of_test d 57 k.1 in
    record { low = omega (arith, low); high = omega (arith, high) }

digits_visible : (ds : List ℕ) → list_all is_digit ds ≡ true → All IsNameByte ds
digits_visible [] all = All-nil IsNameByte
digits_visible (d ∷ ds) all =
    let k = and_true (is_digit d) (list_all is_digit ds) all in
    All-cons IsNameByte d ds (digit_visible d k.0) (digits_visible ds k.1)

pub numbered_is : (letter n : ℕ) → 33 ≤ letter → letter ≤ 126 → n < 2 ^ 64 → IsName (numbered_name letter n)
numbered_is letter n low high small =
    let short : length (decimal n) ≤ 20 = length-decimal-le 20 n (omega arith) (omega (arith, small)) small in
    record {
      short = omega (arith, short);
      visible = All-cons IsNameByte letter (decimal n) (record { low = low; high = high }) (digits_visible (decimal n) (written_digits n small));
    }

pub numbered_field : (letter n : ℕ) → 33 ≤ letter → letter ≤ 126 → n < 2 ^ 64 → IsFieldName (numbered_name letter n)
numbered_field letter n low high small = record { is_name = numbered_is letter n low high small; nonempty = λ e. different 0 (length (numbered_name letter n)) (omega arith) (sym (ap length e)) }

abbrev first : List ℕ → ℕ
first name = slice_index_or name 0 0

-- the name of a row
pub row_name : (n : ℕ) → n < 2 ^ 64 → IsRowName (numbered_name 82 n)
row_name n small = record { field = numbered_field 82 n (omega arith) (omega arith) small; not_marker = λ e. different 39 82 (omega arith) (sym (ap first e)) }

pub same_number : (letter m n : ℕ) → m < 2 ^ 64 → n < 2 ^ 64 → numbered_name letter m ≡ numbered_name letter n → m ≡ n
same_number letter m n small few e = decimal_injective m n small few (ap (drop 1) e)

-- so many names, from a number on
abbrev pub names : ℕ → ℕ → ℕ → List (List ℕ)
names letter i zero = []
names letter i (suc n) = numbered_name letter i ∷ names letter (i + 1) n

pub names_length : (letter i n : ℕ) → length (names letter i n) ≡ n
names_length letter i zero = refl
names_length letter i (suc n) = ap suc (names_length letter (i + 1) n)

name_at : (letter i n k : ℕ) → k < n → slice_index_or (names letter i n) k [] ≡ numbered_name letter (i + k)
name_at letter i zero k within = absurd (omega (arith, within))
name_at letter i (suc n) zero within = ap (numbered_name letter) (omega arith)
name_at letter i (suc n) (suc k) within = name_at letter (i + 1) n k (omega (arith, within)) ∙ ap (numbered_name letter) (omega arith)

same_place : (letter n i j : ℕ) → n ≤ 2 ^ 20 → i < n → j < n → slice_index_or (names letter 0 n) i [] ≡ slice_index_or (names letter 0 n) j [] → i ≡ j
same_place letter n i j few first second same =
    let equal : 0 + i ≡ 0 + j = same_number letter (0 + i) (0 + j) (omega (arith, few, first)) (omega (arith, few, second)) (sym (name_at letter 0 n i first) ∙ same ∙ name_at letter 0 n j second) in
    omega (arith, equal)

pub names_distinct : (letter n : ℕ) → n ≤ 2 ^ 20 → AreDistinct (names letter 0 n) []
names_distinct letter n few = record { each = λ i j first second same. same_place letter n i j few (omega (arith, names_length letter 0 n, first)) (omega (arith, names_length letter 0 n, second)) same }

objective_differs : (n k : ℕ) → n ≤ 2 ^ 20 → k < n → codes "OBJ" ≢ slice_index_or (names 82 0 n) k []
objective_differs n k few within same = different 79 82 (omega arith) (ap first (same ∙ name_at 82 0 n k within))

with_objective : (n : ℕ) → n ≤ 2 ^ 20 → (i j : ℕ) → i < length (codes "OBJ" ∷ names 82 0 n) → j < length (codes "OBJ" ∷ names 82 0 n)
    → slice_index_or (codes "OBJ" ∷ names 82 0 n) i [] ≡ slice_index_or (codes "OBJ" ∷ names 82 0 n) j [] → i ≡ j
with_objective n few zero zero first second same = refl
with_objective n few zero (suc j) first second same = absurd (objective_differs n j few (omega (arith, names_length 82 0 n, second)) same)
with_objective n few (suc i) zero first second same = absurd (objective_differs n i few (omega (arith, names_length 82 0 n, first)) (sym same))
with_objective n few (suc i) (suc j) first second same = ap suc (same_place 82 n i j few (omega (arith, names_length 82 0 n, first)) (omega (arith, names_length 82 0 n, second)) same)

-- the objective's name before the rows' names
pub row_names_distinct : (n : ℕ) → n ≤ 2 ^ 20 → AreDistinct (codes "OBJ" ∷ names 82 0 n) []
row_names_distinct n few = record { each = with_objective n few }
