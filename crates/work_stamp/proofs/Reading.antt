-- Words are read again, and only words are read.
use Rattle.std.proofs.Common.{◌≡◌, ℕ, suc, ◌+◌, ◌-◌, ◌*◌, ◌/◌, ◌%◌, ◌<◌, ◌≤◌, ◌^◌, Bool, true, false, ◌&&◌, List, [], ◌∷◌, ◌++◌, length, ℤ, refl, ap, ◌∙◌, arith, take, length-append}
use Rattle.std.proofs.lemmas.List.Elements.{All-head, All-tail}
use Rattle.std.proofs.lemmas.Bool.{eq-eqb}
use Rattle.std.proofs.lemmas.Grind.{common_steps}
use Rattle.std.specs.Prelude.{nat_lt, nat_le, nat_eq, if◌then◌else◌, Result, Ok, All}
use Rattle.std.specs.List.{list_all}
use Rattle.std.proofs.lemmas.Int.{to_z-of_z}
use mir.Syntax.{w64}
use Rattle.ip_core.specs.declared.derivation.Derivation.TheVariants.{Gomory, Cover}
use Rattle.ip_core.specs.declared.leaf.Pair.{Pair}
use Rattle.ip_core.specs.declared.row_ref.RowRef.{RowRef}
use Rattle.ip_core.specs.declared.row_ref.RowRef.TheVariants as row
use Rattle.work_stamp.specs.declared.entry.Entry.{Entry}
use Rattle.work_stamp.specs.declared.entry.Entry.TheVariants.{Start, CutStart, HeurStart, Done, Found, Cut, Split, Closed, Halt}
use Rattle.work_stamp.specs.declared.error.WordsError.{WordsError}
use Rattle.work_stamp.specs.Words.{signed_words, pair_words, signed_word, row_word, kind_word, further_words, words}
use Rattle.work_stamp.specs.Reads.{signed_numbers, signed_number, pairs_of, row_of, are_rows, is_number, kind_of, kind_entry, gomory_of, cover_of, split_of, read_with}
use Rattle.work_stamp.specs.Writable.{HasWords, HasNumber, IsNumber, IsSigned, IsPair, IsSplit}
use Rattle.work_stamp.specs.WordLaws.{AreReadAgain}
use Rattle.work_stamp.proofs.Lists.{length-pair_words}

if_true : {A : Type 0} (b : Bool) (x y : A) → b ≡ true → (if b then x else y) ≡ x
if_true b x y e = ap (λ (c : Bool). if c then x else y) e

if_false : {A : Type 0} (b : Bool) (x y : A) → b ≡ false → (if b then x else y) ≡ y
if_false b x y e = ap (λ (c : Bool). if c then x else y) e

signed_read : (z : ℤ) → IsSigned z → signed_number (signed_word z) ≡ z
signed_read z f = to_z-of_z w64 z f

signed_numbers_read : (zs : List ℤ) → All IsSigned zs → signed_numbers (signed_words zs) ≡ zs
signed_numbers_read [] each = refl
signed_numbers_read (z ∷ zs) each =
    ap (λ (y : ℤ). y ∷ signed_numbers (signed_words zs)) (signed_read z (All-head IsSigned z zs each)) ∙ ap (λ (ys : List ℤ). z ∷ ys) (signed_numbers_read zs (All-tail IsSigned z zs each))

number_test : (n : ℕ) → n < 2 ^ 32 → is_number n ≡ true
number_test n h = grind arith

even_test : (n : ℕ) → nat_eq (2 * n % 2) 0 ≡ true
even_test n = let e : 2 * n % 2 ≡ 0 = omega arith in eq-eqb (2 * n % 2) 0 e

odd_test : (n : ℕ) → nat_eq ((2 * n + 1) % 2) 0 ≡ false
odd_test n = let e : (2 * n + 1) % 2 ≡ 1 = omega arith in ap (λ (k : ℕ). nat_eq k 0) e

row_read : (r : RowRef) → row_of (row_word r) ≡ r
row_read (row.Model n) =
    let half : 2 * n / 2 ≡ n = omega arith in
    if_true (nat_eq (2 * n % 2) 0) (row.Model (2 * n / 2)) (row.Cut (2 * n / 2)) (even_test n) ∙ ap row.Model half
row_read (row.Cut n) =
    let half : (2 * n + 1) / 2 ≡ n = omega arith in
    if_false (nat_eq ((2 * n + 1) % 2) 0) (row.Model ((2 * n + 1) / 2)) (row.Cut ((2 * n + 1) / 2)) (odd_test n) ∙ ap row.Cut half

row_test : (r : RowRef) → HasNumber r → is_number (row_word r / 2) ≡ true
row_test (row.Model n) h = let half : 2 * n / 2 ≡ n = omega arith in ap is_number half ∙ number_test n h
row_test (row.Cut n) h = let half : (2 * n + 1) / 2 ≡ n = omega arith in ap is_number half ∙ number_test n h

and_true : (a b : Bool) → a ≡ true → b ≡ true → (a && b) ≡ true
and_true a b p q = ap (λ (x : Bool). x && b) p ∙ q

rows_test : (pairs : List Pair) → All IsPair pairs → are_rows (pair_words pairs) ≡ true
rows_test [] each = refl
rows_test (p ∷ ps) each =
    and_true (is_number (row_word p.row / 2)) (are_rows (pair_words ps)) (row_test p.row (All-head IsPair p ps each).row) (rows_test ps (All-tail IsPair p ps each))

pairs_read : (pairs : List Pair) → pairs_of (pair_words pairs) ≡ pairs
pairs_read [] = refl
pairs_read (p ∷ ps) =
    ap (λ (r : RowRef). (record { row = r; weight = p.weight }) ∷ pairs_of (pair_words ps)) (row_read p.row) ∙ ap (λ (rest : List Pair). p ∷ rest) (pairs_read ps)

columns_test : (cols : List ℕ) → All IsNumber cols → list_all is_number cols ≡ true
columns_test [] each = refl
columns_test (c ∷ cs) each = and_true (is_number c) (list_all is_number cs) (number_test c (All-head IsNumber c cs each)) (columns_test cs (All-tail IsNumber c cs each))

gomory_read : (parts : List Pair) (divisor : ℕ) → All IsPair parts → gomory_of divisor (pair_words parts) ≡ Ok (Cut (Gomory parts divisor))
gomory_read parts divisor each =
    let even : nat_eq (length (pair_words parts) % 2) 0 ≡ true = ap (λ (n : ℕ). nat_eq (n % 2) 0) (length-pair_words parts) ∙ even_test (length parts) in
    if_true _ _ _ even ∙ (if_true _ _ _ (rows_test parts each) ∙ ap (λ (ps : List Pair). Ok (Cut (Gomory ps divisor))) (pairs_read parts))

cover_read : (of : RowRef) (cols : List ℕ) → HasNumber of → All IsNumber cols → cover_of (row_word of) cols ≡ Ok (Cut (Cover of cols))
cover_read of cols h each =
    if_true _ _ _ (and_true _ _ (row_test of h) (columns_test cols each)) ∙ ap (λ (r : RowRef). Ok (Cut (Cover r cols))) (row_read of)

keep_test : (keep : ℕ) → keep ≤ 2 → nat_le keep 2 ≡ true
keep_test keep h = grind arith

split_read : (node col : ℕ) (at : ℤ) (first keep : ℕ) (bound : ℤ) → IsSplit node col at first keep bound → keep ≤ 2 →
    split_of node col (signed_word at) first keep (signed_word bound) ≡ Ok (Split node col at first keep bound)
split_read node col at first keep bound h few =
    if_true _ _ _ (and_true _ _ (number_test col h.col_number) (keep_test keep few))
    ∙ (ap (λ (a : ℤ). Ok (Split node col a first keep (signed_number (signed_word bound)))) (signed_read at h.at_signed)
    ∙ ap (λ (b : ℤ). Ok (Split node col at first keep b)) (signed_read bound h.bound_signed))

entry_read : (e : Entry) → HasWords e → kind_entry (kind_of (kind_word e)) (further_words e) ≡ Ok e
entry_read (Start node) h = refl
entry_read CutStart h = refl
entry_read (HeurStart node) h = refl
entry_read Done h = refl
entry_read (Found value point) h =
    ap (λ (v : ℤ). Ok (Found v (signed_numbers (signed_words point)))) (signed_read value h.in_range.signed_value)
    ∙ ap (λ (p : List ℤ). Ok (Found value p)) (signed_numbers_read point h.in_range.each)
entry_read (Cut (Gomory parts divisor)) h = gomory_read parts divisor h.in_range.each
entry_read (Cut (Cover of cols)) h = cover_read of cols h.in_range.row h.in_range.each
entry_read (Split node col at first keep bound) h = split_read node col at first keep bound h.in_range h.writable
entry_read (Closed node) h = refl
entry_read Halt h = refl

front_read : (f rest : List ℕ) → take ((3 + length f) - 3) (f ++ rest) ≡ f
front_read f rest = let e : (3 + length f) - 3 ≡ length f = omega arith in rw e (grind (arith, common_steps))

pub reads_again : AreReadAgain
reads_again item rest h =
    let f = further_words item.entry in
    let long : nat_lt (suc (length (kind_word item.entry ∷ item.stamp ∷ f ++ rest))) (3 + length f) ≡ false = grind (arith, length-append {A = ℕ}) in
    let three : nat_lt (3 + length f) 3 ≡ false = grind arith in
    let total : 3 + length f ≡ length (words item) = omega arith in
    if_false _ _ _ long ∙ (if_false _ _ _ three
    ∙ (ap (λ (g : List ℕ). read_with (3 + length f) item.stamp (kind_entry (kind_of (kind_word item.entry)) g)) (front_read f rest)
    ∙ (ap (λ (e : Result Entry WordsError). read_with (3 + length f) item.stamp e) (entry_read item.entry h)
    ∙ ap (λ (n : ℕ). Ok (record { item = item; used = n })) total)))
