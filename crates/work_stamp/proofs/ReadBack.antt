-- An item is read only from a list that begins with its words.
use Rattle.std.proofs.Common.{◌≡◌, ℕ, suc, ◌+◌, ◌-◌, ◌/◌, ◌%◌, ◌≤◌, Bool, true, false, ◌&&◌, List, [], ◌∷◌, ◌++◌, length, refl, sym, ap, ◌∙◌, subst, arith, take, drop, length-append}
use Rattle.std.specs.Prelude.{nat_lt, nat_le, nat_eq, if◌then◌else◌, Result, Ok, Err, All, ◌≢◌}
use Rattle.std.specs.List.{list_all}
use Rattle.std.proofs.lemmas.List.{append-nil, nil_from_length, length-take-le, take-append-drop}
use Rattle.std.proofs.lemmas.List.Elements.{All-head, All-tail, All-take}
use Rattle.std.proofs.lemmas.Bool.{eqb-true}
use Rattle.std.proofs.lemmas.Int.{of_z-to_z}
use mir.Syntax.{w64}
use Rattle.ip_core.specs.declared.row_ref.RowRef.TheVariants as row
use Rattle.work_stamp.specs.declared.entry.Entry.{Entry}
use Rattle.work_stamp.specs.declared.kind.Kind.{Kind}
use Rattle.work_stamp.specs.declared.kind.Kind.TheVariants.{Start, CutStart, HeurStart, Done, Found, Cut, Split, Closed, Halt}
use Rattle.work_stamp.specs.declared.stamped.WordRead.{WordRead}
use Rattle.work_stamp.specs.declared.error.WordsError.{WordsError}
use Rattle.work_stamp.specs.declared.error.WordsError.TheVariants as Refused
use Rattle.work_stamp.specs.Words.{signed_words, pair_words, signed_word, row_word, kind_word, further_words, words}
use Rattle.work_stamp.specs.Reads.{signed_numbers, signed_number, pairs_of, row_of, are_rows, is_number, kind_of, kind_entry, entry_of, read, gomory_of, cover_of, cut_of, split_of, read_with}
use Rattle.work_stamp.specs.Writable.{IsWord}
use Rattle.work_stamp.specs.WordLaws.{AreNoFronts, HasWordsInFront, AreReadFromWords}
use Rattle.work_stamp.proofs.Reading.{reads_again}

ok_same : (x y : WordRead) → ◌≡◌ {A = Result WordRead WordsError} (Ok x) (Ok y) → x ≡ y
ok_same x y p = cc

err_is_no_ok : (x : WordsError) (y : WordRead) → ◌≡◌ {A = Result WordRead WordsError} (Err x) (Ok y) → ⊥
err_is_no_ok x y p = cc

-- what an answer tells of the test before it
ok_past : {A : Type 0} (b : Bool) (e : WordsError) (x : Result A WordsError) (a : A) → (if b then Err e else x) ≡ Ok a → (b ≡ false) × (x ≡ Ok a)
ok_past true e x a p = cc
ok_past false e x a p = (refl, p)

ok_under : {A : Type 0} (b : Bool) (e : WordsError) (x : Result A WordsError) (a : A) → (if b then x else Err e) ≡ Ok a → (b ≡ true) × (x ≡ Ok a)
ok_under true e x a p = (refl, p)
ok_under false e x a p = cc

signed_written : (w : ℕ) → IsWord w → signed_word (signed_number w) ≡ w
signed_written w h = of_z-to_z w64 w h

signed_numbers_written : (ws : List ℕ) → All IsWord ws → signed_words (signed_numbers ws) ≡ ws
signed_numbers_written [] each = refl
signed_numbers_written (w ∷ ws) each =
    ap (λ (v : ℕ). v ∷ signed_words (signed_numbers ws)) (signed_written w (All-head IsWord w ws each)) ∙ ap (λ (vs : List ℕ). w ∷ vs) (signed_numbers_written ws (All-tail IsWord w ws each))

row_parity : (w : ℕ) (b : Bool) → nat_eq (w % 2) 0 ≡ b → row_word (if b then row.Model (w / 2) else row.Cut (w / 2)) ≡ w
row_parity w true e = let even : w % 2 ≡ 0 = eqb-true (w % 2) 0 e in omega arith
row_parity w false e = let odd : w % 2 ≢ 0 = grind arith in omega arith

row_written : (w : ℕ) → row_word (row_of w) ≡ w
row_written w = row_parity w (nat_eq (w % 2) 0) refl

pairs_written : (ws : List ℕ) → length ws % 2 ≡ 0 → pair_words (pairs_of ws) ≡ ws
pairs_written [] e = refl
pairs_written (w ∷ []) e = cc
pairs_written (w ∷ v ∷ ws) e =
    let even : length ws % 2 ≡ 0 = omega arith in
    ap (λ (x : ℕ). x ∷ v ∷ pair_words (pairs_of ws)) (row_written w) ∙ ap (λ (rest : List ℕ). w ∷ v ∷ rest) (pairs_written ws even)

-- the number of a kind
abbrev number : Kind → ℕ
number Start = 1
number CutStart = 2
number HeurStart = 3
number Done = 4
number Found = 5
number Cut = 6
number Split = 7
number Closed = 8
number Halt = 9

-- an entry is of this kind and has these words behind the stamp
record Writes (e : Entry) (k : ℕ) (f : List ℕ) : Type 0 where
  kind : kind_word e ≡ k
  further : further_words e ≡ f

taken : (d e : Entry) (k : ℕ) (f : List ℕ) → ◌≡◌ {A = Result Entry WordsError} (Ok d) (Ok e) → Writes d k f → Writes e k f
taken d e k f p w = let q : d ≡ e = cc in subst (λ (x : Entry). Writes x k f) q w

refused : (x : WordsError) (e : Entry) (k : ℕ) (f : List ℕ) → ◌≡◌ {A = Result Entry WordsError} (Err x) (Ok e) → Writes e k f
refused x e k f p = record { kind = cc; further = cc }

gomory_written : (divisor : ℕ) (rest : List ℕ) (e : Entry) → gomory_of divisor rest ≡ Ok e → Writes e 6 (0 ∷ divisor ∷ rest)
gomory_written divisor rest e p =
    let even = ok_under (nat_eq (length rest % 2) 0) _ _ e p in
    let rows = ok_under (are_rows rest) _ _ e even.1 in
    taken _ e 6 (0 ∷ divisor ∷ rest) rows.1 (record { kind = refl; further = ap (λ (ws : List ℕ). 0 ∷ divisor ∷ ws) (pairs_written rest (eqb-true (length rest % 2) 0 even.0)) })

cover_written : (word : ℕ) (cols : List ℕ) (e : Entry) → cover_of word cols ≡ Ok e → Writes e 6 (1 ∷ word ∷ cols)
cover_written word cols e p =
    let fits = ok_under (is_number (word / 2) && list_all is_number cols) _ _ e p in
    taken _ e 6 (1 ∷ word ∷ cols) fits.1 (record { kind = refl; further = ap (λ (w : ℕ). 1 ∷ w ∷ cols) (row_written word) })

form_written : (form word : ℕ) (rest : List ℕ) (e : Entry) (b : Bool) → nat_lt 1 form ≡ false → nat_eq form 0 ≡ b → (if b then gomory_of word rest else cover_of word rest) ≡ Ok e → Writes e 6 (form ∷ word ∷ rest)
form_written form word rest e true small none p =
    let is : 0 ≡ form = sym (eqb-true form 0 none) in
    subst (λ (x : ℕ). Writes e 6 (x ∷ word ∷ rest)) is (gomory_written word rest e p)
form_written form word rest e false small other p =
    let some : form ≢ 0 = grind arith in
    let is : 1 ≡ form = grind arith in
    subst (λ (x : ℕ). Writes e 6 (x ∷ word ∷ rest)) is (cover_written word rest e p)

cut_written : (f : List ℕ) (e : Entry) → cut_of f ≡ Ok e → Writes e 6 f
cut_written [] e p = refused _ e 6 [] p
cut_written (form ∷ []) e p = let q = ok_past (nat_lt 1 form) _ _ e p in refused _ e 6 (form ∷ []) q.1
cut_written (form ∷ word ∷ rest) e p =
    let q = ok_past (nat_lt 1 form) _ _ e p in
    form_written form word rest e (nat_eq form 0) q.0 refl q.1

split_written : (node col at first keep bound : ℕ) (e : Entry) → IsWord at → IsWord bound → split_of node col at first keep bound ≡ Ok e → Writes e 7 (node ∷ col ∷ at ∷ first ∷ keep ∷ bound ∷ [])
split_written node col at first keep bound e a b p =
    let q = ok_under (is_number col && nat_le keep 2) _ _ e p in
    taken _ e 7 _ q.1 (record { kind = refl; further = ap (λ (x : ℕ). node ∷ col ∷ x ∷ first ∷ keep ∷ signed_word (signed_number bound) ∷ []) (signed_written at a) ∙ ap (λ (x : ℕ). node ∷ col ∷ at ∷ first ∷ keep ∷ x ∷ []) (signed_written bound b) })

written : (kind : Kind) (f : List ℕ) (e : Entry) → All IsWord f → entry_of kind f ≡ Ok e → Writes e (number kind) f
written Start [] e each p = refused _ e 1 [] p
written Start (a ∷ []) e each p = taken _ e 1 _ p (record { kind = refl; further = refl })
written Start (a ∷ b ∷ f) e each p = refused _ e 1 _ p
written CutStart [] e each p = taken _ e 2 _ p (record { kind = refl; further = refl })
written CutStart (a ∷ f) e each p = refused _ e 2 _ p
written HeurStart [] e each p = refused _ e 3 [] p
written HeurStart (a ∷ []) e each p = taken _ e 3 _ p (record { kind = refl; further = refl })
written HeurStart (a ∷ b ∷ f) e each p = refused _ e 3 _ p
written Done [] e each p = taken _ e 4 _ p (record { kind = refl; further = refl })
written Done (a ∷ f) e each p = refused _ e 4 _ p
written Found [] e each p = refused _ e 5 [] p
written Found (v ∷ point) e each p =
    taken _ e 5 _ p (record { kind = refl; further = ap (λ (x : ℕ). x ∷ signed_words (signed_numbers point)) (signed_written v (All-head IsWord v point each)) ∙ ap (λ (xs : List ℕ). v ∷ xs) (signed_numbers_written point (All-tail IsWord v point each)) })
written Cut f e each p = cut_written f e p
written Split [] e each p = refused _ e 7 _ p
written Split (a ∷ []) e each p = refused _ e 7 _ p
written Split (a ∷ b ∷ []) e each p = refused _ e 7 _ p
written Split (a ∷ b ∷ c ∷ []) e each p = refused _ e 7 _ p
written Split (a ∷ b ∷ c ∷ d ∷ []) e each p = refused _ e 7 _ p
written Split (a ∷ b ∷ c ∷ d ∷ g ∷ []) e each p = refused _ e 7 _ p
written Split (a ∷ b ∷ c ∷ d ∷ g ∷ h ∷ []) e each p =
    split_written a b c d g h e (each 2 0 (omega arith)) (each 5 0 (omega arith)) p
written Split (a ∷ b ∷ c ∷ d ∷ g ∷ h ∷ i ∷ f) e each p = refused _ e 7 _ p
written Closed [] e each p = refused _ e 8 [] p
written Closed (a ∷ []) e each p = taken _ e 8 _ p (record { kind = refl; further = refl })
written Closed (a ∷ b ∷ f) e each p = refused _ e 8 _ p
written Halt [] e each p = taken _ e 9 _ p (record { kind = refl; further = refl })
written Halt (a ∷ f) e each p = refused _ e 9 _ p

-- a kind is that of its number
one_kind : (w k : ℕ) (first kind : Kind) (x : Result Kind WordsError) (b : Bool) → nat_eq w k ≡ b → number first ≡ k → (x ≡ Ok kind → number kind ≡ w) → (if b then Ok first else x) ≡ Ok kind → number kind ≡ w
one_kind w k first kind x true e n more p = let q : first ≡ kind = cc in ap number (sym q) ∙ (n ∙ sym (eqb-true w k e))
one_kind w k first kind x false e n more p = more p

no_kind : (w : ℕ) (kind : Kind) → ◌≡◌ {A = Result Kind WordsError} (Err Refused.Kind) (Ok kind) → number kind ≡ w
no_kind w kind p = cc

kind_written : (w : ℕ) (kind : Kind) → kind_of w ≡ Ok kind → number kind ≡ w
kind_written w kind p =
    one_kind w 1 Start kind _ _ refl refl (λ p. one_kind w 2 CutStart kind _ _ refl refl (λ p. one_kind w 3 HeurStart kind _ _ refl refl (λ p. one_kind w 4 Done kind _ _ refl refl (λ p. one_kind w 5 Found kind _ _ refl refl (λ p. one_kind w 6 Cut kind _ _ refl refl (λ p. one_kind w 7 Split kind _ _ refl refl (λ p. one_kind w 8 Closed kind _ _ refl refl (λ p. one_kind w 9 Halt kind _ _ refl refl (λ p. no_kind w kind p) p) p) p) p) p) p) p) p) p

entry_written : (k : Result Kind WordsError) (w : ℕ) (f : List ℕ) (e : Entry) → kind_of w ≡ k → All IsWord f → kind_entry k f ≡ Ok e → Writes e w f
entry_written (Ok kind) w f e is each p = subst (λ (n : ℕ). Writes e n f) (kind_written w kind is) (written kind f e each p)
entry_written (Err x) w f e is each p = refused x e w f p

whole_written : (count kind stamp : ℕ) (more : List ℕ) (e : Entry) → 3 + length (further_words e) ≡ count → kind_word e ≡ kind → further_words e ≡ take (count - 3) more →
    count ∷ kind ∷ stamp ∷ more ≡ words (record { stamp = stamp; entry = e }) ++ drop (count - 3) more
whole_written count kind stamp more e size k f =
    let parts : further_words e ++ drop (count - 3) more ≡ more = ap (λ (x : List ℕ). x ++ drop (count - 3) more) f ∙ take-append-drop (count - 3) more in
    sym (ap (λ (n : ℕ). n ∷ kind_word e ∷ stamp ∷ (further_words e ++ drop (count - 3) more)) size ∙ (ap (λ (n : ℕ). count ∷ n ∷ stamp ∷ (further_words e ++ drop (count - 3) more)) k ∙ ap (λ (x : List ℕ). count ∷ kind ∷ stamp ∷ x) parts))

item_written : (x : Result Entry WordsError) (count kind stamp : ℕ) (more : List ℕ) (r : WordRead) → All IsWord more → 3 ≤ count → count ≤ suc (suc (suc (length more))) → kind_entry (kind_of kind) (take (count - 3) more) ≡ x → read_with count stamp x ≡ Ok r → HasWordsInFront (count ∷ kind ∷ stamp ∷ more) r
item_written (Err x) count kind stamp more r each three within is p = cc
item_written (Ok e) count kind stamp more r each three within is p =
    let w = entry_written (kind_of kind) kind (take (count - 3) more) e refl (All-take IsWord (count - 3) more each) is in
    let few : count - 3 ≤ length more = omega arith in
    let long : length (take (count - 3) more) ≡ count - 3 = length-take-le (count - 3) more few in
    let size : 3 + length (further_words e) ≡ count = omega (arith, ap length w.further, long) in
    let same : record { item = record { stamp = stamp; entry = e }; used = count } ≡ r = cc in
    subst (λ (x : WordRead). HasWordsInFront (count ∷ kind ∷ stamp ∷ more) x) same (record {
      rest = drop (count - 3) more;
      whole = whole_written count kind stamp more e size w.kind w.further;
      used = omega arith;
    })

nothing_begins : (ws : List ℕ) (x : WordsError) (r : WordRead) → ◌≡◌ {A = Result WordRead WordsError} (Err x) (Ok r) → HasWordsInFront ws r
nothing_begins ws x r p = absurd (err_is_no_ok x r p)

pub reads_only_words : AreReadFromWords
reads_only_words [] r each p = cc
reads_only_words (count ∷ []) r each p =
    let within = ok_past (nat_lt 1 count) _ _ r p in
    let three = ok_past (nat_lt count 3) _ _ r within.1 in
    nothing_begins _ _ r three.1
reads_only_words (count ∷ kind ∷ []) r each p =
    let within = ok_past (nat_lt 2 count) _ _ r p in
    let three = ok_past (nat_lt count 3) _ _ r within.1 in
    nothing_begins _ _ r three.1
reads_only_words (count ∷ kind ∷ stamp ∷ more) r each p =
    let within = ok_past (nat_lt (suc (suc (suc (length more)))) count) _ _ r p in
    let three = ok_past (nat_lt count 3) _ _ r within.1 in
    item_written _ count kind stamp more r (All-tail IsWord stamp more (All-tail IsWord kind (stamp ∷ more) (All-tail IsWord count (kind ∷ stamp ∷ more) each))) (grind arith) (grind arith) refl three.1

pub no_words_begin_others : AreNoFronts
no_words_begin_others a b rest ha hb e =
    let first = reads_again a rest ha in
    let second = reads_again b [] hb in
    let again : words b ++ [] ≡ words a ++ rest = append-nil (words b) ∙ e in
    let same : ◌≡◌ {A = Result WordRead WordsError} (Ok (record { item = a; used = length (words a) })) (Ok (record { item = b; used = length (words b) })) = sym first ∙ (ap read (sym again) ∙ second) in
    let size : length (words a) ≡ length (words b) = ap (λ (r : WordRead). r.used) (ok_same _ _ same) in
    let none : length rest ≡ 0 = omega (arith, ap length e, length-append (words a) rest, size) in
    nil_from_length rest none
