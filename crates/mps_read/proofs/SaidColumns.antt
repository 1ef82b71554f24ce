use Rattle.std.proofs.Common.{◌≡◌, ◌∙◌, ◌<◌, ◌==◌, ℕ, Bool, true, false, not, ◌||◌, ◌&&◌, List, [], ◌∷◌, ◌++◌, map, Option, Some, None, refl, sym, ap, if◌then◌else◌}
use Rattle.std.specs.Str.{bytes_eq}
use Rattle.std.proofs.lemmas.Bool.{false≢true}
use Rattle.ip_core.specs.Decimals.{Number}
use Rattle.mps_model.specs.Numbers.{zero_decimal, is_zero}
use Rattle.mps_model.specs.declared.model.Limit.{Limit}
use Rattle.mps_model.specs.declared.model.MpsEntry.{MpsEntry}
use Rattle.mps_model.specs.declared.model.MpsCol.{MpsCol}
use Rattle.mps_read.specs.Names.{is_among, place_among, with_item, with_name}
use Rattle.mps_read.specs.Numerals.{decimal_of}
use Rattle.mps_lines.specs.Forms.{Pair}
use Rattle.mps_read.specs.Sets.{is_named}
use Rattle.mps_read.specs.Rows.{is_objective, is_single, objective_number}
use Rattle.mps_read.specs.Columns.{Bound, entries_of, low_of, high_of, column_of}
use Rattle.mps_read.specs.DraftRows.{is_tested}
use Rattle.mps_read.specs.DraftColumns.{fresh_column, with_entry, with_coefficient, bounded_column, with_bound, with_mark}
use Rattle.mps_read.specs.DraftKinds.{has_mark}
use Rattle.mps_lines.specs.declared.section.BoundKind.{BoundKind}
use Rattle.mps_lines.specs.declared.section.BoundKind.TheVariants.{Lower, Upper, Fixed, IntegerLower, IntegerUpper, Free as NoSides, NoLower, NoUpper, Binary}
use Rattle.mps_read.specs.declared.draft.RowPlace.{RowPlace}
use Rattle.mps_read.specs.declared.draft.RowPlace.TheVariants.{Objective, Dropped, Kept}
use Rattle.mps_read.specs.declared.draft.Mark.{Mark}
use Rattle.mps_lines.proofs.Truths.{by_case}
use Rattle.mps_read.proofs.Marks.{has_mark-push, not_eq}
use Rattle.mps_read.proofs.PrintNames.{same_bytes}
use Rattle.mps_read.proofs.Lookups.{IsSingle, map_all, map_change, eq_of, bytes_eq-turn}
use Rattle.mps_read.proofs.SaidNames.{or_same, and_none, places_eq, named_push}
use Rattle.mps_read.proofs.SaidRows.{place_said, tested_said, place_by_test, unnamed_objective, images_push, objective_other, objective_here}

-- what lines say of columns, as the reader keeps it

abbrev pub column : List ℕ → Bool → Number → List MpsEntry → Limit → Limit → MpsCol
column name a c f low high = record { name = name; integer = a; cost = c; entries = f; low = low; high = high }

pub column_same : (name : List ℕ) (a b : Bool) (c e : Number) (f g : List MpsEntry) (low high : Limit) → a ≡ b → c ≡ e → f ≡ g
    → column name a c f low high ≡ column name b e g low high
column_same name a b c e f g low high h i j = rw (h, i, j) refl

-- entries

if_append : (b : Bool) (e : MpsEntry) (xs ys : List MpsEntry) → (if b then e ∷ (xs ++ ys) else xs ++ ys) ≡ (if b then e ∷ xs else xs) ++ ys
if_append true e xs ys = refl
if_append false e xs ys = refl

abbrev is_entry : List (List ℕ) → Pair → Bool
is_entry kept q = is_among q.row kept && not (is_zero (decimal_of q.numeral))

abbrev entry : List (List ℕ) → Pair → MpsEntry
entry kept q = record { row = place_among q.row kept; value = decimal_of q.numeral }

entries_skip : (kept : List (List ℕ)) (pairs : List Pair) (q : Pair) → is_entry kept q ≡ false → entries_of kept (pairs ++ q ∷ []) ≡ entries_of kept pairs
entries_skip kept [] q h = rw h refl
entries_skip kept (p ∷ pairs) q h = ap (λ es. if is_entry kept p then entry kept p ∷ es else es) (entries_skip kept pairs q h)

entries_more : (kept : List (List ℕ)) (pairs : List Pair) (q : Pair) → is_entry kept q ≡ true → entries_of kept (pairs ++ q ∷ []) ≡ entries_of kept pairs ++ entry kept q ∷ []
entries_more kept [] q h = rw h refl
entries_more kept (p ∷ pairs) q h =
    ap (λ es. if is_entry kept p then entry kept p ∷ es else es) (entries_more kept pairs q h)
    ∙ if_append (is_entry kept p) (entry kept p) (entries_of kept pairs) (entry kept q ∷ [])

no_entry : (kept : List (List ℕ)) (q : Pair) → is_among q.row kept ≡ false → is_entry kept q ≡ false
no_entry kept q h = ap (λ b. b && not (is_zero (decimal_of q.numeral))) h

zero_entry : (kept : List (List ℕ)) (q : Pair) → is_zero (decimal_of q.numeral) ≡ true → is_entry kept q ≡ false
zero_entry kept q h = ap (λ b. is_among q.row kept && not b) h ∙ and_none (is_among q.row kept)

some_entry : (kept : List (List ℕ)) (q : Pair) → is_among q.row kept ≡ true → is_zero (decimal_of q.numeral) ≡ false → is_entry kept q ≡ true
some_entry kept q h i = ap (λ b. b && not (is_zero (decimal_of q.numeral))) h ∙ ap (λ b. not b) i

-- a coefficient in a column
pub coefficient : (o : Option (List ℕ)) (kept : List (List ℕ)) (ints : List ℕ → Bool) (ps qs : List ℕ → List Pair) (bs : List ℕ → List Bound) (c : List ℕ) (columns : List (List ℕ)) (q : Pair)
    → IsSingle (bytes_eq c) columns → is_among c columns ≡ true → ((x : List ℕ) → bytes_eq c x ≡ false → ps x ≡ qs x) → ((x : List ℕ) → bytes_eq c x ≡ true → ps x ++ q ∷ [] ≡ qs x)
    → (is_single o kept q.row && is_named q.row (ps c)) ≡ false → (is_objective o q.row ≡ true → is_among q.row kept ≡ false)
    → with_coefficient (place_said (is_objective o q.row) kept q.row) (decimal_of q.numeral) (place_among c columns) (map (λ x. column_of o kept (ints x) (ps x) (bs x) x) columns) ≡ map (λ x. column_of o kept (ints x) (qs x) (bs x) x) columns
coefficient o kept ints ps qs bs c columns q single known other here none apart =
    let value : Number = decimal_of q.numeral in
    let old : List ℕ → MpsCol = λ x. column_of o kept (ints x) (ps x) (bs x) x in
    let new : List ℕ → MpsCol = λ x. column_of o kept (ints x) (qs x) (bs x) x in
    let same : (x : List ℕ) → bytes_eq c x ≡ false → old x ≡ new x = λ x h. ap (λ pairs. column_of o kept (ints x) pairs (bs x) x) (other x h) in
    let grown : (x : List ℕ) → bytes_eq c x ≡ true → column_of o kept (ints x) (ps x ++ q ∷ []) (bs x) x ≡ new x = λ x h. ap (λ pairs. column_of o kept (ints x) pairs (bs x) x) (here x h) in
    let unchanged : is_objective o q.row ≡ false → is_entry kept q ≡ false → map old columns ≡ map new columns =
    λ b e. map_all old new columns
    (λ x. by_case (bytes_eq c x) _
    (λ h.
    column_same x _ _ (objective_number o (ps x)) (objective_number o (ps x ++ q ∷ [])) (entries_of kept (ps x)) (entries_of kept (ps x ++ q ∷ [])) (low_of (bs x)) (high_of (bs x)) refl
    (sym (objective_other o (ps x) q b)) (sym (entries_skip kept (ps x) q e))
    ∙ grown x h)
    (same x))
    in
    place_by_test (λ p. with_coefficient p value (place_among c columns) (map old columns) ≡ map new columns) (is_objective o q.row) kept q.row
    (λ b.
    map_change old new (λ col. record col { cost = value }) (fresh_column false []) (bytes_eq c) columns single known same
    (λ x h.
    let unnamed : is_named q.row (ps x) ≡ false = ap (λ y. is_named q.row (ps y)) (sym (eq_of c x h)) ∙ unnamed_objective (is_objective o q.row) (is_among q.row kept) (is_named q.row (ps c)) none b in
    column_same x _ _ value (objective_number o (ps x ++ q ∷ [])) (entries_of kept (ps x)) (entries_of kept (ps x ++ q ∷ [])) (low_of (bs x)) (high_of (bs x)) refl
    (sym (objective_here o (ps x) q b unnamed)) (sym (entries_skip kept (ps x) q (no_entry kept q (apart b))))
    ∙ grown x h))
    (λ b k. unchanged b (no_entry kept q k))
    (λ b k.
    by_case (is_zero value) _
    (λ z. rw z (unchanged b (zero_entry kept q z)))
    (λ z. rw z
    (map_change old new (with_entry (place_among q.row kept) value) (fresh_column false []) (bytes_eq c) columns single known same
    (λ x h.
    column_same x _ _ (objective_number o (ps x)) (objective_number o (ps x ++ q ∷ [])) (entries_of kept (ps x) ++ entry kept q ∷ []) (entries_of kept (ps x ++ q ∷ [])) (low_of (bs x)) (high_of (bs x)) refl
    (sym (objective_other o (ps x) q b)) (sym (entries_more kept (ps x) q (some_entry kept q k z)))
    ∙ grown x h))))

-- a column for the first time

no_number : (o : Option (List ℕ)) → zero_decimal ≡ objective_number o []
no_number None = refl
no_number (Some first) = refl

fresh_is : (o : Option (List ℕ)) (kept : List (List ℕ)) (integer : Bool) (pairs : List Pair) (bounds : List Bound) (name : List ℕ) → pairs ≡ [] → bounds ≡ [] → fresh_column integer name ≡ column_of o kept integer pairs bounds name
fresh_is o kept integer pairs bounds name h i =
    column_same name integer (integer || false) zero_decimal (objective_number o []) [] [] _ _ (sym (or_same integer)) (no_number o) refl
    ∙ ap (λ ps. column_of o kept integer ps [] name) (sym h) ∙ ap (λ bs. column_of o kept integer pairs bs name) (sym i)

abbrev pub ints_with : (List ℕ → Bool) → Bool → List ℕ → List (List ℕ) → List ℕ → Bool
ints_with ints integer c columns x = if bytes_eq x c && not (is_among x columns) then integer else ints x

ints_known : (ints : List ℕ → Bool) (integer : Bool) (c : List ℕ) (columns : List (List ℕ)) (x : List ℕ) → is_among c columns ≡ true → ints x ≡ ints_with ints integer c columns x
ints_known ints integer c columns x known =
    by_case (bytes_eq x c) _
    (λ h. rw (h, ap (λ n. is_among n columns) (eq_of x c h) ∙ known) refl)
    (λ h. rw h refl)

pub column_push : (o : Option (List ℕ)) (kept : List (List ℕ)) (ints : List ℕ → Bool) (integer : Bool) (ps : List ℕ → List Pair) (bs : List ℕ → List Bound) (c : List ℕ) (columns : List (List ℕ))
    → (is_among c columns ≡ false → (ps c ≡ []) × (bs c ≡ []))
    → with_item (is_among c columns) (fresh_column integer c) (map (λ x. column_of o kept (ints x) (ps x) (bs x) x) columns) ≡ map (λ x. column_of o kept (ints_with ints integer c columns x) (ps x) (bs x) x) (with_name c columns)
column_push o kept ints integer ps bs c columns fresh =
    let old : List ℕ → MpsCol = λ x. column_of o kept (ints x) (ps x) (bs x) x in
    let new : List ℕ → MpsCol = λ x. column_of o kept (ints_with ints integer c columns x) (ps x) (bs x) x in
    by_case (is_among c columns) (with_item (is_among c columns) (fresh_column integer c) (map old columns) ≡ map new (with_name c columns))
    (λ known.
    ap (λ b. if b then map old columns else map old columns ++ fresh_column integer c ∷ []) known
    ∙ map_all old new columns (λ x. ap (λ i. column_of o kept i (ps x) (bs x) x) (ints_known ints integer c columns x known))
    ∙ ap (λ b. map new (if b then columns else columns ++ c ∷ [])) (sym known))
    (λ unknown.
    let is : ints_with ints integer c columns c ≡ integer = rw (same_bytes c, unknown) refl in
    ap (λ b. if b then map old columns else map old columns ++ fresh_column integer c ∷ []) unknown
    ∙ images_push old new columns c (fresh_column integer c) unknown
    (λ x h. ap (λ i. column_of o kept i (ps x) (bs x) x) (ap (λ b. if b && not (is_among x columns) then integer else ints x) (sym (bytes_eq-turn c x false h))))
    (fresh_is o kept integer (ps c) (bs c) c (fresh unknown).0 (fresh unknown).1 ∙ ap (λ i. column_of o kept i (ps c) (bs c) c) (sym is))
    ∙ ap (λ b. map new (if b then columns else columns ++ c ∷ [])) (sym unknown))

-- a bound

or_true : (b : Bool) → true ≡ (b || true)
or_true true = refl
or_true false = refl

bound_is : (kind : BoundKind) (value : Number) (o : Option (List ℕ)) (kept : List (List ℕ)) (integer : Bool) (pairs : List Pair) (bounds : List Bound) (name : List ℕ)
    → bounded_column kind value (column_of o kept integer pairs bounds name) ≡ column_of o kept integer pairs (record { kind = kind; value = value } ∷ bounds) name
bound_is Lower value o kept integer pairs bounds name = refl
bound_is Upper value o kept integer pairs bounds name = refl
bound_is Fixed value o kept integer pairs bounds name = refl
bound_is IntegerLower value o kept integer pairs bounds name = column_same name true (integer || true) _ _ _ _ _ _ (or_true integer) refl refl
bound_is IntegerUpper value o kept integer pairs bounds name = column_same name true (integer || true) _ _ _ _ _ _ (or_true integer) refl refl
bound_is NoSides value o kept integer pairs bounds name = refl
bound_is NoLower value o kept integer pairs bounds name = refl
bound_is NoUpper value o kept integer pairs bounds name = refl
bound_is Binary value o kept integer pairs bounds name = column_same name true (integer || true) _ _ _ _ _ _ (or_true integer) refl refl

pub bound_columns : (kind : BoundKind) (value : Number) (o : Option (List ℕ)) (kept : List (List ℕ)) (ints : List ℕ → Bool) (ps : List ℕ → List Pair) (bs cs : List ℕ → List Bound) (c : List ℕ) (columns : List (List ℕ))
    → IsSingle (bytes_eq c) columns → is_among c columns ≡ true → ((x : List ℕ) → bytes_eq c x ≡ false → bs x ≡ cs x) → ((x : List ℕ) → bytes_eq c x ≡ true → record { kind = kind; value = value } ∷ bs x ≡ cs x)
    → with_bound kind value (place_among c columns) (map (λ x. column_of o kept (ints x) (ps x) (bs x) x) columns) ≡ map (λ x. column_of o kept (ints x) (ps x) (cs x) x) columns
bound_columns kind value o kept ints ps bs cs c columns single known other here =
    map_change (λ x. column_of o kept (ints x) (ps x) (bs x) x) (λ x. column_of o kept (ints x) (ps x) (cs x) x) (bounded_column kind value) (fresh_column false []) (bytes_eq c) columns single known
    (λ x h. ap (λ b. column_of o kept (ints x) (ps x) b x) (other x h))
    (λ x h. bound_is kind value o kept (ints x) (ps x) (bs x) x ∙ ap (λ b. column_of o kept (ints x) (ps x) b x) (here x h))

-- marks

mark_by : (p : RowPlace) (row col r k : ℕ) (marks : List Mark) → has_mark r k (with_mark p row col marks) ≡ (has_mark r k marks || (is_tested p && (row == r && col == k)))
mark_by Objective row col r k marks = has_mark-push row col r k marks
mark_by Dropped row col r k marks = sym (or_same (has_mark r k marks))
mark_by (Kept n) row col r k marks = has_mark-push row col r k marks

pub mark_said : (b : Bool) (kept : List (List ℕ)) (name : List ℕ) (row col r k : ℕ) (marks : List Mark) → has_mark r k (with_mark (place_said b kept name) row col marks) ≡ (has_mark r k marks || ((b || is_among name kept) && (row == r && col == k)))
mark_said b kept name row col r k marks =
    mark_by (place_said b kept name) row col r k marks ∙ ap (λ t. has_mark r k marks || (t && (row == r && col == k))) (tested_said b kept name)

pub mark_past_row : (b : Bool) (kept : List (List ℕ)) (name : List ℕ) (row col r k : ℕ) (marks : List Mark) → row < r → has_mark r k marks ≡ false → has_mark r k (with_mark (place_said b kept name) row col marks) ≡ false
mark_past_row b kept name row col r k marks past none =
    mark_said b kept name row col r k marks ∙ ap (λ t. t || ((b || is_among name kept) && (row == r && col == k))) none
    ∙ ap (λ t. (b || is_among name kept) && (t && col == k)) (not_eq row r past) ∙ and_none (b || is_among name kept)

pub mark_past_column : (b : Bool) (kept : List (List ℕ)) (name : List ℕ) (row col r k : ℕ) (marks : List Mark) → col < k → has_mark r k marks ≡ false → has_mark r k (with_mark (place_said b kept name) row col marks) ≡ false
mark_past_column b kept name row col r k marks past none =
    mark_said b kept name row col r k marks ∙ ap (λ t. t || ((b || is_among name kept) && (row == r && col == k))) none
    ∙ ap (λ t. (b || is_among name kept) && (row == r && t)) (not_eq col k past)
    ∙ ap (λ t. (b || is_among name kept) && t) (and_none (row == r)) ∙ and_none (b || is_among name kept)

grown_by : (s n t e : Bool) → (e ≡ true → t ≡ s) → ((s && n) || (t && (e && true))) ≡ (s && (n || e))
grown_by true true t e h = refl
grown_by true false true true h = refl
grown_by true false false true h = absurd (false≢true (h refl))
grown_by true false true false h = refl
grown_by true false false false h = refl
grown_by false n true true h = absurd (false≢true (sym (h refl)))
grown_by false n false true h = refl
grown_by false n true false h = refl
grown_by false n false false h = refl

same_by : (a t e : Bool) → (a || (t && (e && false))) ≡ a
same_by true t e = refl
same_by false true true = refl
same_by false true false = refl
same_by false false e = refl

pub mark_more : (o : Option (List ℕ)) (kept names columns : List (List ℕ)) (ps qs : List ℕ → List Pair) (c : List ℕ) (q : Pair) (marks : List Mark) (row x : List ℕ)
    → is_among q.row names ≡ true → is_among c columns ≡ true → is_among row names ≡ true → is_among x columns ≡ true
    → (bytes_eq c x ≡ false → ps x ≡ qs x) → (bytes_eq c x ≡ true → ps x ++ q ∷ [] ≡ qs x)
    → has_mark (place_among row names) (place_among x columns) marks ≡ (is_single o kept row && is_named row (ps x))
    → has_mark (place_among row names) (place_among x columns) (with_mark (place_said (is_objective o q.row) kept q.row) (place_among q.row names) (place_among c columns) marks) ≡ (is_single o kept row && is_named row (qs x))
mark_more o kept names columns ps qs c q marks row x kq kc kr kx other here was =
    let s : Bool = is_single o kept row in
    let t : Bool = is_single o kept q.row in
    mark_said (is_objective o q.row) kept q.row (place_among q.row names) (place_among c columns) (place_among row names) (place_among x columns) marks
    ∙ ap (λ a. a || (t && (place_among q.row names == place_among row names && place_among c columns == place_among x columns))) was
    ∙ ap (λ e. (s && is_named row (ps x)) || (t && (e && place_among c columns == place_among x columns))) (places_eq q.row row names kq kr)
    ∙ ap (λ e. (s && is_named row (ps x)) || (t && (bytes_eq q.row row && e))) (places_eq c x columns kc kx)
    ∙ by_case (bytes_eq c x) _
    (λ h.
    ap (λ e. (s && is_named row (ps x)) || (t && (bytes_eq q.row row && e))) h
    ∙ grown_by s (is_named row (ps x)) t (bytes_eq q.row row) (λ at. ap (λ n. is_single o kept n) (eq_of q.row row at))
    ∙ ap (λ e. s && (is_named row (ps x) || e)) (bytes_eq-turn row q.row (bytes_eq row q.row) refl)
    ∙ ap (λ e. s && e) (sym (named_push row (ps x) q))
    ∙ ap (λ pairs. s && is_named row pairs) (here h))
    (λ h.
    ap (λ e. (s && is_named row (ps x)) || (t && (bytes_eq q.row row && e))) h
    ∙ same_by (s && is_named row (ps x)) t (bytes_eq q.row row)
    ∙ ap (λ pairs. s && is_named row pairs) (other h))
