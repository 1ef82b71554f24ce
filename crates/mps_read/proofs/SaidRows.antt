use Rattle.std.proofs.Common.{◌≡◌, ◌∙◌, ℕ, Bool, true, false, ◌||◌, ◌&&◌, List, [], ◌∷◌, ◌++◌, length, map, slice_set, slice_index_or, Option, Some, None, refl, sym, ap, if◌then◌else◌}
use Rattle.std.specs.List.{position_or_len}
use Rattle.std.specs.Str.{bytes_eq}
use Rattle.std.proofs.lemmas.Bool.{false≢true}
use Rattle.std.proofs.lemmas.List.{map-append}
use Rattle.ip_core.specs.Decimals.{Number, negation}
use Rattle.mps_model.specs.Prints.{fresh_row}
use Rattle.mps_model.specs.declared.model.RowKind.{RowKind}
use Rattle.mps_model.specs.declared.model.RowKind.TheVariants.{Less}
use Rattle.mps_model.specs.declared.model.MpsRow.{MpsRow}
use Rattle.mps_read.specs.Names.{is_among, place_among}
use Rattle.mps_read.specs.Numerals.{decimal_of}
use Rattle.mps_lines.specs.Forms.{Pair}
use Rattle.mps_read.specs.Sets.{first_name, is_named, number_of, number_or_zero}
use Rattle.mps_read.specs.Rows.{RowLine, is_objective, is_single, objective_number, row_of}
use Rattle.mps_read.specs.DraftRows.{fresh_state, free_place, is_tested, marked_state, with_marked_state, valued_row, with_value, with_constant}
use Rattle.mps_lines.specs.declared.section.ValueKind.TheVariants.{Side, Range}
use Rattle.mps_read.specs.declared.draft.RowPlace.{RowPlace}
use Rattle.mps_read.specs.declared.draft.RowPlace.TheVariants.{Objective, Dropped, Kept}
use Rattle.mps_read.specs.declared.draft.RowState.{RowState}
use Rattle.mps_lines.proofs.Truths.{by_case}
use Rattle.mps_read.proofs.Naming.{list_any_images, position_images}
use Rattle.mps_read.proofs.PrintNames.{same_bytes, place_first}
use Rattle.mps_read.proofs.Lookups.{IsSingle, map_same, map_change, eq_of, bytes_eq-turn}
use Rattle.mps_read.proofs.SaidNames.{and_none, among_push, among_other, place_known, single_images, named_other, named_here, number_none, number_other, number_here}

-- what lines say of rows, as the reader keeps it

abbrev pub place_said : Bool → List (List ℕ) → List ℕ → RowPlace
place_said objective kept row = if objective then Objective else if is_among row kept then Kept (place_among row kept) else Dropped

abbrev pub state_said : Bool → List (List ℕ) → List Pair → List Pair → List ℕ → RowState
state_said objective kept sides ranges row = record {
  place = place_said objective kept row;
  has_side = (objective || is_among row kept) && is_named row sides;
  has_range = (objective || is_among row kept) && is_named row ranges;
}

abbrev pub states_said : Option (List ℕ) → List (List ℕ) → List Pair → List Pair → List (List ℕ) → List RowState
states_said o kept sides ranges names = map (λ row. state_said (is_objective o row) kept sides ranges row) names

abbrev state : RowPlace → Bool → Bool → RowState
state p a c = record { place = p; has_side = a; has_range = c }

state_same : (p q : RowPlace) (a b c e : Bool) → p ≡ q → a ≡ b → c ≡ e → state p a c ≡ state q b e
state_same p q a b c e h i j = rw (h, i, j) refl

-- a row's name for the first time

fresh_said : (objective : Bool) (kept : List (List ℕ)) (sides ranges : List Pair) (row : List ℕ) (place : RowPlace) → is_named row sides ≡ false → is_named row ranges ≡ false → place_said objective kept row ≡ place → fresh_state place ≡ state_said objective kept sides ranges row
fresh_said objective kept sides ranges row place s r at =
    state_same place (place_said objective kept row) false ((objective || is_among row kept) && is_named row sides) false ((objective || is_among row kept) && is_named row ranges) (sym at)
    (sym (ap (λ b. (objective || is_among row kept) && b) s ∙ and_none (objective || is_among row kept)))
    (sym (ap (λ b. (objective || is_among row kept) && b) r ∙ and_none (objective || is_among row kept)))

pub images_push : {B : Type 0} (f g : List ℕ → B) (names : List (List ℕ)) (name : List ℕ) (s : B) → is_among name names ≡ false → ((x : List ℕ) → bytes_eq name x ≡ false → f x ≡ g x) → s ≡ g name → map f names ++ s ∷ [] ≡ map g (names ++ name ∷ [])
images_push f g names name s new same here =
    ap (λ xs. xs ++ s ∷ []) (map_same f g (bytes_eq name) names new same)
    ∙ ap (λ x. map g names ++ x ∷ []) here ∙ sym (map-append g names (name ∷ []))

pub other_objective : (o : Option (List ℕ)) (name x : List ℕ) → bytes_eq name x ≡ false → is_objective o x ≡ is_objective (first_name o name) x
other_objective None name x h = sym (bytes_eq-turn name x false h)
other_objective (Some first) name x h = refl

free_said : (o : Option (List ℕ)) (kept : List (List ℕ)) (name : List ℕ) → is_objective o name ≡ false → is_among name kept ≡ false → place_said (is_objective (first_name o name) name) kept name ≡ free_place o
free_said None kept name other new = ap (λ b. place_said b kept name) (same_bytes name)
free_said (Some first) kept name other new = ap (λ b. place_said b kept name) other ∙ ap (λ b. if b then Kept (place_among name kept) else Dropped) new

pub free_states : (o : Option (List ℕ)) (kept : List (List ℕ)) (sides ranges : List Pair) (names : List (List ℕ)) (name : List ℕ) → is_among name names ≡ false → is_objective o name ≡ false → is_among name kept ≡ false → is_named name sides ≡ false → is_named name ranges ≡ false
    → states_said o kept sides ranges names ++ fresh_state (free_place o) ∷ [] ≡ states_said (first_name o name) kept sides ranges (names ++ name ∷ [])
free_states o kept sides ranges names name new other unkept s r =
    images_push (λ row. state_said (is_objective o row) kept sides ranges row) (λ row. state_said (is_objective (first_name o name) row) kept sides ranges row) names name (fresh_state (free_place o)) new
    (λ x h. ap (λ b. state_said b kept sides ranges x) (other_objective o name x h))
    (fresh_said (is_objective (first_name o name) name) kept sides ranges name (free_place o) s r (free_said o kept name other unkept))

place_more : (b : Bool) (kept : List (List ℕ)) (name x : List ℕ) → bytes_eq x name ≡ false → place_said b kept x ≡ place_said b (kept ++ name ∷ []) x
place_more true kept name x h = refl
place_more false kept name x h =
    by_case (is_among x kept) _
    (λ known. rw (among_other x kept name h, known, place_known x kept name known) refl)
    (λ none. rw (among_other x kept name h, none) refl)

kept_place : (b : Bool) (kept : List (List ℕ)) (name : List ℕ) (k : ℕ) → b ≡ false → is_among name kept ≡ false → k ≡ length kept → place_said b (kept ++ name ∷ []) name ≡ Kept k
kept_place b kept name k other new at =
    let here : is_among name (kept ++ name ∷ []) ≡ true = among_push name kept name ∙ ap (λ c. c || bytes_eq name name) new ∙ same_bytes name in
    ap (λ c. place_said c (kept ++ name ∷ []) name) other
    ∙ ap (λ c. if c then Kept (place_among name (kept ++ name ∷ [])) else Dropped) here
    ∙ ap Kept (place_first kept name [] new ∙ sym at)

pub kept_states : (o : Option (List ℕ)) (kept : List (List ℕ)) (sides ranges : List Pair) (names : List (List ℕ)) (name : List ℕ) (k : ℕ) → is_among name names ≡ false → is_objective o name ≡ false → is_among name kept ≡ false → is_named name sides ≡ false → is_named name ranges ≡ false → k ≡ length kept
    → states_said o kept sides ranges names ++ fresh_state (Kept k) ∷ [] ≡ states_said o (kept ++ name ∷ []) sides ranges (names ++ name ∷ [])
kept_states o kept sides ranges names name k new other unkept s r at =
    images_push (λ row. state_said (is_objective o row) kept sides ranges row) (λ row. state_said (is_objective o row) (kept ++ name ∷ []) sides ranges row) names name (fresh_state (Kept k)) new
    (λ x h.
    let t : bytes_eq x name ≡ false = bytes_eq-turn name x false h in
    state_same (place_said (is_objective o x) kept x) (place_said (is_objective o x) (kept ++ name ∷ []) x) _ _ _ _ (place_more (is_objective o x) kept name x t)
    (ap (λ b. (is_objective o x || b) && is_named x sides) (sym (among_other x kept name t)))
    (ap (λ b. (is_objective o x || b) && is_named x ranges) (sym (among_other x kept name t))))
    (fresh_said (is_objective o name) (kept ++ name ∷ []) sides ranges name (Kept k) s r (kept_place (is_objective o name) kept name k other unkept at))

abbrev row : RowKind → List ℕ → Number → Option Number → MpsRow
row kind name a c = record { name = name; kind = kind; rhs = a; range = c }

row_same : (kind : RowKind) (name : List ℕ) (a b : Number) (c e : Option Number) → a ≡ b → c ≡ e → row kind name a c ≡ row kind name b e
row_same kind name a b c e h i = rw (h, i) refl

pub kept_rows : (sides ranges : List Pair) (rows : List RowLine) (kind : RowKind) (name : List ℕ) → is_named name sides ≡ false → is_named name ranges ≡ false
    → map (row_of sides ranges) rows ++ fresh_row kind name ∷ [] ≡ map (row_of sides ranges) (rows ++ record { kind = kind; name = name } ∷ [])
kept_rows sides ranges rows kind name s r =
    ap (λ x. map (row_of sides ranges) rows ++ x ∷ [])
    (row_same kind name (number_or_zero None) (number_or_zero (number_of name sides)) None (number_of name ranges) (ap number_or_zero (sym (number_none name sides s))) (sym (number_none name ranges r)))
    ∙ sym (map-append (row_of sides ranges) rows (record { kind = kind; name = name } ∷ []))

-- a right-hand side or a range

pub tested_said : (b : Bool) (kept : List (List ℕ)) (row : List ℕ) → is_tested (place_said b kept row) ≡ (b || is_among row kept)
tested_said true kept row = refl
tested_said false kept row = by_case (is_among row kept) _ (λ h. rw h refl) (λ h. rw h refl)

mark_side : (p : RowPlace) (t n m : Bool) → is_tested p ≡ t → marked_state Side (state p (t && n) (t && m)) ≡ state p (t && true) (t && m)
mark_side p true n m h = rw h refl
mark_side p false n m h = rw h refl

mark_range : (p : RowPlace) (t n m : Bool) → is_tested p ≡ t → marked_state Range (state p (t && n) (t && m)) ≡ state p (t && n) (t && true)
mark_range p true n m h = rw h refl
mark_range p false n m h = rw h refl

pub side_states : (o : Option (List ℕ)) (kept : List (List ℕ)) (sides ranges : List Pair) (names : List (List ℕ)) (q : Pair) → IsSingle (bytes_eq q.row) names → is_among q.row names ≡ true
    → with_marked_state Side (place_among q.row names) (states_said o kept sides ranges names) ≡ states_said o kept (sides ++ q ∷ []) ranges names
side_states o kept sides ranges names q single known =
    map_change (λ row. state_said (is_objective o row) kept sides ranges row) (λ row. state_said (is_objective o row) kept (sides ++ q ∷ []) ranges row) (marked_state Side) (fresh_state Dropped) (bytes_eq q.row) names single known
    (λ x h.
    state_same (place_said (is_objective o x) kept x) (place_said (is_objective o x) kept x) _ _ _ _ refl
    (ap (λ b. (is_objective o x || is_among x kept) && b) (sym (named_other x sides q (bytes_eq-turn q.row x false h)))) refl)
    (λ x h.
    mark_side (place_said (is_objective o x) kept x) (is_objective o x || is_among x kept) (is_named x sides) (is_named x ranges) (tested_said (is_objective o x) kept x)
    ∙ state_same (place_said (is_objective o x) kept x) (place_said (is_objective o x) kept x) _ _ _ _ refl
    (ap (λ b. (is_objective o x || is_among x kept) && b) (sym (named_here x sides q (bytes_eq-turn q.row x true h)))) refl)

pub range_states : (o : Option (List ℕ)) (kept : List (List ℕ)) (sides ranges : List Pair) (names : List (List ℕ)) (q : Pair) → IsSingle (bytes_eq q.row) names → is_among q.row names ≡ true
    → with_marked_state Range (place_among q.row names) (states_said o kept sides ranges names) ≡ states_said o kept sides (ranges ++ q ∷ []) names
range_states o kept sides ranges names q single known =
    map_change (λ row. state_said (is_objective o row) kept sides ranges row) (λ row. state_said (is_objective o row) kept sides (ranges ++ q ∷ []) row) (marked_state Range) (fresh_state Dropped) (bytes_eq q.row) names single known
    (λ x h.
    state_same (place_said (is_objective o x) kept x) (place_said (is_objective o x) kept x) _ _ _ _ refl refl
    (ap (λ b. (is_objective o x || is_among x kept) && b) (sym (named_other x ranges q (bytes_eq-turn q.row x false h)))))
    (λ x h.
    mark_range (place_said (is_objective o x) kept x) (is_objective o x || is_among x kept) (is_named x sides) (is_named x ranges) (tested_said (is_objective o x) kept x)
    ∙ state_same (place_said (is_objective o x) kept x) (place_said (is_objective o x) kept x) _ _ _ _ refl refl
    (ap (λ b. (is_objective o x || is_among x kept) && b) (sym (named_here x ranges q (bytes_eq-turn q.row x true h)))))

-- where a row isn't kept, its pair changes no row; where it is, the row of its name
pub place_by_test : (P : RowPlace → Type 0) (b : Bool) (kept : List (List ℕ)) (row : List ℕ) → (b ≡ true → P Objective) → (b ≡ false → is_among row kept ≡ false → P Dropped) → (b ≡ false → is_among row kept ≡ true → P (Kept (place_among row kept))) → P (place_said b kept row)
place_by_test P true kept row o d k = o refl
place_by_test P false kept row o d k = by_case (is_among row kept) _ (λ h. rw h (k refl h)) (λ h. rw h (d refl h))

pub first_unnamed : (b k n : Bool) → ((b || k) && n) ≡ false → k ≡ true → n ≡ false
first_unnamed true k true h at = absurd (false≢true (sym h))
first_unnamed false true true h at = absurd (false≢true (sym h))
first_unnamed false false true h at = absurd (false≢true at)
first_unnamed b k false h at = refl

module _ (sides ranges moresides moreranges : List Pair) (q : Pair) (rows : List RowLine) (change : MpsRow → MpsRow)
    (same : (x : RowLine) → bytes_eq q.row x.name ≡ false → row_of sides ranges x ≡ row_of moresides moreranges x) where
  rows-same : is_among q.row (map (λ line. line.name) rows) ≡ false → map (row_of sides ranges) rows ≡ map (row_of moresides moreranges) rows
  rows-same none = map_same (row_of sides ranges) (row_of moresides moreranges) (λ x. bytes_eq q.row x.name) rows (sym (list_any_images (λ line. line.name) (bytes_eq q.row) rows) ∙ none) same

  rows-change : IsSingle (bytes_eq q.row) (map (λ line. line.name) rows) → is_among q.row (map (λ line. line.name) rows) ≡ true
      → ((x : RowLine) → bytes_eq q.row x.name ≡ true → change (row_of sides ranges x) ≡ row_of moresides moreranges x)
      → slice_set (map (row_of sides ranges) rows) (place_among q.row (map (λ line. line.name) rows)) (change (slice_index_or (map (row_of sides ranges) rows) (place_among q.row (map (λ line. line.name) rows)) (fresh_row Less [])))
      ≡ map (row_of moresides moreranges) rows
  rows-change single known here =
      let place : place_among q.row (map (λ line. line.name) rows) ≡ position_or_len (λ (x : RowLine). bytes_eq q.row x.name) rows = position_images (λ (line : RowLine). line.name) (bytes_eq q.row) rows in
      rw place (map_change (row_of sides ranges) (row_of moresides moreranges) change (fresh_row Less []) (λ x. bytes_eq q.row x.name) rows
      (single_images (λ (line : RowLine). line.name) (bytes_eq q.row) rows single)
      (sym (list_any_images (λ line. line.name) (bytes_eq q.row) rows) ∙ known) same here)

pub side_rows : (o : Option (List ℕ)) (sides ranges : List Pair) (rows : List RowLine) (q : Pair) → IsSingle (bytes_eq q.row) (map (λ line. line.name) rows)
    → (is_objective o q.row ≡ true → is_among q.row (map (λ line. line.name) rows) ≡ false) → (is_single o (map (λ line. line.name) rows) q.row && is_named q.row sides) ≡ false
    → with_value Side (place_said (is_objective o q.row) (map (λ line. line.name) rows) q.row) (decimal_of q.numeral) (map (row_of sides ranges) rows) ≡ map (row_of (sides ++ q ∷ []) ranges) rows
side_rows o sides ranges rows q single apart none =
    let same : (x : RowLine) → bytes_eq q.row x.name ≡ false → row_of sides ranges x ≡ row_of (sides ++ q ∷ []) ranges x =
    λ x h. row_same x.kind x.name _ _ _ _ (ap number_or_zero (sym (number_other x.name sides q (bytes_eq-turn q.row x.name false h)))) refl in
    place_by_test (λ p. with_value Side p (decimal_of q.numeral) (map (row_of sides ranges) rows) ≡ map (row_of (sides ++ q ∷ []) ranges) rows) (is_objective o q.row) (map (λ line. line.name) rows) q.row
    (λ b. rows-same sides ranges (sides ++ q ∷ []) ranges q rows (valued_row Side (decimal_of q.numeral)) same (apart b))
    (λ b k. rows-same sides ranges (sides ++ q ∷ []) ranges q rows (valued_row Side (decimal_of q.numeral)) same k)
    (λ b k.
    let unnamed : is_named q.row sides ≡ false = first_unnamed (is_objective o q.row) (is_among q.row (map (λ line. line.name) rows)) (is_named q.row sides) none k in
    rows-change sides ranges (sides ++ q ∷ []) ranges q rows (valued_row Side (decimal_of q.numeral)) same single k
    (λ x h.
    row_same x.kind x.name _ _ _ _
    (ap number_or_zero (sym (number_here x.name sides q (ap (λ n. is_named n sides) (sym (eq_of q.row x.name h)) ∙ unnamed) (bytes_eq-turn q.row x.name true h)))) refl))

pub range_rows : (o : Option (List ℕ)) (sides ranges : List Pair) (rows : List RowLine) (q : Pair) → IsSingle (bytes_eq q.row) (map (λ line. line.name) rows)
    → (is_objective o q.row ≡ true → is_among q.row (map (λ line. line.name) rows) ≡ false) → (is_single o (map (λ line. line.name) rows) q.row && is_named q.row ranges) ≡ false
    → with_value Range (place_said (is_objective o q.row) (map (λ line. line.name) rows) q.row) (decimal_of q.numeral) (map (row_of sides ranges) rows) ≡ map (row_of sides (ranges ++ q ∷ [])) rows
range_rows o sides ranges rows q single apart none =
    let same : (x : RowLine) → bytes_eq q.row x.name ≡ false → row_of sides ranges x ≡ row_of sides (ranges ++ q ∷ []) x =
    λ x h. row_same x.kind x.name _ _ _ _ refl (sym (number_other x.name ranges q (bytes_eq-turn q.row x.name false h))) in
    place_by_test (λ p. with_value Range p (decimal_of q.numeral) (map (row_of sides ranges) rows) ≡ map (row_of sides (ranges ++ q ∷ [])) rows) (is_objective o q.row) (map (λ line. line.name) rows) q.row
    (λ b. rows-same sides ranges sides (ranges ++ q ∷ []) q rows (valued_row Range (decimal_of q.numeral)) same (apart b))
    (λ b k. rows-same sides ranges sides (ranges ++ q ∷ []) q rows (valued_row Range (decimal_of q.numeral)) same k)
    (λ b k.
    let unnamed : is_named q.row ranges ≡ false = first_unnamed (is_objective o q.row) (is_among q.row (map (λ line. line.name) rows)) (is_named q.row ranges) none k in
    rows-change sides ranges sides (ranges ++ q ∷ []) q rows (valued_row Range (decimal_of q.numeral)) same single k
    (λ x h.
    row_same x.kind x.name _ _ _ _ refl
    (sym (number_here x.name ranges q (ap (λ n. is_named n ranges) (sym (eq_of q.row x.name h)) ∙ unnamed) (bytes_eq-turn q.row x.name true h)))))

-- the objective's number

pub unnamed_objective : (b k n : Bool) → ((b || k) && n) ≡ false → b ≡ true → n ≡ false
unnamed_objective true k n h at = h
unnamed_objective false k n h at = absurd (false≢true at)

pub objective_other : (o : Option (List ℕ)) (pairs : List Pair) (q : Pair) → is_objective o q.row ≡ false → objective_number o (pairs ++ q ∷ []) ≡ objective_number o pairs
objective_other None pairs q h = refl
objective_other (Some first) pairs q h = ap number_or_zero (number_other first pairs q (bytes_eq-turn q.row first false h))

pub objective_here : (o : Option (List ℕ)) (pairs : List Pair) (q : Pair) → is_objective o q.row ≡ true → is_named q.row pairs ≡ false → objective_number o (pairs ++ q ∷ []) ≡ decimal_of q.numeral
objective_here None pairs q h none = absurd (false≢true h)
objective_here (Some first) pairs q h none =
    ap number_or_zero (number_here first pairs q (ap (λ n. is_named n pairs) (sym (eq_of q.row first h)) ∙ none) (bytes_eq-turn q.row first true h))

pub side_constant : (o : Option (List ℕ)) (kept : List (List ℕ)) (sides : List Pair) (q : Pair) → (is_single o kept q.row && is_named q.row sides) ≡ false
    → with_constant Side (place_said (is_objective o q.row) kept q.row) (decimal_of q.numeral) (negation (objective_number o sides)) ≡ negation (objective_number o (sides ++ q ∷ []))
side_constant o kept sides q none =
    place_by_test (λ p. with_constant Side p (decimal_of q.numeral) (negation (objective_number o sides)) ≡ negation (objective_number o (sides ++ q ∷ []))) (is_objective o q.row) kept q.row
    (λ b. ap negation (sym (objective_here o sides q b (unnamed_objective (is_objective o q.row) (is_among q.row kept) (is_named q.row sides) none b))))
    (λ b k. ap negation (sym (objective_other o sides q b)))
    (λ b k. ap negation (sym (objective_other o sides q b)))
