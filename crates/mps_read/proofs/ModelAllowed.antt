use Rattle.std.proofs.Common.{◌≡◌, ℕ, Bool, true, false, not, ◌&&◌, nat_le, List, Option, Some, None, is_some, is_none, refl, if◌then◌else◌}
use Rattle.std.specs.Str.{bytes_eq}
use Rattle.std.proofs.lemmas.Bool.{true≢false}
use Rattle.mps_read.specs.Names.{is_among, is_long}
use Rattle.mps_lines.specs.Forms.{Form, Pair, Head, FreeRow, KeptRow, Entries, marker_word}
use Rattle.mps_read.specs.DraftKinds.{has_begun, draft_kind, is_repeated_in}
use Rattle.mps_read.specs.Kinds.{rank_of, is_in_order, has_bad_numeral, has_unknown_name, is_split_column}
use Rattle.mps_read.specs.declared.error.MpsKind.TheVariants.{SectionOrder, Numeral, RepeatedName, UnknownName, RepeatedEntry, SplitColumn, Marker, NoObjective, LongName}
use Rattle.mps_model.specs.declared.model.RowKind.{RowKind}
use Rattle.mps_lines.specs.declared.section.Section.TheVariants.{Name, Columns, Rhs, Ranges, Bounds, Endata}
use Rattle.mps_read.specs.declared.draft.Draft.{Draft}
use Rattle.mps_lines.proofs.Truths.{none_else}

-- what is known of a line that no test refuses

abbrev pub IsNew : List (List ℕ) → List ℕ → Type 0
IsNew names name = (is_among name names ≡ false) × (bytes_eq name marker_word ≡ false) × (is_long name ≡ false)

pub free_allowed : (d : Draft) (name : List ℕ) → draft_kind d (FreeRow name) ≡ None → IsNew d.row_names name
free_allowed d name h =
    let p = none_else (is_among name d.row_names) RepeatedName _ h in
    let q = none_else (bytes_eq name marker_word) Marker _ p.1 in
    (p.0, q.0, (none_else (is_long name) LongName None q.1).0)

pub row_allowed : (d : Draft) (kind : RowKind) (name : List ℕ) → draft_kind d (KeptRow kind name) ≡ None → IsNew d.row_names name
row_allowed d kind name h =
    let p = none_else (is_among name d.row_names) RepeatedName _ h in
    let q = none_else (bytes_eq name marker_word) Marker _ p.1 in
    (p.0, q.0, (none_else (is_long name) LongName None q.1).0)

fails_third : {A : Type 0} (a b c e f : Bool) (x y z v w : A) → (if a then Some x else if b then Some y else if c then Some z else if e then Some v else if f then Some w else None) ≡ None → (c ≡ false) × (f ≡ false)
fails_third a b c e f x y z v w h =
    let p = none_else c z _ (none_else b y _ (none_else a x _ h).1).1 in
    (p.0, (none_else f w None (none_else e v _ p.1).1).0)

pub entries_allowed : (d : Draft) (column : List ℕ) (first : Pair) (second : Option Pair) → draft_kind d (Entries column first second) ≡ None → (is_repeated_in d (Entries column first second) ≡ false) × (is_long column ≡ false)
entries_allowed d column first second h =
    let f : Form = Entries column first second in
    fails_third (has_bad_numeral f) (has_unknown_name d.row_names d.column_names f) (is_repeated_in d f) (is_split_column d.column_names f) (is_long column) Numeral UnknownName RepeatedEntry SplitColumn LongName h

-- section lines

holds : (a : Bool) → not a ≡ false → a ≡ true
holds true h = refl
holds false h = absurd (true≢false h)

first_holds : (a b : Bool) → not (a && b) ≡ false → a ≡ true
first_holds true b h = refl
first_holds false b h = absurd (true≢false h)

some_from : (o : Option (List ℕ)) → is_none o ≡ false → is_some o ≡ true
some_from None h = absurd (true≢false h)
some_from (Some name) h = refl

pub name_allowed : (d : Draft) (word : List ℕ) → draft_kind d (Head Name word) ≡ None → is_long word ≡ false
name_allowed d word h = (none_else (is_long word) LongName _ (none_else (not (is_in_order d.section (has_begun d Name) Name)) SectionOrder _ h).1).0

pub columns_allowed : (d : Draft) (word : List ℕ) → draft_kind d (Head Columns word) ≡ None → is_some d.objective ≡ true
columns_allowed d word h = some_from d.objective (none_else (is_none d.objective) NoObjective _ (none_else (not (is_in_order d.section (has_begun d Columns) Columns)) SectionOrder _ h).1).0

pub rhs_allowed : (d : Draft) (word : List ℕ) → draft_kind d (Head Rhs word) ≡ None → nat_le 4 (rank_of d.section) ≡ true
rhs_allowed d word h = first_holds (nat_le 4 (rank_of d.section)) (not d.rhs.has_begun) (none_else (not (is_in_order d.section (has_begun d Rhs) Rhs)) SectionOrder _ h).0

pub ranges_allowed : (d : Draft) (word : List ℕ) → draft_kind d (Head Ranges word) ≡ None → nat_le 4 (rank_of d.section) ≡ true
ranges_allowed d word h = first_holds (nat_le 4 (rank_of d.section)) (not d.ranges.has_begun) (none_else (not (is_in_order d.section (has_begun d Ranges) Ranges)) SectionOrder _ h).0

pub bounds_allowed : (d : Draft) (word : List ℕ) → draft_kind d (Head Bounds word) ≡ None → nat_le 4 (rank_of d.section) ≡ true
bounds_allowed d word h = first_holds (nat_le 4 (rank_of d.section)) (not d.bounds.has_begun) (none_else (not (is_in_order d.section (has_begun d Bounds) Bounds)) SectionOrder _ h).0

pub end_allowed : (d : Draft) (word : List ℕ) → draft_kind d (Head Endata word) ≡ None → nat_le 4 (rank_of d.section) ≡ true
end_allowed d word h = holds (nat_le 4 (rank_of d.section)) (none_else (not (is_in_order d.section (has_begun d Endata) Endata)) SectionOrder _ h).0
