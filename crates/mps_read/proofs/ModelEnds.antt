use Rattle.std.proofs.Common.{◌≡◌, ℕ, true, List, [], ◌∷◌, length, map, Option, Some, None, is_some, refl, sym, subst}
use Rattle.std.proofs.lemmas.Bool.{false≢true}
use Rattle.std.proofs.lemmas.List.Elements.{All-nil, All-weaker}
use Rattle.ip_core.specs.Decimals.{IsDecimal}
use Rattle.ip_core.proofs.DecimalReads.{zero_is}
use Rattle.mps_lines.specs.Forms.{Form, Blank, Spoilt, Head, UnknownHead, Stray, Miscounted, SenseLine, FreeRow, KeptRow, UntypedRow, Marker, UnknownMarker, Entries, Values, BoundLine, UntypedBound, is_end}
use Rattle.mps_read.specs.DraftKinds.{draft_kind}
use Rattle.mps_read.specs.Drafts.{IsDraft, first_draft}
use Rattle.mps_read.specs.Readings.{is_maximise, name_or_empty}
use Rattle.mps_read.specs.Steps.{draft_model}
use Rattle.mps_model.specs.MpsModels.{IsMpsRow, IsMpsCol, IsMpsModel}
use Rattle.mps_model.specs.declared.model.MpsCol.{MpsCol}
use Rattle.mps_lines.specs.declared.section.Section.TheVariants.{Name, Objsense, Rows, Columns, Rhs, Ranges, Bounds, Endata}
use Rattle.mps_read.specs.declared.draft.Draft.{Draft}
use Rattle.mps_read.proofs.ModelLists.{AreApart, distinct}
use Rattle.mps_read.proofs.ModelFields.{name_is}
use Rattle.mps_read.proofs.ModelDrafts.{IsHeader, names_of, AreRows, rows_in, IsColumn, AreColumns, IsReadable}
use Rattle.mps_read.proofs.ModelAllowed.{end_allowed}

-- the draft before the first line and that at the end

-- before the first line
pub first_readable : IsReadable first_draft
first_readable = record {
  header = record { name = name_is [] refl refl; row_name = tt; has_objective = λ h. absurd (false≢true h) };
  constant_is = zero_is;
  rows_are = record { each = All-nil IsMpsRow; apart = tt; known = tt };
  single = record { each = λ r s k hr hs. cc };
  columns = record { each = All-nil (IsColumn 0); same_names = refl; apart = tt };
  marks_are = record { each = λ r k col at none. tt };
}

-- at the end

pub end_objective : (d : Draft) (form : Form) → IsReadable d → draft_kind d form ≡ None → is_end form ≡ true → is_some d.objective ≡ true
end_objective d Blank is a h = absurd (false≢true h)
end_objective d Spoilt is a h = absurd (false≢true h)
end_objective d (Head Name word) is a h = absurd (false≢true h)
end_objective d (Head Objsense word) is a h = absurd (false≢true h)
end_objective d (Head Rows word) is a h = absurd (false≢true h)
end_objective d (Head Columns word) is a h = absurd (false≢true h)
end_objective d (Head Rhs word) is a h = absurd (false≢true h)
end_objective d (Head Ranges word) is a h = absurd (false≢true h)
end_objective d (Head Bounds word) is a h = absurd (false≢true h)
end_objective d (Head Endata word) is a h = is.header.has_objective (end_allowed d word a)
end_objective d UnknownHead is a h = absurd (false≢true h)
end_objective d Stray is a h = absurd (false≢true h)
end_objective d Miscounted is a h = absurd (false≢true h)
end_objective d (SenseLine word) is a h = absurd (false≢true h)
end_objective d (FreeRow name) is a h = absurd (false≢true h)
end_objective d (KeptRow kind name) is a h = absurd (false≢true h)
end_objective d UntypedRow is a h = absurd (false≢true h)
end_objective d (Marker is_integer) is a h = absurd (false≢true h)
end_objective d UnknownMarker is a h = absurd (false≢true h)
end_objective d (Entries column first second) is a h = absurd (false≢true h)
end_objective d (Values kind set first second) is a h = absurd (false≢true h)
end_objective d (BoundLine kind set column numeral) is a h = absurd (false≢true h)
end_objective d UntypedBound is a h = absurd (false≢true h)

column_is : (n kept : ℕ) (col : MpsCol) → n ≡ kept → IsColumn kept col → IsMpsCol n col
column_is n kept col same is =
    subst (λ (m : ℕ). IsMpsCol m col) (sym same)
    (record { name = is.name; cost = is.cost; entries = is.entries; once = distinct (rows_in col) 0 is.once; low = is.low; high = is.high })

model_by : (d : Draft) (o : Option (List ℕ)) → IsHeader d.section d.name o → AreRows o d.rows d.row_names → IsDecimal d.constant → AreColumns d.kept d.cols d.column_names → length d.rows ≡ d.kept → is_some o ≡ true
    → IsMpsModel (record { name = d.name; maximise = is_maximise d.maximise; objective = name_or_empty o; constant = d.constant; rows = d.rows; cols = d.cols })
model_by d None header rows constant columns kept some = absurd (false≢true some)
model_by d (Some name) header rows constant columns kept some = record {
  name = header.name;
  objective = header.row_name;
  constant = constant;
  rows = rows.each;
  cols = All-weaker (IsColumn d.kept) (IsMpsCol (length d.rows)) (λ col is. column_is (length d.rows) d.kept col kept is) d.cols columns.each;
  row_names = distinct (name ∷ names_of d.rows) [] rows.apart;
  column_names = distinct (map (λ col. col.name) d.cols) [] (subst (λ (ns : List (List ℕ)). AreApart ns) (sym columns.same_names) columns.apart);
}

pub model_is : (d : Draft) → IsDraft d → IsReadable d → is_some d.objective ≡ true → IsMpsModel (draft_model d)
model_is d draft is some = model_by d d.objective is.header is.rows_are is.constant_is is.columns draft.rows some
