-- The numbers under which refusals are printed.
use Rattle.std.specs.Prelude.{ℕ}
use Rattle.width_admit.specs.declared.refusal.Refusal.{Refusal}
use Rattle.width_admit.specs.declared.refusal.Refusal.TheVariants.{Continuous, NegativeUpper, Unbounded, BoundTooLarge, TooManyColumns, TooManyRows, TooManyTerms, RowTooFine, RowTooWide, ObjectiveTooWide}

-- the number of a reason, from 1 to 10 in the order in which they decide
abbrev pub kind_of : Refusal → ℕ
kind_of (Continuous col) = 1
kind_of (NegativeUpper col) = 2
kind_of (Unbounded col) = 3
kind_of (BoundTooLarge col) = 4
kind_of TooManyColumns = 5
kind_of TooManyRows = 6
kind_of TooManyTerms = 7
kind_of (RowTooFine row) = 8
kind_of (RowTooWide row) = 9
kind_of ObjectiveTooWide = 10

-- the column or row of a reason, and 0 where it has none
abbrev pub index_of : Refusal → ℕ
index_of (Continuous col) = col
index_of (NegativeUpper col) = col
index_of (Unbounded col) = col
index_of (BoundTooLarge col) = col
index_of TooManyColumns = 0
index_of TooManyRows = 0
index_of TooManyTerms = 0
index_of (RowTooFine row) = row
index_of (RowTooWide row) = row
index_of ObjectiveTooWide = 0
