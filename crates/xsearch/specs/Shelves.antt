-- The files that a shelf holds, and their limits of length.
use Rattle.std.specs.Prelude.{ℕ, ◌≡◌, ◌<◌, ◌≤◌, List, length, IfSome}
use Rattle.xsearch_words.specs.Faults.{HasFailed, failed_read, next_count}
use Rattle.xsearch_words.specs.Files.{contents}
use Rattle.xsearch_words.specs.Shelf.{ShelfState}
use Rattle.xsearch.specs.declared.output.Failure.{Failure}
use Rattle.xsearch.specs.declared.output.Failure.TheVariants.{Words, Length, Mps, Model, Cert, ReadFailed, WriteFailed, Memory}

-- These bytes, no more than a file of the kind may have, are those that the shelf holds under the
-- name. Where it doesn't tell its files, they are some bytes.
pub record IsFile (most : ℕ) (shelf : ShelfState) (name bytes : List ℕ) : Type 0 where
  pub told : IfSome shelf.files (λ files. bytes ≡ contents files name)
  pub short : length bytes ≤ most

-- the file of this name has more bytes than a file of the kind may have
pub record IsLongFile (most : ℕ) (shelf : ShelfState) (name : List ℕ) : Type 0 where
  pub told : IfSome shelf.files (λ files. most < length (contents files name))

-- one call was made of the shelf, and its files are as before
pub record IsOneRead (old new : ShelfState) : Type 0 where
  pub files : new.files ≡ old.files
  pub calls : new.calls ≡ next_count old.calls

-- Why there are no bytes of the file of this name: the file is too long, the read failed, or there
-- was no memory, which is free. No other failure comes of it.
abbrev pub IsBytesFailure : ℕ → ShelfState → ShelfState → List ℕ → Failure → Type 0
IsBytesFailure most old new name Words = ⊥
IsBytesFailure most old new name Length = IsLongFile most old name
IsBytesFailure most old new name (Mps line kind) = ⊥
IsBytesFailure most old new name (Model reason) = ⊥
IsBytesFailure most old new name (Cert line kind) = ⊥
IsBytesFailure most old new name ReadFailed =
    HasFailed old.faults new.faults new.last (failed_read name)
IsBytesFailure most old new name (WriteFailed place) = ⊥
IsBytesFailure most old new name Memory = Unit {0}
