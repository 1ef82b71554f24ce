-- What becomes of the model file of a name.
use Rattle.std.specs.Prelude.{ℕ, ◌≡◌, ◌≤◌, ◌^◌, List, length, Option, Some, Result, Err}
use Rattle.mps_model.specs.declared.model.MpsModel.{MpsModel}
use Rattle.mps_read.specs.Readings.{Reads, IsRefused}
use Rattle.mps_read.specs.declared.error.MpsKind.{MpsKind}
use Rattle.width_admit.specs.Admission.{refusal}
use Rattle.width_admit.specs.declared.refusal.Refusal.{Refusal}
use Rattle.xsearch_words.specs.Shelf.{ShelfState}
use Rattle.xsearch.specs.Shelves.{IsBytesFailure, IsFile}
use Rattle.xsearch.specs.declared.output.Output.{Output}
use Rattle.xsearch.specs.declared.output.Failure.{Failure}
use Rattle.xsearch.specs.declared.output.Failure.TheVariants.{Words, Length, Mps, Model, Cert, ReadFailed, WriteFailed, Memory}

-- the file of this name reads as this model
pub record IsModelFile (shelf : ShelfState) (name : List ℕ) (mps : MpsModel) : Type 0 where
  pub bytes : List ℕ
  pub file : IsFile (2 ^ 24) shelf name bytes
  pub reads : Reads bytes mps

-- the file of this name is refused at this line
pub record IsRefusedFile (shelf : ShelfState) (name : List ℕ) (line : ℕ)
    (kind : MpsKind) : Type 0 where
  pub bytes : List ℕ
  pub file : IsFile (2 ^ 24) shelf name bytes
  pub refused : IsRefused bytes line kind

-- Why there is no model of the file of this name: the file is too long, the read failed, a line is
-- refused, or there was no memory, which is free. No other failure comes of it.
abbrev pub IsModelFailure : ShelfState → ShelfState → List ℕ → Failure → Type 0
IsModelFailure old new name (Mps line kind) = IsRefusedFile old name line kind
IsModelFailure old new name Words = ⊥
IsModelFailure old new name (Model reason) = ⊥
IsModelFailure old new name (Cert line kind) = ⊥
IsModelFailure old new name (WriteFailed place) = ⊥
IsModelFailure old new name Length = IsBytesFailure (2 ^ 24) old new name Length
IsModelFailure old new name ReadFailed = IsBytesFailure (2 ^ 24) old new name ReadFailed
IsModelFailure old new name Memory = IsBytesFailure (2 ^ 24) old new name Memory

-- the reason why a file's model isn't admitted
pub record IsRefusal (upper : Option ℕ) (mps : MpsModel)
    (found : Result Output Failure) : Type 0 where
  pub reason : Refusal
  pub is : found ≡ Err (Model reason)
  pub refused : refusal mps upper ≡ Some reason

-- a model has few rows and columns
pub record IsSmall (mps : MpsModel) : Type 0 where
  pub rows : length mps.rows ≤ 2 ^ 30
  pub cols : length mps.cols ≤ 2 ^ 30
