-- What comes of the file of a name, whatever kind of file it is.
use Rattle.std.specs.Prelude.{ℕ, ◌≡◌, ◌≢◌, List, Result, Err}
use Rattle.xsearch_words.specs.Shelf.{HasNoFault, ShelfState}
use Rattle.xsearch.specs.Shelves.{IsOneRead}
use Rattle.xsearch.specs.declared.output.Output.{Output}
use Rattle.xsearch.specs.declared.output.Failure.{Failure}
use Rattle.xsearch.specs.declared.output.Failure.TheVariants.{ReadFailed}

-- what was found comes of what the file of this name is read as
pub record IsOfContent {C : Type 0} (IsReadAs : ShelfState → List ℕ → C → Type 0)
    (next : C → Result Output Failure → Type 0) (old : ShelfState) (name : List ℕ)
    (found : Result Output Failure) : Type 0 where
  pub content : C
  pub file : IsReadAs old name content
  pub comes : next content found

-- the file of this name gave nothing, for this reason
pub record HasNoContent (IsFailure : ShelfState → ShelfState → List ℕ → Failure → Type 0)
    (old new : ShelfState) (name : List ℕ) (found : Result Output Failure) : Type 0 where
  pub failure : Failure
  pub is : found ≡ Err failure
  pub cause : IsFailure old new name failure

-- what was found comes of what the file of this name is read as, or the file gave nothing
pub data IsOfFile {C : Type 0} (IsReadAs : ShelfState → List ℕ → C → Type 0)
    (IsFailure : ShelfState → ShelfState → List ℕ → Failure → Type 0)
    (next : C → Result Output Failure → Type 0) (old new : ShelfState)
    (name : List ℕ) (found : Result Output Failure) : Type 0 where
  OfContent : IsOfContent IsReadAs next old name found
      → IsOfFile IsReadAs IsFailure next old new name found
  NoContent : HasNoContent IsFailure old new name found
      → IsOfFile IsReadAs IsFailure next old new name found

-- one read of the file of this name, of which comes what was found; only a failed read is a fault
pub record IsFileJob {C : Type 0} (IsReadAs : ShelfState → List ℕ → C → Type 0)
    (IsFailure : ShelfState → ShelfState → List ℕ → Failure → Type 0)
    (next : C → Result Output Failure → Type 0) (old new : ShelfState)
    (name : List ℕ) (found : Result Output Failure) : Type 0 where
  pub read : IsOneRead old new
  pub of_file : IsOfFile IsReadAs IsFailure next old new name found
  pub quiet : found ≢ Err ReadFailed → HasNoFault old new

-- what was found comes of the job alone, without a call of the shelf
pub record IsJobWithoutFiles (next : Result Output Failure → Type 0) (old new : ShelfState)
    (found : Result Output Failure) : Type 0 where
  pub comes : next found
  pub unused : new ≡ old
