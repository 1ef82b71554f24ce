-- What contracts see of a shelf in memory.
use Rattle.std.specs.Prelude.{ℕ, Bool, ◌||◌, List, is_none, Some}
use Rattle.xsearch_words.specs.Calls.{next_fails}
use Rattle.xsearch_words.specs.Files.{Files, files_in}
use Rattle.xsearch_words.specs.declared.calls.Calls.{Calls}
use Rattle.xsearch_words.specs.declared.fault.FaultLog.{FaultLog}
use Rattle.xsearch_words.specs.declared.memory_shelf.MemoryShelf.{MemoryShelf}
use Rattle.xsearch_words.specs.Shelf.{ShelfState}

-- its files
abbrev pub files_of : MemoryShelf → Files
files_of shelf = files_in shelf.files

-- the calls so far, and those that are to fail
abbrev pub calls_of : MemoryShelf → Calls
calls_of shelf = shelf.calls

-- the faults so far
abbrev pub faults_of : MemoryShelf → FaultLog
faults_of shelf = shelf.faults

-- whether the next call fails if it is a read of this name: it is to fail, or the name has no file
abbrev pub read_fails : MemoryShelf → List ℕ → Bool
read_fails shelf name = next_fails shelf.calls || is_none (files_of shelf name)

-- what it tells
abbrev pub state_of : MemoryShelf → ShelfState
state_of shelf = record {
  files = Some (files_of shelf);
  faults = (faults_of shelf).count;
  last = (faults_of shelf).last;
  calls = (calls_of shelf).made;
}
