-- What contracts see of the shelf of real files.
use Rattle.xsearch_words.specs.declared.fault.FaultLog.{FaultLog}
use Rattle.xsearch_words.specs.declared.file_shelf.FileShelf.{FileShelf}
use Rattle.xsearch_words.specs.Shelf.{ShelfState}
use Rattle.std.specs.Prelude.{None}

-- the faults so far
abbrev pub faults_of : {R : Type 0} → FileShelf R → FaultLog
faults_of shelf = shelf.faults

-- what it tells: nothing of the files
abbrev pub state_of : {R : Type 0} → FileShelf R → ShelfState
state_of shelf = record {
  files = None;
  faults = shelf.faults.count;
  last =
      shelf.faults.last;
  calls = shelf.calls;
}
