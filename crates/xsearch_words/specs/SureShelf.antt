-- What contracts see of a shelf in memory whose calls don't fail.
use Rattle.xsearch_words.specs.Files.{Files, files_in}
use Rattle.xsearch_words.specs.declared.sure_shelf.SureShelf.{SureShelf}
use Rattle.xsearch_words.specs.Shelf.{ShelfState}
use Rattle.std.specs.Prelude.{Some, None}

-- its files
abbrev pub files_of : SureShelf → Files
files_of shelf = files_in shelf.files

-- what it tells
abbrev pub state_of : SureShelf → ShelfState
state_of shelf = record {
  files = Some (files_of shelf);
  faults = 0;
  last = None;
  calls =
      shelf.calls;
}
