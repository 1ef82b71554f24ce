-- Files by name.
use Rattle.std.specs.Prelude.{ℕ, ◌≡◌, if◌then◌else◌, List, [], take, Option, Some, None, unwrap_or, bytes_eq}
use Rattle.std.specs.Option.{option_map}
use Rattle.std.specs.Ordering.{nat_cmp}
use Rattle.std.specs.Cmp.Lexicographic.{slice_cmp}
use Rattle.std.specs.BTreeMap.{get_by}
use Rattle.xsearch_words.specs.declared.files.FileMap.{FileMap}

-- the bytes of each file by the bytes of its name, and None where a name has no file
abbrev pub Files : Type 0
Files = List ℕ → Option (List ℕ)

-- no name has a file
abbrev pub no_files : Files
no_files name = None

-- the bytes of the file of this name, or no bytes where it has none
abbrev pub contents : Files → List ℕ → List ℕ
contents files name = unwrap_or (files name) []

-- the files, but with these bytes in the file of this name
abbrev pub with_file : List ℕ → List ℕ → Files → Files
with_file name bytes files other = if bytes_eq name other then Some bytes else files other

-- Where the files are told, the file of this name now holds these bytes, and each other name is as
-- before. Where they weren't told, they aren't told now.
abbrev pub SetsFile : Option Files → Option Files → List ℕ → List ℕ → Type 0
SetsFile old new name bytes = new ≡ option_map (with_file name bytes) old

-- the same of a front of these bytes
pub record SetsFront (old new : Option Files) (name bytes : List ℕ) : Type 0 where
  pub count : ℕ
  pub front : SetsFile old new name (take count bytes)

-- What a write of these bytes that failed leaves: the file of this name holds a front of them, or
-- all files are as before.
pub data MaySetFront (old new : Option Files) (name bytes : List ℕ) : Type 0 where
  Front : SetsFront old new name bytes → MaySetFront old new name bytes
  Nothing : new ≡ old → MaySetFront old new name bytes

-- the files of a map whose keys are names
abbrev pub files_in : FileMap → Files
files_in map name = get_by (λ key. slice_cmp nat_cmp name key.items) map.files
