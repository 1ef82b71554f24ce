-- The commands of the program: their words, keys and counts of names.
use Rattle.std.specs.Prelude.{ℕ, List, [], ◌∷◌, codes, Option, Some, None, if◌then◌else◌, bytes_eq}
use Rattle.xsearch_words.specs.declared.command.Command.{Command}
use Rattle.xsearch_words.specs.declared.command.Command.TheVariants.{Solve, Alone, Check, Show, Gen, Sample}
use Rattle.xsearch_words.specs.declared.command.Key.{Key}
use Rattle.xsearch_words.specs.declared.command.Key.TheVariants.{Tasks, Threads, Work, Store, Cuts, Heuristics, DefaultUpper, Cert, Log}

-- the command of a word
abbrev pub command_of : List ℕ → Option Command
command_of word =
    if bytes_eq word (codes "solve") then Some Solve
    else if bytes_eq word (codes "alone") then Some Alone
    else if bytes_eq word (codes "check") then Some Check
    else if bytes_eq word (codes "show") then Some Show
    else if bytes_eq word (codes "gen") then Some Gen
    else if bytes_eq word (codes "sample") then Some Sample
    else None

-- how many names the command has
abbrev pub name_count : Command → ℕ
name_count Solve = 1
name_count Alone = 1
name_count Check = 2
name_count Show = 1
name_count Gen = 1
name_count Sample = 1

-- the keys of a command that searches the model of a file
abbrev pub search_keys : List Key
search_keys = Tasks ∷ Threads ∷ Work ∷ Store ∷ Cuts ∷ Heuristics ∷ DefaultUpper ∷ Cert ∷ Log ∷ []

-- the keys of the command
abbrev pub keys_of : Command → List Key
keys_of Solve = search_keys
keys_of Alone = search_keys
keys_of Check = DefaultUpper ∷ []
keys_of Show = []
keys_of Gen = []
keys_of Sample = Tasks ∷ Threads ∷ Work ∷ Store ∷ Cuts ∷ Heuristics ∷ []

-- what a word that gives the key a value begins with
abbrev pub front : Key → List ℕ
front Tasks = codes "--tasks="
front Threads = codes "--threads="
front Work = codes "--work="
front Store = codes "--store="
front Cuts = codes "--cuts="
front Heuristics = codes "--heuristics="
front DefaultUpper = codes "--default-upper="
front Cert = codes "--cert="
front Log = codes "--log="
