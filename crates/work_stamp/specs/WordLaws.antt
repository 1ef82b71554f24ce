-- What words and reading them have to do with each other.
use Rattle.std.specs.Prelude.{ℕ, ◌≡◌, List, [], ◌++◌, length, All, Ok}
use Rattle.work_stamp.specs.declared.stamped.Stamped.{Stamped}
use Rattle.work_stamp.specs.declared.stamped.WordRead.{WordRead}
use Rattle.work_stamp.specs.Reads.{read}
use Rattle.work_stamp.specs.Words.{words}
use Rattle.work_stamp.specs.Writable.{HasWords, IsWord}

-- reading words gives the item and its number of words, whatever follows them
abbrev pub AreReadAgain : Type 0
AreReadAgain = (item : Stamped) (rest : List ℕ) → HasWords item.entry →
    read (words item ++ rest) ≡ Ok (record { item = item; used = length (words item) })

-- the words of an item are not the words of another with more behind them
abbrev pub AreNoFronts : Type 0
AreNoFronts = (a b : Stamped) (rest : List ℕ) → HasWords a.entry → HasWords b.entry →
    words b ≡ words a ++ rest → rest ≡ []

-- a list that begins with the words of an item
pub record HasWordsInFront (ws : List ℕ) (r : WordRead) : Type 0 where
  pub rest : List ℕ
  pub whole : ws ≡ words r.item ++ rest
  pub used : r.used ≡ length (words r.item)

-- an item is read only from a list that begins with its words
abbrev pub AreReadFromWords : Type 0
AreReadFromWords = (ws : List ℕ) (r : WordRead) → All IsWord ws → read ws ≡ Ok r →
    HasWordsInFront ws r
