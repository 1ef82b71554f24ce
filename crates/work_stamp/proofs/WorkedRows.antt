-- Words worked out by hand, and what is read from lists of words.
use Rattle.std.proofs.Common.{◌≡◌, ℕ, pos, negsuc, [], ◌∷◌, true, false, refl}
use Rattle.std.specs.Prelude.{List, Result, Ok, Err}
use Rattle.ip_core.specs.declared.derivation.Derivation.TheVariants.{Gomory, Cover}
use Rattle.ip_core.specs.declared.row_ref.RowRef.TheVariants.{Model, Cut}
use Rattle.work_stamp.specs.declared.entry.Entry.{Entry}
use Rattle.work_stamp.specs.declared.entry.Entry.TheVariants as entry
use Rattle.work_stamp.specs.declared.error.WordsError.{WordsError}
use Rattle.work_stamp.specs.declared.error.WordsError.TheVariants.{Short, Kind, Length, Value}
use Rattle.work_stamp.specs.declared.key.Key.{Key}
use Rattle.work_stamp.specs.declared.stamped.WordRead.{WordRead}
use Rattle.work_stamp.specs.Keys.{is_below}
use Rattle.work_stamp.specs.Reads.{read}
use Rattle.work_stamp.specs.Words.{words}

-- the words of an entry at a stamp
abbrev at : ℕ → Entry → List ℕ
at stamp e = words (record { stamp = stamp; entry = e })

-- an entry read at a stamp from so many words
abbrev gives : ℕ → Entry → ℕ → Result WordRead WordsError
gives stamp e used = Ok (record { item = record { stamp = stamp; entry = e }; used = used })

abbrev refusal : WordsError → Result WordRead WordsError
refusal e = Err e

abbrev key : ℕ → ℕ → Key
key stamp slot = record { stamp = stamp; slot = slot }

start : at 0 (entry.Start 0) ≡ 4 ∷ 1 ∷ 0 ∷ 0 ∷ []
start = refl

cut_start : at 7 entry.CutStart ≡ 3 ∷ 2 ∷ 7 ∷ []
cut_start = refl

heur_start : at 8 (entry.HeurStart 5) ≡ 4 ∷ 3 ∷ 8 ∷ 5 ∷ []
heur_start = refl

done : at 9 entry.Done ≡ 3 ∷ 4 ∷ 9 ∷ []
done = refl

-- -2 and -1 in two's complement
found : at 10 (entry.Found (negsuc 1) (pos 5 ∷ negsuc 0 ∷ [])) ≡ 6 ∷ 5 ∷ 10 ∷ 18446744073709551614 ∷ 5 ∷ 18446744073709551615 ∷ []
found = refl

-- row 3 of the model with weight 7 and cut 2 with weight 9, divided by 4
gomory : at 11 (entry.Cut (Gomory (record { row = Model 3; weight = 7 } ∷ record { row = Cut 2; weight = 9 } ∷ []) 4)) ≡ 9 ∷ 6 ∷ 11 ∷ 0 ∷ 4 ∷ 6 ∷ 7 ∷ 5 ∷ 9 ∷ []
gomory = refl

-- columns 0 and 5 of cut 1
cover : at 12 (entry.Cut (Cover (Cut 1) (0 ∷ 5 ∷ []))) ≡ 7 ∷ 6 ∷ 12 ∷ 1 ∷ 3 ∷ 0 ∷ 5 ∷ []
cover = refl

split : at 217 (entry.Split 0 0 (pos 0) 4 0 (pos 0)) ≡ 9 ∷ 7 ∷ 217 ∷ 0 ∷ 0 ∷ 0 ∷ 4 ∷ 0 ∷ 0 ∷ []
split = refl

closed : at 13 (entry.Closed 4) ≡ 4 ∷ 8 ∷ 13 ∷ 4 ∷ []
closed = refl

halt : at 14 entry.Halt ≡ 3 ∷ 9 ∷ 14 ∷ []
halt = refl

-- what follows an entry isn't read
read_start : read (4 ∷ 1 ∷ 0 ∷ 0 ∷ 3 ∷ 9 ∷ []) ≡ gives 0 (entry.Start 0) 4
read_start = refl

read_found : read (6 ∷ 5 ∷ 10 ∷ 18446744073709551614 ∷ 5 ∷ 18446744073709551615 ∷ []) ≡ gives 10 (entry.Found (negsuc 1) (pos 5 ∷ negsuc 0 ∷ [])) 6
read_found = refl

-- a weighted sum of no rows, and a cover of no columns
read_bare_gomory : read (5 ∷ 6 ∷ 0 ∷ 0 ∷ 8 ∷ []) ≡ gives 0 (entry.Cut (Gomory [] 8)) 5
read_bare_gomory = refl

read_bare_cover : read (5 ∷ 6 ∷ 0 ∷ 1 ∷ 8 ∷ []) ≡ gives 0 (entry.Cut (Cover (Model 4) [])) 5
read_bare_cover = refl

-- no words, and fewer than the first one counts, whatever else is wrong
nothing : read [] ≡ refusal Short
nothing = refl

too_few : read (4 ∷ 1 ∷ 0 ∷ []) ≡ refusal Short
too_few = refl

too_few_for_two : read (2 ∷ []) ≡ refusal Short
too_few_for_two = refl

-- a first word below 3, before an unknown kind
counts_two : read (2 ∷ 12 ∷ 0 ∷ []) ≡ refusal Length
counts_two = refl

unknown_kind : read (3 ∷ 12 ∷ 0 ∷ []) ≡ refusal Kind
unknown_kind = refl

-- an unknown kind, before a wrong number of words
unknown_and_long : read (5 ∷ 10 ∷ 0 ∷ 0 ∷ 0 ∷ []) ≡ refusal Kind
unknown_and_long = refl

no_node : read (3 ∷ 1 ∷ 0 ∷ []) ≡ refusal Length
no_node = refl

no_form : read (3 ∷ 6 ∷ 0 ∷ []) ≡ refusal Length
no_form = refl

-- a form above 1, whatever the number of words
unknown_form : read (4 ∷ 6 ∷ 0 ∷ 2 ∷ []) ≡ refusal Value
unknown_form = refl

-- a row without a weight, before a row that is out of range
half_a_pair : read (6 ∷ 6 ∷ 0 ∷ 0 ∷ 1 ∷ 8589934592 ∷ []) ≡ refusal Length
half_a_pair = refl

far_row : read (7 ∷ 6 ∷ 0 ∷ 0 ∷ 1 ∷ 8589934592 ∷ 1 ∷ []) ≡ refusal Value
far_row = refl

far_column : read (9 ∷ 7 ∷ 0 ∷ 0 ∷ 4294967296 ∷ 0 ∷ 0 ∷ 0 ∷ 0 ∷ []) ≡ refusal Value
far_column = refl

keep_three : read (9 ∷ 7 ∷ 0 ∷ 0 ∷ 0 ∷ 0 ∷ 0 ∷ 3 ∷ 0 ∷ []) ≡ refusal Value
keep_three = refl

-- keys by stamp, then by slot
lesser_stamp : is_below (key 3 9) (key 4 0) ≡ true
lesser_stamp = refl

lesser_slot : is_below (key 4 0) (key 4 1) ≡ true
lesser_slot = refl

same_key : is_below (key 4 1) (key 4 1) ≡ false
same_key = refl

greater_stamp : is_below (key 5 0) (key 4 1) ≡ false
greater_stamp = refl
