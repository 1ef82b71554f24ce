-- The form of the words that follow a command: names and options.
use Rattle.std.specs.Prelude.{ℕ, ◌≢◌, IsTrue, bytes_eq, Bool, true, false, not, ◌||◌, ◌&&◌, ◌==◌, nat_le, nat_eq, if◌then◌else◌, List, [], ◌∷◌, length, drop, Option, Some, None, is_some, filter, filter_map}
use Rattle.std.specs.List.{list_all, list_any, starts_with, slice_get}
use Rattle.xsearch_words.specs.Commands.{name_count, keys_of, front}
use Rattle.xsearch_words.specs.declared.command.Command.{Command}
use Rattle.xsearch_words.specs.declared.command.Key.{Key}

-- a name isn't empty and doesn't begin with `-`
abbrev pub is_name : List ℕ → Bool
is_name [] = false
is_name (b ∷ bs) = not (b == 45)

-- a name that isn't this one
pub record IsOtherName (taken name : List ℕ) : Type 0 where
  pub is : IsTrue (is_name name)
  pub differs : name ≢ taken

-- The name of an option's value, which isn't to be this one, if the option is given. None where the
-- value is no such name.
abbrev pub other_name : List ℕ → Option (List ℕ) → Option (Option (List ℕ))
other_name taken None = Some None
other_name taken (Some value) =
    if is_name value && not (bytes_eq value taken) then Some (Some value) else None

-- whether two names, where both are given, differ
abbrev pub names_differ : Option (List ℕ) → Option (List ℕ) → Bool
names_differ None other = true
names_differ (Some name) None = true
names_differ (Some name) (Some other) = not (bytes_eq name other)

-- the names among the words, in order
abbrev pub names : List (List ℕ) → List (List ℕ)
names words = filter is_name words

-- the name at this place, counted from 0
abbrev pub name_at : ℕ → List (List ℕ) → Option (List ℕ)
name_at place words = slice_get (names words) place

-- the value that a word gives the key: what follows `--key=` in it
abbrev pub value_in : Key → List ℕ → Option (List ℕ)
value_in key word = if starts_with nat_eq word (front key)
    then Some (drop (length (front key)) word) else None

-- the word gives the key a value
abbrev pub gives_value : List ℕ → Key → Bool
gives_value word key = is_some (value_in key word)

-- the values that the words give the key
abbrev pub values : Key → List (List ℕ) → List (List ℕ)
values key words = filter_map (value_in key) words

-- the first of them
abbrev pub value : Key → List (List ℕ) → Option (List ℕ)
value key words = slice_get (values key words) 0

-- the word is a name or gives one of the keys a value
abbrev pub is_known : List Key → List ℕ → Bool
is_known keys word = is_name word || list_any (gives_value word) keys

-- the words that give the key a value, in order
abbrev pub words_of : Key → List (List ℕ) → List (List ℕ)
words_of key words = filter (λ word. gives_value word key) words

-- the key has at most one value
abbrev pub is_single : List (List ℕ) → Key → Bool
is_single words key = nat_le (length (words_of key words)) 1

-- The words have the command's form: each is a name or gives one of its keys a value, there are as
-- many names as it has, and each of its keys has at most one value.
abbrev pub has_form : Command → List (List ℕ) → Bool
has_form command words = list_all (is_known (keys_of command)) words && length (names words) ==
    name_count command && list_all (is_single words) (keys_of command)
