-- The words of entries, and how many of them are due.
use Rattle.std.proofs.Common.{ℕ, zero, suc, ◌+◌, ◌<◌, ◌≤◌, ◌≡◌, ◌&&◌, Bool, true, false, nat_lt, List, [], ◌∷◌, ◌++◌, length, map, take, drop, refl, sym, ap, ◌∙◌, append_assoc, arith}
use Rattle.std.specs.Prelude.{not, nat_eq, if◌then◌else◌}
use Rattle.std.proofs.Math.Seq.{take-append_seam, drop-append_seam}
use Rattle.std.proofs.lemmas.Bool.{lt-ltb}
use Rattle.std.proofs.lemmas.List.{length-append, length-map, map-append}
use Rattle.std.proofs.lemmas.Bool.Decides.{nat_tests}
use Rattle.clock_words.specs.Stories.{due, list_of, stamped_word, words_of}
use Rattle.clock_words.specs.declared.story.StampedWord.{StampedWord}
use Rattle.stamp_machine.specs.Orders.{AreInOrder, Each, IsNotLess}
use Rattle.stamp_machine.specs.Runs.{log, of_slot}
use Rattle.stamp_machine.proofs.Merges.{filter_both}
use Rattle.stamp_machine.proofs.Orders.{filter_all, filter_none, in_order_filtered}
use Rattle.work_stamp.specs.Words.{words}
use Rattle.work_stamp.specs.declared.stamped.KeyedEntry.{KeyedEntry}
use Rattle.version_store.specs.Hearing.{below_stamp, between, from_stamp, item_words}
use Rattle.version_store.specs.Stories.{entry_list, lists_from, stamped}

-- the list of a slot of a run
pub list_is : (history : List KeyedEntry) (first more slot : ℕ) → slot < more →
    list_of (lists_from history first more) slot ≡ entry_list (of_slot (first + slot) history)
list_is history first zero slot lt = absurd (omega arith)
list_is history first (suc more) zero lt =
    let same : first ≡ first + 0 = omega arith in
    ap (λ (n : ℕ). entry_list (of_slot n history)) same
list_is history first (suc more) (suc slot) lt =
    let same : suc first + slot ≡ first + suc slot = omega arith in
    list_is history (suc first) more slot (omega arith)
    ∙ ap (λ (n : ℕ). entry_list (of_slot n history)) same

pub list_of_slot : (history : List KeyedEntry) (slots slot : ℕ) → slot < slots →
    list_of (lists_from history 0 slots) slot ≡ entry_list (of_slot slot history)
list_of_slot history slots slot lt =
    let same : 0 + slot ≡ slot = omega arith in
    list_is history 0 slots slot lt ∙ ap (λ (n : ℕ). entry_list (of_slot n history)) same

-- words of entries behind others
pub entry_list-append : (xs ys : List KeyedEntry) →
    entry_list (xs ++ ys) ≡ entry_list xs ++ entry_list ys
entry_list-append [] ys = refl
entry_list-append (x ∷ xs) ys =
    let ws : List StampedWord = map (stamped_word x.key.stamp) (words (stamped x)) in
    ap (λ (l : List StampedWord). ws ++ l) (entry_list-append xs ys)
    ∙ sym (append_assoc ws (entry_list xs) (entry_list ys))

words_again : (stamp : ℕ) (ws : List ℕ) → words_of (map (stamped_word stamp) ws) ≡ ws
words_again stamp [] = refl
words_again stamp (w ∷ ws) = ap (λ (l : List ℕ). w ∷ l) (words_again stamp ws)

pub words_of_entries : (es : List KeyedEntry) → words_of (entry_list es) ≡ item_words (map stamped es)
words_of_entries [] = refl
words_of_entries (e ∷ es) =
    let ws : List ℕ = words (stamped e) in
    map-append (λ (w : StampedWord). w.word) (map (stamped_word e.key.stamp) ws) (entry_list es)
    ∙ (ap (λ (l : List ℕ). l ++ words_of (entry_list es)) (words_again e.key.stamp ws)
    ∙ ap (λ (l : List ℕ). ws ++ l) (words_of_entries es))

-- an order by stamps alone
stamps_from : (e : KeyedEntry) (es : List KeyedEntry) (stamp : ℕ) → stamp ≤ e.key.stamp →
    Each (λ later. IsNotLess later.key e.key) es → Each (λ later. stamp ≤ later.key.stamp) es
stamps_from e [] stamp le h = tt
stamps_from e (f ∷ fs) stamp le h =
    let first = h.0.stamps in (omega (arith, first), stamps_from e fs stamp le h.1)

not_below : (stamp : ℕ) (es : List KeyedEntry) → Each (λ e. stamp ≤ e.key.stamp) es →
    Each (λ e. nat_lt e.key.stamp stamp ≡ false) es
not_below stamp [] h = tt
not_below stamp (e ∷ es) h = (grind (arith, nat_tests, h.0), not_below stamp es h.1)

from_all : (stamp : ℕ) (es : List KeyedEntry) → Each (λ e. nat_lt e.key.stamp stamp ≡ false) es →
    Each (λ e. not (nat_lt e.key.stamp stamp) ≡ true) es
from_all stamp [] h = tt
from_all stamp (e ∷ es) h = (ap not h.0, from_all stamp es h.1)

-- entries in order are those below a stamp, and then those from it on
parts_by : (b : Bool) (stamp : ℕ) (e : KeyedEntry) (es : List KeyedEntry) →
    nat_lt e.key.stamp stamp ≡ b → Each (λ later. IsNotLess later.key e.key) es →
    es ≡ below_stamp stamp es ++ from_stamp stamp es →
    e ∷ es ≡ (if b then e ∷ below_stamp stamp es else below_stamp stamp es)
    ++ (if not b then e ∷ from_stamp stamp es else from_stamp stamp es)
parts_by true stamp e es t later h = ap (λ (l : List KeyedEntry). e ∷ l) h
parts_by false stamp e es t later h =
    let le : stamp ≤ e.key.stamp = grind (arith, nat_tests) in
    let none = filter_none (λ (x : KeyedEntry). nat_lt x.key.stamp stamp) es
    (not_below stamp es (stamps_from e es stamp le later)) in
    let all = filter_all (λ (x : KeyedEntry). not (nat_lt x.key.stamp stamp)) es
    (from_all stamp es (not_below stamp es (stamps_from e es stamp le later))) in
    sym (ap (λ (l : List KeyedEntry). l ++ e ∷ from_stamp stamp es) none
    ∙ ap (λ (l : List KeyedEntry). e ∷ l) all)

pub parts_by_stamp : (stamp : ℕ) (es : List KeyedEntry) → AreInOrder es →
    es ≡ below_stamp stamp es ++ from_stamp stamp es
parts_by_stamp stamp [] order = refl
parts_by_stamp stamp (e ∷ es) order =
    parts_by (nat_lt e.key.stamp stamp) stamp e es refl order.0
    (parts_by_stamp stamp es order.1)

-- a slot's log is what it has published, below a stamp
and_swap : (a b : Bool) → (a && b) ≡ (b && a)
and_swap true true = refl
and_swap true false = refl
and_swap false true = refl
and_swap false false = refl

pub log_is : (slot stamp : ℕ) (history : List KeyedEntry) →
    below_stamp stamp (of_slot slot history) ≡ log slot stamp history
log_is slot stamp history =
    filter_both (λ (e : KeyedEntry). nat_eq e.key.slot slot) (λ e. nat_lt e.key.stamp stamp)
    (λ e. nat_eq e.key.slot slot && nat_lt e.key.stamp stamp) history
    (λ e. and_swap (nat_lt e.key.stamp stamp) (nat_eq e.key.slot slot))

less_below : (stamp low high : ℕ) → low ≤ high →
    (nat_lt stamp low && nat_lt stamp high) ≡ nat_lt stamp low
less_below stamp low high le = grind (arith, nat_tests)

-- more of a log is what was known of it, and what lies between
pub more_is : (low high : ℕ) (es : List KeyedEntry) → low ≤ high → AreInOrder es →
    below_stamp high es ≡ below_stamp low es ++ between low high es
more_is low high es le order =
    let inner = filter_both (λ (e : KeyedEntry). nat_lt e.key.stamp high)
    (λ e. nat_lt e.key.stamp low) (λ e. nat_lt e.key.stamp low) es
    (λ e. less_below e.key.stamp low high le) in
    parts_by_stamp low (below_stamp high es)
    (in_order_filtered (λ e. nat_lt e.key.stamp high) es order)
    ∙ ap (λ (l : List KeyedEntry). l ++ between low high es) inner

-- words of one stamp are due together
due_same : (stamp clock : ℕ) (ws : List ℕ) (rest : List StampedWord) → stamp < clock →
    due (map (stamped_word stamp) ws ++ rest) clock ≡ length ws + due rest clock
due_same stamp clock [] rest lt = omega arith
due_same stamp clock (w ∷ ws) rest lt =
    let test : nat_lt stamp clock ≡ true = lt-ltb stamp clock lt in
    rw test (omega (arith, due_same stamp clock ws rest lt))

due_by : (b : Bool) (stamp : ℕ) (e : KeyedEntry) (es : List KeyedEntry) →
    nat_lt e.key.stamp stamp ≡ b → Each (λ later. IsNotLess later.key e.key) es →
    due (entry_list es) stamp ≡ length (entry_list (below_stamp stamp es)) →
    due (entry_list (e ∷ es)) stamp ≡
    length (entry_list (if b then e ∷ below_stamp stamp es else below_stamp stamp es))
due_by true stamp e es t later h =
    let lt : e.key.stamp < stamp = grind (arith, nat_tests) in
    let ws : List ℕ = words (stamped e) in
    let one : due (entry_list (e ∷ es)) stamp ≡ length ws + due (entry_list es) stamp =
    due_same e.key.stamp stamp ws (entry_list es) lt in
    let whole = length-append (map (stamped_word e.key.stamp) ws)
    (entry_list (below_stamp stamp es)) in
    let size = length-map ws (stamped_word e.key.stamp) in
    one ∙ (ap (λ (n : ℕ). length ws + n) h
    ∙ sym (whole ∙ ap (λ (n : ℕ). n + length (entry_list (below_stamp stamp es))) size))
due_by false stamp e es t later h =
    let le : stamp ≤ e.key.stamp = grind (arith, nat_tests) in
    let none = filter_none (λ (x : KeyedEntry). nat_lt x.key.stamp stamp) es
    (not_below stamp es (stamps_from e es stamp le later)) in
    let zero_due : due (entry_list (e ∷ es)) stamp ≡ 0 = rw t refl in
    zero_due ∙ sym (ap (λ (l : List KeyedEntry). length (entry_list l)) none)

pub due_is_length : (stamp : ℕ) (es : List KeyedEntry) → AreInOrder es →
    due (entry_list es) stamp ≡ length (entry_list (below_stamp stamp es))
due_is_length stamp [] order = refl
due_is_length stamp (e ∷ es) order =
    due_by (nat_lt e.key.stamp stamp) stamp e es refl order.0 (due_is_length stamp es order.1)

-- how many words lie between
pub due_between : (low high : ℕ) (es : List KeyedEntry) → low ≤ high → AreInOrder es →
    due (entry_list es) high ≡ due (entry_list es) low + length (entry_list (between low high es))
due_between low high es le order =
    due_is_length high es order
    ∙ (ap (λ (l : List KeyedEntry). length (entry_list l)) (more_is low high es le order)
    ∙ (ap length (entry_list-append (below_stamp low es) (between low high es))
    ∙ (length-append (entry_list (below_stamp low es)) (entry_list (between low high es))
    ∙ ap (λ (n : ℕ). n + length (entry_list (between low high es)))
    (sym (due_is_length low es order)))))

length_words : (l : List StampedWord) → length (words_of l) ≡ length l
length_words l = length-map l (λ (w : StampedWord). w.word)

-- the words that lie between, among all
pub words_between : (low high n : ℕ) (es : List KeyedEntry) → low ≤ high → AreInOrder es →
    n ≡ length (entry_list (between low high es)) →
    take n (drop (due (entry_list es) low) (words_of (entry_list es)))
    ≡ item_words (map stamped (between low high es))
words_between low high n es le order size =
    let A : List KeyedEntry = below_stamp low es in
    let B : List KeyedEntry = between low high es in
    let C : List KeyedEntry = from_stamp high es in
    let a : List ℕ = words_of (entry_list A) in
    let b : List ℕ = words_of (entry_list B) in
    let c : List ℕ = words_of (entry_list C) in
    let split : es ≡ (A ++ B) ++ C = parts_by_stamp high es order
    ∙ ap (λ (l : List KeyedEntry). l ++ C) (more_is low high es le order) in
    let f : List StampedWord → List ℕ = λ l. words_of l in
    let whole : words_of (entry_list es) ≡ a ++ (b ++ c) =
    ap (λ (l : List KeyedEntry). words_of (entry_list l)) split
    ∙ (ap f (entry_list-append (A ++ B) C)
    ∙ (map-append (λ (w : StampedWord). w.word) (entry_list (A ++ B)) (entry_list C)
    ∙ (ap (λ (l : List StampedWord). words_of l ++ c) (entry_list-append A B)
    ∙ (ap (λ (l : List ℕ). l ++ c) (map-append (λ (w : StampedWord). w.word) (entry_list A) (entry_list B))
    ∙ append_assoc a b c)))) in
    let from : due (entry_list es) low ≡ length a =
    due_is_length low es order ∙ sym (length_words (entry_list A)) in
    let count : n ≡ length b = size ∙ sym (length_words (entry_list B)) in
    ap (λ (k : ℕ). take k (drop (due (entry_list es) low) (words_of (entry_list es)))) count
    ∙ (ap (λ (k : ℕ). take (length b) (drop k (words_of (entry_list es)))) from
    ∙ (ap (λ (l : List ℕ). take (length b) (drop (length a) l)) whole
    ∙ (ap (λ (l : List ℕ). take (length b) l) (drop-append_seam a (b ++ c))
    ∙ (take-append_seam b c ∙ words_of_entries B))))
