-- Rows of words that are fetched or put one after the other.
use Rattle.std.proofs.Common.{ℕ, zero, suc, ◌+◌, ◌<◌, ◌≤◌, ◌≡◌, List, [], ◌∷◌, length, map, set, take, drop, slice_index, refl, sym, ap, ◌∙◌, add-zero, arith}
use Rattle.std.proofs.lemmas.List.{get_or-drop}
use Rattle.std.proofs.Common.{length-drop, length-take, subst}
use Rattle.std.proofs.lemmas.List.{length-map}
use Rattle.clock_words.specs.Stories.{AreWithin, Lists, list_of, stamp_at, stamped_word, word_at}
use Rattle.clock_words.specs.Views.{after_fetch, after_put}
use Rattle.clock_words.specs.declared.story.StampedWord.{StampedWord}
use Rattle.clock_words.specs.declared.view.View.{View}

-- a row that is as another up to a place, and gets the other's item there
next_item : (out ys : List ℕ) (i w : ℕ) → i < length out → i < length ys → take i out ≡ take i ys
    → w ≡ slice_index ys i
    → take (suc i) (set out i w) ≡ take (suc i) ys
next_item [] ys i w a b e f = absurd (omega arith)
next_item (x ∷ xs) [] i w a b e f = absurd (omega arith)
next_item (x ∷ xs) (y ∷ ys) zero w a b e f = ap (λ (n : ℕ). n ∷ []) f
next_item (x ∷ xs) (y ∷ ys) (suc i) w a b e f = let head : x ≡ y = cc in
    let tail : take i xs ≡ take i ys = cc in
    let rest : take (suc i) (set xs i w) ≡ take (suc i) ys =
    next_item xs ys i w (omega arith) (omega arith) tail f in cc

-- one more word is fetched
pub next_word : (out words : List ℕ) (from i w : ℕ) → i < length out → from + i < length words
    → take i out ≡ take i (drop from words) → w ≡ slice_index words (from + i)
    → take (i + 1) (set out i w) ≡ take (i + 1) (drop from words)
next_word out words from i w short within e is =
    let there : i < length (drop from words) = omega (arith, length-drop from words) in
    let item : slice_index (drop from words) i ≡ slice_index words (from + i) =
    get_or-drop from words i 0 in
    let P : ℕ → Type 0 = λ n. take n (set out i w) ≡ take n (drop from words) in
    let one : suc i ≡ i + 1 = omega arith in
    subst P one (next_item out (drop from words) i w short there e (is ∙ sym item))

pub all_taken : (out : List ℕ) (n : ℕ) → length out ≡ n → take n out ≡ out
all_taken [] zero e = refl
all_taken [] (suc n) e = absurd (omega arith)
all_taken (x ∷ xs) zero e = absurd (omega arith)
all_taken (x ∷ xs) (suc n) e = ap (λ (l : List ℕ). x ∷ l) (all_taken xs n (omega arith))

-- counting once and then once more is counting both
add_again : (xs : List ℕ) (slot n m : ℕ)
    → set (set xs slot (slice_index xs slot + n)) slot (slice_index
    (set xs slot (slice_index xs slot + n)) slot + m)
    ≡ set xs slot (slice_index xs slot + (n + m))
add_again [] slot n m = refl
add_again (x ∷ xs) zero n m = ap (λ (k : ℕ). k ∷ xs) (omega arith)
add_again (x ∷ xs) (suc slot) n m = ap (λ (l : List ℕ). x ∷ l) (add_again xs slot n m)

add_nothing : (xs : List ℕ) (slot : ℕ) → set xs slot (slice_index xs slot + 0) ≡ xs
add_nothing [] slot = refl
add_nothing (x ∷ xs) zero = ap (λ (k : ℕ). k ∷ xs) (add-zero x)
add_nothing (x ∷ xs) (suc slot) = ap (λ (l : List ℕ). x ∷ l) (add_nothing xs slot)

pub fetch_again : (slot n : ℕ) (v : View) → after_fetch slot 1 (after_fetch slot n v)
    ≡ after_fetch slot (n + 1) v
fetch_again slot n v = ap (λ (l : List ℕ). let w : View = record v { fetched = l } in w)
    (add_again v.fetched slot n 1)

pub fetch_nothing : (slot : ℕ) (v : View) → after_fetch slot 0 v ≡ v
fetch_nothing slot v = ap (λ (l : List ℕ). let w : View = record v { fetched = l } in w)
    (add_nothing v.fetched slot)

pub put_again : (n : ℕ) (v : View) → after_put 1 (after_put n v) ≡ after_put (n + 1) v
put_again n v = let e : v.written + n + 1 ≡ v.written + (n + 1) = omega arith in
    ap (λ (k : ℕ). let w : View = record v { written = k } in w) e

pub put_nothing : (v : View) → after_put 0 v ≡ v
put_nothing v = ap (λ (k : ℕ). let w : View = record v { written = k } in w) (add-zero v.written)

-- the word and the stamp at a place of a list whose front is these words at this stamp
pub record HasItem (list : List StampedWord) (place word stamp : ℕ) : Type 0 where
  pub short : place < length list
  pub word_is : word ≡ word_at list place
  pub stamp_is : stamp_at list place ≡ stamp

front_item : (list : List StampedWord) (words : List ℕ) (stamp i : ℕ)
    → take (length words) list ≡ map (stamped_word stamp) words
    → i < length words → HasItem list i (slice_index words i) stamp
front_item list [] stamp i e lt = absurd (omega arith)
front_item [] (x ∷ xs) stamp i e lt = absurd (cc)
front_item (w ∷ ws) (x ∷ xs) stamp zero e lt = let same : w ≡ stamped_word stamp x = cc in record {
  short = omega arith;
  word_is = sym (ap (λ (z : StampedWord). z.word) same);
  stamp_is = ap (λ (z : StampedWord). z.stamp) same;
}
front_item (w ∷ ws) (x ∷ xs) stamp (suc i) e lt = let tail : take (length xs) ws ≡ map
    (stamped_word stamp) xs = cc in
    let rest = front_item ws xs stamp i tail (omega arith) in record {
      short = let a = rest.short in omega arith;
      word_is = rest.word_is;
      stamp_is = rest.stamp_is;
    }

item_after : (list : List StampedWord) (skip i place word stamp : ℕ) → place ≡ skip + i
    → HasItem (drop skip list) i word stamp → HasItem list place word stamp
item_after list zero i place word stamp e item = let same : i ≡ place = omega arith in
    let P : ℕ → Type 0 = λ k. HasItem list k word stamp in subst P same item
item_after [] (suc skip) i place word stamp e item = absurd (let a = item.short in omega arith)
item_after (w ∷ ws) (suc skip) i zero word stamp e item = absurd (omega arith)
item_after (w ∷ ws) (suc skip) i (suc place) word stamp e item =
    let rest = item_after ws skip i place word stamp (omega arith) item in record {
      short = let a = rest.short in omega arith;
      word_is = rest.word_is;
      stamp_is = rest.stamp_is;
    }

-- each of the next words stands in the list with the stamp
pub next_put : (list : List StampedWord) (words : List ℕ) (written stamp i : ℕ)
    → take (length words) (drop written list) ≡ map (stamped_word stamp) words → i < length words
    → HasItem list (written + i) (slice_index words i) stamp
next_put list words written stamp i e lt =
    item_after list written i (written + i) (slice_index words i) stamp refl
    (front_item (drop written list) words stamp i e lt)

-- where these are the next words of a list, there are so many more
pub as_many_next : (list : List StampedWord) (words : List ℕ) (written stamp : ℕ)
    → written ≤ length list
    → take (length words) (drop written list) ≡ map (stamped_word stamp) words
    → written + length words ≤ length list
as_many_next list words written stamp le e =
    let a : length (take (length words) (drop written list)) ≡ length words = ap length e
    ∙ length-map words (stamped_word stamp) in
    omega (arith, length-take (length words) (drop written list), length-drop written list)

-- the next words of a list stand within the area
pub next_within : (area slot written stamp i : ℕ) (lists : Lists) (words : List ℕ)
    → AreWithin area lists
    → take (length words) (drop written (list_of lists slot)) ≡ map (stamped_word stamp) words
    → i < length words → written + i < area
next_within area slot written stamp i lists words within e lt =
    let item = next_put (list_of lists slot) words written stamp i e lt in
    let short = item.short in let most = within.each slot in omega arith
