-- A merge that is fed with the entries of words, one after the other.
use Rattle.std.proofs.Common.{ℕ, ◌<◌, ◌≤◌, ◌≡◌, ◌≢◌, List, [], ◌∷◌, ◌++◌, length, drop, Ok, refl, sym, ap, ◌∙◌, subst, arith}
use Rattle.std.specs.Prelude.{Bool, true, false, ◌==◌}
use Rattle.std.proofs.lemmas.Bool.{eq-eqb, eqb-true}
use Rattle.std.proofs.Math.Seq.{drop-append_seam}
use Rattle.std.proofs.lemmas.List.{length-append}
use Rattle.commit_order.specs.Merges.{after_feed}
use Rattle.commit_order.specs.Queues.{Queue, queue_of}
use Rattle.commit_order.proofs.Waiting.{waits_last}
use Rattle.work_stamp.specs.Reads.{IsRefusalOf, read}
use Rattle.work_stamp.specs.Words.{words}
use Rattle.work_stamp.specs.declared.error.WordsError.{WordsError}
use Rattle.work_stamp.specs.declared.error.WordsError.TheVariants as error
use Rattle.work_stamp.specs.declared.stamped.Stamped.{Stamped}
use Rattle.work_stamp.specs.declared.stamped.WordRead.{WordRead}
use Rattle.work_stamp.proofs.Reading.{reads_again}
use Rattle.version_store.specs.Hearing.{AreLater, BeginsWith, CanFeed, after_feeds, item_words}

-- so far entries of words were fed, and the rest of them is left
pub record IsFeeding (start : List Queue) (slot : ℕ) (queues : List Queue) (left : List ℕ)
    (items : List Stamped) : Type 0 where
  pub rest : List Stamped
  pub whole : after_feeds start slot items ≡ after_feeds queues slot rest
  pub can : CanFeed queues slot left rest

pub feeding_first : (start : List Queue) (slot : ℕ) (ws : List ℕ) (items : List Stamped) →
    CanFeed start slot ws items → IsFeeding start slot start ws items
feeding_first start slot ws items can = record { rest = items; whole = refl; can = can }

pub record HasNext (queues : List Queue) (slot : ℕ) (left : List ℕ) (rest : List Stamped) :
    Type 0 where
  pub item : Stamped
  pub more : List Stamped
  pub is : rest ≡ item ∷ more
  pub begins : BeginsWith item left
  pub stamp : (queue_of queues slot).last_stamp ≤ item.stamp
  pub within : slot < length queues
  pub left_is : left ≡ words item ++ item_words more
  pub then_can : (next : List Queue) → next ≡ after_feed queues slot item →
      CanFeed next slot (item_words more) more

pub next_of : (queues : List Queue) (slot : ℕ) (left : List ℕ) (rest : List Stamped) →
    CanFeed queues slot left rest → left ≢ [] → HasNext queues slot left rest
next_of queues slot left [] can some = absurd (some can.words_are)
next_of queues slot left (item ∷ more) can some =
    let fed = waits_last queues slot item can.within in record {
      item = item;
      more = more;
      is = refl;
      begins = record {
        rest = item_words more;
        whole = can.words_are;
        has_words = can.have_words.0;
      };
      stamp = can.later.0;
      within = can.within;
      left_is = can.words_are;
      then_can = λ next is. subst (λ (qs : List Queue). CanFeed qs slot (item_words more) more) (sym is) (record {
        words_are = refl;
        have_words = can.have_words.1;
        later = subst (λ (n : ℕ). AreLater n more) (sym fed.last) can.later.1;
        within = subst (λ (n : ℕ). slot < n) (sym fed.slots) can.within;
      });
    }

pub feeding_next : (start : List Queue) (slot : ℕ) (queues : List Queue) (left : List ℕ)
    (items : List Stamped) → IsFeeding start slot queues left items → left ≢ [] →
    (read : WordRead) → ((item : Stamped) → BeginsWith item left →
    read ≡ record { item = item; used = length (words item) }) →
    (next : List Queue) → next ≡ after_feed queues slot read.item →
    (rest : List ℕ) → rest ≡ drop read.used left → IsFeeding start slot next rest items
feeding_next start slot queues left items f some read reads next next_is rest rest_is =
    let n : HasNext queues slot left f.rest = next_of queues slot left f.rest f.can some in
    let is : read ≡ record { item = n.item; used = length (words n.item) } = reads n.item n.begins in
    let fed : next ≡ after_feed queues slot n.item = next_is
    ∙ ap (λ (x : WordRead). after_feed queues slot x.item) is in
    let gone : rest ≡ item_words n.more = rest_is
    ∙ (ap (λ (x : WordRead). drop x.used left) is
    ∙ (ap (λ (l : List ℕ). drop (length (words n.item)) l) n.left_is
    ∙ drop-append_seam (words n.item) (item_words n.more))) in
    record {
      rest = n.more;
      whole = f.whole ∙ (ap (λ (l : List Stamped). after_feeds queues slot l) n.is
          ∙ ap (λ (qs : List Queue). after_feeds qs slot n.more) (sym fed));
      can = subst (λ (l : List ℕ). CanFeed next slot l n.more) (sym gone) (n.then_can next fed);
    }

-- how far the words go that were read
pub used_within : (queues : List Queue) (slot : ℕ) (left : List ℕ) (rest : List Stamped) →
    CanFeed queues slot left rest → left ≢ [] → (read : WordRead) →
    ((item : Stamped) → BeginsWith item left →
    read ≡ record { item = item; used = length (words item) }) →
    (read.used ≤ length left) × (3 ≤ read.used)
used_within queues slot left rest can some read reads =
    let n : HasNext queues slot left rest = next_of queues slot left rest can some in
    let is = ap (λ (x : WordRead). x.used) (reads n.item n.begins) in
    let whole = ap length n.left_is ∙ length-append (words n.item) (item_words n.more) in
    (omega (arith, is, whole), omega (arith, is))

pub stamp_within : (queues : List Queue) (slot : ℕ) (left : List ℕ) (rest : List Stamped) →
    CanFeed queues slot left rest → left ≢ [] → (read : WordRead) →
    ((item : Stamped) → BeginsWith item left →
    read ≡ record { item = item; used = length (words item) }) →
    ((queue_of queues slot).last_stamp ≤ read.item.stamp) × (slot < length queues)
stamp_within queues slot left rest can some read reads =
    let n : HasNext queues slot left rest = next_of queues slot left rest can some in
    let is = ap (λ (x : WordRead). x.item.stamp) (reads n.item n.begins) in
    (omega (arith, is, n.stamp), n.within)

pub feeding_done : (start : List Queue) (slot : ℕ) (queues : List Queue) (left : List ℕ)
    (items : List Stamped) → IsFeeding start slot queues left items → left ≡ [] →
    queues ≡ after_feeds start slot items
feeding_done start slot queues left items f none =
    done f.rest f.whole f.can.words_are where
      done : (rest : List Stamped) → after_feeds start slot items ≡ after_feeds queues slot rest →
          left ≡ item_words rest → queues ≡ after_feeds start slot items
      done [] whole is = sym whole
      done (item ∷ more) whole is =
          let n : [] ≡ words item ++ item_words more = sym none ∙ is in absurd cc

-- an answer of reading is that of the words' definition
pub read_is : (item : Stamped) (ws : List ℕ) → BeginsWith item ws →
    read ws ≡ Ok (record { item = item; used = length (words item) })
read_is item ws b = ap read b.whole ∙ reads_again item b.rest b.has_words

pub only_memory : (item : Stamped) (ws : List ℕ) (e : WordsError) → BeginsWith item ws →
    IsRefusalOf e (read ws) → e ≡ error.Memory
only_memory item ws error.Memory b is = refl
only_memory item ws error.Short b is = let ok = read_is item ws b in absurd cc
only_memory item ws error.Kind b is = let ok = read_is item ws b in absurd cc
only_memory item ws error.Length b is = let ok = read_is item ws b in absurd cc
only_memory item ws error.Value b is = let ok = read_is item ws b in absurd cc

pub read_same : (item : Stamped) (ws : List ℕ) (got : WordRead) → BeginsWith item ws →
    read ws ≡ Ok got → got ≡ record { item = item; used = length (words item) }
read_same item ws got b is = let ok = read_is item ws b in cc

pub some_left : (left : List ℕ) (b : Bool) → b ≡ (length left == 0) → b ≡ false → left ≢ []
some_left left b is e none = let size : length left ≡ 0 = ap length none in
    let t : (length left == 0) ≡ true = eq-eqb (length left) 0 size in cc

pub none_left : (left : List ℕ) (b : Bool) → b ≡ (length left == 0) → b ≡ true → left ≡ []
none_left [] b is e = refl
none_left (x ∷ xs) b is e = let t : length (x ∷ xs) ≡ 0 = eqb-true (length (x ∷ xs)) 0 (sym is ∙ e) in absurd (omega (arith, t))
