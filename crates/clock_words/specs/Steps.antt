-- What each kind of step tells: the number found, and the seat's view afterwards.
use Rattle.std.specs.Prelude.{ℕ, ◌≡◌, ◌<◌, ◌≤◌, nat_lt, slice_index, true}
use Rattle.atomic_table.specs.Table.{Me, Step}
use Rattle.clock_words.specs.Clocks.{due_count, stamp_of}
use Rattle.clock_words.specs.Places.{area_place, clock_place}
use Rattle.clock_words.specs.Stories.{due, list_of, word_at}
use Rattle.clock_words.specs.Views.{after_fetch, after_look, after_put, after_raise, with_stop}
use Rattle.clock_words.specs.declared.view.View.{View}

module _ {S : Type 0} where
  -- the clock word of a slot was found: it counts what is due, and is not below the one that was
  -- seen
  pub record HasLooked (slot : ℕ) (m : Me S View) (word : ℕ) (m' : Me S View) : Type 0 where
    pub view : m' ≡ (after_look slot word m.0, m.1)
    pub count : due_count word ≡ due (list_of m.0.story slot) (stamp_of word)
    pub later : slice_index m.0.seen slot ≤ word

  abbrev pub look : Step S → Me S View → ℕ → Me S View → Type 0
  look step m found m' = (slot : ℕ) → slot < m.0.shape.slots → step.word ≡ clock_place slot →
      HasLooked slot m found m'

  -- a due word was found, which is the story's
  pub record HasFetched (slot k : ℕ) (m : Me S View) (found : ℕ) (m' : Me S View) : Type 0 where
    pub view : m' ≡ (after_fetch slot 1 m.0, m.1)
    pub word : found ≡ word_at (list_of m.0.story slot) k

  abbrev pub fetch : Step S → Me S View → ℕ → Me S View → Type 0
  fetch step m found m' = (slot k : ℕ) → k < m.0.shape.area →
      step.word ≡ area_place m.0.shape slot k → HasFetched slot k m found m'

  abbrev pub put : Step S → Me S View → ℕ → Me S View → Type 0
  put step m found m' = m' ≡ (after_put 1 m.0, m.1)

  abbrev pub raise : Step S → Me S View → ℕ → Me S View → Type 0
  raise step m found m' = m' ≡ (after_raise step.first m.0, m.1)

  abbrev pub call : Step S → Me S View → ℕ → Me S View → Type 0
  call step m found m' = m' ≡ (with_stop true m.0, m.1)

  -- the mark is set where the word is above 0, and is never set where it is not
  pub record HasAsked (m : Me S View) (found : ℕ) (m' : Me S View) : Type 0 where
    pub view : m' ≡ (with_stop (nat_lt 0 found) m.0, m.1)
    pub stays : m.0.stop ≡ true → 0 < found

  abbrev pub ask : Step S → Me S View → ℕ → Me S View → Type 0
  ask step m found m' = HasAsked m found m'
