-- What a seat knows, as it is handed out and after each of its steps.
use Rattle.std.specs.Prelude.{ℕ, ◌+◌, ◌||◌, List, [], ◌∷◌, Bool, false, max, replicate, slice_index, slice_set}
use Rattle.clock_words.specs.Stories.{Lists}
use Rattle.clock_words.specs.declared.view.Role.TheVariants.{Maker, Owner, Spent}
use Rattle.clock_words.specs.declared.view.Shape.{Shape}
use Rattle.clock_words.specs.declared.view.View.{View}

abbrev pub zeros : Shape → List ℕ
zeros shape = replicate shape.slots 0

-- the first view of a board, which has handed out no slot
abbrev pub maker : Lists → Shape → View
maker story shape = record {
  role = Maker;
  shape = shape;
  story = story;
  handed = 0;
  slot = 0;
  own = 0;
  written = 0;
  seen = zeros shape;
  looks = zeros shape;
  fetched = zeros shape;
  stop = false;
}

-- the maker, when it has handed out one slot more
abbrev pub after_handing : View → View
after_handing v = record v { handed = v.handed + 1 }

-- the view of a seat that owns a slot, and has done nothing with it
abbrev pub newcomer : Lists → Shape → ℕ → List ℕ → View
newcomer story shape slot seen = record {
  role = Owner;
  shape = shape;
  story = story;
  handed = 0;
  slot = slot;
  own = 0;
  written = 0;
  seen = seen;
  looks = zeros shape;
  fetched = zeros shape;
  stop = false;
}

-- the view of the seat that a maker hands out next
abbrev pub handed_view : View → View
handed_view v = newcomer v.story v.shape v.handed v.seen

-- after a look at a slot that found this clock word
abbrev pub after_look : ℕ → ℕ → View → View
after_look slot word v = record v {
  seen = slice_set v.seen slot word;
  looks = slice_set v.looks slot (slice_index v.looks slot + 1);
}

-- after so many words of a slot were fetched
abbrev pub after_fetch : ℕ → ℕ → View → View
after_fetch slot count v = record v {
  fetched = slice_set v.fetched slot (slice_index v.fetched slot + count);
}

-- after so many own words were put
abbrev pub after_put : ℕ → View → View
after_put count v = record v { written = v.written + count }

-- with this own clock word
abbrev pub after_raise : ℕ → View → View
after_raise word v = record v { own = word }

-- with this stop mark
abbrev pub with_stop : Bool → View → View
with_stop stop v = record v { stop = stop }

-- of each place the greater number, where both have one
abbrev pub greater_of : List ℕ → List ℕ → List ℕ
greater_of [] ys = ys
greater_of (x ∷ xs) [] = x ∷ xs
greater_of (x ∷ xs) (y ∷ ys) = max x y ∷ greater_of xs ys

-- after another seat was joined: the greater clock words seen, and the stop mark of either
abbrev pub after_join : View → View → View
after_join v w = record v { seen = greater_of v.seen w.seen; stop = v.stop || w.stop }

-- what is left of a seat that was joined away
abbrev pub spent : View
spent = record {
  role = Spent;
  shape = record { slots = 0; area = 0 };
  story = [];
  handed = 0;
  slot = 0;
  own = 0;
  written = 0;
  seen = [];
  looks = [];
  fetched = [];
  stop = false;
}
