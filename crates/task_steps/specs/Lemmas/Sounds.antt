-- A view stays true of the model with each entry that is due.
use Rattle.std.proofs.Common.{◌≡◌, ◌∙◌, ℕ, zero, suc, ◌+◌, ◌<◌, ◌≤◌, ◌⊎◌, inl, inr, Bool, true, false, cond, nat_eq, List, [], ◌∷◌, length, map, get_or, ℤ, pos, ◌+ℤ◌, ◌<ℤ◌, int_lt, Option, Some, None, Contains, refl, sym, ap, subst, arith}
use Rattle.std.proofs.lemmas.Bool.{false≢true}
use Rattle.std.proofs.lemmas.Int.{ints}
use Rattle.ip_core.specs.Sides.{Sides}
use Rattle.ip_core.specs.Models.{IsModel}
use Rattle.ip_core.specs.declared.model.ModelParts.{ModelParts}
use Rattle.ip_core.specs.Boxes.{greatest_value}
use Rattle.search_truth.specs.Boxes.{IsClosed}
use Rattle.search_truth.specs.Search.{Fate, Kept, Closed as IsShut, Parted, Same, Found as IsNewBest, More, cutoff_of}
use Rattle.search_truth.proofs.Values.{value_at-le_greatest}
use Rattle.work_stamp.specs.declared.entry.Entry.{Entry}
use Rattle.work_stamp.specs.declared.entry.Entry.TheVariants.{Found, Split, Closed}
use Rattle.node_pool.specs.Branchings.{box_of}
use Rattle.node_pool.specs.Follows.{IsValued, MayFollow}
use Rattle.node_pool.specs.Laws.{AreKnown}
use Rattle.node_pool.specs.Lemmas.Boxes.{boxes_are_parts}
use Rattle.node_pool.specs.Views.{View, after_entry, is_known}
use Rattle.node_pool.specs.declared.node.OpenNode.{OpenNode}
use Rattle.task_steps.specs.Answers.{is_better, with_found}
use Rattle.task_steps.specs.Claims.{count_left, count_name, one_if}
use Rattle.task_steps.specs.Sound.{IsFound, IsSound, best_point, boxes_of, names_of, searched_of}
use Rattle.task_steps.specs.declared.answer.Best.{Best}
use Rattle.task_steps.specs.Lemmas.Entries.{IsNext, gone, made, next_of, split_cutoff}
use Rattle.task_steps.specs.Lemmas.Fitting.{held_known, left_known}
use Rattle.task_steps.specs.Lemmas.NameCounts.{count_append, count_names, eq_from_test, one_false, one_true, test_itself}

-- boxes of names

first_among : (x b : Sides) (xs : List Sides) → x ≡ b → Contains (x ∷ xs) b
first_among x b xs same = (0, omega arith, same)

later_among : (x b : Sides) (xs : List Sides) → Contains xs b → Contains (x ∷ xs) b
later_among x b xs among = (suc among.0, omega (arith, among.1), among.2)

place_cases : (x b : Sides) (xs : List Sides) (k : ℕ) → k < length (x ∷ xs)
    → get_or (x ∷ xs) k b ≡ b → (x ≡ b) ⊎ Contains xs b
place_cases x b xs zero known is = inl is
place_cases x b xs (suc k) known is = inr (k, omega arith, is)

in_cases : (f : ℕ → Sides) (name x : ℕ) (xs : List ℕ) (b : Bool) → nat_eq x name ≡ b
    → (1 ≤ count_name name xs → Contains (map f xs) (f name)) → 1 ≤ one_if b + count_name name xs
    → Contains (f x ∷ map f xs) (f name)
in_cases f name x xs true is later some =
    first_among (f x) (f name) (map f xs) (ap f (eq_from_test x name is))
in_cases f name x xs false is later some =
    later_among (f x) (f name) (map f xs) (later (omega arith))

among_boxes : (f : ℕ → Sides) (name : ℕ) (xs : List ℕ) → 1 ≤ count_name name xs
    → Contains (map f xs) (f name)
among_boxes f name [] some = absurd (omega arith)
among_boxes f name (x ∷ xs) some =
    in_cases f name x xs (nat_eq x name) refl (among_boxes f name xs) some

-- a box among those of names is that of one of the names
pub record IsBoxOf (f : ℕ → Sides) (xs : List ℕ) (b : Sides) : Type 0 where
  pub name : ℕ
  pub some : 1 ≤ count_name name xs
  pub is : f name ≡ b

named_cases : (f : ℕ → Sides) (x : ℕ) (xs : List ℕ) (b : Sides)
    → (Contains (map f xs) b → IsBoxOf f xs b) → (f x ≡ b) ⊎ Contains (map f xs) b
    → IsBoxOf f (x ∷ xs) b
named_cases f x xs b later (inl same) =
    let one = one_true (nat_eq x x) (test_itself x) in
    record { name = x; some = omega (arith, one); is = same }
named_cases f x xs b later (inr among) =
    let found = later among in
    record { name = found.name; some = omega (arith, found.some); is = found.is }

box_named : (f : ℕ → Sides) (xs : List ℕ) (b : Sides) → Contains (map f xs) b → IsBoxOf f xs b
box_named f [] b among = absurd (omega (arith, among.1))
box_named f (x ∷ xs) b among =
    named_cases f x xs b (box_named f xs b)
    (place_cases (f x) b (map f xs) among.0 among.1 among.2)

names_left : (v : View) (name : ℕ) → count_name name (names_of v) ≡ count_left v name
names_left v name =
    let both = count_append name (map (λ (node : OpenNode). node.name) v.open_nodes) v.held_nodes in
    let opened = count_names name v.open_nodes in
    omega (arith, both, opened)

left_box : (m : ModelParts) (v : View) (name : ℕ) → 1 ≤ count_left v name
    → Contains (boxes_of m v) (box_of m.root v.branches name)
left_box m v name some =
    among_boxes (λ n. box_of m.root v.branches n) name (names_of v)
    (omega (arith, names_left v name, some))

-- what becomes of the boxes that are left

fate_cases : (m : ModelParts) (v w : View) (e : Entry) (cutoff : ℤ) (name n : ℕ) → gone e name ≡ n
    → IsNext m v w e → is_known v name ≡ true → 1 ≤ count_left v name
    → (1 ≤ gone e name → Fate m cutoff (boxes_of m w) (box_of m.root v.branches name))
    → Fate m cutoff (boxes_of m w) (box_of m.root v.branches name)
fate_cases m v w e cutoff name zero is next known some ends =
    Kept (subst (λ (b : Sides). Contains (boxes_of m w) b) (next.boxes name known)
    (left_box m w name (omega (arith, next.left name, is, some))))
fate_cases m v w e cutoff name (suc n) is next known some ends = ends (omega (arith, is))

fates : (m : ModelParts) (v w : View) (e : Entry) (cutoff : ℤ) → IsNext m v w e → AreKnown v
    → ((name : ℕ) → 1 ≤ gone e name
    → Fate m cutoff (boxes_of m w) (box_of m.root v.branches name))
    → (s : Sides) → Contains (boxes_of m v) s → Fate m cutoff (boxes_of m w) s
fates m v w e cutoff next known ends s among =
    let found = box_named (λ n. box_of m.root v.branches n) (names_of v) s among in
    let some : 1 ≤ count_left v found.name =
    omega (arith, names_left v found.name, found.some) in
    subst (λ (b : Sides). Fate m cutoff (boxes_of m w) b) found.is
    (fate_cases m v w e cutoff found.name (gone e found.name) refl next
    (left_known v found.name known some) some (ends found.name))

-- the view after an entry that leaves the best point and the cutoff
pub sound_next : (m : ModelParts) (v w : View) (e : Entry) (best : Option Best) → IsNext m v w e
    → AreKnown v → w.cutoff ≡ v.cutoff → IsSound m v best
    → ((name : ℕ) → 1 ≤ gone e name
    → Fate m v.cutoff (boxes_of m w) (box_of m.root v.branches name))
    → IsSound m w best
sound_next m v w e best next known same sound ends = record {
  steps = More (searched_of m v best) (searched_of m w best) sound.steps (record {
    fates = fates m v w e (cutoff_of m (best_point best)) next known
        (λ name some. subst (λ (c : ℤ). Fate m c (boxes_of m w) (box_of m.root v.branches name))
        sound.cutoff (ends name some));
    best = Same refl;
  });
  cutoff = same ∙ sound.cutoff;
  found = sound.found;
}

test_from_one : (b : Bool) → 1 ≤ one_if b → b ≡ true
test_from_one true some = refl
test_from_one false some = absurd (omega arith)

-- the view after a held node is closed
pub closed_sound : (m : ModelParts) (v : View) (node : ℕ) (best : Option Best)
    → MayFollow m v (Closed node) → AreKnown v → IsSound m v best
    → IsClosed m v.cutoff (box_of m.root v.branches node)
    → IsSound m (after_entry m v (Closed node)) best
closed_sound m v node best follows known sound closed =
    let e = Closed node in
    sound_next m v (after_entry m v e) e best (next_of m v e follows) known refl sound
    (λ name some. IsShut (subst (λ (n : ℕ). IsClosed m v.cutoff (box_of m.root v.branches n))
    (eq_from_test node name (test_from_one (nat_eq node name) some)) closed))

new_cases : (v : View) (a b : ℕ) (t : Bool) → nat_eq b a ≡ t → is_known v a ≡ false
    → is_known v b ≡ true → t ≡ false
new_cases v a b true is new known =
    absurd (false≢true (sym new ∙ ap (λ (n : ℕ). is_known v n) (sym (eq_from_test b a is)) ∙ known))
new_cases v a b false is new known = refl

-- a name that is new isn't a known one
pub new_differs : (v : View) (a b : ℕ) → is_known v a ≡ false → is_known v b ≡ true
    → nat_eq b a ≡ false
new_differs v a b new known = new_cases v a b (nat_eq b a) refl new known

-- the child of a split is left
child_left : (m : ModelParts) (v w : View) (e : Entry) (name : ℕ) → IsNext m v w e
    → gone e name ≡ 0 → 1 ≤ made e name → Contains (boxes_of m w) (box_of m.root w.branches name)
child_left m v w e name next none some =
    left_box m w name (omega (arith, next.left name, none, some))

-- the view after a held node gave way to its children
pub split_sound : (m : ModelParts) (v : View) (node col : ℕ) (at : ℤ) (first keep : ℕ) (bound : ℤ)
    (best : Option Best) → MayFollow m v (Split node col at first keep bound) → AreKnown v
    → IsSound m v best → IsSound m (after_entry m v (Split node col at first keep bound)) best
split_sound m v node col at first keep bound best follows known sound =
    let e = Split node col at first keep bound in
    let w = after_entry m v e in
    let next : IsNext m v w e = next_of m v e follows in
    let parent = held_known v node known follows.joins.held in
    let one = new_differs v first node follows.joins.first_new parent in
    let two = new_differs v (first + 1) node follows.joins.second_new parent in
    let low = child_left m v w e first next (one_false (nat_eq node first) one)
    (omega (arith, one_true (nat_eq first first) (test_itself first))) in
    let high = child_left m v w e (first + 1) next (one_false (nat_eq node (first + 1)) two)
    (omega (arith, one_true (nat_eq (first + 1) (first + 1)) (test_itself (first + 1)))) in
    let s = box_of m.root v.branches node in
    let fate : Fate m v.cutoff (boxes_of m w) s = Parted (record {
      col = col;
      at = at;
      low = subst (λ (b : Sides). Contains (boxes_of m w) b)
          (boxes_are_parts.low m v m.root node col at first keep bound) low;
      high = subst (λ (b : Sides). Contains (boxes_of m w) b)
          (boxes_are_parts.high m v m.root node col at first keep bound) high;
    }) in
    sound_next m v w e best next known (split_cutoff m v node col at first keep bound) sound
    (λ name some. subst (λ (n : ℕ). Fate m v.cutoff (boxes_of m w) (box_of m.root v.branches n))
    (eq_from_test node name (test_from_one (nat_eq node name) some)) fate)

-- a point is found

below_greatest : (m : ModelParts) (point : List ℤ) (value : ℤ) → IsModel m → IsValued m value point
    → value <ℤ (greatest_value m m.root +ℤ pos 1)
below_greatest m point value valid valued =
    let most = value_at-le_greatest m m.root point valid valued.feasible.one_each
    valued.feasible.inside in
    let told = valued.told in
    omega (arith, ints)

below_is_true : (a b : ℤ) → a <ℤ b → int_lt a b ≡ true
below_is_true a b h = grind (arith, ints)

below_from_test : (a b : ℤ) → int_lt a b ≡ true → a <ℤ b
below_from_test a b h = grind (arith, ints)

-- the best point gives way where the value is below the cutoff
better_test : (m : ModelParts) (best : Option Best) (cutoff value : ℤ) (point : List ℤ) → IsModel m
    → IsFound m best → cutoff ≡ cutoff_of m (best_point best) → IsValued m value point
    → is_better best value ≡ int_lt value cutoff
better_test m None cutoff value point valid found is valued =
    sym (below_is_true value cutoff (subst (λ (c : ℤ). value <ℤ c) (sym is)
    (below_greatest m point value valid valued)))
better_test m (Some best) cutoff value point valid found is valued =
    ap (λ (c : ℤ). int_lt value c) (found.1 ∙ sym is)

same_below : (a b c d : ℤ) → a ≡ c → b ≡ d → a <ℤ b → c <ℤ d
same_below a b c d left right below = rw (← left, ← right) below

found_cases : (m : ModelParts) (v : View) (value : ℤ) (point : List ℤ) (best : Option Best)
    (t : Bool) → int_lt value v.cutoff ≡ t → IsSound m v best → IsValued m value point
    → IsSound m (record v { cutoff = cond t value v.cutoff; entries = v.entries + 1 })
    (cond t (Some (record { value = value; point = point })) best)
found_cases m v value point best true is sound valued = record {
  steps = More (searched_of m v best) (record { boxes = boxes_of m v; best = Some point })
      sound.steps (record {
        fates = λ s among. Kept among;
        best = IsNewBest (record {
          point = point;
          feasible = valued.feasible;
          below = same_below value v.cutoff _ _ valued.told sound.cutoff
              (below_from_test value v.cutoff is);
          is = refl;
        });
      });
  cutoff = valued.told;
  found = (valued.feasible, valued.told);
}
found_cases m v value point best false is sound valued = record {
  steps = sound.steps;
  cutoff = sound.cutoff;
  found = sound.found;
}

-- the view after a point is found
pub found_sound : (m : ModelParts) (v : View) (value : ℤ) (point : List ℤ) (best : Option Best)
    → IsModel m → IsSound m v best → IsValued m value point
    → IsSound m (after_entry m v (Found value point)) (with_found best value point)
found_sound m v value point best valid sound valued =
    subst (λ (t : Bool). IsSound m
    (record v { cutoff = cond (int_lt value v.cutoff) value v.cutoff; entries = v.entries + 1 })
    (cond t (Some (record { value = value; point = point })) best))
    (sym (better_test m best v.cutoff value point valid sound.found sound.cutoff valued))
    (found_cases m v value point best (int_lt value v.cutoff) refl sound valued)
