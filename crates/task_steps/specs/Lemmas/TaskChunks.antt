-- What a chunk gives: a local that fits, entries that have words, and each of them due in its turn.
use Rattle.std.proofs.Common.{◌≡◌, ◌∙◌, ℕ, ◌+◌, ◌<◌, ◌≤◌, ◌^◌, ◌⊎◌, inl, inr, ◌==◌, Bool, true, false, cond, if◌then◌else◌, List, [], ◌∷◌, length, length-set, ℤ, pos, neg_ℤ, w64, ◌≤ℤ◌, ◌<ℤ◌, int_le, Option, Some, None, refl, sym, ap, ap₂, subst, arith}
use Rattle.std.proofs.lemmas.Bool.Decides.{nat_tests}
use Rattle.std.proofs.lemmas.Int.{ints, fits_signed_from_abs}
use Rattle.std.proofs.lemmas.List.Elements.{All-cons, All-nil}
use Rattle.ip_core.specs.Numbers.{int_at}
use Rattle.ip_core.specs.declared.leaf.Closing.TheVariants.{Bound}
use Rattle.ip_core.specs.Sides.{Sides, IsPaired}
use Rattle.ip_core.specs.Models.{IsModel}
use Rattle.ip_core.specs.declared.model.ModelParts.{ModelParts}
use Rattle.search_truth.specs.Boxes.{IsClosed, low_child, high_child}
use Rattle.search_truth.proofs.Within.{within_low_child, within_high_child}
use Rattle.leaf_truth.specs.Multipliers.{pairs_of}
use Rattle.node_pool.specs.Follows.{IsSplitPoint, IsValued}
use Rattle.work_stamp.specs.Taskers.{HaveWords}
use Rattle.work_stamp.specs.Writable.{HasWords, IsSigned}
use Rattle.work_stamp.specs.declared.entry.Entry.{Entry}
use Rattle.work_stamp.specs.declared.entry.Entry.TheVariants.{Found, Split, Closed, Done}
use Rattle.task_steps.specs.Claims.{Claim, Held, IsReady, IsSplitNow, high_held, hold_after_split, low_held}
use Rattle.dual_ascent.specs.declared.ascent.Ascent.{Ascent}
use Rattle.task_steps.specs.Columns.{middle, widest}
use Rattle.task_steps.specs.Fits.{FitsLocal, FitsTask, IsSmall, IsTask}
use Rattle.task_steps.specs.Keeps.{number_of}
use Rattle.task_steps.specs.Tasks.{child_name, closing_chunk, end_entries, kept_child, next_ordinal, splitting_chunk, task_after}
use Rattle.task_steps.specs.declared.keep.Keep.{Keep}
use Rattle.task_steps.specs.declared.keep.Keep.TheVariants.{Low, High, Neither}
use Rattle.task_steps.specs.declared.local.Local.{Local}
use Rattle.task_steps.specs.declared.local.NodeTask.{NodeTask}
use Rattle.task_steps.specs.declared.task_chunk.TaskChunk.{TaskChunk}
use Rattle.task_steps.specs.declared.task_chunk.Progress.{Progress}
use Rattle.task_steps.specs.declared.task_chunk.Worker.{Worker}
use Rattle.task_steps.specs.Lemmas.Columns.{middle_above, middle_below, signed_between, widest_known}
use Rattle.leaf_truth.proofs.TestResults.{int_le-true}

pub paired_low : (s : Sides) (col : ℕ) (at : ℤ) → IsPaired s → IsPaired (low_child s col at)
paired_low s col at paired =
    record { same_length = length-set s.highs col _ ∙ paired.same_length; short = paired.short }

pub paired_high : (s : Sides) (col : ℕ) (at : ℤ) → IsPaired s → IsPaired (high_child s col at)
paired_high s col at paired =
    record {
      same_length = paired.same_length ∙ sym (length-set s.lows col _);
      short = rw length-set paired.short;
    }

-- the claim holds the node of a task
pub record IsOnNode (c : Claim) (task : NodeTask) : Type 0 where
  pub node : Held
  pub is : c.hold ≡ Some node
  pub named : node.name ≡ task.node
  pub boxed : node.bounds ≡ task.bounds

-- entries of a chunk on a task, with the cutoff of the moment, and the local afterwards
pub record IsGood (m : ModelParts) (l : Local) (task : NodeTask) (limit : ℤ) (entries : List Entry)
    (after : Local) : Type 0 where
  pub fits : FitsLocal m after
  pub words : HaveWords entries
  pub ready : (slot : ℕ) (c : Claim) → l.slot ≡ slot → l.splits ≡ c.splits → IsOnNode c task
      → l.cuts ≡ c.cuts → c.cutoff ≡ limit → IsReady m slot c entries after

-- the local after a chunk
abbrev pub local_after : Local → TaskChunk → Local
local_after l chunk = record l { splits = chunk.splits; task = chunk.task }

-- words

pub words_more : (e : Entry) (es : List Entry) → HasWords e → HaveWords es → HaveWords (e ∷ es)
words_more e es here rest = record { each = All-cons HasWords e es here rest.each }

pub no_words : HaveWords []
no_words = record { each = All-nil HasWords }

pub done_words : HaveWords (Done ∷ [])
done_words = words_more Done [] (record { writable = tt; in_range = tt }) no_words

end_words : (keep : Keep) → HaveWords (end_entries keep)
end_words Low = no_words
end_words High = no_words
end_words Neither = done_words

keep_few : (keep : Keep) → number_of keep ≤ 2
keep_few Low = omega arith
keep_few High = omega arith
keep_few Neither = omega arith

-- the node is closed
pub closing_good : (m : ModelParts) (l : Local) (task : NodeTask) (limit : ℤ) → FitsLocal m l
    → IsTask m task → IsClosed m limit task.bounds
    → IsGood m l task limit (Closed task.node ∷ Done ∷ []) (record l { task = None })
closing_good m l task limit fits task_fits closed = record {
  fits = record { slot = fits.slot; few = fits.few; cuts = fits.cuts; task = tt };
  words = words_more (Closed task.node) (Done ∷ [])
      (record { writable = tt; in_range = task_fits.word }) done_words;
  ready = λ slot c own same on seen below. (
    record {
      holds = record { node = on.node; is = on.is; named = on.named };
      closed = subst (IsClosed m c.cutoff) (sym on.boxed)
          (subst (λ (z : ℤ). IsClosed m z task.bounds) (sym below) closed);
    },
    (
      tt,
      record {
        fits = record { slot = fits.slot; few = fits.few; cuts = fits.cuts; task = tt };
        own = own;
        splits = same;
        cuts = seen;
        task = refl;
      },
    ),
  );
}

-- the node is split

low_goes_on : Low ≡ Neither → ⊥
low_goes_on e = cc

high_goes_on : High ≡ Neither → ⊥
high_goes_on e = cc

task_after_fits : (m : ModelParts) (task : NodeTask) (col : ℕ) (at : ℤ) (first : ℕ) (limit : ℤ)
    (keep : Keep) → first + 1 < 2 ^ 64 → limit ≤ℤ pos (2 ^ 51) → IsTask m task
    → (keep ≡ Neither) ⊎ (task.nodes + 1 ≤ 8) → FitsTask m (task_after task col at first limit keep)
task_after_fits m task col at first limit Low word below fits (inl ends) = absurd (low_goes_on ends)
task_after_fits m task col at first limit Low word below fits (inr room) =
    record {
      word = omega arith;
      within = within_low_child m.root task.bounds col at fits.within;
      paired = paired_low task.bounds col at fits.paired;
      begun = omega arith;
      nodes = room;
      cutoff =
          below;
    }
task_after_fits m task col at first limit High word below fits (inl ends) =
    absurd (high_goes_on ends)
task_after_fits m task col at first limit High word below fits (inr room) =
    record {
      word = word;
      within = within_high_child m.root task.bounds col at fits.within;
      paired = paired_high task.bounds col at fits.paired;
      begun = omega arith;
      nodes = room;
      cutoff =
          below;
    }
task_after_fits m task col at first limit Neither word below fits room = tt

split_now : (m : ModelParts) (l : Local) (task : NodeTask) (col : ℕ) (at : ℤ) (keep slot : ℕ)
    (c : Claim) → IsSplitPoint m col at keep → FitsLocal m l → l.slot ≡ slot → l.splits ≡ c.splits
    → IsOnNode c task
    → IsSplitNow m slot c task.node col at (child_name l.slot (next_ordinal l.splits)) keep
split_now m l task col at keep slot c cut fits own same on = record {
  holds = record { node = on.node; is = on.is; named = on.named };
  cut = cut;
  few_slots = let few = fits.slot in omega arith;
  named = ap₂ (λ (s k : ℕ). child_name s (next_ordinal k)) own same;
}

kept_ready : (m : ModelParts) (l : Local) (task : NodeTask) (limit : ℤ) (col : ℕ) (at bound : ℤ)
    (keep : Keep) (slot : ℕ) (c : Claim) → IsSplitPoint m col at (number_of keep) → FitsLocal m l
    → FitsLocal m
    (record l {
      splits = next_ordinal l.splits;
      task = task_after task col at
          (child_name l.slot (next_ordinal l.splits)) limit keep;
    }) → l.slot ≡ slot → l.splits ≡ c.splits
    → IsOnNode c task → l.cuts ≡ c.cuts → c.cutoff ≡ limit
    → IsReady m slot c
    (Split task.node col at (child_name l.slot (next_ordinal l.splits))
    (number_of keep) bound ∷ end_entries keep)
    (record l {
      splits = next_ordinal l.splits;
      task = task_after task col at
          (child_name l.slot (next_ordinal l.splits)) limit keep;
    })
kept_ready m l task limit col at bound Low slot c cut fits after own same on seen below =
    let first = child_name l.slot (next_ordinal l.splits) in (
      split_now m l task col at 0 slot c cut fits own same on,
      record {
        fits = after;
        own = own;
        splits = ap next_ordinal same;
        cuts = seen;
        task = record {
          node = low_held on.node col at first;
          is = ap (λ (o : Option Held). hold_after_split o col at first Low) on.is;
          named = refl;
          boxed = ap (λ (s : Sides). low_child s col at) on.boxed;
          cutoff = below;
        };
      },
    )
kept_ready m l task limit col at bound High slot c cut fits after own same on seen below =
    let first = child_name l.slot (next_ordinal l.splits) in (
      split_now m l task col at 1 slot c cut fits own same on,
      record {
        fits = after;
        own = own;
        splits = ap next_ordinal same;
        cuts = seen;
        task = record {
          node = high_held on.node col at first;
          is = ap (λ (o : Option Held). hold_after_split o col at first High) on.is;
          named = refl;
          boxed = ap (λ (s : Sides). high_child s col at) on.boxed;
          cutoff = below;
        };
      },
    )
kept_ready m l task limit col at bound Neither slot c cut fits after own same on seen below =
    let first = child_name l.slot (next_ordinal l.splits) in (
      split_now m l task col at 2 slot c cut fits own same on,
      (
        tt,
        record {
          fits = after;
          own = own;
          splits = ap next_ordinal same;
          cuts = seen;
          task = ap (λ (o : Option Held). hold_after_split o col at first Neither) on.is;
        },
      ),
    )

splitting_good : (m : ModelParts) (l : Local) (task : NodeTask) (limit : ℤ) (col : ℕ) (at bound : ℤ)
    (keep : Keep) → IsModel m → FitsLocal m l → IsTask m task
    → IsSplitPoint m col at (number_of keep) → IsSigned bound → limit ≤ℤ pos (2 ^ 51)
    → (keep ≡ Neither) ⊎ (task.nodes + 1 ≤ 8)
    → IsGood m l task limit
    (Split task.node col at (child_name l.slot (next_ordinal l.splits))
    (number_of keep) bound ∷ end_entries keep)
    (record l {
      splits = next_ordinal l.splits;
      task = task_after task col at
          (child_name l.slot (next_ordinal l.splits)) limit keep;
    })
splitting_good m l task limit col at bound keep valid fits task_fits cut signed low room =
    let first = child_name l.slot (next_ordinal l.splits) in
    let few_slots = fits.slot in
    let few = fits.few in
    let columns = valid.bounds.columns in
    let known = cut.known in
    let word : first + 1 < 2 ^ 64 = omega arith in
    let after : FitsLocal m
    (record l { splits = next_ordinal l.splits; task = task_after task col at first limit keep }) =
    record {
      slot = fits.slot;
      few = omega arith;
      cuts = fits.cuts;
      task = task_after_fits m task col at first limit keep word low task_fits room;
    } in
    record {
      fits = after;
      words = words_more (Split task.node col at first (number_of keep) bound) (end_entries keep)
          (record {
            writable = keep_few keep;
            in_range = record {
              node_word = task_fits.word;
              col_number = omega arith;
              at_signed = signed_between at cut.above cut.below;
              first_word = omega arith;
              keep_byte = let small = keep_few keep in omega arith;
              bound_signed = signed;
            };
          }) (end_words keep);
      ready = λ slot c own same on seen below.
          kept_ready m l task limit col at bound keep slot c cut fits after own same on seen below;
    }

-- a point is found first
found_good : (m : ModelParts) (l : Local) (task : NodeTask) (limit value : ℤ) (point : List ℤ)
    (es : List Entry) (after : Local) → IsValued m value point → HasWords (Found value point)
    → IsGood m l task value es after → IsGood m l task limit (Found value point ∷ es) after
found_good m l task limit value point es after valued words good = record {
  fits = good.fits;
  words = words_more (Found value point) es words good.words;
  ready = λ slot c own same on seen below. (
    valued,
    good.ready slot (record c { cutoff = value }) own same
        (record { node = on.node; is = on.is; named = on.named; boxed = on.boxed }) seen refl,
  );
}

-- The chunk

room_cases : (value at : ℤ) (nodes : ℕ) (last : Bool) → nodes ≤ 8 → (nodes == 8) ≡ last
    → (cond last Neither (if int_le value at then Low else High) ≡ Neither) ⊎ (nodes + 1 ≤ 8)
room_cases value at nodes true few is = inl refl
room_cases value at nodes false few is = inr (grind (arith, nat_tests))

kept_room : (nodes : ℕ) (value at : ℤ) → nodes ≤ 8
    → (kept_child nodes value at ≡ Neither) ⊎ (nodes + 1 ≤ 8)
kept_room nodes value at few = room_cases value at nodes (nodes == 8) few refl

abbrev pub worker_of : Local → Worker
worker_of l = record { slot = l.slot; splits = l.splits }

abbrev pub IsGoodChunk : ModelParts → Local → NodeTask → ℤ → TaskChunk → Type 0
IsGoodChunk m l task limit o = IsGood m l task limit o.entries (local_after l o)

not_below : (a b : ℤ) → int_le a b ≡ false → b <ℤ a
not_below a b h = grind (arith, ints)

bound_signed : (bound limit : ℤ) → neg_ℤ (pos (2 ^ 62)) ≤ℤ bound → bound <ℤ limit
    → limit ≤ℤ pos (2 ^ 51) → IsSigned bound
bound_signed bound limit low below few = fits_signed_from_abs w64 bound (omega (arith, ints))

-- what is known of a node once its point was tried, at the cutoff of the moment
pub record IsTried (m : ModelParts) (l : Local) (task : NodeTask) (p : Progress) (a : Ascent)
    (limit : ℤ) : Type 0 where
  pub fits : FitsLocal m l
  pub task_fits : IsTask m task
  pub small : IsSmall p.bounds
  pub columns : length p.bounds.lows ≡ length m.cols
  pub few : limit ≤ℤ pos (2 ^ 51)
  pub low : neg_ℤ (pos (2 ^ 62)) ≤ℤ a.bound
  pub closed : limit ≤ℤ a.bound → IsClosed m limit task.bounds
  pub some : a.bound <ℤ limit → 0 < length m.cols

split_good : (m : ModelParts) (l : Local) (task : NodeTask) (p : Progress) (a : Ascent) (limit : ℤ)
    → IsModel m → IsTried m l task p a limit → int_le limit a.bound ≡ false
    → IsGoodChunk m l task limit
    (splitting_chunk task (worker_of l) [] limit p.work (widest p.bounds)
    (middle p.bounds (widest p.bounds))
    (kept_child task.nodes (int_at a.point (widest p.bounds)) (middle p.bounds (widest p.bounds)))
    a.bound)
split_good m l task p a limit valid tried is =
    let s = p.bounds in
    let col = widest s in
    let at = middle s col in
    let keep = kept_child task.nodes (int_at a.point col) at in
    let below = not_below limit a.bound is in
    let some = tried.some below in
    let columns = tried.columns in
    let known : col < length m.cols = omega (arith, widest_known s (omega arith)) in
    splitting_good m l task limit col at a.bound keep valid tried.fits tried.task_fits
    (record {
      known = known;
      above = middle_above s col tried.small;
      below = middle_below s col tried.small;
      keeps = keep_few keep;
    })
    (bound_signed a.bound limit tried.low below tried.few) tried.few
    (kept_room task.nodes (int_at a.point col) at tried.task_fits.nodes)

-- with no point found
pub plain_good : (m : ModelParts) (l : Local) (task : NodeTask) (p : Progress) (a : Ascent)
    (limit : ℤ)
    (closed : Bool) → int_le limit a.bound ≡ closed → IsModel m → IsTried m l task p a limit
    → IsGoodChunk m l task limit
    (cond closed
    (closing_chunk task.node l.splits [] p (Bound (pairs_of (length m.rows) a.mults)))
    (splitting_chunk task (worker_of l) [] limit p.work (widest p.bounds)
    (middle p.bounds (widest p.bounds))
    (kept_child task.nodes (int_at a.point (widest p.bounds)) (middle p.bounds (widest p.bounds)))
    a.bound))
plain_good m l task p a limit true is valid tried =
    closing_good m l task limit tried.fits tried.task_fits
    (tried.closed (int_le-true limit a.bound is))
plain_good m l task p a limit false is valid tried = split_good m l task p a limit valid tried is

-- with a point found first, whose value is the cutoff from then on
pub found_first : (m : ModelParts) (l : Local) (task : NodeTask) (p : Progress) (a : Ascent)
    (value : ℤ)
    (point : List ℤ) (closed : Bool) → int_le value a.bound ≡ closed → IsModel m
    → IsTried m l task p a value → IsValued m value point → HasWords (Found value point)
    → IsGoodChunk m l task task.cutoff
    (cond closed
    (closing_chunk task.node l.splits (Found value point ∷ []) p
    (Bound (pairs_of (length m.rows) a.mults)))
    (splitting_chunk task (worker_of l) (Found value point ∷ []) value p.work (widest p.bounds)
    (middle p.bounds (widest p.bounds))
    (kept_child task.nodes (int_at a.point (widest p.bounds)) (middle p.bounds (widest p.bounds)))
    a.bound))
found_first m l task p a value point true is valid tried valued words =
    found_good m l task task.cutoff value point (Closed task.node ∷ Done ∷ [])
    (record l { task = None }) valued words
    (closing_good m l task value tried.fits tried.task_fits
    (tried.closed (int_le-true value a.bound is)))
found_first m l task p a value point false is valid tried valued words =
    let good = split_good m l task p a value valid tried is in
    found_good m l task task.cutoff value point _ _ valued words good
