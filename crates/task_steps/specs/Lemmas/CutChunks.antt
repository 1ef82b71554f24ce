-- What a chunk that looks for cuts gives: cuts that fit, entries that have words, and each of them
-- due in its turn.
use Rattle.std.proofs.Common.{◌≡◌, ◌∙◌, ℕ, suc, ◌+◌, ◌*◌, ◌^◌, ◌≤◌, ◌<◌, ◌==◌, Bool, true, false, cond, List, [], ◌∷◌, ◌++◌, append_assoc, length, All, Option, Some, None, Result, Ok, refl, sym, ap, subst, arith}
use Rattle.std.proofs.lemmas.Bool.Decides.{nat_tests}
use Rattle.std.proofs.lemmas.List.{append-nil, length-append, length-map}
use Rattle.std.proofs.lemmas.List.Elements.{All-head, All-tail}
use Rattle.ip_core.specs.Models.{IsModel, term_count}
use Rattle.ip_core.specs.declared.model.ModelParts.{ModelParts}
use Rattle.ip_core.specs.declared.row.Row.{Row}
use Rattle.cut_derive.specs.Derivations.{derived_row}
use Rattle.cut_separate.specs.Laws.{AreNewCuts, rows_of_cuts}
use Rattle.cut_derive.specs.declared.limits.TheConstants.{MAX_CUTS}
use Rattle.cut_separate.specs.declared.new_cut.NewCut.{NewCut}
use Rattle.cut_derive.specs.declared.refusal.Refusal.{Refusal}
use Rattle.cut_derive.proofs.Following.{derived_over_more}
use Rattle.cut_separate.proofs.Separating.{new_cuts_are_derived, separated_are_new}
use Rattle.node_pool.specs.Views.{with_row}
use Rattle.work_stamp.specs.Taskers.{HaveWords}
use Rattle.work_stamp.specs.declared.entry.Entry.{Entry}
use Rattle.work_stamp.specs.declared.entry.Entry.TheVariants.{Cut}
use Rattle.task_steps.specs.Claims.{Claim, IsReady, claim_after}
use Rattle.task_steps.specs.CutTasks.{cut_chunk, cut_task, cuts_after, end_of_cuts, entries_of_cuts, new_cuts}
use Rattle.task_steps.specs.Fits.{AreFewDerived, FitsLocal, FitsTask}
use Rattle.task_steps.specs.Rules.{after_cut_chunk}
use Rattle.task_steps.specs.Tasks.{ascent_of}
use Rattle.task_steps.specs.declared.local.CutTask.{CutTask}
use Rattle.task_steps.specs.declared.local.Local.{Local}
use Rattle.task_steps.specs.Lemmas.Counts.{climb_little}
use Rattle.task_steps.specs.Lemmas.CutWords.{cut_words}
use Rattle.task_steps.specs.Lemmas.TaskChunks.{done_words, no_words, words_more}
use Rattle.task_steps.specs.Lemmas.TaskCuts.{cut_rows, cut_terms}

-- each new cut has the row that its derivation gives from these cuts
abbrev AreGiven : ModelParts → List Row → List NewCut → Type 0
AreGiven m cuts new = All (λ (c : NewCut). derived_row m cuts c.derivation ≡ Ok c.row) new

-- due one after the other

one_more_cut : (cuts : List Row) (row : Row) (more : ℕ) → length cuts + suc more ≤ MAX_CUTS
    → length (cuts ++ row ∷ []) + more ≤ MAX_CUTS
one_more_cut cuts row more few = omega (arith, few, length-append cuts (row ∷ []))

room_for_cut : (cuts : List Row) (more : ℕ) → length cuts + suc more ≤ MAX_CUTS
    → length cuts < MAX_CUTS
room_for_cut cuts more few = omega (arith, few)

cuts_ready : (m : ModelParts) (slot : ℕ) (base more : List Row) (new : List NewCut) (c : Claim)
    (tail : List Entry) (l : Local) → AreGiven m base new → c.cuts ≡ base ++ more → c.adds ≡ true
    → length c.cuts + length new ≤ MAX_CUTS
    → IsReady m slot (record c { cuts = c.cuts ++ rows_of_cuts new }) tail l
    → IsReady m slot c (entries_of_cuts new ++ tail) l
cuts_ready m slot base more [] c tail l given same adds few ready =
    subst (λ (cuts : List Row). IsReady m slot (record c { cuts = cuts }) tail l)
    (append-nil c.cuts) ready
cuts_ready m slot base more (cut ∷ new) c tail l given same adds few ready =
    let test = λ (x : NewCut). derived_row m base x.derivation ≡ Ok x.row in
    let derived : derived_row m c.cuts cut.derivation ≡ Ok cut.row =
    subst (λ (cuts : List Row). derived_row m cuts cut.derivation ≡ Ok cut.row) (sym same)
    (derived_over_more m base more cut.derivation cut.row (All-head test cut new given)) in
    let next : Claim = record c { cuts = c.cuts ++ cut.row ∷ [] } in
    let is : claim_after m c (Cut cut.derivation) ≡ next =
    ap (λ (answer : Result Row Refusal). record c { cuts = with_row c.cuts answer }) derived in (
      record {
        adds = adds;
        few = room_for_cut c.cuts (length new) few;
        row = cut.row;
        derived = derived;
      },
      subst (λ (x : Claim). IsReady m slot x (entries_of_cuts new ++ tail) l) (sym is)
          (cuts_ready m slot base (more ++ cut.row ∷ []) new next tail l
          (All-tail test cut new given)
          (ap (λ (cuts : List Row). cuts ++ cut.row ∷ []) same
          ∙ append_assoc base more (cut.row ∷ [])) adds
          (one_more_cut c.cuts cut.row (length new) few)
          (subst (λ (cuts : List Row). IsReady m slot (record c { cuts = cuts }) tail l)
          (sym (append_assoc c.cuts (cut.row ∷ []) (rows_of_cuts new))) ready)),
    )

-- words

words_of_end : (o : Option CutTask) → HaveWords (end_of_cuts o)
words_of_end None = done_words
words_of_end (Some task) = no_words

words_of_cuts : (m : ModelParts) (cuts : List Row) (new : List NewCut) (tail : List Entry)
    → IsModel m → AreFewDerived m cuts → AreGiven m cuts new → HaveWords tail
    → HaveWords (entries_of_cuts new ++ tail)
words_of_cuts m cuts [] tail valid own given rest = rest
words_of_cuts m cuts (cut ∷ new) tail valid own given rest =
    let test = λ (x : NewCut). derived_row m cuts x.derivation ≡ Ok x.row in
    words_more (Cut cut.derivation) (entries_of_cuts new ++ tail)
    (cut_words m cuts cut.derivation cut.row valid (cut_rows m cuts valid own) own.few
    (All-head test cut new given))
    (words_of_cuts m cuts new tail valid own (All-tail test cut new given) rest)

-- the task that goes on

next_cases : (m : ModelParts) (chunks : ℕ) (last : Bool) → (chunks == 8) ≡ last → chunks ≤ 8
    → FitsTask m (cut_task (cond last None (Some (record { chunks = chunks + 1 }))))
next_cases m chunks true is few = tt
next_cases m chunks false is few = record { few = grind (arith, nat_tests) }

next_fits : (m : ModelParts) (chunks : ℕ) (new : List NewCut) → chunks ≤ 8
    → FitsTask m (cut_task (cuts_after chunks new))
next_fits m chunks [] few = tt
next_fits m chunks (cut ∷ new) few = next_cases m chunks (chunks == 8) refl few

-- the slot afterwards
abbrev with_new : Local → List NewCut → Option CutTask → Local
with_new l new o = record l { cuts = l.cuts ++ rows_of_cuts new; task = cut_task o }

end_ready : (m : ModelParts) (slot : ℕ) (c : Claim) (l : Local) (new : List NewCut)
    (o : Option CutTask) → FitsLocal m (with_new l new o) → l.slot ≡ slot → l.splits ≡ c.splits
    → l.cuts ++ rows_of_cuts new ≡ c.cuts → c.hold ≡ None → c.adds ≡ true
    → IsReady m slot c (end_of_cuts o) (with_new l new o)
end_ready m slot c l new None fits own same seen free adds =
    (tt, record { fits = fits; own = own; splits = same; cuts = seen; task = free })
end_ready m slot c l new (Some task) fits own same seen free adds = record {
  fits = fits;
  own = own;
  splits = same;
  cuts = seen;
  task = record { free = free; adds = adds };
}

more_few : (cuts : List Row) (new : List NewCut) → length cuts + length new ≤ MAX_CUTS
    → length (cuts ++ rows_of_cuts new) ≤ MAX_CUTS
more_few cuts new few =
    omega (
      arith,
      few,
      length-append cuts (rows_of_cuts new),
      length-map new (λ (c : NewCut). c.row),
    )

-- a chunk on a slot that looks for cuts
pub record IsGoodCutChunk (m : ModelParts) (l : Local) (chunks : ℕ) : Type 0 where
  pub fits : FitsLocal m (after_cut_chunk l (cut_chunk m l.cuts chunks)).local
  pub words : HaveWords (cut_chunk m l.cuts chunks).entries
  pub ready : (slot : ℕ) (c : Claim) → l.slot ≡ slot → l.splits ≡ c.splits → l.cuts ≡ c.cuts
      → c.hold ≡ None → c.adds ≡ true
      → IsReady m slot c (cut_chunk m l.cuts chunks).entries
      (after_cut_chunk l (cut_chunk m l.cuts chunks)).local
  pub some_work : 1 ≤ (cut_chunk m l.cuts chunks).work
  pub little_work : (cut_chunk m l.cuts chunks).work ≤ 2 ^ 40

some_counts : (work terms : ℕ) → 1 ≤ 1 + work + 16 * terms
some_counts work terms = omega arith

little_counts : (work rows cuts : ℕ) → work ≤ 2 ^ 36 → rows ≤ 65536 → cuts ≤ 2 ^ 17
    → 1 + work + 16 * (rows + cuts) ≤ 2 ^ 40
little_counts work rows cuts first second third = omega (arith, first, second, third)

pub cut_chunk_good : (m : ModelParts) (l : Local) (chunks : ℕ) → IsModel m → FitsLocal m l
    → chunks ≤ 8 → IsGoodCutChunk m l chunks
cut_chunk_good m l chunks valid fits few =
    let new = new_cuts m l.cuts in
    let o = cuts_after chunks new in
    let a = ascent_of m l.cuts m.root in
    let are : AreNewCuts m l.cuts new = separated_are_new m l.cuts a.point a.mults in
    let together = are.together fits.cuts.few in
    let after : FitsLocal m (with_new l new o) = record {
      slot = fits.slot;
      few = fits.few;
      cuts = record {
        derived = new_cuts_are_derived m l.cuts new fits.cuts.derived are;
        few = more_few l.cuts new together;
      };
      task = next_fits m chunks new few;
    } in
    record {
      fits = after;
      words = words_of_cuts m l.cuts new (end_of_cuts o) valid fits.cuts are.each (words_of_end o);
      ready = λ slot c own same seen free adds.
          cuts_ready m slot l.cuts [] new c (end_of_cuts o) (with_new l new o) are.each
          (sym seen ∙ sym (append-nil l.cuts)) adds
          (subst (λ (cuts : List Row). length cuts + length new ≤ MAX_CUTS) seen together)
          (end_ready m slot (record c { cuts = c.cuts ++ rows_of_cuts new }) l new o after own same
          (ap (λ (cuts : List Row). cuts ++ rows_of_cuts new) seen) free adds);
      some_work = some_counts a.work (term_count m.rows + term_count l.cuts);
      little_work = little_counts a.work (term_count m.rows) (term_count l.cuts)
          (climb_little m l.cuts m.root valid fits.cuts) valid.few.term_limit
          (cut_terms m l.cuts valid fits.cuts);
    }
