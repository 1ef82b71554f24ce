-- Histories whose entries may follow one after the other.
use Rattle.std.proofs.Common.{◌≡◌, ◌∙◌, ℕ, zero, suc, ◌+◌, ◌<◌, List, [], ◌∷◌, ◌++◌, length, get_or, take, drop, drop-cons, Option, sym, ap, subst, arith, add-one}
use Rattle.std.proofs.Math.Seq.{take-suc}
use Rattle.std.proofs.lemmas.List.{append_assoc, append-nil}
use Rattle.ip_core.specs.declared.model.ModelParts.{ModelParts}
use Rattle.work_stamp.specs.Histories.{FollowInTurn}
use Rattle.work_stamp.specs.Taskers.{CanJoin}
use Rattle.work_stamp.specs.declared.entry.Entry.{Entry}
use Rattle.work_stamp.specs.declared.stamped.KeyedEntry.{KeyedEntry}
use Rattle.node_pool.specs.Follows.{CanJoin as CanJoinPool, MayFollow}
use Rattle.node_pool.specs.Lemmas.Joining.{joins_at, view_next}
use Rattle.node_pool.specs.Views.{View, after_entry, fresh_view, view_of}
use Rattle.node_pool.specs.declared.settings.SearchSettings.{SearchSettings}
use Rattle.task_steps.specs.Agrees.{MayFollowIn}
use Rattle.task_steps.specs.Answers.{best_after, best_from, splits_alone}
use Rattle.task_steps.specs.Rules.{rules}
use Rattle.task_steps.specs.Truth.{IsHistory}
use Rattle.task_steps.specs.declared.answer.Best.{Best}
use Rattle.task_steps.specs.Lemmas.Histories.{same_view}

-- an entry that may join a view by the rules may join the pool's
pub pool_joins : (m : ModelParts) (settings : SearchSettings) (v : View) (e : Entry)
    → CanJoin (rules m settings) (MayFollowIn m settings) v e → CanJoinPool m v e
pool_joins m settings v e can =
    joins_at m settings can.history v e (can.is_view ∙ same_view m settings can.history) can.follows

-- the entry at a place may follow those before it
follows_at : (P : List KeyedEntry → Entry → Type 0) (history es : List KeyedEntry) (i : ℕ)
    (d : KeyedEntry) → FollowInTurn P history es → i < length es
    → P (history ++ take i es) (get_or es i d).entry
follows_at P history [] i d follow within = absurd (omega (arith, within))
follows_at P history (e ∷ es) zero d follow within =
    subst (λ (h : List KeyedEntry). P h e.entry) (sym (append-nil history)) follow.0
follows_at P history (e ∷ es) (suc i) d follow within =
    subst (λ (h : List KeyedEntry). P h (get_or es i d).entry)
    (append_assoc history (e ∷ []) (take i es))
    (follows_at P (history ++ e ∷ []) es i d follow.1 (omega (arith, within)))

-- the entry at a place may join the view of those before it
pub absorb_joins : (m : ModelParts) (es : List KeyedEntry) (v : View) (i : ℕ) (e : KeyedEntry)
    → IsHistory m es → i < length es → e ≡ get_or es i e → v ≡ view_of m splits_alone (take i es)
    → CanJoinPool m v e.entry
absorb_joins m es v i e history within is seen =
    joins_at m splits_alone (take i es) v e.entry seen
    (subst (λ (x : KeyedEntry). MayFollow m (view_of m splits_alone (take i es)) x.entry) (sym is)
    (follows_at (MayFollowIn m splits_alone) [] es i e history.follow within))

-- the view of one entry more
pub view_step : (m : ModelParts) (es : List KeyedEntry) (v w : View) (i : ℕ) (e : KeyedEntry)
    → i < length es → e ≡ get_or es i e → v ≡ view_of m splits_alone (take i es)
    → w ≡ after_entry m v e.entry → w ≡ view_of m splits_alone (take (i + 1) es)
view_step m es v w i e within is seen after =
    let more : take (i + 1) es ≡ take i es ++ get_or es i e ∷ [] =
    ap (λ (n : ℕ). take n es) (add-one i) ∙ take-suc es i e within in
    let here : w ≡ after_entry m (view_of m splits_alone (take i es)) (get_or es i e).entry =
    after ∙ ap (λ (u : View). after_entry m u e.entry) seen
    ∙ ap (λ (x : KeyedEntry). after_entry m (view_of m splits_alone (take i es)) x.entry) is in
    here ∙ sym (ap (λ (h : List KeyedEntry). view_of m splits_alone h) more
    ∙ view_next m (fresh_view m splits_alone) (take i es) (get_or es i e))

-- the best point after one more of the entries that are left
pub best_step : (es : List KeyedEntry) (best after whole : Option Best) (i : ℕ) (e : KeyedEntry)
    → i < length es → e ≡ get_or es i e → best_from best (drop i es) ≡ whole
    → after ≡ best_after best e.entry → best_from after (drop (i + 1) es) ≡ whole
best_step es best after whole i e within is so_far next =
    let here : after ≡ best_after best (get_or es i e).entry =
    next ∙ ap (λ (x : KeyedEntry). best_after best x.entry) is in
    ap (λ (b : Option Best). best_from b (drop (i + 1) es)) here
    ∙ ap (λ (n : ℕ). best_from (best_after best (get_or es i e).entry) (drop n es)) (add-one i)
    ∙ sym (ap (best_from best) (drop-cons es i e within)) ∙ so_far
