-- The search is a lawful system of tasks.
use Rattle.std.proofs.Common.{◌≡◌, ◌∙◌, ◌<◌, ◌^◌, ℕ, List, [], ◌++◌, length, get_or, set, Option, None, refl, sym, subst}
use Rattle.ip_core.specs.Models.{IsModel}
use Rattle.ip_core.specs.Sides.{IsPaired}
use Rattle.ip_core.specs.declared.model.ModelParts.{ModelParts}
use Rattle.work_stamp.specs.Histories.{under}
use Rattle.work_stamp.specs.Taskers.{IsLawful, Standing, standing, view_of as rules_view}
use Rattle.work_stamp.specs.declared.entry.Entry.{Entry}
use Rattle.work_stamp.specs.declared.key.Key.{Key}
use Rattle.work_stamp.specs.declared.stamped.KeyedEntry.{KeyedEntry}
use Rattle.work_stamp.specs.declared.task.Begin.TheVariants.{Take}
use Rattle.node_pool.specs.Follows.{MayFollow}
use Rattle.node_pool.specs.Views.{View, view_of}
use Rattle.node_pool.specs.declared.settings.SearchSettings.{SearchSettings}
use Rattle.task_steps.specs.Agrees.{Agrees, MayFollowIn}
use Rattle.task_steps.specs.Fits.{FitsLocal, FitsView}
use Rattle.task_steps.specs.Rules.{begin_of, rules}
use Rattle.task_steps.specs.declared.local.Local.{Local}
use Rattle.task_steps.specs.Lemmas.Agreeing.{agrees_at_first, chunk_agrees, halt_follows, halt_joins, pending_follows, pending_joins, slot_leaves, take_follows, take_joins}
use Rattle.task_steps.specs.Lemmas.Beginning.{begin_fits, begin_words, end_stays, idle_stays, take_begins}
use Rattle.task_steps.specs.Lemmas.Calls.{chunk_lawful, fresh_local_fits}
use Rattle.task_steps.specs.Lemmas.Fitting.{fresh_view_fits, view_fits}
use Rattle.task_steps.specs.Lemmas.Histories.{same_view}

module _ (m : ModelParts) (settings : SearchSettings) where
  -- what a slot takes on the view by the rules it takes on that of the pool
  same_take : (history : List KeyedEntry) (l : Local) (es : List Entry)
      → (begin_of m (rules_view (rules m settings) history) l).does ≡ Take es
      → (begin_of m (view_of m settings history) l).does ≡ Take es
  same_take history l es does =
      subst (λ (v : View). (begin_of m v l).does ≡ Take es) (same_view m settings history) does

  take_joins_rules : (history : List KeyedEntry) (slots : List (Option (Standing Local)))
      (slot : ℕ) (k : Key) (l : Local) (es : List Entry) → IsModel m → length history < 2 ^ 31
      → Agrees m settings history slots → get_or slots slot None ≡ standing l []
      → (begin_of m (rules_view (rules m settings) history) l).does ≡ Take es
      → Agrees m settings (history ++ under k es) (set slots slot
      (standing (begin_of m (rules_view (rules m settings) history) l).local []))
  take_joins_rules history slots slot k l es valid short agrees there does =
      subst (λ (v : View). Agrees m settings (history ++ under k es)
      (set slots slot (standing (begin_of m v l).local []))) (sym (same_view m settings history))
      (take_joins m settings history slots slot k l es valid short agrees there
      (same_take history l es does))

  -- for every model and all settings
  pub search_law : IsModel m → IsPaired m.root → IsLawful (rules m settings) (FitsView m)
      (FitsLocal m) (MayFollowIn m settings) (Agrees m settings)
  search_law valid paired = record {
    fresh_view_fits = fresh_view_fits m settings valid paired;
    fresh_local_fits = λ slot few. fresh_local_fits m slot few;
    fresh_local_starts = λ slot few. refl;
    absorb_fits = λ view k e fits can. view_fits m view e fits
        (subst (λ (v : View). MayFollow m v e)
        (sym (can.is_view ∙ same_view m settings can.history)) can.follows);
    begin_fits = λ view l fits_view fits start. begin_fits m view l fits_view fits;
    chunk_fits = λ l fits has.
        (chunk_lawful m l l.task valid paired fits fits.task has).fits;
    take_begins = λ view l es fits_view fits start does. take_begins m view l es does;
    idle_stays = λ view l fits_view fits start does. idle_stays m view l does;
    end_stays = λ view l fits_view fits start does. end_stays m view l does;
    some_work = λ l fits has.
        (chunk_lawful m l l.task valid paired fits fits.task has).some_work;
    little_work = λ l fits has.
        (chunk_lawful m l l.task valid paired fits fits.task has).little_work;
    begin_words = λ view l es fits_view fits start does. begin_words m view l es fits_view does;
    chunk_words = λ l fits has.
        (chunk_lawful m l l.task valid paired fits fits.task has).words;
    agrees_at_first = λ slots few. agrees_at_first m settings slots valid paired few;
    pending_follows = λ history slots slot l e es short agrees there.
        pending_follows m settings history slots slot l e es short agrees there;
    pending_joins = λ history slots slot k l e es short agrees there.
        pending_joins m settings history slots slot k l e es valid short agrees there;
    take_follows = λ history slots slot k l es short agrees there start does.
        take_follows m settings history k l es short (same_take history l es does);
    take_joins = λ history slots slot k l es short agrees there start does.
        take_joins_rules history slots slot k l es valid short agrees there does;
    chunk_agrees = λ history slots slot l short agrees there has.
        chunk_agrees m settings history slots slot l valid paired agrees there has;
    halt_follows = λ history slots short agrees. halt_follows m settings history short;
    halt_joins = λ history slots k short agrees.
        halt_joins m settings history slots k valid short agrees;
    slot_leaves = λ history slots slot short agrees.
        slot_leaves m settings history slots slot agrees;
  }
