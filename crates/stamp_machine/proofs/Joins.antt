-- Entries that join a history and its view one after the other.
use Rattle.std.proofs.Common.{◌≡◌, ◌+◌, ◌≤◌, ◌^◌, List, [], ◌∷◌, ◌++◌, length, sym, ap, ◌∙◌, subst, length-append, append_assoc, arith}
use Rattle.work_stamp.specs.Histories.{keyed_entry, under, FollowInTurn}
use Rattle.work_stamp.specs.Taskers.{Rules, Standing, view_after, view_of, IsLawful, CanJoin}
use Rattle.work_stamp.specs.declared.entry.Entry.{Entry}
use Rattle.work_stamp.specs.declared.key.Key.{Key}
use Rattle.work_stamp.specs.declared.stamped.KeyedEntry.{KeyedEntry}
use Rattle.std.specs.Prelude.{Option}
use Rattle.stamp_machine.specs.Plays.{CanGrow}
use Rattle.stamp_machine.specs.declared.play.HistoryView.{HistoryView}
use Rattle.stamp_machine.proofs.Follows.{view_after-append, under-append}

-- a history with its view, and entries that are to join it under a key
pub record IsJoining {V L : Type 0} (r : Rules V L) (FitsView : V → Type 0) (MayFollow : List KeyedEntry → Entry → Type 0) (k : Key) (entries : List KeyedEntry) (view : V) (rest : List Entry) : Type 0 where
  pub is_view : view ≡ view_of r entries
  pub fits : FitsView view
  pub follow : FollowInTurn MayFollow entries (under k rest)
  pub few : length entries + length rest ≤ 2 ^ 31

module _ (V L : Type 0) (r : Rules V L) (FitsView : V → Type 0) (FitsLocal : L → Type 0) (MayFollow : List KeyedEntry → Entry → Type 0) (Agrees : List KeyedEntry → List (Option (Standing L)) → Type 0)
    (law : IsLawful r FitsView FitsLocal MayFollow Agrees) where
  abbrev Joins : Key → List KeyedEntry → V → List Entry → Type 0
  Joins k entries view rest = IsJoining r FitsView MayFollow k entries view rest

  pub joins_first : (so_far : HistoryView V) (k : Key) (batch rest : List Entry) → CanGrow r FitsView MayFollow so_far k batch → rest ≡ batch → Joins k so_far.entries so_far.view rest
  joins_first so_far k batch rest can e =
      subst (λ es. Joins k so_far.entries so_far.view es) (sym e) (record { is_view = can.view; fits = can.fits; follow = can.follow; few = can.few })

  pub joins_can : (k : Key) (entries : List KeyedEntry) (view : V) (rest : List Entry) (e : Entry) (more : List Entry) → Joins k entries view rest → rest ≡ e ∷ more → CanJoin r MayFollow view e
  joins_can k entries view rest e more j is =
      let here = subst (λ es. Joins k entries view es) is j in
      record { history = entries; few = omega (arith, here.few); is_view = j.is_view; follows = here.follow.0 }

  pub joins_next : (k : Key) (entries : List KeyedEntry) (view : V) (rest : List Entry) (e : Entry) (more : List Entry) (entries' : List KeyedEntry) (view' : V) →
      Joins k entries view rest → rest ≡ e ∷ more → view' ≡ r.absorb view k e → entries' ≡ entries ++ keyed_entry k e ∷ [] → Joins k entries' view' more
  joins_next k entries view rest e more entries' view' j is is_view longer =
      let here = subst (λ es. Joins k entries view es) is j in
      let can = joins_can k entries view rest e more j is in
      let size = length-append entries (keyed_entry k e ∷ []) in
      let next : Joins k (entries ++ keyed_entry k e ∷ []) (r.absorb view k e) more =
      record {
        is_view = ap (λ (v : V). r.absorb v k e) j.is_view ∙ sym (view_after-append r r.fresh_view entries (keyed_entry k e ∷ []));
        fits = law.absorb_fits view k e j.fits can;
        follow = here.follow.1;
        few = omega (arith, here.few, size);
      } in
      subst (λ v. Joins k entries' v more) (sym is_view) (subst (λ es. Joins k es (r.absorb view k e) more) (sym longer) next)

  pub more_entries : (k : Key) (start entries new : List KeyedEntry) (done : List Entry) (e : Entry) → entries ≡ start ++ under k done → new ≡ entries ++ keyed_entry k e ∷ [] → new ≡ start ++ under k (done ++ e ∷ [])
  more_entries k start entries new done e so_far longer = longer ∙ (ap (λ (es : List KeyedEntry). es ++ keyed_entry k e ∷ []) so_far ∙ (append_assoc start (under k done) (keyed_entry k e ∷ []) ∙ ap (λ (es : List KeyedEntry). start ++ es) (sym (under-append k done (e ∷ [])))))

  pub more_view : (k : Key) (start view new : V) (done : List Entry) (e : Entry) → view ≡ view_after r start (under k done) → new ≡ r.absorb view k e → new ≡ view_after r start (under k (done ++ e ∷ []))
  more_view k start view new done e so_far next =
      next ∙ (ap (λ (v : V). r.absorb v k e) so_far ∙ (sym (view_after-append r start (under k done) (keyed_entry k e ∷ [])) ∙ ap (view_after r start) (sym (under-append k done (e ∷ [])))))
