-- Entries that follow one after the other.
use Rattle.std.proofs.Common.{◌≡◌, suc, List, [], ◌∷◌, ◌++◌, length, refl, sym, ap, subst, append_assoc}
use Rattle.std.proofs.lemmas.List.{append-nil}
use Rattle.work_stamp.specs.Histories.{keyed_entry, under, FollowInTurn}
use Rattle.work_stamp.specs.Taskers.{Rules, view_after}
use Rattle.work_stamp.specs.declared.entry.Entry.{Entry}
use Rattle.work_stamp.specs.declared.key.Key.{Key}
use Rattle.work_stamp.specs.declared.stamped.KeyedEntry.{KeyedEntry}

pub under-append : (k : Key) (xs ys : List Entry) → under k (xs ++ ys) ≡ under k xs ++ under k ys
under-append k [] ys = refl
under-append k (x ∷ xs) ys = ap (λ (rest : List KeyedEntry). keyed_entry k x ∷ rest) (under-append k xs ys)

pub length-under : (k : Key) (xs : List Entry) → length (under k xs) ≡ length xs
length-under k [] = refl
length-under k (x ∷ xs) = ap suc (length-under k xs)

pub view_after-append : {V L : Type 0} (r : Rules V L) (v : V) (xs ys : List KeyedEntry) → view_after r v (xs ++ ys) ≡ view_after r (view_after r v xs) ys
view_after-append r v [] ys = refl
view_after-append r v (x ∷ xs) ys = view_after-append r (r.absorb v x.key x.entry) xs ys

module _ (MayFollow : List KeyedEntry → Entry → Type 0) where
  pub follow-append : (history xs ys : List KeyedEntry) → FollowInTurn MayFollow history xs → FollowInTurn MayFollow (history ++ xs) ys → FollowInTurn MayFollow history (xs ++ ys)
  follow-append history [] ys f g = subst (λ h. FollowInTurn MayFollow h ys) (append-nil history) g
  follow-append history (x ∷ xs) ys f g =
      (f.0, follow-append (history ++ x ∷ []) xs ys f.1 (subst (λ h. FollowInTurn MayFollow h ys) (sym (append_assoc history (x ∷ []) xs)) g))

  pub follow-left : (history xs ys : List KeyedEntry) → FollowInTurn MayFollow history (xs ++ ys) → FollowInTurn MayFollow history xs
  follow-left history [] ys f = tt
  follow-left history (x ∷ xs) ys f = (f.0, follow-left (history ++ x ∷ []) xs ys f.1)

  pub follow-right : (history xs ys : List KeyedEntry) → FollowInTurn MayFollow history (xs ++ ys) → FollowInTurn MayFollow (history ++ xs) ys
  follow-right history [] ys f = subst (λ h. FollowInTurn MayFollow h ys) (sym (append-nil history)) f
  follow-right history (x ∷ xs) ys f =
      subst (λ h. FollowInTurn MayFollow h ys) (append_assoc history (x ∷ []) xs) (follow-right (history ++ x ∷ []) xs ys f.1)
