-- What comes again of a list of gives and releases changes nothing.
-- Assumes nothing.
use Prim.Native.Nat.{ℕ}
use mathlib.Core.Path.{◌≡◌, refl, sym, subst}
use mathlib.Core.Logic.{◌↔◌, inl, inr, ⊎_elim}
use mathlib.Core.List.Permᴰ
use mathlib.Core.List.{List, [], ◌∷◌}
use Rattle.model.specs.declared.Profile.{Profile}
use Rattle.model.specs.declared.Monitor.{Monitor}
use Rattle.model.specs.Runs.{reply, after}
use Rattle.model.specs.Beginnings.{Reached}
use Rattle.invariants.proofs.Steps.{profile-kept}
use Rattle.images.proofs.Reached.{sound-reached, reached-after}
use Rattle.effects.proofs.Demand2.{reply-1-exactly}
use Rattle.orders.specs.Orders.{OrderOf, Each, StandsIn}
use Rattle.orders.proofs.Places.{each-order, each_map, some_out, each_of, some_of, each_stands}
use Rattle.request_orders.specs.AnyOrder.{IsGranted}
use Rattle.request_orders.specs.RightsLists.{Gives, Releases, NothingElse, Left}
use Rattle.request_orders.proofs.Commuting.{Saying, granted-one, keeps-all}
use Rattle.request_orders.proofs.Owners.{OwnersKept, Ranged, rights-commuting}
use Rattle.request_orders.proofs.RightsLists.{ranged}
use Rattle.request_orders.proofs.RightsLeft.{rights-left, left_one}

module _ (m : Monitor) (r : Reached m) (bs : List (List ℕ)) (p : Each (NothingElse m.profile) bs) where
  kept : OwnersKept m (after bs m)
  kept = let C = rights-commuting m (sound-reached m r) in keeps-all m (OwnersKept m) Ranged C bs (ranged m.profile bs p) m C.start

  -- what stands in the list is granted behind it where it is granted before it
  granted-behind : (c : List ℕ) → StandsIn c bs → IsGranted (reply c (after bs m)) ↔ IsGranted (reply c m)
  granted-behind c w =
      granted-one m (OwnersKept m) Ranged (rights-commuting m (sound-reached m r)) c (each_of (Saying m.profile Ranged) bs (ranged m.profile bs p) w) (after bs m) kept

  -- the state behind the list is what is left of it by what stands in the list
  left-same : (cs : List (List ℕ)) → Each (λ c. StandsIn c bs) cs → Left cs (after bs m) (after bs m)
  left-same cs w =
      let L = rights-left m r bs p bs (Permᴰ.refl bs) in
      record {
        rights = λ t o x. (
          λ h. inl h,
          ⊎_elim (λ h. h) (λ k. some_out (λ c v g. (L.rights t o x).1 (inr (some_of _ bs v (subst (λ (k : Profile). Gives k t o x c) (profile-kept bs m) g.0, (granted-behind c v).0 g.1)))) cs w k),
        );
        accesses = λ s o x. (λ h. (h, each_map (λ c v e. each_of (λ b. Releases m.profile s o x b → ⊥) bs ((L.accesses s o x).0 h).1 v (subst (λ (k : Profile). Releases k s o x c) (profile-kept bs m) e)) cs w), λ h. h.0);
        profile = refl;
        subjects = refl;
        lives = λ o. refl;
        owners = λ o. refl;
        labels = λ o. refl;
        numbers = λ o. refl;
        parents = λ o. refl;
      }

  -- whatever of a list comes again, in whatever order and however often, changes nothing
  pub rights-again : (cs : List (List ℕ)) → Each (λ c. StandsIn c bs) cs → after cs (after bs m) ≡ after bs m
  rights-again cs w =
      let n = after bs m in
      let T = reached-after m r bs in
      let only : Each (NothingElse n.profile) cs =
      each_map (λ c v. subst (λ (k : Profile). NothingElse k c) (sym (profile-kept bs m)) (each_of (NothingElse m.profile) bs p v)) cs w in
      left_one cs n (after cs n) n (sound-reached (after cs n) (reached-after n T cs)).formed kept.sound.formed
      (rights-left n T cs only cs (Permᴰ.refl cs)) (left-same cs w)

  -- nor does the whole list in another order
  pub list-again : (cs : List (List ℕ)) → OrderOf bs cs → after cs (after bs m) ≡ after bs m
  list-again cs c = rights-again cs (each-order (λ b. StandsIn b bs) c (each_stands bs))

  -- and each that is granted says 1
  pub again-replies-1 : (c : List ℕ) → StandsIn c bs → IsGranted (reply c m) → reply c (after bs m) ≡ 1
  unfolding after
  again-replies-1 c w g = (reply-1-exactly (after bs m) (reached-after m r bs) c).1 ((granted-behind c w).1 g, rights-again (c ∷ []) (w, tt))
