-- "Monitors whose images differ in a parent reply differently to some list of deletions and creations" (change request §11): whatever else differs, what
-- `distinguish` gives is such a list, of at most two.
-- Assumes nothing.
use Prim.Native.Nat.{ℕ, zero, suc, ◌<◌, ◌≤◌}
use native.Mathlib.Omega.{arith}
use mathlib.Core.Path.{◌≡◌, refl, sym, ap, ◌∙◌, subst}
use mathlib.Core.Logic.{◌≢◌, ◌⊎◌, inl, inr}
use mathlib.Core.Bool.{Bool, true, false, ◌&&◌}
use mathlib.Core.List.{List, [], ◌∷◌, map}
use lib.ListN.{length}
use lib.Dec.{eqb}
use Rattle.model.specs.declared.Monitor.{Monitor}
use Rattle.model.specs.declared.Request.{Request}
use Rattle.model.specs.declared.Creation.{Creation}
use Rattle.model.specs.declared.Request.TheVariants.{Get, Release, Give, Rescind, Create, Delete, ChangeLevel, SetCompanies}
use Rattle.model.specs.State.{object}
use Rattle.model.specs.Hierarchy.{below}
use Rattle.model.specs.Requests.{creation, encode}
use Rattle.model.specs.Runs.{replies}
use Rattle.model.specs.Beginnings.{Reached}
use Rattle.model.proofs.Tests.{cond-all}
use Rattle.telling.specs.Distinguish.{or_else, search, when, differ, by_enrolment, by_life, by_owner, by_life_and_owner, by_below, to_parent, by_parent, by_standing, distinguish}
use Rattle.invariants.specs.Sound.{Sound}
use Rattle.images.proofs.Reached.{sound-reached}
use Rattle.equal_images.specs.Inputs.{DeletesOrCreates, OnlyThese}
use Rattle.equal_images.proofs.Probes.{Differs, alike, apart}
use Rattle.equal_images.proofs.Demand3.{probe-standing}

-- ---- deletions and creations: no other kind is one, and each of such a list is one

pub delete-or-create : (q : Request) → DeletesOrCreates q → ((s : ℕ) × (o : ℕ) × (q ≡ Delete s o)) ⊎ ((s : ℕ) × (o : ℕ) × (c : Creation) × (q ≡ Create s o c))
delete-or-create (Get s o x) h = absurd h
delete-or-create (Release s o x) h = absurd h
delete-or-create (Give s t o x) h = absurd h
delete-or-create (Rescind s t o x) h = absurd h
delete-or-create (Create s o c) h = inr (s, o, c, refl)
delete-or-create (Delete s o) h = inl (s, o, refl)
delete-or-create (ChangeLevel s o l) h = absurd h
delete-or-create (SetCompanies s o n) h = absurd h

pub each-of-these : (q : Request) (qs : List Request) → OnlyThese (q ∷ qs) → DeletesOrCreates q × OnlyThese qs
each-of-these q qs h = h

-- ---- a list of at most two deletions and creations, on every two monitors

record Small (qs : List Request) : Type 0 where
  short : length qs ≤ 2
  only : OnlyThese qs

none-small : Small []
none-small = record { short = omega arith; only = tt }

small-or : (a b : List Request) → Small a → Small b → Small (or_else a b)
unfolding or_else
small-or [] b p q = q
small-or (x ∷ a) b p q = p

small-search : (k : ℕ) (f : ℕ → List Request) → ((i : ℕ) → Small (f i)) → Small (search k f)
unfolding search
small-search zero f h = none-small
small-search (suc k) f h = small-or (search k f) (f k) (small-search k f h) (h k)

small-when : (b : Bool) (s o : ℕ) → Small (when b (Delete s o))
unfolding when
small-when true s o = record { short = omega arith; only = (tt, tt) }
small-when false s o = none-small

module _ (m n : Monitor) where
  small-below : (x y : ℕ) → Small (by_below m n x y)
  unfolding by_below
  small-below x y =
      cond-all Small ((object m x).live && differ (below m.objects x y) (below n.objects x y)) (Delete (object m x).owner x ∷ Create (object m x).owner y (creation false 0) ∷ []) [] (λ e. record { short = omega arith; only = (tt, (tt, tt)) }) (λ e. none-small)

  small-parent : (o a b : ℕ) → Small (to_parent m n o a b)
  unfolding to_parent
  small-parent o zero zero = none-small
  small-parent o zero (suc b) = small-below b o
  small-parent o (suc a) zero = small-below a o
  small-parent o (suc a) (suc b) =
      cond-all Small (eqb a b) [] _ (λ e. none-small) (λ e. small-or _ _ (small-below a o) (small-or _ _ (small-below b o) (small-below b a)))

  small-standing : Small (by_standing m n)
  unfolding by_standing by_enrolment by_life_and_owner by_life by_owner by_parent
  small-standing =
      small-or _ _ (small-search 16 _ (λ s. small-when _ s 0))
      (small-or _ _ (small-search 64 _ (λ o. small-or _ _ (small-when _ _ o) (small-when _ _ o))) (small-search 64 _ (λ o. small-parent o _ _)))

  pub standing-short : length (by_standing m n) ≤ 2
  standing-short = small-standing.short

-- ---- two states that differ in a parent

-- a list that is not empty is the first
first_found : (a b : List Request) → a ≢ [] → or_else a b ≡ a
unfolding or_else
first_found [] b h = absurd (h refl)
first_found (x ∷ a) b h = refl

pub parents-told : (m n : Monitor) → Sound m → Sound n → m.profile ≡ n.profile → (o : ℕ) → o < 64 → (object m o).parent ≢ (object n o).parent
    → OnlyThese (distinguish m n) × (length (distinguish m n) ≤ 2)
    × (replies (map encode (distinguish m n)) m ≢ replies (map encode (distinguish m n)) n)
unfolding distinguish Differs replies
parents-told m n S N one o h d =
    elim (probe-standing m.profile m n (record { sound = S; profile = refl }) (record { sound = N; profile = sym one })) [
      | alike e t ↦ absurd (d (t.under o h))
      | apart r l w ↦
          let found = first_found (by_standing m n) _ (λ e. w (ap (λ (qs : List Request). replies (map encode qs) m) e ∙ sym (ap (λ (qs : List Request). replies (map encode qs) n) e))) in
          let same = sym found in (
            subst OnlyThese same (small-standing m n).only,
            subst (λ (qs : List Request). length qs ≤ 2) same (small-standing m n).short,
            subst (λ (qs : List Request). replies (map encode qs) m ≢ replies (map encode qs) n) same w,
          )
    ]

-- of two reached monitors of one profile
pub reached-parents-told : (m n : Monitor) → Reached m → Reached n → m.profile ≡ n.profile → (o : ℕ) → o < 64 → (object m o).parent ≢ (object n o).parent
    → OnlyThese (distinguish m n) × (length (distinguish m n) ≤ 2)
    × (replies (map encode (distinguish m n)) m ≢ replies (map encode (distinguish m n)) n)
reached-parents-told m n R Q = parents-told m n (sound-reached m R) (sound-reached n Q)
