-- The star test by the table of mode pairs; and a get: of every access that is held, the entry with the one that is wanted.
-- Assumes nothing.
use Prim.Native.Nat.{ℕ, ◌<◌}
use mathlib.Core.Path.{◌≡◌, ap, subst}
use mathlib.Core.Logic.{◌↔◌, ◌≢◌, ⊎_elim}
use mathlib.Core.Bool.{true}
use mathlib.Core.List.{List}
use Rattle.model.specs.declared.Object.{Object}
use Rattle.model.specs.Levels.{Label}
use Rattle.std.specs.Prelude.{None}
use Rattle.model.specs.declared.Monitor.{Monitor}
use Rattle.model.specs.declared.Mode.{Mode}
use Rattle.model.specs.Modes.{needs_label}
use Rattle.model.specs.State.{object}
use Rattle.model.specs.Properties.{Holds, Star}
use Rattle.model.specs.Rules.{star_for}
use Rattle.model.specs.ModePairs.{entry, Kept, Tabled, KeptByHeld}
use Rattle.model.proofs.ModePairs.{entry-star, turned, same_object, star-table}
use Rattle.invariants.specs.Access.{with_access}
use Rattle.invariants.specs.Sound.{Sound}
use Rattle.invariants.proofs.Pairs.{PairsFor}
use Rattle.invariants.proofs.Star.{StarFor, star-out, star-in}
use Rattle.invariants.proofs.Added.{same-unheld, held-or-added, held-still, holds-now}

-- ---- the test that the checks use

-- of one subject over all objects, it is the table's
pub test_table : (s : ℕ) (l : List Object) → (star_for s l ≡ true) ↔ PairsFor (λ x p y q. Kept (entry x y) p.label q.label) s l
unfolding StarFor
test_table s l = (
  λ e p q x y h k. (entry-star x y _ _).1 (star-out s l e p q x y h k, star-out s l e q p y x k h),
  λ T. star-in s l (λ p q x y h k. ((entry-star x y _ _).0 (T p q x y h k)).0),
)

-- ---- one access more

module _ (m : Monitor) (S : Sound m) (s o : ℕ) (x : Mode) (s-below : s < 16) (o-below : o < 64) where
  -- no label changes
  label_same : (p : ℕ) → (object (with_access m s o x) p).label ≡ (object m p).label
  label_same p = ap (λ (ob : Object). ob.label) (same-unheld m s o x p)

  table-added : (needs_label x ≡ true → (object m o).label ≢ None) → KeptByHeld m s o x → Tabled (with_access m s o x)
  table-added there K t p q y z g h =
      rw (label_same p, label_same q)
      (⊎_elim
      (λ a. ⊎_elim
      (λ b. (star-table m).0 S.secure.star t p q y z a b)
      (λ b. rw (b.1, b.2) (K p y (subst (λ (i : ℕ). Holds m i p y) b.0 a)))
      (held-or-added m S.formed s o x t q z h))
      (λ a. ⊎_elim
      (λ b. rw (a.1, a.2) (turned z x _ _ (K q z (subst (λ (i : ℕ). Holds m i q z) a.0 b))))
      (λ b. rw (a.1, a.2, b.1, b.2) (same_object x x (object m o).label there))
      (held-or-added m S.formed s o x t q z h))
      (held-or-added m S.formed s o x t p y g))

  -- adding the access, to an object that is labelled where its mode needs it, keeps star exactly where the entry with each access held is kept
  pub star-added : (needs_label x ≡ true → (object m o).label ≢ None) → Star (with_access m s o x) ↔ KeptByHeld m s o x
  star-added there = (
    λ T p h e.
        let k = (star-table (with_access m s o x)).0 T s p o h x (held-still m S.formed s o x s p h e) (holds-now m S s o x s-below o-below) in
        subst (λ (l : Label). Kept (entry h x) (object m p).label l) (label_same o)
        (subst (λ (l : Label). Kept (entry h x) l (object (with_access m s o x) o).label) (label_same p) k),
    λ K. (star-table (with_access m s o x)).1 (table-added there K),
  )
