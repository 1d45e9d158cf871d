-- The wall of a state with one access added: of every access that is held, the two rules with the one that is added. And company numbers that are
-- set to what they are.
-- Assumes nothing.
use Prim.Native.Nat.{ℕ, ◌<◌}
use mathlib.Core.Path.{◌≡◌, refl, sym, ap, ◌∙◌, subst}
use mathlib.Core.Logic.{◌↔◌, ⊎_elim}
use mathlib.Core.Bool.{true}
use mathlib.Core.List.{List}
use lib.ListN.{set}
use lib.Seq.{set-get_or}
use borrow.Author.Tests.{eq-eqb}
use Rattle.model.specs.declared.Object.{Object}
use Rattle.model.specs.declared.Monitor.{Monitor}
use Rattle.model.specs.declared.Mode.{Mode}
use Rattle.model.specs.declared.Request.TheVariants.{SetCompanies}
use Rattle.model.specs.declared.Decision.TheVariants.{Granted}
use Rattle.model.specs.Companies.{WallAsks}
use Rattle.model.specs.State.{no_object, object}
use Rattle.model.specs.Properties.{Holds, Wall}
use Rattle.model.specs.Rules.{changed, checks, wall_all}
use Rattle.model.proofs.Companies.{compatible-itself, confined-itself, compatible-sym}
use Rattle.model.proofs.Equal.{with-companies-same}
use Rattle.invariants.specs.Access.{with_access, WallByHeld}
use Rattle.invariants.specs.Sound.{Sound}
use Rattle.invariants.proofs.Granted.{grants-companies}
use Rattle.invariants.proofs.Wall.{WallFor, wall-for, wall-of, wall-all-in}
use Rattle.invariants.proofs.Added.{same-unheld, held-or-added, held-still, holds-now}

module _ (m : Monitor) (S : Sound m) (s o : ℕ) (x : Mode) (s-below : s < 16) (o-below : o < 64) where
  -- no number changes
  companies-same : (p : ℕ) → (object (with_access m s o x) p).companies ≡ (object m p).companies
  companies-same p = ap (λ (ob : Object). ob.companies) (same-unheld m s o x p)

  wall-kept : WallByHeld m s o x → (t : ℕ) → WallFor t (with_access m s o x).objects
  unfolding WallFor
  wall-kept K t p q y z g h =
      rw (companies-same p, companies-same q)
      (⊎_elim
      (λ a. ⊎_elim
      (λ b. wall-for m S.secure.wall t p q y z a b)
      (λ b. rw (b.1, b.2) (let k = K p y (subst (λ (i : ℕ). Holds m i p y) b.0 a) in (k.0, k.1)))
      (held-or-added m S.formed s o x t q z h))
      (λ a. ⊎_elim
      (λ b. rw (a.1, a.2) (let k = K q z (subst (λ (i : ℕ). Holds m i q z) a.0 b) in (compatible-sym _ _ k.0, k.2)))
      (λ b. rw (a.1, b.1) (compatible-itself (object m o).companies, λ u v. confined-itself (object m o).companies))
      (held-or-added m S.formed s o x t q z h))
      (held-or-added m S.formed s o x t p y g))

  -- adding the access keeps the wall exactly where both rules are kept with each access held
  pub wall-added : Wall (with_access m s o x) ↔ WallByHeld m s o x
  wall-added = (
    λ T p h e.
        let there = held-still m S.formed s o x s p h e in
        let now = holds-now m S s o x s-below o-below in
        subst (λ (k : ℕ). WallAsks h x k (object m o).companies) (companies-same p)
        (subst (λ (k : ℕ). WallAsks h x (object (with_access m s o x) p).companies k) (companies-same o)
        (T.compatible s p o h x there now, λ u a. T.confined s p o h x there u now a, λ u a. T.confined s o p x h now u there a)),
    λ K. wall-of (with_access m s o x) (wall-kept K),
  )

-- the owner sets the numbers that the object has: nothing changes, and the state was secure
pub same-companies-granted : (m : Monitor) → Sound m → (o : ℕ) → (object m o).live ≡ true
    → checks (SetCompanies (object m o).owner o (object m o).companies) m ≡ Granted
unfolding changed
same-companies-granted m S o live =
    grants-companies m (object m o).owner o (object m o).companies
    (record {
      there = (S.formed.objects_formed o).owner_enrolled live;
      live = live;
      owned = eq-eqb (object m o).owner _ refl;
      wall = subst (λ (k : List Object). wall_all k ≡ true)
          (sym (ap (set m.objects o) (with-companies-same (object m o) _ refl) ∙ set-get_or m.objects o no_object))
          (wall-all-in m.objects (wall-for m S.secure.wall));
    })
