-- The state with one access added: what is held in it, what its object is, and the simple property of it as one test.
-- Assumes nothing.
use Prim.Native.Nat.{ℕ, ◌<◌}
use mathlib.Core.Path.{◌≡◌, refl, sym, ap, ◌∙◌, subst}
use mathlib.Core.Logic.{◌⊎◌, inl, inr}
use mathlib.Core.Bool.{true}
use Rattle.model.specs.declared.Object.{Object}
use Rattle.model.specs.declared.Monitor.{Monitor}
use Rattle.model.specs.declared.Mode.{Mode}
use Rattle.model.specs.declared.Request.TheVariants.{Get}
use Rattle.model.specs.Tests.{implies}
use Rattle.model.specs.Levels.{Dominates, dominates}
use Rattle.model.specs.Modes.{has, add, observes}
use Rattle.model.specs.State.{no_object, clearance, object, held_by, with_held, WellFormed}
use Rattle.model.specs.Properties.{Simple, Holds}
use Rattle.model.specs.Rules.{changed}
use Rattle.model.proofs.Tests.{set_all, or_right, implies-in, implies-out}
use Rattle.model.proofs.Modes.{same_mode, has-add, add-has, held-add}
use Rattle.model.proofs.Levels.{dominates-decides}
use Rattle.model.proofs.After.{object-there, held-stored}
use Rattle.invariants.specs.Access.{with_access, unheld}
use Rattle.invariants.specs.Sound.{Sound}

-- nothing changes but who holds what
pub same-unheld : (m : Monitor) (s o : ℕ) (x : Mode) (p : ℕ) → unheld (object (with_access m s o x) p) ≡ unheld (object m p)
same-unheld m s o x = set_all (λ j ob. unheld ob ≡ unheld (object m j)) m.objects o _ no_object (λ j. refl) refl

module _ (m : Monitor) (W : WellFormed m) (s o : ℕ) (x : Mode) where
  -- what is so of the access added and of each held before is so of each held now
  pub held-now : (P : ℕ → ℕ → Mode → Type 0) → P s o x → ((t p : ℕ) (y : Mode) → Holds m t p y → P t p y)
      → (t p : ℕ) (y : Mode) → Holds (with_access m s o x) t p y → P t p y
  held-now P new old t p y =
      set_all (λ j ob. has y (held_by ob t) ≡ true → P t j y) m.objects o _ no_object (λ j. old t j y)
      (set_all (λ u k. has y k ≡ true → P u o y) (object m o).held s _ 0 (λ u. old u o y)
      (λ w. held-add x y _ ((W.objects_formed o).shape.held_fit s) w (λ e. subst (P s o) (sym e) new) (old s o y)) t) p

  -- what is held was held, or is the access added
  pub held-or-added : (t p : ℕ) (y : Mode) → Holds (with_access m s o x) t p y → Holds m t p y ⊎ ((t ≡ s) × (p ≡ o) × (y ≡ x))
  held-or-added = held-now (λ t p y. Holds m t p y ⊎ ((t ≡ s) × (p ≡ o) × (y ≡ x))) (inr (refl, refl, refl)) (λ t p y e. inl e)

  -- what was held is held
  pub held-still : (t p : ℕ) (y : Mode) → Holds m t p y → Holds (with_access m s o x) t p y
  held-still t p y =
      set_all (λ j ob. has y (held_by (object m j) t) ≡ true → has y (held_by ob t) ≡ true) m.objects o _ no_object (λ j w. w)
      (set_all (λ u k. has y (held_by (object m o) u) ≡ true → has y k ≡ true) (object m o).held s _ 0 (λ u w. w)
      (λ w. has-add y x _ ((W.objects_formed o).shape.held_fit s) ∙ or_right (same_mode y x) _ w) t) p

module _ (m : Monitor) (S : Sound m) (s o : ℕ) (x : Mode) (s-below : s < 16) (o-below : o < 64) where
  -- the object in the state with the access added
  pub there-now : object (with_access m s o x) o ≡ with_held (object m o) s (add x (held_by (object m o) s))
  unfolding changed
  there-now = object-there (Get s o x) m S.formed o-below

  pub holds-now : Holds (with_access m s o x) s o x
  holds-now =
      ap (λ (b : Object). has x (held_by b s)) there-now
      ∙ ap (has x) (held-stored (object m o) (S.formed.objects_formed o) s _ s-below)
      ∙ add-has x _ ((S.formed.objects_formed o).shape.held_fit s)

  -- the simple property of that state, tested at the actor and the object
  pub simple-get-out : Simple (with_access m s o x) → implies (observes x) (dominates (clearance m s) (object m o).label) ≡ true
  simple-get-out T =
      implies-in _ _ (λ n. (dominates-decides _ _).1 (subst (λ (b : Object). Dominates (clearance m s) b.label) there-now (T s o x holds-now n)))

  pub simple-get-in : implies (observes x) (dominates (clearance m s) (object m o).label) ≡ true → Simple (with_access m s o x)
  simple-get-in e t p y =
      set_all (λ j ob. has y (held_by ob t) ≡ true → observes y ≡ true → Dominates (clearance m t) ob.label) m.objects o _ no_object
      (λ j. S.secure.simple t j y)
      (set_all (λ u k. has y k ≡ true → observes y ≡ true → Dominates (clearance m u) (object m o).label) (object m o).held s _ 0
      (λ u. S.secure.simple u o y)
      (λ w n. held-add x y _ ((S.formed.objects_formed o).shape.held_fit s) w
      (λ q. (dominates-decides _ _).0 (implies-out _ _ e (sym (ap observes q) ∙ n))) (λ q. S.secure.simple s o y q n)) t)
      p
