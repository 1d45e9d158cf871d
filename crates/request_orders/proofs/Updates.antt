-- What two gets do is the same in both orders, and so with gives and releases: each is an update of one object's record, and that one of a
-- set at one place.
-- Assumes nothing.
use Prim.Native.Nat.{ℕ, zero, suc, ◌<◌}
use mathlib.Core.Path.{◌≡◌, refl, ap}
use mathlib.Core.Bool.{Bool, true}
use mathlib.Core.List.{List, [], ◌∷◌}
use lib.ListN.{get_or, set}
use lib.Dec.{eqb}
use borrow.Author.Tests.{eqb-true}
use Rattle.model.specs.declared.Object.{Object}
use Rattle.model.specs.declared.Monitor.{Monitor}
use Rattle.model.specs.declared.Mode.{Mode}
use Rattle.model.specs.declared.Request.TheVariants.{Get, Release, Give}
use Rattle.model.specs.Tests.{all_below}
use Rattle.model.specs.Modes.{has, add, remove}
use Rattle.model.specs.State.{no_object, object, with_rows, WellFormed}
use Rattle.model.specs.Rules.{changed, afterwards}
use Rattle.model.proofs.Tests.{below_out}
use Rattle.model.proofs.Modes.{all_modes, modes-out}

-- ---- two updates of one list

-- the element at i becomes what f makes of it
abbrev update : {A : Type 0} → (f : A → A) → A → List A → ℕ → List A
update f d l i = set l i (f (get_or l i d))

-- two updates are the same in both orders, where their functions are at the element that both meet
update_comm : {A : Type 0} (f g : A → A) (d : A) (l : List A) (i j : ℕ)
    → (i ≡ j → f (g (get_or l i d)) ≡ g (f (get_or l i d))) → update f d (update g d l j) i ≡ update g d (update f d l i) j
update_comm f g d [] i j h = refl
update_comm f g d (x ∷ xs) zero zero h = ap (λ y. y ∷ xs) (h refl)
update_comm f g d (x ∷ xs) zero (suc j) h = refl
update_comm f g d (x ∷ xs) (suc i) zero h = refl
update_comm f g d (x ∷ xs) (suc i) (suc j) h = ap (λ ys. x ∷ ys) (update_comm f g d xs i j (λ e. h (ap suc e)))

-- ---- sets of modes, by a test over the sixteen sets

test : (f : Mode → Mode → ℕ → Bool) → all_modes (λ x. all_modes (λ y. all_below 16 (f x y))) ≡ true → (x y : Mode) (n : ℕ) → n < 16 → f x y n ≡ true
test f e x y n h = below_out 16 (f x y) (modes-out (λ y. all_below 16 (f x y)) (modes-out (λ x. all_modes (λ y. all_below 16 (f x y))) e x) y) n h

add_comm : (x y : Mode) (n : ℕ) → n < 16 → add x (add y n) ≡ add y (add x n)
unfolding has add
add_comm x y n h = eqb-true _ _ (test (λ x y n. eqb (add x (add y n)) (add y (add x n))) refl x y n h)

remove-comm : (x y : Mode) (n : ℕ) → n < 16 → remove x (remove y n) ≡ remove y (remove x n)
unfolding has remove
remove-comm x y n h = eqb-true _ _ (test (λ x y n. eqb (remove x (remove y n)) (remove y (remove x n))) refl x y n h)

-- two updates of a row of such sets
row-comm : (f g : ℕ → ℕ) (row : List ℕ) (s t : ℕ) → ((j : ℕ) → get_or row j 0 < 16) → ((n : ℕ) → n < 16 → f (g n) ≡ g (f n))
    → update f 0 (update g 0 row t) s ≡ update g 0 (update f 0 row s) t
row-comm f g row s t fits c = update_comm f g 0 row s t (λ e. c _ (fits s))

-- ---- states

-- the record of object o becomes what f makes of it; each of these kinds does that
abbrev remade : (Object → Object) → ℕ → Monitor → Monitor
remade f o m = record { profile = m.profile; subjects = m.subjects; objects = update f no_object m.objects o }

-- two of them are the same in both orders, where they are at the record that both meet
objects-comm : (f g : Object → Object) (o p : ℕ) (m : Monitor) → (o ≡ p → f (g (object m o)) ≡ g (f (object m o)))
    → remade f o (remade g p m) ≡ remade g p (remade f o m)
objects-comm f g o p m h =
    let same = update_comm f g no_object m.objects o p h in
    λ i. record { profile = m.profile; subjects = m.subjects; objects = same i }

-- a give changes rights and a release accesses
pub give-release-comm : (m : Monitor) (a s o : ℕ) (x : Mode) (t p : ℕ) (y : Mode)
    → afterwards (Give a s o x) (afterwards (Release t p y) m) ≡ afterwards (Release t p y) (afterwards (Give a s o x) m)
unfolding changed
give-release-comm m a s o x t p y = objects-comm (changed (Give a s o x)) (changed (Release t p y)) o p m (λ e. refl)

module _ (m : Monitor) (W : WellFormed m) where
  pub gets-comm : (s o : ℕ) (x : Mode) (t p : ℕ) (y : Mode)
      → afterwards (Get s o x) (afterwards (Get t p y) m) ≡ afterwards (Get t p y) (afterwards (Get s o x) m)
  unfolding changed
  gets-comm s o x t p y =
      let ob = object m o in
      let row = row-comm (add x) (add y) ob.held s t (W.objects_formed o).shape.held_fit (add_comm x y) in
      objects-comm (changed (Get s o x)) (changed (Get t p y)) o p m (λ e i. with_rows ob ob.rights (row i))

  pub releases-comm : (s o : ℕ) (x : Mode) (t p : ℕ) (y : Mode)
      → afterwards (Release s o x) (afterwards (Release t p y) m) ≡ afterwards (Release t p y) (afterwards (Release s o x) m)
  unfolding changed
  releases-comm s o x t p y =
      let ob = object m o in
      let row = row-comm (remove x) (remove y) ob.held s t (W.objects_formed o).shape.held_fit (remove-comm x y) in
      objects-comm (changed (Release s o x)) (changed (Release t p y)) o p m (λ e i. with_rows ob ob.rights (row i))

  pub gives-comm : (a s o : ℕ) (x : Mode) (b t p : ℕ) (y : Mode)
      → afterwards (Give a s o x) (afterwards (Give b t p y) m) ≡ afterwards (Give b t p y) (afterwards (Give a s o x) m)
  unfolding changed
  gives-comm a s o x b t p y =
      let ob = object m o in
      let row = row-comm (add x) (add y) ob.rights s t (W.objects_formed o).shape.rights-fit (add_comm x y) in
      objects-comm (changed (Give a s o x)) (changed (Give b t p y)) o p m (λ e i. with_rows ob (row i) ob.held)
