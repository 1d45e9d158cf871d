-- Where no object has another as its parent, nothing is below that one, and a request that takes no children changes one record (change request §11).
-- Assumes nothing.
use Prim.Native.Nat.{ℕ, zero, suc}
use mathlib.Core.Path.{◌≡◌, refl, sym, ap, ◌∙◌}
use mathlib.Core.Bool.{Bool, true, false, ◌&&◌, ◌||◌}
use mathlib.Core.List.{List, [], ◌∷◌}
use native.Mathlib.Omega.{arith}
use lib.ListN.{set}
use lib.Dec.{eqb}
use borrow.Author.Tests.{eqb-true, eq-eqb}
use Rattle.model.specs.declared.Object.{Object}
use Rattle.model.specs.declared.Monitor.{Monitor}
use Rattle.model.specs.declared.Request.{Request}
use Rattle.model.specs.declared.Request.TheVariants.{Get, Release, Give, Rescind, Create, Delete, ChangeLevel, SetCompanies}
use Rattle.model.specs.State.{object_count, no_object, object, with_object}
use Rattle.model.specs.Hierarchy.{parent_at, meets, below, without, has_child}
use Rattle.model.specs.Rules.{target, changed, already, spared, afterwards}
use Rattle.model.specs.Journal.{takes_children}
use Rattle.model.proofs.Tests.{split, clash, apart, and_left, and_right, and_both, or_cases, or_left, or_right, cond-true, cond-false}
use Rattle.model.proofs.Equal.{monitor-ext}

-- ---- children

-- one that has object o as its parent is found
pub child-found : (l : List Object) (o y : ℕ) → parent_at l y ≡ suc o → has_child l o ≡ true
unfolding has_child
child-found [] o y e = absurd (omega (arith, e))
child-found (ob ∷ l) o zero e =
    split ob.live
    (λ w. or_left (ob.live && eqb ob.parent (suc o)) _ (and_both w (eq-eqb _ _ (sym (cond-true ob.live _ _ w) ∙ e))))
    (λ w. absurd (omega (arith, sym (cond-false ob.live ob.parent 0 w) ∙ e)))
child-found (ob ∷ l) o (suc y) e = or_right (ob.live && eqb ob.parent (suc o)) _ (child-found l o y e)

-- and what is found is one
pub child-there : (l : List Object) (o : ℕ) → has_child l o ≡ true → (y : ℕ) × (parent_at l y ≡ suc o)
unfolding has_child
child-there [] o e = clash (sym e)
child-there (ob ∷ l) o e =
    or_cases (ob.live && eqb ob.parent (suc o)) _ e
    (λ w. (0, cond-true ob.live _ _ (and_left ob.live _ w) ∙ eqb-true _ _ (and_right ob.live _ w)))
    (λ w. let r = child-there l o w in (suc r.0, r.1))

-- ---- no child, nothing below

none-met : (l : List Object) (o : ℕ) → has_child l o ≡ false → (n y : ℕ) → meets n l o (parent_at l y) ≡ false
unfolding meets
none-met l o z n y = go n (parent_at l y) (λ e. child-found l o y e)
  where
    go : (n p : ℕ) → (p ≡ suc o → has_child l o ≡ true) → meets n l o p ≡ false
    go zero p h = refl
    go (suc n) zero h = refl
    go (suc n) (suc x) h =
        split (eqb x o) (λ w. apart (h (ap suc (eqb-true x o w))) z)
        (λ w. ap (λ (b : Bool). b || meets n l o (parent_at l x)) w ∙ go n (parent_at l x) (λ e. child-found l o x e))

without-none : (gone : ℕ → Bool) → ((k : ℕ) → gone k ≡ false) → (i : ℕ) (l : List Object) → without gone i l ≡ l
unfolding without
without-none gone h i [] = refl
without-none gone h i (ob ∷ l) =
    λ k. cond-false (gone i) no_object ob (h i) k ∷ without-none gone h (suc i) l k

-- ---- requests that take no children

pub spares-all : (q : Request) (m : Monitor) → takes_children q m ≡ false → spared q m.objects ≡ m.objects
spares-all (Get s o x) m e = refl
spares-all (Release s o x) m e = refl
spares-all (Give s t o x) m e = refl
spares-all (Rescind s t o x) m e = refl
spares-all (Create s o c) m e = refl
spares-all (Delete s o) m e = without-none (below m.objects o) (none-met m.objects o e object_count) 0 m.objects
spares-all (ChangeLevel s o l) m e = refl
spares-all (SetCompanies s o n) m e = refl

-- such a request changes the record of its object alone
pub one-changes : (q : Request) (m : Monitor) → takes_children q m ≡ false → afterwards q m ≡ with_object m (target q) (changed q (object m (target q)))
one-changes q m e =
    monitor-ext _ _ refl refl (ap (λ (l : List Object). set l (target q) (changed q (object m (target q)))) (spares-all q m e))

-- where the state was so already, no child is taken
pub already-takes-none : (q : Request) (m : Monitor) → already q (object m (target q)) ≡ true → takes_children q m ≡ false
unfolding already
already-takes-none (Get s o x) m e = refl
already-takes-none (Release s o x) m e = refl
already-takes-none (Give s t o x) m e = refl
already-takes-none (Rescind s t o x) m e = refl
already-takes-none (Create s o c) m e = refl
already-takes-none (Delete s o) m e = clash (sym e)
already-takes-none (ChangeLevel s o l) m e = refl
already-takes-none (SetCompanies s o n) m e = refl
