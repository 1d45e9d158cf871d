-- The state after a request, by place: the record of its object, every other record, and the sets of a row that was stored into.
-- Assumes nothing.
use Prim.Native.Nat.{ℕ, ◌<◌}
use native.Mathlib.Omega.{arith}
use mathlib.Core.Path.{◌≡◌, refl, sym, ◌∙◌, subst}
use mathlib.Core.List.{List}
use lib.ListN.{length, length-set}
use lib.Seq.{get_or-set_same}
use Rattle.model.specs.declared.Subject.{Subject}
use Rattle.model.specs.declared.Object.{Object}
use Rattle.model.specs.declared.Monitor.{Monitor}
use Rattle.model.specs.declared.Request.{Request}
use Rattle.model.specs.declared.Request.TheVariants.{Get, Release, Give, Rescind, Create, Delete, ChangeLevel, SetCompanies}
use Rattle.model.specs.State.{no_object, object_at, object, rights_of, held_by, with_rights, with_held, WellFormedObject, WellFormed}
use Rattle.model.specs.Hierarchy.{below}
use Rattle.model.specs.Requests.{InRange}
use Rattle.model.specs.Rules.{target, changed, spared, afterwards}
use Rattle.model.proofs.Tests.{set_all, cond-all}
use Rattle.model.proofs.Hierarchy.{without-length, below-gone}

-- the object that a request is about is one of the 64
pub target_below : (q : Request) → InRange q → target q < 64
target_below (Get s o x) r = r.1
target_below (Release s o x) r = r.1
target_below (Give s t o x) r = r.2
target_below (Rescind s t o x) r = r.2
target_below (Create s o c) r = r.1
target_below (Delete s o) r = r.1
target_below (ChangeLevel s o l) r = r.1
target_below (SetCompanies s o n) r = r.1

-- the other objects: as many as before, each as it was or gone
pub spared-length : (q : Request) (l : List Object) → length (spared q l) ≡ length l
spared-length (Get s o x) l = refl
spared-length (Release s o x) l = refl
spared-length (Give s t o x) l = refl
spared-length (Rescind s t o x) l = refl
spared-length (Create s o c) l = refl
spared-length (Delete s o) l = without-length (below l o) 0 l
spared-length (ChangeLevel s o v) l = refl
spared-length (SetCompanies s o n) l = refl

pub spared-all : (P : ℕ → Object → Type 0) (q : Request) (l : List Object) → ((o : ℕ) → P o (object_at l o)) → ((o : ℕ) → P o no_object)
    → (o : ℕ) → P o (object_at (spared q l) o)
spared-all P (Get s o x) l h z = h
spared-all P (Release s o x) l h z = h
spared-all P (Give s t o x) l h z = h
spared-all P (Rescind s t o x) l h z = h
spared-all P (Create s o c) l h z = h
spared-all P (Delete s o) l h z = λ j. subst (P j) (sym (below-gone l o j)) (cond-all (P j) (below l o j) no_object (object_at l j) (λ e. z j) (λ e. h j))
spared-all P (ChangeLevel s o v) l h z = h
spared-all P (SetCompanies s o n) l h z = h

-- as many objects after it as before
pub length-after : (q : Request) (m : Monitor) → length (afterwards q m).objects ≡ length m.objects
length-after q m = length-set (spared q m.objects) (target q) _ ∙ spared-length q m.objects

-- the request's object has the record that the request makes
pub object-there : (q : Request) (m : Monitor) → WellFormed m → target q < 64 → object (afterwards q m) (target q) ≡ changed q (object m (target q))
object-there q m W h = get_or-set_same (spared q m.objects) (target q) _ no_object (omega (arith, h, spared-length q m.objects, W.objects-length))

-- what holds of every record, of no object at each place, and of the record that the request makes, holds of every record after it
pub objects-after : (P : ℕ → Object → Type 0) (q : Request) (m : Monitor) → ((o : ℕ) → P o (object m o)) → ((o : ℕ) → P o no_object)
    → P (target q) (changed q (object m (target q))) → (o : ℕ) → P o (object (afterwards q m) o)
objects-after P q m h z = set_all P (spared q m.objects) (target q) (changed q (object m (target q))) no_object (spared-all P q m.objects h z)

-- the set of a subject after a store there
pub rights-stored : {l : List Subject} (ob : Object) → WellFormedObject l ob → (s n : ℕ) → s < 16 → rights_of (with_rights ob s n) s ≡ n
rights-stored ob F s n h = get_or-set_same ob.rights s n 0 (omega (arith, h, F.shape.rights_length))

pub held-stored : {l : List Subject} (ob : Object) → WellFormedObject l ob → (s n : ℕ) → s < 16 → held_by (with_held ob s n) s ≡ n
held-stored ob F s n h = get_or-set_same ob.held s n 0 (omega (arith, h, F.shape.held_length))
