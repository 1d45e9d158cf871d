-- The star property is one of pairs of accesses: its test decides it, and each rule keeps it.
-- Assumes nothing.
use Prim.Native.Nat.{ℕ}
use mathlib.Core.Path.{◌≡◌, refl}
use mathlib.Core.Bool.{true}
use mathlib.Core.List.{List}
use lib.ListN.{length, set}
use Rattle.model.specs.declared.Object.{Object}
use Rattle.model.specs.declared.Monitor.{Monitor}
use Rattle.model.specs.declared.Mode.{Mode}
use Rattle.model.specs.Levels.{Label, Dominates}
use Rattle.model.specs.declared.Request.{Request}
use Rattle.model.specs.declared.Request.TheVariants.{Get, Release, Give, Rescind, Create, Delete, ChangeLevel, SetCompanies}
use Rattle.model.specs.declared.Decision.TheVariants.{Granted}
use Rattle.model.specs.Tests.{implies}
use Rattle.model.specs.Modes.{has, observes, alters, needs_label}
use Rattle.model.specs.State.{no_object, object_at, held_by, WellFormed}
use Rattle.model.specs.Properties.{Secure, Star}
use Rattle.model.specs.Rules.{changed, afterwards, checks, star_pair, star_from, star_for, star_all}
use Rattle.model.proofs.Tests.{or_left, or_right, implies-out, implies-in, all-out, all_in}
use Rattle.model.proofs.Modes.{any-observes, any-alters, observes-some, alters-some}
use Rattle.model.proofs.Levels.{dominates-decides}
use Rattle.invariants.proofs.Granted.{granted-get, granted-change}
use Rattle.invariants.proofs.Form.{no-modes}
use Rattle.invariants.proofs.Pairs.{none-held, PairsFor, Fewer, pairs-idle, pairs-free, pairs-unseen, pairs-get, pairs-fewer, pairs-all-out, pairs-all-in}

-- what the star property asks of x on p and y on q
abbrev pub Flows : Mode → Object → Mode → Object → Type 0
Flows x p y q = observes x ≡ true → alters y ≡ true → Dominates q.label p.label

-- it asks nothing of modes that need no label, and looks at the labels alone
flows-only : (x y : Mode) (p q : Object) → (needs_label x ≡ true → needs_label y ≡ true → Flows x p y q) → Flows x p y q
flows-only x y p q h u a = h (or_left (observes x) (alters x) u) (or_right (observes y) (alters y) a) u a

flows-seen : (x y : Mode) (p q r s : Object) → r.label ≡ p.label → s.label ≡ q.label → Flows x p y q → Flows x r y s
flows-seen x y p q r s e f h u a = rw (e, f) (h u a)

abbrev label_of : Object → Label
label_of ob = ob.label

-- the star property of one subject
unfoldable pub StarFor : ℕ → List Object → Type 0
StarFor s l = PairsFor Flows s l

-- the test decides it
pub star-out : (s : ℕ) (l : List Object) → star_for s l ≡ true → StarFor s l
unfolding StarFor star_for star_from star_pair
star-out s l e p q x y r w o a =
    (dominates-decides _ _).0
    (implies-out _ _
    (all-out (star_pair s (object_at l p)) no_object l (implies-in _ _ (λ v. alters-some _ v (λ z g u. none-held z _ (no-modes s) g)))
    (implies-out _ _ (all-out (star_from s l) no_object l (implies-in _ _ (λ v. observes-some _ v (λ z g u. none-held z _ (no-modes s) g))) e p) (any-observes x _ r o)) q)
    (any-alters y _ w a))

pub star-in : (s : ℕ) (l : List Object) → StarFor s l → star_for s l ≡ true
unfolding StarFor star_for star_from star_pair
star-in s l h =
    all_in (star_from s l) no_object l
    (λ p. implies-in _ _ (λ r. all_in (star_pair s (object_at l p)) no_object l
    (λ q. implies-in _ _ (λ w. observes-some _ r (λ x g o. alters-some _ w (λ y k a. (dominates-decides _ _).1 (h p q x y g k o a)))))))

-- a subject that holds nothing
pub star-idle : (s : ℕ) (l : List Object) → ((o : ℕ) → held_by (object_at l o) s ≡ 0) → StarFor s l
unfolding StarFor
star-idle s l z = pairs-idle Flows s l z

-- an object on which it holds neither r nor w nor a, in the place of any other
pub star-free : (s : ℕ) (l : List Object) (o : ℕ) (ob : Object) → StarFor s l
    → ((x : Mode) → needs_label x ≡ true → has x (held_by ob s) ≡ true → ⊥) → StarFor s (set l o ob)
unfolding StarFor
star-free s l o ob = pairs-free needs_label label_of Flows flows-only flows-seen (λ ob s n. refl) (λ ob s n. refl) s l o ob

-- of all subjects
pub star-all-out : (l : List Object) → ((o : ℕ) → length (object_at l o).held ≡ 16) → star_all l ≡ true → (s : ℕ) → StarFor s l
unfolding star_all StarFor
star-all-out = pairs-all-out Flows star_for star-out star-in

pub star-all-in : (l : List Object) → ((s : ℕ) → StarFor s l) → star_all l ≡ true
unfolding star_all StarFor
star-all-in = pairs-all-in Flows star_for star-out star-in

-- the star property of a state is that of each subject
pub star-for : (m : Monitor) → Star m → (s : ℕ) → StarFor s m.objects
unfolding StarFor
star-for m h s p q x y r w u a = h s p q x y r u w a

pub star-of : (m : Monitor) → ((s : ℕ) → StarFor s m.objects) → Star m
unfolding StarFor
star-of m h s p q x y r u w a = h s p q x y r w u a

-- after a get: the actor's star is tested where the mode flows, and nobody else's changes
pub star-get : (s o : ℕ) (x : Mode) (m : Monitor) → WellFormed m → Star m → implies (needs_label x) (star_for s (afterwards (Get s o x) m).objects) ≡ true
    → (j : ℕ) → StarFor j (afterwards (Get s o x) m).objects
unfolding StarFor
star-get s o x m W T e =
    pairs-get needs_label label_of Flows flows-only flows-seen (λ ob s n. refl) (λ ob s n. refl) s o x m W (star-for m T)
    (λ w. star-out s _ (implies-out _ _ e w))

-- a kind by which nobody gains an access and no label changes
star-fewer : (q : Request) (m : Monitor) → WellFormed m → Star m → Fewer q → (j : ℕ) → StarFor j (afterwards q m).objects
unfolding StarFor
star-fewer q m W T f = pairs-fewer needs_label label_of Flows flows-only flows-seen (λ ob s n. refl) (λ ob s n. refl) q m W (star-for m T) f

pub changed-star : (q : Request) (m : Monitor) → WellFormed m → Secure m → ((o : ℕ) → length (object_at (afterwards q m).objects o).held ≡ 16)
    → checks q m ≡ Granted → (j : ℕ) → StarFor j (afterwards q m).objects
unfolding StarFor changed
changed-star (Get s o x) m W S n e =
    star-get s o x m W S.star (granted-get m s o x e).star
changed-star (Release s o x) m W S n e = star-fewer (Release s o x) m W S.star tt
changed-star (Give s t o x) m W S n e = star-fewer (Give s t o x) m W S.star tt
changed-star (Rescind s t o x) m W S n e = star-fewer (Rescind s t o x) m W S.star tt
changed-star (Create s o c) m W S n e = star-fewer (Create s o c) m W S.star tt
changed-star (Delete s o) m W S n e = star-fewer (Delete s o) m W S.star tt
changed-star (ChangeLevel s o v) m W S n e =
    star-all-out _ n (granted-change m s o v e).star
changed-star (SetCompanies s o k) m W S n e =
    λ j. pairs-unseen needs_label label_of Flows flows-only flows-seen (λ ob s n. refl) (λ ob s n. refl) j m.objects o _ (star-for m S.star j) refl refl
