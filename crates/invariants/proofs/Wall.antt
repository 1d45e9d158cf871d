-- The wall of change request §10 is a property of pairs of accesses: its test decides it, and each rule keeps it.
-- Assumes nothing.
use Prim.Native.Nat.{ℕ}
use mathlib.Core.Path.{◌≡◌, refl}
use mathlib.Core.Bool.{Bool, true}
use mathlib.Core.List.{List}
use lib.ListN.{length}
use Rattle.model.specs.declared.Object.{Object}
use Rattle.model.specs.declared.Monitor.{Monitor}
use Rattle.model.specs.declared.Mode.{Mode}
use Rattle.model.specs.declared.Request.{Request}
use Rattle.model.specs.declared.Request.TheVariants.{Get, Release, Give, Rescind, Create, Delete, ChangeLevel, SetCompanies}
use Rattle.model.specs.declared.Decision.TheVariants.{Granted}
use Rattle.model.specs.Modes.{has, observes, alters, any_observes, any_held}
use Rattle.model.specs.Companies.{Compatible, Confined, compatible}
use Rattle.model.specs.State.{no_object, object_at, held_by, WellFormed}
use Rattle.model.specs.Properties.{Secure, Wall}
use Rattle.model.specs.Rules.{changed, afterwards, checks, wall_pair, wall_from, wall_for, wall_all}
use Rattle.model.proofs.Tests.{and_left, and_right, and_both, implies-out, implies-in, all-out, all_in}
use Rattle.model.proofs.Modes.{any-observes, any-alters, any_held-has, observes-some, alters-some, held-some}
use Rattle.model.proofs.Companies.{compatible-decides, confined-decides}
use Rattle.invariants.proofs.Granted.{granted-get, granted-companies}
use Rattle.invariants.proofs.Form.{no-modes}
use Rattle.invariants.proofs.Pairs.{none-held, PairsFor, Fewer, pairs-idle, pairs-unseen, pairs-get, pairs-fewer, pairs-all-out, pairs-all-in}

-- what its two rules ask of x on p and y on q
abbrev pub Apart : Mode → Object → Mode → Object → Type 0
Apart x p y q =
    Compatible p.companies q.companies × (observes x ≡ true → alters y ≡ true → Confined p.companies q.companies)

-- it asks of every mode, e too, and looks at the company numbers alone
abbrev every : Mode → Bool
every x = true

apart-only : (x y : Mode) (p q : Object) → (every x ≡ true → every y ≡ true → Apart x p y q) → Apart x p y q
apart-only x y p q h = h refl refl

apart-seen : (x y : Mode) (p q r s : Object) → r.companies ≡ p.companies → s.companies ≡ q.companies → Apart x p y q → Apart x r y s
apart-seen x y p q r s e f h = rw (e, f) h

abbrev companies_of : Object → ℕ
companies_of ob = ob.companies

-- the wall of one subject
unfoldable pub WallFor : ℕ → List Object → Type 0
WallFor s l = PairsFor Apart s l

-- the test decides it: of two objects on which the subject holds accesses
pair-out : (s : ℕ) (p q : Object) → wall_pair s p q ≡ true → (x y : Mode) → has x (held_by p s) ≡ true → has y (held_by q s) ≡ true → Apart x p y q
unfolding wall_pair
pair-out s p q e x y g h =
    let both = implies-out _ _ e (any_held-has y _ h) in (
      (compatible-decides _ _).0 (and_left (compatible p.companies q.companies) _ both),
      λ o a. (confined-decides _ _).0
          (implies-out _ _ (and_right (compatible p.companies q.companies) _ both) (and_both (any-observes x _ g o) (any-alters y _ h a))),
    )

pair-in : (s : ℕ) (p q : Object) → any_held (held_by p s) ≡ true
    → ((x y : Mode) → has x (held_by p s) ≡ true → has y (held_by q s) ≡ true → Apart x p y q) → wall_pair s p q ≡ true
unfolding wall_pair
pair-in s p q there h =
    implies-in _ _ (λ w.
    and_both
    ((compatible-decides _ _).1 (held-some _ there (λ x g. held-some _ w (λ y k. (h x y g k).0))))
    (implies-in _ _ (λ b.
    (confined-decides _ _).1
    (observes-some _ (and_left (any_observes (held_by p s)) _ b) (λ x g o.
    alters-some _ (and_right (any_observes (held_by p s)) _ b) (λ y k a. (h x y g k).1 o a))))))

-- and of one subject over all objects
pub wall-out : (s : ℕ) (l : List Object) → wall_for s l ≡ true → WallFor s l
unfolding WallFor wall_for wall_from wall_pair
wall-out s l e p q x y g h =
    pair-out s (object_at l p) (object_at l q)
    (all-out (wall_pair s (object_at l p)) no_object l (implies-in _ _ (λ v. held-some _ v (λ z k. none-held z _ (no-modes s) k)))
    (implies-out _ _ (all-out (wall_from s l) no_object l (implies-in _ _ (λ v. held-some _ v (λ z k. none-held z _ (no-modes s) k))) e p) (any_held-has x _ g)) q)
    x y g h

pub wall-in : (s : ℕ) (l : List Object) → WallFor s l → wall_for s l ≡ true
unfolding WallFor wall_for wall_from
wall-in s l h =
    all_in (wall_from s l) no_object l
    (λ p. implies-in _ _ (λ w. all_in (wall_pair s (object_at l p)) no_object l
    (λ q. pair-in s (object_at l p) (object_at l q) w (λ x y. h p q x y))))

-- a subject that holds nothing
pub wall-idle : (s : ℕ) (l : List Object) → ((o : ℕ) → held_by (object_at l o) s ≡ 0) → WallFor s l
unfolding WallFor
wall-idle s l z = pairs-idle Apart s l z

-- of all subjects
pub wall-all-out : (l : List Object) → ((o : ℕ) → length (object_at l o).held ≡ 16) → wall_all l ≡ true → (s : ℕ) → WallFor s l
unfolding wall_all WallFor
wall-all-out = pairs-all-out Apart wall_for wall-out wall-in

pub wall-all-in : (l : List Object) → ((s : ℕ) → WallFor s l) → wall_all l ≡ true
unfolding wall_all WallFor
wall-all-in = pairs-all-in Apart wall_for wall-out wall-in

-- the wall of a state is that of each subject
pub wall-for : (m : Monitor) → Wall m → (s : ℕ) → WallFor s m.objects
unfolding WallFor
wall-for m W s p q x y g h = (W.compatible s p q x y g h, λ o a. W.confined s p q x y g o h a)

pub wall-of : (m : Monitor) → ((s : ℕ) → WallFor s m.objects) → Wall m
unfolding WallFor
wall-of m h =
    record { compatible = λ s p q x y g k. (h s p q x y g k).0; confined = λ s p q x y g o k a. (h s p q x y g k).1 o a }

-- after a get: the actor's wall is tested, and nobody else's changes
pub wall-get : (s o : ℕ) (x : Mode) (m : Monitor) → WellFormed m → Wall m → wall_for s (afterwards (Get s o x) m).objects ≡ true
    → (j : ℕ) → WallFor j (afterwards (Get s o x) m).objects
unfolding WallFor
wall-get s o x m W T e =
    pairs-get every companies_of Apart apart-only apart-seen (λ ob s n. refl) (λ ob s n. refl) s o x m W (wall-for m T) (λ w. wall-out s _ e)

-- a kind by which nobody gains an access and no number changes
wall-fewer : (q : Request) (m : Monitor) → WellFormed m → Wall m → Fewer q → (j : ℕ) → WallFor j (afterwards q m).objects
unfolding WallFor
wall-fewer q m W T f = pairs-fewer every companies_of Apart apart-only apart-seen (λ ob s n. refl) (λ ob s n. refl) q m W (wall-for m T) f

pub changed-wall : (q : Request) (m : Monitor) → WellFormed m → Secure m → ((o : ℕ) → length (object_at (afterwards q m).objects o).held ≡ 16)
    → checks q m ≡ Granted → (j : ℕ) → WallFor j (afterwards q m).objects
unfolding WallFor changed
changed-wall (Get s o x) m W S n e = wall-get s o x m W S.wall (granted-get m s o x e).wall
changed-wall (Release s o x) m W S n e = wall-fewer (Release s o x) m W S.wall tt
changed-wall (Give s t o x) m W S n e = wall-fewer (Give s t o x) m W S.wall tt
changed-wall (Rescind s t o x) m W S n e = wall-fewer (Rescind s t o x) m W S.wall tt
changed-wall (Create s o c) m W S n e = wall-fewer (Create s o c) m W S.wall tt
changed-wall (Delete s o) m W S n e = wall-fewer (Delete s o) m W S.wall tt
changed-wall (ChangeLevel s o v) m W S n e =
    λ j. pairs-unseen every companies_of Apart apart-only apart-seen (λ ob s n. refl) (λ ob s n. refl) j m.objects o _ (wall-for m S.wall j) refl refl
changed-wall (SetCompanies s o k) m W S n e = wall-all-out _ n (granted-companies m s o k e).wall
