-- The checks of a request answer the first of its causes, in the scope's order; 2 is exactly its first row.
-- Assumes nothing.
use Prim.Native.Nat.{ℕ, ◌<◌}
use mathlib.Core.Path.{◌≡◌, refl, ap, subst}
use mathlib.Core.Logic.{◌⊎◌, inl, inr, ⊎_elim, ◌≢◌}
use mathlib.Core.Bool.{Bool, true, false, ◌&&◌}
use lib.ListN.{length}
use borrow.Author.Tests.{eq-eqb, eqb-true}
use Rattle.model.specs.declared.Level.{Level}
use Rattle.model.specs.Levels.{Label, present, dominates, Dominates}
use Rattle.std.specs.Prelude.{Some, None}
use Rattle.model.specs.declared.Object.{Object}
use Rattle.model.specs.declared.Monitor.{Monitor}
use Rattle.model.specs.declared.Mode.{Mode}
use Rattle.model.specs.declared.Mode.TheVariants.{Read, Write, Append, Execute}
use Rattle.model.specs.declared.Request.{Request}
use Rattle.model.specs.declared.Request.TheVariants.{Get, Release, Give, Rescind, Create, Delete, ChangeLevel, SetCompanies}
use Rattle.model.specs.declared.Decision.TheVariants.{NotEnrolled, NotLive, AlreadyLive, NoRight, NoLabel, SimpleBroken, StarBroken, LabelLowered, WallBroken, ParentNotLive, HierarchyBroken}
use Rattle.model.specs.Tests.{implies}
use Rattle.model.specs.Modes.{has, observes, needs_label}
use Rattle.model.specs.State.{clearance, enrolled, object, rights_of, held_by, with_label}
use Rattle.model.specs.Properties.{Simple, Star, Wall, Permits}
use Rattle.model.specs.Requests.{InRange}
use Rattle.model.specs.Rules.{not_lowered, target, changed, afterwards, checks, owns, simple_all, star_all, wall_all}
use Rattle.model.proofs.Levels.{absent}
use Rattle.model.proofs.Lowering.{not-lowered-decides}
use Rattle.model.proofs.Tests.{apart, and_left, and_right, and-false, implies-out, implies-in, implies-false, not_on, not-off}
use Rattle.model.proofs.After.{object-there, objects-after}
use Rattle.invariants.proofs.Form.{no-modes}
use Rattle.invariants.proofs.Pairs.{none-held}
use Rattle.invariants.proofs.Secure.{simple-in, simple-out}
use Rattle.invariants.proofs.Star.{star-in, star-for, star-of, star-get, star-all-in, star-all-out}
use Rattle.invariants.proofs.Wall.{wall-in, wall-for, wall-of, wall-get, wall-all-in, wall-all-out}
use Rattle.invariants.specs.Sound.{Sound}
use Rattle.invariants.proofs.Added.{simple-get-in, simple-get-out}
use Rattle.refusals.specs.First.{AnswersFirst}
use Rattle.refusals.specs.Causes.{NotIn, request_causes}
use Rattle.refusals.proofs.Hierarchy.{parent-there, parent-missing, change-rising, change-not-rising}
use Rattle.refusals.proofs.First.{answers-end, answers-check}

-- ---- what each test says of its cause

not-absent : (a : Label) → present a ≡ true → a ≡ None → ⊥
not-absent a e w = apart e (ap present w)

not-owner : (s : ℕ) (ob : Object) → owns s ob ≡ false → ob.owner ≢ s
not-owner s ob e w = apart (eq-eqb ob.owner s w) e

is-owner : (s : ℕ) (ob : Object) → owns s ob ≡ true → ob.owner ≢ s → ⊥
is-owner s ob e w = w (eqb-true _ _ e)

-- a fact that fails is not so
fails : {b : Bool} → b ≡ false → b ≡ true → ⊥
fails e w = apart w e

-- the new label of a change of level: 14
not-falling : (old new : Label) → not_lowered old new ≡ true → ((old ≢ None) × (Dominates new old → ⊥)) → ⊥
not-falling old new e w = w.1 ((not-lowered-decides old new).0 e w.0)

falling : (old new : Label) → not_lowered old new ≡ false → (old ≢ None) × (Dominates new old → ⊥)
falling old new e = (
  λ w. fails e ((not-lowered-decides old new).1 (λ h. absurd (h w))),
  λ d. fails e ((not-lowered-decides old new).1 (λ h. d)),
)

-- every mode but e needs a label
not-execute : (x : Mode) → x ≢ Execute → needs_label x ≡ true
not-execute Read h = refl
not-execute Write h = refl
not-execute Append h = refl
not-execute Execute h = absurd (h refl)

module _ (m : Monitor) (S : Sound m) where
  -- the actor, or the other subject
  two-enrolled : (s t : ℕ) → (enrolled m s && enrolled m t) ≡ true → (NotIn m s ⊎ NotIn m t) → ⊥
  two-enrolled s t e w =
      ⊎_elim (λ (u : NotIn m s). not-absent (clearance m s) (and_left (enrolled m s) (enrolled m t) e) u)
      (λ (u : NotIn m t). not-absent (clearance m t) (and_right (enrolled m s) (enrolled m t) e) u) w

  one-absent : (s t : ℕ) → (enrolled m s && enrolled m t) ≡ false → NotIn m s ⊎ NotIn m t
  one-absent s t e = and-false (enrolled m s) (enrolled m t) e (λ u. inl (absent (clearance m s) u)) (λ u. inr (absent (clearance m t) u))

  -- ownership with the right, for give and rescind
  may-give : (s o : ℕ) (x : Mode) → (owns s (object m o) && has x (rights_of (object m o) s)) ≡ true
      → (((object m o).owner ≢ s) ⊎ (Permits m s o x → ⊥)) → ⊥
  may-give s o x e w =
      ⊎_elim (λ (u : (object m o).owner ≢ s). is-owner s (object m o) (and_left (owns s (object m o)) _ e) u)
      (λ (u : Permits m s o x → ⊥). u (and_right (owns s (object m o)) _ e)) w

  may-not-give : (s o : ℕ) (x : Mode) → (owns s (object m o) && has x (rights_of (object m o) s)) ≡ false
      → ((object m o).owner ≢ s) ⊎ (Permits m s o x → ⊥)
  may-not-give s o x e = and-false (owns s (object m o)) (has x (rights_of (object m o) s)) e (λ u. inl (not-owner s (object m o) u)) (λ u. inr (fails u))

  -- the label, for the modes that need one: "7 (not e)"
  label-missing : (o : ℕ) (x : Mode) → implies (needs_label x) (present (object m o).label) ≡ false → (x ≢ Execute) × ((object m o).label ≡ None)
  label-missing o x e =
      let p = implies-false (needs_label x) (present (object m o).label) e in
      (λ w. apart p.0 (ap needs_label w), absent (object m o).label p.1)

  label-there : (o : ℕ) (x : Mode) → implies (needs_label x) (present (object m o).label) ≡ true → ((x ≢ Execute) × ((object m o).label ≡ None)) → ⊥
  label-there o x e w = not-absent (object m o).label (implies-out (needs_label x) _ e (not-execute x w.0)) w.1

  -- every row of accesses has sixteen sets
  rows_whole : (q : Request) → length (changed q (object m (target q))).held ≡ 16 → (o : ℕ) → length (object (afterwards q m) o).held ≡ 16
  rows_whole q e = objects-after (λ j ob. length ob.held ≡ 16) q m (λ j. (S.formed.objects_formed j).shape.held_length) (λ j. refl) e

  -- company numbers: the wall over all subjects
  wall-set-in : (s o n : ℕ) → wall_all (afterwards (SetCompanies s o n) m).objects ≡ true → Wall (afterwards (SetCompanies s o n) m)
  unfolding changed
  wall-set-in s o n e =
      wall-of (afterwards (SetCompanies s o n) m) (wall-all-out _ (rows_whole (SetCompanies s o n) (S.formed.objects_formed o).shape.held_length) e)

  -- a change of level: simple at the object for all subjects, star over all
  module _ (s o : ℕ) (l : Level) (o-below : o < 64) where
    labelled-now : object (afterwards (ChangeLevel s o l) m) o ≡ with_label (object m o) (Some l)
    unfolding changed
    labelled-now = object-there (ChangeLevel s o l) m S.formed o-below

    simple-change-in : simple_all m.subjects (changed (ChangeLevel s o l) (object m o)) ≡ true → Simple (afterwards (ChangeLevel s o l) m)
    unfolding changed
    simple-change-in e t p y =
        objects-after (λ j ob. has y (held_by ob t) ≡ true → observes y ≡ true → Dominates (clearance m t) ob.label) (ChangeLevel s o l) m
        (λ j. S.secure.simple t j y) (λ j e. none-held y _ (no-modes t) e)
        (simple-out m.subjects (with_label (object m o) (Some l)) (S.formed.objects_formed o).shape.held_length e t y) p

    simple-change-out : Simple (afterwards (ChangeLevel s o l) m) → simple_all m.subjects (changed (ChangeLevel s o l) (object m o)) ≡ true
    unfolding changed
    simple-change-out T =
        simple-in m.subjects (with_label (object m o) (Some l))
        (λ t y. subst (λ (b : Object). has y (held_by b t) ≡ true → observes y ≡ true → Dominates (clearance m t) b.label) labelled-now (T t o y))

    star-change-in : star_all (afterwards (ChangeLevel s o l) m).objects ≡ true → Star (afterwards (ChangeLevel s o l) m)
    unfolding changed
    star-change-in e =
        star-of (afterwards (ChangeLevel s o l) m) (star-all-out _ (rows_whole (ChangeLevel s o l) (S.formed.objects_formed o).shape.held_length) e)

  -- a get: simple at the actor and the object
  simple-after-get : (s o : ℕ) (x : Mode) → InRange (Get s o x) → implies (observes x) (dominates (clearance m s) (object m o).label) ≡ true
      → Simple (afterwards (Get s o x) m)
  unfolding changed
  simple-after-get s o x r e = simple-get-in m S s o x r.0 r.1 e

  simple-tested : (s o : ℕ) (x : Mode) → InRange (Get s o x) → Simple (afterwards (Get s o x) m)
      → implies (observes x) (dominates (clearance m s) (object m o).label) ≡ true
  unfolding changed
  simple-tested s o x r T = simple-get-out m S s o x r.0 r.1 T

  -- ---- the theorem, kind by kind

  pub request-answers : (q : Request) → InRange q → AnswersFirst (request_causes q m) (checks q m)
  unfolding checks
  request-answers (Get s o x) r =
      answers-check _ NotEnrolled _ _ _ refl (not-absent (clearance m s)) (absent (clearance m s))
      (answers-check _ NotLive _ _ _ refl (λ e w. w e) fails
      (answers-check _ NoRight _ _ _ refl (λ e w. w e) fails
      (answers-check _ NoLabel _ _ _ refl (label-there o x) (label-missing o x)
      (answers-check _ SimpleBroken _ _ _ refl
      (λ e w. w (simple-after-get s o x r e)) (λ e T. fails e (simple-tested s o x r T))
      (answers-check _ StarBroken _ _ _ refl
      (λ e w. w (star-of (afterwards (Get s o x) m) (star-get s o x m S.formed S.secure.star e)))
      (λ e T. fails e (implies-in _ _ (λ n. star-in s _ (star-for (afterwards (Get s o x) m) T s))))
      (answers-check _ WallBroken _ _ _ refl
      (λ e w. w (wall-of (afterwards (Get s o x) m) (wall-get s o x m S.formed S.secure.wall e)))
      (λ e T. fails e (wall-in s _ (wall-for (afterwards (Get s o x) m) T s)))
      answers-end))))))
  request-answers (Release s o x) r =
      answers-check _ NotEnrolled _ _ _ refl (not-absent (clearance m s)) (absent (clearance m s))
      (answers-check _ NotLive _ _ _ refl (λ e w. w e) fails
      answers-end)
  request-answers (Give s t o x) r =
      answers-check _ NotEnrolled _ _ _ refl (two-enrolled s t) (one-absent s t)
      (answers-check _ NotLive _ _ _ refl (λ e w. w e) fails
      (answers-check _ NoRight _ _ _ refl (may-give s o x) (may-not-give s o x)
      answers-end))
  request-answers (Rescind s t o x) r =
      answers-check _ NotEnrolled _ _ _ refl (two-enrolled s t) (one-absent s t)
      (answers-check _ NotLive _ _ _ refl (λ e w. w e) fails
      (answers-check _ NoRight _ _ _ refl (may-give s o x) (may-not-give s o x)
      answers-end))
  request-answers (Create s o c) r =
      answers-check _ NotEnrolled _ _ _ refl (not-absent (clearance m s)) (absent (clearance m s))
      (answers-check _ AlreadyLive _ _ _ refl (λ e w. apart w (not_on _ e)) (not-off _)
      (answers-check _ ParentNotLive _ _ _ refl (parent-there m c.parent) (parent-missing m c.parent)
      answers-end))
  request-answers (Delete s o) r =
      answers-check _ NotEnrolled _ _ _ refl (not-absent (clearance m s)) (absent (clearance m s))
      (answers-check _ NotLive _ _ _ refl (λ e w. w e) fails
      (answers-check _ NoRight _ _ _ refl (is-owner s (object m o)) (not-owner s (object m o))
      answers-end))
  request-answers (ChangeLevel s o l) r =
      answers-check _ NotEnrolled _ _ _ refl (not-absent (clearance m s)) (absent (clearance m s))
      (answers-check _ NotLive _ _ _ refl (λ e w. w e) fails
      (answers-check _ NoRight _ _ _ refl (is-owner s (object m o)) (not-owner s (object m o))
      (answers-check _ LabelLowered _ _ _ refl (not-falling (object m o).label (Some l)) (falling (object m o).label (Some l))
      (answers-check _ SimpleBroken _ _ _ refl
      (λ e w. w (simple-change-in s o l r.1 e)) (λ e T. fails e (simple-change-out s o l r.1 T))
      (answers-check _ StarBroken _ _ _ refl
      (λ e w. w (star-change-in s o l r.1 e)) (λ e T. fails e (star-all-in _ (star-for (afterwards (ChangeLevel s o l) m) T)))
      (answers-check _ HierarchyBroken _ _ _ refl (change-rising m S s o l) (change-not-rising m S s o l)
      answers-end))))))
  request-answers (SetCompanies s o n) r =
      answers-check _ NotEnrolled _ _ _ refl (not-absent (clearance m s)) (absent (clearance m s))
      (answers-check _ NotLive _ _ _ refl (λ e w. w e) fails
      (answers-check _ NoRight _ _ _ refl (is-owner s (object m o)) (not-owner s (object m o))
      (answers-check _ WallBroken _ _ _ refl
      (λ e w. w (wall-set-in s o n e)) (λ e T. fails e (wall-all-in _ (wall-for (afterwards (SetCompanies s o n) m) T)))
      answers-end)))
