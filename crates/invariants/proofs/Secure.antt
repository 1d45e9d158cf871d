-- Each rule keeps the discretionary, the label and the simple property, at the object that it changes.
-- Assumes nothing.
use Prim.Native.Nat.{ℕ, ◌<◌}
use mathlib.Core.Path.{◌≡◌, refl, sym, ap, ◌∙◌}
use mathlib.Core.Bool.{true, not, ◌&&◌}
use mathlib.Core.List.{List}
use lib.ListN.{length}
use Rattle.model.specs.declared.Subject.{Subject}
use Rattle.model.specs.declared.Object.{Object}
use Rattle.model.specs.declared.Monitor.{Monitor}
use Rattle.model.specs.declared.Mode.{Mode}
use Rattle.std.specs.Prelude.{Some}
use Rattle.model.specs.declared.Request.{Request}
use Rattle.model.specs.declared.Request.TheVariants.{Get, Release, Give, Rescind, Create, Delete, ChangeLevel, SetCompanies}
use Rattle.model.specs.declared.Decision.TheVariants.{Granted}
use Rattle.model.specs.Tests.{implies}
use Rattle.model.specs.Levels.{Dominates, dominates, present}
use Rattle.model.specs.Modes.{has, remove, observes, needs_label, any_observes}
use Rattle.model.specs.State.{no_object, clearance_at, object, rights_of, held_by, with_held, with_label, WellFormed}
use Rattle.model.specs.Properties.{Secure}
use Rattle.model.specs.Rules.{target, changed, checks, created, simple_all}
use Rattle.model.proofs.Tests.{set_all, set-two, row-all, and_left, and_right, and_both, or_right, implies-out, implies-in, below_out, below_in}
use Rattle.model.proofs.Modes.{has-add, has-remove, same_mode, held-add, held-remove, any-observes, observes-some}
use Rattle.model.proofs.Levels.{dominates-decides}
use Rattle.invariants.proofs.Granted.{granted-get, granted-change}
use Rattle.invariants.proofs.Form.{no-modes}
use Rattle.invariants.proofs.Pairs.{none-held}

-- ---- the discretionary, the label and the simple property at one object

pub record SecureObject (l : List Subject) (ob : Object) : Type 0 where
  pub discretionary : (s : ℕ) (x : Mode) → has x (held_by ob s) ≡ true → has x (rights_of ob s) ≡ true
  pub labelled : (s : ℕ) (x : Mode) → has x (held_by ob s) ≡ true → needs_label x ≡ true → present ob.label ≡ true
  pub simple : (s : ℕ) (x : Mode) → has x (held_by ob s) ≡ true → observes x ≡ true → Dominates (clearance_at l s) ob.label

pub object-secure : (m : Monitor) → Secure m → (o : ℕ) → SecureObject m.subjects (object m o)
object-secure m S o =
    record { discretionary = λ s x. S.discretionary s o x; labelled = λ s x. S.labelled s o x; simple = λ s x. S.simple s o x }

-- the test at one object decides the simple property there
pub simple-out : (l : List Subject) (ob : Object) → length ob.held ≡ 16 → simple_all l ob ≡ true
    → (s : ℕ) (x : Mode) → has x (held_by ob s) ≡ true → observes x ≡ true → Dominates (clearance_at l s) ob.label
unfolding simple_all
simple-out l ob n e =
    row-all (λ s k. (x : Mode) → has x k ≡ true → observes x ≡ true → Dominates (clearance_at l s) ob.label) ob.held n
    (λ s h x w o. (dominates-decides _ _).0
    (implies-out _ _ (below_out 16 (λ (s : ℕ). implies (any_observes (held_by ob s)) (dominates (clearance_at l s) ob.label)) e s h) (any-observes x _ w o)))
    (λ s x w o. none-held x 0 refl w)

pub simple-in : (l : List Subject) (ob : Object)
    → ((s : ℕ) (x : Mode) → has x (held_by ob s) ≡ true → observes x ≡ true → Dominates (clearance_at l s) ob.label) → simple_all l ob ≡ true
unfolding simple_all
simple-in l ob h =
    below_in 16 (λ (s : ℕ). implies (any_observes (held_by ob s)) (dominates (clearance_at l s) ob.label))
    (λ s b. implies-in _ _ (λ w. observes-some _ w (λ x g o. (dominates-decides _ _).1 (h s x g o))))

module _ (l : List Subject) where
  -- nobody holds anything
  pub idle-secure : (ob : Object) → ((s : ℕ) → held_by ob s ≡ 0) → SecureObject l ob
  idle-secure ob z =
      record {
        discretionary = λ s x e. none-held x _ (z s) e;
        labelled = λ s x e w. none-held x _ (z s) e;
        simple = λ s x e w. none-held x _ (z s) e;
      }

  -- the held set of s becomes n, whose modes are all allowed
  pub held-secure : (ob : Object) (s n : ℕ) → SecureObject l ob
      → ((x : Mode) → has x n ≡ true → has x (rights_of ob s) ≡ true)
      → ((x : Mode) → has x n ≡ true → needs_label x ≡ true → present ob.label ≡ true)
      → ((x : Mode) → has x n ≡ true → observes x ≡ true → Dominates (clearance_at l s) ob.label)
      → SecureObject l (with_held ob s n)
  held-secure ob s n S d t p =
      record {
        discretionary = set_all (λ j k. (x : Mode) → has x k ≡ true → has x (rights_of ob j) ≡ true) ob.held s n 0 S.discretionary d;
        labelled = set_all (λ j k. (x : Mode) → has x k ≡ true → needs_label x ≡ true → present ob.label ≡ true) ob.held s n 0 S.labelled t;
        simple = set_all (λ j k. (x : Mode) → has x k ≡ true → observes x ≡ true → Dominates (clearance_at l j) ob.label) ob.held s n 0 S.simple p;
      }

module _ (m : Monitor) (W : WellFormed m) (S : Secure m) where
  fits : (s o : ℕ) → held_by (object m o) s < 16
  fits s o = (W.objects_formed o).shape.held_fit s

  rights-fit : (s o : ℕ) → rights_of (object m o) s < 16
  rights-fit s o = (W.objects_formed o).shape.rights-fit s

  -- a set with one mode less keeps what the set had
  less-secure : (s o : ℕ) (x : Mode) → SecureObject m.subjects (with_held (object m o) s (remove x (held_by (object m o) s)))
  less-secure s o x =
      held-secure m.subjects (object m o) s _ (object-secure m S o)
      (λ y w. S.discretionary s o y (held-remove x y _ (fits s o) w))
      (λ y w. S.labelled s o y (held-remove x y _ (fits s o) w))
      (λ y w. S.simple s o y (held-remove x y _ (fits s o) w))

  pub changed-secure : (q : Request) → checks q m ≡ Granted → SecureObject m.subjects (changed q (object m (target q)))
  unfolding changed
  changed-secure (Get s o x) e =
      let g = granted-get m s o x e in
      held-secure m.subjects (object m o) s _ (object-secure m S o)
      (λ y w. held-add x y _ (fits s o) w
      (λ q. ap (λ (z : Mode). has z (rights_of (object m o) s)) q ∙ g.right)
      (λ q. S.discretionary s o y q))
      (λ y w n. held-add x y _ (fits s o) w
      (λ q. implies-out _ _ g.labelled (sym (ap needs_label q) ∙ n))
      (λ q. S.labelled s o y q n))
      (λ y w n. held-add x y _ (fits s o) w
      (λ q. (dominates-decides _ _).0 (implies-out _ _ g.simple (sym (ap observes q) ∙ n)))
      (λ q. S.simple s o y q n))
  changed-secure (Release s o x) e = less-secure s o x
  changed-secure (Give s t o x) e =
      record {
        discretionary = λ j y w. set_all (λ j k. has y (held_by (object m o) j) ≡ true → has y k ≡ true) (object m o).rights t _ 0 (λ j. S.discretionary j o y)
            (λ v. has-add y x _ (rights-fit t o) ∙ or_right (same_mode y x) _ (S.discretionary t o y v)) j w;
        labelled = λ j. S.labelled j o;
        simple = λ j. S.simple j o;
      }
  changed-secure (Rescind s t o x) e =
      let F = W.objects_formed o in
      let L = less-secure t o x in
      record {
        discretionary = λ j y w. set-two (λ j h r. has y h ≡ true → has y r ≡ true) (object m o).held (object m o).rights
            (F.shape.held_length ∙ sym F.shape.rights_length) t _ 0 _ 0 (λ j. S.discretionary j o y)
            (λ v.
            let u : (not (same_mode y x) && has y (held_by (object m o) t)) ≡ true = sym (has-remove y x _ (fits t o)) ∙ v in
            has-remove y x _ (rights-fit t o)
            ∙ and_both (and_left (not (same_mode y x)) _ u) (S.discretionary t o y (and_right (not (same_mode y x)) _ u)))
            j w;
        labelled = L.labelled;
        simple = L.simple;
      }
  changed-secure (Create s o c) e = idle-secure m.subjects (created s c) no-modes
  changed-secure (Delete s o) e = idle-secure m.subjects no_object no-modes
  changed-secure (ChangeLevel s o v) e =
      record {
        discretionary = λ j. S.discretionary j o;
        labelled = λ j y w n. refl;
        simple = simple-out m.subjects (with_label (object m o) (Some v)) (W.objects_formed o).shape.held_length (granted-change m s o v e).simple;
      }
  changed-secure (SetCompanies s o n) e =
      record { discretionary = λ j. S.discretionary j o; labelled = λ j. S.labelled j o; simple = λ j. S.simple j o }
