-- Site profiles (change request §8): the tests decide what they are tests of; a state that passes them keeps to its profile; the widest
-- profile has everything in it.
-- Assumes nothing.
use Prim.Native.Nat.{ℕ, ◌<◌, ◌≤◌}
use native.Mathlib.Omega.{arith}
use mathlib.Core.Path.{◌≡◌, refl, sym, ap, subst}
use mathlib.Core.Logic.{◌↔◌, ⊎_elim}
use mathlib.Core.Bool.{true, not, ◌&&◌}
use lib.ListN.{length}
use lib.Dec.{leb, ltb}
use borrow.Author.Tests.{lt-ltb, ltb-true, le-leb, leb-true}
use Rattle.model.specs.declared.Level.{Level}
use Rattle.model.specs.Levels.{Label, need, subset, present}
use Rattle.std.specs.Prelude.{Some, None}
use Rattle.model.specs.declared.Subject.{Subject}
use Rattle.model.specs.declared.Object.{Object}
use Rattle.model.specs.declared.Profile.{Profile}
use Rattle.model.specs.declared.Monitor.{Monitor}
use Rattle.model.specs.Tests.{all_below}
use Rattle.bits.specs.Bits.{odd}
use Rattle.model.specs.State.{subject_count, object_count, widest, nobody, no_object, clearance, enrolled, object}
use Rattle.model.specs.Profiles.{ProfileFits, profile_fits, level_inside, LabelInside, label_inside, subject_inside, object_inside, absent_beyond, clearance_inside, object_label_inside, levels_inside, Inside}
use Rattle.model.proofs.Tests.{split, apart, and_left, and_right, and_both, or_cases, or_left, or_right, not_on, below_out, below_in, beyond, le-or-lt}
use Rattle.model.proofs.Levels.{need-subset, at-least-decides}

-- ---- the tests decide

pub profile-decides : (p : Profile) → (profile_fits p ≡ true) ↔ ProfileFits p
unfolding profile_fits
profile-decides p = (
  λ e.
      let subjects = and_left (leb 1 p.subjects && leb p.subjects 16) _ e in
      let later = and_right (leb 1 p.subjects && leb p.subjects 16) _ e in
      let objects = and_left (leb 1 p.objects && leb p.objects 64) _ later in
      record {
        one-subject = leb-true _ _ (and_left (leb 1 p.subjects) _ subjects);
        subjects_fit = leb-true _ _ (and_right (leb 1 p.subjects) _ subjects);
        one_object = leb-true _ _ (and_left (leb 1 p.objects) _ objects);
        objects_fit = leb-true _ _ (and_right (leb 1 p.objects) _ objects);
        class_fits = ltb-true _ _ (and_right (leb 1 p.objects && leb p.objects 64) _ later);
      },
  λ F.
      and_both (and_both (le-leb _ _ F.one-subject) (le-leb _ _ F.subjects_fit))
      (and_both (and_both (le-leb _ _ F.one_object) (le-leb _ _ F.objects_fit)) (lt-ltb _ _ F.class_fits)),
)

pub label-inside-decides : (p : Profile) (l : Label) → (label_inside p l ≡ true) ↔ LabelInside p l
unfolding label_inside
label-inside-decides p None = (λ e. tt, λ u. refl)
label-inside-decides p (Some l) = at-least-decides p.highest l

-- ---- a state that keeps to its profile, and the tests of it

module _ (m : Monitor) (subjects : length m.subjects ≡ subject_count) (objects : length m.objects ≡ object_count) where
  -- nothing stands past the end of the two lists
  nobody-past : (s : ℕ) → 16 ≤ s → clearance m s ≡ None
  nobody-past s h = ap (λ (x : Subject). x.clearance) (beyond m.subjects s nobody (omega (arith, h, subjects)))

  none-past : (o : ℕ) → 64 ≤ o → object m o ≡ no_object
  none-past o h = beyond m.objects o no_object (omega (arith, h, objects))

  pub tests-inside : profile_fits m.profile ≡ true → absent_beyond m ≡ true → levels_inside m ≡ true → Inside m
  unfolding absent_beyond levels_inside
  tests-inside fits absent levels =
      record {
        fitting_profile = (profile-decides m.profile).0 fits;
        subjects_inside = λ s e.
            ⊎_elim
            (λ (h : 16 ≤ s). apart e (ap present (nobody-past s h)))
            (λ (h : s < 16).
            or_cases (ltb s m.profile.subjects) (not (enrolled m s)) (below_out 16 (subject_inside m) (and_left (all_below 16 (subject_inside m)) _ absent) s h)
            (λ q. ltb-true _ _ q) (λ q. apart e (not_on (enrolled m s) q)))
            (le-or-lt 16 s);
        objects_inside = λ o e.
            ⊎_elim
            (λ (h : 64 ≤ o). apart e (ap (λ (x : Object). x.live) (none-past o h)))
            (λ (h : o < 64).
            or_cases (ltb o m.profile.objects) (not (object m o).live) (below_out 64 (object_inside m) (and_right (all_below 16 (subject_inside m)) _ absent) o h)
            (λ q. ltb-true _ _ q) (λ q. apart e (not_on (object m o).live q)))
            (le-or-lt 64 o);
        clearances_inside = λ s.
            ⊎_elim
            (λ (h : 16 ≤ s). subst (LabelInside m.profile) (sym (nobody-past s h)) tt)
            (λ (h : s < 16). (label-inside-decides m.profile (clearance m s)).0 (below_out 16 (clearance_inside m) (and_left (all_below 16 (clearance_inside m)) _ levels) s h))
            (le-or-lt 16 s);
        labels_inside = λ o.
            ⊎_elim
            (λ (h : 64 ≤ o). subst (λ (x : Object). LabelInside m.profile x.label) (sym (none-past o h)) tt)
            (λ (h : o < 64). (label-inside-decides m.profile (object m o).label).0 (below_out 64 (object_label_inside m) (and_right (all_below 16 (clearance_inside m)) _ levels) o h))
            (le-or-lt 64 o);
      }

-- the other way the two lengths are not needed
module _ (m : Monitor) (I : Inside m) where
  pub inside-fits : profile_fits m.profile ≡ true
  inside-fits = (profile-decides m.profile).1 I.fitting_profile

  pub inside-absent : absent_beyond m ≡ true
  unfolding absent_beyond
  inside-absent =
      and_both
      (below_in 16 (subject_inside m) (λ s h. split (enrolled m s)
      (λ e. or_left _ _ (lt-ltb _ _ (I.subjects_inside s e)))
      (λ e. or_right (ltb s m.profile.subjects) _ (ap not e))))
      (below_in 64 (object_inside m) (λ o h. split (object m o).live
      (λ e. or_left _ _ (lt-ltb _ _ (I.objects_inside o e)))
      (λ e. or_right (ltb o m.profile.objects) _ (ap not e))))

  pub inside-levels : levels_inside m ≡ true
  unfolding levels_inside
  inside-levels =
      and_both
      (below_in 16 (clearance_inside m) (λ s h. (label-inside-decides m.profile (clearance m s)).1 (I.clearances_inside s)))
      (below_in 64 (object_label_inside m) (λ o h. (label-inside-decides m.profile (object m o).label).1 (I.labels_inside o)))

-- ---- the widest profile

-- sixteen ones have every set of sixteen needs
all-needs : (n : ℕ) → subset 16 n 65535 ≡ true
unfolding need odd
all-needs n = need-subset 16 n 65535 (λ i h e. below_out 16 (λ (k : ℕ). need k 65535) refl i h)

pub widest-level : (l : Level) → l.class < 16 → level_inside widest l ≡ true
widest-level l h = and_both (le-leb l.class 15 (omega (arith, h))) (all-needs l.needs)
