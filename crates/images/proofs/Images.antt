-- Accepted tables and images: each begins a sound monitor, which is well formed, inside its profile, secure and with its objects under each other, and such a monitor passes
-- the checks of a beginning and of a state.
-- Assumes nothing.
use Prim.Native.Nat.{ℕ}
use mathlib.Core.Path.{◌≡◌, refl, sym, ap, ◌∙◌, subst}
use mathlib.Core.Bool.{Bool, true}
use mathlib.Core.List.{List, []}
use lib.ListN.{length-replicate, length}
use lib.Dec.{eqb}
use borrow.Author.Tests.{eqb-true}
use Rattle.model.specs.declared.Subject.{Subject}
use Rattle.model.specs.declared.Object.{Object}
use Rattle.model.specs.declared.Profile.{Profile}
use Rattle.model.specs.declared.Monitor.{Monitor}
use Rattle.model.specs.declared.Decision.{Decision}
use Rattle.model.specs.declared.Decision.TheVariants.{Granted, WrongLength, StrayBits, OutsideProfile}
use Rattle.model.specs.Tests.{first_failing}
use Rattle.model.specs.State.{no_object, object, held_by, fresh, WellFormedObject}
use Rattle.model.specs.Profiles.{LabelInside, absent_beyond, Inside}
use Rattle.model.specs.Layout.{table_size, image_size}
use Rattle.model.specs.Reading.{state_list, beginning_list, table_form, image_form, table_from, monitor_from, state_checks, table_checks, image_checks}
use Rattle.model.proofs.Tests.{replicate-at, clash, and_left, and_right, and_both, pass}
use Rattle.model.proofs.Profiles.{tests-inside, inside-fits, inside-absent, inside-levels}
use Rattle.model.proofs.Checks.{Passed, refusals, all-passed, all_pass}
use Rattle.invariants.specs.Sound.{Sound}
use Rattle.invariants.proofs.Form.{no-modes, no-object-formed}
use Rattle.invariants.proofs.Secure.{SecureObject, idle-secure}
use Rattle.invariants.proofs.Wall.{wall-idle}
use Rattle.invariants.proofs.Star.{star-idle}
use Rattle.invariants.proofs.Hierarchy.{rise-in, none-hierarchy}
use Rattle.invariants.proofs.Steps.{secure-of}
use Rattle.images.specs.Tables.{TableFits, TableInside}
use Rattle.images.proofs.Shapes.{Shape, image-shape, table-shape, fresh-shape, shape_of}
use Rattle.images.proofs.StateTests.{formed-out, formed-in, matrix-out, matrix-in, labelled_out, labelled-in, simple-all-out, simple-all-in, stars-out, stars-in, walls-out, walls-in, hierarchy-out, parents-in}

-- ---- a fresh monitor

-- no object is there that could be outside
pub fresh-inside : (p : Profile) (l : List Subject) → TableInside p l → Inside (fresh p l)
fresh-inside p l t =
    record {
      fitting_profile = t.fitting_profile;
      subjects_inside = t.subjects_inside;
      objects_inside = λ o e. clash (sym e ∙ ap (λ (ob : Object). ob.live) (replicate-at no_object 64 o));
      clearances_inside = t.clearances_inside;
      labels_inside = λ o. subst (λ (ob : Object). LabelInside p ob.label) (sym (replicate-at no_object 64 o)) tt;
    }

pub sound-fresh : (p : Profile) (l : List Subject) → TableFits l → Inside (fresh p l) → Sound (fresh p l)
sound-fresh p l t I =
    record {
      formed = record {
        subjects_length = t.subjects_length;
        clearances_fit = t.clearances_fit;
        objects-length = length-replicate 64 no_object;
        objects_formed = λ o. subst (WellFormedObject l) (sym (replicate-at no_object 64 o)) (no-object-formed l);
      };
      inside = I;
      secure = secure-of (fresh p l)
          (λ o. subst (SecureObject l) (sym (replicate-at no_object 64 o)) (idle-secure l no_object no-modes))
          (λ s. star-idle s _ (nothing s))
          (λ s. wall-idle s _ (nothing s));
      hierarchy = none-hierarchy (fresh p l) (λ o. replicate-at no_object 64 o);
    }
  where
    nothing : (s o : ℕ) → held_by (object (fresh p l) o) s ≡ 0
    nothing s o = ap (λ (ob : Object). held_by ob s) (replicate-at no_object 64 o) ∙ no-modes s

-- ---- the checks of a beginning under its profile

-- what a beginning has passed that nothing refuses: it has its length and its form, and its monitor is inside the profile
pub record Began (long formed : Bool) (m : Monitor) (later : List (Bool × Decision)) : Type 0 where
  pub is_long : long ≡ true
  pub is_formed : formed ≡ true
  pub is_inside : Inside m
  pub passed_later : Passed later

pub began : (long formed : Bool) (m : Monitor) (later : List (Bool × Decision)) → Shape m → refusals later ≡ true
    → first_failing (beginning_list long formed m later) ≡ Granted → Began long formed m later
began long formed m later S r e =
    let p = all-passed (beginning_list long formed m later) r e in
    record {
      is_long = p.1.0;
      is_formed = and_left formed (absent_beyond m) p.1.1.0;
      is_inside = tests-inside m S.table.subjects_length S.objects-length p.0 (and_right formed (absent_beyond m) p.1.1.0) p.1.1.1.0;
      passed_later = p.1.1.1.1;
    }

-- a monitor inside its profile passes them
pub begins : (long formed : Bool) (m : Monitor) (later : List (Bool × Decision)) → long ≡ true → formed ≡ true → Inside m
    → first_failing later ≡ Granted → first_failing (beginning_list long formed m later) ≡ Granted
begins long formed m later l f I e =
    pass _ OutsideProfile _ (inside-fits m I) ∙ pass _ WrongLength _ l ∙ pass _ StrayBits _ (and_both f (inside-absent m I))
    ∙ pass _ OutsideProfile _ (inside-levels m I) ∙ e

-- ---- accepted tables

-- what an accepted table has passed
pub table-passed : (p : Profile) (b : List ℕ) → table_checks p b ≡ Granted → (length b ≡ table_size) × (table_form b ≡ true) × Sound (fresh p (table_from b))
unfolding table_checks
table-passed p b e =
    let m = fresh p (table_from b) in
    let B = began (eqb (length b) table_size) (table_form b) m [] (fresh-shape p (table_from b) (table-shape b)) refl e in
    (eqb-true (length b) table_size B.is_long, B.is_formed, sound-fresh p (table_from b) (table-shape b) B.is_inside)

-- ---- accepted images

-- a sound state passes the checks of a state
pub state-passes : (m : Monitor) → Sound m → state_checks m ≡ Granted
unfolding state_checks
state-passes m S =
    let H = shape_of m S.formed in
    all_pass (state_list m) (
      formed-in m H S.formed,
      (
        matrix-in m H S.secure.discretionary,
        (
          labelled-in m H S.secure.labelled,
          (
            simple-all-in m H S.secure.simple,
            (
              stars-in m H S.secure.star,
              (
                walls-in m H S.secure.wall,
                (parents-in m H S.hierarchy.parents_live S.hierarchy.chains_end, (rise-in m S.hierarchy.rising_labels, tt)),
              ),
            ),
          ),
        ),
      ),
    )

-- what an accepted image has passed
pub image-passed : (p : Profile) (b : List ℕ) → image_checks p b ≡ Granted → (length b ≡ image_size) × (image_form b ≡ true) × Sound (monitor_from p b)
unfolding image_checks
image-passed p b e =
    let m = monitor_from p b in
    let S = image-shape p b in
    let B = began (eqb (length b) image_size) (image_form b) m (state_list m) S refl e in
    let q = B.passed_later in (
      eqb-true (length b) image_size B.is_long,
      B.is_formed,
      record {
        formed = formed-out m S q.0;
        inside = B.is_inside;
        secure = record {
          discretionary = matrix-out m S q.1.0;
          labelled = labelled_out m S q.1.1.0;
          simple = simple-all-out m S q.1.1.1.0;
          star = stars-out m S q.1.1.1.1.0;
          wall = walls-out m S q.1.1.1.1.1.0;
        };
        hierarchy = hierarchy-out m S q.1.1.1.1.1.1.0 q.1.1.1.1.1.1.1.0;
      },
    )
