-- The checks of tables and images answer the first of their causes; when exactly an image is accepted.
-- Assumes nothing.
use Prim.Native.Nat.{ℕ}
use mathlib.Core.Path.{◌≡◌, refl, ap, subst}
use mathlib.Core.Logic.{◌⊎◌, inl, inr, ⊎_elim, ◌↔◌, ◌≢◌}
use mathlib.Core.Bool.{Bool, true, false, ◌&&◌, ◌||◌}
use mathlib.Core.List.{List}
use lib.ListN.{length}
use lib.Dec.{eqb}
use borrow.Author.Tests.{eq-eqb, eqb-true}
use Rattle.model.specs.declared.Subject.{Subject}
use Rattle.model.specs.declared.Object.{Object}
use Rattle.model.specs.declared.Profile.{Profile}
use Rattle.model.specs.declared.Monitor.{Monitor}
use Rattle.model.specs.declared.Decision.TheVariants.{Granted, NoRight, NoLabel, SimpleBroken, StarBroken, WrongLength, StrayBits, AbsentSubject, OutsideProfile, WallBroken, ParentNotLive, HierarchyBroken}
use Rattle.model.specs.State.{no_object, clearance_at, clearance, enrolled, object, rights_of, held_by, fresh, WellFormed}
use Rattle.model.specs.Properties.{Secure}
use Rattle.model.specs.Layout.{table_size, image_size}
use Rattle.model.specs.Reading.{table_from, monitor_from, table_checks, image_checks, only_enrolled}
use Rattle.model.specs.Tests.{all_of, implies}
use Rattle.model.specs.Levels.{present}
use Rattle.model.proofs.Tests.{apart, and-false, or-false, all-false, implies-false, below_false, replicate-at}
use Rattle.model.proofs.Levels.{absent}
use Rattle.images.proofs.Shapes.{table-shape, fresh-shape, image-shape}
use Rattle.images.proofs.StateTests.{formed-out, matrix-out, matrix-in, labelled_out, labelled-in, simple-all-out, simple-all-in, stars-out, stars-in, walls-out, walls-in}
use Rattle.images.proofs.Images.{image-passed}
use Rattle.refusals.specs.First.{AnswersFirst}
use Rattle.refusals.specs.Causes.{ProfileOutside, StrayInImage, ClearanceOutside, LabelOutside, OutsideInImage, AbsentActs, table_causes, image_causes, ParentMissing, LabelBelow}
use Rattle.refusals.proofs.Hierarchy.{parents-not-19, parents-19, rising, not-rising}
use Rattle.refusals.proofs.First.{answers-end, answers-check}
use Rattle.refusals.proofs.ProfileCauses.{profile-outside, profile-not-outside, levels-outside, levels-not-outside}
use Rattle.refusals.proofs.StrayBits.{table-11, table-not-11, image-11, image-not-11}

-- ---- who is absent

not-zero : (n : ℕ) → eqb n 0 ≡ false → n ≢ 0
not-zero n e w = apart (eq-eqb n 0 w) e

-- nobody who is absent owns, has a right or holds
none-acts : (m : Monitor) → WellFormed m → AbsentActs m → ⊥
none-acts m W a =
    let s = a.0 in
    let o = a.1 in
    let F = W.objects_formed o in
    let gone : enrolled m s ≡ false = ap present a.2.0 in
    ⊎_elim
    (λ (p : ((object m o).live ≡ true) × ((object m o).owner ≡ s)).
    apart (subst (λ (k : ℕ). enrolled m k ≡ true) p.1 (F.owner_enrolled p.0)) gone)
    (λ (p : (rights_of (object m o) s ≢ 0) ⊎ (held_by (object m o) s ≢ 0)).
    ⊎_elim (λ (u : rights_of (object m o) s ≢ 0). u (F.absent_rights s gone)) (λ (u : held_by (object m o) s ≢ 0). u (F.absent_held s gone)) p)
    a.2.1

-- where the test of one object fails, somebody absent acts there
absent-acts : (m : Monitor) → all_of (only_enrolled m.subjects) m.objects ≡ false → AbsentActs m
unfolding only_enrolled
absent-acts m e =
    all-false (only_enrolled m.subjects) no_object m.objects e
    (λ o h w. and-false (implies (object m o).live (enrolled m (object m o).owner)) _ w
    (λ v.
    let p = implies-false (object m o).live (enrolled m (object m o).owner) v in
    ((object m o).owner, o, (absent (clearance m (object m o).owner) p.1, inl (p.0, refl))))
    (λ v. below_false 16 (λ (s : ℕ). present (clearance_at m.subjects s) || (eqb (rights_of (object m o) s) 0 && eqb (held_by (object m o) s) 0)) v
    (λ s k u.
    let p = or-false (enrolled m s) (eqb (rights_of (object m o) s) 0 && eqb (held_by (object m o) s) 0) u in (
      s,
      o,
      (
        absent (clearance m s) p.0,
        inr (and-false (eqb (rights_of (object m o) s) 0) (eqb (held_by (object m o) s) 0) p.1 (λ r. inl (not-zero _ r)) (λ r. inr (not-zero _ r))),
      ),
    ))))

-- ---- the first refusal

length-is : (b : List ℕ) (n : ℕ) → eqb (length b) n ≡ true → length b ≢ n → ⊥
length-is b n e w = w (eqb-true _ _ e)

length-is-not : (b : List ℕ) (n : ℕ) → eqb (length b) n ≡ false → length b ≢ n
length-is-not b n e w = apart (eq-eqb (length b) n w) e

-- no object of a fresh monitor has a label
no-label-outside : (p : Profile) (l : List Subject) → LabelOutside p (fresh p l).objects → ⊥
no-label-outside p l w = apart (ap present w.2) (ap (λ (x : Object). present x.label) (replicate-at no_object 64 w.0))

-- "Tables are checked 10, 11", with 16 before and after
pub table-answers : (p : Profile) (b : List ℕ) → AnswersFirst (table_causes p b) (table_checks p b)
unfolding table_checks
table-answers p b =
    let l = table_from b in
    let m = fresh p l in
    let S = fresh-shape p l (table-shape b) in
    answers-check _ OutsideProfile _ _ _ refl (profile-not-outside p) (profile-outside p)
    (answers-check _ WrongLength _ _ _ refl (length-is b table_size) (length-is-not b table_size)
    (answers-check _ StrayBits _ _ _ refl (table-not-11 p b) (table-11 p b)
    (answers-check _ OutsideProfile _ _ _ refl (λ e w. levels-not-outside m S e (inl w))
    (λ e. ⊎_elim (λ (w : ClearanceOutside p l). w) (λ (w : LabelOutside p m.objects). absurd (no-label-outside p l w)) (levels-outside m S e))
    answers-end)))

-- a property that its test decides
decided : {P : Type 0} (b : Bool) → (P → b ≡ true) → b ≡ false → P → ⊥
decided b f e p = apart (f p) e

-- "images 10, 11, 12, 6, 7, 8, 9, each over the whole image before the next", with 16 before 10 and after 11
pub image-answers : (p : Profile) (b : List ℕ) → AnswersFirst (image_causes p b) (image_checks p b)
unfolding image_checks monitor_from
image-answers p b =
    let m = monitor_from p b in
    let S = image-shape p b in
    answers-check _ OutsideProfile _ _ _ refl (profile-not-outside p) (profile-outside p)
    (answers-check _ WrongLength _ _ _ refl (length-is b image_size) (length-is-not b image_size)
    (answers-check _ StrayBits _ _ _ refl (image-not-11 p b) (image-11 p b)
    (answers-check _ OutsideProfile _ _ _ refl (levels-not-outside m S) (levels-outside m S)
    (answers-check _ AbsentSubject _ _ _ refl (λ e. none-acts m (formed-out m S e)) (absent-acts m)
    (answers-check _ NoRight _ _ _ refl (λ e w. w (matrix-out m S e)) (decided _ (matrix-in m S))
    (answers-check _ NoLabel _ _ _ refl (λ e w. w (labelled_out m S e)) (decided _ (labelled-in m S))
    (answers-check _ SimpleBroken _ _ _ refl (λ e w. w (simple-all-out m S e)) (decided _ (simple-all-in m S))
    (answers-check _ StarBroken _ _ _ refl (λ e w. w (stars-out m S e)) (decided _ (stars-in m S))
    (answers-check _ WallBroken _ _ _ refl (λ e w. w (walls-out m S e)) (decided _ (walls-in m S))
    (answers-check _ ParentNotLive _ _ _ refl (parents-not-19 m S) (parents-19 m S)
    (answers-check _ HierarchyBroken _ _ _ refl (rising m) (not-rising m)
    answers-end)))))))))))

-- ---- acceptance

-- "An image is accepted exactly when it has this form, only enrolled subjects own, have rights or hold, and the state is secure"; under a profile
-- in its ranges, with nothing outside it; and where no parent is missing and no label is below that of its parent (change request §11)
pub image-accepted-exactly : (p : Profile) (b : List ℕ)
    → (image_checks p b ≡ Granted)
    ↔ ((ProfileOutside p → ⊥) × (length b ≡ image_size) × (StrayInImage p b → ⊥) × (OutsideInImage p b → ⊥) × (AbsentActs (monitor_from p b) → ⊥)
    × Secure (monitor_from p b) × (ParentMissing (monitor_from p b) → ⊥) × (((o : ℕ) × (q : ℕ) × LabelBelow (monitor_from p b) o q) → ⊥))
image-accepted-exactly p b = (
  λ e.
      let n = (image-answers p b).granted.0 e in
      let S = (image-passed p b e).2 in
      let behind = n.1.1.1.1.1.1.1.1.1.1 in
      (n.0, (image-passed p b e).0, n.1.1.0, n.1.1.1.0, n.1.1.1.1.0, S.secure, behind.0, behind.1.0),
  λ h.
      let S = h.5 in
      (image-answers p b).granted.1 (
        h.0,
        (
          λ w. w h.1,
          (
            h.2,
            (
              h.3,
              (
                h.4,
                (
                  λ w. w S.discretionary,
                  (
                    λ w. w S.labelled,
                    (λ w. w S.simple, (λ w. w S.star, (λ w. w S.wall, (h.6, (h.7, tt))))),
                  ),
                ),
              ),
            ),
          ),
        ),
      ),
)
