-- What is outside a profile (change request §8): each test of a profile fails exactly where something is outside.
-- Assumes nothing.
use Prim.Native.Nat.{ℕ, ◌<◌, ◌≤◌}
use native.Mathlib.Omega.{arith}
use mathlib.Core.Path.{◌≡◌, refl, ap, subst}
use mathlib.Core.Logic.{◌⊎◌, inl, inr, ⊎_elim}
use mathlib.Core.Bool.{true, false, ◌&&◌}
use lib.Dec.{leb}
use borrow.Author.Tests.{leb-false, ltb-false}
use Rattle.model.specs.declared.Level.{Level}
use Rattle.model.specs.Levels.{Label, need, subset, present}
use Rattle.std.specs.Prelude.{Some, None}
use Rattle.model.specs.declared.Subject.{Subject}
use Rattle.model.specs.declared.Object.{Object}
use Rattle.model.specs.declared.Profile.{Profile}
use Rattle.model.specs.declared.Monitor.{Monitor}
use Rattle.model.specs.Tests.{all_below, implies}
use Rattle.model.specs.State.{subject_count, object_count, nobody, no_object, clearance, object}
use Rattle.model.specs.Profiles.{profile_fits, LevelInside, level_inside, LabelInside, label_inside, clearance_inside, object_label_inside, levels_inside}
use Rattle.model.proofs.Tests.{split, apart, clash, and_left, and_right, and-false, below_out, below_false, implies-out, implies-false, beyond, le-or-lt}
use Rattle.model.proofs.Levels.{need-subset}
use Rattle.model.proofs.Profiles.{profile-decides, label-inside-decides}
use Rattle.images.proofs.Shapes.{Shape}
use Rattle.refusals.specs.Causes.{ProfileOutside, NeedOutside, LevelOutside, ClearanceOutside, LabelOutside}

-- ---- a profile outside its ranges

pub profile-outside : (p : Profile) → profile_fits p ≡ false → ProfileOutside p
unfolding profile_fits
profile-outside p e =
    and-false (leb 1 p.subjects && leb p.subjects 16) _ e
    (λ w. and-false (leb 1 p.subjects) _ w (λ v. inl (leb-false _ _ v)) (λ v. inr (inl (leb-false _ _ v))))
    (λ w. and-false (leb 1 p.objects && leb p.objects 64) _ w
    (λ v. and-false (leb 1 p.objects) _ v (λ u. inr (inr (inl (leb-false _ _ u)))) (λ u. inr (inr (inr (inl (leb-false _ _ u))))))
    (λ v. inr (inr (inr (inr (ltb-false _ _ v))))))

pub profile-not-outside : (p : Profile) → profile_fits p ≡ true → ProfileOutside p → ⊥
profile-not-outside p e w =
    let F = (profile-decides p).0 e in
    ⊎_elim (λ (h : p.subjects < 1). absurd (omega (arith, h, F.one-subject)))
    (λ w. ⊎_elim (λ (h : 16 < p.subjects). absurd (omega (arith, h, F.subjects_fit)))
    (λ w. ⊎_elim (λ (h : p.objects < 1). absurd (omega (arith, h, F.one_object)))
    (λ w. ⊎_elim (λ (h : 64 < p.objects). absurd (omega (arith, h, F.objects_fit))) (λ (h : 15 < p.highest.class). absurd (omega (arith, h, F.class_fits))) w) w) w) w

-- ---- a level outside a profile

need-outside : (b a : ℕ) → subset 16 b a ≡ false → (k : ℕ) × (k < 16) × (need k b ≡ true) × (need k a ≡ false)
need-outside b a e =
    split (all_below 16 (λ (k : ℕ). implies (need k b) (need k a)))
    (λ w. apart (need-subset 16 b a (λ k h n. implies-out _ _ (below_out 16 (λ (k : ℕ). implies (need k b) (need k a)) w k h) n)) e)
    (λ w. below_false 16 (λ (k : ℕ). implies (need k b) (need k a)) w (λ k h n. let p = implies-false (need k b) (need k a) n in (k, h, p.0, p.1)))

pub level-outside : (p : Profile) (l : Level) → level_inside p l ≡ false → LevelOutside p l
level-outside p l e =
    and-false (leb l.class p.highest.class) (subset 16 l.needs p.highest.needs) e
    (λ w. inl (leb-false _ _ w)) (λ w. inr (need-outside l.needs p.highest.needs w))

pub level-not-outside : (p : Profile) (l : Level) → LevelInside p l → LevelOutside p l → ⊥
level-not-outside p l I w =
    ⊎_elim (λ (h : p.highest.class < l.class). absurd (omega (arith, h, I.class)))
    (λ (h : NeedOutside p l.needs). apart (I.needs h.0 h.1 h.2) h.3) w

-- a label that is there and outside
label-outside : (p : Profile) (a : Label) → label_inside p a ≡ false → (l : Level) × (a ≡ Some l) × LevelOutside p l
unfolding label_inside
label-outside p None e = clash e
label-outside p (Some l) e = (l, refl, level-outside p l e)

label-not-outside : (p : Profile) (a : Label) → LabelInside p a → (l : Level) → a ≡ Some l → LevelOutside p l → ⊥
label-not-outside p a I l e w = level-not-outside p l (subst (LabelInside p) e I) w

-- ---- "a clearance or label outside its profile"

module _ (m : Monitor) (S : Shape m) where
  pub clearance-outside : all_below subject_count (clearance_inside m) ≡ false → ClearanceOutside m.profile m.subjects
  clearance-outside e =
      below_false 16 (clearance_inside m) e (λ s h w. let p = label-outside m.profile (clearance m s) w in (s, p.0, p.1, p.2))

  pub clearance-not-outside : all_below subject_count (clearance_inside m) ≡ true → ClearanceOutside m.profile m.subjects → ⊥
  clearance-not-outside e w =
      let s = w.0 in
      ⊎_elim
      (λ (h : 16 ≤ s). apart (ap present w.2) (ap (λ (x : Subject). present x.clearance) (beyond m.subjects s nobody (omega (arith, h, S.table.subjects_length)))))
      (λ (h : s < 16). label-not-outside m.profile (clearance m s) ((label-inside-decides m.profile (clearance m s)).0 (below_out 16 (clearance_inside m) e s h)) w.1 w.2 w.3)
      (le-or-lt 16 s)

  pub object-label-outside : all_below object_count (object_label_inside m) ≡ false → LabelOutside m.profile m.objects
  object-label-outside e =
      below_false 64 (object_label_inside m) e (λ o h w. let p = label-outside m.profile (object m o).label w in (o, p.0, p.1, p.2))

  pub object-label-not-outside : all_below object_count (object_label_inside m) ≡ true → LabelOutside m.profile m.objects → ⊥
  object-label-not-outside e w =
      let o = w.0 in
      ⊎_elim
      (λ (h : 64 ≤ o). apart (ap present w.2) (ap (λ (x : Object). present x.label) (beyond m.objects o no_object (omega (arith, h, S.objects-length)))))
      (λ (h : o < 64). label-not-outside m.profile (object m o).label ((label-inside-decides m.profile (object m o).label).0 (below_out 64 (object_label_inside m) e o h)) w.1 w.2 w.3)
      (le-or-lt 64 o)

  pub levels-outside : levels_inside m ≡ false → ClearanceOutside m.profile m.subjects ⊎ LabelOutside m.profile m.objects
  unfolding levels_inside
  levels-outside e =
      and-false (all_below 16 (clearance_inside m)) (all_below 64 (object_label_inside m)) e (λ w. inl (clearance-outside w)) (λ w. inr (object-label-outside w))

  pub levels-not-outside : levels_inside m ≡ true → (ClearanceOutside m.profile m.subjects ⊎ LabelOutside m.profile m.objects) → ⊥
  unfolding levels_inside
  levels-not-outside e w =
      ⊎_elim (λ (h : ClearanceOutside m.profile m.subjects). clearance-not-outside (and_left (all_below 16 (clearance_inside m)) _ e) h)
      (λ (h : LabelOutside m.profile m.objects). object-label-not-outside (and_right (all_below 16 (clearance_inside m)) _ e) h) w
