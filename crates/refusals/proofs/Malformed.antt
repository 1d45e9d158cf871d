-- A byte string is malformed under a profile exactly when it is one of the first row of "Refused causes" or outside the profile.
-- Assumes nothing.
use Prim.Native.Nat.{ℕ, ◌<◌, ◌≤◌}
use native.Mathlib.Omega.{arith}
use mathlib.Core.Path.{◌≡◌, refl, sym, ap, ◌∙◌}
use mathlib.Core.Logic.{inl, inr, ⊎_elim, ◌↔◌, ◌≢◌}
use mathlib.Core.Bool.{Bool, true, false, cond, ◌&&◌, ◌||◌}
use mathlib.Core.List.{List}
use lib.ListN.{length}
use lib.Dec.{eqb, ltb, leb}
use borrow.Author.Tests.{eq-eqb, eqb-true, le-leb, leb-true, leb-false, ltb-false}
use Rattle.model.specs.declared.Profile.{Profile}
use Rattle.model.specs.declared.Fields.{Fields}
use Rattle.model.specs.declared.Request.{Request}
use Rattle.model.specs.Requests.{Decoded, fields, mode_allowed, unused_zero, parent_within, fields_formed, level_of, within, well_formed, decode}
use Rattle.std.specs.Prelude.{Some, None}
use Rattle.model.specs.Profiles.{level_inside}
use Rattle.model.proofs.Tests.{split, apart, clash, and_left, and_right, and-false, implies-false, or_cases, or-false, cond-true, cond-false, le-or-lt}
use Rattle.model.proofs.Within.{within-fields, formed-of, within_of}
use Rattle.model.proofs.Requests.{in-kinds, actor-in, other-in, object-in, parent_in, last-two, decode-says, says-decode}
use Rattle.refusals.specs.Causes.{NeedOutside, ModeNotAllowed, UnusedSet, MalformedBytes, not_six_bytes, kind_below, kind_above, actor_above, other_above, object_above, mode_not_allowed, unused_set, actor_outside, other_outside, object_outside, class_outside, need-outside, parent_above, parent_outside}
use Rattle.refusals.proofs.ProfileCauses.{level-outside, level-not-outside}

-- ---- a test of a number that fails

eqb-false : (a b : ℕ) → eqb a b ≡ false → a ≢ b
eqb-false a b e w = apart (eq-eqb a b w) e

not_eqb : (a b : ℕ) → a ≢ b → eqb a b ≡ false
not_eqb a b h = split (eqb a b) (λ w. absurd (h (eqb-true a b w))) (λ w. w)

-- ---- a field test that fails

mode-fails : (k x : ℕ) → mode_allowed k x ≡ false → ModeNotAllowed k x
unfolding mode_allowed
mode-fails k x e =
    split (leb k 4)
    (λ w. inl (
      leb-true k 4 w,
      and-false (leb 1 x) (leb x 4) (sym (cond-true (leb k 4) _ _ w) ∙ e)
          (λ u. inl (let h : x < 1 = leb-false 1 x u in omega arith)) (λ u. inr (leb-false x 4 u)),
    ))
    (λ w. split (eqb k 5)
    (λ v.
    let f = or-false (eqb x 0) (eqb x 4) (sym (cond-true (eqb k 5) _ _ v) ∙ sym (cond-false (leb k 4) _ _ w) ∙ e) in
    inr (inl (eqb-true k 5 v, eqb-false x 0 f.0, eqb-false x 4 f.1)))
    (λ v.
    let n : k ≢ 5 = eqb-false k 5 v in
    let h : 4 < k = leb-false k 4 w in
    inr (inr (above k h n, eqb-false x 0 (sym (cond-false (eqb k 5) _ _ v) ∙ sym (cond-false (leb k 4) _ _ w) ∙ e)))))
  where
    above : (k : ℕ) → 4 < k → k ≢ 5 → 5 < k
    above k h n = ⊎_elim (λ (w : k ≤ 5). absurd (n (omega arith))) (λ (w : 5 < k). w) (le-or-lt k 5)

mode-passes : (k x : ℕ) → mode_allowed k x ≡ true → ModeNotAllowed k x → ⊥
unfolding mode_allowed
mode-passes k x e (inl p) =
    let t : (leb 1 x && leb x 4) ≡ true = sym (cond-true (leb k 4) _ _ (le-leb k 4 p.0)) ∙ e in
    let low : 1 ≤ x = leb-true 1 x (and_left (leb 1 x) _ t) in
    let high : x ≤ 4 = leb-true x 4 (and_right (leb 1 x) _ t) in
    ⊎_elim (λ (w : x ≡ 0). absurd (omega arith)) (λ (w : 4 < x). absurd (omega arith)) p.1
mode-passes k x e (inr (inl p)) =
    let t : (eqb x 0 || eqb x 4) ≡ true = sym (ap (λ (j : ℕ). cond (leb j 4) (leb 1 x && leb x 4) (cond (eqb j 5) (eqb x 0 || eqb x 4) (eqb x 0))) p.0) ∙ e in
    or_cases (eqb x 0) (eqb x 4) t (λ w. p.1 (eqb-true x 0 w)) (λ w. p.2 (eqb-true x 4 w))
mode-passes k x e (inr (inr p)) =
    let a : leb k 4 ≡ false = not-true (leb k 4) (λ w. absurd (omega (arith, p.0, leb-true k 4 w))) in
    let b : eqb k 5 ≡ false = not-true (eqb k 5) (λ w. absurd (omega (arith, p.0, eqb-true k 5 w))) in
    p.1 (eqb-true x 0 (sym (cond-false (eqb k 5) _ _ b) ∙ sym (cond-false (leb k 4) _ _ a) ∙ e))
  where
    not-true : (b : Bool) → (b ≡ true → ⊥) → b ≡ false
    not-true true h = absurd (h refl)
    not-true false h = refl

unused-fails : (f : Fields) → unused_zero f ≡ false → UnusedSet f
unfolding unused_zero
unused-fails f e =
    and-false (eqb f.kind 3 || (eqb f.kind 4 || eqb f.other 0)) _ e
    (λ w.
    let a = or-false (eqb f.kind 3) (eqb f.kind 4 || eqb f.other 0) w in
    let b = or-false (eqb f.kind 4) (eqb f.other 0) a.1 in
    inl (eqb-false _ _ a.0, eqb-false _ _ b.0, eqb-false _ _ b.1))
    (λ w. and-false (eqb f.kind 7 || eqb f.class 0) _ w
    (λ v.
    let a = or-false (eqb f.kind 7) (eqb f.class 0) v in
    inr (inl (eqb-false _ _ a.0, eqb-false _ _ a.1)))
    (λ v. and-false (eqb f.kind 5 || (eqb f.kind 7 || (eqb f.kind 8 || eqb f.needs 0))) (eqb f.spare 0) v
    (λ u.
    let c = or-false (eqb f.kind 5) (eqb f.kind 7 || (eqb f.kind 8 || eqb f.needs 0)) u in
    let a = or-false (eqb f.kind 7) (eqb f.kind 8 || eqb f.needs 0) c.1 in
    let b = or-false (eqb f.kind 8) (eqb f.needs 0) a.1 in
    inr (inr (inl (eqb-false _ _ c.0, eqb-false _ _ a.0, eqb-false _ _ b.0, eqb-false _ _ b.1))))
    (λ u. inr (inr (inr (eqb-false _ _ u))))))

unused-passes : (f : Fields) → unused_zero f ≡ true → UnusedSet f → ⊥
unfolding unused_zero
unused-passes f e w =
    let other = and_left (eqb f.kind 3 || (eqb f.kind 4 || eqb f.other 0)) _ e in
    let behind = and_right (eqb f.kind 3 || (eqb f.kind 4 || eqb f.other 0)) _ e in
    let class = and_left (eqb f.kind 7 || eqb f.class 0) _ behind in
    let last = and_right (eqb f.kind 7 || eqb f.class 0) _ behind in
    let needs = and_left (eqb f.kind 5 || (eqb f.kind 7 || (eqb f.kind 8 || eqb f.needs 0))) _ last in
    let spare = and_right (eqb f.kind 5 || (eqb f.kind 7 || (eqb f.kind 8 || eqb f.needs 0))) _ last in
    elim w [
      | inl p ↦ one_of_two f.kind 3 4 f.other other p.0 p.1 p.2
      | inr (inl p) ↦ or_cases (eqb f.kind 7) (eqb f.class 0) class (λ v. p.0 (eqb-true _ _ v)) (λ v. p.1 (eqb-true _ _ v))
      | inr (inr (inl p)) ↦ or_cases (eqb f.kind 5) _ needs (λ v. p.0 (eqb-true _ _ v))
          (λ v. one_of_two f.kind 7 8 f.needs v p.1 p.2 p.3)
      | inr (inr (inr p)) ↦ p (eqb-true _ _ spare)
    ]
  where
    -- a field that stands in two kinds, and is 0 in every other
    one_of_two : (k a b n : ℕ) → (eqb k a || (eqb k b || eqb n 0)) ≡ true → k ≢ a → k ≢ b → n ≢ 0 → ⊥
    one_of_two k a b n e x y z =
        or_cases (eqb k a) (eqb k b || eqb n 0) e (λ v. x (eqb-true _ _ v))
        (λ v. or_cases (eqb k b) (eqb n 0) v (λ u. y (eqb-true _ _ u)) (λ u. z (eqb-true _ _ u)))

-- ---- the theorem

-- a parent beyond the objects
parent-fails : (n : ℕ) (f : Fields) → parent_within n f ≡ false → (f.kind ≡ 5) × (n < f.needs)
unfolding parent_within
parent-fails n f e = let q = implies-false (eqb f.kind 5) (leb f.needs n) e in (eqb-true _ _ q.0, leb-false _ _ q.1)

form-fails : (p : Profile) (b : List ℕ) → fields_formed (fields b) ≡ false → MalformedBytes p b
unfolding fields_formed
form-fails p b e =
    let f = fields b in
    and-false (leb 1 f.kind && leb f.kind 8) _ e
    (λ w. and-false (leb 1 f.kind) (leb f.kind 8) w (λ v. kind_below (leb-false 1 _ v)) (λ v. kind_above (leb-false _ 8 v)))
    (λ w. and-false (ltb f.actor 16) _ w (λ v. actor_above (ltb-false _ 16 v))
    (λ v. and-false (ltb f.other 16) _ v (λ u. other_above (ltb-false _ 16 u))
    (λ u. and-false (ltb f.object 64) _ u (λ t. object_above (ltb-false _ 64 t))
    (λ t. and-false (parent_within 64 f) _ t (λ r. let q = parent-fails 64 f r in parent_above q.0 q.1)
    (λ t. and-false (mode_allowed f.kind f.mode) _ t (λ r. mode_not_allowed (mode-fails _ _ r)) (λ r. unused_set (unused-fails f r)))))))

within-fails : (p : Profile) (b : List ℕ) → within p (fields b) ≡ false → MalformedBytes p b
unfolding within
within-fails p b e =
    let f = fields b in
    and-false (ltb f.actor p.subjects) _ e (λ v. actor_outside (ltb-false _ _ v))
    (λ w. and-false (ltb f.other p.subjects) _ w (λ v. other_outside (ltb-false _ _ v))
    (λ u. and-false (ltb f.object p.objects) _ u (λ v. object_outside (ltb-false _ _ v))
    (λ t. and-false (parent_within p.objects f) _ t (λ r. let q = parent-fails p.objects f r in parent_outside q.0 q.1)
    (λ t.
    let created = or-false (eqb f.kind 5) (eqb f.kind 8 || level_inside p (level_of f)) t in
    let level = or-false (eqb f.kind 8) (level_inside p (level_of f)) created.1 in
    ⊎_elim (λ (h : p.highest.class < f.class). class_outside h)
    (λ (h : NeedOutside p f.needs). need-outside (eqb-false _ _ created.0) (eqb-false _ _ level.0) h)
    (level-outside p (level_of f) level.1)))))

fields-fail : (p : Profile) (b : List ℕ) → well_formed p (fields b) ≡ false → MalformedBytes p b
unfolding well_formed
fields-fail p b e = and-false (fields_formed (fields b)) (within p (fields b)) e (form-fails p b) (within-fails p b)

-- no kind but 7 has a class
no-class : (f : Fields) → f.kind ≢ 7 → unused_zero f ≡ true → f.class ≡ 0
no-class f k e =
    split (eqb f.class 0) (λ w. eqb-true _ _ w)
    (λ w. absurd (unused-passes f e (inr (inl (k, eqb-false _ _ w)))))

-- bytes that say a request are none of these
pub says-not-malformed : (p : Profile) (b : List ℕ) (q : Request) → decode p b ≡ Some q → MalformedBytes p b → ⊥
says-not-malformed p b q e w =
    let d = decode-says p b q e in
    let f = fields b in
    let F = formed-of p f d.1 in
    let I = within-fields p f (within_of p f d.1) in
    let kinds = in-kinds f F in
    elim w [
      | not_six_bytes h ↦ h d.0
      | kind_below h ↦ absurd (omega (arith, h, leb-true 1 f.kind (and_left (leb 1 f.kind) _ kinds)))
      | kind_above h ↦ absurd (omega (arith, h, leb-true f.kind 8 (and_right (leb 1 f.kind) _ kinds)))
      | actor_above h ↦ absurd (omega (arith, h, actor-in f F))
      | other_above h ↦ absurd (omega (arith, h, other-in f F))
      | object_above h ↦ absurd (omega (arith, h, object-in f F))
      | mode_not_allowed h ↦ mode-passes _ _ (and_left (mode_allowed f.kind f.mode) _ (last-two f F)) h
      | unused_set h ↦ unused-passes f (and_right (mode_allowed f.kind f.mode) _ (last-two f F)) h
      | actor_outside h ↦ absurd (omega (arith, h, I.actor))
      | other_outside h ↦ absurd (omega (arith, h, I.other))
      | object_outside h ↦ absurd (omega (arith, h, I.object))
      | class_outside h ↦ split (eqb f.kind 7)
          (λ k. let seven = eqb-true f.kind 7 k in
          level-not-outside p (level_of f) (I.level (ap (λ (j : ℕ). eqb j 5) seven) (ap (λ (j : ℕ). eqb j 8) seven)) (inl h))
          (λ k. absurd (omega (arith, h, no-class f (eqb-false _ _ k) (and_right (mode_allowed f.kind f.mode) _ (last-two f F)))))
      | need-outside j k h ↦ level-not-outside p (level_of f) (I.level (not_eqb _ _ j) (not_eqb _ _ k)) (inr h)
      | parent_above k h ↦ absurd (omega (arith, h, parent_in f F (eq-eqb _ _ k)))
      | parent_outside k h ↦ absurd (omega (arith, h, I.parent (eq-eqb _ _ k)))
    ]

pub malformed-exactly : (p : Profile) (b : List ℕ) → (decode p b ≡ None) ↔ MalformedBytes p b
malformed-exactly p b = (
  λ e. split (eqb (length b) 6)
      (λ l. split (well_formed p (fields b)) (λ w. absurd (not-both (sym e ∙ says-decode p b (eqb-true (length b) 6 l) w))) (fields-fail p b))
      (λ l. not_six_bytes (eqb-false (length b) 6 l)),
  λ w. go (decode p b) (λ q e. says-not-malformed p b q e w),
)
  where
    is_says : Decoded → Bool
    is_says None = false
    is_says (Some q) = true

    not-both : {q : Request} → None ≡ Some q → ⊥
    not-both e = clash (sym (ap is_says e))

    go : (d : Decoded) → ((q : Request) → d ≡ Some q → ⊥) → d ≡ None
    go None h = refl
    go (Some q) h = absurd (h q refl)
