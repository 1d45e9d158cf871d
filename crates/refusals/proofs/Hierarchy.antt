-- 19 and 20 (change request §11): the tests of parents and of labels under them fail exactly where a parent is missing or a label is below.
-- Assumes nothing.
use Prim.Native.Nat.{ℕ, zero, suc, ◌<◌}
use native.Mathlib.Omega.{arith}
use native.Mathlib.Decide.{ℕ_discrete}
use mathlib.Core.Path.{◌≡◌, refl, sym, ap, ◌∙◌, subst}
use mathlib.Core.Logic.{◌⊎◌, inl, inr, ⊎_elim, ◌≢◌}
use mathlib.Core.Bool.{Bool, true, false}
use lib.Seq.{get_or-set_other}
use Rattle.model.specs.declared.Level.{Level}
use Rattle.model.specs.Levels.{Label, Dominates, dominates, present}
use Rattle.std.specs.Prelude.{None}
use Rattle.model.specs.declared.Object.{Object}
use Rattle.model.specs.declared.Monitor.{Monitor}
use Rattle.model.specs.declared.Request.TheVariants.{ChangeLevel}
use Rattle.model.specs.Tests.{all_of}
use Rattle.model.specs.State.{object_count, no_object, object}
use Rattle.model.specs.Hierarchy.{ends, parent_live, parents_hold, label_under, labels_rise}
use Rattle.model.specs.Rules.{afterwards}
use Rattle.model.proofs.Tests.{split, clash, apart, and-false, all-out, all-false, below_false, implies-false}
use Rattle.model.proofs.Levels.{absent, dominates-decides}
use Rattle.model.proofs.Hierarchy.{live-in, ends-decides}
use Rattle.invariants.specs.Sound.{Sound}
use Rattle.invariants.proofs.Hierarchy.{rise-out}
use Rattle.images.proofs.Shapes.{Shape}
use Rattle.images.proofs.StateTests.{parents-out, chains-out, parents-in-range}
use Rattle.refusals.specs.Causes.{LabelBelow, ParentMissing}

-- a fact that fails is not so
fails : {b : Bool} → b ≡ false → b ≡ true → ⊥
fails e w = apart w e

-- ---- the parent of one object, "number plus one or 0"

pub parent-there : (m : Monitor) (q : ℕ) → parent_live m.objects q ≡ true → ((p : ℕ) × (q ≡ suc p) × ((object m p).live ≢ true)) → ⊥
unfolding parent_live
parent-there m q e w = w.2 (subst (λ (k : ℕ). parent_live m.objects k ≡ true) w.1 e)

pub parent-missing : (m : Monitor) (q : ℕ) → parent_live m.objects q ≡ false → (p : ℕ) × (q ≡ suc p) × ((object m p).live ≢ true)
unfolding parent_live
parent-missing m zero e = clash e
parent-missing m (suc p) e = (p, refl, fails e)

-- ---- 19, of images

abbrev all_live : Monitor → Bool
all_live m = all_of (λ (ob : Object). parent_live m.objects ob.parent) m.objects

pub parents-not-19 : (m : Monitor) → Shape m → parents_hold m.objects ≡ true → ParentMissing m → ⊥
parents-not-19 m S e w =
    let live = parents-out m S e in
    elim w [
      | inl (o, p, q, d) ↦ d (live o p q)
      | inr (inl (o, h)) ↦ above o (object m o).parent h (live o)
      | inr (inr (o, h)) ↦ h (chains-out m S e o)
    ]
  where
    above : (o q : ℕ) → 64 < q → ((p : ℕ) → q ≡ suc p → (object m p).live ≡ true) → ⊥
    above o zero h live = absurd (omega (arith, h))
    above o (suc p) h live = absurd (omega (arith, h, live-in m.objects (omega (arith, S.objects-length)) p (live p refl)))

pub parents-19 : (m : Monitor) → Shape m → parents_hold m.objects ≡ false → ParentMissing m
unfolding parents_hold parent_live
parents-19 m S e =
    split (all_live m)
    (λ a. and-false (all_live m) _ e (λ w. apart a w)
    (λ w. below_false 64 (λ (o : ℕ). ends object_count m.objects (suc o)) w
    (λ o h u. inr (inr (o, λ c. fails u ((ends-decides m.objects (omega (arith, S.objects-length)) (parents-in-range m S (live a)) o h).1 c))))))
    (λ a. all-false (λ (ob : Object). parent_live m.objects ob.parent) no_object m.objects a
    (λ o h u. let d = parent-missing m (object m o).parent u in inl (o, d.0, d.1, d.2)))
  where
    live : all_live m ≡ true → (o p : ℕ) → (object m o).parent ≡ suc p → (object m p).live ≡ true
    live a o p q =
        split (object m p).live (λ l. l)
        (λ l. absurd (parent-there m (object m o).parent (all-out (λ (ob : Object). parent_live m.objects ob.parent) no_object m.objects refl a o) (p, q, fails l)))

-- ---- 20

not-absent : (a : Label) → a ≢ None → present a ≡ true
not-absent a n = split (present a) (λ e. e) (λ e. absurd (n (absent a e)))

pub rising : (m : Monitor) → labels_rise m.objects ≡ true → ((o : ℕ) × (p : ℕ) × LabelBelow m o p) → ⊥
rising m e w = w.2.2 (rise-out m e w.0 w.1 w.2.0 (not-absent _ w.2.1))

pub not-rising : (m : Monitor) → labels_rise m.objects ≡ false → (o : ℕ) × (p : ℕ) × LabelBelow m o p
unfolding labels_rise label_under
not-rising m e =
    all-false (λ (ob : Object). label_under m.objects ob.label ob.parent) no_object m.objects e
    (λ o h u. let b = below (object m o).label (object m o).parent u in (o, b.0, (b.1, b.2, b.3)))
  where
    below : (a : Label) (q : ℕ) → label_under m.objects a q ≡ false → (p : ℕ) × (q ≡ suc p) × (a ≢ None) × (Dominates a (object m p).label → ⊥)
    below a zero u = clash u
    below a (suc p) u =
        let i = implies-false (present a) (dominates a (object m p).label) u in
        (p, refl, λ n. apart i.0 (ap present n), λ d. fails i.1 ((dominates-decides _ _).1 d))

-- a change of level: the labels of all others rise as before, so the rule breaks "toward parent or child"
module _ (m : Monitor) (S : Sound m) (s o : ℕ) (l : Level) where
  abbrev after : Monitor
  after = afterwards (ChangeLevel s o l) m

  elsewhere : (j : ℕ) → j ≢ o → object after j ≡ object m j
  elsewhere j n = get_or-set_other m.objects o j _ no_object n

  pub change-rising : labels_rise after.objects ≡ true → (((p : ℕ) × LabelBelow after o p) ⊎ ((y : ℕ) × LabelBelow after y o)) → ⊥
  change-rising e w =
      ⊎_elim (λ (c : (p : ℕ) × LabelBelow after o p). rising after e (o, c.0, c.1))
      (λ (c : (y : ℕ) × LabelBelow after y o). rising after e (c.0, o, c.1)) w

  pub change-not-rising : labels_rise after.objects ≡ false → ((p : ℕ) × LabelBelow after o p) ⊎ ((y : ℕ) × LabelBelow after y o)
  change-not-rising e =
      let b = not-rising after e in
      let y = b.0 in
      let p = b.1 in
      elim (ℕ_discrete y o) [
        | yes v ↦ inl (p, subst (λ (k : ℕ). LabelBelow after k p) v b.2)
        | no v ↦ elim (ℕ_discrete p o) [
          | yes u ↦ inr (y, subst (λ (k : ℕ). LabelBelow after y k) u b.2)
          | no u ↦ absurd (b.2.2 (subst (λ (ob : Object). Dominates ob.label (object after p).label) (sym (elsewhere y v))
              (subst (λ (ob : Object). Dominates (object m y).label ob.label) (sym (elsewhere p u))
              (S.hierarchy.rising_labels y p (sym (ap (λ (ob : Object). ob.parent) (elsewhere y v)) ∙ b.2.0)
              (not-absent _ (λ n. b.2.1 (ap (λ (ob : Object). ob.label) (elsewhere y v) ∙ n)))))))
        ]
      ]
