-- Changes of level that nothing refuses: the owner's to the label that the object has, and the owner's first one (change request §3).
-- Assumes nothing.
use Prim.Native.Nat.{ℕ, suc}
use native.Mathlib.Omega.{arith}
use native.Mathlib.Decide.{ℕ_discrete}
use mathlib.Core.Path.{◌≡◌, refl, sym, ap, ◌∙◌, subst}
use mathlib.Core.Logic.{◌≢◌}
use mathlib.Core.Bool.{true}
use mathlib.Core.List.{List}
use lib.ListN.{set}
use lib.Seq.{set-get_or, get_or-set_other}
use borrow.Author.Tests.{eq-eqb}
use Rattle.model.specs.declared.Level.{Level}
use Rattle.model.specs.Levels.{Label, Dominates, present}
use Rattle.std.specs.Prelude.{Some, None}
use Rattle.model.specs.declared.Object.{Object}
use Rattle.model.specs.declared.Monitor.{Monitor}
use Rattle.model.specs.declared.Mode.{Mode}
use Rattle.model.specs.declared.Request.TheVariants.{ChangeLevel}
use Rattle.model.specs.declared.Decision.TheVariants.{Granted}
use Rattle.model.specs.Modes.{has, observes, alters, needs_label}
use Rattle.model.specs.State.{no_object, object, held_by, with_label}
use Rattle.model.specs.Hierarchy.{labels_rise}
use Rattle.model.specs.Rules.{changed, afterwards, checks, not_lowered, simple_all, star_all}
use Rattle.model.proofs.Tests.{clash, apart, or_left}
use Rattle.model.proofs.Levels.{dominates-refl}
use Rattle.model.proofs.Equal.{with-label-same}
use Rattle.model.proofs.Hierarchy.{live-in}
use Rattle.model.proofs.After.{object-there}
use Rattle.model.proofs.Lowering.{first-label-free, same-label-passes}
use Rattle.invariants.specs.Sound.{Sound}
use Rattle.invariants.proofs.Granted.{grants-change}
use Rattle.invariants.proofs.Hierarchy.{rise-in}
use Rattle.invariants.proofs.Secure.{object-secure, simple-in}
use Rattle.invariants.proofs.Star.{star-all-in, star-for, star-free}

present-not-absent : (l : Level) → Some l ≢ None
present-not-absent l e = clash (ap present e)

-- nothing dominates the absence of a label
nothing-below : (a : Label) → Dominates a None → ⊥
unfolding Dominates
nothing-below None d = d
nothing-below (Some a) d = d

module _ (m : Monitor) (S : Sound m) (o : ℕ) (l : Level) (live : (object m o).live ≡ true) where
  -- what the owner's change has left to pass: 14, 8, 9 and 20
  owner-granted : not_lowered (object m o).label (Some l) ≡ true
      → simple_all m.subjects (changed (ChangeLevel (object m o).owner o l) (object m o)) ≡ true
      → star_all (afterwards (ChangeLevel (object m o).owner o l) m).objects ≡ true
      → labels_rise (afterwards (ChangeLevel (object m o).owner o l) m).objects ≡ true
      → checks (ChangeLevel (object m o).owner o l) m ≡ Granted
  owner-granted raised simple star rise =
      grants-change m (object m o).owner o l
      (record {
        there = (S.formed.objects_formed o).owner_enrolled live;
        live = live;
        owned = eq-eqb (object m o).owner _ refl;
        raised = raised;
        simple = simple;
        star = star;
        rise = rise;
      })

  -- "the same label": nothing changes, and the state was secure
  pub same-label-granted : (object m o).label ≡ Some l → checks (ChangeLevel (object m o).owner o l) m ≡ Granted
  unfolding changed
  same-label-granted e =
      let ob = object m o in
      let is = with-label-same ob (Some l) (sym e) in
      owner-granted (subst (λ (k : Label). not_lowered k (Some l) ≡ true) (sym e) (same-label-passes (Some l)))
      (subst (λ (b : Object). simple_all m.subjects b ≡ true) (sym is) (simple-in m.subjects ob (object-secure m S.secure o).simple))
      (subst (λ (k : List Object). star_all k ≡ true) (sym (unmoved is)) (star-all-in m.objects (star-for m S.secure.star)))
      (subst (λ (k : List Object). labels_rise k ≡ true) (sym (unmoved is)) (rise-in m S.hierarchy.rising_labels))
    where
      unmoved : {b : Object} → b ≡ object m o → set m.objects o b ≡ m.objects
      unmoved p = ap (set m.objects o) p ∙ set-get_or m.objects o no_object

  -- the labels rise after a first label that dominates that of the parent: what is under an object without a label has none
  first-rises : (object m o).label ≡ None → ((p : ℕ) → (object m o).parent ≡ suc p → Dominates (Some l) (object m p).label)
      → labels_rise (afterwards (ChangeLevel (object m o).owner o l) m).objects ≡ true
  unfolding changed
  first-rises e fits = rise-in n (λ y p q w. elim (ℕ_discrete y o) [ yes v ↦ new y p v q | no v ↦ old y p v q w ])
    where
      n : Monitor
      n = afterwards (ChangeLevel (object m o).owner o l) m

      there : object n o ≡ with_label (object m o) (Some l)
      there = object-there (ChangeLevel (object m o).owner o l) m S.formed (live-in m.objects (omega (arith, S.formed.objects-length)) o live)

      elsewhere : (j : ℕ) → j ≢ o → object n j ≡ object m j
      elsewhere j v = get_or-set_other m.objects o j _ no_object v

      new : (y p : ℕ) → y ≡ o → (object n y).parent ≡ suc p → Dominates (object n y).label (object n p).label
      new y p v q =
          subst (λ (a : Label). Dominates a (object n p).label) (sym (ap (λ (k : ℕ). (object n k).label) v ∙ ap (λ (ob : Object). ob.label) there))
          (elim (ℕ_discrete p o) [
            | yes u ↦ subst (Dominates (Some l)) (sym (ap (λ (k : ℕ). (object n k).label) u ∙ ap (λ (ob : Object). ob.label) there)) (dominates-refl (Some l) (present-not-absent l))
            | no u ↦ subst (λ (ob : Object). Dominates (Some l) ob.label) (sym (elsewhere p u))
                (fits p (sym (ap (λ (k : ℕ). (object n k).parent) v ∙ ap (λ (ob : Object). ob.parent) there) ∙ q))
          ])

      old : (y p : ℕ) → y ≢ o → (object n y).parent ≡ suc p → present (object n y).label ≡ true → Dominates (object n y).label (object n p).label
      old y p v q w =
          let same = elsewhere y v in
          let before = S.hierarchy.rising_labels y p (sym (ap (λ (ob : Object). ob.parent) same) ∙ q) (sym (ap (λ (ob : Object). present ob.label) same) ∙ w) in
          elim (ℕ_discrete p o) [
            | yes u ↦ absurd (nothing-below (object m y).label (subst (Dominates (object m y).label) (ap (λ (k : ℕ). (object m k).label) u ∙ e) before))
            | no u ↦ subst (λ (ob : Object). Dominates ob.label (object n p).label) (sym same)
                (subst (λ (ob : Object). Dominates (object m y).label ob.label) (sym (elsewhere p u)) before)
          ]

  -- "a first label is free", where it dominates that of the parent, if there is one: nobody holds r, w or a on an object without a label
  pub first-label-granted : (object m o).label ≡ None → ((p : ℕ) → (object m o).parent ≡ suc p → Dominates (Some l) (object m p).label)
      → checks (ChangeLevel (object m o).owner o l) m ≡ Granted
  unfolding changed
  first-label-granted e fits =
      let idle : (s : ℕ) (x : Mode) → needs_label x ≡ true → has x (held_by (object m o) s) ≡ true → ⊥ =
      λ s x n w. apart (S.secure.labelled s o x w n) (ap present e) in
      owner-granted (subst (λ (k : Label). not_lowered k (Some l) ≡ true) (sym e) (first-label-free (Some l)))
      (simple-in m.subjects _ (λ s x w u. absurd (idle s x (or_left (observes x) (alters x) u) w)))
      (star-all-in _ (λ s. star-free s m.objects o _ (star-for m S.secure.star s) (idle s)))
      (first-rises e fits)
