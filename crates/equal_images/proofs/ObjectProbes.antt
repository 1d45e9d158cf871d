-- The searches over who is enrolled and over one object: a request that tells two states apart, or the same object.
-- Assumes nothing.
use Prim.Native.Nat.{ℕ, ◌<◌}
use mathlib.Core.Path.{◌≡◌, refl, sym, ap, ◌∙◌, subst}
use mathlib.Core.Logic.{◌≢◌}
use mathlib.Core.Bool.{true, false, not, cond}
use lib.Dec.{eqb}
use borrow.Author.Tests.{eq-eqb, eqb-true}
use Rattle.model.specs.declared.Level.{Level}
use Rattle.model.specs.Levels.{Label, present, same_label}
use Rattle.std.specs.Prelude.{Some, None}
use Rattle.model.specs.declared.Object.{Object}
use Rattle.model.specs.declared.Profile.{Profile}
use Rattle.model.specs.declared.Monitor.{Monitor}
use Rattle.model.specs.declared.Mode.{Mode}
use Rattle.model.specs.declared.Request.{Request}
use Rattle.model.specs.declared.Request.TheVariants.{Get, Release, Delete, ChangeLevel, SetCompanies}
use Rattle.model.specs.Modes.{has}
use Rattle.model.specs.State.{enrolled, object, rights_of, held_by}
use Rattle.model.specs.Decisions.{number}
use Rattle.model.specs.Rules.{step}
use Rattle.model.proofs.Tests.{split, clash, cond-true, cond-false, not_on, not-off}
use Rattle.model.proofs.Equal.{object-same}
use Rattle.model.proofs.Tests as tests
use Rattle.model.proofs.Levels.{same-label, label_same}
use Rattle.telling.specs.Distinguish.{when, search, search_modes, by_enrolment, by_life, by_owner, by_life_and_owner, to_label, by_label, by_companies, by_right, by_access, by_object}
use Rattle.equal_images.specs.Inputs.{Formed}
use Rattle.equal_images.proofs.Under.{Under}
use Rattle.equal_images.proofs.Probes.{Probe, alike, probe-map, probe-or, probe-search, probe-modes, probe-when, probe-differ}
use Rattle.equal_images.proofs.Objects.{tells-enrolment, tells-life, tells-owner, tells-label, tells-companies, tells-right, tells-access}

swap : {a b : ℕ} → a ≢ b → b ≢ a
swap h e = h (sym e)

unlike : (y : Level) → same_label None (Some y) ≡ false
unfolding same_label
unlike y = refl

label-clash : {P : Type 0} (a b : Label) → present a ≡ true → present b ≡ false → a ≡ b → P
label-clash a b p q e = tests.apart p (ap present e ∙ q)

module _ (p : Profile) (m n : Monitor) (S : Under p m) (N : Under p n) where
  -- the replies to a well-formed request differ
  Told : Request → Type 0
  Told q = Formed p q × (number (step q m).decision ≢ number (step q n).decision)

  pub probe-enrolment : (s : ℕ) → s < 16 → Probe p m n (by_enrolment m n s) (enrolled m s ≡ enrolled n s)
  unfolding by_enrolment
  probe-enrolment s h =
      probe-differ p m n S.profile N.profile (enrolled m s) (enrolled n s) (Delete s 0)
      (λ e g. tells-enrolment p m n S N s h e g) (λ e g. let t = tells-enrolment p n m N S s h g e in (t.0, swap t.1))

  module _ (same : (s : ℕ) → s < 16 → enrolled m s ≡ enrolled n s) (o : ℕ) (o-below : o < 64) where
    back : (s : ℕ) → s < 16 → enrolled n s ≡ enrolled m s
    back s h = sym (same s h)

    probe-life : Probe p m n (by_life m n o) ((object m o).live ≡ (object n o).live)
    unfolding by_life Told
    probe-life =
        probe-differ p m n S.profile N.profile (object m o).live (object n o).live (Delete (cond (object m o).live (object m o).owner (object n o).owner) o)
        (λ a b. subst (λ (w : ℕ). Told (Delete w o)) (sym (cond-true (object m o).live _ _ a)) (tells-life p m n S N same o o-below a b))
        (λ a b.
        let t = tells-life p n m N S back o o-below b a in
        subst (λ (w : ℕ). Told (Delete w o)) (sym (cond-false (object m o).live _ _ a)) (t.0, swap t.1))

    module _ (alive : (object m o).live ≡ (object n o).live) where
      -- both are live, or both are no object
      live-or-same : {P : Type 0} → ((object m o).live ≡ true → (object n o).live ≡ true → P) → (object m o ≡ object n o → P) → P
      live-or-same f g =
          split (object m o).live (λ a. f a (sym alive ∙ a))
          (λ a. g ((S.sound.formed.objects_formed o).shape.not_live a ∙ sym ((N.sound.formed.objects_formed o).shape.not_live (sym alive ∙ a))))

      probe-owner : Probe p m n (by_owner m n o) ((object m o).owner ≡ (object n o).owner)
      unfolding by_owner
      probe-owner =
          probe-when p m n S.profile N.profile (not (eqb (object m o).owner (object n o).owner)) (Delete (object m o).owner o)
          (λ e. eqb-true (object m o).owner (object n o).owner (not-off _ e))
          (λ e. live-or-same (λ a b. tells-owner p m n S N same o o-below a b (not_on _ e))
          (λ w. tests.apart (eq-eqb (object m o).owner (object n o).owner (ap (λ (k : Object). k.owner) w)) (not_on _ e)))

      module _ (owned : (object m o).owner ≡ (object n o).owner) where
        label-probe : (a b : Label) → (object m o).label ≡ a → (object n o).label ≡ b → Probe p m n (to_label (object m o).owner o a b) (a ≡ b)
        unfolding to_label when Told
        label-probe None None j q = alike refl refl
        label-probe None (Some y) j q =
            probe-when p m n S.profile N.profile true (ChangeLevel (object m o).owner o y) (λ e. clash e)
            (λ e. live-or-same
            (λ a b.
            let t = tells-label p n m N S back o o-below b a y q (ap (λ (k : Label). same_label k (Some y)) j ∙ unlike y) in
            subst (λ (w : ℕ). Told (ChangeLevel w o y)) (sym owned) (t.0, swap t.1))
            (λ w. label-clash (object n o).label (object m o).label (ap present q) (ap present j) (sym (ap (λ (k : Object). k.label) w))))
        label-probe (Some x) b j q =
            probe-when p m n S.profile N.profile (not (same_label (Some x) b)) (ChangeLevel (object m o).owner o x)
            (λ e. same-label (Some x) b (not-off _ e))
            (λ e. live-or-same
            (λ a c. tells-label p m n S N same o o-below a c x j (ap (λ (k : Label). same_label k (Some x)) q ∙ turned b (not_on _ e)))
            (λ w. tests.apart (label_same (Some x) b (sym j ∙ ap (λ (k : Object). k.label) w ∙ q)) (not_on _ e)))
          where
            turned : (b : Label) → same_label (Some x) b ≡ false → same_label b (Some x) ≡ false
            turned b h = split (same_label b (Some x)) (λ e. tests.apart (label_same (Some x) b (sym (same-label b (Some x) e))) h) (λ e. e)

      probe-label : (object m o).owner ≡ (object n o).owner → Probe p m n (by_label m n o) ((object m o).label ≡ (object n o).label)
      unfolding by_label
      probe-label owned = label-probe owned (object m o).label (object n o).label refl refl

      probe-companies : Probe p m n (by_companies m n o) ((object m o).companies ≡ (object n o).companies)
      unfolding by_companies
      probe-companies =
          let a = (object m o).companies in
          let b = (object n o).companies in
          probe-when p m n S.profile N.profile (not (eqb a b)) (SetCompanies (object m o).owner o a)
          (λ e. eqb-true a b (not-off _ e))
          (λ e. live-or-same
          (λ l k. tells-companies p m n S N same o o-below l k
          (split (eqb b a) (λ w. tests.apart (eq-eqb a b (sym (eqb-true b a w))) (not_on _ e)) (λ w. w)))
          (λ w. tests.apart (eq-eqb a b (ap (λ (k : Object). k.companies) w)) (not_on _ e)))

      probe-rights : Probe p m n (search 16 (λ s. search_modes (by_right m n o s)))
          ((s : ℕ) → s < 16 → (x : Mode) → has x (rights_of (object m o) s) ≡ has x (rights_of (object n o) s))
      unfolding by_right
      probe-rights =
          probe-search p m n (λ s. (x : Mode) → has x (rights_of (object m o) s) ≡ has x (rights_of (object n o) s)) 16 (λ s. search_modes (by_right m n o s))
          (λ s h. probe-modes p m n (λ x. has x (rights_of (object m o) s) ≡ has x (rights_of (object n o) s)) (by_right m n o s)
          (λ x.
          let differs : object m o ≡ object n o → has x (rights_of (object m o) s) ≡ has x (rights_of (object n o) s) = λ w. ap (λ (k : Object). has x (rights_of k s)) w in
          probe-differ p m n S.profile N.profile (has x (rights_of (object m o) s)) (has x (rights_of (object n o) s)) (Get s o x)
          (λ e g. live-or-same (λ a b. tells-right p m n S N same o o-below a b s x h e g) (λ w. tests.apart e (differs w ∙ g)))
          (λ e g. live-or-same
          (λ a b. let t = tells-right p n m N S back o o-below b a s x h g e in (t.0, swap t.1)) (λ w. tests.apart g (sym (differs w) ∙ e)))))

      probe-accesses : Probe p m n (search 16 (λ s. search_modes (by_access m n o s)))
          ((s : ℕ) → s < 16 → (x : Mode) → has x (held_by (object m o) s) ≡ has x (held_by (object n o) s))
      unfolding by_access
      probe-accesses =
          probe-search p m n (λ s. (x : Mode) → has x (held_by (object m o) s) ≡ has x (held_by (object n o) s)) 16 (λ s. search_modes (by_access m n o s))
          (λ s h. probe-modes p m n (λ x. has x (held_by (object m o) s) ≡ has x (held_by (object n o) s)) (by_access m n o s)
          (λ x.
          let differs : object m o ≡ object n o → has x (held_by (object m o) s) ≡ has x (held_by (object n o) s) = λ w. ap (λ (k : Object). has x (held_by k s)) w in
          probe-differ p m n S.profile N.profile (has x (held_by (object m o) s)) (has x (held_by (object n o) s)) (Release s o x)
          (λ e g. live-or-same
          (λ a b. let t = tells-access p m n S N same o o-below a b s x h e g in (t.0, swap t.1)) (λ w. tests.apart e (differs w ∙ g)))
          (λ e g. live-or-same (λ a b. tells-access p n m N S back o o-below b a s x h g e) (λ w. tests.apart g (sym (differs w) ∙ e)))))

    pub probe-life-and-owner : Probe p m n (by_life_and_owner m n o) (((object m o).live ≡ (object n o).live) × ((object m o).owner ≡ (object n o).owner))
    unfolding by_life_and_owner
    probe-life-and-owner = probe-or p m n (by_life m n o) (by_owner m n o) probe-life probe-owner

    -- where life, owner and parent are the same, the rest of the object
    pub probe-object : (object m o).live ≡ (object n o).live → (object m o).owner ≡ (object n o).owner → (object m o).parent ≡ (object n o).parent
        → Probe p m n (by_object m n o) (object m o ≡ object n o)
    unfolding by_object
    probe-object alive owned under =
        probe-map p m n (by_object m n o) (λ t. object-same (object m o) (object n o) (S.sound.formed.objects_formed o) (N.sound.formed.objects_formed o) alive owned under t.0 t.1.0 t.1.1.0 t.1.1.1)
        (probe-or p m n (by_label m n o) _ (probe-label alive owned)
        (λ l. probe-or p m n (by_companies m n o) _ (probe-companies alive)
        (λ c. probe-or p m n (search 16 (λ s. search_modes (by_right m n o s))) (search 16 (λ s. search_modes (by_access m n o s))) (probe-rights alive) (λ r. probe-accesses alive))))
