-- Where two states differ in who is enrolled or in an object, one request draws different replies from them.
-- Assumes nothing.
use Prim.Native.Nat.{ℕ, ◌<◌, ◌≤◌}
use native.Mathlib.Omega.{arith}
use mathlib.Core.Path.{◌≡◌, refl, sym, ap, ◌∙◌, subst, subst₂}
use mathlib.Core.Logic.{◌≢◌}
use mathlib.Core.Bool.{true, false, not}
use mathlib.Core.List.{List, ◌∷◌}
use lib.ListN.{drop}
use lib.Dec.{eqb, lit<}
use borrow.Author.Tests.{eq-eqb, eqb-true, leb-true}
use Rattle.model.specs.declared.Level.{Level}
use Rattle.std.specs.Prelude.{Some}
use Rattle.model.specs.declared.Profile.{Profile}
use Rattle.model.specs.declared.Monitor.{Monitor}
use Rattle.model.specs.declared.Mode.{Mode}
use Rattle.model.specs.declared.Request.{Request}
use Rattle.model.specs.declared.Request.TheVariants.{Get, Release, Delete, ChangeLevel, SetCompanies}
use Rattle.model.specs.declared.Response.{Response}
use Rattle.model.specs.declared.Decision.{Decision}
use Rattle.model.specs.declared.Decision.TheVariants.{Granted, NotEnrolled, NotLive, NoRight}
use Rattle.model.specs.Levels.{same_label}
use Rattle.model.specs.Modes.{has}
use Rattle.model.specs.State.{enrolled, object, rights_of, held_by, LabelFits}
use Rattle.model.specs.Decisions.{number, refuses}
use Rattle.model.specs.Rules.{check_list, target, already, afterwards, checks, owns, step}
use Rattle.model.proofs.Tests.{split, apart, pass, stop, distinct}
use Rattle.model.proofs.Decisions.{number-inj}
use Rattle.model.proofs.Modes.{has-none}
use Rattle.model.proofs.Levels.{label_same}
use Rattle.model.proofs.Checks.{never-answers}
use Rattle.invariants.proofs.Granted.{grants-release, grants-delete}
use Rattle.invariants.proofs.Relabelling.{same-label-granted}
use Rattle.invariants.proofs.WallAdded.{same-companies-granted}
use Rattle.invariants.specs.Sound.{Sound}
use Rattle.invariants.proofs.Steps.{step-granted, step-refused}
use Rattle.invariants.proofs.Outcomes.{step-cases}
use Rattle.equal_images.specs.Inputs.{Formed}
use Rattle.equal_images.proofs.Under.{Under, subject-in, object-in, first-in, label-in}
use Rattle.equal_images.proofs.Probes.{Differs, differs-later}

-- ---- replies that differ

-- one refuses with d, the other does not
pub tells-refusal : (q : Request) (m n : Monitor) (d : Decision) → refuses d ≡ true → checks q n ≡ d → checks q m ≢ d
    → number (step q m).decision ≢ number (step q n).decision
tells-refusal q m n d r e h w =
    let there : (step q n).decision ≡ d = ap (λ k. k.decision) (step-refused q n (ap refuses e ∙ r)) ∙ e in
    let same : number (step q m).decision ≡ number d = w ∙ ap number there in
    let two : 2 ≤ number d = leb-true 2 (number d) r in
    step-cases q m (λ g a k s. absurd (omega (arith, same, k))) (λ g a k s. absurd (omega (arith, same, k)))
    (λ k c s. h (sym c ∙ number-inj _ d same))

-- one says 1, and in the other the state was not so
tells-already : (q : Request) (m n : Monitor) → checks q m ≡ Granted → already q (object m (target q)) ≡ true → already q (object n (target q)) ≡ false
    → number (step q m).decision ≢ number (step q n).decision
tells-already q m n g a b w =
    step-cases q m
    (λ g₁ a₁ k s. step-cases q n (λ g₂ a₂ j t. apart a₂ b) (λ g₂ a₂ j t. absurd (omega (arith, w, k, j))) (λ j c t. absurd (omega (arith, w, k, j))))
    (λ g₁ a₁ k s. apart a a₁)
    (λ k c s. absurd (omega (arith, k, ap number (c ∙ g))))

-- ---- requests that are granted, or refused with one number

pub delete-granted : (m : Monitor) → Sound m → (o : ℕ) → (object m o).live ≡ true → checks (Delete (object m o).owner o) m ≡ Granted
delete-granted m S o live =
    grants-delete m (object m o).owner o
    (record { there = (S.formed.objects_formed o).owner_enrolled live; live = live; owned = eq-eqb (object m o).owner _ refl })

pub delete-formed : (p : Profile) (m : Monitor) → Under p m → (o : ℕ) → o < 64 → (object m o).live ≡ true → Formed p (Delete (object m o).owner o)
delete-formed p m S o h live =
    let F = S.sound.formed.objects_formed o in
    ((F.shape.owner_fits, h), (subject-in p m S (object m o).owner (F.owner_enrolled live), object-in p m S o live))

pub release-granted : (m : Monitor) (s o : ℕ) (x : Mode) → enrolled m s ≡ true → (object m o).live ≡ true → checks (Release s o x) m ≡ Granted
release-granted m s o x e g = grants-release m s o x (record { there = e; live = g })

-- two lists that differ after a request that both grant
pub after-granted : (p : Profile) (q : Request) (qs : List Request) (m n : Monitor) → Under p m → Under p n → Formed p q → checks q m ≡ Granted → checks q n ≡ Granted
    → Differs qs (afterwards q m) (afterwards q n) → Differs (q ∷ qs) m n
after-granted p q qs m n S N f g h d =
    differs-later p m n S.profile N.profile q qs f (subst₂ (Differs qs) (sym (left_by q m g)) (sym (left_by q n h)) d)
  where
    -- the state that a granted request leaves
    left_by : (q : Request) (m : Monitor) → checks q m ≡ Granted → (step q m).monitor ≡ afterwards q m
    left_by q m g = ap (λ (r : Response). r.monitor) (step-granted q m g)

-- ---- each difference of an object, from one state to the other

module _ (p : Profile) (m n : Monitor) (S : Under p m) (N : Under p n) where
  pub tells-enrolment : (s : ℕ) → s < 16 → enrolled m s ≡ true → enrolled n s ≡ false
      → Formed p (Delete s 0) × (number (step (Delete s 0) m).decision ≢ number (step (Delete s 0) n).decision)
  unfolding checks
  tells-enrolment s h e g = (
    ((h, lit< tt), (subject-in p m S s e, first-in p m S)),
    tells-refusal (Delete s 0) m n NotEnrolled refl (stop _ NotEnrolled _ g)
        (λ w. never-answers NotEnrolled (distinct _ _ refl) (drop 1 (check_list (Delete s 0) m)) refl (sym (pass _ NotEnrolled _ e) ∙ w)),
  )

  module _ (same : (s : ℕ) → s < 16 → enrolled m s ≡ enrolled n s) (o : ℕ) (o-below : o < 64) where
    there : (s : ℕ) → s < 16 → enrolled m s ≡ true → enrolled n s ≡ true
    there s h e = sym (same s h) ∙ e

    pub tells-life : (object m o).live ≡ true → (object n o).live ≡ false
        → Formed p (Delete (object m o).owner o) × (number (step (Delete (object m o).owner o) m).decision ≢ number (step (Delete (object m o).owner o) n).decision)
    unfolding checks
    tells-life a b =
        let F = S.sound.formed.objects_formed o in
        let w = (object m o).owner in (
          delete-formed p m S o o-below a,
          tells-refusal (Delete w o) m n NotLive refl (pass _ NotEnrolled _ (there w F.shape.owner_fits (F.owner_enrolled a)) ∙ stop _ NotLive _ b)
              (λ e. distinct _ _ refl (sym (delete-granted m S.sound o a) ∙ e)),
        )

    module _ (a : (object m o).live ≡ true) (b : (object n o).live ≡ true) where
      pub tells-owner : eqb (object m o).owner (object n o).owner ≡ false
          → Formed p (Delete (object m o).owner o) × (number (step (Delete (object m o).owner o) m).decision ≢ number (step (Delete (object m o).owner o) n).decision)
      unfolding checks
      tells-owner h =
          let F = S.sound.formed.objects_formed o in
          let w = (object m o).owner in (
            delete-formed p m S o o-below a,
            tells-refusal (Delete w o) m n NoRight refl
                (pass _ NotEnrolled _ (there w F.shape.owner_fits (F.owner_enrolled a)) ∙ pass _ NotLive _ b ∙ stop _ NoRight _ (not-owned h))
                (λ e. distinct _ _ refl (sym (delete-granted m S.sound o a) ∙ e)),
          )
        where
          not-owned : eqb (object m o).owner (object n o).owner ≡ false → owns (object m o).owner (object n o) ≡ false
          not-owned h =
              split (owns (object m o).owner (object n o))
              (λ e. apart (eq-eqb (object m o).owner (object n o).owner (sym (eqb-true (object n o).owner (object m o).owner e))) h) (λ e. e)

      pub tells-label : (l : Level) → (object m o).label ≡ Some l → same_label (object n o).label (Some l) ≡ false
          → Formed p (ChangeLevel (object m o).owner o l)
          × (number (step (ChangeLevel (object m o).owner o l) m).decision ≢ number (step (ChangeLevel (object m o).owner o l) n).decision)
      unfolding already
      tells-label l e h =
          let F = S.sound.formed.objects_formed o in (
            ((F.shape.owner_fits, o-below, subst LabelFits e F.shape.label_fits), (subject-in p m S (object m o).owner (F.owner_enrolled a), object-in p m S o a, label-in p m S o l e)),
            tells-already (ChangeLevel (object m o).owner o l) m n (same-label-granted m S.sound o l a e) (label_same _ _ e) h,
          )

      pub tells-companies : eqb (object n o).companies (object m o).companies ≡ false
          → Formed p (SetCompanies (object m o).owner o (object m o).companies)
          × (number (step (SetCompanies (object m o).owner o (object m o).companies) m).decision
          ≢ number (step (SetCompanies (object m o).owner o (object m o).companies) n).decision)
      unfolding already
      tells-companies h =
          let F = S.sound.formed.objects_formed o in
          let w = (object m o).owner in (
            ((F.shape.owner_fits, o-below, F.shape.companies_fit), (subject-in p m S w (F.owner_enrolled a), object-in p m S o a)),
            tells-already (SetCompanies w o (object m o).companies) m n (same-companies-granted m S.sound o a) (eq-eqb (object m o).companies _ refl) h,
          )

      pub tells-right : (s : ℕ) (x : Mode) → s < 16 → has x (rights_of (object m o) s) ≡ true → has x (rights_of (object n o) s) ≡ false
          → Formed p (Get s o x) × (number (step (Get s o x) m).decision ≢ number (step (Get s o x) n).decision)
      unfolding checks
      tells-right s x h e g =
          let w : enrolled m s ≡ true =
          split (enrolled m s) (λ v. v) (λ v. apart e (ap (has x) ((S.sound.formed.objects_formed o).absent_rights s v) ∙ has-none x)) in (
            ((h, o-below), (subject-in p m S s w, object-in p m S o a)),
            tells-refusal (Get s o x) m n NoRight refl (pass _ NotEnrolled _ (there s h w) ∙ pass _ NotLive _ b ∙ stop _ NoRight _ g)
                (λ v. never-answers NoRight (distinct _ _ refl) (drop 3 (check_list (Get s o x) m)) refl
                (sym (pass _ NotEnrolled _ w ∙ pass _ NotLive _ a ∙ pass _ NoRight _ e) ∙ v)),
          )

      pub tells-access : (s : ℕ) (x : Mode) → s < 16 → has x (held_by (object m o) s) ≡ true → has x (held_by (object n o) s) ≡ false
          → Formed p (Release s o x) × (number (step (Release s o x) n).decision ≢ number (step (Release s o x) m).decision)
      unfolding already
      tells-access s x h e g =
          let w : enrolled m s ≡ true =
          split (enrolled m s) (λ v. v) (λ v. apart e (ap (has x) ((S.sound.formed.objects_formed o).absent_held s v) ∙ has-none x)) in (
            ((h, o-below), (subject-in p m S s w, object-in p m S o a)),
            tells-already (Release s o x) n m (release-granted n s o x (there s h w) b) (ap not g) (ap not e),
          )
