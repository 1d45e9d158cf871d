-- The life of an object: it begins by a create of it, and ends by a delete of it or of one that it is below (change request §11); what a delete
-- leaves is gone exactly if it is the object or below it.
-- Assumes nothing.
use Prim.Native.Nat.{ℕ, ◌<◌}
use mathlib.Core.Path.{◌≡◌, refl, ap, ◌∙◌, subst}
use mathlib.Core.Logic.{◌⊎◌, inl, inr, ⊎_elim, ◌↔◌}
use mathlib.Core.Bool.{Bool, true, false}
use mathlib.Core.List.{List}
use Rattle.model.specs.declared.Object.{Object}
use Rattle.model.specs.declared.Monitor.{Monitor}
use Rattle.model.specs.declared.Creation.{Creation}
use Rattle.model.specs.declared.Request.{Request}
use Rattle.model.specs.declared.Request.TheVariants.{Get, Release, Give, Rescind, Create, Delete, ChangeLevel, SetCompanies}
use Rattle.std.specs.Prelude.{Some}
use Rattle.model.specs.declared.Response.{Response}
use Rattle.model.specs.State.{no_object, object}
use Rattle.model.specs.Hierarchy.{Below, Hierarchy}
use Rattle.model.specs.Decisions.{number}
use Rattle.model.specs.Requests.{decode}
use Rattle.model.specs.Rules.{target, changed, step}
use Rattle.model.specs.Runs.{respond, reply}
use Rattle.model.specs.Beginnings.{Reached}
use Rattle.model.proofs.Tests.{apart}
use Rattle.model.proofs.Requests.{decode-range}
use Rattle.invariants.proofs.Hierarchy.{Goes, goes, goes-or-stays}
use Rattle.invariants.proofs.Steps.{respond-all, step-granted}
use Rattle.invariants.proofs.Outcomes.{reply-granted}
use Rattle.images.proofs.Reached.{sound-reached, respond-says}
use Rattle.effects.specs.Effects.{TakesAlong}
use Rattle.effects.proofs.Frames.{frame}

-- what a request does to the life of object o: nothing, or it begins by a create of it, or it ends by a delete of it or of one that it is below
data Life (q : Request) (m : Monitor) (o : ℕ) (before behind : Bool) : Type 0 where
  stays : behind ≡ before → Life q m o before behind
  begins : (s : ℕ) (c : Creation) → q ≡ Create s o c → behind ≡ true → Life q m o before behind
  ends : (s : ℕ) → q ≡ Delete s o → behind ≡ false → Life q m o before behind
  taken : TakesAlong q m o → behind ≡ false → Life q m o before behind

changed-life : (q : Request) (m : Monitor) (ob : Object) → Life q m (target q) ob.live (changed q ob).live
unfolding changed
changed-life (Get s o x) m ob = stays refl
changed-life (Release s o x) m ob = stays refl
changed-life (Give s t o x) m ob = stays refl
changed-life (Rescind s t o x) m ob = stays refl
changed-life (Create s o c) m ob = begins s c refl refl
changed-life (Delete s o) m ob = ends s refl refl
changed-life (ChangeLevel s o l) m ob = stays refl
changed-life (SetCompanies s o k) m ob = stays refl

step-life : (q : Request) (m : Monitor) (o : ℕ) → Life q m o (object m o).live (object (step q m).monitor o).live
step-life q m o =
    frame (λ (ob : Object). Life q m o (object m o).live ob.live) q m o (stays refl)
    (λ g e. subst (λ (k : ℕ). Life q m k (object m k).live (changed q (object m (target q))).live) e (changed-life q m (object m (target q))))
    (λ t. taken t refl)

-- a delete of object o, or of one that it is below
abbrev pub DeletesWith : List ℕ → Monitor → ℕ → Type 0
DeletesWith g m o = (s : ℕ) × (t : ℕ) × (decode m.profile g ≡ Some (Delete s t)) × ((o ≡ t) ⊎ Below m.objects t o)

-- whatever the bytes and the monitor: a live object ends only by a delete of it or of one that it is below
pub live-kept : (m : Monitor) (g : List ℕ) (o : ℕ) → (object m o).live ≡ true → ((object (respond g m).monitor o).live ≡ true) ⊎ DeletesWith g m o
live-kept m g o live =
    respond-all (λ (r : Response). ((object r.monitor o).live ≡ true) ⊎ DeletesWith g m o) g m (λ e. inl live)
    (λ q d. elim (step-life q m o) [
      | stays e ↦ inl (e ∙ live)
      | begins s c e f ↦ inl f
      | ends s e f ↦ inr (s, o, d ∙ ap Some e, inl refl)
      | taken t f ↦ inr (t.0, t.1, d ∙ ap Some t.2, inr t.3)
    ])

-- and one that is not live begins only by a create of it
pub live-by-create : (m : Monitor) (g : List ℕ) (o : ℕ) → (object m o).live ≡ false
    → ((object (respond g m).monitor o).live ≡ false) ⊎ ((s : ℕ) × (c : Creation) × (decode m.profile g ≡ Some (Create s o c)))
live-by-create m g o dead =
    respond-all (λ (r : Response). ((object r.monitor o).live ≡ false) ⊎ ((s : ℕ) × (c : Creation) × (decode m.profile g ≡ Some (Create s o c)))) g m (λ e. inl dead)
    (λ q d. elim (step-life q m o) [ stays e ↦ inl (e ∙ dead) | begins s c e f ↦ inr (s, c, d ∙ ap Some e) | ends s e f ↦ inl f | taken t f ↦ inl f ])

-- ---- objects under objects, on every reached monitor

-- parents are live, chains of them end, and labels rise
pub always-hierarchy : (m : Monitor) → Reached m → Hierarchy m
always-hierarchy m R = (sound-reached m R).hierarchy

module _ (m : Monitor) (R : Reached m) (g : List ℕ) (s o : ℕ) (says : decode m.profile g ≡ Some (Delete s o)) (granted : reply g m < 2) where
  left : (respond g m).monitor ≡ (step (Delete s o) m).monitor
  left = ap (λ (r : Response). r.monitor) (respond-says g (Delete s o) m says)

  after : (j : ℕ) → object (respond g m).monitor j ≡ object (step (Delete s o) m).monitor j
  after j = ap (λ (n : Monitor). object n j) left

  -- "Deleting an object deletes everything below it", and nothing else: each object goes, and is none, or is as it was
  pub delete-leaves : (j : ℕ) → (Goes m o j × (object (respond g m).monitor j ≡ no_object)) ⊎ ((Goes m o j → ⊥) × (object (respond g m).monitor j ≡ object m j))
  delete-leaves j =
      let W = (sound-reached m R).formed in
      let h = (decode-range m.profile g (Delete s o) says).1 in
      let e = after j ∙ ap (λ (r : Response). object r.monitor j) (step-granted (Delete s o) m ((reply-granted (Delete s o) m).0 granted-step)) in
      ⊎_elim (λ (w : Goes m o j). inl (w, e ∙ goes s o m W h j w)) (λ w. inr (w.0, e ∙ w.1)) (goes-or-stays s o m W h j)
    where
      granted-step : number (step (Delete s o) m).decision < 2
      granted-step = subst (λ (r : Response). number r.decision < 2) (respond-says g (Delete s o) m says) granted

  -- a live object is gone exactly if it is the object or below it
  pub gone-exactly : (j : ℕ) → (object m j).live ≡ true → ((object (respond g m).monitor j).live ≡ false) ↔ Goes m o j
  gone-exactly j live = (
    λ dead. ⊎_elim (λ w. w.0) (λ w. apart (ap (λ (ob : Object). ob.live) w.1 ∙ live) dead) (delete-leaves j),
    λ w. ⊎_elim (λ v. ap (λ (ob : Object). ob.live) v.1) (λ v. absurd (v.0 w)) (delete-leaves j),
  )
