-- The reply to a get by the wall (change request §10): of every access that is held, the two rules with the one that is wanted.
-- Assumes nothing.
use Prim.Native.Nat.{ℕ, ◌<◌}
use mathlib.Core.Path.{◌≡◌, refl, subst}
use mathlib.Core.Logic.{◌↔◌, ◌⊎◌, ⊎_elim}
use mathlib.Core.List.{List}
use Rattle.model.specs.declared.Monitor.{Monitor}
use Rattle.model.specs.declared.Mode.{Mode}
use Rattle.model.specs.declared.Request.TheVariants.{Get}
use Rattle.std.specs.Prelude.{Some}
use Rattle.model.specs.declared.Decision.TheVariants.{WallBroken}
use Rattle.model.specs.declared.Response.{Response}
use Rattle.model.specs.Properties.{Wall}
use Rattle.model.specs.Decisions.{number}
use Rattle.model.specs.Requests.{decode}
use Rattle.model.specs.Rules.{changed, afterwards}
use Rattle.model.specs.Runs.{reply}
use Rattle.model.specs.Beginnings.{Reached}
use Rattle.model.proofs.Tests.{distinct}
use Rattle.model.proofs.Requests.{decode-range, decode-within}
use Rattle.invariants.specs.Access.{WallByHeld}
use Rattle.invariants.proofs.Steps.{sound-afterwards}
use Rattle.invariants.proofs.Outcomes.{reply-granted}
use Rattle.invariants.proofs.WallAdded.{wall-added}
use Rattle.images.proofs.Reached.{sound-reached, respond-says}
use Rattle.refusals.proofs.First.{over}
use Rattle.refusals.proofs.FirstRefusal.{reply-first-cause}

module _ (m : Monitor) (R : Reached m) (g : List ℕ) (s o : ℕ) (x : Mode) (says : decode m.profile g ≡ Some (Get s o x)) where
  -- the wall after the get
  by-held : Wall (afterwards (Get s o x) m) ↔ WallByHeld m s o x
  unfolding changed
  by-held =
      let b = decode-range m.profile g (Get s o x) says in
      wall-added m (sound-reached m R) s o x b.0 b.1

  kept-granted : reply g m < 2 → WallByHeld m s o x
  kept-granted h =
      by-held.0
      (sound-afterwards (Get s o x) m (decode-range m.profile g (Get s o x) says) (decode-within m.profile g (Get s o x) says) (sound-reached m R)
      ((reply-granted (Get s o x) m).0 (subst (λ (r : Response). number r.decision < 2) (respond-says g (Get s o x) m says) h))).secure.wall

  eighteen-not-kept : reply g m ≡ 18 → WallByHeld m s o x → ⊥
  eighteen-not-kept e K =
      let first = (reply-first-cause m R g (Get s o x) says WallBroken refl).0 e in
      let simple = over (distinct _ _ refl) (over (distinct _ _ refl) (over (distinct _ _ refl) (over (distinct _ _ refl) first).1).1).1 in
      let star = over (distinct _ _ refl) simple.1 in
      ⊎_elim (λ a. a.1 (by-held.1 K)) (λ c. absurd c.1) (over (distinct _ _ refl) star.1).1

  -- a get that gets 0, 1 or 18, so that no earlier check refuses it, is granted exactly where the wall is kept with each access held, e too, and gets 18
  -- exactly where it is not
  pub get-by-wall : (reply g m < 2) ⊎ (reply g m ≡ 18) → ((reply g m < 2) ↔ WallByHeld m s o x) × ((reply g m ≡ 18) ↔ (WallByHeld m s o x → ⊥))
  get-by-wall passed = (
    (kept-granted, λ K. ⊎_elim (λ (h : reply g m < 2). h) (λ (e : reply g m ≡ 18). absurd (eighteen-not-kept e K)) passed),
    (eighteen-not-kept, λ n. ⊎_elim (λ (h : reply g m < 2). absurd (n (kept-granted h))) (λ (e : reply g m ≡ 18). e) passed),
  )
