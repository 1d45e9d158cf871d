-- Company numbers that the owner sets (change request §10): 1 exactly where they are so already, and never 18 then.
-- Assumes nothing.
use Prim.Native.Nat.{ℕ}
use mathlib.Core.Path.{◌≡◌, refl, sym, ap, ◌∙◌, subst}
use mathlib.Core.Logic.{◌↔◌}
use mathlib.Core.Bool.{Bool, true, cond}
use mathlib.Core.List.{List}
use native.Mathlib.Omega.{arith}
use borrow.Author.Tests.{eq-eqb, eqb-true}
use Rattle.model.specs.declared.Monitor.{Monitor}
use Rattle.model.specs.declared.Request.TheVariants.{SetCompanies}
use Rattle.std.specs.Prelude.{Some}
use Rattle.model.specs.declared.Decision.TheVariants.{Granted, Already}
use Rattle.model.specs.declared.Response.{Response}
use Rattle.model.specs.State.{object}
use Rattle.model.specs.Decisions.{number}
use Rattle.model.specs.Requests.{decode}
use Rattle.model.specs.Rules.{already}
use Rattle.model.specs.Runs.{reply}
use Rattle.model.specs.Beginnings.{Reached}
use Rattle.invariants.proofs.Steps.{step-granted}
use Rattle.invariants.proofs.Outcomes.{step-cases}
use Rattle.invariants.proofs.WallAdded.{same-companies-granted}
use Rattle.images.proofs.Reached.{sound-reached, respond-says}

module _ (m : Monitor) (R : Reached m) (g : List ℕ) (o n : ℕ) (says : decode m.profile g ≡ Some (SetCompanies (object m o).owner o n))
    (live : (object m o).live ≡ true) where
  -- the numbers that the object has: nothing changes, so nothing can break
  same_numbers : (object m o).companies ≡ n → reply g m ≡ 1
  unfolding already
  same_numbers e =
      let granted = step-granted (SetCompanies (object m o).owner o (object m o).companies) m (same-companies-granted m (sound-reached m R) o live) in
      let bytes = subst (λ (k : ℕ). decode m.profile g ≡ Some (SetCompanies (object m o).owner o k)) (sym e) says in
      ap (λ (r : Response). number r.decision) (respond-says g _ m bytes ∙ granted)
      ∙ ap (λ (b : Bool). number (cond b Already Granted)) (eq-eqb (object m o).companies _ refl)

  other-numbers : reply g m ≡ 1 → (object m o).companies ≡ n
  unfolding already
  other-numbers e =
      let q = SetCompanies (object m o).owner o n in
      let one = sym (ap (λ (r : Response). number r.decision) (respond-says g q m says)) ∙ e in
      step-cases q m (λ c a k s. eqb-true _ n a) (λ c a k s. absurd (omega (arith, one, k))) (λ k c s. absurd (omega (arith, one, k)))

  -- "Reply 1: granted and the state was so already": the owner's numbers get 1 exactly where the object has them
  pub same-numbers-reply-1 : (reply g m ≡ 1) ↔ ((object m o).companies ≡ n)
  same-numbers-reply-1 = (other-numbers, same_numbers)
