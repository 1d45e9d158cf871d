-- Demand 2, over every profile: after every list of byte strings the state is well formed, inside its profile and secure, replies are exact, and a
-- get is refused exactly when it must be.
-- Assumes nothing.
use Prim.Native.Nat.{ℕ, ◌<◌, ◌≤◌}
use native.Mathlib.Omega.{arith}
use mathlib.Core.Path.{◌≡◌, refl, sym, subst}
use mathlib.Core.Logic.{◌↔◌, ◌≢◌}
use mathlib.Core.Bool.{true}
use mathlib.Core.List.{List}
use Rattle.model.specs.declared.Monitor.{Monitor}
use Rattle.model.specs.declared.Mode.{Mode}
use Rattle.model.specs.declared.Request.TheVariants.{Get}
use Rattle.std.specs.Prelude.{Some}
use Rattle.model.specs.declared.Response.{Response}
use Rattle.model.specs.State.{enrolled, object, WellFormed}
use Rattle.model.specs.Profiles.{Inside}
use Rattle.model.specs.Properties.{Secure}
use Rattle.model.specs.Decisions.{number}
use Rattle.model.specs.Requests.{decode}
use Rattle.model.specs.Runs.{respond, reply}
use Rattle.model.specs.Beginnings.{Reached}
use Rattle.model.proofs.Requests.{decode-range}
use Rattle.invariants.specs.Access.{with_access}
use Rattle.invariants.proofs.Steps.{respond-all}
use Rattle.invariants.proofs.Outcomes.{reply-granted}
use Rattle.images.proofs.Reached.{sound-reached, reached-inside, respond-says}
use Rattle.effects.proofs.Replies.{reply-zero, reply-one, refusal-leaves}
use Rattle.effects.proofs.Gets.{get-refused-exactly}

module _ (m : Monitor) (R : Reached m) where
  -- "afterwards the discretionary, label, simple and star properties hold"
  pub always-secure : WellFormed m × Secure m
  always-secure = let S = sound-reached m R in (S.formed, S.secure)

  -- and the state stays inside its profile (change request §8)
  pub always-inside : Inside m
  always-inside = reached-inside m R

  -- "a well-formed get by an enrolled subject on a live object is refused exactly when adding that access would break one of them"; well formed under
  -- the profile of the monitor
  pub get-exactly : (g : List ℕ) (s o : ℕ) (x : Mode) → decode m.profile g ≡ Some (Get s o x) → enrolled m s ≡ true → (object m o).live ≡ true
      → (2 ≤ reply g m) ↔ (Secure (with_access m s o x) → ⊥)
  get-exactly g s o x d there live =
      subst (λ (r : Response). (2 ≤ number r.decision) ↔ (Secure (with_access m s o x) → ⊥)) (sym (respond-says g (Get s o x) m d))
      (get-refused-exactly m (sound-reached m R) s o x there live)

  -- "Reply 0: granted and the state changed"
  pub reply-0-exactly : (g : List ℕ) → (reply g m ≡ 0) ↔ ((reply g m < 2) × ((respond g m).monitor ≢ m))
  reply-0-exactly g =
      respond-all (λ (r : Response). (number r.decision ≡ 0) ↔ ((number r.decision < 2) × (r.monitor ≢ m))) g m
      (λ w. (λ z. absurd (omega (arith, z)), λ p. absurd (p.1 refl)))
      (λ q d.
      let t = reply-zero q m (sound-reached m R).formed (decode-range m.profile g q d) in
      (λ z. (omega (arith, z), (t.0 z).1), λ p. t.1 ((reply-granted q m).0 p.0, p.1)))

  -- "Reply 1: granted and the state was so already"
  pub reply-1-exactly : (g : List ℕ) → (reply g m ≡ 1) ↔ ((reply g m < 2) × ((respond g m).monitor ≡ m))
  reply-1-exactly g =
      respond-all (λ (r : Response). (number r.decision ≡ 1) ↔ ((number r.decision < 2) × (r.monitor ≡ m))) g m
      (λ w. (λ z. absurd (omega (arith, z)), λ p. absurd (omega (arith, p.0))))
      (λ q d.
      let t = reply-one q m (sound-reached m R).formed (decode-range m.profile g q d) in
      (λ z. (omega (arith, z), (t.0 z).1), λ p. t.1 ((reply-granted q m).0 p.0, p.1)))

-- a refusal, of any bytes on any monitor, leaves "the whole state"
pub refusal-leaves-state : (g : List ℕ) (m : Monitor) → 2 ≤ reply g m → (respond g m).monitor ≡ m
refusal-leaves-state g m =
    respond-all (λ (r : Response). 2 ≤ number r.decision → r.monitor ≡ m) g m (λ w h. refl) (λ q d h. refusal-leaves q m h)
