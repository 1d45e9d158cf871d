-- Where no two gets of a list clash, each two of its accesses that are granted alone may be held together.
-- Assumes nothing.
use Prim.Native.Nat.{ℕ, ◌<◌, ◌≤◌}
use native.Mathlib.Omega.{arith}
use native.Mathlib.Decide.{ℕ_discrete}
use mathlib.Core.Path.{◌≡◌, ap, ◌∙◌, subst₂}
use mathlib.Core.Logic.{⊎_elim}
use mathlib.Core.Bool.{true}
use mathlib.Core.List.{List, []}
use lib.ListN.{length, get_or}
use Rattle.model.specs.declared.Monitor.{Monitor}
use Rattle.model.specs.declared.Mode.{Mode}
use Rattle.model.specs.declared.Request.TheVariants.{Get}
use Rattle.model.specs.Requests.{Decoded, decode}
use Rattle.std.specs.Prelude.{Some}
use Rattle.model.specs.declared.Decision.TheVariants.{Granted}
use Rattle.model.specs.State.{object}
use Rattle.model.specs.Properties.{Holds}
use Rattle.model.specs.Rules.{changed, checks}
use Rattle.model.proofs.Tests.{split, apart, le-or-lt}
use Rattle.invariants.specs.Access.{with_access, unheld}
use Rattle.invariants.specs.Sound.{Sound}
use Rattle.invariants.proofs.Inside.{get-within}
use Rattle.invariants.proofs.Steps.{sound-afterwards}
use Rattle.invariants.proofs.Added.{held-still, holds-now}
use Rattle.request_orders.specs.StartOrder.{NoClash}
use Rattle.request_orders.proofs.Commuting.{says-granted}
use Rattle.request_orders.proofs.Accesses.{same-on, pairs-by, added-same}
use Rattle.request_orders.proofs.PairProperties.{PairProperty}
use Rattle.request_orders.proofs.Gets.{asked-range, beside, HeldTogether}

-- the object and the mode of a get
same-get : (d : Decoded) (s p q : ℕ) (x y : Mode) → d ≡ Some (Get s p x) → d ≡ Some (Get s q y) → (p ≡ q) × (x ≡ y)
same-get d s p q x y e f = (cc, cc)

module _ (Property : Monitor → Type 0) (R : PairProperty Property) (bs : List (List ℕ)) (m : Monitor) (S : Sound m) where
  -- the state with two accesses added
  sound-one : (s o : ℕ) (x : Mode) → (s < 16) × (o < 64) → checks (Get s o x) m ≡ Granted → Sound (with_access m s o x)
  unfolding changed
  sound-one s o x r g = sound-afterwards (Get s o x) m r (get-within m S.inside s o x g) S g

  module _ (N : NoClash Property bs m) where
    -- two gets of one subject at two places
    two-places : (i j : ℕ) → i < j → j < length bs → (s p q : ℕ) (x y : Mode)
        → decode m.profile (get_or bs i []) ≡ Some (Get s p x) → checks (Get s p x) m ≡ Granted
        → decode m.profile (get_or bs j []) ≡ Some (Get s q y) → checks (Get s q y) m ≡ Granted
        → (u v : ℕ) (a b : Mode)
        → Holds (with_access (with_access m s p x) s q y) s u a → Holds (with_access (with_access m s p x) s q y) s v b
        → R.test (unheld (object m u)) a (unheld (object m v)) b ≡ true
    two-places i j h k s p q x y d g e f u v a b l r =
        let both = with_access (with_access m s p x) s q y in
        let E = same-on (added-same (with_access m s p x) s q y) (added-same m s p x) in
        split _ (λ z. z)
        (λ z. absurd (N i j h k
        (record {
          s = s;
          p = p;
          x = x;
          t = s;
          q = q;
          y = y;
          first = d;
          second = e;
          first_alone = (says-granted _ (Get s p x) m d).1 g;
          second_alone = (says-granted _ (Get s q y) m e).1 f;
          together = λ T. apart (pairs-by R.test both both E (λ t o c w. w) ((R.means both).0 T) s u v a b l r) z;
        })))

    pub held-together : HeldTogether R.test bs m
    held-together s p q x y A g C f =
        let r = asked-range A in
        let k = asked-range C in
        let S₁ = sound-one s p x r g in
        let S₂ = sound-one s q y k f in
        elim (ℕ_discrete A.at C.at) [
          | yes e ↦
              let same = same-get (decode m.profile (get_or bs A.at [])) s p q x y A.says (ap (λ (k : ℕ). decode m.profile (get_or bs k [])) e ∙ C.says) in
              let new = holds-now m S s p x r.0 r.1 in
              subst₂ (λ (j : ℕ) (z : Mode). R.test (unheld (object m p)) x (unheld (object m j)) z ≡ true) same.0 same.1
              (beside Property R bs m S s p x g s p p x x new new)
          | no n ↦ ⊎_elim
              (λ (h : A.at ≤ C.at). two-places A.at C.at (omega arith) C.within s p q x y A.says g C.says f p q x y
              (held-still (with_access m s p x) S₁.formed s q y s p x (holds-now m S s p x r.0 r.1))
              (holds-now (with_access m s p x) S₁ s q y k.0 k.1))
              (λ (h : C.at < A.at). two-places C.at A.at h A.within s q p y x C.says f A.says g p q x y
              (holds-now (with_access m s q y) S₂ s p x r.0 r.1)
              (held-still (with_access m s q y) S₂.formed s p x s q y (holds-now m S s q y k.0 k.1)))
              (le-or-lt A.at C.at)
        ]
