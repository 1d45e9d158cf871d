-- States that differ in their accesses only, and properties of every two accesses of one subject.
-- Assumes nothing.
use Prim.Native.Nat.{ℕ}
use mathlib.Core.Path.{◌≡◌, refl, sym, ◌∙◌, subst₂}
use mathlib.Core.Bool.{Bool, true}
use Rattle.model.specs.declared.Object.{Object}
use Rattle.model.specs.declared.Monitor.{Monitor}
use Rattle.model.specs.declared.Mode.{Mode}
use Rattle.model.specs.State.{object}
use Rattle.model.specs.Properties.{Holds}
use Rattle.invariants.specs.Access.{with_access, unheld}
use Rattle.invariants.proofs.Added.{same-unheld}

-- two states that differ in their accesses only
pub record SameButHeld (n k : Monitor) : Type 0 where
  pub profile : n.profile ≡ k.profile
  pub subjects : n.subjects ≡ k.subjects
  pub objects : (o : ℕ) → unheld (object n o) ≡ unheld (object k o)

pub same_back : {n k : Monitor} → SameButHeld n k → SameButHeld k n
same_back E = record { profile = sym E.profile; subjects = sym E.subjects; objects = λ o. sym (E.objects o) }

pub same-on : {n k l : Monitor} → SameButHeld n k → SameButHeld k l → SameButHeld n l
same-on E F = record { profile = E.profile ∙ F.profile; subjects = E.subjects ∙ F.subjects; objects = λ o. E.objects o ∙ F.objects o }

-- each access held in n is held in k
abbrev pub Within : Monitor → Monitor → Type 0
Within n k = (s o : ℕ) (x : Mode) → Holds n s o x → Holds k s o x

pub added-same : (n : Monitor) (s o : ℕ) (x : Mode) → SameButHeld (with_access n s o x) n
added-same n s o x = record { profile = refl; subjects = refl; objects = same-unheld n s o x }

-- ---- properties of pairs of accesses

-- a test of two accesses of one subject, by the two objects and the two modes, holds of all that are held in n; the objects are those of f
abbrev pub Pairs : (Object → Mode → Object → Mode → Bool) → Monitor → Monitor → Type 0
Pairs test f n = (s p q : ℕ) (x y : Mode) → Holds n s p x → Holds n s q y → test (unheld (object f p)) x (unheld (object f q)) y ≡ true

-- the same by the objects of another state, of fewer accesses
pub pairs-by : (test : Object → Mode → Object → Mode → Bool) (n k : Monitor) {f g : Monitor} → SameButHeld f g → Within k n → Pairs test f n → Pairs test g k
pairs-by test n k F w T s p q x y a b =
    subst₂ (λ (P Q : Object). test P x Q y ≡ true) (F.objects p) (F.objects q) (T s p q x y (w s p x a) (w s q y b))
