-- What is below what (change request §11): below one that is below another is below that one, what is met above an object is its parent or above
-- that, and where chains end nothing is below itself.
-- Assumes nothing.
use Prim.Native.Nat.{ℕ, zero, suc}
use native.Mathlib.Omega.{arith}
use mathlib.Core.Path.{◌≡◌, sym, subst}
use mathlib.Core.Logic.{◌⊎◌, inl, inr}
use mathlib.Core.Bool.{true}
use mathlib.Core.List.{List}
use Rattle.model.specs.declared.Object.{Object}
use Rattle.model.specs.Hierarchy.{parent_at, Meets, here, further, Ends, ends, Below}
use Rattle.model.proofs.Tests.{clash}
use Rattle.model.proofs.Hierarchy.{ends_found, ends_more}

module _ (l : List Object) where
  -- from p upward y is met, and above y is x
  meets-above : (x y p : ℕ) → Meets l y p → Meets l x (parent_at l y) → Meets l x p
  meets-above x y p here h = further y h
  meets-above x y p (further z w) h = further z (meets-above x y (parent_at l z) w h)

  pub below-below : (x y z : ℕ) → Below l x y → Below l y z → Below l x z
  below-below x y z a b = meets-above x y (parent_at l z) b a

  -- what is met from an object upward is that object or above it
  pub meets-first : (x p : ℕ) → Meets l x p → (q : ℕ) → p ≡ suc q → (x ≡ q) ⊎ Below l x q
  meets-first x p here q e = inl (omega (arith, e))
  meets-first x p (further y h) q e = inr (subst (λ (k : ℕ). Meets l x (parent_at l k)) (omega (arith, e)) h)

  -- nothing is met from no object
  pub meets-none : (x p : ℕ) → Meets l x p → p ≡ 0 → ⊥
  meets-none x p here e = absurd (omega (arith, e))
  meets-none x p (further y h) e = absurd (omega (arith, e))

  -- the chain of what is met has no more objects than the chain on which it is met
  meets-ends : (x p : ℕ) → Meets l x p → (n : ℕ) → ends n l p ≡ true → ends n l (suc x) ≡ true
  unfolding ends
  meets-ends x p here n e = e
  meets-ends x p (further y h) zero e = clash (sym e)
  meets-ends x p (further y h) (suc n) e = ends_more n l (suc x) (meets-ends x (parent_at l y) h n e)

  pub not-below-itself : (x : ℕ) → Ends l (suc x) → Below l x x → ⊥
  unfolding ends
  not-below-itself x c b = let f = ends_found l (suc x) c in go f.0 f.1
    where
      go : (n : ℕ) → ends n l (suc x) ≡ true → ⊥
      go zero e = clash (sym e)
      go (suc n) e = go n (meets-ends x (parent_at l x) b n e)
