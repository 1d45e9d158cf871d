-- The test of the numbers below the next one.
-- Assumes nothing.
use Prim.Native.Nat.{ℕ, suc, ◌+◌}
use native.Mathlib.Omega.{arith}
use mathlib.Core.Path.{◌≡◌, sym, ap, ap₂, ◌∙◌}
use mathlib.Core.Bool.{Bool, ◌&&◌}
use Rattle.model.specs.Tests.{all_below}

-- what held of those below i, and the test at i
pub below_next : (i : ℕ) (f : ℕ → Bool) (before here : Bool) → before ≡ all_below i f → here ≡ f i → (before && here) ≡ all_below (i + 1) f
below_next i f before here e h =
    let next : i + 1 ≡ suc i = omega arith in
    ap₂ ◌&&◌ e h ∙ ap (λ (n : ℕ). all_below n f) (sym next)
