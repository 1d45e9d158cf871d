-- The orders of a list are the lists in which each element stands equally often.
-- Assumes nothing.
use Prim.Native.Nat.{◌<◌}
use native.Mathlib.Omega.{arith}
use mathlib.Core.Path.{◌≡◌, refl, ap}
use mathlib.Core.Logic.{◌↔◌}
use mathlib.Core.Bool.{Bool, true}
use mathlib.Core.List.Permᴰ
use mathlib.Core.List.{List, [], ◌∷◌}
use Rattle.bits.specs.Bits.{bit}
use Rattle.model.proofs.Tests.{split}
use Rattle.orders.specs.Sums.{sum_over}
use Rattle.orders.specs.Orders.{OrderOf, times_in}
use Rattle.orders.proofs.Sums.{sum-order}

-- a test that says of which two elements they are the same
module _ {A : Type 0} (same : A → A → Bool) (told : (x y : A) → same x y ≡ true → x ≡ y) (itself : (x : A) → same x x ≡ true) where
  -- an element that stands in a list may be brought to its front
  brought : (x : A) (ys : List A) → 0 < times_in same x ys → (rest : List A) × OrderOf (x ∷ rest) ys
  unfolding sum_over
  brought x [] h = absurd (omega arith)
  brought x (y ∷ ys) h =
      split (same x y) (λ e. (ys, Permᴰ.cons (told x y e) (Permᴰ.refl ys)))
      (λ e.
      let r = brought x ys (omega (arith, ap bit e)) in
      (y ∷ r.0, Permᴰ.trans (Permᴰ.swap refl refl) (Permᴰ.cons refl r.1)))

  counted-order : (xs ys : List A) → ((x : A) → times_in same x xs ≡ times_in same x ys) → OrderOf xs ys
  unfolding sum_over
  counted-order [] [] h = Permᴰ.nil
  counted-order [] (y ∷ ys) h = absurd (omega (arith, h y, ap bit (itself y)))
  counted-order (x ∷ xs) ys h =
      let r = brought x ys (omega (arith, h x, ap bit (itself x))) in
      Permᴰ.trans (Permᴰ.cons refl (counted-order xs r.0 (λ y. omega (arith, h y, sum-order (λ z. bit (same y z)) r.1)))) r.1

  pub orders-counted : (xs ys : List A) → OrderOf xs ys ↔ ((x : A) → times_in same x xs ≡ times_in same x ys)
  orders-counted xs ys = (λ d x. sum-order (λ y. bit (same x y)) d, counted-order xs ys)
