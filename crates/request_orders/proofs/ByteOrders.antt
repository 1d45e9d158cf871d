-- The orders of a list of byte strings are the lists in which each byte string stands equally often.
-- Assumes nothing.
use Prim.Native.Nat.{ℕ}
use mathlib.Core.Path.{◌≡◌, refl, sym, ap₂}
use mathlib.Core.Logic.{◌↔◌}
use mathlib.Core.Bool.{true}
use mathlib.Core.List.{List, [], ◌∷◌}
use lib.Dec.{eqb}
use borrow.Author.Tests.{eqb-true, eq-eqb}
use Rattle.model.proofs.Tests.{clash, and_left, and_right, and_both}
use Rattle.orders.specs.Orders.{OrderOf, times_in}
use Rattle.orders.proofs.Orders.{orders-counted}
use Rattle.request_orders.specs.AnyOrder.{same_bytes}

told : (a b : List ℕ) → same_bytes a b ≡ true → a ≡ b
told [] [] e = refl
told [] (y ∷ ys) e = clash (sym e)
told (x ∷ xs) [] e = clash (sym e)
told (x ∷ xs) (y ∷ ys) e = ap₂ (λ (n : ℕ) (l : List ℕ). n ∷ l) (eqb-true x y (and_left (eqb x y) _ e)) (told xs ys (and_right (eqb x y) _ e))

itself : (a : List ℕ) → same_bytes a a ≡ true
itself [] = refl
itself (x ∷ xs) = and_both (eq-eqb x x refl) (itself xs)

pub byte-orders : (bs cs : List (List ℕ)) → OrderOf bs cs ↔ ((b : List ℕ) → times_in same_bytes b bs ≡ times_in same_bytes b cs)
byte-orders = orders-counted same_bytes told itself
