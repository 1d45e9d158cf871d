-- Company numbers (change request §10): the four in one number, and the tests of two rules decide them.
-- Assumes nothing.
use Prim.Native.Nat.{ℕ, ◌+◌, ◌*◌, ◌<◌}
use native.Mathlib.Omega.{arith}
use mathlib.Core.Path.{◌≡◌, refl, sym}
use mathlib.Core.Logic.{◌↔◌, inl, inr, ⊎_elim}
use mathlib.Core.Bool.{Bool, true, false, ◌&&◌, ◌||◌}
use lib.Dec.{eqb}
use borrow.Author.Tests.{eqb-true, eq-eqb}
use Rattle.model.specs.declared.Mode.{Mode}
use Rattle.model.specs.Tests.{implies}
use Rattle.model.specs.Modes.{observes, alters}
use Rattle.model.specs.Companies.{company, Compatible, Confined, compatible, confined, WallAsks, wall_kept}
use Rattle.model.proofs.Tests.{split, apart, and_left, and_right, and_both, implies-out, implies-in, or_cases, or_left, or_right, below_out, below_in}

-- ---- "four 4-bit company numbers, .. first class highest"

-- the four numbers of which one is made
pub four-numbers : (a b c d : ℕ) → a < 16 → b < 16 → c < 16 → d < 16
    → (company 0 (a * 4096 + b * 256 + c * 16 + d) ≡ a) × (company 1 (a * 4096 + b * 256 + c * 16 + d) ≡ b)
    × (company 2 (a * 4096 + b * 256 + c * 16 + d) ≡ c) × (company 3 (a * 4096 + b * 256 + c * 16 + d) ≡ d)
unfolding company
four-numbers a b c d u v w x = (omega arith, omega arith, omega arith, omega arith)

-- "0 for none": four times, in 0
pub no-company : (k : ℕ) → k < 4 → company k 0 ≡ 0
unfolding company
no-company k h = eqb-true _ 0 (below_out 4 (λ (i : ℕ). eqb (company i 0) 0) refl k h)

-- ---- the tests decide

pub compatible-decides : (p q : ℕ) → (compatible p q ≡ true) ↔ Compatible p q
unfolding compatible
compatible-decides p q =
    let test : ℕ → Bool = λ k. eqb (company k p) 0 || (eqb (company k q) 0 || eqb (company k p) (company k q)) in (
      λ e k h.
          or_cases (eqb (company k p) 0) (eqb (company k q) 0 || eqb (company k p) (company k q)) (below_out 4 test e k h)
          (λ w. inl (eqb-true _ 0 w))
          (λ w. inr (or_cases (eqb (company k q) 0) (eqb (company k p) (company k q)) w (λ v. inl (eqb-true _ 0 v)) (λ v. inr (eqb-true _ _ v)))),
      λ C. below_in 4 test
          (λ k h.
          ⊎_elim (λ w. or_left _ _ (eq-eqb _ 0 w))
          (λ v. or_right (eqb (company k p) 0) _ (⊎_elim (λ w. or_left _ _ (eq-eqb _ 0 w)) (λ w. or_right (eqb (company k q) 0) _ (eq-eqb _ _ w)) v))
          (C k h)),
    )

pub confined-decides : (p q : ℕ) → (confined p q ≡ true) ↔ Confined p q
unfolding confined
confined-decides p q =
    let test : ℕ → Bool = λ k. eqb (company k p) 0 || eqb (company k p) (company k q) in (
      λ e k h n.
          or_cases (eqb (company k p) 0) (eqb (company k p) (company k q)) (below_out 4 test e k h)
          (λ w. absurd (n (eqb-true _ 0 w))) (λ w. eqb-true _ _ w),
      λ C. below_in 4 test
          (λ k h.
          split (eqb (company k p) 0) (λ w. or_left _ _ w)
          (λ w. or_right (eqb (company k p) 0) _ (eq-eqb _ _ (C k h (λ z. apart (eq-eqb _ 0 z) w))))),
    )

-- both rules, for two accesses
pub wall-kept-decides : (x y : Mode) (p q : ℕ) → (wall_kept x y p q ≡ true) ↔ WallAsks x y p q
unfolding wall_kept
wall-kept-decides x y p q = (
  λ e.
      let later = and_right (compatible p q) _ e in (
        (compatible-decides p q).0 (and_left (compatible p q) _ e),
        λ o a. (confined-decides p q).0 (implies-out _ _ (and_left (implies (observes x && alters y) (confined p q)) _ later) (and_both o a)),
        λ o a. (confined-decides q p).0 (implies-out _ _ (and_right (implies (observes x && alters y) (confined p q)) _ later) (and_both o a)),
      ),
  λ W.
      and_both ((compatible-decides p q).1 W.0)
      (and_both
      (implies-in _ _ (λ w. (confined-decides p q).1 (W.1 (and_left (observes x) _ w) (and_right (observes x) _ w))))
      (implies-in _ _ (λ w. (confined-decides q p).1 (W.2 (and_left (observes y) _ w) (and_right (observes y) _ w))))),
)

-- ---- an object beside itself, and beside one without numbers

pub compatible-itself : (n : ℕ) → Compatible n n
compatible-itself n k h = inr (inr refl)

pub confined-itself : (n : ℕ) → Confined n n
confined-itself n k h z = refl

-- the first rule is the same both ways round
pub compatible-sym : (p q : ℕ) → Compatible p q → Compatible q p
compatible-sym p q C k h = ⊎_elim (λ w. inr (inl w)) (λ v. ⊎_elim (λ w. inl w) (λ w. inr (inr (sym w))) v) (C k h)

-- the second is not: "each nonzero number of P equals that of Q", and a 0 of P is free
pub confined-one-way : (confined 0 0x1002 ≡ true) × (confined 0x1002 0 ≡ false) × (confined 0x1000 0x1002 ≡ true) × (confined 0x1002 0x1000 ≡ false)
unfolding confined company
confined-one-way = (refl, refl, refl, refl)

-- each class is looked at by itself: 1 and 2 compete in one class and not in two
pub classes-apart : (compatible 0x1000 0x2000 ≡ false) × (compatible 0x1000 0x0200 ≡ true) × (compatible 0x0010 0x0020 ≡ false)
    × (compatible 0x0001 0x0002 ≡ false) × (compatible 0x0100 0x0F00 ≡ false) × (compatible 0x1200 0x1234 ≡ true)
unfolding compatible company
classes-apart = (refl, refl, refl, refl, refl, refl)

-- and each class by itself confines: "each nonzero number of P equals that of Q"
pub each-class-confined : (confined 0x1000 0 ≡ false) × (confined 0x0100 0 ≡ false) × (confined 0x0010 0 ≡ false) × (confined 0x0001 0 ≡ false)
    × (confined 0x0100 0x0200 ≡ false) × (confined 0x0010 0x1230 ≡ false) × (confined 0x1234 0x1234 ≡ true)
unfolding confined company
each-class-confined = (refl, refl, refl, refl, refl, refl, refl)
