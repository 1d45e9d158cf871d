-- The first number that passes: what a loop that goes through the numbers knows of it.
-- Assumes nothing.
use Prim.Native.Nat.{ℕ, zero, suc, ◌+◌, ◌<◌, ◌≤◌}
use native.Mathlib.Nat.{not-suc-le-zero, le_of_suc-le-suc, eq-or-lt_of_le}
use native.Mathlib.Omega.{arith}
use mathlib.Core.Path.{◌≡◌, refl, sym, ap, ◌∙◌, subst}
use mathlib.Core.Logic.{⊎_elim}
use mathlib.Core.Bool.{Bool, true, false, cond}
use lib.Dec.{ltb}
use borrow.Author.Count.{below_more}
use borrow.Author.Tests.{ltb-true, ltb-false, lt-ltb, le-ltb}
use Rattle.model.proofs.Tests.{cond-all, cond-true, cond-false, split}
use Rattle.start_order.specs.First.{first_below, found}
use Rattle.std.specs.Prelude.{Option, Some, None}

-- no number below k passes
abbrev pub NoneBelow : (ℕ → Bool) → ℕ → Type 0
NoneBelow f k = (i : ℕ) → i < k → f i ≡ false

pub none_more : (f : ℕ → Bool) (k : ℕ) → NoneBelow f k → f k ≡ false → NoneBelow f (k + 1)
none_more f k h e = below_more (λ i. f i ≡ false) k h e

pub first-none : (n : ℕ) (f : ℕ → Bool) → NoneBelow f n → first_below n f ≡ n
unfolding first_below
first-none zero f h = refl
first-none (suc n) f h =
    let before : first_below n f ≡ n = first-none n f (λ i w. h i (omega arith)) in
    let all : n ≤ first_below n f = omega arith in
    cond-false (ltb (first_below n f) n) _ _ (le-ltb _ _ all) ∙ cond-false (f n) _ _ (h n (omega arith))

pub first-at : (n k : ℕ) (f : ℕ → Bool) → NoneBelow f k → f k ≡ true → k < n → first_below n f ≡ k
unfolding first_below
first-at zero k f h e w = absurd (not-suc-le-zero w)
first-at (suc n) k f h e w =
    ⊎_elim
    (λ (p : k ≡ n).
    let before : first_below n f ≡ n = first-none n f (λ i v. h i (omega arith)) in
    let all : n ≤ first_below n f = omega arith in
    cond-false (ltb (first_below n f) n) _ _ (le-ltb _ _ all) ∙ cond-true (f n) _ _ (ap f (sym p) ∙ e) ∙ sym p)
    (λ (p : k < n).
    let before : first_below n f ≡ k = first-at n k f h e p in
    let found : first_below n f < n = omega arith in
    cond-true (ltb (first_below n f) n) _ _ (lt-ltb _ _ found) ∙ before)
    (eq-or-lt_of_le (le_of_suc-le-suc w))

-- the same where a loop counts to a number that is n
pub found_first : (n count k : ℕ) (f : ℕ → Bool) → count ≡ n → NoneBelow f k → f k ≡ true → k < count → k ≡ first_below n f
found_first n count k f c h e w = sym (first-at n k f h e (subst (λ (i : ℕ). k < i) c w))

pub ended-first : (n count k : ℕ) (f : ℕ → Bool) → count ≡ n → NoneBelow f k → count ≤ k → count ≡ first_below n f
ended-first n count k f c h w = c ∙ sym (first-none n f (λ i v. h i (omega arith)))

-- the same of a place that may be none
pub found_here : (n count k : ℕ) (f : ℕ → Bool) → count ≡ n → NoneBelow f k → f k ≡ true → k < count → Some k ≡ found n (first_below n f)
found_here n count k f c h e w =
    let at : k ≡ first_below n f = found_first n count k f c h e w in
    let within : first_below n f < n = omega (arith, sym at, c) in
    ap (λ (i : ℕ). Some i) at ∙ sym (cond-true (ltb (first_below n f) n) (Some (first_below n f)) None (lt-ltb _ _ within))

pub found_none : (n count k : ℕ) (f : ℕ → Bool) → count ≡ n → NoneBelow f k → count ≤ k → ◌≡◌ {A = Option ℕ} None (found n (first_below n f))
found_none n count k f c h w =
    let at : count ≡ first_below n f = ended-first n count k f c h w in
    let end : n ≤ first_below n f = omega (arith, sym at, c) in
    sym (cond-false (ltb (first_below n f) n) (Some (first_below n f)) None (le-ltb _ _ end))

pub found-some : (n k j : ℕ) → found n k ≡ Some j → (j ≡ k) × (j < n)
found-some n k j e =
    split (ltb k n)
    (λ t.
    let same : Some k ≡ Some j = sym (cond-true (ltb k n) (Some k) None t) ∙ e in
    let within : k < n = ltb-true k n t in
    let at : j ≡ k = cc in
    (at, omega arith))
    (λ t. let none : ◌≡◌ {A = Option ℕ} None (Some j) = sym (cond-false (ltb k n) (Some k) None t) ∙ e in absurd (let z : ◌≡◌ {A = ℕ} 0 1 = cc in omega arith))

pub found-not : (n k : ℕ) → found n k ≡ None → n ≤ k
found-not n k e =
    split (ltb k n)
    (λ t. let some : Some k ≡ None = sym (cond-true (ltb k n) (Some k) None t) ∙ e in absurd (let z : ◌≡◌ {A = ℕ} 0 1 = cc in omega arith))
    (λ t. ltb-false k n t)

-- what the first number is
pub record First (n : ℕ) (f : ℕ → Bool) (k : ℕ) : Type 0 where
  pub bound : k ≤ n
  pub none : NoneBelow f k
  pub passes : k < n → f k ≡ true

pub first-means : (n : ℕ) (f : ℕ → Bool) → First n f (first_below n f)
unfolding first_below
first-means zero f = record { bound = omega arith; none = λ i h. absurd (omega arith); passes = λ h. absurd (omega arith) }
first-means (suc n) f =
    let before : First n f (first_below n f) = first-means n f in
    cond-all (First (suc n) f) (ltb (first_below n f) n) (first_below n f) (cond (f n) n (suc n))
    (λ e.
    let found : first_below n f < n = ltb-true _ n e in
    record { bound = omega arith; none = before.none; passes = λ h. before.passes found })
    (λ e.
    let all : n ≤ first_below n f = ltb-false _ n e in
    let none : NoneBelow f n = λ i h. before.none i (omega arith) in
    cond-all (First (suc n) f) (f n) n (suc n)
    (λ t. record { bound = omega arith; none = none; passes = λ h. t })
    (λ t. record { bound = omega arith; none = λ i h. none_more f n none t i (omega arith); passes = λ h. absurd (omega arith) }))
