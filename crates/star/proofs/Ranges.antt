-- A test at each number of a range, as `all` and `any` go over it.
-- Assumes nothing.
use Prim.Native.Nat.{ℕ, zero, suc, ◌+◌, ◌-◌, ◌<◌, ◌≤◌}
use native.Mathlib.Omega.{arith}
use native.Mathlib.Nat.{eq-or-lt_of_le}
use mathlib.Core.Path.{◌≡◌, refl, sym, ap, ◌∙◌}
use mathlib.Core.Logic.{⊎_elim}
use mathlib.Core.Bool.{Bool, true, false, not, ◌||◌, ◌&&◌}
use mathlib.Core.List.{List, [], ◌∷◌}
use Rattle.std.specs.List.{list_all, list_any, range_with_len}
use Rattle.model.specs.Tests.{all_below}
use Rattle.model.proofs.Tests.{bool-ext, and_left, and_right, and_both, below_in, below_out}
use Rattle.star.specs.Between.{between}
use Rattle.star.proofs.Between.{between_in, between-at}

range-in : (f : ℕ → Bool) (n a : ℕ) → ((k : ℕ) → a ≤ k → k < a + n → f k ≡ true) → list_all f (range_with_len a n) ≡ true
range-in f zero a h = refl
range-in f (suc n) a h = and_both (h a (omega arith) (omega arith)) (range-in f n (a + 1) (λ k g w. h k (omega arith) (omega arith)))

range-out : (f : ℕ → Bool) (n a : ℕ) → list_all f (range_with_len a n) ≡ true → (k : ℕ) → a ≤ k → k < a + n → f k ≡ true
range-out f zero a t k g h = absurd (omega arith)
range-out f (suc n) a t k g h =
    ⊎_elim
    (λ (z : a ≡ k). ap f (sym z) ∙ and_left (f a) _ t)
    (λ (z : a < k). range-out f n (a + 1) (and_right (f a) _ t) k (omega arith) (omega arith))
    (eq-or-lt_of_le {n = a} {m = k} g)

-- all numbers below n
pub range-all : (f : ℕ → Bool) (n : ℕ) → list_all f (range_with_len 0 n) ≡ all_below n f
range-all f n =
    bool-ext _ _ (λ t. below_in n f (λ k h. range-out f n 0 t k (omega arith) (omega arith)))
    (λ t. range-in f n 0 (λ k g h. below_out n f t k (omega arith)))

-- some of the subjects
range-between : (f : ℕ → Bool) (low high : ℕ) → high ≤ 16 → list_all f (range_with_len low (high - low)) ≡ between low high f
range-between f low high w =
    bool-ext _ _ (λ t. between_in low high f (λ k g h. range-out f (high - low) low t k g (omega arith)))
    (λ t. range-in f (high - low) low (λ k g h. between-at low high f t k g (omega arith)))

-- one does not pass
some-fails : (f : ℕ → Bool) (xs : List ℕ) → list_any (λ k. not (f k)) xs ≡ not (list_all f xs)
some-fails f [] = refl
some-fails f (x ∷ xs) = ap (λ (b : Bool). not (f x) || b) (some-fails f xs) ∙ not-and (f x) (list_all f xs)
  where
    not-and : (a b : Bool) → (not a || not b) ≡ not (a && b)
    not-and true b = refl
    not-and false b = refl

pub range-fails : (f : ℕ → Bool) (low high : ℕ) → high ≤ 16 → list_any (λ k. not (f k)) (range_with_len low (high - low)) ≡ not (between low high f)
range-fails f low high w = some-fails f _ ∙ ap not (range-between f low high w)
