-- Sums: of two in the other order, over a list in any order, and how large they are.
-- Assumes nothing.
use Prim.Native.Nat.{ℕ, zero, suc, ◌+◌, ◌*◌, ◌<◌, ◌≤◌}
use native.Mathlib.Omega.{arith}
use mathlib.Core.Path.{◌≡◌, refl, ap, ap₂, ◌∙◌}
use mathlib.Core.List.Permᴰ
use mathlib.Core.List.{List, [], ◌∷◌}
use lib.ListN.{length}
use Rattle.orders.specs.Sums.{sum_below, sum_over}
use Rattle.orders.specs.Orders.{OrderOf}

-- none, and one more
pub no-sum : (f : ℕ → ℕ) → 0 ≡ sum_below 0 f
unfolding sum_below
no-sum f = refl

pub sum_more : (n : ℕ) (f : ℕ → ℕ) → sum_below n f + f n ≡ sum_below (n + 1) f
unfolding sum_below
sum_more n f = ap (λ k. sum_below k f) (let e : suc n ≡ n + 1 = omega arith in e)

-- of functions that agree
pub sum_same : (n : ℕ) (f g : ℕ → ℕ) → ((i : ℕ) → i < n → f i ≡ g i) → sum_below n f ≡ sum_below n g
unfolding sum_below
sum_same zero f g h = refl
sum_same (suc n) f g h = omega (arith, sum_same n f g (λ i l. h i (omega arith)), h n (omega arith))

pub sum-over-same : {A : Type 0} (xs : List A) (f g : A → ℕ) → ((x : A) → f x ≡ g x) → sum_over xs f ≡ sum_over xs g
unfolding sum_over
sum-over-same [] f g h = refl
sum-over-same (x ∷ xs) f g h = ap₂ (λ (m n : ℕ). m + n) (h x) (sum-over-same xs f g h)

-- over all orders of a list: the sum is the same
pub sum-order : {A : Type 0} (f : A → ℕ) {xs ys : List A} → OrderOf xs ys → sum_over xs f ≡ sum_over ys f
unfolding sum_over
sum-order f Permᴰ.nil = refl
sum-order f (Permᴰ.cons e d) = ap₂ (λ (x y : ℕ). x + y) (ap f e) (sum-order f d)
sum-order f (Permᴰ.swap e g) = omega (arith, ap f e, ap f g)
sum-order f (Permᴰ.trans d k) = sum-order f d ∙ sum-order f k

-- two sums, added up number by number
sum_both : (n : ℕ) (f g : ℕ → ℕ) → sum_below n (λ i. f i + g i) ≡ sum_below n f + sum_below n g
unfolding sum_below
sum_both zero f g = refl
sum_both (suc n) f g = omega (arith, sum_both n f g)

sum-none : (n : ℕ) → sum_below n (λ i. 0) ≡ 0
unfolding sum_below
sum-none zero = refl
sum-none (suc n) = omega (arith, sum-none n)

-- lines and columns: the sum of the lines is the sum of the columns
pub sum-columns : {A : Type 0} (n : ℕ) (xs : List A) (f : ℕ → A → ℕ) → sum_below n (λ i. sum_over xs (f i)) ≡ sum_over xs (λ x. sum_below n (λ i. f i x))
unfolding sum_over
sum-columns n [] f = sum-none n
sum-columns n (x ∷ xs) f =
    sum_both n (λ i. f i x) (λ i. sum_over xs (f i)) ∙ ap (λ (k : ℕ). sum_below n (λ i. f i x) + k) (sum-columns n xs f)

-- each at most b, so the sum at most b for each
pub sum-below-most : (n b : ℕ) (f : ℕ → ℕ) → ((i : ℕ) → f i ≤ b) → sum_below n f ≤ b * n
unfolding sum_below
sum-below-most zero b f h = omega arith
sum-below-most (suc n) b f h = omega (arith, sum-below-most n b f h, h n)

pub sum-over-most : {A : Type 0} (xs : List A) (b : ℕ) (f : A → ℕ) → ((x : A) → f x ≤ b) → sum_over xs f ≤ b * length xs
unfolding sum_over
sum-over-most [] b f h = omega arith
sum-over-most (x ∷ xs) b f h = omega (arith, sum-over-most xs b f h, h x)
