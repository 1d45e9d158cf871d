-- A test over some of the subjects: one by one, of a single subject, of all. The star property is such a test.
-- Assumes nothing.
use Prim.Native.Nat.{ℕ, ◌+◌, ◌<◌, ◌≤◌, min}
use native.Mathlib.Omega.{arith}
use mathlib.Core.Path.{◌≡◌, ap, ◌∙◌}
use mathlib.Core.Bool.{Bool, true, false, ◌&&◌}
use mathlib.Core.List.{List}
use lib.Dec.{leb, ltb}
use borrow.Author.Tests.{leb-true, le-leb, ltb-true, lt-ltb}
use Rattle.model.specs.declared.Object.{Object}
use Rattle.model.specs.Tests.{all_below, implies}
use Rattle.model.specs.Rules.{star_for, star_all}
use Rattle.model.proofs.Tests.{split, apart, bool-ext, and_left, and_right, and_both, implies-in, implies-out, below_in, below_out}
use Rattle.star.specs.Between.{between, star_between}

abbrev within : ℕ → ℕ → (ℕ → Bool) → ℕ → Bool
within low high f s = implies (leb low s && ltb s high) (f s)

pub between_in : (low high : ℕ) (f : ℕ → Bool) → ((k : ℕ) → low ≤ k → k < min high 16 → f k ≡ true) → between low high f ≡ true
unfolding between
between_in low high f h =
    below_in 16 (within low high f)
    (λ k w. implies-in _ _ (λ e.
    let p : low ≤ k = leb-true low k (and_left (leb low k) _ e) in
    let q : k < high = ltb-true k high (and_right (leb low k) _ e) in
    h k p (omega arith)))

pub between-at : (low high : ℕ) (f : ℕ → Bool) → between low high f ≡ true → (k : ℕ) → low ≤ k → k < min high 16 → f k ≡ true
unfolding between
between-at low high f t k g h =
    implies-out _ _ (below_out 16 (within low high f) t k (omega arith)) (and_both (le-leb low k g) (lt-ltb k high (omega arith)))

pub between-out : (low high : ℕ) (f : ℕ → Bool) (k : ℕ) → low ≤ k → k < min high 16 → f k ≡ false → between low high f ≡ false
between-out low high f k g h e = split (between low high f) (λ t. apart (between-at low high f t k g h) e) (λ w. w)

-- the actor alone
pub one-subject : (s : ℕ) (f : ℕ → Bool) → s < 16 → between s (s + 1) f ≡ f s
one-subject s f w =
    bool-ext (between s (s + 1) f) (f s) (λ t. between-at s (s + 1) f t s (omega arith) (omega arith))
    (λ t. between_in s (s + 1) f (λ k g h. let z : k ≡ s = omega arith in ap f z ∙ t))

-- all subjects
pub all-subjects : (f : ℕ → Bool) → between 0 16 f ≡ all_below 16 f
all-subjects f =
    bool-ext (between 0 16 f) (all_below 16 f)
    (λ t. below_in 16 f (λ k h. between-at 0 16 f t k (omega arith) (omega arith)))
    (λ t. between_in 0 16 f (λ k g h. below_out 16 f t k (omega arith)))

-- ---- the star property

pub between-one : (s : ℕ) (l : List Object) → s < 16 → star_between s (s + 1) l ≡ star_for s l
between-one s l w = one-subject s (λ (k : ℕ). star_for k l) w

pub between-all : (l : List Object) → star_between 0 16 l ≡ star_all l
unfolding star_all
between-all l = all-subjects (λ (s : ℕ). star_for s l)
