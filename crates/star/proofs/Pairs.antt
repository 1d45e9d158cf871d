-- A relation between every two objects of which the first passes one test and the second another, by the lists of those that pass.
-- Assumes nothing.
use Prim.Native.Nat.{ℕ, zero, suc, ◌<◌}
use native.Mathlib.Omega.{arith}
use mathlib.Core.Path.{◌≡◌, refl, sym, ap, ap₂, ◌∙◌}
use mathlib.Core.Bool.{Bool, true}
use mathlib.Core.List.{List, [], ◌∷◌}
use lib.ListN.{length, get_or}
use Rattle.model.specs.declared.Object.{Object}
use Rattle.model.specs.Tests.{all_below, all_of, implies}
use Rattle.model.proofs.Tests.{bool-ext, and_both, implies-in, implies-out, below_in, below_out, all-at}
use Rattle.star.specs.Lists.{Listed, itself}

-- a test passes at each element, where it passes at each index below the length
pub all-below : {A : Type 0} (f : A → Bool) (d : A) (l : List A) → ((k : ℕ) → k < length l → f (get_or l k d) ≡ true) → all_of f l ≡ true
all-below f d [] h = refl
all-below f d (x ∷ xs) h = and_both (h zero (omega arith)) (all-below f d xs (λ k w. h (suc k) (omega arith)))

-- the relation, over all objects as the rules have it
abbrev pub pairs_from : (Object → Bool) → (Object → Object → Bool) → List Object → Object → Bool
pairs_from to holds l p = all_of (λ (q : Object). implies (to q) (holds p q)) l

abbrev pub pairs_over : (Object → Bool) → (Object → Bool) → (Object → Object → Bool) → List Object → Bool
pairs_over from to holds l = all_of (λ (p : Object). implies (from p) (pairs_from to holds l p)) l

-- `at` has what the list of the objects has
module _ (from to : Object → Bool) (holds : Object → Object → Bool) (l : List Object) (n : length l ≡ 64) (d : Object) (at : ℕ → Object)
    (same : (k : ℕ) → k < 64 → get_or l k d ≡ at k) (xs ys : List ℕ)
    (A : Listed (λ k. from (at k)) itself xs 64) (B : Listed (λ k. to (at k)) itself ys 64) where
  -- every listed pair is in order
  pairs-in : ((i : ℕ) → i < length xs → (j : ℕ) → j < length ys → holds (at (get_or xs i 0)) (at (get_or ys j 0)) ≡ true) → pairs_over from to holds l ≡ true
  pairs-in h =
      all-below (λ (p : Object). implies (from p) (pairs_from to holds l p)) d l
      (λ p hp. implies-in _ _ (λ t. all-below (λ (q : Object). implies (to q) (holds (get_or l p d) q)) d l
      (λ q hq. implies-in _ _ (λ u.
      let i = A.complete p (omega arith) (ap from (sym (same p (omega arith))) ∙ t) in
      let j = B.complete q (omega arith) (ap to (sym (same q (omega arith))) ∙ u) in
      ap₂ holds (same p (omega arith)) (same q (omega arith))
      ∙ sym (ap₂ (λ (x y : ℕ). holds (at x) (at y)) i.1.1 j.1.1) ∙ h i.0 i.1.0 j.0 j.1.0))))

  -- and where all pairs are in order, those that are listed
  pairs-out : pairs_over from to holds l ≡ true → (i : ℕ) → i < length xs → (j : ℕ) → j < length ys → holds (at (get_or xs i 0)) (at (get_or ys j 0)) ≡ true
  pairs-out t i hi j hj =
      let p = A.sound i hi in
      let q = B.sound j hj in
      let first = same (get_or xs i 0) p.0 in
      let second = same (get_or ys j 0) q.0 in
      sym (ap₂ holds first second)
      ∙ implies-out _ _ (all-at (λ (q : Object). implies (to q) (holds (get_or l (get_or xs i 0) d) q)) d l
      (implies-out _ _ (all-at (λ (p : Object). implies (from p) (pairs_from to holds l p)) d l t (get_or xs i 0) (omega (arith, p.0))) (ap from first ∙ p.1))
      (get_or ys j 0) (omega (arith, q.0))) (ap to second ∙ q.1)

  -- all pairs at once
  pub pairs-listed : pairs_over from to holds l ≡ all_below (length xs) (λ i. all_below (length ys) (λ j. holds (at (get_or xs i 0)) (at (get_or ys j 0))))
  pairs-listed =
      bool-ext _ _ (λ t. below_in (length xs) _ (λ i hi. below_in (length ys) _ (λ j hj. pairs-out t i hi j hj)))
      (λ t. pairs-in (λ i hi. below_out (length ys) _ (below_out (length xs) _ t i hi)))
