-- The wall for one subject: by the joined numbers of the objects that it has an access to, and where no object has a number.
-- Assumes nothing.
use Prim.Native.Nat.{ℕ, ◌<◌}
use native.Mathlib.Omega.{arith}
use mathlib.Core.Path.{◌≡◌, refl, sym, ap, ap₂, ◌∙◌}
use mathlib.Core.Bool.{Bool, true, false, cond, ◌&&◌}
use mathlib.Core.List.{List}
use lib.ListN.{length}
use Rattle.std.proofs.Common.{Some, None}
use borrow.Author.Tests.{eqb-true}
use Rattle.model.specs.declared.Object.{Object}
use Rattle.model.specs.Tests.{all_below, implies}
use Rattle.model.specs.Companies.{company, Compatible, Confined, compatible, confined}
use Rattle.model.specs.Modes.{any_observes, any_alters, any_held}
use Rattle.model.specs.State.{no_object, object_at, held_by}
use Rattle.model.specs.Rules.{wall_for, wall_from, wall_pair}
use Rattle.model.proofs.Tests.{bool-ext, and_left, and_right, and_both, implies-in, implies-out, below_in, below_out}
use Rattle.model.proofs.Companies.{compatible-decides, confined-decides}
use Rattle.star.specs.Lists.{Listed, itself}
use Rattle.star.proofs.Pairs.{all-below, pairs-listed}
use Rattle.wall.specs.Joined.{joined_below, every, joins, confined_to}
use Rattle.wall.specs.Lists.{unmarked, no_companies, accessed_by, numbers_at, read_at, altered_at}
use Rattle.wall.proofs.Joined.{both-confined, confined-through, joined-covers, joined-compatible, joined-confined}

-- ---- n accesses of one subject, by the four numbers of each and whether it reads and alters

module _ (n : ℕ) (g : ℕ → ℕ) (read altered : ℕ → Bool) where
  -- what the rules ask of two of them
  abbrev pub kept : ℕ → ℕ → Bool
  kept i j = compatible (g i) (g j) && implies (read i && altered j) (confined (g i) (g j))

  abbrev pub kept_below : ℕ → Bool
  kept_below i = all_below n (kept i)

  module _ (t : all_below n kept_below ≡ true) where
    two : (i j : ℕ) → i < n → j < n → kept i j ≡ true
    two i j h w = below_out n (kept i) (below_out n kept_below t i h) j w

    two-compatible : (i j : ℕ) → i < n → j < n → Compatible (g i) (g j)
    two-compatible i j h w = (compatible-decides (g i) (g j)).0 (and_left (compatible (g i) (g j)) _ (two i j h w))

    two-confined : (i j : ℕ) → i < n → j < n → read i ≡ true → altered j ≡ true → Confined (g i) (g j)
    two-confined i j h w r a =
        (confined-decides (g i) (g j)).0 (implies-out (read i && altered j) _ (and_right (compatible (g i) (g j)) _ (two i j h w)) (and_both r a))

    into-joined : (joins n g && confined_to n altered (joined_below n read g) g) ≡ true
    unfolding joins confined_to
    into-joined =
        and_both
        (below_in n _ (λ j h. (compatible-decides _ _).1 (joined-compatible every g j (g j) (λ i w u. two-compatible i j (omega arith) h))))
        (below_in n _ (λ j h. implies-in _ _ (λ a. (confined-decides _ _).1 (joined-confined read g n (g j) (λ i w r. two-confined i j w h r a)))))

  module _ (t : joins n g ≡ true) (u : confined_to n altered (joined_below n read g) g ≡ true) where
    covered : (i : ℕ) → i < n → Confined (g i) (joined_below n every g)
    unfolding joins
    covered i h =
        joined-covers every g n (λ j w v. (compatible-decides _ _).0 (below_out n (λ (j : ℕ). compatible (joined_below j every g) (g j)) t j w)) i h refl

    all-compatible : (i j : ℕ) → i < n → j < n → Compatible (g i) (g j)
    all-compatible i j h w = both-confined (g i) (g j) (joined_below n every g) (covered i h) (covered j w)

    all-confined : (i j : ℕ) → i < n → j < n → read i ≡ true → altered j ≡ true → Confined (g i) (g j)
    unfolding confined_to
    all-confined i j h w r a =
        let W = joined_below n read g in
        confined-through (g i) W (g j)
        (joined-covers read g n (λ k b v. joined-compatible read g k (g k) (λ m c x. all-compatible m k (omega arith) b)) i h r)
        ((confined-decides W (g j)).0 (implies-out _ _ (below_out n (λ (j : ℕ). implies (altered j) (confined W (g j))) u j w) a))

    out-of-joined : all_below n kept_below ≡ true
    out-of-joined =
        below_in n kept_below
        (λ i h. below_in n (kept i)
        (λ j w. and_both ((compatible-decides (g i) (g j)).1 (all-compatible i j h w))
        (implies-in _ _ (λ v. (confined-decides (g i) (g j)).1 (all-confined i j h w (and_left (read i) _ v) (and_right (read i) _ v))))))

  -- all pairs by two passes
  pub pairs-joined : all_below n kept_below ≡ (joins n g && confined_to n altered (joined_below n read g) g)
  pairs-joined =
      bool-ext _ _ into-joined (λ v. out-of-joined (and_left (joins n g) _ v) (and_right (joins n g) _ v))

-- ---- what a pass gives that may find nothing in common

pub joined-some : (b : Bool) (w r : ℕ) → Some r ≡ cond b (Some w) None → (true ≡ b) × (r ≡ w)
joined-some true w r e = (refl, cc)
joined-some false w r e = let z : ◌≡◌ {A = ℕ} 0 1 = cc in absurd (omega (arith, z))

pub joined-none : (b : Bool) (w : ℕ) → None ≡ cond b (Some w) None → b ≡ false
joined-none true w e = let z : ◌≡◌ {A = ℕ} 0 1 = cc in absurd (omega (arith, z))
joined-none false w e = refl

-- ---- one subject

module _ (s : ℕ) (l : List Object) (n : length l ≡ 64) where
  -- by the list of the objects that it has an access to: what the pass over their joined numbers found, and the one over those that it alters
  pub wall-listed : (a : List ℕ) → Listed (accessed_by s (object_at l)) itself a 64 → (fit kept : Bool) (w : ℕ)
      → fit ≡ joins (length a) (numbers_at (object_at l) a) → w ≡ joined_below (length a) (read_at s (object_at l) a) (numbers_at (object_at l) a)
      → kept ≡ confined_to (length a) (altered_at s (object_at l) a) w (numbers_at (object_at l) a) → (fit && kept) ≡ wall_for s l
  unfolding wall_for wall_from wall_pair
  wall-listed a A fit kept w f r k =
      ap₂ ◌&&◌ f (k ∙ ap (λ (v : ℕ). confined_to (length a) (altered_at s (object_at l) a) v (numbers_at (object_at l) a)) r)
      ∙ sym
      (pairs-listed (λ (p : Object). any_held (held_by p s)) (λ (p : Object). any_held (held_by p s))
      (λ (p q : Object). compatible p.companies q.companies && implies (any_observes (held_by p s) && any_alters (held_by q s)) (confined p.companies q.companies))
      l n no_object (object_at l) (λ k w. refl) a a A A
      ∙ pairs-joined (length a) (numbers_at (object_at l) a) (read_at s (object_at l) a) (altered_at s (object_at l) a))

  -- where no object has a number
  pub wall-unmarked : no_companies l ≡ true → wall_for s l ≡ true
  unfolding no_companies wall_for wall_from wall_pair compatible confined company
  wall-unmarked t =
      let none : (k : ℕ) → k < length l → (object_at l k).companies ≡ 0 = λ k h. eqb-true _ 0 (below_out 64 (unmarked l) t k (omega arith)) in
      all-below (wall_from s l) no_object l
      (λ p hp. implies-in _ _ (λ u. all-below (wall_pair s (object_at l p)) no_object l
      (λ q hq. implies-in _ _ (λ v. and_both (ap₂ compatible (none p hp) (none q hq)) (implies-in _ _ (λ w. ap₂ confined (none p hp) (none q hq)))))))
