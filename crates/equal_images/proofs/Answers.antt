-- The four answers in what tells two clearances apart, and the slot that is looked for: both are what they were.
-- Assumes nothing.
use Prim.Native.Nat.{ℕ, zero, suc, ◌<◌, ◌≤◌}
use native.Mathlib.Omega.{arith}
use mathlib.Core.Path.{◌≡◌, refl, sym, ap₂, ◌∙◌, subst}
use mathlib.Core.Bool.{Bool, true, false, cond, ◌||◌}
use mathlib.Core.List.{List, []}
use lib.Dec.{leb}
use borrow.Author.Tests.{leb-true}
use Rattle.model.specs.Levels.{Label, compare, equal_or_above, level_dominates}
use Rattle.std.specs.Prelude.{Some, None}
use Rattle.model.specs.declared.Profile.{Profile}
use Rattle.model.specs.declared.Monitor.{Monitor}
use Rattle.model.specs.declared.Comparison.{Comparison}
use Rattle.model.specs.declared.Comparison.TheVariants.{Equal, Above, Below, Apart}
use Rattle.model.specs.declared.Request.{Request}
use Rattle.model.specs.State.{object_count, widest, object}
use Rattle.model.proofs.Tests.{split}
use Rattle.model.proofs.Comparisons.{mirror, level-back}
use Rattle.telling.specs.Distinguish.{free_below, read_at, by_comparison, to_clearance}

-- what holds of the list under each answer
pub comparison-all : (P : List Request → Type 0) (c : Comparison) (x y : List Request)
    → (c ≡ Equal → P []) → (c ≡ Above → P x) → (c ≡ Below → P y) → (c ≡ Apart → P x) → P (by_comparison c x y)
comparison-all P Equal x y e a b p = e refl
comparison-all P Above x y e a b p = a refl
comparison-all P Below x y e a b p = b refl
comparison-all P Apart x y e a b p = p refl

-- by the answer as by the two tests
by_tests : (c : Comparison) (x y : List Request) → by_comparison c x y ≡ cond (equal_or_above (mirror c)) (cond (equal_or_above c) [] y) x
by_tests Equal x y = refl
by_tests Above x y = refl
by_tests Below x y = refl
by_tests Apart x y = refl

-- the list as it was chosen before there were four answers
abbrev clearance_before : Monitor → ℕ → Label → Label → List Request
clearance_before m s None b = []
clearance_before m s (Some a) None = []
clearance_before m s (Some a) (Some b) =
    cond (level_dominates b a) (cond (level_dominates a b) [] (read_at m (free_below object_count m) s b)) (read_at m (free_below object_count m) s a)

-- what tells two clearances apart is what it was
pub lists-as-before : (m : Monitor) (s : ℕ) (a b : Label) → to_clearance m s a b ≡ clearance_before m s a b
unfolding to_clearance level_dominates
lists-as-before m s None b = refl
lists-as-before m s (Some a) None = refl
lists-as-before m s (Some a) (Some b) = by_tests (compare a b) _ _ ∙ rw (level-back a b)

-- ---- the slot

-- the last object below k that is not live, as it was looked for before there was a profile
unfoldable pub free_before : ℕ → Monitor → ℕ
free_before zero m = 0
free_before (suc k) m = cond (object m k).live (free_before k m) k

slot-as-before : (k : ℕ) (m : Monitor) → k ≤ m.profile.objects → free_below k m ≡ free_before k m
unfolding free_below free_before
slot-as-before zero m h = refl
slot-as-before (suc k) m h =
    ap₂ (λ (b : Bool) (o : ℕ). cond b o k) (or-none (object m k).live (lt-leb k m.profile.objects h)) (slot-as-before k m (omega (arith, h)))
  where
    lt-leb : (a b : ℕ) → a < b → leb b a ≡ false
    lt-leb a b h = split (leb b a) (λ e. absurd (omega (arith, h, leb-true b a e))) (λ e. e)

    or-none : (a : Bool) {b : Bool} → b ≡ false → (a || b) ≡ a
    or-none true e = refl
    or-none false e = e

-- under the widest profile it is the slot that it was
pub slot-of-widest : (m : Monitor) → m.profile ≡ widest → free_below object_count m ≡ free_before object_count m
slot-of-widest m e = slot-as-before 64 m (subst (λ (p : Profile). 64 ≤ p.objects) (sym e) (omega arith))
