-- Labels ("Labels" in the scope): levels, absence, and dominance; the four answers of a comparison (change request §2).
-- Assumes nothing.
use Rattle.std.specs.Prelude.{ℕ, zero, suc, ◌/◌, ◌%◌, ◌^◌, ◌≤◌, ◌<◌, ◌≡◌, Bool, true, false, ◌&&◌, leb, eqb, Option, Some, None}
use Rattle.bits.specs.Bits.{odd}
use Rattle.model.specs.declared.Level.{Level}
use Rattle.model.specs.declared.Comparison.{Comparison}
use Rattle.model.specs.declared.Comparison.TheVariants.{Equal, Above, Below, Apart}

-- "a clearance (a label), or absent", "a label or none": a level, or none, which "differs from class 0 with the empty set"
abbrev pub Label : Type 0
Label = Option Level

-- "held as 16 bits where need k weighs 2^k": need k is in the set n
unfoldable pub need : ℕ → ℕ → Bool
need k n = odd (n / 2 ^ k)

-- "Label A dominates B when A's class is at least B's and every need of B is in A"
pub record LevelDominates (a b : Level) : Type 0 where
  pub class : b.class ≤ a.class
  pub needs : (k : ℕ) → k < 16 → need k b.needs ≡ true → need k a.needs ≡ true

-- "An absent label is none of these": it does not dominate and is not dominated
unfoldable pub Dominates : Label → Label → Type 0
Dominates None b = ⊥
Dominates (Some a) None = ⊥
Dominates (Some a) (Some b) = LevelDominates a b

-- the test of k needs, from need 0 on: each of b is in a
abbrev pub subset : ℕ → ℕ → ℕ → Bool
subset zero b a = true
subset (suc k) b a = leb (b % 2) (a % 2) && subset k (b / 2) (a / 2)

-- one direction of a comparison: whether the first dominates, as LevelDominates says it
abbrev pub at_least : Level → Level → Bool
at_least a b = leb b.class a.class && subset 16 b.needs a.needs

-- "equal, above (only A dominates), below (only B does) or apart (neither)", by whether A dominates and whether B does
abbrev pub answered : Bool → Bool → Comparison
answered true true = Equal
answered true false = Above
answered false true = Below
answered false false = Apart

-- "Comparing label A with label B": of levels, since an absent label is none of the four
unfoldable pub compare : Level → Level → Comparison
compare a b = answered (at_least a b) (at_least b a)

-- the answers under which A dominates B
abbrev pub equal_or_above : Comparison → Bool
equal_or_above Equal = true
equal_or_above Above = true
equal_or_above Below = false
equal_or_above Apart = false

-- "Every check that uses the comparison follows the new meaning": dominance of levels as the checks test it
unfoldable pub level_dominates : Level → Level → Bool
level_dominates a b = equal_or_above (compare a b)

-- the test that decides Dominates
unfoldable pub dominates : Label → Label → Bool
dominates None b = false
dominates (Some a) None = false
dominates (Some a) (Some b) = level_dominates a b

-- a label or a clearance is there
abbrev pub present : Label → Bool
present None = false
present (Some l) = true

-- the test that two labels are the same; absent is the same as absent only
unfoldable pub same_label : Label → Label → Bool
same_label None None = true
same_label None (Some b) = false
same_label (Some a) None = false
same_label (Some a) (Some b) = eqb a.class b.class && eqb a.needs b.needs
