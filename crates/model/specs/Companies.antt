-- Company numbers ("Competing heat suppliers", change request §10): four in one number, and what the numbers of two objects have to do with
-- each other.
-- Assumes nothing.
use Rattle.std.specs.Prelude.{ℕ, ◌-◌, ◌*◌, ◌/◌, ◌%◌, ◌^◌, ◌<◌, ◌≡◌, ◌⊎◌, ◌≢◌, Bool, true, ◌&&◌, ◌||◌, eqb}
use Rattle.model.specs.declared.Mode.{Mode}
use Rattle.model.specs.Tests.{all_below, implies}
use Rattle.model.specs.Modes.{observes, alters}

-- "four 4-bit company numbers, one for each conflict class"
abbrev pub conflict_classes : ℕ
conflict_classes = 4

abbrev pub company_width : ℕ
company_width = 4

-- "these 16 bits"
abbrev pub companies_width : ℕ
companies_width = conflict_classes * company_width

-- the company number of conflict class k, counted from 0, in the four of n: "first class highest"
unfoldable pub company : ℕ → ℕ → ℕ
company k n = n / 16 ^ (3 - k) % 16

-- "each class has a 0 or equal numbers"
abbrev pub Compatible : ℕ → ℕ → Type 0
Compatible p q = (k : ℕ) → k < conflict_classes → (company k p ≡ 0) ⊎ ((company k q ≡ 0) ⊎ (company k p ≡ company k q))

-- "each nonzero number of P equals that of Q"
abbrev pub Confined : ℕ → ℕ → Type 0
Confined p q = (k : ℕ) → k < conflict_classes → company k p ≢ 0 → company k p ≡ company k q

-- the tests that decide them
unfoldable pub compatible : ℕ → ℕ → Bool
compatible p q = all_below conflict_classes (λ (k : ℕ). eqb (company k p) 0 || (eqb (company k q) 0 || eqb (company k p) (company k q)))

unfoldable pub confined : ℕ → ℕ → Bool
confined p q = all_below conflict_classes (λ (k : ℕ). eqb (company k p) 0 || eqb (company k p) (company k q))

-- what the two rules of the wall ask of a subject with access x to an object with the numbers p and access y to one with q, with either
-- object as P
abbrev pub WallAsks : Mode → Mode → ℕ → ℕ → Type 0
WallAsks x y p q =
    Compatible p q × (observes x ≡ true → alters y ≡ true → Confined p q) × (observes y ≡ true → alters x ≡ true → Confined q p)

unfoldable pub wall_kept : Mode → Mode → ℕ → ℕ → Bool
wall_kept x y p q =
    compatible p q && (implies (observes x && alters y) (confined p q) && implies (observes y && alters x) (confined q p))
